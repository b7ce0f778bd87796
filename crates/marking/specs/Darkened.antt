-- What marking does at most: on node n the colours of some cells darken, and nothing else changes.
-- Which cells these are is the first thing that the definition takes.
use Rattle.std.specs.Prelude.{◌≡◌, ℕ, Bool, true, false, ◌⊎◌, ◌≢◌}
use Rattle.model.specs.Cells.{Cell, Cells, slots_of, is_used, is_black}
use Rattle.model.specs.Cells.Cell.{free, used}
use Rattle.model.specs.declared.colour.Colour.TheVariants.{White, Grey, Black}

-- grey or black
abbrev pub is_dark : Cell → Bool
is_dark free = false
is_dark (used White slots) = false
is_dark (used Grey slots) = true
is_dark (used Black slots) = true

pub record Darkened (Which : ℕ → Type 0) (n : ℕ) (before after : Cells) : Type 0 where
  pub others : (m : ℕ) → (m ≢ n) → after m ≡ before m
  pub slots : (c : ℕ) → slots_of (after n c) ≡ slots_of (before n c)
  pub used : (c : ℕ) → is_used (after n c) ≡ is_used (before n c)
  pub dark : (c : ℕ) → is_dark (before n c) ≡ true → is_dark (after n c) ≡ true
  pub black : (c : ℕ) → is_black (before n c) ≡ true → is_black (after n c) ≡ true
  pub only : (c : ℕ) → (after n c ≡ before n c) ⊎ Which c
