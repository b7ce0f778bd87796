-- What the steps of marking come to: some cells are shaded, or a grey cell is scanned, or a cell that they meet is not in use.
-- Which cells are shaded is the first thing that a definition takes.
use Rattle.std.specs.Prelude.{◌≡◌, ℕ, true, false, ◌⊎◌, Ok, Err, Result}
use Rattle.model.specs.Cells.{Cells, is_black}
use Rattle.model.specs.Heaps.{in_use}
use Rattle.model.specs.declared.refusal.Refusal.{Refusal}
use Rattle.model.specs.declared.refusal.Refusal.TheVariants.{NotInUse}
use Rattle.marking.specs.Reached.{Named}
use Rattle.marking.specs.Darkened.{is_dark}

-- each of these cells is dark now, and none has turned black
pub record Shaded (Which : ℕ → Type 0) (n : ℕ) (before after : Cells) : Type 0 where
  pub dark : (c : ℕ) → Which c → is_dark (after n c) ≡ true
  pub black : (c : ℕ) → is_black (after n c) ≡ true → is_black (before n c) ≡ true

-- cell b alone has turned black, and what its slots name is dark now
pub record Scanned (n b : ℕ) (before after : Cells) : Type 0 where
  pub dark : (c : ℕ) → Named before n b c → is_dark (after n c) ≡ true
  pub black : (c : ℕ) → is_black (after n c) ≡ true → (is_black (before n c) ≡ true) ⊎ (c ≡ b)
  pub done : is_black (after n b) ≡ true

-- one of these cells is not in use
pub record Unused (Which : ℕ → Type 0) (n : ℕ) (cells : Cells) : Type 0 where
  pub cell : ℕ
  pub which : Which cell
  pub free : in_use cells n cell ≡ false

abbrev pub Shades : {X : Type 0} → (ℕ → Type 0) → ℕ → Cells → Result X Refusal → Cells → Type 0
Shades Which n before (Ok done) after = Shaded Which n before after
Shades Which n before (Err why) after = (why ≡ NotInUse) × Unused Which n before

abbrev pub Scans : {X : Type 0} → ℕ → ℕ → Cells → Result X Refusal → Cells → Type 0
Scans n b before (Ok done) after = Scanned n b before after
Scans n b before (Err why) after = (why ≡ NotInUse) × Unused (Named before n b) n before
