-- Which cells of a node are reached: those held, those grey already, and those that a slot of a reached cell names.
-- The slots of a cell that is black already are not followed, nor is what names a cell of another node.
use Rattle.std.specs.Prelude.{◌≡◌, ℕ, ◌<◌, true, false, ◌⊎◌, List, Some, None, slice_index_or}
use Rattle.std.specs.List.{Contains}
use Rattle.model.specs.Cells.{Cells, slots_of, is_grey, is_black}
use Rattle.model.specs.References.{Names}
use Rattle.model.specs.declared.reference.Reference.{Reference}

-- one of the roots names cell c of node n
pub record Held (n : ℕ) (roots : List Reference) (c : ℕ) : Type 0 where
  pub reference : Reference
  pub stands : Contains roots reference
  pub names : Names n c reference

-- one of the slots of cell b names cell c, both of node n
pub record Named (cells : Cells) (n b c : ℕ) : Type 0 where
  pub slot : ℕ
  pub reference : Reference
  pub holds : slice_index_or (slots_of (cells n b)) slot None ≡ Some reference
  pub names : Names n c reference

-- cell b itself, and what its slots name
abbrev pub Around : Cells → ℕ → ℕ → ℕ → Type 0
Around cells n b c = (c ≡ b) ⊎ Named cells n b c

pub data Reached (cells : Cells) (n : ℕ) (roots : List Reference) : ℕ → Type 0 where
  held : {c : ℕ} → Held n roots c → Reached cells n roots c
  grey : {c : ℕ} → c < 64 → is_grey (cells n c) ≡ true → Reached cells n roots c
  slot : {b c : ℕ} → Reached cells n roots b → is_black (cells n b) ≡ false → Named cells n b c → Reached cells n roots c
