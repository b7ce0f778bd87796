-- The cells of one node, as its row holds them, and what a call on them is asked.
-- A look past the end of an array gives empty slots.
use Rattle.std.specs.Prelude.{◌≡◌, ℕ, Bool, cond, ◌&&◌, List, [], ◌∷◌, None, Option, Result, nat_lt, slice_index_or}
use Rattle.model.specs.Refusals.{Questions, Answers}
use Rattle.model.specs.Tables.{put}
use Rattle.model.specs.Cells.{Cell, empty_slots, is_used, is_grey}
use Rattle.model.specs.Cells.Cell.{free, used}
use Rattle.model.specs.declared.colour.Colour.{Colour}
use Rattle.model.specs.declared.colour.Colour.TheVariants.{White, Grey, Black}
use Rattle.model.specs.declared.reference.Reference.{Reference}
use Rattle.model.specs.declared.refusal.Refusal.{Refusal}
use Rattle.model.specs.declared.refusal.Refusal.TheVariants.{NoSuchSlot, NotInUse, NotGrey}
use Rattle.cell_set.specs.Sets.{has}
use Rattle.table.specs.declared.row.Row.{Row}
use Rattle.table.specs.declared.slots.Slots.{Slots}

-- the slots of a cell, in order
unfoldable pub four : Slots → List (Option Reference)
four slots = slice_index_or slots.held 0 None ∷ slice_index_or slots.held 1 None ∷ slice_index_or slots.held 2 None ∷ slice_index_or slots.held 3 None ∷ []

abbrev pub no_slots : Slots
no_slots = record { held = empty_slots }

abbrev pub slots_at : Row → ℕ → List (Option Reference)
slots_at row c = four (slice_index_or row.slots c no_slots)

abbrev pub colour_of : Bool → Bool → Colour
colour_of black grey = cond black Black (cond grey Grey White)

abbrev pub cell_of : Bool → Bool → Bool → List (Option Reference) → Cell
cell_of is_free black grey slots = cond is_free free (used (colour_of black grey) slots)

-- a number that is no cell's is free
unfoldable pub row_cells : Row → ℕ → Cell
row_cells row c = cond (nat_lt c 64) (cell_of (has row.free c) (has row.black c) (has row.grey c) (slots_at row c)) free

-- the questions on a node's cells, in order: is there such a slot; is the cell in use; is it grey
abbrev pub in_use_here : (ℕ → Cell) → ℕ → Bool
in_use_here cells c = nat_lt c 64 && is_used (cells c)

abbrev pub use_asks : (ℕ → Cell) → ℕ → Questions
use_asks cells c = (NotInUse, in_use_here cells c) ∷ []

abbrev pub row_slot_asks : (ℕ → Cell) → ℕ → ℕ → Questions
row_slot_asks cells c i = (NoSuchSlot, nat_lt i 4) ∷ use_asks cells c

abbrev pub grey_asks : (ℕ → Cell) → ℕ → Questions
grey_asks cells c = (NotInUse, in_use_here cells c) ∷ (NotGrey, is_grey (cells c)) ∷ []

-- what a call means that is asked this and changes cell c by f
abbrev pub Changes : Questions → (Cell → Cell) → Row → ℕ → Result Unit Refusal → Row → Type 0
Changes questions f before c r after = Answers questions r (after ≡ before) (λ _. row_cells after ≡ put (row_cells before) c (f (row_cells before c)))
