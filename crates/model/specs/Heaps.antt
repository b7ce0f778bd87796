-- What each call of a heap is asked, and what it does to the cells where it is granted.
-- Which free cell is made and which grey cell is answered is left open.
use Rattle.std.specs.Prelude.{◌≡◌, ℕ, ◌<◌, Bool, true, false, ◌&&◌, [], ◌∷◌, Some, None, Option, Result, nat_lt, slice_index_or}
use Rattle.model.specs.Tables.{put₂, first, is_some}
use Rattle.model.specs.Refusals.{Questions, Answers}
use Rattle.model.specs.Cells.{Cell, Cells, empty_slots, slots_of, is_free, is_used, is_grey, written, shaded, blackened, change, reclaim, freed_count, kept_count}
use Rattle.model.specs.Cells.Cell.{free, used}
use Rattle.model.specs.declared.colour.Colour.{Colour}
use Rattle.model.specs.declared.tally.Tally.{Tally}
use Rattle.model.specs.declared.reference.Reference.{Reference}
use Rattle.model.specs.declared.refusal.Refusal.{Refusal}
use Rattle.model.specs.declared.refusal.Refusal.TheVariants.{NoSuchNode, NoSuchSlot, NoFreeCell, NotInUse, NotGrey}

abbrev pub in_use : Cells → ℕ → ℕ → Bool
in_use cells n c = nat_lt c 64 && is_used (cells n c)

abbrev pub some_free : Cells → ℕ → Bool
some_free cells n = is_some (first 64 (λ c. is_free (cells n c)))

-- the questions, in order: is there such a node, such a slot, a free cell; is the cell in use; is it grey
abbrev pub node_asks : ℕ → Questions
node_asks n = (NoSuchNode, nat_lt n 16) ∷ []

abbrev pub make_asks : Cells → ℕ → Questions
make_asks cells n = (NoSuchNode, nat_lt n 16) ∷ (NoFreeCell, some_free cells n) ∷ []

abbrev pub cell_asks : Cells → ℕ → ℕ → Questions
cell_asks cells n c = (NoSuchNode, nat_lt n 16) ∷ (NotInUse, in_use cells n c) ∷ []

abbrev pub slot_asks : Cells → ℕ → ℕ → ℕ → Questions
slot_asks cells n c i = (NoSuchNode, nat_lt n 16) ∷ (NoSuchSlot, nat_lt i 4) ∷ (NotInUse, in_use cells n c) ∷ []

abbrev pub blacken_asks : Cells → ℕ → ℕ → Questions
blacken_asks cells n c = (NoSuchNode, nat_lt n 16) ∷ (NotInUse, in_use cells n c) ∷ (NotGrey, is_grey (cells n c)) ∷ []

-- some free cell c of node n is in use now, with empty slots
pub record Made (before : Cells) (n : ℕ) (colour : Colour) (after : Cells) (c : ℕ) : Type 0 where
  pub low : c < 64
  pub was_free : before n c ≡ free
  pub cells : after ≡ put₂ before n c (used colour empty_slots)

abbrev pub Coloured : Cell → Colour → Type 0
Coloured cell colour = cell ≡ used colour (slots_of cell)

-- some grey cell of node n, or none exactly where it has none
abbrev pub GreyCell : Cells → ℕ → Option ℕ → Type 0
GreyCell cells n None = (c : ℕ) → c < 64 → is_grey (cells n c) ≡ false
GreyCell cells n (Some c) = (c < 64) × (is_grey (cells n c) ≡ true)

-- the cells of node n are reclaimed; the answer is how many were freed and how many kept
pub record Reclaimed (before : Cells) (n : ℕ) (after : Cells) (counts : Tally) : Type 0 where
  pub cells : after ≡ reclaim before n
  pub freed : counts.freed ≡ freed_count before n
  pub kept : counts.kept ≡ kept_count before n

-- what each call means of a heap whose cells are given by `cells`: before the call, its arguments, its answer, and the heap after it
module _ {S : Type 0} (cells : S → Cells) where
  abbrev pub Makes : S → ℕ → Colour → Result ℕ Refusal → S → Type 0
  Makes before n colour r after = Answers (make_asks (cells before) n) r (after ≡ before) (Made (cells before) n colour (cells after))

  abbrev pub ReadsSlot : S → ℕ → ℕ → ℕ → Result (Option Reference) Refusal → Type 0
  ReadsSlot heap n c i r = Answers (slot_asks (cells heap) n c i) r (Unit {0}) (λ what. what ≡ slice_index_or (slots_of (cells heap n c)) i None)

  abbrev pub WritesSlot : S → ℕ → ℕ → ℕ → Option Reference → Result Unit Refusal → S → Type 0
  WritesSlot before n c i what r after =
      Answers (slot_asks (cells before) n c i) r (after ≡ before) (λ _. cells after ≡ change (written i what) (cells before) n c)

  abbrev pub ReadsColour : S → ℕ → ℕ → Result Colour Refusal → Type 0
  ReadsColour heap n c r = Answers (cell_asks (cells heap) n c) r (Unit {0}) (Coloured (cells heap n c))

  abbrev pub Shades : S → ℕ → ℕ → Result Unit Refusal → S → Type 0
  Shades before n c r after = Answers (cell_asks (cells before) n c) r (after ≡ before) (λ _. cells after ≡ change shaded (cells before) n c)

  abbrev pub Blackens : S → ℕ → ℕ → Result Unit Refusal → S → Type 0
  Blackens before n c r after = Answers (blacken_asks (cells before) n c) r (after ≡ before) (λ _. cells after ≡ change blackened (cells before) n c)

  abbrev pub AnswersGrey : S → ℕ → Result (Option ℕ) Refusal → Type 0
  AnswersGrey heap n r = Answers (node_asks n) r (Unit {0}) (GreyCell (cells heap) n)

  abbrev pub Reclaims : S → ℕ → Result Tally Refusal → S → Type 0
  Reclaims before n r after = Answers (node_asks n) r (after ≡ before) (Reclaimed (cells before) n (cells after))
