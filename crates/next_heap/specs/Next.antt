-- The choices of a heap that goes round: each node has a cell to start from, and the next free cell is made.
-- Of grey cells the lowest is answered.
use Rattle.std.specs.Prelude.{◌≡◌, ℕ, ◌+◌, ◌<◌, ◌&&◌, Some, Ok, Err, Option, Result, nat_le, slice_index}
use Rattle.model.specs.Tables.{put, first, or_else}
use Rattle.model.specs.Cells.{Cell, Cells, is_free, is_grey}
use Rattle.model.specs.Cells.Cell.{free}
use Rattle.model.specs.declared.refusal.Refusal.{Refusal}
use Rattle.table.specs.Tables.{cells_of}
use Rattle.next_heap.specs.declared.heap.NextHeap.{NextHeap}

abbrev pub next_cells : NextHeap → Cells
next_cells heap = cells_of heap.table

-- where each node starts to look
abbrev pub starts : NextHeap → ℕ → ℕ
starts heap n = slice_index heap.start n

abbrev pub at_zero : ℕ → ℕ
at_zero n = 0

-- the first free cell from start on, going round
abbrev pub next_free : (ℕ → Cell) → ℕ → Option ℕ
next_free row start = or_else (first 64 (λ c. nat_le start c && is_free (row c))) (first 64 (λ c. is_free (row c)))

abbrev pub lowest_grey : (ℕ → Cell) → Option ℕ
lowest_grey row = first 64 (λ c. is_grey (row c))

-- cell c, which is free, is the next of node n
abbrev pub NextFree : NextHeap → ℕ → ℕ → Type 0
NextFree heap n c = (next_free (next_cells heap n) (starts heap n) ≡ Some c) × (c < 64) × (next_cells heap n c ≡ free)

-- the cell that is made, and where the node starts then
abbrev pub MakesNext : NextHeap → ℕ → Result ℕ Refusal → NextHeap → Type 0
MakesNext before n (Ok c) after = (next_free (next_cells before n) (starts before n) ≡ Some c) × (starts after ≡ put (starts before) n (c + 1))
MakesNext before n (Err why) after = after ≡ before

abbrev pub AnswersLowest : NextHeap → ℕ → Result (Option ℕ) Refusal → Type 0
AnswersLowest heap n (Ok c) = c ≡ lowest_grey (next_cells heap n)
AnswersLowest heap n (Err why) = Unit {0}
