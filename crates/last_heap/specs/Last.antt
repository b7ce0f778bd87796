-- The choices of a heap that makes the cell freed last: each node has a stack of its free cells and one of its grey cells.
-- The cell on top, which is last, is the one that is made, or the grey cell that is answered.
use Rattle.std.specs.Prelude.{◌≡◌, ℕ, true, false, cond, List, [], ◌++◌, Some, None, Ok, Err, Option, Result}
use Rattle.model.specs.Tables.{put}
use Rattle.model.specs.Cells.{Cell, Cells, is_white}
use Rattle.model.specs.Heaps.{some_free, Made}
use Rattle.model.specs.declared.colour.Colour.{Colour}
use Rattle.model.specs.declared.refusal.Refusal.{Refusal}
use Rattle.model.specs.declared.tally.Tally.{Tally}
use Rattle.cell_list.specs.Lists.{without, Newest}
use Rattle.table.specs.Tables.{cells_of, shows_grey}
use Rattle.last_heap.specs.Stacks.{stack, at_nodes, on_top, falling, rising}
use Rattle.last_heap.specs.declared.heap.LastHeap.{LastHeap}

abbrev pub last_cells : LastHeap → Cells
last_cells heap = cells_of heap.table

-- the stack of free cells of each node, and the stack of grey ones
abbrev pub frees : LastHeap → ℕ → List ℕ
frees heap = stack heap.free

abbrev pub greys : LastHeap → ℕ → List ℕ
greys heap = stack heap.grey

-- 63 down to 0
abbrev pub all_cells : List ℕ
all_cells = falling 64

-- the cells that a reclaim frees, the lowest first
abbrev pub freed_cells : (ℕ → Cell) → List ℕ
freed_cells row = rising 64 (λ c. is_white (row c))

-- every cell is free, the lowest on top
abbrev pub Begins : LastHeap → Type 0
Begins heap = (frees heap ≡ at_nodes all_cells) × (greys heap ≡ at_nodes [])

-- no stack changes
abbrev pub Stays : LastHeap → LastHeap → Type 0
Stays before after = (frees after ≡ frees before) × (greys after ≡ greys before)

-- cell c of node n, the top free cell, is made; made grey, it is the newest grey cell
abbrev pub MadeLast : LastHeap → ℕ → Colour → ℕ → LastHeap → Type 0
MadeLast before n colour c after =
    (frees before ≡ on_top (frees after) n c) × (greys after ≡ cond (shows_grey colour) (on_top (greys before) n c) (greys before))

abbrev pub MakesLast : LastHeap → ℕ → Colour → Result ℕ Refusal → LastHeap → Type 0
MakesLast before n colour (Ok c) after = MadeLast before n colour c after
MakesLast before n colour (Err why) after = after ≡ before

-- a free cell is taken into use, or none is free
abbrev pub TakesFree : LastHeap → ℕ → Colour → Option ℕ → LastHeap → Type 0
TakesFree before n colour None after = some_free (last_cells before) n ≡ false
TakesFree before n colour (Some c) after = (some_free (last_cells before) n ≡ true) × Made (last_cells before) n colour (last_cells after) c

-- it is the top free cell, or all stays
abbrev pub TakesLast : LastHeap → ℕ → Colour → Option ℕ → LastHeap → Type 0
TakesLast before n colour None after = after ≡ before
TakesLast before n colour (Some c) after = MadeLast before n colour c after

-- a white cell becomes the newest grey cell
abbrev pub ShadesLast : LastHeap → ℕ → ℕ → Result Unit Refusal → LastHeap → Type 0
ShadesLast before n c (Ok _) after =
    (frees after ≡ frees before) × (greys after ≡ cond (is_white (last_cells before n c)) (on_top (greys before) n c) (greys before))
ShadesLast before n c (Err why) after = after ≡ before

-- the cell is taken out wherever it stands
abbrev pub BlackensLast : LastHeap → ℕ → ℕ → Result Unit Refusal → LastHeap → Type 0
BlackensLast before n c (Ok _) after = (frees after ≡ frees before) × (greys after ≡ put (greys before) n (without c (greys before n)))
BlackensLast before n c (Err why) after = after ≡ before

-- the newest grey cell, or none where there is none
abbrev pub AnswersNewest : LastHeap → ℕ → Result (Option ℕ) Refusal → Type 0
AnswersNewest heap n (Ok c) = Newest (greys heap n) c
AnswersNewest heap n (Err why) = Unit {0}

-- the freed cells come on top, the highest last, and no cell of the node is grey
abbrev pub ReclaimsLast : LastHeap → ℕ → Result Tally Refusal → LastHeap → Type 0
ReclaimsLast before n (Ok counts) after =
    (frees after ≡ put (frees before) n (frees before n ++ freed_cells (last_cells before n))) × (greys after ≡ put (greys before) n [])
ReclaimsLast before n (Err why) after = after ≡ before
