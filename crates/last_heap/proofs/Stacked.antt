-- Stacks that have each cell that passes once, where one cell changes or one node is reclaimed.
use Rattle.std.proofs.Common.{◌≡◌, ℕ, ◌<◌, ◌≤◌, Bool, true, false, ◌&&◌, ltb, List, [], ◌∷◌, ◌++◌, length, Ok, Err, Option, Result, arith}
use Rattle.std.proofs.lemmas.Bool.Decides.{nat_tests}
use Rattle.model.specs.Tables.{put, put₂}
use Rattle.model.specs.Cells.{Cell, Cells, all_free, is_free, is_grey, is_white, written, reclaimed, change, reclaim}
use Rattle.model.specs.Heaps.{WritesSlot}
use Rattle.model.specs.declared.reference.Reference.{Reference}
use Rattle.model.specs.declared.refusal.Refusal.{Refusal}
use Rattle.cell_list.specs.Lists.{Once, without}
use Rattle.cell_list.proofs.Counted.{times_push, times_without, times_append, short, room}
use Rattle.table.specs.Tables.{cells_of}
use Rattle.table.specs.declared.table.Table.{Table}
use Rattle.last_heap.specs.Stacks.{stack, at_nodes, on_top, falling, rising, Stacked}
use Rattle.last_heap.specs.declared.heap.LastHeap.{LastHeap}
use Rattle.last_heap.proofs.Ranges.{once_falling, once_rising}

-- cell c passes
abbrev passing : (Cell → Bool) → (ℕ → Cell) → ℕ → Bool
passing test row c = ltb c 64 && test (row c)

-- which is put as the cell is
passing_put : (test : Cell → Bool) (row : ℕ → Cell) (c : ℕ) (v : Cell) (b : Bool) → (ltb c 64 && test v) ≡ b → (d : ℕ) → put (passing test row) c b d ≡ passing test (put row c v) d
passing_put test row c v b e d = grind (arith, nat_tests)

module _ {test : Cell → Bool} {cells : Cells} {stacks : ℕ → List ℕ} (old : Stacked test cells stacks) (n : ℕ) where
  -- the cells and the stack of node n change
  stacked_at : (row : ℕ → Cell) (others : ℕ → List ℕ) → Once (passing test row) (others n) → ((m : ℕ) → (m ≡ n → ⊥) → stacks m ≡ others m) → Stacked test (put cells n row) others
  stacked_at row others here there = record { once = λ m near d. grind (arith, nat_tests, here d, there m, old.once m near d) }

  -- cell c passes as before
  pub stacked_same : (c : ℕ) (v : Cell) → test v ≡ test (cells n c) → Stacked test (put₂ cells n c v) stacks
  stacked_same c v same = record { once = λ m near d. grind (arith, nat_tests, old.once m near d) }

  -- cell c changes
  module _ (c : ℕ) (f : Cell → Cell) {after : Cells} (changed : after ≡ change f cells n c) where
    -- and passes now, and comes on top
    pub comes : {others : ℕ → List ℕ} → c < 64 → test (cells n c) ≡ false → test (f (cells n c)) ≡ true → others ≡ on_top stacks n c → Stacked test after others
    comes low failed passes is = record { once = λ m near d. grind (arith, nat_tests, old.once m near d, times_push d (stacks n) c) }

    -- and passes no more, and is taken out from where it stood
    pub goes : {others : ℕ → List ℕ} → test (f (cells n c)) ≡ false → others ≡ put stacks n (without c (stacks n)) → Stacked test after others
    goes fails is = record { once = λ m near d. grind (arith, nat_tests, old.once m near d, times_without d c (stacks n)) }

    -- and passes no more, and is taken from the top
    pub pops : (others : ℕ → List ℕ) → test (f (cells n c)) ≡ false → stacks ≡ on_top others n c → Stacked test after others
    pops others fails top = record { once = λ m near d. grind (arith, nat_tests, old.once m near d, times_push d (others n) c) }

  module _ (near : n < 16) where
    -- the top cell passes
    pub top_passes : (older : List ℕ) (c : ℕ) → stacks n ≡ older ++ (c ∷ []) → (c < 64) × (test (cells n c) ≡ true)
    top_passes older c e = grind (arith, nat_tests, old.once n near c, times_push c older c)

    -- no cell of an empty stack passes
    pub none_passes : stacks n ≡ [] → (c : ℕ) → c < 64 → test (cells n c) ≡ false
    none_passes e c low = grind (arith, nat_tests, old.once n near c)

    -- a cell that does not pass has room
    pub has_room : (c : ℕ) → c < 64 → test (cells n c) ≡ false → length (stacks n) < 64
    has_room c low failed = room 64 (stacks n) (λ k. test (cells n k)) (old.once n near) c low failed

-- a slot is written, which changes no test, or nothing is
pub stacked_written : (test : Cell → Bool) (t after : Table) (n c i : ℕ) (what : Option Reference) (r : Result Unit Refusal) (stacks : ℕ → List ℕ) → ((x : Cell) → test (written i what x) ≡ test x) → WritesSlot cells_of t n c i what r after → Stacked test (cells_of t) stacks → Stacked test (cells_of after) stacks
stacked_written test t after n c i what (Ok _) stacks same granted old =
    rw granted.1 (stacked_same old n c (written i what (cells_of t n c)) (same (cells_of t n c)))
stacked_written test t after n c i what (Err why) stacks same refused old = rw refused.1 old

-- the table is as it was
pub same_stacked : (heap : LastHeap) (t : Table) → t ≡ heap.table → Stacked is_free (cells_of t) (stack heap.free) × Stacked is_grey (cells_of t) (stack heap.grey)
same_stacked heap t same = rw same (heap.unused, heap.reached)

-- a new heap
pub begins_free : {cells : Cells} {stacks : ℕ → List ℕ} → cells ≡ all_free → stacks ≡ at_nodes (falling 64) → Stacked is_free cells stacks
begins_free cells_are stacks_are = record { once = λ n near c. grind (arith, nat_tests, once_falling 64 c) }

pub begins_grey : {cells : Cells} {stacks : ℕ → List ℕ} → cells ≡ all_free → stacks ≡ at_nodes [] → Stacked is_grey cells stacks
begins_grey cells_are stacks_are = record { once = λ n near c. grind (arith, nat_tests) }

-- of both kinds of stack
pub begins : {cells : Cells} {frees greys : ℕ → List ℕ} → cells ≡ all_free → frees ≡ at_nodes (falling 64) → greys ≡ at_nodes [] → Stacked is_free cells frees × Stacked is_grey cells greys
begins cells_are frees_are greys_are = (begins_free cells_are frees_are, begins_grey cells_are greys_are)

-- the white cells of node n come on top of its free ones
module _ {cells : Cells} {stacks : ℕ → List ℕ} (old : Stacked is_free cells stacks) (n : ℕ) (white : ℕ → Bool) (is_white_at : (c : ℕ) → white c ≡ is_white (cells n c)) where
  -- and each cell of the node that is free after a reclaim stands there once
  once_freed : n < 16 → Once (λ c. ltb c 64 && is_free (reclaimed (cells n c))) (stacks n ++ rising 64 white)
  once_freed near c = grind (arith, nat_tests, old.once n near c, times_append c (stacks n) (rising 64 white), once_rising 64 white c, is_white_at c)

  pub reclaims_free : {after : Cells} {others : ℕ → List ℕ} → after ≡ reclaim cells n → others ≡ put stacks n (stacks n ++ rising 64 white) → Stacked is_free after others
  reclaims_free reclaimed_now is = record { once = λ m near c. grind (arith, nat_tests, old.once m near c, λ (low : n < 16). once_freed low c) }

  pub freed_room : n < 16 → length (stacks n ++ rising 64 white) ≤ 64
  freed_room near = short 64 (stacks n ++ rising 64 white) (λ c. is_free (reclaimed (cells n c))) (once_freed near)

pub reclaims_grey : {cells after : Cells} {stacks others : ℕ → List ℕ} → Stacked is_grey cells stacks → (n : ℕ) → after ≡ reclaim cells n → others ≡ put stacks n [] → Stacked is_grey after others
reclaims_grey old n reclaimed_now is = record { once = λ m near c. grind (arith, nat_tests, old.once m near c) }
