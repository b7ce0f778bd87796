-- What holds when the top free cell is made.
use Rattle.std.proofs.Common.{◌≡◌, ℕ, ◌<◌, true, false, cond, ◌&&◌, ltb, List, [], length, refl, ap, ◌∙◌, arith}
use Rattle.std.proofs.lemmas.Bool.Decides.{nat_tests}
use Rattle.model.specs.Tables.{put₂}
use Rattle.model.specs.Cells.{Cells, empty_slots, is_free, is_grey}
use Rattle.model.specs.Cells.Cell.{free, used}
use Rattle.model.specs.Heaps.{some_free, Made}
use Rattle.model.specs.declared.colour.Colour.{Colour}
use Rattle.model.proofs.Puts.{put_here}
use Rattle.model.proofs.Firsts.{first_found, first_is_some}
use Rattle.model.proofs.Colours.{from_free}
use Rattle.cell_list.proofs.Counted.{times_push}
use Rattle.table.specs.Tables.{cells_of, shows_grey}
use Rattle.table.specs.declared.table.Table.{Table}
use Rattle.last_heap.specs.Stacks.{stack, on_top, Stacked}
use Rattle.last_heap.specs.Last.{last_cells, frees, greys}
use Rattle.last_heap.specs.declared.heap.LastHeap.{LastHeap}
use Rattle.last_heap.specs.declared.heap.node.Node.{Node}
use Rattle.last_heap.specs.declared.heap.stacks.Stacks.{Stacks}
use Rattle.last_heap.proofs.Stacked.{pops, has_room, top_passes, none_passes}

-- where the stack is empty no cell is free
pub none_free : (cells : Cells) (n : ℕ) (frees : ℕ → List ℕ) → n < 16 → frees n ≡ [] → Stacked is_free cells frees → some_free cells n ≡ false
none_free cells n frees near none unused = grind (arith, first_found 64 (λ c. is_free (cells n c)), none_passes unused n near none)

-- what follows once cell c of node n is taken from the stack and into use
pub record Making (heap : LastHeap) (n : ℕ) (colour : Colour) (rest : Stacks) (c : ℕ) (after : Table) : Type 0 where
  pub made : (some_free (last_cells heap) n ≡ true) × Made (last_cells heap) n colour (cells_of after) c
  pub unused : Stacked is_free (cells_of after) (stack rest)
  pub room : length (greys heap n) < 64
  pub reached : {others : ℕ → List ℕ} → others ≡ cond (shows_grey colour) (on_top (greys heap) n c) (greys heap) → Stacked is_grey (cells_of after) others

pub making : (heap : LastHeap) (node : Node) (colour : Colour) (rest : Stacks) (c : ℕ) (after : Table)
    → frees heap ≡ on_top (stack rest) node.number c
    → cells_of after ≡ cond (ltb node.number 16 && ltb c 64) (put₂ (last_cells heap) node.number c (used colour empty_slots)) (last_cells heap)
    → Making heap node.number colour rest c after
making heap node colour rest c after top occupied =
    let n = node.number in
    let cells = last_cells heap in
    let passes = top_passes heap.unused n node.near (stack rest n) c (ap (λ f. f n) top ∙ put_here (stack rest) n _) in
    let was_free : cells n c ≡ free = from_free (cells n c) passes.1 in
    let made : cells_of after ≡ put₂ cells n c (used colour empty_slots) = grind (arith, nat_tests, node.near) in
    record {
      made = (first_is_some 64 (λ k. is_free (cells n k)) c passes.0 passes.1, record { low = passes.0; was_free = was_free; cells = made });
      unused = pops heap.unused n c (λ _. used colour empty_slots) made (stack rest) refl top;
      room = has_room heap.reached n node.near c passes.0 (grind arith);
      reached = λ {others} is. record { once = λ m near d. grind (arith, nat_tests, heap.reached.once m near d, times_push d (greys heap n) c) };
    }
