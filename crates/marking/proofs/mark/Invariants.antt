use Rattle.cell_list.specs.Lists.{listed}
use Rattle.marking.proofs.Listing.{Listing}
use Rattle.marking.proofs.Marking.{Marking, left_count}
use Rattle.marking.proofs.mark.Given as goal

abbrev pub invariant-loop-cell : goal.invariant-loop-cell
invariant-loop-cell g l = record {
  marking : Marking l.node l.roots (g.H.Heap.cells l.fn.heap) (g.H.Heap.cells l.heap);
  listing : Listing l.node (g.H.Heap.cells l.fn.heap) (g.H.Heap.cells l.heap) (listed l.scanned);
}

abbrev pub decreases-loop-cell : goal.decreases-loop-cell
decreases-loop-cell g l = left_count l.node (g.H.Heap.cells l.heap)
