use Rattle.cell_set.specs.Sets.{has}
use Rattle.last_heap.proofs.Stacked.{freed_room, reclaims_free, reclaims_grey}
use Rattle.last_heap.proofs.heap.cells.LastHeapHeap.reclaim.Goals as goal

pub push_each-requires : goal.push_each-requires
push_each-requires c = freed_room c.args.self.now.unused _ (has c.in_ok-white.white) c.in_ok-white.ensures.1 c.in_ok-node.node.near

pub invariant_of-self-2 : goal.invariant_of-self-2
invariant_of-self-2 c = record {
  unused = reclaims_free c.args.self.now.unused _ (has c.in_ok-white.white) c.in_ok-white.ensures.1 c.in_ok-counts.ensures.1.cells c.push_each.ensures;
  reached = reclaims_grey c.args.self.now.reached _ c.in_ok-counts.ensures.1.cells c.clear.ensures;
}
