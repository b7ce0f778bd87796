use Rattle.std.proofs.Common.{arith}
use Rattle.model.specs.Cells.{blackened}
use Rattle.last_heap.proofs.Stacked.{goes}
use Rattle.last_heap.proofs.heap.cells.LastHeapHeap.blacken.Goals as goal

pub invariant_of-self-2-clause-reached : goal.invariant_of-self-2-clause-reached
invariant_of-self-2-clause-reached c = goes c.args.self.now.reached _ c.args.cell blackened c.in_ok-blacken.ensures.1 (grind arith) c.remove.ensures
