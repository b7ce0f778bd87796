use Rattle.std.proofs.Common.{arith}
use Rattle.last_heap.proofs.Stacked.{begins_free, begins_grey}
use Rattle.last_heap.proofs.heap.LastHeap.new.Goals as goal

pub invariant_of-result : goal.invariant_of-result
invariant_of-result c = record { unused = begins_free c.new.ensures (grind arith); reached = begins_grey c.new.ensures (grind arith) }
