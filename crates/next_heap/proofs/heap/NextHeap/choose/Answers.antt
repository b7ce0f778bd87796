use Rattle.std.proofs.Common.{rules}
use Rattle.next_heap.proofs.Chosen.{chooses}
use Rattle.next_heap.proofs.heap.NextHeap.choose.Goals as goal

pub returns : goal.returns
returns c = chooses _ _ _ _ _ (search rules) c.in_ok-free.ensures.1 c.from_start.ensures c.ok_or.ensures.value
