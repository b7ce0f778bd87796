use mathlib.Core.Path.{fun_ext}
use Rattle.std.proofs.Common.{arith}
use Rattle.next_heap.proofs.heap.NextHeap.new.Goals as goal

pub returns-clause-starts : goal.returns-clause-starts
returns-clause-starts c = fun_ext (λ n. grind arith)
