use Rattle.std.proofs.Common.{◌≡◌, ◌++◌}
use Rattle.cell_list.specs.Lists.{listed}
use Rattle.cell_set.specs.Sets.{has}
use Rattle.last_heap.specs.Stacks.{rising}
use Rattle.last_heap.proofs.heap.stacks.append.Given as goal

abbrev pub invariant-loop-cell : goal.invariant-loop-cell
invariant-loop-cell l = listed l.list ≡ listed l.fn.list ++ rising l.cell (has l.cells)
