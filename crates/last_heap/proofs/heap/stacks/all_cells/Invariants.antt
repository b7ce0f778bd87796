use Rattle.std.proofs.Common.{◌≡◌, ◌+◌, ◌++◌, length}
use Rattle.cell_list.specs.Lists.{listed}
use Rattle.last_heap.specs.Stacks.{falling}
use Rattle.last_heap.proofs.heap.stacks.all_cells.Given as goal

abbrev pub invariant-loop-cell : goal.invariant-loop-cell
invariant-loop-cell l = record {
  whole : listed l.list ++ falling l.cell ≡ falling 64;
  room : length (listed l.list) + l.cell ≡ 64;
}
