use Rattle.std.proofs.Common.{◌-◌, arith}
use Rattle.std.proofs.lemmas.List.{length_push}
use Rattle.cell_list.specs.Lists.{listed}
use Rattle.last_heap.proofs.Ranges.{falling_more}
use Rattle.last_heap.proofs.heap.stacks.all_cells.Goals as goal

pub loop-cell-preserved : goal.loop-cell-preserved
loop-cell-preserved c =
    grind (arith, falling_more (listed c.loop-cell.list) c.loop-cell.cell, length_push (listed c.loop-cell.list) (c.loop-cell.cell - 1))
