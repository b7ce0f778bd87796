use Rattle.std.proofs.Common.{arith}
use Rattle.last_heap.proofs.Ranges.{rising_more, rising_room}
use Rattle.cell_set.specs.Sets.{has}
use Rattle.cell_list.specs.Lists.{listed}
use Rattle.last_heap.proofs.heap.stacks.append.Goals as goal

pub loop-cell-preserved : goal.loop-cell-preserved
loop-cell-preserved c =
    let more = rising_more (listed c.args.list.now) c.loop-cell.cell (has c.args.cells) in
    let room = rising_room (listed c.args.list.now) c.loop-cell.cell 64 64 (has c.args.cells) in
    grind (arith, more, room)
