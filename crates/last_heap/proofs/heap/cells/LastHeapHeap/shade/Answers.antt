use Rattle.std.proofs.Common.{rules, arith}
use Rattle.model.specs.Cells.{shaded}
use Rattle.last_heap.proofs.Stacked.{comes, has_room}
use Rattle.last_heap.proofs.heap.cells.LastHeapHeap.shade.Goals as goal

pub push-requires : goal.push-requires
push-requires c = has_room c.args.self.now.reached _ c.in_ok-node.node.near c.args.cell (search rules) (grind (arith, c.in_ok-white.ensures.1 c.args.cell))

pub invariant_of-self-then-has-clause-reached : goal.invariant_of-self-then-has-clause-reached
invariant_of-self-then-has-clause-reached c =
    let was_white = c.in_ok-white.ensures.1 c.args.cell in
    comes c.args.self.now.reached _ c.args.cell shaded c.in_ok-shade.ensures.1 (search rules) (grind (arith, was_white)) (grind (arith, was_white)) c.push.ensures
