use Rattle.std.proofs.Common.{rules}
use Rattle.last_heap.proofs.Making.{making}
use Rattle.last_heap.proofs.heap.LastHeap.take.Goals as goal

pub push-requires : goal.push-requires
push-requires c = (making c.args.self.now c.args.node _ _ _ _ c.in_ok-cell.ensures c.occupy.ensures).room

pub invariant_of-self-in-Grey : goal.invariant_of-self-in-Grey
invariant_of-self-in-Grey c =
    let facts = making c.args.self.now c.args.node _ _ _ _ c.in_ok-cell.ensures c.occupy.ensures in
    record { unused = facts.unused; reached = facts.reached (search rules) }

pub invariant_of-self-in_default : goal.invariant_of-self-in_default
invariant_of-self-in_default c =
    let facts = making c.args.self.now c.args.node _ _ _ _ c.in_ok-cell.ensures c.occupy.ensures in
    record { unused = facts.unused; reached = facts.reached (search rules) }

pub returns-in-Grey-clause-cells : goal.returns-in-Grey-clause-cells
returns-in-Grey-clause-cells c = (making c.args.self.now c.args.node _ _ _ _ c.in_ok-cell.ensures c.occupy.ensures).made

pub returns-in_default-clause-cells : goal.returns-in_default-clause-cells
returns-in_default-clause-cells c = (making c.args.self.now c.args.node _ _ _ _ c.in_ok-cell.ensures c.occupy.ensures).made
