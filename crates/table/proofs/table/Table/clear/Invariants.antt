use Rattle.table.proofs.Nodes.{Cleared}
use Rattle.table.proofs.table.Table.clear.Given as goal

abbrev pub invariant-loop-node : goal.invariant-loop-node
invariant-loop-node l = Cleared l.self.rows l.node
