use Rattle.std.proofs.Common.{arith}
use Rattle.std.proofs.lemmas.Bool.Decides.{nat_tests}
use Rattle.table.proofs.Cells.{occupies}
use Rattle.table.proofs.row.Row.occupy.Goals as goal

pub returns-in-White : goal.returns-in-White
returns-in-White c = grind (arith, nat_tests, occupies)

pub returns-in-Grey : goal.returns-in-Grey
returns-in-Grey c = grind (arith, nat_tests, occupies)

pub returns-in-Black : goal.returns-in-Black
returns-in-Black c = grind (arith, nat_tests, occupies)
