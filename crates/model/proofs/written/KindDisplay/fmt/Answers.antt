use Rattle.std.proofs.Common.{rules, append_assoc}
use Rattle.model.proofs.written.KindDisplay.fmt.Goals as goal

pub returns-in-Ref-clause-writes : goal.returns-in-Ref-clause-writes
returns-in-Ref-clause-writes g c = λ plain ok. rw c.in-Ref.is (search (rules, append_assoc))
