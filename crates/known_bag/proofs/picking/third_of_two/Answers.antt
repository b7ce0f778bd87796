use Rattle.std.proofs.Common.{length, ap, rules}
use Rattle.model.proofs.Counts.{added_length}
use Rattle.known_bag.proofs.picking.third_of_two.Goals as goal

-- there is room for the second message: one waits
pub returns-in_err-put-2 : goal.returns-in_err-put-2
returns-in_err-put-2 c = search (rules, ap length c.new-bag.ensures.waiting, added_length _ _ _ c.in_ok-put.ensures.waiting.1.added)
