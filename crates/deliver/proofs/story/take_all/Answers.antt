use Rattle.std.proofs.Common.{arith}
use Rattle.model.proofs.Counts.{added_length}
use Rattle.deliver.proofs.story.take_all.Goals as goal

-- a message that is taken waits no more
pub loop-message-smaller : goal.loop-message-smaller
loop-message-smaller g c = omega (arith, added_length _ _ _ (rw c.in-Some.is at c.in_ok-message.ensures.1).removed)
