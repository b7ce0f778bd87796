use Rattle.std.proofs.Common.{length}
use Rattle.deliver.proofs.story.take_all.Given as goal

abbrev pub decreases-loop-message : goal.decreases-loop-message
decreases-loop-message g l = length (g.C.Channel.waiting l.channel)
