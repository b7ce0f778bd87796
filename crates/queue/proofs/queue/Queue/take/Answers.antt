use Rattle.std.proofs.Common.{sym}
use Rattle.queue.specs.Queues.{queued}
use Rattle.queue.proofs.Places.{past}
use Rattle.queue.proofs.Taken.{given_some, gives_some, given_none, gives_none}
use Rattle.queue.proofs.queue.Queue.take.Goals as goal

pub returns-in_err-place : goal.returns-in_err-place
returns-in_err-place c =
    let short = past c.args.node (queued c.args.self.now) c.args.ahead (sym c.in_err-place.ensures) in
    rw c.from_residual.ensures (record { waiting = gives_none _ _ _ short; choice = given_none _ _ _ short })

pub returns : goal.returns
returns c =
    let place = sym c.in_ok-place.ensures in
    let took = c.remove.ensures in
    record {
      waiting = λ reaches. gives_some _ _ _ _ _ _ place took.message took.rest took.room;
      choice = given_some _ _ _ _ _ _ place took.message took.rest;
    }
