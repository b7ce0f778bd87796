use Rattle.std.proofs.Common.{◌≡◌, ◌≤◌, length, take}
use Rattle.queue.specs.Queues.{queued, lane}
use Rattle.queue.proofs.queue.Queue.count.Given as goal

abbrev pub invariant-loop-message : goal.invariant-loop-message
invariant-loop-message l = (l.count ≡ length (lane l.node (take l.message-index (queued l.self)))) × (l.count ≤ l.message-index)
