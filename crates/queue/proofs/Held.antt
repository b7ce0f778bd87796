-- A queue has room for 1 to 256 messages, and no more wait than it has room for.
use Rattle.std.proofs.Common.{◌≤◌, length}
use Rattle.queue.specs.Queues.{queued, limit_of}
use Rattle.queue.specs.declared.queue.Queue.{Queue}

pub within_limit : (queue : Queue) → length (queued queue) ≤ limit_of queue
within_limit queue = queue.short

pub roomy : (queue : Queue) → (1 ≤ limit_of queue) × (limit_of queue ≤ 256)
roomy queue = (queue.some, queue.few)
