-- What waits in a channel, how many can, and which message a take gives, by the lanes of its queue: each node's messages in order of put.
-- The number in the lane is a function of the pick and of how many stand there.
use Rattle.std.specs.Prelude.{◌≡◌, ℕ, ◌%◌, List, length, Ok, Err, Option, Result}
use Rattle.model.specs.declared.message.Message.{Message}
use Rattle.model.specs.declared.refusal.Refusal.{Refusal}
use Rattle.queue.specs.Queues.{queued, limit_of, lanes, Given}
use Rattle.channels.specs.declared.choice.Oldest.{Oldest}
use Rattle.channels.specs.declared.choice.Picked.{Picked}
use Rattle.channels.specs.declared.queue_channel.QueueChannel.{QueueChannel}

abbrev pub channel_waiting : {C : Type 0} → QueueChannel C → List Message
channel_waiting channel = queued channel.queue

abbrev pub channel_capacity : {C : Type 0} → QueueChannel C → ℕ
channel_capacity channel = limit_of channel.queue

abbrev pub TakesChosen : {C : Type 0} → (ℕ → ℕ → ℕ) → QueueChannel C → ℕ → ℕ → Result (Option Message) Refusal → QueueChannel C → Type 0
TakesChosen number before n pick (Ok given) after = Given before.queue n (number pick (length (lanes before.queue n))) given after.queue
TakesChosen number before n pick (Err why) after = after ≡ before

-- The two channels: one gives the first of a lane; the other gives number `pick` of it, counted round.
abbrev pub Fifo : Type 0
Fifo = QueueChannel Oldest

abbrev pub Bag : Type 0
Bag = QueueChannel Picked

abbrev pub fifo_waiting : Fifo → List Message
fifo_waiting fifo = channel_waiting fifo

abbrev pub fifo_capacity : Fifo → ℕ
fifo_capacity fifo = channel_capacity fifo

abbrev pub bag_waiting : Bag → List Message
bag_waiting bag = channel_waiting bag

abbrev pub bag_capacity : Bag → ℕ
bag_capacity bag = channel_capacity bag

abbrev pub TakesOldest : Fifo → ℕ → Result (Option Message) Refusal → Fifo → Type 0
TakesOldest before n r after = TakesChosen (λ pick count. 0) before n 0 r after

abbrev pub TakesPicked : Bag → ℕ → ℕ → Result (Option Message) Refusal → Bag → Type 0
TakesPicked before n pick r after = TakesChosen (λ pick count. pick % count) before n pick r after
