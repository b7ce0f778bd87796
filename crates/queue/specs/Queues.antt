-- What a queue holds, and what is added to it and taken from it.
-- The messages for one node stand in its lane, in the order in which they were put.
use Rattle.std.specs.Prelude.{◌≡◌, ℕ, ◌≤◌, List, [], ◌∷◌, ◌++◌, length, Ok, Err, filter, Option, Result}
use Rattle.std.specs.List.{slice_get, remove, enumerate_from}
use Rattle.std.specs.Option.{option_map}
use Rattle.model.specs.Tables.{put}
use Rattle.short_list.specs.Lists.{listed}
use Rattle.model.specs.Messages.{for}
use Rattle.model.specs.declared.message.Message.{Message}
use Rattle.model.specs.declared.refusal.Refusal.{Refusal}
use Rattle.queue.specs.declared.queue.Queue.{Queue}

-- the messages, the one that waits longest first
abbrev pub queued : Queue → List Message
queued queue = listed queue.messages

-- how many can wait
abbrev pub limit_of : Queue → ℕ
limit_of queue = queue.limit

-- those for node n
abbrev pub lane : ℕ → List Message → List Message
lane n messages = filter (for n) messages

abbrev pub lanes : Queue → ℕ → List Message
lanes queue n = lane n (queued queue)

-- m comes last in the lane of its node
abbrev pub lanes_with : Message → (ℕ → List Message) → ℕ → List Message
lanes_with m before = put before m.to (before m.to ++ (m ∷ []))

-- number k of the lane of node n is taken out
abbrev pub lanes_without : ℕ → ℕ → (ℕ → List Message) → ℕ → List Message
lanes_without n k before = put before n (remove (before n) k)

abbrev pub PutsLast : Queue → Message → Result Unit Refusal → Queue → Type 0
PutsLast before m (Ok _) after = lanes after ≡ lanes_with m (lanes before)
PutsLast before m (Err why) after = after ≡ before

-- those for node n, each with its place among all; the places start at i
abbrev pub placed : ℕ → ℕ → List Message → List (ℕ × Message)
placed n i messages = filter (λ p. for n p.1) (enumerate_from i messages)

-- the place of number k of the lane of node n
abbrev pub place_of : ℕ → List Message → ℕ → Option ℕ
place_of n messages k = option_map (λ p. p.0) (slice_get (placed n 0 messages) k)

-- there is such a number in the lane, unless the lane is empty
abbrev pub Reaches : List Message → ℕ → Type 0
Reaches messages k = length messages ≤ k → length messages ≡ 0

-- number k of the lane of node n is given, and none where the lane is no longer than k
pub record Given (before : Queue) (n k : ℕ) (given : Option Message) (after : Queue) : Type 0 where
  pub which : given ≡ slice_get (lanes before n) k
  pub left : lanes after ≡ lanes_without n k (lanes before)
