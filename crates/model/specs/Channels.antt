-- What each call of a channel is asked, and what it does to the messages that wait where it is granted.
-- Which of the messages for a node is taken is left open.
use Rattle.std.specs.Prelude.{◌≡◌, ℕ, List, [], ◌∷◌, length, Some, None, Option, Result, nat_lt}
use Rattle.model.specs.Refusals.{Questions, Answers}
use Rattle.model.specs.Messages.{Added, for, how_many}
use Rattle.model.specs.declared.message.Message.{Message}
use Rattle.model.specs.declared.refusal.Refusal.{Refusal}
use Rattle.model.specs.declared.refusal.Refusal.TheVariants.{NoSuchNode, NoRoom}

-- do fewer wait than the capacity
abbrev pub put_asks : List Message → ℕ → Questions
put_asks waiting capacity = (NoRoom, nat_lt (length waiting) capacity) ∷ []

abbrev pub take_asks : ℕ → Questions
take_asks n = (NoSuchNode, nat_lt n 16) ∷ []

-- what each call means of a channel with these messages waiting and this capacity: before the call, its arguments, its answer, and the channel after it
module _ {S : Type 0} (waiting : S → List Message) (capacity : S → ℕ) where
  pub record Cleared (before after : S) : Type 0 where
    pub none : waiting after ≡ []
    pub room : capacity after ≡ capacity before

  -- m waits once more, and nothing else changes
  pub record Increased (before : S) (m : Message) (after : S) : Type 0 where
    pub added : Added m (waiting before) (waiting after)
    pub room : capacity after ≡ capacity before

  -- m, for node n, waits once less
  pub record Delivered (before : S) (n : ℕ) (m : Message) (after : S) : Type 0 where
    pub addressed : m.to ≡ n
    pub removed : Added m (waiting after) (waiting before)
    pub room : capacity after ≡ capacity before

  -- some message for node n, or none exactly where none waits for it
  abbrev pub Gives : S → ℕ → Option Message → S → Type 0
  Gives before n None after = (how_many (for n) (waiting before) ≡ 0) × (after ≡ before)
  Gives before n (Some m) after = Delivered before n m after

  abbrev pub Puts : S → Message → Result Unit Refusal → S → Type 0
  Puts before m r after = Answers (put_asks (waiting before) (capacity before)) r (after ≡ before) (λ _. Increased before m after)

  abbrev pub Takes : S → ℕ → Result (Option Message) Refusal → S → Type 0
  Takes before n r after = Answers (take_asks n) r (after ≡ before) (λ given. Gives before n given after)
