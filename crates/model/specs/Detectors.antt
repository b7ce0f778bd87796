-- What each call of a detector is asked, and what it does to what the detector holds where it is granted.
-- Its turns and its announcement are left open, within the law.
use Rattle.std.specs.Prelude.{◌≡◌, ℕ, ◌<◌, Bool, true, false, not, ◌&&◌, [], ◌∷◌, Result, ◌==◌, nat_le, nat_lt}
use Rattle.model.specs.Refusals.{Questions, Answers}
use Rattle.model.specs.Detection.{Computation, Detection, Quiet, begun, sending, receiving, idling}
use Rattle.model.specs.declared.refusal.Refusal.{Refusal}
use Rattle.model.specs.declared.refusal.Refusal.TheVariants.{NoSuchNode, ToItself, BadSize, NotActive, NotInTransit, TooManySent}
use Rattle.model.specs.declared.turn.Turn.{Turn}
use Rattle.model.specs.declared.turn.Turn.TheVariants.{Done, Nothing}

-- the questions, in order: is there such a node; do sender and receiver differ; is the size from 2 to 16;
-- is the node active; is such a message in transit; were fewer than 16,384 sent
abbrev pub begin_asks : ℕ → Questions
begin_asks n = (BadSize, (nat_le 2 n && nat_le n 16)) ∷ []

abbrev pub sent_asks : Computation → ℕ → ℕ → Questions
sent_asks c from to =
    (NoSuchNode, (nat_lt from c.size && nat_lt to c.size))
    ∷ (ToItself, not (from == to))
    ∷ (NotActive, c.active from)
    ∷ (TooManySent, nat_lt c.sent 16384)
    ∷ []

abbrev pub received_asks : Computation → ℕ → ℕ → Questions
received_asks c to from =
    (NoSuchNode, (nat_lt to c.size && nat_lt from c.size))
    ∷ (ToItself, not (to == from))
    ∷ (NotInTransit, nat_lt 0 (c.transit from to))
    ∷ []

abbrev pub idle_asks : Computation → ℕ → Questions
idle_asks c i = (NoSuchNode, nat_lt i c.size) ∷ (NotActive, c.active i) ∷ []

abbrev pub turn_asks : Computation → ℕ → Questions
turn_asks c i = (NoSuchNode, nat_lt i c.size) ∷ []

-- it has begun anew with n nodes
pub record Begun (n : ℕ) (after : Detection) : Type 0 where
  pub computation : after.computation ≡ begun n
  pub silent : after.announced ≡ false

-- the computation is this one now; an announcement lasts
pub record Reported (reported : Computation) (before after : Detection) : Type 0 where
  pub computation : after.computation ≡ reported
  pub lasts : before.announced ≡ true → after.announced ≡ true

-- a turn of node i is done: the computation is as it was, and where it is quiet fewer turns are left
pub record Turned (before : Detection) (i : ℕ) (after : Detection) : Type 0 where
  pub ready : before.ready i ≡ true
  pub computation : after.computation ≡ before.computation
  pub patience : after.patience ≡ before.patience
  pub sooner : Quiet before.computation → after.left < before.left

-- what each call means of a detector that holds `detection`: before the call, its arguments, its answer, and the detector after it
module _ {S : Type 0} (detection : S → Detection) where
  abbrev pub Begins : S → ℕ → Result Unit Refusal → S → Type 0
  Begins before n r after = Answers (begin_asks n) r (after ≡ before) (λ _. Begun n (detection after))

  abbrev pub Sends : S → ℕ → ℕ → Result Unit Refusal → S → Type 0
  Sends before from to r after =
      Answers (sent_asks (detection before).computation from to) r (after ≡ before) (λ _. Reported (sending (detection before).computation from to) (detection before) (detection after))

  abbrev pub Receives : S → ℕ → ℕ → Result Unit Refusal → S → Type 0
  Receives before to from r after =
      Answers (received_asks (detection before).computation to from) r (after ≡ before) (λ _. Reported (receiving (detection before).computation to from) (detection before) (detection after))

  abbrev pub Idles : S → ℕ → Result Unit Refusal → S → Type 0
  Idles before i r after =
      Answers (idle_asks (detection before).computation i) r (after ≡ before) (λ _. Reported (idling (detection before).computation i) (detection before) (detection after))

  -- a turn is done exactly where it is ready; a turn that is not done leaves all as it was
  abbrev pub TakesTurn : S → ℕ → Turn → S → Type 0
  TakesTurn before i Done after = Turned (detection before) i (detection after)
  TakesTurn before i Nothing after = ((detection before).ready i ≡ false) × (after ≡ before)

  abbrev pub Turns : S → ℕ → Result Turn Refusal → S → Type 0
  Turns before i r after = Answers (turn_asks (detection before).computation i) r (after ≡ before) (λ turn. TakesTurn before i turn after)

  abbrev pub TellsActive : S → ℕ → Result Bool Refusal → Type 0
  TellsActive detector i r = Answers (turn_asks (detection detector).computation i) r (Unit {0}) (λ active. active ≡ (detection detector).computation.active i)
