-- The numbers of refusals, and the questions that a call is asked: they go in order, and the first no is the refusal.
-- A question is the refusal that a no gives, and whether the answer is yes.
use Rattle.std.specs.Prelude.{◌≡◌, ℕ, Bool, cond, List, [], ◌∷◌, Some, None, Ok, Err, Option, Result}
use Rattle.model.specs.declared.refusal.Refusal.{Refusal}
use Rattle.model.specs.declared.refusal.Refusal.TheVariants.{NoSuchNode, NoSuchSlot, NoFreeCell, ToItself, NoRoom, BadSize, NotActive, NotInTransit, TooManySent, NotInUse, NotGrey, OutOfRange}

-- the number that users see
abbrev pub number : Refusal → ℕ
number NoSuchNode = 1
number NoSuchSlot = 3
number NoFreeCell = 7
number ToItself = 8
number NoRoom = 9
number BadSize = 11
number NotActive = 12
number NotInTransit = 13
number TooManySent = 14
number NotInUse = 15
number NotGrey = 16
number OutOfRange = 24

abbrev pub Questions : Type 0
Questions = List (Refusal × Bool)

-- the refusal of the first question that is answered no
abbrev pub first_no : Questions → Option Refusal
first_no [] = None
first_no (q ∷ more) = cond q.1 (first_no more) (Some q.0)

-- r answers these questions: where each is yes it is granted, with what that does; else the first no is the refusal, and all stays
abbrev pub Answers : {X : Type 0} → Questions → Result X Refusal → Type 0 → (X → Type 0) → Type 0
Answers questions (Ok x) stays does = (first_no questions ≡ None) × does x
Answers questions (Err why) stays does = (first_no questions ≡ Some why) × stays
