-- Questions of which each is answered yes.
-- Nothing is refused then, and only then.
use Rattle.std.proofs.Common.{◌≡◌, true, [], ◌∷◌, Some, None, arith}
use Rattle.model.specs.Refusals.{Questions, first_no}
use Rattle.model.specs.declared.refusal.Refusal.{Refusal}

-- each is yes
abbrev pub AllYes : Questions → Type 0
AllYes [] = Unit {0}
AllYes (q ∷ more) = (q.1 ≡ true) × AllYes more

pub all_yes : (questions : Questions) → first_no questions ≡ None → AllYes questions
all_yes [] e = tt
all_yes (q ∷ more) e = grind (arith, all_yes more)

pub no_refusal : (questions : Questions) (why : Refusal) → AllYes questions → first_no questions ≡ Some why → ⊥
no_refusal [] why each e = cc
no_refusal (q ∷ more) why each e = no_refusal more why each.1 (rw each.0 at e)
