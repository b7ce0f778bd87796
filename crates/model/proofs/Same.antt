-- References and messages that agree in their numbers are the same.
-- A kind, and so a message, can be had back from what it carries.
use Rattle.std.proofs.Common.{◌≡◌, ℕ, ◌%◌, ◌<◌, true, cond, eqb, List, [], ◌∷◌, get_or, drop, sym, refl, ap, ◌∙◌, mod-lt, mod-eq_of_lt, arith}
use mathlib.Core.Bool.{Bool-set}
use mathlib.Core.HLevel.{is_prop→PathP}
use native.Mathlib.Bridge.{le_prop}
use Rattle.std.proofs.lemmas.Bool.Decides.{nat_tests}
use Rattle.model.specs.Kinds.{kind_number, fits}
use Rattle.model.specs.Messages.{carried, numbers, equal, same}
use Rattle.model.specs.declared.reference.Reference.{Reference}
use Rattle.model.specs.declared.kind.Kind.{Kind}
use Rattle.model.specs.declared.kind.Kind.TheVariants.{Open, Opened, Start, Mark, Ref, RefAck, Sweep, Swept}
use Rattle.model.specs.declared.message.Message.{Message}

pub same_reference : (x y : Reference) → x.node ≡ y.node → x.cell ≡ y.cell → x ≡ y
same_reference x y node cell = λ i. record {
  node = node i;
  cell = cell i;
  near = is_prop→PathP (λ k. node k < 16) (λ k. le_prop) x.near y.near i;
  low = is_prop→PathP (λ k. cell k < 64) (λ k. le_prop) x.low y.low i;
}

pub same_message : (m other : Message) → m.from ≡ other.from → m.to ≡ other.to → m.kind ≡ other.kind → m ≡ other
same_message m other from to kind = λ i. record {
  from = from i;
  to = to i;
  kind = kind i;
  proper = is_prop→PathP (λ k. fits (from k) (to k) (kind k) ≡ true) (λ k. Bool-set _ _) m.proper other.proper i;
}

-- a kind can be had back from its numbers
reference_from : ℕ → ℕ → Reference
reference_from node cell = record { node = node % 16; cell = cell % 64; near = mod-lt node (omega arith); low = mod-lt cell (omega arith) }

reference_back : (x : Reference) → reference_from x.node x.cell ≡ x
unfolding reference_from
reference_back x = same_reference (reference_from x.node x.cell) x (mod-eq_of_lt x.near) (mod-eq_of_lt x.low)

kind_from : ℕ → List ℕ → Kind
kind_from k xs =
    let reference = reference_from (get_or xs 0 0) (get_or xs 1 0) in
    cond (eqb k 1) Open (cond (eqb k 2) Opened (cond (eqb k 3) Start (cond (eqb k 4) (Mark reference)
    (cond (eqb k 5) (Ref reference (get_or xs 2 0) (get_or xs 3 0))
    (cond (eqb k 6) (RefAck (get_or xs 0 0)) (cond (eqb k 7) Sweep (Swept (get_or xs 0 0) (get_or xs 1 0))))))))

kind_back : (k : Kind) → kind_from (kind_number k) (carried k) ≡ k
unfolding kind_from
kind_back Open = refl
kind_back Opened = refl
kind_back Start = refl
kind_back (Mark x) = ap Mark (reference_back x)
kind_back (Ref x register stamp) = ap (λ y. Ref y register stamp) (reference_back x)
kind_back (RefAck stamp) = refl
kind_back Sweep = refl
kind_back (Swept freed kept) = refl

equal_true : (xs ys : List ℕ) → equal xs ys ≡ true → xs ≡ ys
equal_true [] [] e = refl
equal_true [] (y ∷ ys) e = cc
equal_true (x ∷ xs) [] e = cc
equal_true (x ∷ xs) (y ∷ ys) e = grind (arith, nat_tests, equal_true xs ys)

equal_self : (xs : List ℕ) → equal xs xs ≡ true
equal_self [] = refl
equal_self (x ∷ xs) = grind (arith, nat_tests, equal_self xs)

pub same_true : (m other : Message) → same m other ≡ true → m ≡ other
unfolding same
same_true m other e =
    let is = equal_true (numbers m) (numbers other) e in
    same_message m other (ap (λ xs. get_or xs 0 0) is) (ap (λ xs. get_or xs 1 0) is)
    (sym (kind_back m.kind) ∙ ap (λ xs. kind_from (get_or xs 2 0) (drop 3 xs)) is ∙ kind_back other.kind)

pub same_self : (m : Message) → same m m ≡ true
unfolding same
same_self m = equal_self (numbers m)
