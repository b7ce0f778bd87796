-- Messages are counted: lists with equal counts have equal sums of any measure.
use Rattle.std.proofs.Common.{◌≡◌, ℕ, ◌+◌, ◌<◌, Bool, true, false, List, [], ◌∷◌, ◌++◌, length, sym, refl, ap, arith}
use Rattle.model.specs.Tables.{one}
use Rattle.model.specs.Messages.{same, sum, times, Added}
use Rattle.model.specs.declared.message.Message.{Message}
use Rattle.model.proofs.Same.{same_true, same_self}

pub sum_append : (f : Message → ℕ) (xs ys : List Message) → sum f (xs ++ ys) ≡ sum f xs + sum f ys
sum_append f [] ys = omega arith
sum_append f (x ∷ xs) ys = omega (arith, sum_append f xs ys)

-- a message in the middle of a list counts as one in front of it
pub sum_middle : (f : Message → ℕ) (xs : List Message) (m : Message) (ys : List Message) → sum f (xs ++ (m ∷ ys)) ≡ f m + sum f (xs ++ ys)
sum_middle f xs m ys = omega (arith, sum_append f xs (m ∷ ys), sum_append f xs ys)

pub length_sum : (xs : List Message) → length xs ≡ sum (λ m. 1) xs
length_sum [] = refl
length_sum (x ∷ xs) = omega (arith, length_sum xs)

-- a message that stands in a list can be set apart
pub record Apart (m : Message) (xs : List Message) : Type 0 where
  pub others : List Message
  pub sums : (f : Message → ℕ) → sum f xs ≡ f m + sum f others

pub apart : (m : Message) (xs : List Message) → 0 < times m xs → Apart m xs
apart m [] h = absurd (omega arith)
apart m (x ∷ xs) h = go (same m x) refl (apart m xs)
  where
    go : (b : Bool) → same m x ≡ b → (0 < times m xs → Apart m xs) → Apart m (x ∷ xs)
    go true e more = record { others = xs; sums = λ f. ap (λ y. f y + sum f xs) (sym (same_true m x e)) }
    go false e more =
        let rest = more (omega (arith, ap one e)) in
        record { others = x ∷ rest.others; sums = λ f. omega (arith, rest.sums f) }

pub equal_counts : (f : Message → ℕ) (xs ys : List Message) → ((m : Message) → times m xs ≡ times m ys) → sum f xs ≡ sum f ys
equal_counts f [] [] h = refl
equal_counts f [] (y ∷ ys) h = absurd (omega (arith, h y, ap one (same_self y)))
equal_counts f (x ∷ xs) ys h =
    let found = apart x ys (omega (arith, h x, ap one (same_self x))) in
    let rest = equal_counts f xs found.others (λ y. omega (arith, h y, found.sums (λ other. one (same y other)))) in
    omega (arith, rest, found.sums f)

-- what is added adds its part to every sum
pub added_sum : (f : Message → ℕ) (m : Message) (before after : List Message) → Added m before after → sum f after ≡ f m + sum f before
added_sum f m before after added = equal_counts f after (m ∷ before) added

pub added_length : (m : Message) (before after : List Message) → Added m before after → length after ≡ 1 + length before
added_length m before after added = omega (arith, length_sum before, length_sum after, added_sum (λ x. 1) m before after added)
