-- The lowest number that passes.
-- It is below n and passes, or no number below n does.
use Rattle.std.proofs.Common.{◌≡◌, ℕ, zero, suc, ◌<◌, Bool, true, false, Some, None, Option, refl, arith}
use Rattle.model.specs.Tables.{first, is_some}

-- tests that agree below n
pub first_same : (n : ℕ) (p q : ℕ → Bool) → ((c : ℕ) → c < n → p c ≡ q c) → first n p ≡ first n q
unfolding first
first_same zero p q same = refl
first_same (suc n) p q same = grind (arith, first_same n p q, same)

-- what the lowest number that passes says of those below n
abbrev pub Found : ℕ → (ℕ → Bool) → Option ℕ → Type 0
Found n p None = (c : ℕ) → c < n → p c ≡ false
Found n p (Some k) = (k < n) × (p k ≡ true)

pub first_found : (n : ℕ) (p : ℕ → Bool) → Found n p (first n p)
unfolding first
first_found zero p = λ c h. absurd (omega arith)
first_found (suc n) p = grind (arith, first_found n p)

pub first_none : (n : ℕ) (p : ℕ → Bool) → ((c : ℕ) → c < n → p c ≡ false) → first n p ≡ None
first_none n p none = grind (arith, first_found n p)

-- some number passes
pub first_is_some : (n : ℕ) (p : ℕ → Bool) (k : ℕ) → k < n → p k ≡ true → is_some (first n p) ≡ true
first_is_some n p k h passes = grind (arith, first_found n p)

pub first_some : (n : ℕ) (p : ℕ → Bool) (k : ℕ) → k < n → p k ≡ true → ((c : ℕ) → c < k → p c ≡ false) → first n p ≡ Some k
unfolding first
first_some zero p k h passes none = absurd (omega arith)
first_some (suc n) p k h passes none = grind (arith, first_some n p k, first_none k p none)
