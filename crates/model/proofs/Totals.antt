-- Sums of the values of a function below a number.
-- Two sums are compared by their values, place by place.
use Rattle.std.proofs.Common.{◌≡◌, ℕ, zero, suc, ◌+◌, ◌*◌, ◌<◌, ◌≤◌, refl, suc-mul, arith}
use Rattle.model.specs.Tables.{total}

pub total_same : (n : ℕ) (f g : ℕ → ℕ) → ((k : ℕ) → k < n → f k ≡ g k) → total n f ≡ total n g
unfolding total
total_same zero f g h = refl
total_same (suc n) f g h = grind (arith, total_same n f g, h)

-- the first place apart
pub total_front : (n : ℕ) (f : ℕ → ℕ) → total (suc n) f ≡ f 0 + total n (λ c. f (suc c))
unfolding total
total_front zero f = omega arith
total_front (suc n) f = omega (arith, total_front n f)

pub total_add : (n : ℕ) (f g : ℕ → ℕ) → total n (λ k. f k + g k) ≡ total n f + total n g
unfolding total
total_add zero f g = refl
total_add (suc n) f g = omega (arith, total_add n f g)

-- every value is m
pub total_all : (n m : ℕ) → total n (λ k. m) ≡ n * m
unfolding total
total_all zero m = omega arith
total_all (suc n) m = omega (arith, total_all n m, suc-mul n m)

pub total_le : (n : ℕ) (f g : ℕ → ℕ) → ((k : ℕ) → k < n → f k ≤ g k) → total n f ≤ total n g
unfolding total
total_le zero f g h = omega arith
total_le (suc n) f g h = grind (arith, total_le n f g, h)

pub total_bound : (n m : ℕ) (f : ℕ → ℕ) → ((k : ℕ) → k < n → f k ≤ m) → total n f ≤ n * m
total_bound n m f h = omega (arith, total_all n m, total_le n f (λ k. m) h)

-- the values differ at i alone
pub total_change : (n : ℕ) (f g : ℕ → ℕ) (i : ℕ) → i < n → ((k : ℕ) → (k ≡ i → ⊥) → g k ≡ f k) → total n g + f i ≡ total n f + g i
unfolding total
total_change zero f g i l h = omega arith
total_change (suc n) f g i l h = grind (arith, total_same n g f, total_change n f g i, h)

-- no value is above g's, and the one at i is below
pub total_lt : (n : ℕ) (f g : ℕ → ℕ) (i : ℕ) → i < n → ((k : ℕ) → k < n → f k ≤ g k) → f i < g i → total n f < total n g
unfolding total
total_lt zero f g i l h s = omega arith
total_lt (suc n) f g i l h s = grind (arith, total_le n f g, total_lt n f g i, h)
