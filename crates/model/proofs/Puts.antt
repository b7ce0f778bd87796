-- A table that is another with one value changed.
-- A place of it is the one that changed, or holds what it held.
use Rattle.std.proofs.Common.{◌≡◌, ℕ, arith}
use mathlib.Core.Path.{fun_ext}
use Rattle.std.proofs.lemmas.Bool.Decides.{nat_tests}
use Rattle.model.specs.Tables.{put, put₂}

-- by whether k is the place that changed
pub put_elim : {X : Type 0} (P : ℕ → X → Type 0) (f : ℕ → X) (n : ℕ) (v : X) (k : ℕ) → P n v → ((k ≡ n → ⊥) → P k (f k)) → P k (put f n v k)
put_elim P f n v k here there = grind (arith, nat_tests)

pub put_here : {X : Type 0} (f : ℕ → X) (n : ℕ) (v : X) → put f n v n ≡ v
put_here f n v = grind (arith, nat_tests)

pub put_there : {X : Type 0} (f : ℕ → X) (n : ℕ) (v : X) (k : ℕ) → (k ≡ n → ⊥) → put f n v k ≡ f k
put_there f n v k off = grind (arith, nat_tests)

-- a table that holds v at n, and elsewhere what f holds
pub is_put : {X : Type 0} (f g : ℕ → X) (n : ℕ) (v : X) → g n ≡ v → ((k : ℕ) → (k ≡ n → ⊥) → g k ≡ f k) → g ≡ put f n v
is_put f g n v here there = fun_ext (λ k. put_elim (λ m x. g m ≡ x) f n v k here (there k))

pub is_put₂ : {X : Type 0} (f g : ℕ → ℕ → X) (n i : ℕ) (v : X) → g n i ≡ v → ((m k : ℕ) → (m ≡ n → k ≡ i → ⊥) → g m k ≡ f m k) → g ≡ put₂ f n i v
is_put₂ f g n i v here there =
    is_put f g n (put (f n) i v) (is_put (f n) (g n) i v here (λ k off. there n k (λ _ e. off e))) (λ m off. fun_ext (λ k. there m k (λ e _. off e)))

-- by whether k and j are the place that changed
pub put₂_elim : {X : Type 0} (P : ℕ → ℕ → X → Type 0) (f : ℕ → ℕ → X) (n i : ℕ) (v : X) (k j : ℕ) → P n i v → ((k ≡ n → j ≡ i → ⊥) → P k j (f k j)) → P k j (put₂ f n i v k j)
put₂_elim P f n i v k j here there = grind (arith, nat_tests)
