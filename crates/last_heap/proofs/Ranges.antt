-- The numbers of a range in order: how many there are, and how often each stands there.
use Rattle.std.proofs.Common.{◌≡◌, ℕ, zero, suc, ◌+◌, ◌-◌, ◌<◌, ◌≤◌, Bool, true, cond, ◌&&◌, eqb, ltb, List, [], ◌∷◌, ◌++◌, length, ap, add-one, arith}
use Rattle.std.proofs.lemmas.List.{length-append, append_assoc, append-nil}
use Rattle.std.proofs.lemmas.List.Sums.{sum_by-cons}
use Rattle.std.proofs.lemmas.Bool.Decides.{nat_tests}
use Rattle.model.specs.Tables.{one}
use Rattle.cell_list.specs.Lists.{times, Once}
use Rattle.cell_list.proofs.Counted.{times_append}
use Rattle.last_heap.specs.Stacks.{falling, rising}

-- after other numbers: the next of those that are left, or none is left
pub falling_more : (xs : List ℕ) (n : ℕ) → 0 < n → (xs ++ ((n - 1) ∷ [])) ++ falling (n - 1) ≡ xs ++ falling n
unfolding falling
falling_more xs n h = grind (arith, append_assoc xs ((n - 1) ∷ []) (falling (n - 1)))

pub falling_none : (xs : List ℕ) (n : ℕ) → n ≤ 0 → xs ++ falling n ≡ xs
unfolding falling
falling_none xs n h = grind (arith, append-nil xs)

-- after other numbers: none yet
pub rising_none : (xs : List ℕ) (p : ℕ → Bool) → xs ++ rising 0 p ≡ xs
unfolding rising
rising_none xs p = append-nil xs

-- after other numbers: the next number passes or not
pub rising_more : (xs : List ℕ) (n : ℕ) (p : ℕ → Bool) → xs ++ rising (n + 1) p ≡ cond (p n) ((xs ++ rising n p) ++ (n ∷ [])) (xs ++ rising n p)
unfolding rising
rising_more xs n p = rw add-one (grind (arith, append_assoc xs (rising n p) (n ∷ []), append-nil (rising n p)))

-- a longer range has no fewer
rising_longer : (m n : ℕ) (p : ℕ → Bool) → m ≤ n → length (rising m p) ≤ length (rising n p)
unfolding rising
rising_longer m zero p h = let none : m ≡ 0 = omega arith in omega (arith, ap (λ k. length (rising k p)) none)
rising_longer m (suc n) p h =
    let whole : m ≡ suc n → length (rising m p) ≡ length (rising (suc n) p) = λ e. ap (λ k. length (rising k p)) e in
    grind (arith, whole, rising_longer m n p, length-append (rising n p) (cond (p n) (n ∷ []) []))

-- and one more, where it goes on past a number that passes
rising_passed : (i n : ℕ) (p : ℕ → Bool) → i < n → p i ≡ true → length (rising i p) < length (rising n p)
rising_passed i n p l passes = grind (arith, rising_longer (i + 1) n p, rising_more [] i p, length-append (rising i p) (i ∷ []))

-- where all that pass have room, the next has room
pub rising_room : (xs : List ℕ) (i n room : ℕ) (p : ℕ → Bool) → i < n → p i ≡ true → length (xs ++ rising n p) ≤ room → length (xs ++ rising i p) < room
rising_room xs i n room p l passes fits =
    omega (arith, length-append xs (rising n p), length-append xs (rising i p), rising_passed i n p l passes)

pub once_falling : (n : ℕ) → Once (λ c. ltb c n) (falling n)
unfolding falling
once_falling zero c = grind (arith, nat_tests)
once_falling (suc n) c = grind (arith, nat_tests, once_falling n c, sum_by-cons (λ x. one (eqb x c)) n (falling n))

-- a number that is in a list or not
times_if : (c d : ℕ) (b : Bool) → times d (cond b (c ∷ []) []) ≡ one (b && eqb c d)
times_if c d b = grind (arith, nat_tests)

pub once_rising : (n : ℕ) (p : ℕ → Bool) → Once (λ c. ltb c n && p c) (rising n p)
unfolding rising
once_rising zero p c = grind (arith, nat_tests)
once_rising (suc n) p c = grind (arith, nat_tests, once_rising n p c, times_append c (rising n p) (cond (p n) (n ∷ []) []))
