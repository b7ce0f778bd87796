-- How often a number stands in a list, where others are added, dropped or taken.
-- A list in which each number below n stands at most once is no longer than n.
use Rattle.std.proofs.Common.{◌≡◌, ℕ, ◌+◌, ◌<◌, ◌≤◌, Bool, true, false, cond, not, ◌&&◌, eqb, ltb, List, [], ◌∷◌, ◌++◌, length, ◌∙◌, arith}
use Rattle.std.proofs.lemmas.List.Sums.{sum_by-cons, sum_by_push, sum_by-append}
use Rattle.std.proofs.lemmas.Bool.Decides.{nat_tests}
use Rattle.model.specs.Tables.{one, put, total}
use Rattle.cell_list.specs.Lists.{CellList, listed, times, Once, without, Pushed}
use Rattle.model.proofs.Totals.{total_all, total_bound, total_change, total_lt}

times_cons : (d x : ℕ) (xs : List ℕ) → times d (x ∷ xs) ≡ one (eqb x d) + times d xs
times_cons d = sum_by-cons (λ x. one (eqb x d))

pub times_append : (d : ℕ) (xs ys : List ℕ) → times d (xs ++ ys) ≡ times d xs + times d ys
times_append d = sum_by-append (λ x. one (eqb x d))

pub times_push : (d : ℕ) (xs : List ℕ) (c : ℕ) → times d (xs ++ (c ∷ [])) ≡ times d xs + one (eqb c d)
times_push d = sum_by_push (λ x. one (eqb x d))

-- the first of a list, dropped or not
times_first : (d x : ℕ) (dropped : Bool) (xs : List ℕ) → times d (cond (not dropped) (x ∷ xs) xs) ≡ cond dropped 0 (one (eqb x d)) + times d xs
times_first d x true xs = omega arith
times_first d x false xs = times_cons d x xs

pub times_without : (d c : ℕ) (xs : List ℕ) → times d (without c xs) ≡ cond (eqb d c) 0 (times d xs)
times_without d c [] = grind (arith, nat_tests)
times_without d c (x ∷ xs) =
    times_first d x (eqb x c) (without c xs) ∙ grind (arith, nat_tests, times_without d c xs, times_cons d x xs)

-- what stands last passes
pub in_list : (c : ℕ) (xs : List ℕ) (b : Bool) → times c (xs ++ (c ∷ [])) ≡ one b → b ≡ true
in_list c xs b e = grind (arith, nat_tests, times_push c xs c)

pub once_same : (p q : ℕ → Bool) (xs : List ℕ) → ((c : ℕ) → p c ≡ q c) → Once p xs → Once q xs
once_same p q xs same once c = cc (once c, same c)

-- nothing stands in the list, so nothing passes
pub once_none : (p : ℕ → Bool) → Once p [] → (c : ℕ) → p c ≡ false
once_none p once c = grind (arith, once c)

pub once_push : (p : ℕ → Bool) (xs : List ℕ) (c : ℕ) → Once p xs → p c ≡ false → Once (put p c true) (xs ++ (c ∷ []))
once_push p xs c once new d = grind (arith, nat_tests, once d, times_push d xs c)

pub once_pop : (p : ℕ → Bool) (xs : List ℕ) (c : ℕ) → Once p (xs ++ (c ∷ [])) → Once (put p c false) xs
once_pop p xs c once d = grind (arith, nat_tests, once d, times_push d xs c)

pub once_without : (p : ℕ → Bool) (xs : List ℕ) (c : ℕ) → Once p xs → Once (put p c false) (without c xs)
once_without p xs c once d = grind (arith, nat_tests, once d, times_without d c xs)

-- the length is the sum of the counts, where every number is below n
pub length_counted : (n : ℕ) (xs : List ℕ) → ((c : ℕ) → n ≤ c → times c xs ≡ 0) → length xs ≡ total n (λ c. times c xs)
length_counted n [] none = omega (arith, total_all n 0)
length_counted n (x ∷ xs) none =
    let below : x < n = grind (arith, nat_tests, none x, times_cons x x xs) in
    let rest = length_counted n xs (λ c l. omega (arith, none c l, times_cons c x xs)) in
    let more = total_change n (λ c. times c xs) (λ c. times c (x ∷ xs)) x below (λ c d. grind (arith, nat_tests, times_cons c x xs)) in
    grind (arith, nat_tests, times_cons x x xs)

module _ (n : ℕ) (xs : List ℕ) (p : ℕ → Bool) (once : Once (λ c. ltb c n && p c) xs) where
  counted : length xs ≡ total n (λ c. times c xs)
  counted = length_counted n xs (λ c l. grind (arith, nat_tests, once c))

  at_most_once : (c : ℕ) → c < n → times c xs ≤ 1
  at_most_once c l = grind (arith, once c)

  pub short : length xs ≤ n
  short = omega (arith, counted, total_bound n 1 (λ c. times c xs) at_most_once)

  -- some number below n does not pass, so there is room for one more
  pub room : (c : ℕ) → c < n → p c ≡ false → length xs < n
  room c l fails = omega (arith, counted, total_lt n (λ k. times k xs) (λ k. 1) c l at_most_once (grind (arith, once c)), total_all n 1)

-- where there is room, what is pushed is added
pub pushed : (before after : CellList) (c : ℕ) (r : Bool) → length (listed before) < 64 → Pushed before c r after → listed after ≡ listed before ++ (c ∷ [])
pushed before after c r roomy done = grind arith
