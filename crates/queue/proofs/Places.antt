-- Where number k of a lane stands among all messages.
-- It is the message at its place; where there is no place, the lane is no longer.
use Rattle.std.proofs.Common.{◌≡◌, ℕ, zero, suc, ◌+◌, ◌-◌, ◌<◌, ◌≤◌, cond, List, [], ◌∷◌, length, Some, None, Option, arith}
use native.Mathlib.Numerals.{unary_clauses}
use Rattle.std.specs.List.{slice_get, remove}
use Rattle.std.specs.Option.{option_map}
use Rattle.std.proofs.lemmas.Bool.Decides.{nat_tests}
use Rattle.model.specs.Messages.{for}
use Rattle.model.specs.declared.message.Message.{Message}
use Rattle.queue.specs.Queues.{lane, placed, place_of}

-- what a place says of number k of the lane of node n, where places start at i
abbrev Stands : ℕ → ℕ → List Message → ℕ → Option ℕ → Type 0
Stands n i xs k None = length (lane n xs) ≤ k
Stands n i xs k (Some at) = (i ≤ at) × (at < i + length xs) × (slice_get (lane n xs) k ≡ slice_get xs (at - i)) × (lane n (remove xs (at - i)) ≡ remove (lane n xs) k)

-- one message more stands in front
behind : (n i : ℕ) (x : Message) (xs : List Message) (k : ℕ) (place : Option ℕ) → Stands n (i + 1) xs k place → Stands n i (x ∷ xs) (cond (for n x) (suc k) k) place
behind n i x xs k None h = grind arith
behind n i x xs k (Some at) h = let next : at - i ≡ suc (at - (i + 1)) = omega arith in rw next (grind arith)

stands : (n i : ℕ) (xs : List Message) (k : ℕ) → Stands n i xs k (option_map (λ p. p.0) (slice_get (placed n i xs) k))
stands n i [] k = omega arith
stands n i (x ∷ xs) zero = grind (arith, nat_tests, stands n (i + 1) xs zero)
stands n i (x ∷ xs) (suc k) = grind (arith, behind n i x xs k _ (stands n (i + 1) xs k), behind n i x xs (suc k) _ (stands n (i + 1) xs (suc k)))

pub past : (n : ℕ) (xs : List Message) (k : ℕ) → place_of n xs k ≡ None → length (lane n xs) ≤ k
past n xs k none = rw none at (stands n 0 xs k)

module _ (n : ℕ) (xs : List Message) (k at : ℕ) (place : place_of n xs k ≡ Some at) where
  here : Stands n 0 xs k (Some at)
  here = rw place at (stands n 0 xs k)

  pub within : at < length xs
  within = omega (arith, here.1)

  pub which : slice_get (lane n xs) k ≡ slice_get xs at
  which = simp unary_clauses at here.2

  pub left : lane n (remove xs at) ≡ remove (lane n xs) k
  left = simp unary_clauses at here.3
