-- The lowest cell of a set that is not below a number.
use Rattle.std.proofs.Common.{◌≡◌, ℕ, ◌+◌, ◌-◌, ◌/◌, ◌^◌, ◌<◌, ◌≤◌, Bool, false, cond, ◌==◌, ◌&&◌, nat_le, nat_lt, Some, None, refl, w64, arith}
use Rattle.std.specs.Int.{bit_at, trailing_zeros}
use Rattle.std.proofs.lemmas.Bool.Decides.{nat_tests}
use Rattle.std.proofs.lemmas.Nat.{shr-shr, shr_le}
use Rattle.std.proofs.lemmas.Nat.Bits.{bit_at-zero, bit_at_above, bit_at-trailing_zeros}
use Rattle.model.specs.Tables.{first}
use Rattle.model.proofs.Firsts.{first_none, first_some}
use Rattle.cell_set.specs.Sets.{bit}

-- cell c is in the set, and not below from
abbrev from_on : ℕ → ℕ → ℕ → Bool
from_on w from c = nat_le from c && (nat_lt c 64 && bit w c)

-- where the shifted word has no bit, the set has no cell
none_at : (w from c : ℕ) → (from ≤ c → bit_at (w / 2 ^ from) (c - from) ≡ 0) → from_on w from c ≡ false
none_at w from c none = grind (arith, nat_tests, none, shr-shr w from (c - from))

none_from : (w from : ℕ) → w / 2 ^ from ≡ 0 → first 64 (from_on w from) ≡ None
none_from w from e = first_none 64 (from_on w from) (λ c h. none_at w from c (λ l. rw (e, bit_at-zero (c - from))))

some_from : (w from : ℕ) → w < 2 ^ 64 → (w / 2 ^ from ≡ 0 → ⊥) → first 64 (from_on w from) ≡ Some (from + trailing_zeros w64 (w / 2 ^ from))
some_from w from fits some =
    let zeros = trailing_zeros w64 (w / 2 ^ from) in
    let found = bit_at-trailing_zeros w64 (w / 2 ^ from) (omega arith) (omega (arith, shr_le w from)) in
    let cell : from + zeros < 64 = grind (arith, bit_at_above w 64 (from + zeros) fits, shr-shr w from zeros) in
    first_some 64 (from_on w from) (from + zeros) cell (grind (arith, nat_tests, shr-shr w from zeros)) (λ c h. none_at w from c (λ l. found.2 (c - from) (omega arith)))

-- `w / 2 ^ from ≡ w / 2 ^ from` says nothing: it shows `grind` what to match
pub lowest_is : (w from : ℕ) → w < 2 ^ 64 → (w / 2 ^ from ≡ w / 2 ^ from) × (first 64 (from_on w from) ≡ cond (w / 2 ^ from == 0) None (Some (from + trailing_zeros w64 (w / 2 ^ from))))
lowest_is w from fits = (refl, grind (arith, nat_tests, none_from w from, some_from w from fits))
