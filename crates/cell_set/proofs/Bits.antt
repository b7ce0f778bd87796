-- One bit of a word of 64 bits that is made of others.
use Rattle.std.proofs.Common.{◌≡◌, ℕ, ◌-◌, ◌*◌, ◌%◌, ◌^◌, ◌<◌, ◌≤◌, min, false, not, ◌&&◌, ◌||◌, cond, refl, eqb, ◌==◌, w64, arith}
use Rattle.std.specs.Int.{bit_at}
use Rattle.std.proofs.lemmas.Bool.Decides.{nat_tests}
use Rattle.std.proofs.lemmas.Nat.Bits.{bit_at_ones, bit_at_and, bit_at_or, bit_at_not, bit_at-lt, bit_at-zero, bit_at-pow_same, bit_at-pow_other, bit_at_above, bit_at_set_same, bit_at_set_other, bit_at_clear_same, bit_at_clear_other}
use Rattle.cell_set.specs.Sets.{bit}
use lib.Bits.{bit_and, bit_or}

pub bit_of_max : (c : ℕ) → c < 64 → bit_at (2 ^ 64 - 1) c ≡ 1
bit_of_max c h = bit_at_ones 64 c h

pub bit_of_difference : (v w c : ℕ) → w < 2 ^ 64 → c < 64 → bit_at (bit_and v (2 ^ 64 - 1 - w)) c ≡ min (bit_at v c) (1 - bit_at w c)
bit_of_difference v w c fits h = cc (bit_at_and v (2 ^ 64 - 1 - w) c, bit_at_not w64 w c fits h)

-- bit k set, and cleared
pub bit_when_set : (w k c : ℕ) → k < 64 → bit_at (bit_or w (1 * 2 ^ k % 2 ^ 64)) c ≡ cond (c == k) 1 (bit_at w c)
bit_when_set w k c h = grind (arith, nat_tests, bit_at_set_same w64 w k h, bit_at_set_other w64 w k h c)

pub bit_when_cleared : (w k c : ℕ) → k < 64 → c < 64 → bit_at (bit_and w (2 ^ 64 - 1 - 1 * 2 ^ k % 2 ^ 64)) c ≡ cond (c == k) 0 (bit_at w c)
bit_when_cleared w k c h g = grind (arith, nat_tests, bit_at_clear_same w64 w k h, bit_at_clear_other w64 w k h c g)

-- a bit as a test: of an or, of an and, and of a complement
pub bit_of_or : (a b k : ℕ) → bit (bit_or a b) k ≡ (bit a k || bit b k)
bit_of_or a b k = grind (arith, nat_tests, bit_at_or a b k, bit_at-lt a k, bit_at-lt b k)

pub bit_of_and : (a b k : ℕ) → bit (bit_and a b) k ≡ (bit a k && bit b k)
bit_of_and a b k = grind (arith, nat_tests, bit_at_and a b k, bit_at-lt a k, bit_at-lt b k)

pub bit_not : (w k : ℕ) → w < 2 ^ 64 → k < 64 → bit (2 ^ 64 - 1 - w) k ≡ not (bit w k)
bit_not w k fits h = grind (arith, nat_tests, bit_at_not w64 w k fits h, bit_at-lt w k)

-- a power of two has one bit, and 0 none
pub bit_pow : (c k : ℕ) → bit (2 ^ c) k ≡ eqb k c
bit_pow c k = grind (arith, nat_tests, bit_at-pow_same c, bit_at-pow_other c k)

pub bit_zero : (k : ℕ) → bit 0 k ≡ false
bit_zero k = rw (bit_at-zero k) refl

-- nor has a word past its width
pub past_width : (w c : ℕ) → w < 2 ^ 64 → 64 ≤ c → bit w c ≡ false
past_width w c fits h = rw (bit_at_above w 64 c fits h) refl
