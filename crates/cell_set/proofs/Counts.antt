-- The ones of a word, counted bit by bit.
use Rattle.std.proofs.Common.{◌≡◌, ℕ, zero, suc, ◌%◌, ◌^◌, ◌<◌, ◌≤◌, ◌&&◌, nat_lt, sym, ap, ◌∙◌, one-add, arith}
use Rattle.std.proofs.Math.Nat.{mod-eq_of_lt}
use Rattle.std.specs.Int.{bit_at}
use Rattle.std.proofs.lemmas.Bool.Decides.{nat_tests}
use Rattle.std.proofs.lemmas.Nat.{mod-pow-add, ones_cat, ones_le_self, zero_from_ones, mod_below, pow_pos}
use Rattle.model.specs.Tables.{one, total}
use Rattle.model.proofs.Totals.{total_same}
use Rattle.cell_set.specs.Sets.{bit}
use lib.Count.{ones}

-- of the low n bits of a word
ones_low : (n w : ℕ) → ones (w % 2 ^ n) ≡ total n (λ k. one (bit w k))
unfolding total
ones_low zero w = omega (arith, ones_le_self (w % 2 ^ 0))
ones_low (suc n) w =
    rw (← one-add n, mod-pow-add w 1 n, ones_cat n (bit_at w n) (w % 2 ^ n) (mod_below w (2 ^ n) (pow_pos n)), ones_low n w)
    (grind (arith, nat_tests, ones_le_self (bit_at w n), zero_from_ones (bit_at w n)))

-- of a word of n bits
pub ones_total : (n w : ℕ) → w < 2 ^ n → ones w ≡ total n (λ k. one (bit w k))
ones_total n w fits = ap ones (sym (mod-eq_of_lt fits)) ∙ ones_low n w

-- of the low n bits of a word of 64, as a set has them
ones_below : (n w : ℕ) → n ≤ 64 → ones (w % 2 ^ n) ≡ total n (λ c. one (nat_lt c 64 && bit w c))
ones_below n w h = ones_low n w ∙ total_same n (λ k. one (bit w k)) (λ c. one (nat_lt c 64 && bit w c)) (λ c l. grind (arith, nat_tests))

pub ones_counted : (w : ℕ) → w < 2 ^ 64 → ones w ≡ total 64 (λ c. one (nat_lt c 64 && bit w c))
ones_counted w fits = let whole : w ≡ w % 2 ^ 64 = omega arith in ap ones whole ∙ ones_below 64 w (omega arith)
