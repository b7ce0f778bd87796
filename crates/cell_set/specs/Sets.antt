-- Which cells a set has.
-- Only numbers below 64 are cells.
use Rattle.std.specs.Prelude.{ℕ, Bool, ◌&&◌, ◌==◌, nat_lt}
use Rattle.std.specs.Int.{bit_at}
use Rattle.cell_set.specs.declared.set.CellSet.{CellSet}

-- bit k of w
abbrev pub bit : ℕ → ℕ → Bool
bit w k = bit_at w k == 1

abbrev pub has : CellSet → ℕ → Bool
has set c = nat_lt c 64 && bit set.word c
