-- How much a node holds, and what comes of one make more.
-- A node holds 64 cells, so the 65th make on it is refused.
use Rattle.std.specs.Prelude.{ℕ, cond, Ok, Err, Result, nat_lt}
use Rattle.model.specs.Tables.{one, total}
use Rattle.model.specs.Cells.{Cells, is_used}
use Rattle.model.specs.declared.refusal.Refusal.{Refusal}
use Rattle.model.specs.declared.refusal.Refusal.TheVariants.{NoSuchNode, NoFreeCell}

-- how many cells of node n are in use
abbrev pub used_count : Cells → ℕ → ℕ
used_count cells n = total 64 (λ c. one (is_used (cells n c)))

-- what comes of one make more on a node of a new heap, after count of them
abbrev pub after_makes : ℕ → ℕ → Result Unit Refusal
after_makes node count = cond (nat_lt node 16) (cond (nat_lt count 64) (Ok tt) (Err NoFreeCell)) (Err NoSuchNode)
