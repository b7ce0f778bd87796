-- What a reference names, and the question that its making asks.
-- There are 16 nodes of 64 cells.
use Rattle.std.specs.Prelude.{◌≡◌, ℕ, ◌&&◌, [], ◌∷◌, nat_lt}
use Rattle.model.specs.Refusals.{Questions}
use Rattle.model.specs.declared.reference.Reference.{Reference}
use Rattle.model.specs.declared.refusal.Refusal.TheVariants.{OutOfRange}

abbrev pub reference_asks : ℕ → ℕ → Questions
reference_asks node cell = (OutOfRange, (nat_lt node 16 && nat_lt cell 64)) ∷ []

abbrev pub Names : ℕ → ℕ → Reference → Type 0
Names node cell x = (x.node ≡ node) × (x.cell ≡ cell)
