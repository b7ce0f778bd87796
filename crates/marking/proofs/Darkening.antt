-- Cells of a node that darken keep their slots, so what is named can be read before a step or after it.
-- A scan darkens the cell itself, besides what its slots name.
use Rattle.std.proofs.Common.{◌≡◌, ℕ, arith}
use Rattle.std.proofs.lemmas.Bool.Decides.{nat_tests}
use Rattle.model.specs.Cells.{Cells, slots_of, blackened, change}
use Rattle.marking.specs.Reached.{Named, Around}
use Rattle.marking.specs.Darkened.{Darkened}

pub named_same : (n b c : ℕ) (one other : Cells) → slots_of (other n b) ≡ slots_of (one n b) → Named one n b c → Named other n b c
named_same n b c one other same name = record { slot = name.slot; reference = name.reference; holds = cc (same); names = name.names }

pub darkened_around : (n b : ℕ) (before middle after : Cells) → Darkened (Named before n b) n before middle → after ≡ change blackened middle n b → Darkened (Around before n b) n before after
darkened_around n b before middle after first last = grind (arith, nat_tests)
