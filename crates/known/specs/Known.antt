-- The known values: what comes of the calls that each is named for.
-- The cell of a granted make is told only where it is known.
use Rattle.std.specs.Prelude.{[], ◌∷◌, Ok, Err}
use Rattle.model.specs.declared.refusal.Refusal.TheVariants.{NoFreeCell}
use Rattle.known.specs.declared.values.KnownValues.{KnownValues}
pub use Rattle.known.specs.Filling.{used_count, after_makes}

abbrev pub known_outcomes : KnownValues
known_outcomes = record {
  next_heap = Ok tt ∷ Err NoFreeCell ∷ [];
  last_heap = Ok tt ∷ Err NoFreeCell ∷ [];
  freed_last = Ok 1;
}
