-- Going through the roots one after another: what the first i of them name is dark by now.
-- One more root adds what it names.
use Rattle.std.proofs.Common.{◌≡◌, ℕ, ◌+◌, ◌<◌, ◌⊎◌, List, length, get_or, take, ◌∙◌, inl, inr, ⊎_elim}
use Rattle.std.proofs.lemmas.List.{take_more}
use Rattle.std.proofs.lemmas.List.Elements.{Contains-get_or, Contains-push_cases}
use Rattle.model.specs.Cells.{Cells}
use Rattle.model.specs.References.{Names}
use Rattle.model.specs.declared.reference.Reference.{Reference}
use Rattle.marking.specs.Reached.{Held}
use Rattle.marking.specs.Darkened.{Darkened}
use Rattle.marking.specs.Shaded.{Shaded, Unused}
use Rattle.marking.proofs.Shading.{Shading, shading_more, shading_unused, shading_stops}

abbrev pub Holding : ℕ → List Reference → ℕ → Cells → Cells → Type 0
Holding n roots i before after = Shading (Held n roots) (Held n (take i roots)) n before after

module _ (n : ℕ) (roots : List Reference) (before : Cells) (i : ℕ) (middle : Cells) (so_far : Holding n roots i before middle) (low : i < length roots) (x : Reference) (read : x ≡ get_or roots i x) where
  among : (c : ℕ) → Names n c x → Held n roots c
  among c names = record { reference = x; stands = rw read (Contains-get_or roots i x low); names = names }

  before_or_at : (c : ℕ) → Held n (take (i + 1) roots) c → Held n (take i roots) c ⊎ Names n c x
  before_or_at c held = ⊎_elim
      (λ has. inl (record { reference = held.reference; stands = has; names = held.names }))
      (λ e. let same : x ≡ held.reference = read ∙ e in inr (rw same held.names))
      (Contains-push_cases (take i roots) (get_or roots i x) held.reference (rw (take_more roots i x low) at held.stands))

  pub holding_more : (after : Cells) → Darkened (λ c. Names n c x) n middle after → Shaded (λ c. Names n c x) n middle after → Holding n roots (i + 1) before after
  holding_more = shading_more (Held n roots) (Held n (take i roots)) n before middle so_far (λ c. Names n c x) among (Held n (take (i + 1) roots)) before_or_at

  -- one more root names a cell that is not in use
  pub holding_unused : Unused (λ c. Names n c x) n middle → Unused (Held n roots) n before
  holding_unused = shading_unused (Held n roots) (Held n (take i roots)) n before middle so_far (λ c. Names n c x) among

  -- and what has darkened by then is all held
  pub holding_stops : (after : Cells) → Darkened (λ c. Names n c x) n middle after → Unused (λ c. Names n c x) n middle → Darkened (Held n roots) n before after × Unused (Held n roots) n before
  holding_stops = shading_stops (Held n roots) (Held n (take i roots)) n before middle so_far (λ c. Names n c x) among
