-- Reading the slots of a cell one after another: what the slots below i name is dark by now.
-- A cell has four slots, so those below 4 are all.
use Rattle.std.proofs.Common.{◌≡◌, ℕ, ◌+◌, ◌<◌, ◌≤◌, ◌⊎◌, length, get_or, Some, None, Option, sym, inl, inr, ⊎_elim, arith}
use Rattle.std.proofs.lemmas.List.{get_or_past}
use Rattle.std.proofs.lemmas.Bool.{cases_eq}
use Rattle.model.specs.Cells.{Cells, slots_of}
use Rattle.model.specs.References.{Names}
use Rattle.model.specs.declared.reference.Reference.{Reference}
use Rattle.marking.specs.Reached.{Named}
use Rattle.marking.specs.Darkened.{Darkened}
use Rattle.marking.specs.Shaded.{Shaded, Unused}
use Rattle.marking.proofs.Shading.{Shading, shading_so, shading_more, shading_stops}

-- one of the slots of cell b below i names cell c
pub record NamedBelow (cells : Cells) (n b i c : ℕ) : Type 0 where
  pub named : Named cells n b c
  pub low : named.slot < i

abbrev pub Reading : ℕ → ℕ → ℕ → Cells → Cells → Type 0
Reading n b i before after = Shading (Named before n b) (NamedBelow before n b i) n before after

module _ (n b : ℕ) (before : Cells) (i : ℕ) (middle : Cells) (so_far : Reading n b i before middle) where
  all_below : length (slots_of (before n b)) ≤ i → (c : ℕ) → Named before n b c → NamedBelow before n b i c
  all_below past c name = record {
    named = name;
    low = grind (arith, get_or_past (slots_of (before n b)) name.slot None);
  }

  pub reading_ends : length (slots_of (before n b)) ≤ i → Shading (Named before n b) (Named before n b) n before middle
  reading_ends past = shading_so (Named before n b) (NamedBelow before n b i) n before middle so_far (Named before n b) (all_below past)

  -- what was read of slot i is what it held before
  holds : (what : Option Reference) → what ≡ get_or (slots_of (middle n b)) i None → get_or (slots_of (before n b)) i None ≡ what
  holds what read = cc (so_far.darkened.slots b)

  -- slot i was read
  module _ (what : Option Reference) (read : get_or (slots_of (middle n b)) i None ≡ what) where
    held : get_or (slots_of (before n b)) i None ≡ what
    held = holds what (sym read)

    -- a slot below i + 1 is slot i or one below it
    at_or_below : (c : ℕ) → NamedBelow before n b (i + 1) c → ((x : Reference) × (what ≡ Some x) × Names n c x) ⊎ NamedBelow before n b i c
    at_or_below c below = ⊎_elim (λ e. inl (below.named.reference, (cc held), below.named.names)) (λ off. inr (record { named = below.named; low = omega arith })) (cases_eq below.named.slot i)

  pub reading_empty : get_or (slots_of (middle n b)) i None ≡ None → Reading n b (i + 1) before middle
  reading_empty read = shading_so (Named before n b) (NamedBelow before n b i) n before middle so_far (NamedBelow before n b (i + 1))
      (λ c below. ⊎_elim (λ at. cc (at.1)) (λ h. h) (at_or_below None read c below))

  module _ (x : Reference) (read : get_or (slots_of (middle n b)) i None ≡ Some x) where
    among : (c : ℕ) → Names n c x → Named before n b c
    among c names = record { slot = i; reference = x; holds = held (Some x) read; names = names }

    this_or_below : (c : ℕ) → NamedBelow before n b (i + 1) c → NamedBelow before n b i c ⊎ Names n c x
    this_or_below c below = ⊎_elim (λ at. let same : at.0 ≡ x = cc (at.1) in inr (rw same at at.2)) inl (at_or_below (Some x) read c below)

    pub reading_more : (after : Cells) → Darkened (λ c. Names n c x) n middle after → Shaded (λ c. Names n c x) n middle after → Reading n b (i + 1) before after
    reading_more = shading_more (Named before n b) (NamedBelow before n b i) n before middle so_far (λ c. Names n c x) among (NamedBelow before n b (i + 1)) this_or_below

    -- slot i names a cell that is not in use
    pub reading_stops : (after : Cells) → Darkened (λ c. Names n c x) n middle after → Unused (λ c. Names n c x) n middle → Darkened (Named before n b) n before after × Unused (Named before n b) n before
    reading_stops = shading_stops (Named before n b) (NamedBelow before n b i) n before middle so_far (λ c. Names n c x) among
