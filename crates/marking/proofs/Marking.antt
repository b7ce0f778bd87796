-- Marking under way: what it keeps from scan to scan, and what that says once no cell is grey.
-- A scan leaves fewer cells that are not black.
use Rattle.std.proofs.Common.{◌≡◌, ℕ, ◌<◌, true, false, not, List, Some, None, refl, sym, inl, inr, ⊎_elim, arith}
use Rattle.model.specs.Tables.{one, total}
use Rattle.model.specs.Cells.{Cells, is_black}
use Rattle.model.specs.Heaps.{GreyCell}
use Rattle.model.specs.Refusals.{number}
use Rattle.model.specs.declared.reference.Reference.{Reference}
use Rattle.model.specs.declared.refusal.Refusal.{Refusal}
use Rattle.model.specs.declared.refusal.Refusal.TheVariants.{NotInUse}
use Rattle.marking.specs.Reached.{Held, Named, Around, Reached}
use Rattle.marking.specs.Reached.Reached.{held, grey, slot}
use Rattle.marking.specs.Darkened.{is_dark, Darkened}
use Rattle.marking.specs.Shaded.{Scanned, Unused}
use Rattle.cell_list.specs.Lists.{Once}
use Rattle.marking.specs.Marked.{has_turned, Marked, Unmarked}
use Rattle.model.proofs.Totals.{total_lt}
use Rattle.marking.proofs.Darkening.{named_same}

-- the roots are dark, and so is what the slots of a cell that has turned black name
pub record Marking (n : ℕ) (roots : List Reference) (before after : Cells) : Type 0 where
  pub darkened : Darkened (Reached before n roots) n before after
  pub roots_dark : (c : ℕ) → Held n roots c → is_dark (after n c) ≡ true
  pub slots_dark : (b c : ℕ) → is_black (after n b) ≡ true → is_black (before n b) ≡ false → Named before n b c → is_dark (after n c) ≡ true

-- how many cells are not black
abbrev pub left_count : ℕ → Cells → ℕ
left_count n cells = total 64 (λ c. one (not (is_black (cells n c))))

reached_low : (n : ℕ) (roots : List Reference) (cells : Cells) (c : ℕ) → Reached cells n roots c → c < 64
reached_low n roots cells c (held h) = omega arith
reached_low n roots cells c (grey low is) = low
reached_low n roots cells c (slot r unread name) = omega arith

-- cell b was found grey, and the step that follows is a scan of it
module _ (n : ℕ) (middle : Cells) (b : ℕ) (next : GreyCell middle n (Some b)) where
  pub fewer_left : (after : Cells) → Darkened (Around middle n b) n middle after → Scanned n b middle after → left_count n after < left_count n middle
  fewer_left after step scanned =
      total_lt 64 (λ c. one (not (is_black (after n c)))) (λ c. one (not (is_black (middle n c)))) b next.0 (λ c h. grind (arith, step.black c)) (grind (arith, scanned.done))

  module _ (roots : List Reference) (before : Cells) (marking : Marking n roots before middle) where
    unread : is_black (before n b) ≡ false
    unread = grind arith

    reached : Reached before n roots b
    reached = ⊎_elim (λ same. grey next.0 (rw same at next.1)) (λ r. r) (marking.darkened.only b)

    through : (c : ℕ) → Named middle n b c → Reached before n roots c
    through c name = slot reached unread (named_same n b c middle before (sym (marking.darkened.slots b)) name)

    around : (c : ℕ) → Around middle n b c → Reached before n roots c
    around c (inl e) = rw e reached
    around c (inr name) = through c name

    module _ (after : Cells) (step : Darkened (Around middle n b) n middle after) where
      pub marking_darkens : Darkened (Reached before n roots) n before after
      marking_darkens = grind (arith, around)

      pub marking_more : Scanned n b middle after → Marking n roots before after
      marking_more scanned = record {
        darkened = marking_darkens;
        roots_dark = λ c h. step.dark c (marking.roots_dark c h);
        slots_dark = λ k c now was name. ⊎_elim
            (λ e. step.dark c (marking.slots_dark k c e was name))
            (λ e. scanned.dark c (named_same n b c before middle (marking.darkened.slots b) (rw e at name)))
            (scanned.black k now);
      }

      -- the scan meets a cell that is not in use
      pub marking_stops : Unused (Named middle n b) n middle → Darkened (Reached before n roots) n before after × Unused (Reached before n roots) n before
      marking_stops unused = (marking_darkens, grind (arith, through))

-- what is held is reached
pub held_unused : (n : ℕ) (roots : List Reference) (cells : Cells) → Unused (Held n roots) n cells → Unused (Reached cells n roots) n cells
held_unused n roots cells unused = grind (arith, held)

pub held_darkened : (n : ℕ) (roots : List Reference) (before after : Cells) → Darkened (Held n roots) n before after → Darkened (Reached before n roots) n before after
held_darkened n roots before after darkened = grind (arith, held)

-- no cell is grey
module _ (n : ℕ) (roots : List Reference) (before after : Cells) (marking : Marking n roots before after) (none : GreyCell after n None) where
  turned : (c : ℕ) → c < 64 → is_dark (after n c) ≡ true → is_black (after n c) ≡ true
  turned c low dark = grind (arith, none c low)

  black : (c : ℕ) → Reached before n roots c → is_black (after n c) ≡ true
  black c (held h) = turned c (omega arith) (marking.roots_dark c h)
  black c (grey low is) = turned c low (marking.darkened.dark c (grind arith))
  black c (slot {b} r unread name) = turned c (omega arith) (marking.slots_dark b c (black b r) unread name)

  pub marking_ends : (scanned : List ℕ) → Once (has_turned n before after) scanned → n < 16 → Marked n roots before after scanned
  marking_ends scanned once near = record {
    node = near;
    reached = black;
    only = λ c e. grind (arith, marking.darkened.only c);
    rest = λ c e. grind (arith, marking.darkened.only c, black c);
    none_grey = none;
    used = λ c r. grind (arith, reached_low n roots before c r, marking.darkened.used c, black c r);
    each = once;
  }

-- a refusal that bears the number of a cell not in use says that a reached cell is not
pub unmarked : (n : ℕ) (roots : List Reference) (before : Cells) (stays : Type 0) (why : Refusal) → number why ≡ 15 → n < 16 → Unused (Reached before n roots) n before → Unmarked why n roots before stays
unmarked n roots before stays NotInUse e near unused = inr (refl, near, unused)
unmarked n roots before stays why e near unused = absurd (omega arith)
