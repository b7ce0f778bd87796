use Rattle.std.proofs.Common.{sym, ◌∙◌, arith}
use Rattle.marking.proofs.Reading.{reading_more, reading_empty, reading_stops, reading_ends}
use Rattle.marking.proofs.shade_slots.Goals as goal
use Rattle.marking.proofs.shade_slots.Goals.{in-Some+in_ok-shade_own, in_default}

pub loop-slot-preserved : goal.loop-slot-preserved
loop-slot-preserved g c =
    elim c.match-branch-2.branch [
      | in-Some+in_ok-shade_own w ↦ rw w.heap-is (reading_more _ _ _ _ _ c.loop-slot.invariant _ (sym c.in_ok-reference.ensures.1 ∙ w.in-Some.is) _ w.shade_own.ensures.darkens w.in_ok-shade_own.ensures.shades)
      | in_default w ↦ rw w.heap-is (reading_empty _ _ _ _ _ c.loop-slot.invariant (sym c.in_ok-reference.ensures.1 ∙ w.in_default.is))
    ]

pub returns-in_err-shade_own-clause-shades : goal.returns-in_err-shade_own-clause-shades
returns-in_err-shade_own-clause-shades g c =
    grind (arith, reading_stops _ _ _ _ _ c.loop-slot.invariant _ (sym c.in_ok-reference.ensures.1 ∙ c.in-Some.is) _ c.shade_own.ensures.darkens c.in_err-shade_own.ensures.shades.1)

pub returns-clause-shades : goal.returns-clause-shades
returns-clause-shades g c = (reading_ends _ _ _ _ _ c.loop-slot.invariant (grind (arith, g.met.H.Heap.sized c.args.heap.now c.args.node c.args.cell))).shaded
