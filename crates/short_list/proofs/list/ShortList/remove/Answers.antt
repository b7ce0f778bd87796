-- A turn moves an item that stays to the front, and passes over one that goes.
use Rattle.std.proofs.Common.{◌<◌, length, arith}
use Rattle.std.proofs.lemmas.List.{get_or_default}
use Rattle.std.proofs.lemmas.List.Filters.{FiltersInPlace-more_set, FiltersInPlace-more_no}
use Rattle.short_list.proofs.list.ShortList.remove.Goals as goal
use Rattle.short_list.proofs.list.ShortList.remove.Goals.{then-ne, else-ne}

pub loop-at-preserved : goal.loop-at-preserved
loop-at-preserved g c =
    let within : c.loop-at.at < length c.loop-at.self.items = omega (arith, c.loop-at.invariant, c.loop-at-test.true) in
    let read = get_or_default c.loop-at.self.items c.loop-at.at c.index-self-at.result _ within in
    elim c.if-ne.branch [
      | then-ne w ↦ rw (w.self-is, w.left-is) (FiltersInPlace-more_set c.loop-at.invariant within (grind (arith, c.ne.ensures, w.if-ne.true)) read)
      | else-ne w ↦ rw (w.self-is, w.left-is) (FiltersInPlace-more_no c.loop-at.invariant within (grind (arith, c.ne.ensures, w.if-ne.false)) read)
    ]
