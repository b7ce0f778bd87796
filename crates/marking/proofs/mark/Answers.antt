use Rattle.std.proofs.Common.{rules, arith}
use Rattle.cell_list.proofs.Counted.{pushed}
use Rattle.marking.proofs.Marking.{marking_more, marking_stops, marking_ends}
use Rattle.marking.proofs.Listing.{listing_room, listing_more}
use Rattle.marking.proofs.mark.Goals as goal

pub loop-cell-preserved : goal.loop-cell-preserved
loop-cell-preserved g c =
    let next = rw c.in-Some.is at c.in_ok-cell.ensures.1 in
    let so_far = c.loop-cell.invariant in
    record {
      marking = marking_more _ _ _ next _ _ so_far.marking _ c.scan.ensures.darkens c.in_ok-scan.ensures.scans;
      listing = rw (pushed _ _ _ _ (listing_room _ _ _ _ so_far.listing _ next) c.push.ensures)
          (listing_more _ _ _ _ so_far.listing _ next _ c.scan.ensures.darkens c.in_ok-scan.ensures.scans);
    }

pub returns-in_err-scan-clause-marks : goal.returns-in_err-scan-clause-marks
returns-in_err-scan-clause-marks g c =
    grind (arith, marking_stops _ _ _ (rw c.in-Some.is at c.in_ok-cell.ensures.1) _ _ c.loop-cell.invariant.marking _ c.scan.ensures.darkens c.in_err-scan.ensures.scans.1)

pub returns-clause-marks : goal.returns-clause-marks
returns-clause-marks g c = marking_ends _ _ _ _ c.loop-cell.invariant.marking (rw c.in_default.is at c.in_ok-cell.ensures.1) _ c.loop-cell.invariant.listing.once (search rules)
