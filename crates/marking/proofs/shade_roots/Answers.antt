use Rattle.marking.proofs.Holding.{holding_more}
use Rattle.marking.proofs.shade_roots.Goals as goal

pub loop-root-preserved : goal.loop-root-preserved
loop-root-preserved g c = holding_more _ _ _ _ _ c.loop-root.invariant c.loop-root-test.true _ c.root-item.is _ c.shade_own.ensures.darkens c.in_ok-shade_own.ensures.shades
