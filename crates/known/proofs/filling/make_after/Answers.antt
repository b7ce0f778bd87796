use Rattle.std.proofs.Common.{◌≡◌, arith}
use Rattle.std.proofs.lemmas.Grind.{common_steps}
use Rattle.known.proofs.Filled.{filled_more, all_granted, refused}
use Rattle.known.proofs.filling.make_after.Goals as goal

pub returns-in_err-make : goal.returns-in_err-make
returns-in_err-make g c = grind (arith, common_steps, refused _ _ _ c.args.count _ c.loop-made.invariant (omega arith) c.in_err-make.ensures.0)

pub loop-made-preserved : goal.loop-made-preserved
loop-made-preserved g c = filled_more _ _ _ _ _ _ c.loop-made.invariant c.in_ok-make.ensures.0 c.in_ok-make.ensures.1

pub returns-in_ok-make : goal.returns-in_ok-make
returns-in_ok-make g c =
    let last : c.loop-made._made ≡ c.args.count = omega arith in
    all_granted _ _ _ (rw last at (filled_more _ _ _ _ _ _ c.loop-made.invariant c.in_ok-make.ensures.0 c.in_ok-make.ensures.1))
