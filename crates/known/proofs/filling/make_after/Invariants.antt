use Rattle.known.proofs.Filled.{Filled}
use Rattle.known.proofs.filling.make_after.Given as goal

abbrev pub invariant-loop-made : goal.invariant-loop-made
invariant-loop-made g l = Filled (g.H.Heap.cells l.heap) l.node l._made
