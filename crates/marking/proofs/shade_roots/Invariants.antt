use Rattle.marking.proofs.Holding.{Holding}
use Rattle.marking.proofs.shade_roots.Given as goal

abbrev pub invariant-loop-root : goal.invariant-loop-root
invariant-loop-root g l = Holding l.node l.roots l.root-index (g.H.Heap.cells l.initial.heap) (g.H.Heap.cells l.heap)
