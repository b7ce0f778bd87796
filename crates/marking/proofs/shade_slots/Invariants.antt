use Rattle.marking.proofs.Reading.{Reading}
use Rattle.marking.proofs.shade_slots.Given as goal

abbrev pub invariant-loop-slot : goal.invariant-loop-slot
invariant-loop-slot g l = Reading l.node l.cell l.slot (g.H.Heap.cells l.initial.heap) (g.H.Heap.cells l.heap)
