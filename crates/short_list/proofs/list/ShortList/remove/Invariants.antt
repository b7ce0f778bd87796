use Rattle.std.proofs.Common.{not}
use Rattle.std.proofs.lemmas.List.Filters.{FiltersInPlace}
use Rattle.short_list.proofs.list.ShortList.remove.Given as goal

abbrev pub invariant-loop-at : goal.invariant-loop-at
invariant-loop-at g l = FiltersInPlace (λ x. not (g.T.PartialEq.eq x l.item)) l.initial.self.items l.self.items l.left l.at
