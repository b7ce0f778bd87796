-- The cells that a heap which goes round chooses.
use Rattle.std.proofs.Common.{◌≡◌, ℕ, ◌<◌, Bool, ◌&&◌, ltb, leb, length, List, get_or, set, ok_or, Option, Result, arith}
use Rattle.std.proofs.lemmas.List.{get_or-set_same, get_or-set_other}
use Rattle.std.proofs.lemmas.Bool.Decides.{nat_tests}
use Rattle.model.specs.Tables.{put, first, or_else}
use Rattle.model.specs.Refusals.{Answers}
use Rattle.model.specs.Cells.{Cells, is_free, is_grey}
use Rattle.model.specs.Heaps.{make_asks, GreyCell}
use Rattle.model.specs.declared.refusal.Refusal.{Refusal}
use Rattle.model.specs.declared.refusal.Refusal.TheVariants.{NoFreeCell}
use Rattle.model.proofs.Firsts.{first_same, first_found, first_is_some}
use Rattle.model.proofs.Colours.{from_free}
use Rattle.cell_set.specs.Sets.{has}
use Rattle.cell_set.specs.declared.set.CellSet.{CellSet}
use Rattle.next_heap.specs.Next.{next_cells, starts, NextFree}
use Rattle.next_heap.specs.declared.heap.NextHeap.{NextHeap}

-- the first cell of the set of a node's free cells, going round
pub chooses : (heap : NextHeap) (n : ℕ) (set : CellSet) (r : Option ℕ) (answer : Result ℕ Refusal) → n < 16
    → ((c : ℕ) → has set c ≡ (ltb c 64 && is_free (next_cells heap n c)))
    → r ≡ or_else (first 64 (λ c. leb (starts heap n) c && has set c)) (first 64 (has set)) → answer ≡ ok_or r NoFreeCell
    → Answers (make_asks (next_cells heap) n) answer (Unit {0}) (NextFree heap n)
chooses heap n set r answer near frees is answered =
    let free : ℕ → Bool = λ c. is_free (next_cells heap n c) in
    let from = starts heap n in
    let from_on : first 64 (λ c. leb from c && has set c) ≡ first 64 (λ c. leb from c && free c) = first_same 64 _ _ (λ c h. grind (arith, nat_tests, frees c)) in
    let all : first 64 (has set) ≡ first 64 free = first_same 64 _ _ (λ c h. grind (arith, nat_tests, frees c)) in
    grind (arith, nat_tests, first_found 64 (λ c. leb from c && free c), first_found 64 free, first_is_some 64 free, from_free)

-- the lowest cell of the set of a node's grey cells
pub grey_lowest : (cells : Cells) (n : ℕ) (set : CellSet) (r : Option ℕ) → ((c : ℕ) → has set c ≡ is_grey (cells n c)) → r ≡ first 64 (has set) → GreyCell cells n r
grey_lowest cells n set r greys is = grind (arith, nat_tests, greys, first_found 64 (has set))

-- where node n starts is changed
pub started : (xs : List ℕ) (n start m : ℕ) → length xs ≡ 16 → n < 16 → get_or (set xs n start) m 0 ≡ put (λ k. get_or xs k 0) n start m
started xs n start m wide near = grind (arith, nat_tests, get_or-set_same xs n start 0, get_or-set_other xs n m start 0)
