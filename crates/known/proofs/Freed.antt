-- What the heap that makes the cell freed last does at a node, where its cells and the stack of the node's free cells are known.
use Rattle.std.proofs.Common.{◌≡◌, ℕ, suc, List, [], ◌∷◌, ◌++◌, map, None, Ok, Err, Result, sym, refl, ap, ◌∙◌}
use Rattle.std.proofs.lemmas.List.{same_from_push}
use Rattle.model.specs.Refusals.{first_no}
use Rattle.model.specs.Tables.{put₂, first}
use Rattle.model.specs.Cells.{Cell, Cells, all_free, empty_slots, reclaim}
use Rattle.model.specs.Cells.Cell.{used}
use Rattle.model.specs.Heaps.{make_asks, node_asks, Makes, Reclaims}
use Rattle.model.specs.declared.tally.Tally.{Tally}
use Rattle.model.specs.declared.colour.Colour.{Colour}
use Rattle.model.specs.declared.colour.Colour.TheVariants.{White}
use Rattle.model.specs.declared.refusal.Refusal.{Refusal}
use Rattle.model.proofs.Puts.{put_here}
use Rattle.last_heap.specs.Last.{last_cells, frees, all_cells, freed_cells, MakesLast, ReclaimsLast}
use Rattle.last_heap.specs.Stacks.{at_nodes, falling, rising}
use Rattle.last_heap.specs.declared.heap.LastHeap.{LastHeap}

pub record Shows (heap : LastHeap) (n : ℕ) (now : Cells) (stack : List ℕ) : Type 0 where
  pub cells : last_cells heap ≡ now
  pub free : frees heap n ≡ stack

abbrev white : Cell
white = used White empty_slots

pub makes : (before after : LastHeap) (n c : ℕ) (colour : Colour) (cells : Cells) (xs : List ℕ) (r : Result ℕ Refusal) → Shows before n cells (xs ++ (c ∷ [])) → first_no (make_asks cells n) ≡ None
    → Makes last_cells before n colour r after → MakesLast before n colour r after → (r ≡ Ok c) × Shows after n (put₂ cells n c (used colour empty_slots)) xs
makes before after n c colour cells xs (Ok d) shown room (asked, made) (free, grey) =
    let same = same_from_push (frees after n) xs d c (sym (ap (λ f. f n) free ∙ put_here (frees after) n (frees after n ++ (d ∷ []))) ∙ shown.free) in
    (ap Ok same.1, record { cells = rw (← shown.cells, ← same.1) made.cells; free = same.0 })
makes before after n c colour cells xs (Err why) shown room (asked, same) stays = let none = rw shown.cells at asked in cc

pub reclaims : (before after : LastHeap) (n : ℕ) (cells : Cells) (xs : List ℕ) (r : Result Tally Refusal) → Shows before n cells xs → first_no (node_asks n) ≡ None
    → Reclaims last_cells before n r after → ReclaimsLast before n r after → Shows after n (reclaim cells n) (xs ++ freed_cells (cells n))
reclaims before after n cells xs (Ok counts) shown near (asked, done) (free, grey) = record {
  cells = rw (← shown.cells) done.cells;
  free = rw (← shown.cells, ← shown.free) (ap (λ f. f n) free ∙ put_here (frees before) n (frees before n ++ freed_cells (last_cells before n)));
}
reclaims before after n cells xs (Err why) shown near (asked, same) stays = cc

-- the cells that are free besides the two lowest
abbrev rest : List ℕ
rest = map suc (map suc (falling 62))

-- two cells of a new heap are made white and reclaimed: the next make gives the higher one
module _ (heap once : LastHeap) (r : Result ℕ Refusal) (new : last_cells heap ≡ all_free) (stack : frees heap ≡ at_nodes all_cells) (make : Makes last_cells heap 0 White r once) (choice : MakesLast heap 0 White r once) where
  pub first_made : (r ≡ Ok 0) × Shows once 0 (put₂ all_free 0 0 white) (rest ++ (1 ∷ []))
  unfolding falling first
  first_made = makes heap once 0 0 White all_free (rest ++ (1 ∷ [])) r (record { cells = new; free = ap (λ f. f 0) stack }) refl make choice

  module _ (twice : LastHeap) (s : Result ℕ Refusal) (make_2 : Makes last_cells once 0 White s twice) (choice_2 : MakesLast once 0 White s twice) where
    pub second_made : (s ≡ Ok 1) × Shows twice 0 (put₂ (put₂ all_free 0 0 white) 0 1 white) rest
    unfolding first
    second_made = makes once twice 0 1 White (put₂ all_free 0 0 white) rest s first_made.1 refl make_2 choice_2

    pub higher_first : (swept again : LastHeap) (counts : Result Tally Refusal) (t : Result ℕ Refusal)
        → Reclaims last_cells twice 0 counts swept → ReclaimsLast twice 0 counts swept
        → Makes last_cells swept 0 White t again → MakesLast swept 0 White t again → t ≡ Ok 1
    unfolding rising falling first
    higher_first swept again counts t sweep choice_3 make_3 choice_4 =
        let cells = put₂ (put₂ all_free 0 0 white) 0 1 white in
        (makes swept again 0 1 White (reclaim cells 0) (rest ++ (0 ∷ [])) t (reclaims twice swept 0 cells rest counts second_made.1 refl sweep choice_3) refl make_3 choice_4).0
