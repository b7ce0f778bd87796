-- The list of scanned cells: each cell that has turned black stands in it once.
-- A cell that is grey has not turned yet, so there is room for it.
use Rattle.std.proofs.Common.{◌≡◌, ℕ, ◌<◌, true, not, ◌&&◌, List, [], ◌∷◌, ◌++◌, length, Some, arith}
use Rattle.std.proofs.lemmas.Bool.Decides.{nat_tests}
use Rattle.model.specs.Tables.{put}
use Rattle.model.specs.Cells.{Cells, is_black}
use Rattle.model.specs.Heaps.{GreyCell}
use Rattle.cell_list.specs.Lists.{Once}
use Rattle.cell_list.proofs.Counted.{once_same, once_push, room}
use Rattle.marking.specs.Darkened.{Darkened}
use Rattle.marking.specs.Shaded.{Scanned}
use Rattle.marking.specs.Marked.{has_turned}

pub record Listing (n : ℕ) (before after : Cells) (scanned : List ℕ) : Type 0 where
  pub black : (c : ℕ) → is_black (before n c) ≡ true → is_black (after n c) ≡ true
  pub once : Once (has_turned n before after) scanned

-- cell b was found grey
module _ (n : ℕ) (before middle : Cells) (scanned : List ℕ) (listing : Listing n before middle scanned) (b : ℕ) (next : GreyCell middle n (Some b)) where
  pub listing_room : length scanned < 64
  listing_room = room 64 scanned (λ c. is_black (middle n c) && not (is_black (before n c))) listing.once b next.0 (grind arith)

  pub listing_more : {Which : ℕ → Type 0} (after : Cells) → Darkened Which n middle after → Scanned n b middle after → Listing n before after (scanned ++ (b ∷ []))
  listing_more after step done = record {
    black = λ c e. step.black c (listing.black c e);
    once = once_same (put (has_turned n before middle) b true) (has_turned n before after) (scanned ++ (b ∷ [])) (λ c. grind (arith, nat_tests))
        (once_push (has_turned n before middle) scanned b listing.once (grind arith));
  }
