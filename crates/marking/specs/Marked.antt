-- What marking a node comes to: the reached cells are black, or one of them is not in use.
-- A cell that is not black then is as it was.
use Rattle.std.specs.Prelude.{◌≡◌, ℕ, ◌<◌, ◌≤◌, Bool, true, false, not, ◌&&◌, ◌⊎◌, List, Ok, Err, Result, nat_lt}
use Rattle.model.specs.Cells.{Cells, is_grey, is_black}
use Rattle.model.specs.Heaps.{in_use}
use Rattle.model.specs.declared.reference.Reference.{Reference}
use Rattle.model.specs.declared.refusal.Refusal.{Refusal}
use Rattle.model.specs.declared.refusal.Refusal.TheVariants.{NoSuchNode, NotInUse}
use Rattle.cell_list.specs.Lists.{CellList, listed, Once}
use Rattle.marking.specs.Reached.{Reached}
use Rattle.marking.specs.Shaded.{Unused}

-- cell c of node n is black now, and was not
abbrev pub has_turned : ℕ → Cells → Cells → ℕ → Bool
has_turned n before after c = nat_lt c 64 && (is_black (after n c) && not (is_black (before n c)))

pub record Marked (n : ℕ) (roots : List Reference) (before after : Cells) (scanned : List ℕ) : Type 0 where
  pub node : n < 16
  pub reached : (c : ℕ) → Reached before n roots c → is_black (after n c) ≡ true
  pub only : (c : ℕ) → is_black (after n c) ≡ true → (is_black (before n c) ≡ true) ⊎ Reached before n roots c
  pub rest : (c : ℕ) → is_black (after n c) ≡ false → after n c ≡ before n c
  pub none_grey : (c : ℕ) → c < 64 → is_grey (after n c) ≡ false
  pub used : (c : ℕ) → Reached before n roots c → in_use before n c ≡ true
  -- the scanned cells are those that turned black, each listed once
  pub each : Once (has_turned n before after) scanned

-- why marking is refused: there is no such node, or a reached cell is not in use; stays says that the heap is as it was
abbrev pub Unmarked : Refusal → ℕ → List Reference → Cells → Type 0 → Type 0
Unmarked why n roots before stays =
    ((why ≡ NoSuchNode) × (16 ≤ n) × stays)
    ⊎ ((why ≡ NotInUse) × (n < 16) × Unused (Reached before n roots) n before)

abbrev pub Marks : ℕ → List Reference → Cells → Result CellList Refusal → Cells → Type 0 → Type 0
Marks n roots before (Ok scanned) after stays = Marked n roots before after (listed scanned)
Marks n roots before (Err why) after stays = Unmarked why n roots before stays
