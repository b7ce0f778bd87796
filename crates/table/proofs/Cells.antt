-- The cells of a row after a change of a set or a slot.
use Rattle.std.proofs.Common.{◌≡◌, ℕ, ◌<◌, true, false, cond, not, ◌&&◌, ltb, length, get_or, set, Option, arith}
use mathlib.Core.Path.{fun_ext}
use Rattle.std.proofs.lemmas.List.{get_or-set_same, get_or-set_other, get_or_default}
use Rattle.std.proofs.lemmas.Bool.Decides.{nat_tests}
use Rattle.model.specs.Tables.{put}
use Rattle.model.specs.Cells.{empty_slots, is_used, is_grey, is_black, written, shaded, blackened, reclaimed}
use Rattle.model.specs.Cells.Cell.{used}
use Rattle.model.specs.declared.colour.Colour.{Colour}
use Rattle.model.specs.declared.reference.Reference.{Reference}
use Rattle.cell_set.specs.Sets.{has}
use Rattle.cell_set.specs.declared.set.CellSet.{CellSet}
use Rattle.table.specs.Rows.{four, no_slots, row_cells}
use Rattle.table.specs.declared.row.Row.{Row}
use Rattle.table.specs.declared.slots.Slots.{Slots}

-- the sets and slots after each call that changes one cell
pub shades : (r : Row) (c : ℕ) (s : CellSet) → is_used (row_cells r c) ≡ true → ((d : ℕ) → has s d ≡ put (has r.grey) c (ltb c 64) d)
    → row_cells (record r { grey = s }) ≡ put (row_cells r) c (shaded (row_cells r c))
unfolding row_cells
shades r c s in_use change = fun_ext (λ d. grind (arith, nat_tests, change d))

pub blackens : (r : Row) (c : ℕ) (s : CellSet) → is_used (row_cells r c) ≡ true → is_grey (row_cells r c) ≡ true → ((d : ℕ) → has s d ≡ put (has r.black) c (ltb c 64) d)
    → row_cells (record r { black = s }) ≡ put (row_cells r) c (blackened (row_cells r c))
unfolding row_cells
blackens r c s in_use grey change = fun_ext (λ d. grind (arith, nat_tests, change d))

pub writes : (r : Row) (c k i : ℕ) (s d : Slots) (what : Option Reference) → is_used (row_cells r c) ≡ true → k ≡ c → k < length r.slots → four s ≡ set (four (get_or r.slots k d)) i what
    → row_cells (record r { slots = set r.slots k s }) ≡ put (row_cells r) c (written i what (row_cells r c))
unfolding row_cells
writes r c k i s d what in_use same room filled = fun_ext (λ e. grind (arith, nat_tests, get_or-set_same r.slots k s no_slots room, get_or-set_other r.slots k e s no_slots, get_or_default r.slots k d no_slots room))

pub occupies : (r : Row) (c k : ℕ) (colour : Colour) (f b g : CellSet) (s : Slots) → c < 64 → k ≡ c → k < length r.slots → four s ≡ empty_slots
    → ((d : ℕ) → has f d ≡ put (has r.free) c false d)
    → ((d : ℕ) → has b d ≡ put (has r.black) c (is_black (used colour empty_slots)) d)
    → ((d : ℕ) → has g d ≡ put (has r.grey) c (is_grey (used colour empty_slots)) d)
    → row_cells (record { free = f; black = b; grey = g; slots = set r.slots k s }) ≡ cond (ltb c 64) (put (row_cells r) c (used colour empty_slots)) (row_cells r)
unfolding row_cells
occupies r c k colour f b g s low same room bare freed blacks greys =
    fun_ext (λ d. grind (arith, nat_tests, freed d, blacks d, greys d, get_or-set_same r.slots k s no_slots room, get_or-set_other r.slots k d s no_slots))

-- where the free cells are all but those that a reclaim keeps, and none is black or grey
pub reclaims : (r : Row) (f b g : CellSet)
    → ((c : ℕ) → has f c ≡ (ltb c 64 && not (is_used (reclaimed (row_cells r c)))))
    → ((c : ℕ) → has b c ≡ false) → ((c : ℕ) → has g c ≡ false)
    → row_cells (record { free = f; black = b; grey = g; slots = r.slots }) ≡ (λ c. reclaimed (row_cells r c))
unfolding row_cells
reclaims r f b g freed no_black no_grey = fun_ext (λ c. grind (arith, nat_tests, freed c, no_black c, no_grey c))
