-- The cells of a table by its rows.
use Rattle.std.proofs.Common.{◌≡◌, ℕ, ◌+◌, ◌<◌, ◌≤◌, List, length, get_or, set, replicate, arith}
use Rattle.std.proofs.lemmas.List.{length-set, length-replicate, get_or-set_same, get_or-set_other, get_or-replicate, set-get_or}
use mathlib.Core.Path.{fun_ext}
use Rattle.std.proofs.lemmas.Bool.Decides.{nat_tests}
use Rattle.std.proofs.lemmas.Option.{slice_get-get_or, slice_get_past}
use Rattle.model.specs.Tables.{put}
use Rattle.model.specs.Cells.{all_free}
use Rattle.model.specs.Cells.Cell.{free}
use Rattle.table.specs.Rows.{row_cells}
use Rattle.table.specs.Tables.{rows_cells}
use Rattle.table.specs.declared.row.Row.{Row}

-- a node has the cells of its row
pub row_at : (rows : List Row) (n : ℕ) (d : Row) → n < length rows → row_cells (get_or rows n d) ≡ rows_cells rows n
unfolding rows_cells
row_at rows n d near = grind (arith, slice_get-get_or rows n d)

-- one row changes
pub row_put : (rows : List Row) (n : ℕ) (r : Row) → n < length rows → rows_cells (set rows n r) ≡ put (rows_cells rows) n (row_cells r)
unfolding rows_cells
row_put rows n r near = fun_ext (λ m. grind (
  arith,
  nat_tests,
  length-set rows n r,
  slice_get-get_or rows m r,
  slice_get-get_or (set rows n r) m r,
  slice_get_past rows m,
  slice_get_past (set rows n r) m,
  get_or-set_same rows n r r,
  get_or-set_other rows n m r r,
))

-- and a row that is put back as it was changes nothing
pub ruleset rows = (row_at, row_put, set-get_or)

-- where each row has free cells alone
pub all_freed : (r : Row) → ((c : ℕ) → row_cells r c ≡ free) → rows_cells (replicate 16 r) ≡ all_free
unfolding rows_cells
all_freed r each = fun_ext (λ n. fun_ext (λ c. grind (arith, slice_get-get_or (replicate 16 r) n r, slice_get_past (replicate 16 r) n, get_or-replicate 16 n r r, each c)))

-- the rows below i have free cells alone, of sixteen
pub record Cleared (rows : List Row) (i : ℕ) : Type 0 where
  pub wide : length rows ≡ 16
  pub freed : (n : ℕ) → n < i → (c : ℕ) → rows_cells rows n c ≡ free

-- and row i is cleared
pub cleared_more : (rows : List Row) (i j : ℕ) (r : Row) → Cleared rows i → i < 16 → j ≡ i + 1 → ((c : ℕ) → row_cells r c ≡ free) → Cleared (set rows i r) j
cleared_more rows i j r old near next freed = record {
  wide = omega (arith, old.wide, length-set rows i r);
  freed = λ n low c. grind (arith, nat_tests, row_put rows i r, old.wide, old.freed n, freed c);
}

-- where all have, the table has
pub all_cleared : (rows : List Row) (i : ℕ) → Cleared rows i → 16 ≤ i → rows_cells rows ≡ all_free
unfolding rows_cells
all_cleared rows i all past = fun_ext (λ n. fun_ext (λ c. grind (arith, nat_tests, slice_get_past rows n, all.wide, all.freed n)))
