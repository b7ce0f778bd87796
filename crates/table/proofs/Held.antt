-- What a table says of a cell: the cell is what the sets and slots of its node's row say, and a cell in use has four slots.
use Rattle.std.proofs.Common.{◌≡◌, ℕ, ◌-◌, ◌^◌, ◌<◌, ◌≤◌, true, [], length, get_or, arith}
use Rattle.std.proofs.lemmas.Bool.Decides.{nat_tests}
use Rattle.std.proofs.lemmas.Nat.Bits.{bit_at_ones}
use Rattle.std.proofs.lemmas.List.{get_or_past}
use Rattle.std.proofs.lemmas.Option.{slice_get-get_or, slice_get_past}
use Rattle.model.specs.Cells.{Cell, is_used, slots_of}
use Rattle.model.specs.Cells.Cell.{free}
use Rattle.cell_set.specs.Sets.{has}
use Rattle.table.specs.Rows.{slots_at, row_cells}
use Rattle.table.specs.Tables.{four, cell_of, rows_cells, cells_of}
use Rattle.table.specs.declared.row.Row.{Row}
use Rattle.table.specs.declared.table.Table.{Table}

-- the row of a node; past the last one, a row of free cells
abbrev pub free_row : Row
free_row = record { free = record { word = 2 ^ 64 - 1 }; black = record { word = 0 }; grey = record { word = 0 }; slots = [] }

abbrev pub row_of : Table → ℕ → Row
row_of t n = get_or t.rows n free_row

-- the cell by the sets and slots of its row
abbrev pub held : Table → ℕ → ℕ → Cell
held t n c = cell_of (has (row_of t n).free c) (has (row_of t n).black c) (has (row_of t n).grey c) (slots_at (row_of t n) c)

-- each of the 64 cells of a node is that
pub cell_in : (t : Table) (n c : ℕ) → c < 64 → cells_of t n c ≡ held t n c
unfolding row_cells rows_cells
cell_in t n c low = grind (arith, nat_tests, slice_get-get_or t.rows n free_row, slice_get_past t.rows n, get_or_past t.rows n free_row, bit_at_ones 64 c low)

-- a number that is no cell's is free
pub cell_past : (t : Table) (n c : ℕ) → 64 ≤ c → cells_of t n c ≡ free
unfolding row_cells rows_cells
cell_past t n c past = grind (arith, nat_tests)

-- a cell in use has four slots
pub sized : (t : Table) (n c : ℕ) → is_used (cells_of t n c) ≡ true → length (slots_of (cells_of t n c)) ≡ 4
unfolding four row_cells rows_cells
sized t n c e = grind (arith, nat_tests)
