-- The cells that a table holds.
-- Past the last row every cell is free.
use Rattle.std.specs.Prelude.{ℕ, Bool, true, false, List, Some, None, Option, slice_get}
use Rattle.model.specs.Cells.{Cell, Cells}
use Rattle.model.specs.Cells.Cell.{free}
use Rattle.model.specs.declared.colour.Colour.{Colour}
use Rattle.model.specs.declared.colour.Colour.TheVariants.{White, Grey, Black}
use Rattle.table.specs.Rows.{row_cells}
pub use Rattle.table.specs.Rows.{colour_of, cell_of}
unfoldable pub use Rattle.table.specs.Rows.{four}
use Rattle.table.specs.declared.row.Row.{Row}
use Rattle.table.specs.declared.table.Table.{Table}

abbrev pub cells_at : Option Row → ℕ → Cell
cells_at None c = free
cells_at (Some row) c = row_cells row c

unfoldable pub rows_cells : List Row → Cells
rows_cells rows n = cells_at (slice_get rows n)

abbrev pub cells_of : Table → Cells
cells_of t = rows_cells t.rows

-- is a cell of that colour among the black ones, and among the grey ones
abbrev pub shows_black : Colour → Bool
shows_black White = false
shows_black Grey = false
shows_black Black = true

abbrev pub shows_grey : Colour → Bool
shows_grey White = false
shows_grey Grey = true
shows_grey Black = false
