-- What a test of a cell says of it.
-- Only one cell is free: a cell in use has a colour.
use Rattle.std.proofs.Common.{◌≡◌, true, arith}
use Rattle.model.specs.Cells.{Cell, is_free}
use Rattle.model.specs.Cells.Cell.{free}

pub from_free : (x : Cell) → is_free x ≡ true → x ≡ free
from_free x e = grind arith
