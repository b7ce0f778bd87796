-- Shading in steps: of the cells which, those done are dark by now.
-- At the end all are done, or one of them was found not to be in use.
use Rattle.std.proofs.Common.{ℕ, ◌⊎◌, arith}
use Rattle.model.specs.Cells.{Cells}
use Rattle.marking.specs.Darkened.{Darkened}
use Rattle.marking.specs.Shaded.{Shaded, Unused}

pub record Shading (Which Done : ℕ → Type 0) (n : ℕ) (before after : Cells) : Type 0 where
  pub darkened : Darkened Which n before after
  pub shaded : Shaded Done n before after

module _ (Which Done : ℕ → Type 0) (n : ℕ) (before middle : Cells) (so_far : Shading Which Done n before middle) where
  -- what is done reads otherwise
  pub shading_so : (All : ℕ → Type 0) → ((c : ℕ) → All c → Done c) → Shading Which All n before middle
  shading_so All done = grind arith

  module _ (Next : ℕ → Type 0) (among : (c : ℕ) → Next c → Which c) where
    -- the next step goes on
    pub shading_more : (More : ℕ → Type 0) → ((c : ℕ) → More c → Done c ⊎ Next c) → (after : Cells) → Darkened Next n middle after → Shaded Next n middle after → Shading Which More n before after
    shading_more More cases after step next = grind arith

    -- the next step meets a cell that is not in use
    pub shading_unused : Unused Next n middle → Unused Which n before
    shading_unused unused = grind arith

    -- and what has darkened by then is all among the cells
    pub shading_stops : (after : Cells) → Darkened Next n middle after → Unused Next n middle → Darkened Which n before after × Unused Which n before
    shading_stops after step unused = (grind arith, shading_unused unused)
