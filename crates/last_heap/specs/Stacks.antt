-- Stacks of cells, one for each of 16 nodes; the newest cell of a stack is last.
-- A stack may hold just the cells that pass, each once.
use Rattle.std.specs.Prelude.{◌≡◌, ℕ, zero, suc, ◌<◌, Bool, cond, ◌&&◌, List, [], ◌∷◌, ◌++◌, map, Some, None, Option, nat_lt, slice_index_or}
use Rattle.model.specs.Tables.{put}
use Rattle.model.specs.Cells.{Cell, Cells}
use Rattle.cell_list.specs.Lists.{listed, Once}
use Rattle.last_heap.specs.declared.heap.stacks.Stacks.{Stacks}

-- the stack of each node
abbrev pub stack : Stacks → ℕ → List ℕ
stack stacks n = slice_index_or (map listed stacks.lists) n []

-- the same at every node
abbrev pub at_nodes : List ℕ → ℕ → List ℕ
at_nodes xs n = cond (nat_lt n 16) xs []

-- c comes on top at node n
abbrev pub on_top : (ℕ → List ℕ) → ℕ → ℕ → ℕ → List ℕ
on_top stacks n c = put stacks n (stacks n ++ (c ∷ []))

-- the numbers below n, the highest first
unfoldable pub falling : ℕ → List ℕ
falling zero = []
falling (suc n) = n ∷ falling n

-- the numbers below n that pass, the lowest first
unfoldable pub rising : ℕ → (ℕ → Bool) → List ℕ
rising zero test = []
rising (suc n) test = rising n test ++ cond (test n) (n ∷ []) []

-- the top cell of node n is gone, or there was none
abbrev pub Takes : Stacks → ℕ → Option ℕ → Stacks → Type 0
Takes before n None after = (stack before n ≡ []) × (after ≡ before)
Takes before n (Some c) after = stack before ≡ on_top (stack after) n c

-- at each node the stack has each cell that passes once, and no other
pub record Stacked (test : Cell → Bool) (cells : Cells) (stacks : ℕ → List ℕ) : Type 0 where
  pub once : (n : ℕ) → n < 16 → Once (λ c. nat_lt c 64 && test (cells n c)) (stacks n)
