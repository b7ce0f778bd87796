-- Stacks of which one node's is replaced, and stacks that are the same at every node.
use Rattle.std.proofs.Common.{◌≡◌, ℕ, zero, suc, ◌<◌, cond, ltb, List, [], map, length, get_or, set, replicate, Option, arith}
use mathlib.Core.Path.{fun_ext}
use Rattle.std.proofs.lemmas.Bool.Decides.{nat_tests}
use Rattle.std.proofs.lemmas.List.{map-set, length-map, get_or-map, get_or-set_same, get_or-set_other, set-get_or}
use Rattle.model.specs.Tables.{put}
use Rattle.cell_list.specs.Lists.{CellList, listed, Popped}
use Rattle.last_heap.specs.Stacks.{stack, at_nodes, Takes}
use Rattle.last_heap.specs.declared.heap.stacks.Stacks.{Stacks}

-- the same list at each of k nodes
same_each : (k : ℕ) (list : CellList) (n : ℕ) → get_or (map listed (replicate k list)) n [] ≡ cond (ltb n k) (listed list) []
same_each zero list n = grind (arith, nat_tests)
same_each (suc k) list zero = grind (arith, nat_tests)
same_each (suc k) list (suc n) = grind (arith, nat_tests, same_each k list n)

pub same_stacks : (list : CellList) → stack (record { lists = replicate 16 list }) ≡ at_nodes (listed list)
same_stacks list = fun_ext (same_each 16 list)

-- a node's list is another
pub set_list : (lists : List CellList) (n : ℕ) (list : CellList) (m : ℕ) → n < length lists → get_or (map listed (set lists n list)) m [] ≡ put (λ k. get_or (map listed lists) k []) n (listed list) m
set_list lists n list m near =
    grind (arith, nat_tests, map-set listed lists n list, length-map lists listed, get_or-set_same (map listed lists) n (listed list) [], get_or-set_other (map listed lists) n m (listed list) [])

-- the stack of a node by its list
pub list_at : (lists : List CellList) (n : ℕ) (default : CellList) → n < length lists → get_or (map listed lists) n [] ≡ listed (get_or lists n default)
list_at lists n default near = get_or-map listed lists n default [] near

-- a node's list is popped
pub takes : (stacks : Stacks) (n : ℕ) (default after : CellList) (r : Option ℕ) → n < length stacks.lists → Popped (get_or stacks.lists n default) r after → Takes stacks n r (record { lists = set stacks.lists n after })
takes stacks n default after r near popped = grind (arith, nat_tests, list_at, set_list, set-get_or stacks.lists n default)
