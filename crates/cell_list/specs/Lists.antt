-- What a list of cells holds, and how often a number stands in a list.
-- There is room for 64; what is added and taken at the end is said for each short list.
use Rattle.std.specs.Prelude.{◌≡◌, ℕ, Bool, not, List, count_by, filter, ◌==◌, nat_eq}
use Rattle.model.specs.Tables.{one}
use Rattle.short_list.specs.declared.list.ShortList.{ShortList}
pub use Rattle.short_list.specs.Lists.{listed, Pushed, Popped, Newest}

abbrev pub CellList : Type 0
CellList = ShortList ℕ 64

-- how often c stands there
abbrev pub times : ℕ → List ℕ → ℕ
times c xs = count_by (λ x. nat_eq x c) xs

-- each number that passes stands there once, and no other stands there
abbrev pub Once : (ℕ → Bool) → List ℕ → Type 0
Once passes xs = (c : ℕ) → times c xs ≡ one (passes c)

-- all but c, in the same order
abbrev pub without : ℕ → List ℕ → List ℕ
without c xs = filter (λ x. not (x == c)) xs
