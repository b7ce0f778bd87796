-- What a short list holds, and what is added to it and taken from it at the end.
-- There is room for ROOM.
use Rattle.std.specs.Prelude.{◌≡◌, ℕ, ◌<◌, Bool, true, false, List, [], ◌∷◌, ◌++◌, length, take, Some, None, Option}
use Rattle.short_list.specs.declared.list.ShortList.{ShortList}

module _ {T : Type 0} {ROOM : ℕ} where
  -- the items, oldest first
  abbrev pub listed : ShortList T ROOM → List T
  listed list = take list.len list.items

  -- an item is added where there is room, and only there
  abbrev pub Pushed : ShortList T ROOM → T → Bool → ShortList T ROOM → Type 0
  Pushed before item true after = (length (listed before) < ROOM) × (listed after ≡ listed before ++ (item ∷ []))
  Pushed before item false after = (length (listed before) ≡ ROOM) × (after ≡ before)

  -- the newest is gone, or there was none
  abbrev pub Popped : ShortList T ROOM → Option T → ShortList T ROOM → Type 0
  Popped before None after = (listed before ≡ []) × (after ≡ before)
  Popped before (Some item) after = listed before ≡ listed after ++ (item ∷ [])

-- the newest of a list, or it has none
abbrev pub Newest : {T : Type 0} → List T → Option T → Type 0
Newest xs None = xs ≡ []
Newest {T} xs (Some item) = (older : List T) × (xs ≡ older ++ (item ∷ []))
