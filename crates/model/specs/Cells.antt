-- What a heap holds: at each node and each number a cell, free or in use.
-- A cell in use has a colour and slots; a slot is empty or holds a reference.
use Rattle.std.specs.Prelude.{ℕ, Bool, true, false, List, [], ◌∷◌, None, Option, slice_set}
use Rattle.model.specs.Tables.{put, put₂, one, total}
use Rattle.model.specs.declared.colour.Colour.{Colour}
use Rattle.model.specs.declared.colour.Colour.TheVariants.{White, Grey, Black}
use Rattle.model.specs.declared.reference.Reference.{Reference}

abbrev pub Slots : Type 0
Slots = List (Option Reference)

pub data Cell : Type 0 where
  free : Cell
  used : Colour → Slots → Cell

abbrev pub Cells : Type 0
Cells = ℕ → ℕ → Cell

abbrev pub all_free : Cells
all_free n c = free

-- what a cell holds when it is made
abbrev pub empty_slots : Slots
empty_slots = None ∷ None ∷ None ∷ None ∷ []

abbrev pub slots_of : Cell → Slots
slots_of free = []
slots_of (used colour slots) = slots

abbrev pub is_free : Cell → Bool
is_free free = true
is_free (used colour slots) = false

abbrev pub is_used : Cell → Bool
is_used free = false
is_used (used colour slots) = true

abbrev pub is_white : Cell → Bool
is_white free = false
is_white (used White slots) = true
is_white (used Grey slots) = false
is_white (used Black slots) = false

abbrev pub is_grey : Cell → Bool
is_grey free = false
is_grey (used White slots) = false
is_grey (used Grey slots) = true
is_grey (used Black slots) = false

abbrev pub is_black : Cell → Bool
is_black free = false
is_black (used White slots) = false
is_black (used Grey slots) = false
is_black (used Black slots) = true

-- slot i holds what is given
abbrev pub written : ℕ → Option Reference → Cell → Cell
written i what free = free
written i what (used colour slots) = used colour (slice_set slots i what)

-- white turns grey
abbrev pub shaded : Cell → Cell
shaded free = free
shaded (used White slots) = used Grey slots
shaded (used Grey slots) = used Grey slots
shaded (used Black slots) = used Black slots

-- grey turns black
abbrev pub blackened : Cell → Cell
blackened free = free
blackened (used White slots) = used White slots
blackened (used Grey slots) = used Black slots
blackened (used Black slots) = used Black slots

-- a white cell is freed, any other turns white
abbrev pub reclaimed : Cell → Cell
reclaimed free = free
reclaimed (used White slots) = free
reclaimed (used Grey slots) = used White slots
reclaimed (used Black slots) = used White slots

-- one cell is changed
abbrev pub change : (Cell → Cell) → Cells → ℕ → ℕ → Cells
change f cells n c = put₂ cells n c (f (cells n c))

-- every cell of node n is reclaimed
abbrev pub reclaim : Cells → ℕ → Cells
reclaim cells n = put cells n (λ c. reclaimed (cells n c))

-- how many cells of node n a reclaim frees, and how many it keeps
abbrev pub freed_count : Cells → ℕ → ℕ
freed_count cells n = total 64 (λ c. one (is_white (cells n c)))

abbrev pub kept_count : Cells → ℕ → ℕ
kept_count cells n = total 64 (λ c. one (is_used (reclaimed (cells n c))))
