-- What a message bears, when two messages are the same, and how often one stands in a list.
-- Of messages that wait only these counts matter.
use Rattle.std.specs.Prelude.{◌≡◌, ℕ, ◌+◌, Bool, true, false, ◌&&◌, List, [], ◌∷◌, ◌==◌}
use Rattle.model.specs.Tables.{one}
use Rattle.model.specs.Kinds.{kind_number}
use Rattle.model.specs.declared.kind.Kind.{Kind}
use Rattle.model.specs.declared.kind.Kind.TheVariants.{Open, Opened, Start, Mark, Ref, RefAck, Sweep, Swept}
use Rattle.model.specs.declared.message.Message.{Message}

abbrev pub Bears : ℕ → ℕ → Kind → Message → Type 0
Bears from to kind m = (m.from ≡ from) × (m.to ≡ to) × (m.kind ≡ kind)

-- is it for node n
abbrev pub for : ℕ → Message → Bool
for n m = m.to == n

-- what a kind carries, in numbers
abbrev pub carried : Kind → List ℕ
carried Open = []
carried Opened = []
carried Start = []
carried (Mark x) = x.node ∷ x.cell ∷ []
carried (Ref x register stamp) = x.node ∷ x.cell ∷ register ∷ stamp ∷ []
carried (RefAck stamp) = stamp ∷ []
carried Sweep = []
carried (Swept freed kept) = freed ∷ kept ∷ []

-- all that tells a message from others
abbrev pub numbers : Message → List ℕ
numbers m = m.from ∷ m.to ∷ kind_number m.kind ∷ carried m.kind

abbrev pub equal : List ℕ → List ℕ → Bool
equal [] [] = true
equal [] (y ∷ ys) = false
equal (x ∷ xs) [] = false
equal (x ∷ xs) (y ∷ ys) = x == y && equal xs ys

unfoldable pub same : Message → Message → Bool
same m other = equal (numbers m) (numbers other)

-- the sum of a measure over messages
abbrev pub sum : (Message → ℕ) → List Message → ℕ
sum f [] = 0
sum f (m ∷ more) = f m + sum f more

-- how many pass
abbrev pub how_many : (Message → Bool) → List Message → ℕ
how_many test = sum (λ m. one (test m))

-- how often m stands there
abbrev pub times : Message → List Message → ℕ
times m = how_many (same m)

-- m stands once more in `after`, and any other message as often as in `before`
abbrev pub Added : Message → List Message → List Message → Type 0
Added m before after = (x : Message) → times x after ≡ times x (m ∷ before)
