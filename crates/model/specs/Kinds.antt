-- The numbers of the kinds of messages, and the ranges that a message keeps.
-- There are 16 nodes with 8 registers and 64 cells each; stamps are 0 and 1.
use Rattle.std.specs.Prelude.{ℕ, ◌+◌, Bool, true, not, ◌&&◌, [], ◌∷◌, ◌==◌, nat_le, nat_lt}
use Rattle.model.specs.Refusals.{Questions}
use Rattle.model.specs.declared.kind.Kind.{Kind}
use Rattle.model.specs.declared.kind.Kind.TheVariants.{Open, Opened, Start, Mark, Ref, RefAck, Sweep, Swept}
use Rattle.model.specs.declared.refusal.Refusal.TheVariants.{OutOfRange}

abbrev pub kind_number : Kind → ℕ
kind_number Open = 1
kind_number Opened = 2
kind_number Start = 3
kind_number (Mark x) = 4
kind_number (Ref x register stamp) = 5
kind_number (RefAck stamp) = 6
kind_number Sweep = 7
kind_number (Swept freed kept) = 8

-- what a kind carries keeps its ranges, in a message to that node; a reference keeps its own
abbrev pub carries : ℕ → Kind → Bool
carries to Open = true
carries to Opened = true
carries to Start = true
carries to (Mark x) = x.node == to
carries to (Ref x register stamp) = nat_lt register 8 && nat_lt stamp 2
carries to (RefAck stamp) = nat_lt stamp 2
carries to Sweep = true
carries to (Swept freed kept) = nat_le (freed + kept) 64

abbrev pub fits : ℕ → ℕ → Kind → Bool
fits from to kind = nat_lt from 16 && (nat_lt to 16 && (not (from == to) && carries to kind))

abbrev pub message_asks : ℕ → ℕ → Kind → Questions
message_asks from to kind = (OutOfRange, fits from to kind) ∷ []
