-- How references, kinds and refusals are written, byte by byte.
-- Numbers are decimal.
use Rattle.std.specs.Prelude.{ℕ, List, ◌++◌, codes, decimal}
use Rattle.model.specs.Refusals.{number}
use Rattle.model.specs.declared.reference.Reference.{Reference}
use Rattle.model.specs.declared.refusal.Refusal.{Refusal}
use Rattle.model.specs.declared.kind.Kind.{Kind}
use Rattle.model.specs.declared.kind.Kind.TheVariants.{Open, Opened, Start, Mark, Ref, RefAck, Sweep, Swept}

abbrev pub reference_text : Reference → List ℕ
reference_text x = decimal x.node ++ (codes ":" ++ decimal x.cell)

abbrev pub refusal_text : Refusal → List ℕ
refusal_text x = codes "refusal " ++ decimal (number x)

-- a kind by its name, and what it carries
abbrev pub kind_text : Kind → List ℕ
kind_text Open = codes "Open"
kind_text Opened = codes "Opened"
kind_text Start = codes "Start"
kind_text (Mark x) = codes "Mark " ++ reference_text x
kind_text (Ref x register stamp) =
    codes "Ref " ++ (reference_text x ++ (codes " for register " ++ (decimal register ++ (codes ", stamp " ++ decimal stamp))))
kind_text (RefAck stamp) = codes "RefAck, stamp " ++ decimal stamp
kind_text Sweep = codes "Sweep"
kind_text (Swept freed kept) = codes "Swept, " ++ (decimal freed ++ (codes " freed, " ++ (decimal kept ++ codes " kept")))
