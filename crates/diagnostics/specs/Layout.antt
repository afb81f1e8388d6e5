-- How a diagnostic is laid out: what is wrong, where, the quoted lines with marks and labels, notes, what helps
use Rattle.std.specs.Prelude.{◌≡◌, ℕ, ◌-◌, if◌then◌else◌, nat_lt, List, [], ◌∷◌, ◌++◌, Option, Some, None, codes, decimal, length, String, string_bytes}
use Rattle.std.specs.List.{flat_map, repeat}
use Rattle.std.specs.declared.alloc.Global.{Global}
use Rattle.ownership_rules.specs.Refusal as rules
use Rattle.ownership_rules.specs.RuleNames as rule_names
use Rattle.trace_reader.specs.Faults as faults
use Rattle.world_state.specs.Harm as harms
use Rattle.world_state.specs.declared.harm.Harm.{Harm as Harms}
use Rattle.diagnostics.specs.Colors.{painted}
use Rattle.diagnostics.specs.declared.colors.Colors.{Colors}
use Rattle.diagnostics.specs.declared.colors.Part.{Part}
use Rattle.diagnostics.specs.declared.colors.Part.TheVariants.{Error, Head, Frame, Help}
use Rattle.diagnostics.specs.declared.diagnostic.Quote.{Quote}
use Rattle.diagnostics.specs.declared.diagnostic.Diagnostic.{Diagnostic}
use Rattle.diagnostics.specs.declared.diagnostic.View.{View}
use Rattle.diagnostics.specs.declared.diagnostic.Matter.{Matter}
use Rattle.diagnostics.specs.declared.diagnostic.Matter.TheVariants.{Rule, Fault, Harm, NotPossible, NotGiven}

-- what a diagnostic is about: a rule or a fault by number and name, a harm by number
abbrev pub matter_text : Matter → List ℕ
matter_text (Rule refusal) = decimal (rules.number_of refusal) ++ (codes " " ++ rule_names.name_of refusal)
matter_text (Fault fault) = decimal (faults.fault_number fault) ++ (codes " " ++ faults.fault_name fault)
matter_text (Harm harm) = codes "harm " ++ decimal (harms.number_of harm)
matter_text NotPossible = codes "not possible"
matter_text NotGiven = codes "26 NotGiven"

abbrev pub spaces : ℕ → List ℕ
spaces n = repeat n (codes " ")

-- a text behind a space, unless it is empty
abbrev pub spaced : List ℕ → List ℕ
spaced [] = []
spaced (b ∷ text) = 32 ∷ b ∷ text

-- what is wrong with what is named before it
abbrev pub error_text : Colors → List ℕ → List ℕ → List ℕ
error_text colors name head = painted colors Error (codes "error[" ++ (name ++ codes "]")) ++ (painted colors Head (codes ": " ++ head) ++ codes "\n")

-- where it is
abbrev pub place_text : Colors → ℕ → List ℕ → ℕ → List ℕ
place_text colors width path line =
    spaces width ++ (painted colors Frame (codes "-->") ++ (codes " " ++ (path ++ (codes ":" ++ (decimal line ++ codes "\n")))))

-- what is wrong, and where
abbrev pub head_text : ℕ → View → Diagnostic → List ℕ
head_text width view it = error_text view.colors (matter_text it.matter) (string_bytes it.head) ++ place_text view.colors width view.path.now it.refused.line

-- the bar that the quoted lines stand at
abbrev pub bar_text : Colors → ℕ → List ℕ
bar_text colors width = spaces width ++ (codes " " ++ (painted colors Frame (codes "|") ++ codes "\n"))

-- a line behind its number
abbrev pub row_text : Colors → ℕ → Quote → List ℕ
row_text colors width it =
    spaces (width - length (decimal it.line)) ++ (painted colors Frame (decimal it.line ++ codes " |") ++ (spaced (string_bytes it.text) ++ codes "\n"))

-- below it a mark under each byte, and a label
abbrev pub marks_text : Colors → Part → ℕ → List ℕ → Quote → List ℕ
marks_text colors part width mark it =
    spaces width ++ (codes " " ++ (painted colors Frame (codes "|")
    ++ (painted colors part (spaced (repeat (length (string_bytes it.text)) mark) ++ spaced (string_bytes it.label)) ++ codes "\n")))

-- a line with its number, and marks below it
abbrev pub quote_text : Colors → Part → ℕ → List ℕ → Quote → List ℕ
quote_text colors part width mark it = row_text colors width it ++ marks_text colors part width mark it

-- the earlier line, and dots where others stand between it and the refused one
abbrev pub earlier_text : Colors → ℕ → ℕ → Option Quote → List ℕ
earlier_text colors width line None = []
earlier_text colors width line (Some it) =
    quote_text colors Frame width (codes "-") it ++ (if nat_lt 1 (line - it.line) then painted colors Frame (codes "...") ++ codes "\n" else [])

abbrev pub lines_text : Colors → ℕ → Diagnostic → List ℕ
lines_text colors width it =
    bar_text colors width ++ (earlier_text colors width it.refused.line it.earlier ++ (quote_text colors Error width (codes "^") it.refused ++ bar_text colors width))

abbrev pub remark_text : Colors → Part → ℕ → List ℕ → List ℕ → List ℕ
remark_text colors part width kind text =
    spaces width ++ (codes " " ++ (painted colors Frame (codes "=") ++ (codes " " ++ (painted colors part kind ++ (codes ": " ++ (text ++ codes "\n"))))))

abbrev pub note_text : Colors → ℕ → List ℕ → List ℕ
note_text colors width text = remark_text colors Head width (codes "note") text

abbrev pub help_text : Colors → ℕ → List ℕ → List ℕ
help_text colors width text = remark_text colors Help width (codes "help") text

abbrev pub helps_text : Colors → ℕ → Option (String Global) → List ℕ
helps_text colors width None = []
helps_text colors width (Some help) = help_text colors width (string_bytes help)

abbrev pub remarks_text : Colors → ℕ → Diagnostic → List ℕ
remarks_text colors width it = flat_map (λ note. note_text colors width (string_bytes note)) it.notes.items ++ helps_text colors width it.help

-- a diagnostic of a line of a file, as it is shown: its columns are as wide as the line's number
abbrev pub told_text : View → Diagnostic → List ℕ
told_text view it =
    let width : ℕ = length (decimal it.refused.line) in
    head_text width view it ++ (lines_text view.colors width it ++ remarks_text view.colors width it)

-- what is told of a line of a file is a diagnostic of this line that is about this
abbrev pub IsToldOf : View → Matter → ℕ → List ℕ → Type 0
IsToldOf view matter line told =
    (it : Diagnostic) × (it.matter ≡ matter) × (it.refused.line ≡ line) × (told ≡ told_text view it)

-- what a step of a schedule is told for: its harm, or that no controller makes it
abbrev pub step_matter : Option Harms → Matter
step_matter None = NotPossible
step_matter (Some harm) = Harm harm
