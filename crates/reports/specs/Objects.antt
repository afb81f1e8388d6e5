-- The JSON object of a report: its members, and what each holds
use Rattle.std.specs.Prelude.{◌≡◌, ℕ, List, [], ◌∷◌, ◌++◌, map, Option, None, Some, option_map, String, codes, string_bytes}
use Rattle.std.specs.declared.alloc.Global.{Global}
use Rattle.serde_json.specs.Data.{Data, null, number, unsigned, string, array, object, Members, no_members, put}
use Rattle.serde_json.specs.View.{items_of}
use Rattle.serde_json.specs.Written.{IsInOrder}
use Rattle.world_state.specs.Harm.{number_of as harm_number}
use Rattle.reports.specs.Verdicts.{cause_word, verdict_word}
use Rattle.reports.specs.declared.outcome.Outcome.{Outcome}
use Rattle.reports.specs.declared.parts.Mark.{Mark}
use Rattle.reports.specs.declared.parts.MarkKind.{MarkKind}
use Rattle.reports.specs.declared.parts.MarkKind.TheVariants.{Told, Earlier}
use Rattle.reports.specs.declared.own.Own.{Own}
use Rattle.reports.specs.declared.own.Own.TheVariants.{Check, Harm as HarmRun, Verify, Replay as Replayed, Page}
use Rattle.reports.specs.declared.own.Replay.{Replay}
use Rattle.reports.specs.declared.own.Run.{Run}
use Rattle.reports.specs.declared.own.Take.{Take}
use Rattle.reports.specs.declared.parts.Parts.{Parts}
use Rattle.reports.specs.declared.report.Place.{Place}
use Rattle.reports.specs.declared.report.Report.{Report}
use Rattle.reports.specs.declared.sections.Section.{Section}

-- a word; null where there is none
abbrev pub word_data : Option (List ℕ) → Data
word_data None = null
word_data (Some word) = string word

-- a number; null where there is none
abbrev pub number_data : Option ℕ → Data
number_data None = null
number_data (Some n) = number (unsigned n)

-- texts, in their order
abbrev pub texts_data : List (String Global) → Data
texts_data texts = array (items_of (map (λ text. string (string_bytes text)) texts))

abbrev pub kind_word : MarkKind → List ℕ
kind_word Told = codes "told"
kind_word Earlier = codes "earlier"

-- a line that is quoted
abbrev pub mark_data : Mark → Data
mark_data mark =
    object (put (codes "text") (string (string_bytes mark.quote.text))
    (put (codes "row") (number (unsigned mark.quote.line))
    (put (codes "label") (string (string_bytes mark.quote.label))
    (put (codes "kind") (string (kind_word mark.kind)) no_members))))

abbrev pub marks_data : List Mark → Data
marks_data marks = array (items_of (map mark_data marks))

-- what is answered, put among members
abbrev pub with_outcome : Outcome → Members → Members
with_outcome it members =
    put (codes "class") (word_data (option_map cause_word it.class))
    (put (codes "name") (word_data (option_map (λ cause. cause.name.now) it.cause))
    (put (codes "number") (number_data (option_map (λ cause. cause.number) it.cause))
    (put (codes "row") (number_data it.row)
    (put (codes "verdict") (string (verdict_word it.verdict)) members))))

-- what explains it, put among members
abbrev pub with_parts : Parts → Members → Members
with_parts it members =
    put (codes "help") (word_data (option_map string_bytes it.help))
    (put (codes "notes") (texts_data it.notes.items)
    (put (codes "marks") (marks_data it.marks.items)
    (put (codes "head") (word_data (option_map string_bytes it.head)) members)))

abbrev pub object_of_place : Place → Data
object_of_place place = object (put (codes "line") (number_data place.line) (put (codes "file") (string place.file.now) no_members))

-- a file, and a line of it
abbrev pub place_data : Option Place → Data
place_data None = null
place_data (Some place) = object_of_place place

-- a line at the margin of a page, and those below it
abbrev pub section_data : Section → Data
section_data section =
    object (put (codes "lines") (texts_data section.lines.items) (put (codes "head") (string (string_bytes section.head)) no_members))

abbrev pub sections_data : List Section → Data
sections_data sections = array (items_of (map section_data sections))

-- how many leases there are and what waits, put among members
abbrev pub with_check : Option ℕ → List (String Global) → Members → Members
with_check leases waiting members = put (codes "waiting") (texts_data waiting) (put (codes "leases") (number_data leases) members)

-- a run that does harm, put among members
abbrev pub with_run : Option Run → Members → Members
with_run None members = put (codes "schedule") null (put (codes "harm") null members)
with_run (Some run) members =
    put (codes "schedule") (texts_data run.schedule.items) (put (codes "harm") (number (unsigned (harm_number run.harm))) members)

-- a TRB that the controller took
abbrev pub take_data : Take → Data
take_data take =
    object (put (codes "words") (texts_data take.words.items)
    (put (codes "ring") (string (string_bytes take.ring))
    (put (codes "address") (string (string_bytes take.address)) no_members)))

abbrev pub takes_data : List Take → Data
takes_data takes = array (items_of (map take_data takes))

-- how a replay ends, and what the controller took, put among members
abbrev pub with_replay : Replay → Members → Members
with_replay it members =
    put (codes "harm") (number_data (option_map harm_number it.harm))
    (put (codes "step") (number_data it.step) (put (codes "takes") (takes_data it.takes.items) members))

-- what a command's answer has beside the rest, put among members
abbrev pub with_own : Own → Members → Members
with_own (Check leases waiting) members = with_check leases waiting.items members
with_own (HarmRun run) members = with_run run (with_check None [] members)
with_own (Verify certificate) members = put (codes "certificate") (string certificate.now) members
with_own (Replayed schedule replay) members = with_replay replay (put (codes "schedule") (string schedule.now) members)
with_own (Page sections) members = put (codes "sections") (sections_data sections.items) members

-- the object of a report
abbrev pub report_data : Report → Data
report_data it =
    object (with_own it.own (with_parts it.parts (put (codes "place") (place_data it.place)
    (put (codes "file") (word_data (option_map (λ file. file.now) it.file)) (with_outcome it.outcome no_members)))))

-- the line is the object of a report, with each member once and in order, and a line feed
abbrev pub IsLineOf : Report → List ℕ → Type 0
IsLineOf report line = (text : List ℕ) × IsInOrder text (report_data report) × (line ≡ text ++ 10 ∷ [])
