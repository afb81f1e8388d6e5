-- What a plan prints, and the first of its lines that can't be followed
use Rattle.std.specs.Prelude.{ℕ, ◌+◌, ◌==◌, List, [], ◌∷◌, ◌++◌, length, map, Option, Some, None, if◌then◌else◌}
use Rattle.std.specs.List.{flat_map}
use Rattle.std.specs.Option.{option_map_or}
use Rattle.trb.specs.Descriptor.{fault_of}
use Rattle.cycle_ring.specs.Progress.{Progress, has_room, is_given_count}
use Rattle.cycle_ring.specs.Writes.{writes_of}
use Rattle.traces.specs.declared.version.Version.TheVariants.{One}
use Rattle.traces.specs.declared.plan.PlanLine.{PlanLine}
use Rattle.traces.specs.declared.plan.PlanLine.TheVariants.{Sub, Ret}
use Rattle.contexts.specs.declared.size.ContextSize.TheVariants.{Bytes32}
use Rattle.traces.specs.declared.row.Row.{Row}
use Rattle.traces.specs.declared.row.Row.TheVariants.{Sub as SubRow, Write}
use Rattle.trace_reader.specs.Plans.{PlanText}
use Rattle.trace_reader.specs.TraceOfText.{TraceText}
use Rattle.trace_reader.specs.Spelling.{printed_line, row_fields, size_fields, version_fields}
use Rattle.plan_writer.specs.declared.fault.PlanRefusal.{PlanRefusal}
use Rattle.plan_writer.specs.declared.fault.PlanRefusal.TheVariants.{NotDeclared, RingFull, NotGiven}
use Rattle.plan_writer.specs.PlanRefusals.{of_descriptor}

-- why a line can't be followed, if it can't, by the ring's ID and how far its producer is: of several reasons the one with
-- the least number
abbrev pub refusal_of : ℕ → Progress → PlanLine → Option PlanRefusal
refusal_of id p (Sub ring blocks) =
    if ring == id
    then (if has_room p (length blocks) then option_map_or (λ fault. Some (of_descriptor fault)) (fault_of p.shape.kind blocks) None else Some RingFull)
    else Some NotDeclared
refusal_of id p (Ret upto) = if is_given_count p upto then None else Some NotGiven

-- how far the producer is behind a line
abbrev pub progress_after : Progress → PlanLine → Progress
progress_after p (Sub ring blocks) = record p { enqueued = p.enqueued + length blocks }
progress_after p (Ret upto) = record p { retired = upto }

abbrev pub write_row : ℕ × ℕ → Row
write_row write = Write write.0 write.1

-- the rows that follow from a line: a declaration itself, and the words that the producer writes for it
abbrev pub rows_of : Progress → PlanLine → List Row
rows_of p (Sub ring blocks) = SubRow ring blocks ∷ map write_row (writes_of p.shape p.enqueued blocks)
rows_of p (Ret upto) = []

-- the rows of lines, one after another
abbrev pub rows_from : Progress → List PlanLine → List Row
rows_from p [] = []
rows_from p (line ∷ rest) = rows_of p line ++ rows_from (progress_after p line) rest

-- the first line that can't be followed, by its number, where the first of the lines has this number
abbrev pub refusal_from : ℕ → Progress → ℕ → List PlanLine → Option (ℕ × PlanRefusal)
refusal_from id p number [] = None
refusal_from id p number (line ∷ rest) =
    option_map_or (λ refusal. Some (number, refusal)) (refusal_of id p line) (refusal_from id (progress_after p line) (number + 1) rest)

-- a producer at the first place of the plan's ring
abbrev pub start_of : PlanText → Progress
start_of plan = record { shape = plan.ring.shape; enqueued = 0; retired = 0 }

-- the first line of a plan that can't be followed
abbrev pub plan_refusal : PlanText → Option (ℕ × PlanRefusal)
plan_refusal plan = refusal_from plan.ring.id (start_of plan) 3 plan.lines

-- the trace of a plan: contexts of 32 bytes, its ring, and the rows of its lines
abbrev pub plan_trace : PlanText → TraceText
plan_trace plan =
    record { header = record { version = One; context_size = Bytes32; rings = plan.ring ∷ [] }; first = 4; rows = rows_from (start_of plan) plan.lines }

-- rows as they are printed
abbrev pub rows_text : List Row → List ℕ
rows_text rows = flat_map printed_line (map row_fields rows)

-- the lines before the ring's as they are printed
abbrev pub head_text : List ℕ
head_text = printed_line (version_fields One) ++ printed_line (size_fields Bytes32)
