use Rattle.trace_record.proofs.Laws.{◌∙◌, ◌||◌, sym, ap}
use Rattle.trace_record.proofs.OpenAreas.{ranges_are}
use Rattle.trace_record.specs.Owned.{others_have}
use Rattle.trace_record.proofs.trace_record.TraceRecord.is_in_range.Goals as goal

pub returns-then-is_in_segment : goal.returns-then-is_in_segment
returns-then-is_in_segment c = λ h k memory f.
    c.if-is_in_segment.true ∙ sym (ranges_are h k c.args.at ∙ ap (λ b. b || others_have h k c.args.at) (sym (c.is_in_segment.ensures h k f.events) ∙ c.if-is_in_segment.true))

pub returns-else-is_in_segment : goal.returns-else-is_in_segment
returns-else-is_in_segment c = λ h k memory f.
    c.is_leased_beside_rings.ensures h k memory f
    ∙ sym (ranges_are h k c.args.at ∙ ap (λ b. b || others_have h k c.args.at) (sym (c.is_in_segment.ensures h k f.events) ∙ c.if-is_in_segment.false))
