use Rattle.trace_record.proofs.Laws.{◌∙◌, ◌||◌, ap, sym, list_any, overlap, device_context_bytes, device_contexts, controllers_are}
use Rattle.trace_record.proofs.trace_record.TraceRecord.is_the_controllers.Goals as goal

pub returns-then-is_in_segment : goal.returns-then-is_in_segment
returns-then-is_in_segment c = λ h k memory f.
    let devices = list_any (λ x. overlap c.args.at 4 x (device_context_bytes h.context_size)) (device_contexts k) in
    c.if-is_in_segment.true ∙ sym (controllers_are h k c.args.at ∙ ap (λ b. b || devices) (sym (c.is_in_segment.ensures h k f.events) ∙ c.if-is_in_segment.true))

pub returns-else-is_in_segment : goal.returns-else-is_in_segment
returns-else-is_in_segment c = λ h k memory f.
    let devices = list_any (λ x. overlap c.args.at 4 x (device_context_bytes h.context_size)) (device_contexts k) in
    c.touches.ensures (device_context_bytes h.context_size) (device_contexts k) f.contexts
    ∙ ap (λ a. list_any (λ x. overlap a 4 x (device_context_bytes h.context_size)) (device_contexts k)) c.get.ensures.same
    ∙ sym (controllers_are h k c.args.at ∙ ap (λ b. b || devices) (sym (c.is_in_segment.ensures h k f.events) ∙ c.if-is_in_segment.false))
