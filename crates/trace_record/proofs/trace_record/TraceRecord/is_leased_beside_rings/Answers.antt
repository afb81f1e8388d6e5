use Rattle.trace_record.proofs.Laws.{◌≡◌, ◌∙◌, ◌||◌, sym, ap, Bool, list_any, overlap, device_context_bytes, input_context_bytes, unfinished, inputs_of, device_contexts, table_has, entries_have}
use Rattle.trace_record.proofs.OpenAreas.{others_are}
use Rattle.trace_record.proofs.trace_record.TraceRecord.is_leased_beside_rings.Goals.{then-is_in_table, else-is_in_table, then-touches, else-touches}
use Rattle.trace_record.proofs.trace_record.TraceRecord.is_leased_beside_rings.Goals as goal

pub returns-then-is_in_entry : goal.returns-then-is_in_entry
returns-then-is_in_entry c = λ h k memory f.
    let table : Bool = table_has h k c.args.at in
    let inputs : Bool = list_any (λ x. overlap c.args.at 4 x (input_context_bytes h.context_size)) (inputs_of (unfinished h k)) in
    let entries : Bool = entries_have h k c.args.at in
    let devices : Bool = list_any (λ x. overlap c.args.at 4 x (device_context_bytes h.context_size)) (device_contexts k) in
    let first = c.is_in_table.ensures h k f.registers f.events in
    let second : c.if-is_in_table.value ≡ (table || inputs) = elim c.if-is_in_table.branch [
      | then-is_in_table w ↦ w.value-is ∙ w.if-is_in_table.true ∙ sym (ap (λ b. b || inputs) (sym first ∙ w.if-is_in_table.true))
      | else-is_in_table w ↦
          w.value-is ∙ w.touches.ensures (input_context_bytes h.context_size) (inputs_of (unfinished h k)) f.inputs
          ∙ ap (λ a. list_any (λ x. overlap a 4 x (input_context_bytes h.context_size)) (inputs_of (unfinished h k))) w.get.ensures.same
          ∙ sym (ap (λ b. b || inputs) (sym first ∙ w.if-is_in_table.false))
    ] in
    let third : c.if-touches.value ≡ ((table || inputs) || entries) = elim c.if-touches.branch [
      | then-touches w ↦ w.value-is ∙ w.if-touches.true ∙ sym (ap (λ b. b || entries) (sym second ∙ w.if-touches.true))
      | else-touches w ↦ w.value-is ∙ w.is_in_entry.ensures h k f.registers f.devices ∙ sym (ap (λ b. b || entries) (sym second ∙ w.if-touches.false))
    ] in
    c.if-is_in_entry.true ∙ sym (others_are h k c.args.at ∙ ap (λ b. b || devices) (sym third ∙ c.if-is_in_entry.true))

pub returns-else-is_in_entry : goal.returns-else-is_in_entry
returns-else-is_in_entry c = λ h k memory f.
    let table : Bool = table_has h k c.args.at in
    let inputs : Bool = list_any (λ x. overlap c.args.at 4 x (input_context_bytes h.context_size)) (inputs_of (unfinished h k)) in
    let entries : Bool = entries_have h k c.args.at in
    let devices : Bool = list_any (λ x. overlap c.args.at 4 x (device_context_bytes h.context_size)) (device_contexts k) in
    let first = c.is_in_table.ensures h k f.registers f.events in
    let second : c.if-is_in_table.value ≡ (table || inputs) = elim c.if-is_in_table.branch [
      | then-is_in_table w ↦ w.value-is ∙ w.if-is_in_table.true ∙ sym (ap (λ b. b || inputs) (sym first ∙ w.if-is_in_table.true))
      | else-is_in_table w ↦
          w.value-is ∙ w.touches.ensures (input_context_bytes h.context_size) (inputs_of (unfinished h k)) f.inputs
          ∙ ap (λ a. list_any (λ x. overlap a 4 x (input_context_bytes h.context_size)) (inputs_of (unfinished h k))) w.get.ensures.same
          ∙ sym (ap (λ b. b || inputs) (sym first ∙ w.if-is_in_table.false))
    ] in
    let third : c.if-touches.value ≡ ((table || inputs) || entries) = elim c.if-touches.branch [
      | then-touches w ↦ w.value-is ∙ w.if-touches.true ∙ sym (ap (λ b. b || entries) (sym second ∙ w.if-touches.true))
      | else-touches w ↦ w.value-is ∙ w.is_in_entry.ensures h k f.registers f.devices ∙ sym (ap (λ b. b || entries) (sym second ∙ w.if-touches.false))
    ] in
    c.touches-else-is_in_entry.ensures (device_context_bytes h.context_size) (device_contexts k) f.contexts
    ∙ ap (λ a. list_any (λ x. overlap a 4 x (device_context_bytes h.context_size)) (device_contexts k)) c.get-else-is_in_entry.ensures.same
    ∙ sym (others_are h k c.args.at ∙ ap (λ b. b || devices) (sym third ∙ c.if-is_in_entry.false))
