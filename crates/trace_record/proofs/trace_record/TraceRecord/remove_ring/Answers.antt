use Rattle.trace_record.proofs.Laws.{◌∙◌, None, ap, arith, sym, subst, is_command_kind, read_at}
use Rattle.trace_record.proofs.BaseWords.{◌||◌, Command, FollowsTrace, FollowsUnfinished, HoldsAreas, HoldsSoiled, List, Ring, RingKind, RingRecord, Shape, TraceRecord, input_context_bytes, inputs_of, is_event_kind, length, same_Some, touches}
use Rattle.traces.specs.LivingRings.{without_ring}
use Rattle.ring_knowledge.specs.Histories.{gone}
use Rattle.trace_record.specs.RingFinder.RecordsOfRings.{FollowsRings}
use Rattle.trace_record.proofs.LivingRings.{by_command_id, commands_gone, events_follow, events_gone, none_bound, rings_go, soiled_gone, soiled_left, went, went_beside}
use Rattle.trace_record.proofs.trace_record.TraceRecord.remove_ring.Goals as goal

pub returns-in-Cmd-clause-ok : goal.returns-in-Cmd-clause-ok
returns-in-Cmd-clause-ok c = λ k m ring at f goes.
    let h = c.args.header.now in
    let n = c.args.number in
    let t = c.args.self.now in
    let one = same_Some ring c.index-rings-number.result
    (sym at ∙ read_at c.as_slice-rings.result.now h.rings n c.index-rings-number.result c.as_slice-rings.ensures (omega (arith, c.requires.within, ap length c.as_slice-rings.ensures)) c.index-rings-number.is) in
    let kind = ap (λ (q : Ring). q.shape.kind) one ∙ sym c.kind.ensures ∙ c.in-Cmd.is in
    let command = ap (λ (x : RingKind). is_command_kind x) kind in
    let other = ap (λ (x : RingKind). is_event_kind x) kind in
    let commands = commands_gone h c.requires.headed k n ring at command in
    let u = c.forget_commands.new.self in
    subst (λ (x : TraceRecord). FollowsTrace (without_ring h ring.id) (gone h k ring.id) x m) (sym c.forget_commands.ensures.rest)
    (went h c.requires.headed k n ring at t (record t { rings = c.remove.new.self; registers = c.let_ring_go.new.self; commands = u.commands; bound = u.bound; inputs = u.inputs }) m f
    (subst (λ (xs : List RingRecord). FollowsRings (without_ring h ring.id) (gone h k ring.id) xs) (sym c.remove.ensures.items) (rings_go h c.requires.headed k n ring at t.rings.items f.rings))
    (c.let_ring_go.ensures h k ring.id (c.is_command_ring.ensures ∙ ap (λ (q : Ring). is_command_kind q.shape.kind) (sym one) ∙ by_command_id h c.requires.headed k n ring at) f.registers)
    (events_follow h c.requires.headed k n ring at other t.events f.events)
    (subst (λ (cs : List Command). FollowsUnfinished cs u.commands) (sym commands) c.forget_commands.ensures.commands)
    (λ q. c.forget_commands.ensures.bound q ∙ none_bound h c.requires.headed k n ring at command q)
    (subst (λ (cs : List Command). HoldsAreas (input_context_bytes h.context_size) (inputs_of cs) u.inputs) (sym commands) (c.forget_commands.ensures.inputs _ _ f.inputs))
    (soiled_left h c.requires.headed k n ring at other t.soiled f.soiled))

pub returns-in_ok-soil_ring-in-Evt-clause-ok : goal.returns-in_ok-soil_ring-in-Evt-clause-ok
returns-in_ok-soil_ring-in-Evt-clause-ok c = λ k m ring at f goes.
    let h = c.args.header.now in
    let n = c.args.number in
    let t = c.args.self.now in
    let one = same_Some ring c.index-rings-number.result
    (sym at ∙ read_at c.as_slice-rings.result.now h.rings n c.index-rings-number.result c.as_slice-rings.ensures (omega (arith, c.requires.within, ap length c.as_slice-rings.ensures)) c.index-rings-number.is) in
    let kind = ap (λ (q : Ring). q.shape.kind) one ∙ sym c.kind.ensures ∙ c.in-Evt.is in
    let event = ap (λ (x : RingKind). is_event_kind x) kind in
    went_beside h c.requires.headed k n ring at (goes (ap (λ (x : RingKind). is_command_kind x) kind)) t
    (record t { rings = c.remove.new.self; registers = c.let_ring_go.new.self; events = None; soiled = c.soil_ring.new.self }) m f
    (subst (λ (xs : List RingRecord). FollowsRings (without_ring h ring.id) (gone h k ring.id) xs) (sym c.remove.ensures.items) (rings_go h c.requires.headed k n ring at t.rings.items f.rings))
    (c.let_ring_go.ensures h k ring.id (c.is_command_ring.ensures ∙ ap (λ (q : Ring). is_command_kind q.shape.kind) (sym one) ∙ by_command_id h c.requires.headed k n ring at) f.registers)
    (events_gone h c.requires.headed k n ring at event)
    (soiled_gone h c.requires.headed k n ring at event c.soil_ring.new.self
    (subst (λ (s : Shape). HoldsSoiled (λ a. k.soiled a || touches s a 4) c.soil_ring.new.self) (ap (λ (q : Ring). q.shape) (sym one)) (c.in_ok-soil_ring-in-Evt.ensures k.soiled f.soiled)))

pub returns-in-Xfer-clause-ok : goal.returns-in-Xfer-clause-ok
returns-in-Xfer-clause-ok c = λ k m ring at f goes.
    let h = c.args.header.now in
    let n = c.args.number in
    let t = c.args.self.now in
    let one = same_Some ring c.index-rings-number.result
    (sym at ∙ read_at c.as_slice-rings.result.now h.rings n c.index-rings-number.result c.as_slice-rings.ensures (omega (arith, c.requires.within, ap length c.as_slice-rings.ensures)) c.index-rings-number.is) in
    let kind = ap (λ (q : Ring). q.shape.kind) one ∙ sym c.kind.ensures ∙ c.in-Xfer.is in
    let other = ap (λ (x : RingKind). is_event_kind x) kind in
    went_beside h c.requires.headed k n ring at (goes (ap (λ (x : RingKind). is_command_kind x) kind)) t
    (record t { rings = c.remove.new.self; registers = c.let_ring_go.new.self }) m f
    (subst (λ (xs : List RingRecord). FollowsRings (without_ring h ring.id) (gone h k ring.id) xs) (sym c.remove.ensures.items) (rings_go h c.requires.headed k n ring at t.rings.items f.rings))
    (c.let_ring_go.ensures h k ring.id (c.is_command_ring.ensures ∙ ap (λ (q : Ring). is_command_kind q.shape.kind) (sym one) ∙ by_command_id h c.requires.headed k n ring at) f.registers)
    (events_follow h c.requires.headed k n ring at other t.events f.events) (soiled_left h c.requires.headed k n ring at other t.soiled f.soiled)
