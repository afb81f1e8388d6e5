use Rattle.event_rows.proofs.Laws.{◌≡◌, ◌∙◌, ◌∷◌, [], List, Some, ap, subst, sym, after, Reaches, device_context_bytes, input_context_bytes, Command, command_id, shape_of, Known, command_at, next_command, on_ring, unfinished, completed, FollowsUnfinished, HoldsAreas, TraceRecord, FollowsTrace, inputs_of, FollowsPlaces, device_contexts, HoldsBound, RingSet, Areas, UnfinishedCommands, bound_behind, ending_fits, commands_complete, completed_is, done, done_given, has_next, has_room, may_change, slots_of, unfinished_is, followed_behind, ended_devices, finished_rest}
use Rattle.event_rows.proofs.completions.ending.finish.Goals as goal

pub returns-in_default-clause-followed : goal.returns-in_default-clause-followed
returns-in_default-clause-followed g c = λ k f d set_up on named possible.
    let h = c.args.header.now in
    has_next h c.requires.headed k d on c.args.block possible (sym named ∙ c.in_default.is)

pub returns-clause-followed : goal.returns-clause-followed
returns-clause-followed g c = λ k f d set_up on named possible.
    let h = c.args.header.now in
    let headed = c.requires.headed in
    let b = c.args.block in
    let e : Command = c.in-Some.command in
    let words = g.M.WordMemory.words c.args.memory.now in
    let some = commands_complete h headed k set_up b possible in
    let here : command_at h k (next_command h k) ≡ Some e = sym named ∙ c.in-Some.is in
    let l : Known = done h headed k d on b possible e here in
    let places : FollowsPlaces h l c.end_command.new.t.rings.items c.end_command.new.t.devices =
    c.end_command.ensures.followed k (record { rings = f.rings; devices = f.devices }) f.words (may_change h headed k d on b possible e here) (has_room h headed k d on b possible e here) in
    let kept = c.end_command.ensures.rest in
    let ended : TraceRecord = c.end_command.new.t in
    let rings = c.pass_next.ensures l places.rings some (done_given h headed k d on b possible e here) in
    let same : on_ring h l (command_id h) (Reaches (after (shape_of h (command_id h)) (next_command h l))) ≡ completed h k b = completed_is h headed k d on b possible e here in
    let left : unfinished h k ≡ e ∷ unfinished h (on_ring h l (command_id h) (Reaches (after (shape_of h (command_id h)) (next_command h l)))) =
    unfinished_is h headed k d on b possible e here ∙ ap (λ (x : Known). e ∷ unfinished h x) (sym same) in
    let commands = c.finish.ensures [] (unfinished h (on_ring h l (command_id h) (Reaches (after (shape_of h (command_id h)) (next_command h l))))) (subst (λ (x : UnfinishedCommands). FollowsUnfinished (e ∷ unfinished h (on_ring h l (command_id h) (Reaches (after (shape_of h (command_id h)) (next_command h l))))) x) (sym kept.2) (subst (λ (xs : List Command). FollowsUnfinished xs c.args.t.now.commands) left f.commands)) in
    let bound = subst (λ (x : RingSet). HoldsBound h (completed h k b) x) (sym kept.3) (bound_behind h headed k d on b possible e here c.args.t.now.bound c.forget_bound.new.rings f.bound
    (c.forget_bound.ensures k (record { followed = f.devices; words = f.words }) (ending_fits h headed k d on b possible e here))) in
    let inputs = c.leave_input.ensures (input_context_bytes h.context_size) (inputs_of (unfinished h (on_ring h l (command_id h) (Reaches (after (shape_of h (command_id h)) (next_command h l))))))
    (subst (λ (x : Areas). HoldsAreas (input_context_bytes h.context_size) (inputs_of (e ∷ unfinished h (on_ring h l (command_id h) (Reaches (after (shape_of h (command_id h)) (next_command h l)))))) x) (sym kept.4)
    (subst (λ (xs : List Command). HoldsAreas (input_context_bytes h.context_size) (inputs_of xs) c.args.t.now.inputs) left f.inputs)) in
    let contexts = subst (λ (x : Areas). HoldsAreas (device_context_bytes h.context_size) (device_contexts l) x) (sym kept.5)
    (c.leave_context.ensures h k (device_context_bytes h.context_size) f.devices (slots_of h k d) f.contexts) in
    let new : TraceRecord = record {
      rings = c.pass_next.new.rings;
      registers = ended.registers;
      events = ended.events;
      devices = ended.devices;
      commands = c.finish.new.self;
      bound = ended.bound;
      inputs = c.leave_input.new.inputs;
      contexts = ended.contexts;
      soiled = ended.soiled;
    } in
    subst (λ (x : Known). FollowsTrace h x new words) same
    (followed_behind h k l (command_id h) (Reaches (after (shape_of h (command_id h)) (next_command h l))) c.args.t.now new words f (ended_devices h k b e) (finished_rest h k b e) kept.0 kept.1 kept.6
    rings places.devices commands (subst (λ (x : Known). HoldsBound h x ended.bound) (sym same) bound) inputs contexts)
