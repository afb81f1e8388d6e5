use Rattle.driver_rows.proofs.Laws.{◌≡◌, ℕ, List, None, refl, sym, ap, subst, option_and_then, device_context_bytes, input_context_bytes, Command, unfinished, learned, command_given, taken_device, with_device, Write, FollowsUnfinished, HoldsAreas, taken, device_contexts, inputs_of, has, IsWith, address_taken, new_command, new_device, holds_bound, devices_then, soiled_then, or_none}
use Rattle.driver_rows.proofs.WriteEffects.Followed.{followed}
use Rattle.driver_rows.proofs.write_effects.starts.note_plain_write.Goals as goal

pub returns-clause-ok : goal.returns-clause-ok
unfolding with_device
returns-clause-ok g c = λ k f placed none keeps clean.
    let h = c.args.header.now in
    let a : ℕ = c.args.at in
    let w : ℕ = c.args.word in
    let t = c.args.trace.now in
    let given : None ≡ command_given h k a w = sym none in
    let is_taken : None ≡ taken h k a w = ap (λ o. option_and_then (taken_device k) o) given in
    let same : unfinished h (learned h k (Write a w)) ≡ unfinished h k = new_command h c.requires.headed k keeps a w clean None given in
    let contexts : device_contexts (learned h k (Write a w)) ≡ device_contexts k =
    subst (λ o. IsWith (address_taken o) (device_contexts k) (device_contexts (learned h k (Write a w)))) (sym is_taken) (new_device h c.requires.headed k keeps a w clean) in
    followed h k a w t _ f _ _ c.in_ok-set.ensures.ok
    (c.note_on_ring.ensures k a w f.rings placed)
    refl refl
    (devices_then h k a w None is_taken t.devices t.devices (λ hh kk ff. ff) f.devices)
    (subst (λ (cs : List Command). FollowsUnfinished cs t.commands) (sym same) f.commands)
    (holds_bound h c.requires.headed k keeps a w clean t.bound t.bound None given f.bound (λ r. sym (or_none (has t.bound r))))
    (subst (λ (cs : List Command). HoldsAreas (input_context_bytes h.context_size) (inputs_of cs) t.inputs) (sym same) f.inputs)
    (subst (λ (xs : List ℕ). HoldsAreas (device_context_bytes h.context_size) xs t.contexts) (sym contexts) f.contexts)
    (soiled_then h k a w None is_taken _ _ (λ x. x) (c.in_ok-clear.ensures.ok k.soiled f.soiled))
