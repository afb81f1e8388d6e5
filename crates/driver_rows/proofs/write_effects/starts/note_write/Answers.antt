use Rattle.driver_rows.proofs.Laws.{◌≡◌, refl, sym, ◌∙◌, ap, subst, option_and_then, device_context_bytes, input_context_bytes, unfinished, learned, taken_device, with_word, Write, taken, device_contexts, IsWith, LiesOnWords, address_taken, new_command, may_be_given, entry_fits, lies_well, new_device, given_fits, holds_bound, holds_contexts, from_three, devices_then, soiled_then}
use Rattle.driver_rows.proofs.WriteEffects.Followed.{followed}
use Rattle.driver_rows.proofs.write_effects.starts.note_write.Goals as goal

pub returns-clause-ok : goal.returns-clause-ok
returns-clause-ok g c =
    from_three c.take_device.result c.take_device.ensures.devices c.take_device.ensures.contexts c.take_device.ensures.soiled
    (λ devices contexts soils k f placed given keeps clean on.
    let h = c.args.header.now in
    let a = c.args.write.now.at in
    let w = c.args.write.now.word in
    let got = c.device_taken-taken.result in
    let is_taken : got ≡ taken h k a w =
    c.device_taken-taken.ensures k f.devices f.registers f.words (entry_fits h c.requires.headed k keeps a w clean c.args.command given) ∙ ap (λ o. option_and_then (taken_device k) o) given in
    let more = new_command h c.requires.headed k keeps a w clean c.args.command given in
    let old = unfinished h k in
    let new = unfinished h (learned h k (Write a w)) in
    followed h k a w c.args.t.now _ f _ _ c.in_ok-set.ensures.ok
    (c.note_on_ring.ensures k a w f.rings placed)
    refl refl
    (devices_then h k a w got is_taken c.args.t.now.devices _ devices f.devices)
    (c.in_ok-note_given.ensures.commands old new more (may_be_given h c.requires.headed k keeps a w clean c.args.command given) f.commands)
    (holds_bound h c.requires.headed k keeps a w clean c.args.t.now.bound c.note_rings.new.bound c.args.command given f.bound
    (c.note_rings.ensures (with_word h k a w) (holds_contexts h k a w c.args.t.now.devices _ _ f.devices f.words c.in_ok-set.ensures.ok)
    (given_fits h c.requires.headed k keeps a w clean c.args.command given)))
    (c.in_ok-note_given.ensures.inputs (input_context_bytes h.context_size) old new more f.inputs)
    (contexts (device_context_bytes h.context_size) (device_contexts k) (device_contexts (learned h k (Write a w)))
    (subst (λ o. IsWith (address_taken o) (device_contexts k) (device_contexts (learned h k (Write a w)))) (sym is_taken) (new_device h c.requires.headed k keeps a w clean)) f.contexts)
    (soiled_then h k a w got is_taken _ _
    (soils h (with_word h k a w) refl (subst (λ o. LiesOnWords h.context_size o) (sym is_taken) (lies_well h c.requires.headed k keeps a w clean)))
    (c.in_ok-clear.ensures.ok k.soiled f.soiled)))
