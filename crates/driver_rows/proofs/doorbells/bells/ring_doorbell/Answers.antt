use Rattle.driver_rows.proofs.Laws.{refl, sym, ◌∙◌, follows_rung}
use Rattle.driver_rows.proofs.doorbells.bells.ring_doorbell.Goals as goal

pub returns-clause-followed : goal.returns-clause-followed
returns-clause-followed c = λ h k m headed found f.
    let number = c.number_rung-number.ensures h k found f.devices in
    follows_rung h k c.args.slot c.args.target headed c.args.t.now _ m f refl
    (λ o n ring is some at. c.open_ring.ensures.opened h k n ring headed (number ∙ sym is ∙ some) at f.rings)
    (λ none. c.open_ring.ensures.none (number ∙ none))
    (c.ring_bell.ensures h k f.devices)
