use Rattle.controller_model.proofs.Laws.{option_copied, ◌≡◌, ◌∙◌, Option, IsSome, false≢true, ap, sym, subst, Ring, shape_of, ring_with, as_declared, option_map, noted_follows}
use Rattle.controller_model.proofs.looks.note_take.Goals as goal

pub returns-in_ok-take_anywhere-in-None : goal.returns-in_ok-take_anywhere-in-None
returns-in_ok-take_anywhere-in-None c = λ h r held same f.
    let x = c.args.state.now in
    let gone : ring_with h r ≡ option_copied c.args.there = sym same in
    let d = option_map as_declared c.at-declared.result in
    noted_follows h r held x f _ c.args.block.now d c.next.result c.next.ensures (c.at-declared.ensures held.queue held.lengths f.declared)
    (c.in_ok-take_anywhere-in-None.ensures.keeps (shape_of h r) held.events held.reported f.history)
    (λ also. absurd (let P : Option Ring → Type 0 = λ o. IsSome o in let none = subst P (gone ∙ ap (λ o. option_copied o) c.in-None.is) also in false≢true none)) f.declared f.pointer f.cycle f.active f.holder
