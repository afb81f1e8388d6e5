use Rattle.driver_rows.proofs.Laws.{◌∙◌, ap, subst, sym, IsPlaced, some_flips, flips_by_others}
use Rattle.driver_rows.proofs.rings.started.some_flips.Goals as goal

pub returns-in-Write : goal.returns-in-Write
returns-in-Write c = λ k memory f placed.
    c.word_flips.ensures k memory f (subst (λ row. IsPlaced c.args.header.now k row c.args.place.now) c.in-Write.is placed)
    ∙ sym (ap (some_flips c.args.header.now k) c.in-Write.is)

pub returns-in_default : goal.returns-in_default
returns-in_default c = λ k memory f placed. sym (flips_by_others c.args.header.now k c.args.row.now c.in_default.not-Write)
