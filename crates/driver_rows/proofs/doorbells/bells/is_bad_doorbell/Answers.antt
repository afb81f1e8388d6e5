use Rattle.driver_rows.proofs.Words.{◌==◌, ◌||◌, not, if◌then◌else◌, ap, is_bad_bell, refl, sym, ◌∙◌, eq-eqb, ne_eqb, is_bad_doorbell, is_asked}
use Rattle.driver_rows.proofs.doorbells.bells.is_bad_doorbell.Goals as goal

pub returns-then-not-is_started : goal.returns-then-not-is_started
unfolding is_bad_doorbell
returns-then-not-is_started g c = λ k f fit. rw (sym (c.is_started.ensures k f.registers) ∙ c.if-not-is_started.true) refl

pub returns-then-is_asked : goal.returns-then-is_asked
unfolding is_bad_doorbell
returns-then-is_asked g c = λ k f fit.
    rw (sym (c.is_started.ensures k f.registers) ∙ c.if-not-is_started.false, ap is_asked (sym (c.halt.ensures k f.registers)) ∙ sym c.is_asked.ensures ∙ c.if-is_asked.true) refl

pub returns-then-slot-eq0 : goal.returns-then-slot-eq0
unfolding is_bad_doorbell
returns-then-slot-eq0 g c = λ k f fit.
    rw (
      sym (c.is_started.ensures k f.registers) ∙ c.if-not-is_started.false,
      ap is_asked (sym (c.halt.ensures k f.registers)) ∙ sym c.is_asked.ensures ∙ c.if-is_asked.false,
      eq-eqb c.args.slot 0 c.if-slot-eq0.true,
    ) refl

pub returns : goal.returns
unfolding is_bad_doorbell
returns g c = λ k f fit.
    let bell = is_bad_bell c.args.header.now k c.args.slot c.args.target in
    c.is_bad_bell.ensures k f fit
    ∙ sym (ap (λ b. not b || is_asked k.halt || (if c.args.slot == 0 then not (c.args.target == 0) else bell)) (sym (c.is_started.ensures k f.registers) ∙ c.if-not-is_started.false)
    ∙ ap (λ b. b || (if c.args.slot == 0 then not (c.args.target == 0) else bell)) (ap is_asked (sym (c.halt.ensures k f.registers)) ∙ sym c.is_asked.ensures ∙ c.if-is_asked.false)
    ∙ ap (λ b. if b then not (c.args.target == 0) else bell) (ne_eqb c.args.slot 0 c.if-slot-eq0.false))
