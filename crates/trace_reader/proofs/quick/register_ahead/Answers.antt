use Rattle.trace_reader.proofs.Laws.{◌+◌, refl, ap, Reg, begins_with}
use Rattle.trace_reader.proofs.quick.register_ahead.Goals as goal

pub returns-in-Some : goal.returns-in-Some
returns-in-Some c =
    begins_with c.args.text.now c.in-Some.content.now 26 (Reg c.in_ok-register.register c.in_ok-register.value) c.in_ok-register.ensures (refl, λ version. refl) (ap (λ n. n + 1) c.in-Some.ensures.0) c.in-Some.ensures.1

pub returns : goal.returns
returns c =
    begins_with c.args.text.now c.in_ok-content_ahead.field-0.now 28 (Reg c.in_ok-register-2.register c.in_ok-register-2.value) c.in_ok-register-2.ensures (refl, λ version. refl)
    (ap (λ n. n + 1) c.in_ok-content_ahead.ensures.0) c.in_ok-content_ahead.ensures.1
