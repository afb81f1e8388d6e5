use Rattle.driver_rows.proofs.Laws.{arith, ◌+◌, ◌/◌, ◌*◌, ◌∙◌, false, refl, subst, sym, ConfigureEndpoint, FitsMemory, HasBound, of_configure, of_nothing}
use Rattle.driver_rows.proofs.bindings.context.bound_by_configure.Goals as goal

pub returns-then-deconfigure : goal.returns-then-deconfigure
returns-then-deconfigure g c = grind (arith, of_nothing)

pub returns : goal.returns
returns g c = λ h k slot words fits.
    let a = c.args.context in
    let here : FitsMemory h.context_size (ConfigureEndpoint slot false a) =
    subst (λ d. FitsMemory h.context_size (ConfigureEndpoint slot d a)) c.if-deconfigure.false fits in
    let lies = here a refl in
    subst (λ d. HasBound h k (ConfigureEndpoint slot d a) (record { flags = c.add_flags.result / 4 * 4; context = a })) (sym c.if-deconfigure.false)
    (of_configure h k slot a c.add_flags.result (c.add_flags.ensures h.context_size lies.0 lies.1 ∙ sym (words (a + 4))) here)
