use Rattle.driver_rows.proofs.Laws.{◌≡◌, ◌||◌, ◌∙◌, Bool, false, ap, refl, subst, sym, list_any, range_with_len, Command, ConfigureEndpoint, FitsMemory, is_left, leaves, nothing_left}
use Rattle.driver_rows.proofs.bindings.dropped.rings_dropped.Goals as goal

pub returns-in_default : goal.returns-in_default
returns-in_default g c = λ k f fits r. c.new-rings.ensures r ∙ sym (nothing_left k r c.args.command.now c.in_default.not-ConfigureEndpoint)

pub returns-then-deconfigure : goal.returns-then-deconfigure
returns-then-deconfigure g c = λ k f fits r. rw (c.in-ConfigureEndpoint.is, c.if-deconfigure.true) (c.new-rings.ensures r)

pub returns : goal.returns
returns g c = λ k f fits r.
    let s = c.in-ConfigureEndpoint.slot in
    let a = c.in-ConfigureEndpoint.input_context in
    let is : c.args.command.now ≡ ConfigureEndpoint s false a = c.in-ConfigureEndpoint.is ∙ ap (λ (b : Bool). ConfigureEndpoint s b a) c.if-deconfigure.false in
    let here : FitsMemory c.args.header.now.context_size (ConfigureEndpoint s false a) = subst (λ (d : Command). FitsMemory c.args.header.now.context_size d) is fits in
    let lies = here a refl in
    c.note_dropped.ensures k f.followed r ∙ ap (λ b. b || list_any (λ i. is_left k c.drop_flags.result s i r) (range_with_len 2 30)) (c.new-rings.ensures r)
    ∙ ap (λ w. list_any (λ i. is_left k w s i r) (range_with_len 2 30)) (c.drop_flags.ensures c.args.header.now.context_size lies.0 lies.1 ∙ sym (f.words a))
    ∙ ap (λ d. list_any (λ i. leaves k d i r) (range_with_len 2 30)) (sym is)
