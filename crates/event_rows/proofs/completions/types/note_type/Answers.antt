use Rattle.event_rows.proofs.Laws.{◌≡◌, ◌==◌, ◌/◌, ◌%◌, ◌^◌, ◌∙◌, ℕ, arith, eq-eqb, ne_eqb, sym, ap, ◌&&◌, nat_le, input_add_flag, has_isochronous, is_isochronous, typed_none, typed_one, none_of, its_type}
use Rattle.event_rows.proofs.completions.types.note_type.Given.{Over}
use Rattle.event_rows.proofs.completions.types.note_type.Goals.{After-from}
use Rattle.event_rows.proofs.completions.types.note_type.Goals as goal

module _ (g : Over) (c : After-from g) where
  abbrev words : ℕ → ℕ
  words = g.M.WordMemory.words c.args.memory.now

  on : c.args.named.context % 4 ≡ 0
  on = omega (arith, c.requires.aligned)

  -- the flag of the endpoint, as the code reads it
  flag_is : input_add_flag words c.args.named.context c.args.index ≡ (c.add_flags-flags.result / 2 ^ c.from.result % 2 == 1)
  flag_is =
      ap (λ w. w / 2 ^ c.args.index % 2 == 1) (sym (c.add_flags-flags.ensures c.args.size on c.requires.room))
      ∙ ap (λ n. c.add_flags-flags.result / 2 ^ n % 2 == 1) (sym c.from.ensures)

pub returns-then-flags-from-eq1 : goal.returns-then-flags-from-eq1
returns-then-flags-from-eq1 g c = λ h k f.
    let at = (goal.at.returns-then-flags-from-eq1 g c).After-from in
    let added = flag_is g at ∙ eq-eqb _ 1 c.if-flags-from-eq1.true in
    let its = its_type c.args.size (words g at) c.args.named.context c.args.index c.requires.last
    ∙ ap (λ t. nat_le 2 c.args.index && is_isochronous t) (sym (c.endpoint_type-ep_type.ensures (on g at) c.requires.room)) ∙ sym c.is_isochronous.ensures in
    typed_one h k c.args.named.slot (input_add_flag (words g at) c.args.named.context) (has_isochronous c.args.size (words g at) c.args.named.context) c.note_type.new.self c.args.index _ added its
    (c.note_type.ensures h k f)

pub returns-else-flags-from-eq1 : goal.returns-else-flags-from-eq1
returns-else-flags-from-eq1 g c = λ h k f.
    let at = (goal.at.returns-else-flags-from-eq1 g c).After-from in
    let flags = input_add_flag (words g at) c.args.named.context in
    typed_none h k c.args.named.slot flags _ c.args.devices.now _ (none_of flags c.args.index (flag_is g at ∙ ne_eqb _ 1 c.if-flags-from-eq1.false)) f
