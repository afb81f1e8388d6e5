use Rattle.leases.proofs.Laws.{◌≡◌, ◌∙◌, ◌∷◌, [], ℕ, None, true, ap, subst, sym, inl, inr, cases_option, false≢true, is_some, Erstba, HoldsAll, Range, SegmentTable, is_use_free, with_begun, base_address, table_free, held_still, lent_again, on_both, table_begins}
use Rattle.leases.proofs.rows.other_rows.note_table.Goals as goal

pub returns-then-is_some : goal.returns-then-is_some
returns-then-is_some g c = λ list k ts memory next all.
    let some : is_some (k.register Erstba) ≡ true = ap is_some (sym (c.value.ensures k next.followed.registers)) ∙ sym c.is_some.ensures ∙ c.if-is_some.true in
    elim (cases_option (k.register Erstba)) [
      | inl none ↦ absurd (false≢true (ap is_some (sym none) ∙ some))
      | inr written ↦
          held_still c.args.header.now c.requires k ts c.args.book.now c.args.ranges.now _ c.args.number
          (lent_again c.args.header.now c.requires k ts c.args.number c.args.t.now memory c.args.value written.0 written.1 next) all
    ]

pub returns : goal.returns
returns g c = on_both c.begin_table.result (λ held found. λ list k ts memory next all.
    let h = c.args.header.now in
    let none : k.register Erstba ≡ None =
    elim (cases_option (k.register Erstba)) [
      | inl none ↦ none
      | inr some ↦ absurd (false≢true (sym c.if-is_some.false ∙ c.is_some.ensures ∙ ap is_some (c.value.ensures k next.followed.registers ∙ some.1)))
    ] in
    let free : is_use_free h ts SegmentTable ≡ true = table_free h k ts next.step.opened none in
    table_begins h c.requires k ts c.args.number c.args.t.now memory (g.B.LeaseLog.holds list) c.args.value c.begin_table.new.book c.begin_table.new.self none next
    (subst (λ (n : ℕ). HoldsAll (g.B.LeaseLog.holds list) h (with_begun c.args.number ts (Range n (base_address c.args.value) SegmentTable ∷ [])) c.begin_table.new.book c.begin_table.new.self) c.table_bytes-bytes.ensures
    (record { held = held list h ts SegmentTable all.held; found = found list h ts all.held all.found free }))) c.begin_table.ensures.held c.begin_table.ensures.found
