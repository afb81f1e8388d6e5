use Rattle.leases.proofs.Laws.{◌≡◌, ◌∙◌, ◌∷◌, [], None, Some, ap, sym, Erstba, Range, SegmentTable, base_address, table_range, ends_all, lent_of, none_ended, one_ended}
use Rattle.leases.proofs.rows.resets.end_table.Goals as goal

pub returns-in_default : goal.returns-in_default
unfolding table_range
returns-in_default g c = λ list k memory ts follows lent all.
    let none : k.register Erstba ≡ None = sym (c.value.ensures k follows.registers) ∙ c.in_default.is in
    none_ended c.args.header.now c.args.number ts c.args.book.now c.args.ranges.now _ (ap (table_range c.args.header.now) none) all

pub returns : goal.returns
unfolding table_range
returns g c = λ list k memory ts follows lent all.
    let h = c.args.header.now in
    let some : k.register Erstba ≡ Some c.in-Some.value = sym (c.value.ensures k follows.registers) ∙ c.in-Some.is in
    let one : table_range h (k.register Erstba) ≡ Range c.table_bytes-bytes.result (base_address c.in-Some.value) SegmentTable ∷ [] =
    ap (table_range h) some ∙ ap (λ n. Range n (base_address c.in-Some.value) SegmentTable ∷ []) (sym c.table_bytes-bytes.ensures) in
    one_ended h c.args.number ts c.end_table.new.book c.args.ranges.now _ _ one
    (ends_all (g.B.LeaseLog.holds list) h c.args.number ts c.end_table.new.book c.args.ranges.now _ (c.end_table.ensures list h ts all.held all.found (lent_of ts _ _ [] one lent)) all.found)
