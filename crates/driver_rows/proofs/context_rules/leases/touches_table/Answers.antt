use Rattle.driver_rows.proofs.Laws.{◌*◌, ◌/◌, ap, sym, ◌∙◌, overlap, Erstba, any_table, of_table}
use Rattle.driver_rows.proofs.context_rules.leases.touches_table.Goals as goal

pub returns-in_default : goal.returns-in_default
returns-in_default c = λ h k memory f.
    sym (any_table h k c.args.from c.args.len (k.register Erstba) ∙ ap (of_table h c.args.from c.args.len) (sym (c.value.ensures k f.registers) ∙ c.in_default.is))

pub returns : goal.returns
returns c = λ h k memory f.
    c.overlap.ensures
    ∙ ap (λ n. overlap c.args.from c.args.len (c.in-Some.value / 64 * 64) n) (c.table_bytes.ensures h k memory f)
    ∙ sym (any_table h k c.args.from c.args.len (k.register Erstba) ∙ ap (of_table h c.args.from c.args.len) (sym (c.value.ensures k f.registers) ∙ c.in-Some.is))
