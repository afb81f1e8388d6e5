use Rattle.trace_record.proofs.BaseWords.{◌∙◌, ap, sym, base_address, overlap, Erstba}
use Rattle.trace_record.proofs.TableWords as table
use Rattle.trace_record.proofs.trace_record.TraceRecord.is_in_table.Goals as goal

pub returns-in-Some : goal.returns-in-Some
returns-in-Some c = λ h k registers events.
    table.has_word h c.args.at (k.register Erstba) c.in-Some.value c.has_word.result (sym (c.value.ensures k registers) ∙ c.in-Some.is)
    (c.has_word.ensures ∙ ap (λ n. overlap c.args.at 4 (base_address c.in-Some.value) n) (c.table_entries.ensures h k events))

pub returns-in-None : goal.returns-in-None
returns-in-None c = λ h k registers events. table.no_word h c.args.at (k.register Erstba) (sym (c.value.ensures k registers) ∙ c.in-None.is)
