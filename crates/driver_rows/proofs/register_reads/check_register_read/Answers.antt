use Rattle.driver_rows.proofs.Laws.{◌∙◌, sym, bad_read, read_is}
use Rattle.driver_rows.proofs.register_reads.check_register_read.Goals as goal

pub returns-then-is_impossible_read-clause-refused : goal.returns-then-is_impossible_read-clause-refused
returns-then-is_impossible_read-clause-refused c = λ h k m f on. bad_read h c.args.register c.args.value k on (sym (c.is_impossible_read.ensures h k f.registers) ∙ c.if-is_impossible_read.true)

pub returns-clause-ok : goal.returns-clause-ok
returns-clause-ok c = λ h k m f on.
    read_is h c.args.register c.args.value k on (sym (c.is_impossible_read.ensures h k f.registers) ∙ c.if-is_impossible_read.false) _ m (c.read_register.ensures.followed h k m f)
