use Rattle.driver_rows.proofs.Laws.{arith, ap, sym, ◌∙◌, Usbcmd, Dcbaap, Config, Erstba, by_version, goes_on, stops, none_older, is_bad_register, older, stricter, of_other_registers, Crcr}
use Rattle.driver_rows.proofs.registers.is_bad_register.Goals as goal

pub returns-in-Usbcmd : goal.returns-in-Usbcmd
unfolding is_bad_register
returns-in-Usbcmd g c = λ k f s.
    c.is_bad_command.ensures k _ f s ∙ sym (none_older c.args.header.now k c.args.value Usbcmd (λ e. cc e))
    ∙ ap (λ r. by_version c.args.header.now k c.args.value r) (sym c.in-Usbcmd.is)

pub returns-then-is_in_run : goal.returns-then-is_in_run
unfolding is_bad_register
returns-then-is_in_run g c = λ k f s.
    stops _ _ _ (c.is_in_run.ensures k f.registers) c.if-is_in_run.true ∙ sym (none_older c.args.header.now k c.args.value Crcr (λ e. cc e))
    ∙ ap (λ r. by_version c.args.header.now k c.args.value r) (sym c.in-Crcr.is)

pub returns-else-is_in_run : goal.returns-else-is_in_run
unfolding is_bad_register
returns-else-is_in_run g c = λ k f s.
    goes_on _ _ _ _ (c.is_in_run.ensures k f.registers) c.if-is_in_run.false (c.is_bad_crcr.ensures k _ f s) ∙ sym (none_older c.args.header.now k c.args.value Crcr (λ e. cc e))
    ∙ ap (λ r. by_version c.args.header.now k c.args.value r) (sym c.in-Crcr.is)

pub returns-in-Dcbaap : goal.returns-in-Dcbaap
unfolding is_bad_register
returns-in-Dcbaap g c = λ k f s.
    c.is_too_late.ensures k f.registers ∙ sym (none_older c.args.header.now k c.args.value Dcbaap (λ e. cc e))
    ∙ ap (λ r. by_version c.args.header.now k c.args.value r) (sym c.in-Dcbaap.is)

pub returns-in-Config : goal.returns-in-Config
unfolding is_bad_register
returns-in-Config g c = λ k f s.
    c.is_too_late-in-Config.ensures k f.registers ∙ sym (none_older c.args.header.now k c.args.value Config (λ e. cc e))
    ∙ ap (λ r. by_version c.args.header.now k c.args.value r) (sym c.in-Config.is)

pub returns-in-Erstsz : goal.returns-in-Erstsz
unfolding is_bad_register older stricter
returns-in-Erstsz g c = λ k f s.
    c.is_bad_sizing.ensures k _ f ∙ ap (λ r. by_version c.args.header.now k c.args.value r) (sym c.in-Erstsz.is)

pub returns-in-Erstba : goal.returns-in-Erstba
returns-in-Erstba g c = λ k f s.
    c.is_bad_base.ensures k f s ∙ sym (none_older c.args.header.now k c.args.value Erstba (λ e. cc e))
    ∙ ap (λ r. by_version c.args.header.now k c.args.value r) (sym c.in-Erstba.is)

pub returns-in_default : goal.returns-in_default
returns-in_default g c = grind (arith, of_other_registers, none_older)
