use Rattle.driver_rows.proofs.Laws.{goes_on, stops, Ring, get_or, refl, sym, ◌∙◌, ap, is_bad_crcr, is_no_first_block, no_command_ring, of_crcr}
use Rattle.driver_rows.proofs.registers.is_bad_crcr.Goals as goal

pub returns-in_default : goal.returns-in_default
unfolding is_bad_crcr is_no_first_block
returns-in_default c = λ k m f s. rw (no_command_ring c.args.header.now (sym c.requires.found.commands ∙ c.in_default.is)) refl

pub returns-then-is_bad_begin : goal.returns-then-is_bad_begin
returns-then-is_bad_begin c = λ k m f s.
    of_crcr c.args.header.now k c.args.value c.requires.headed c.in-Some.number c.index-rings-number.result (sym c.requires.found.commands ∙ c.in-Some.is)
    (c.index-rings-number.is ∙ ap (λ xs. get_or xs c.in-Some.number c.index-rings-number.result) c.as_slice-rings.ensures) _ (ap (λ (r : Ring). r.shape) (sym c.index-rings-number.is)) _
    (stops _ _ _ c.is_bad_begin.ensures c.if-is_bad_begin.true)

pub returns-else-is_bad_begin : goal.returns-else-is_bad_begin
returns-else-is_bad_begin c = λ k m f s.
    of_crcr c.args.header.now k c.args.value c.requires.headed c.in-Some.number c.index-rings-number.result (sym c.requires.found.commands ∙ c.in-Some.is)
    (c.index-rings-number.is ∙ ap (λ xs. get_or xs c.in-Some.number c.index-rings-number.result) c.as_slice-rings.ensures) _ (ap (λ (r : Ring). r.shape) (sym c.index-rings-number.is)) _
    (goes_on _ _ _ _ c.is_bad_begin.ensures c.if-is_bad_begin.false (c.is_used.ensures k f.rings s.has_commands))
