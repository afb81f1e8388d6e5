use Rattle.controller_model.proofs.Words.{◌≡◌, ◌&&◌, ◌∙◌, not, true, false, Crcr, register_row, valued, with_command_ring}
use Rattle.controller_model.proofs.registers.write_pointer.Goals as goal

pub returns-then-kept : goal.returns-then-kept
unfolding register_row with_command_ring
returns-then-kept c = λ words w f.
    let now = c.note.ensures c.args.header.now words w f in
    let runs : ((valued w Crcr c.args.value).started && not (valued w Crcr c.args.value).halted) ≡ true =
    (λ i. now.progress.started i && not (now.progress.halted i)) ∙ c.if-kept.true in
    simp runs now

pub returns : goal.returns
unfolding register_row with_command_ring
returns c = λ words w f.
    let now = c.note.ensures c.args.header.now words w f in
    let idle : ((valued w Crcr c.args.value).started && not (valued w Crcr c.args.value).halted) ≡ false =
    (λ i. now.progress.started i && not (now.progress.halted i)) ∙ c.if-kept.false in
    simp idle (c.place_commands.ensures words (valued w Crcr c.args.value) now)
