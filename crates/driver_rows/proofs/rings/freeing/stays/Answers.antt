use Rattle.driver_rows.proofs.Laws.{◌∙◌, ◌&&◌, ◌||◌, not, ap, sym, is_transfer_kind, RingKind, has_runs, Cmd, is_in_use, started_there}
use Rattle.driver_rows.proofs.rings.freeing.stays.Goals as goal

pub returns-in-Xfer : goal.returns-in-Xfer
returns-in-Xfer c = λ k m f keeps.
    c.is_had.ensures c.args.header.now k m f keeps
    ∙ ap (λ (n : RingKind). (not (is_transfer_kind n) && not (has_runs c.args.header.now.version)) || is_in_use c.args.header.now k c.args.id n) (sym c.in-Xfer.is)

pub returns-else-not-has_runs : goal.returns-else-not-has_runs
returns-else-not-has_runs c = λ k m f keeps.
    let h = c.args.header.now in
    c.uses_command_ring.ensures k c.args.id f.registers f.rings (started_there h c.requires.headed k keeps)
    ∙ sym (ap (λ (n : RingKind). (not (is_transfer_kind n) && not (has_runs h.version)) || is_in_use h k c.args.id n) c.in-Cmd.is
    ∙ ap (λ b. not b || is_in_use h k c.args.id Cmd) (sym c.has_runs.ensures ∙ c.if-not-has_runs.false))
