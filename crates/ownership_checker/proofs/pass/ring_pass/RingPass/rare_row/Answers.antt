use Rattle.ownership_checker.proofs.JudgedRows.Kinds.{driven_by}
use Rattle.ownership_checker.proofs.pass.ring_pass.RingPass.rare_row.Goals as goal

pub row_behind_withdrawals-requires-clause-withdrawn : goal.row_behind_withdrawals-requires-clause-withdrawn
row_behind_withdrawals-requires-clause-withdrawn g c = c.requires.rare (driven_by c.args.row.now c.in_default.not-Ring c.in_default.not-Free c.in_default.not-Nop)

pub row_behind_withdrawals-requires-clause-driven : goal.row_behind_withdrawals-requires-clause-driven
row_behind_withdrawals-requires-clause-driven g c = driven_by c.args.row.now c.in_default.not-Ring c.in_default.not-Free c.in_default.not-Nop
