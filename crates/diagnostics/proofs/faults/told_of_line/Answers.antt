use Rattle.diagnostics.proofs.Words.{string_bytes, Fault}
use Rattle.diagnostics.proofs.Told.{told_of}
use Rattle.diagnostics.proofs.faults.told_of_line.Goals as goal

pub returns : goal.returns
returns c =
    told_of (λ told. string_bytes told) c.told.result c.args.view.now c.in_ok-diagnostic.diagnostic (Fault c.args.fault) c.args.line
    c.in_ok-diagnostic.ensures.fault c.in_ok-diagnostic.ensures.line c.told.ensures
