use Rattle.trace_reader.proofs.Words.{◌≡◌, drop, named}
use Rattle.trace_reader.proofs.entry.named.Given as goal

abbrev pub invariant-loop-register : goal.invariant-loop-register
invariant-loop-register l = named l.fn.word l.fn.registers ≡ named l.fn.word (drop l.register-index l.registers)
