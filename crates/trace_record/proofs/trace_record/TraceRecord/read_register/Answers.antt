use Rattle.trace_record.proofs.ReadRegisters.{read_followed}
use Rattle.trace_record.proofs.trace_record.TraceRecord.read_register.Goals as goal

pub returns-clause-followed : goal.returns-clause-followed
returns-clause-followed c = λ h k m f. read_followed h k c.args.self.now m f c.read.new.self c.args.register c.args.value (c.read.ensures k f.registers)
