use Rattle.trace_record.proofs.trace_record.TraceRecord.write_place.Goals as goal

pub returns : goal.returns
returns c = λ k rings. c.add_command.ensures k c.args.at c.args.word rings (c.word_place-place.ensures.placed k rings)
