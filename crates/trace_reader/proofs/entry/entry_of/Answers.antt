use Rattle.trace_reader.proofs.Laws.{◌∙◌, ap, sym, refl, Some, None, said_behind, no_word}
use Rattle.trace_reader.proofs.entry.entry_of.Goals as goal

pub returns-in-Some-Sub : goal.returns-in-Some-Sub
returns-in-Some-Sub c = rw (said_behind c.args.version c.args.begun _ _ _ _ c.in-Some.ensures.some (ap Some (sym c.in-Some-Sub.field-0-is) ∙ c.in-Some-Sub.ensures)) c.sub_entry.ensures

pub returns-in-Some-W : goal.returns-in-Some-W
returns-in-Some-W c = rw (said_behind c.args.version c.args.begun _ _ _ _ c.in-Some.ensures.some (ap Some (sym c.in-Some-W.field-0-is) ∙ c.in-Some-W.ensures)) c.write_entry.ensures

pub returns-in-Some-Reg : goal.returns-in-Some-Reg
returns-in-Some-Reg c = rw (said_behind c.args.version c.args.begun _ _ _ _ c.in-Some.ensures.some (ap Some (sym c.in-Some-Reg.field-0-is) ∙ c.in-Some-Reg.ensures)) c.reg_entry.ensures

pub returns-in-Some-Db : goal.returns-in-Some-Db
returns-in-Some-Db c = rw (said_behind c.args.version c.args.begun _ _ _ _ c.in-Some.ensures.some (ap Some (sym c.in-Some-Db.field-0-is) ∙ c.in-Some-Db.ensures)) c.bell_entry.ensures

pub returns-in-Some-Ev : goal.returns-in-Some-Ev
returns-in-Some-Ev c = rw (said_behind c.args.version c.args.begun _ _ _ _ c.in-Some.ensures.some (ap Some (sym c.in-Some-Ev.field-0-is) ∙ c.in-Some-Ev.ensures)) c.read_entry.ensures

pub returns-in-Some-Ring : goal.returns-in-Some-Ring
returns-in-Some-Ring c = rw (said_behind c.args.version c.args.begun _ _ _ _ c.in-Some.ensures.some (ap Some (sym c.in-Some-Ring.field-0-is) ∙ c.in-Some-Ring.ensures)) c.ring_entry.ensures

pub returns-in-Some-Free : goal.returns-in-Some-Free
returns-in-Some-Free c = rw (said_behind c.args.version c.args.begun _ _ _ _ c.in-Some.ensures.some (ap Some (sym c.in-Some-Free.field-0-is) ∙ c.in-Some-Free.ensures)) c.goes_entry.ensures

pub returns-in-Some-Nop : goal.returns-in-Some-Nop
returns-in-Some-Nop c = rw (said_behind c.args.version c.args.begun _ _ _ _ c.in-Some.ensures.some (ap Some (sym c.in-Some-Nop.field-0-is) ∙ c.in-Some-Nop.ensures)) c.withdraws_entry.ensures

pub returns-in-Some-Rd : goal.returns-in-Some-Rd
returns-in-Some-Rd c = rw (said_behind c.args.version c.args.begun _ _ _ _ c.in-Some.ensures.some (ap Some (sym c.in-Some-Rd.field-0-is) ∙ c.in-Some-Rd.ensures)) c.reg_read_entry.ensures

pub returns-in_default : goal.returns-in_default
returns-in_default c = rw (no_word c.args.version c.args.begun c.args.fields (c.in_default.ensures.none).0, c.into.ensures) refl

pub returns-in-None : goal.returns-in-None
returns-in-None c = rw (said_behind c.args.version c.args.begun c.args.fields c.next.new.self c.in-Some.word.now None c.in-Some.ensures.some c.in-None.ensures, c.into-in-None.ensures) refl
