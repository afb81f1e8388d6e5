use Rattle.controller_model.proofs.RegisterLemmas.{other_register}
use Rattle.controller_model.proofs.registers.write_value.Goals as goal

pub returns-in-Usbcmd : goal.returns-in-Usbcmd
returns-in-Usbcmd c = λ words w f. rw c.in-Usbcmd.is (c.write_command.ensures words w f)

pub returns-in-Crcr : goal.returns-in-Crcr
returns-in-Crcr c = λ words w f. rw c.in-Crcr.is (c.write_pointer.ensures words w f)

pub returns-in-Erdp : goal.returns-in-Erdp
returns-in-Erdp c = λ words w f. rw c.in-Erdp.is (c.in_ok-write_dequeue-in-Erdp.ensures words w f)

pub returns : goal.returns
returns c = λ words w f.
    rw (other_register c.args.header.now w c.args.register c.args.value c.in_default.not-Usbcmd c.in_default.not-Crcr c.in_default.not-Erdp) (c.note.ensures c.args.header.now words w f)
