use Rattle.trace_reader.proofs.Laws.{sym, ◌∙◌, Read, SaysAlone, event_says, if_is}
use Rattle.trace_reader.proofs.quick.quick_event.Goals as goal

pub returns : goal.returns
returns c =
    if_is (λ event. SaysAlone (Read event) c.args.content.now) c.block_of.result
    (λ event is. event_says c.args.content.now event c.requires c.if-content-ne101.false c.if-content-ne118.false c.if-content-ne32.false c.if-content-ne32-2.false c.if-content-ne32-3.false
    c.if-content-ne32-4.false (sym c.block_of.ensures ∙ is))
