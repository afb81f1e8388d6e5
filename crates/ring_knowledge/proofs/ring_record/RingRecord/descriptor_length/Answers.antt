use Rattle.ring_knowledge.proofs.Laws.{◌∙◌, ◌≤◌, sym, kept_from, length_is}
use Rattle.ring_knowledge.proofs.ring_record.RingRecord.descriptor_length.Goals as goal

pub returns : goal.returns
returns c = λ shape v known from.
    let kept : c.args.self.now.forgotten ≤ c.args.position = kept_from shape v c.args.self.now known.marks c.args.position from in
    c.length_at.ensures.value kept ∙ sym (length_is shape v c.args.self.now known.marks c.args.position kept)
