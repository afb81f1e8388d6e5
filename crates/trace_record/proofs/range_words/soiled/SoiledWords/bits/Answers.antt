use Rattle.trace_record.proofs.Laws.{◌∙◌, sym, bits_of, own_bits, whole_bits}
use Rattle.trace_record.proofs.range_words.soiled.SoiledWords.bits.Goals as goal

pub returns-then-is_whole : goal.returns-then-is_whole
returns-then-is_whole c = whole_bits (bits_of c.args.self.now.groups) (bits_of c.args.self.now.whole) c.args.group (sym c.is_whole.ensures ∙ c.if-is_whole.true)

pub returns : goal.returns
returns c = c.of.ensures ∙ own_bits (bits_of c.args.self.now.groups) (bits_of c.args.self.now.whole) c.args.group (sym c.is_whole.ensures ∙ c.if-is_whole.false)
