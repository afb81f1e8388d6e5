use Rattle.trace_record.proofs.Laws.{◌%◌, ◌∙◌, ap, not, nat_eq, nat_lt, bit_and, bit_at, tested_bit}
use Rattle.trace_record.proofs.range_words.soiled.SoiledWords.is_whole.Goals as goal

pub returns : goal.returns
returns c =
    let g = c.args.group in
    ap (λ b. not (nat_eq (bit_and c.of.result b) 0)) c.bit_of.ensures ∙ tested_bit c.of.result (g % 64) ∙ ap (λ b. nat_lt 0 (bit_at b (g % 64))) c.of.ensures
