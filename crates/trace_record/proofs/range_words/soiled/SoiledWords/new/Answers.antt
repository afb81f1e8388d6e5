use Rattle.trace_record.proofs.Laws.{◌/◌, ◌%◌, ◌∙◌, sym, ap, nat_lt, bit_at, bit_at-zero, bits_of, nothing_in}
use Rattle.trace_record.proofs.range_words.soiled.SoiledWords.new.Goals as goal

pub invariant_of-result : goal.invariant_of-result
invariant_of-result c = record { marked = λ g unmarked. nothing_in (bits_of c.new.result) (bits_of c.new-2.result) c.new.ensures c.new-2.ensures g }

pub returns : goal.returns
returns c = record {
  each = λ a aligned.
      sym (ap (λ b. nat_lt 0 (bit_at b (a / 4 % 64))) (nothing_in (bits_of c.new.result) (bits_of c.new-2.result) c.new.ensures c.new-2.ensures (a / 256)) ∙ ap (nat_lt 0) (bit_at-zero (a / 4 % 64)));
}
