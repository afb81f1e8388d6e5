use Rattle.line_text.proofs.Words.{Some, sym, ap, ◌∙◌, arith, w64}
use Rattle.line_text.proofs.DigitLanes.{no_number, number_read}
use Rattle.line_text.proofs.numbers.u64_of.Goals as goal

pub returns-then-not-are_digits : goal.returns-then-not-are_digits
returns-then-not-are_digits c = sym (no_number w64 c.args.field.now 16 c.if-field-ne16.false (λ digits. cc (sym c.if-not-are_digits.true ∙ c.are_digits.ensures.1 digits)))

pub returns : goal.returns
returns c = ap Some c.from_be_bytes.ensures ∙ sym (number_read w64 c.args.field.now 16 c.if-field-ne16.false c.bytes_of_16.result (omega arith) c.bytes_of_16.ensures)
