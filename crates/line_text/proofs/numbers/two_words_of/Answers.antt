use Rattle.std.proofs.Common.{Some, sym, ap, ◌∙◌}
use Rattle.line_text.proofs.SideBySide.{first_read, one_says_none, second_read}
use Rattle.line_text.proofs.numbers.two_words_of.Goals as goal

pub returns-then-not-are_digits-clause-none : goal.returns-then-not-are_digits-clause-none
returns-then-not-are_digits-clause-none c =
    one_says_none c.args.first.now c.args.second.now c.if-first-ne8.false c.if-second-ne8.false
    (λ digits. cc (sym c.if-not-are_digits.true ∙ c.are_digits.ensures.1 (rw c.side_by_side-digits.ensures digits)))

pub returns-clause-some : goal.returns-clause-some
returns-clause-some c =
    let bytes = c.bytes_of_16-bytes.result in
    let said = rw c.side_by_side-digits.ensures at c.bytes_of_16-bytes.ensures in (
      first_read c.args.first.now c.args.second.now c.if-first-ne8.false c.if-second-ne8.false bytes said ∙ ap Some (sym c.from_be_bytes.ensures),
      second_read c.args.first.now c.args.second.now c.if-first-ne8.false c.if-second-ne8.false bytes said ∙ ap Some (sym c.from_be_bytes-2.ensures),
    )
