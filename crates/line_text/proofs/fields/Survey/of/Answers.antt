use Rattle.line_text.proofs.Words.{◌≡◌, ◌+◌, ◌≤◌, suc, length, ap, arith, fields_of}
use Rattle.line_text.proofs.Cuts.{few_fields}
use Rattle.line_text.proofs.fields.Survey.of.Goals as goal

pub overflow_add-count : goal.overflow_add-count
overflow_add-count c =
    let short = c.well_formed.0.1 in
    let whole : length (fields_of c.args.line.now) ≡ c.loop-field.count + length c.loop-field.fields = c.loop-field.invariant.count in
    let one : length c.loop-field.fields ≡ suc (length c.next.new.self) = ap length c.in-Some.ensures.some in
    let few : length (fields_of c.args.line.now) ≤ length c.args.line.now + 1 = few_fields c.args.line.now in
    omega (arith, short, whole, one, few)
