use Rattle.trace_record.proofs.Laws.{◌*◌, ◌||◌, ◌∙◌, ap, group_bits, on_ok_weaker, soiled_one, soiled_three}
use Rattle.trace_record.proofs.BaseWords.{is_in}
use Rattle.trace_record.proofs.range_words.soiled.SoiledWords.soil.Goals as goal

pub returns-then-start-behind-2 : goal.returns-then-start-behind-2
returns-then-start-behind-2 c = λ soiled held. record {
  each = λ a place.
      ap (λ b. is_in a c.args.from (4 * c.args.words) || b) (held.each a place)
      ∙ soiled_one c.args.from c.args.words c.requires.aligned (group_bits c.args.self.now) (group_bits c.add_bits.new.self) c.mask.result c.mask.ensures c.in_ok-add_bits.ensures.ok
      c.if-start-behind-2.true a place;
}

pub returns : goal.returns
returns c = on_ok_weaker c.soil_groups.result (λ whole. λ soiled held. record {
  each = λ a place.
      ap (λ b. is_in a c.args.from (4 * c.args.words) || b) (held.each a place)
      ∙ soiled_three c.args.from c.args.words c.requires.aligned (group_bits c.args.self.now) (group_bits c.add_bits.new.self) c.mask.result c.mask.ensures c.in_ok-add_bits.ensures.ok
      (group_bits c.add_bits-2.new.self) (group_bits c.soil_groups.new.self) c.mask-2.result c.mask-2.ensures c.in_ok-add_bits-2.ensures.ok whole c.if-start-behind.false a place;
}) c.soil_groups.ensures
