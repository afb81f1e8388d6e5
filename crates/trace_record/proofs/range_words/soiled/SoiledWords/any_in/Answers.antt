use Rattle.trace_record.proofs.Laws.{◌≡◌, ◌+◌, ◌-◌, ◌*◌, ◌/◌, ◌%◌, ◌^◌, ◌<◌, ◌≤◌, ◌&&◌, ◌∙◌, ℕ, true, sym, ap, arith, rules, nat_le, nat_lt, cases_lt, bit_at, group_bits, none_common, some_common, marked_at, in_group, between, low_of, high_of, bit_at-zero, any_below, none_below}
use Rattle.trace_record.proofs.range_words.soiled.SoiledWords.any_in.Goals as goal

pub returns-then-is_clean : goal.returns-then-is_clean
returns-then-is_clean c = grind (arith, none_below, group_bits, nat_lt, bit_at, bit_at-zero)

pub returns-then-common-ne0 : goal.returns-then-common-ne0
returns-then-common-ne0 c = λ soiled held.
    let fits : c.mask.result < 2 ^ 64 = search rules in
    let common = some_common c.bits.result c.mask.result fits c.if-common-ne0.true in
    let i : ℕ = common.index in
    let g : ℕ = c.loop-group.group in
    let k : ℕ = 64 * g + i in
    let first : ℕ = c.args.from / 4 in
    let run : (nat_le first k && nat_lt k (first + c.args.words)) ≡ true = sym (c.mask.ensures i common.within) ∙ common.both.1 in
    let low : first ≤ k = low_of first k (first + c.args.words) run in
    let high : k < first + c.args.words = high_of first k (first + c.args.words) run in
    let j : ℕ = k - first in
    let a : ℕ = c.args.from + 4 * j in
    let is : a ≡ 4 * k = omega (arith, low, c.requires.aligned) in
    let group : a / 256 ≡ g = omega (arith, is, common.within) in
    let index : a / 4 % 64 ≡ i = omega (arith, is, common.within) in
    let marked = held.each a (omega (arith, is)) ∙ marked_at (group_bits c.args.self.now) g i a group index ∙ ap (λ b. nat_lt 0 (bit_at b i)) (sym c.bits.ensures) ∙ common.both.0 in
    sym (any_below (λ n. soiled (c.args.from + 4 * n)) c.args.words j (omega (arith, low, high)) marked)

pub loop-group-preserved : goal.loop-group-preserved
loop-group-preserved c = grind (arith, cases_lt, nat_le, nat_lt, between, in_group, marked_at, group_bits, bit_at, none_common)

pub returns : goal.returns
returns c = grind (arith, none_below)
