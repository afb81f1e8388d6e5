use Rattle.segments.proofs.UpperLaws.{rules, IsNonDecreasingBy-from_sort_by_key, all_starts, each_starts}
use Rattle.segments.proofs.index.SegmentIndex.new.Goals as goal

pub returns : goal.returns
returns c = record {
  step = c.common_step-step.ensures;
  firsts = c.in_ok-firsts.ensures;
  starts = all_starts c.args.segments.now c.in_ok-starts.starts.items c.sort_unstable_by_key.new.self.items c.in_ok-starts.ensures c.sort_unstable_by_key.ensures.permutation;
  each = each_starts c.args.segments.now c.in_ok-starts.starts.items c.sort_unstable_by_key.new.self.items c.in_ok-starts.ensures c.sort_unstable_by_key.ensures.permutation;
  sorted = IsNonDecreasingBy-from_sort_by_key (λ s. s.base) _ c.sort_unstable_by_key.ensures.sorted (λ a r q k. search rules);
}
