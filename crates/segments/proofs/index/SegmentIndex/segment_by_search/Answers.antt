use Rattle.segments.proofs.UpperLaws.{◌≡◌, ◌-◌, ◌≤◌, ℕ, List, true, false, length, sym, subst, ap, arith, leb, rules, IsNonDecreasingBy, IsPartitionPoint, IsPartitionPoint-from_clause, IsPartitionedBy-leb, firsts_rise, segment_found}
use Rattle.segments.proofs.index.SegmentIndex.segment_by_search.Goals as goal

pub returns : goal.returns
returns c = λ kind segments is within.
    let sorted = subst (λ (xs : List ℕ). IsNonDecreasingBy (λ (first : ℕ). first) xs) (sym c.deref.ensures.value) (firsts_rise kind segments c.args.self.now.firsts.items is.firsts) in
    let parted = IsPartitionedBy-leb (λ (first : ℕ). first) _ c.args.place sorted in
    let border = IsPartitionPoint-from_clause (λ (first : ℕ). leb first c.args.place) _ _ c.partition_point-after.ensures.partitioned parted (λ a r q k. search rules) in
    let point = subst (λ (xs : List ℕ). IsPartitionPoint (λ first. leb first c.args.place ≡ true) (λ first. leb first c.args.place ≡ false) xs c.partition_point-after.result) c.deref.ensures.value border in
    let bound : c.partition_point-after.result ≤ length c.args.self.now.firsts.items = omega (arith, c.partition_point-after.ensures.bound, ap length c.deref.ensures.value) in
    let one : c.saturating_sub.result ≡ c.partition_point-after.result - 1 = search rules in
    rw one (segment_found kind segments c.args.self.now.firsts.items is.firsts c.args.place c.partition_point-after.result point bound within)
