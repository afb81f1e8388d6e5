use Rattle.segments.proofs.UpperLaws.{Start, ◌≡◌, ◌≤◌, List, true, false, length, sym, subst, ap, arith, leb, rules, IsNonDecreasingBy, IsPartitionPoint, IsPartitionPoint-from_clause, IsPartitionedBy-leb, nothing_starts, last_found}
use Rattle.segments.proofs.index.SegmentIndex.last_by_search.Goals as goal

pub returns-then-after-eq0 : goal.returns-then-after-eq0
returns-then-after-eq0 c = λ kind segments is.
    let sorted = subst (λ (xs : List Start). IsNonDecreasingBy (λ s. s.base) xs) (sym c.as_slice-starts.ensures.value) is.sorted in
    let parted = IsPartitionedBy-leb (λ s. s.base) _ c.args.address sorted in
    let border = IsPartitionPoint-from_clause (λ s. leb s.base c.args.address) _ _ c.partition_point-after.ensures.partitioned parted (λ a r q k. search rules) in
    let point = subst (λ (xs : List Start). IsPartitionPoint (λ s. leb s.base c.args.address ≡ true) (λ s. leb s.base c.args.address ≡ false) xs c.partition_point-after.result) c.as_slice-starts.ensures.value border in
    nothing_starts kind segments c.args.self.now is c.args.address c.partition_point-after.result point c.if-after-eq0.true

pub returns : goal.returns
returns c = λ kind segments is.
    let sorted = subst (λ (xs : List Start). IsNonDecreasingBy (λ s. s.base) xs) (sym c.as_slice-starts.ensures.value) is.sorted in
    let parted = IsPartitionedBy-leb (λ s. s.base) _ c.args.address sorted in
    let border = IsPartitionPoint-from_clause (λ s. leb s.base c.args.address) _ _ c.partition_point-after.ensures.partitioned parted (λ a r q k. search rules) in
    let point = subst (λ (xs : List Start). IsPartitionPoint (λ s. leb s.base c.args.address ≡ true) (λ s. leb s.base c.args.address ≡ false) xs c.partition_point-after.result) c.as_slice-starts.ensures.value border in
    let same = c.as_slice-starts.ensures.value in
    let bound : c.partition_point-after.result ≤ length c.args.self.now.starts.items = omega (arith, c.partition_point-after.ensures.bound, ap length same) in
    let d : Start = record { base = 0; segment = 0 } in
    rw same (last_found kind segments c.args.self.now is c.args.address c.partition_point-after.result point (omega (arith, c.if-after-eq0.false)) bound d)
