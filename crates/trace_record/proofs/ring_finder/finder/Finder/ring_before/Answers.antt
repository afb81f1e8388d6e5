use Rattle.trace_record.proofs.Laws.{◌≡◌, ◌-◌, ◌<◌, ◌≤◌, List, true, false, length, get_or, sym, subst, ap, arith, leb, rules, IsNonDecreasingBy, IsPartitionPoint, IsPartitionPoint-from_clause, IsPartitionedBy-leb, Contains-get_or, Start, last_before, number_below, none_before}
use Rattle.trace_record.proofs.ring_finder.finder.Finder.ring_before.Goals as goal

pub returns-then-after-eq0-clause-last : goal.returns-then-after-eq0-clause-last
returns-then-after-eq0-clause-last c =
    let sorted = subst (λ (xs : List Start). IsNonDecreasingBy (λ s. s.address) xs) (sym c.as_slice-starts.ensures.value) c.requires.found.sorted in
    let parted = IsPartitionedBy-leb (λ s. s.address) _ c.args.address sorted in
    let border = IsPartitionPoint-from_clause (λ s. leb s.address c.args.address) _ _ c.partition_point-after.ensures.partitioned parted (λ a r q k. search rules) in
    let point = subst (λ (xs : List Start). IsPartitionPoint (λ s. leb s.address c.args.address ≡ true) (λ s. leb s.address c.args.address ≡ false) xs c.partition_point-after.result) c.as_slice-starts.ensures.value border in
    none_before c.args.self.now.starts.items c.requires.found.sorted c.args.address c.partition_point-after.result point c.if-after-eq0.true

pub returns-clause-below : goal.returns-clause-below
returns-clause-below c =
    let same = c.as_slice-starts.ensures.value in
    let bound : c.partition_point-after.result ≤ length c.args.self.now.starts.items = omega (arith, c.partition_point-after.ensures.bound, ap length same) in
    let some : 0 < c.partition_point-after.result = omega (arith, c.if-after-eq0.false) in
    let d : Start = record { address = 0; bytes = 0; ring = 0 } in
    rw same
    (number_below c.args.header.now c.requires.headed c.args.self.now c.requires.found (get_or c.args.self.now.starts.items (c.partition_point-after.result - 1) d)
    (Contains-get_or c.args.self.now.starts.items (c.partition_point-after.result - 1) d (omega arith)))

pub returns-clause-last : goal.returns-clause-last
returns-clause-last c =
    let sorted = subst (λ (xs : List Start). IsNonDecreasingBy (λ s. s.address) xs) (sym c.as_slice-starts.ensures.value) c.requires.found.sorted in
    let parted = IsPartitionedBy-leb (λ s. s.address) _ c.args.address sorted in
    let border = IsPartitionPoint-from_clause (λ s. leb s.address c.args.address) _ _ c.partition_point-after.ensures.partitioned parted (λ a r q k. search rules) in
    let point = subst (λ (xs : List Start). IsPartitionPoint (λ s. leb s.address c.args.address ≡ true) (λ s. leb s.address c.args.address ≡ false) xs c.partition_point-after.result) c.as_slice-starts.ensures.value border in
    let same = c.as_slice-starts.ensures.value in
    let bound : c.partition_point-after.result ≤ length c.args.self.now.starts.items = omega (arith, c.partition_point-after.ensures.bound, ap length same) in
    let some : 0 < c.partition_point-after.result = omega (arith, c.if-after-eq0.false) in
    let d : Start = record { address = 0; bytes = 0; ring = 0 } in
    rw same (last_before c.args.self.now.starts.items c.requires.found.sorted c.args.address c.partition_point-after.result point some bound d)
