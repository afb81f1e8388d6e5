use Rattle.trace_record.proofs.Laws.{◌≡◌, ◌+◌, ◌-◌, ◌≤◌, ◌∙◌, ℕ, List, true, false, length, get_or, sym, subst, ap, arith, nat_lt, rules, IsNonDecreasingBy, IsPartitionPoint, IsPartitionPoint-from_clause, IsPartitionedBy-ltb, Start, none_before_end, last_before_end}
use Rattle.trace_record.proofs.RingFinder.TouchedSegments.{no_bytes}
use Rattle.trace_record.proofs.ring_finder.finder.Finder.touches.Goals as goal

pub returns-then-len-eq0 : goal.returns-then-len-eq0
returns-then-len-eq0 c = λ h headed is. no_bytes h c.args.from c.args.len c.if-len-eq0.true

pub returns-then-after-eq0 : goal.returns-then-after-eq0
returns-then-after-eq0 c = λ h headed is.
    let end : ℕ = c.from.result + c.from-2.result in
    let sorted = subst (λ (xs : List Start). IsNonDecreasingBy (λ s. s.address) xs) (sym c.as_slice-starts.ensures.value) is.sorted in
    let border = IsPartitionPoint-from_clause (λ s. nat_lt s.address end) _ _ c.partition_point-after.ensures.partitioned (IsPartitionedBy-ltb (λ s. s.address) _ end sorted) (λ a r q k. search rules) in
    let point = subst (λ (xs : List Start). IsPartitionPoint (λ s. nat_lt s.address end ≡ true) (λ s. nat_lt s.address end ≡ false) xs c.partition_point-after.result) c.as_slice-starts.ensures.value border in
    none_before_end h headed c.args.self.now is c.args.from c.args.len end _ (omega (arith, c.if-len-eq0.false)) (omega (arith, c.from.ensures, c.from-2.ensures)) point c.if-after-eq0.true

pub returns : goal.returns
returns c = λ h headed is.
    let end : ℕ = c.from.result + c.from-2.result in
    let sorted = subst (λ (xs : List Start). IsNonDecreasingBy (λ s. s.address) xs) (sym c.as_slice-starts.ensures.value) is.sorted in
    let border = IsPartitionPoint-from_clause (λ s. nat_lt s.address end) _ _ c.partition_point-after.ensures.partitioned (IsPartitionedBy-ltb (λ s. s.address) _ end sorted) (λ a r q k. search rules) in
    let point = subst (λ (xs : List Start). IsPartitionPoint (λ s. nat_lt s.address end ≡ true) (λ s. nat_lt s.address end ≡ false) xs c.partition_point-after.result) c.as_slice-starts.ensures.value border in
    let same = c.as_slice-starts.ensures.value in
    let d : Start = record { address = 0; bytes = 0; ring = 0 } in
    let bound : c.partition_point-after.result ≤ length c.args.self.now.starts.items = omega (arith, c.partition_point-after.ensures.bound, ap length same) in
    let last = last_before_end h headed c.args.self.now is c.args.from c.args.len end _ (omega (arith, c.if-len-eq0.false)) (omega (arith, c.from.ensures, c.from-2.ensures)) point
    (omega (arith, c.if-after-eq0.false)) bound d in
    ap (λ n. nat_lt n c.end_of.result) c.from-3.ensures ∙ ap (λ n. nat_lt c.args.from n) c.end_of.ensures
    ∙ ap (λ (xs : List Start). nat_lt c.args.from ((get_or xs (c.partition_point-after.result - 1) d).address + (get_or xs (c.partition_point-after.result - 1) d).bytes)) same ∙ last
