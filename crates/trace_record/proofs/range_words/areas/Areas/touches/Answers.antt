use Rattle.trace_record.proofs.Laws.{◌≡◌, ◌-◌, ◌+◌, ◌<◌, ◌≤◌, ◌∙◌, ℕ, List, true, false, length, get_or, sym, subst, ap, arith, rules, nat_lt, IsNonDecreasingBy, IsPartitionPoint, IsPartitionPoint-from_clause, IsPartitionedBy-ltb, list_any-IsPermutation, overlap, none_touches, last_touches}
use Rattle.trace_record.proofs.range_words.areas.Areas.touches.Goals as goal

pub returns-then-after-eq0 : goal.returns-then-after-eq0
returns-then-after-eq0 c = λ n starts held.
    let xs = c.args.self.now.starts.items in
    let end : ℕ = c.args.from + c.args.len in
    let sorted = subst (λ (ys : List ℕ). IsNonDecreasingBy (λ s. s) ys) (sym c.as_slice-starts.ensures.value) held.sorted in
    let border = IsPartitionPoint-from_clause (λ s. nat_lt s end) _ _ c.partition_point-after.ensures.partitioned (IsPartitionedBy-ltb (λ s. s) _ end sorted) (λ a r q k. search rules) in
    let point = subst (λ (ys : List ℕ). IsPartitionPoint (λ s. nat_lt s end ≡ true) (λ s. nat_lt s end ≡ false) ys c.partition_point-after.result) c.as_slice-starts.ensures.value border in
    sym (list_any-IsPermutation (λ a. overlap c.args.from c.args.len a n) starts xs held.all ∙ none_touches xs held.sorted c.args.from c.args.len n _ point c.if-after-eq0.true)

pub returns : goal.returns
returns c = λ n starts held.
    let xs = c.args.self.now.starts.items in
    let end : ℕ = c.args.from + c.args.len in
    let same = c.as_slice-starts.ensures.value in
    let sorted = subst (λ (ys : List ℕ). IsNonDecreasingBy (λ s. s) ys) (sym same) held.sorted in
    let border = IsPartitionPoint-from_clause (λ s. nat_lt s end) _ _ c.partition_point-after.ensures.partitioned (IsPartitionedBy-ltb (λ s. s) _ end sorted) (λ a r q k. search rules) in
    let point = subst (λ (ys : List ℕ). IsPartitionPoint (λ s. nat_lt s end ≡ true) (λ s. nat_lt s end ≡ false) ys c.partition_point-after.result) same border in
    let bound : c.partition_point-after.result ≤ length xs = omega (arith, c.partition_point-after.ensures.bound, ap length same) in
    let some : 0 < c.partition_point-after.result = omega (arith, c.if-after-eq0.false) in
    let last = last_touches xs held.sorted c.args.from c.args.len n _ point some bound in
    c.is_before_end.ensures ∙ ap (λ m. nat_lt c.args.from (get_or c.as_slice-starts.result.now (c.partition_point-after.result - 1) 0 + m)) held.bytes
    ∙ ap (λ (ys : List ℕ). nat_lt c.args.from (get_or ys (c.partition_point-after.result - 1) 0 + n)) same
    ∙ last ∙ sym (list_any-IsPermutation (λ a. overlap c.args.from c.args.len a n) starts xs held.all)
