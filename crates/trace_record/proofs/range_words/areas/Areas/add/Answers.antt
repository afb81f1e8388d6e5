use Rattle.trace_record.proofs.Laws.{◌≡◌, ◌≤◌, ℕ, List, true, false, length, sym, subst, ap, arith, leb, rules, insert, IsNonDecreasingBy, IsPartitionPoint, IsPartitionPoint-from_clause, IsPartitionedBy-leb, added_sorted, added_all}
use Rattle.trace_record.proofs.range_words.areas.Areas.add.Goals as goal

pub returns-clause-ok : goal.returns-clause-ok
returns-clause-ok c = λ n xs ys held.
    let items = c.args.self.now.starts.items in
    let start = c.args.start in
    let same = c.as_slice.ensures.value in
    let sorted = subst (λ (zs : List ℕ). IsNonDecreasingBy (λ s. s) zs) (sym same) held.sorted in
    let border = IsPartitionPoint-from_clause (λ s. leb s start) _ _ c.partition_point-after.ensures.partitioned (IsPartitionedBy-leb (λ s. s) _ start sorted) (λ a r q k. search rules) in
    let point = subst (λ (zs : List ℕ). IsPartitionPoint (λ s. leb s start ≡ true) (λ s. leb s start ≡ false) zs c.partition_point-after.result) same border in
    let bound : c.partition_point-after.result ≤ length items = omega (arith, c.partition_point-after.ensures.bound, ap length same) in
    let is : c.insert.new.self.items ≡ insert items c.partition_point-after.result start = c.in_ok-insert.ensures.items in
    record {
      bytes = held.bytes;
      all = rw is (added_all items start c.partition_point-after.result xs ys held.all);
      sorted = rw is (added_sorted items start c.partition_point-after.result held.sorted bound point);
    }
