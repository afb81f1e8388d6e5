use Rattle.trace_record.proofs.Laws.{◌≡◌, ◌-◌, ◌+◌, ◌∙◌, ℕ, List, false, length, get_or, ap, sym, arith, nat_lt, nat_tests, list_any-IsPermutation, overlap, none_among, none_behind}
use Rattle.trace_record.proofs.RangeWords.AreaLists.{none_before}
use Rattle.trace_record.proofs.range_words.areas.Areas.lie_beside.Goals as goal

pub returns-then-is_empty : goal.returns-then-is_empty
returns-then-is_empty c _ = λ n starts held.
    let xs = c.args.self.now.starts.items in
    let none : length c.as_slice-starts.result.now ≡ 0 = grind (arith, nat_tests, c.is_empty.ensures, c.if-is_empty.true) in
    list_any-IsPermutation (λ a. overlap c.args.from c.args.len a n) starts xs held.all ∙ none_among xs c.args.from c.args.len n (sym (ap length c.as_slice-starts.ensures.value) ∙ none)

pub returns-then-not-is_before_end : goal.returns-then-not-is_before_end
returns-then-not-is_before_end c _ = λ n starts held.
    let xs = c.args.self.now.starts.items in
    let same = c.as_slice-starts.ensures.value in
    let before : nat_lt (get_or xs 0 0) (c.args.from + c.args.len) ≡ false =
    sym (ap (λ (ys : List ℕ). nat_lt (get_or ys 0 0) (c.args.from + c.args.len)) same) ∙ sym c.is_before_end.ensures ∙ c.if-not-is_before_end.true in
    list_any-IsPermutation (λ a. overlap c.args.from c.args.len a n) starts xs held.all ∙ none_before xs held.sorted c.args.from c.args.len n before

pub returns-else-not-is_before_end : goal.returns-else-not-is_before_end
returns-else-not-is_before_end c behind = λ n starts held.
    let xs = c.args.self.now.starts.items in
    let same = c.as_slice-starts.ensures.value in
    let ends : c.is_before_end-else-not-is_before_end.result ≡ false = grind (arith, nat_tests, behind) in
    let late : nat_lt c.args.from (get_or xs (length xs - 1) 0 + n) ≡ false =
    sym (ap (λ (ys : List ℕ). nat_lt c.args.from (get_or ys (length ys - 1) 0 + n)) same)
    ∙ sym (ap (λ m. nat_lt c.args.from (get_or c.as_slice-starts.result.now (length c.as_slice-starts.result.now - 1) 0 + m)) held.bytes)
    ∙ sym c.is_before_end-else-not-is_before_end.ensures ∙ ends in
    list_any-IsPermutation (λ a. overlap c.args.from c.args.len a n) starts xs held.all ∙ none_behind xs held.sorted c.args.from c.args.len n late
