use Rattle.trace_record.proofs.Laws.{◌≡◌, ◌<◌, ◌∙◌, ℕ, List, length, get_or, subst, ap, arith, Err, remove, IsBinarySearchResult, nat_cmp, nat_tests, removed_sorted, not_missed, without}
use Rattle.trace_record.proofs.range_words.areas.Areas.remove.Goals as goal

pub returns-in-Ok : goal.returns-in-Ok
returns-in-Ok c = λ n xs ys held.
    let items = c.args.self.now.starts.items in
    let same = c.as_slice.ensures.value in
    let within : c.in-Ok.number < length items = omega (arith, c.in-Ok.ensures.bound, ap length same) in
    let equal = c.in-Ok.ensures.ok c.args.start in
    let at : c.args.start ≡ get_or c.as_slice.result.now c.in-Ok.number c.args.start = grind (arith, nat_tests, equal) in
    let here : c.args.start ≡ get_or items c.in-Ok.number c.args.start = at ∙ ap (λ (zs : List ℕ). get_or zs c.in-Ok.number c.args.start) same in
    let is : c.remove.new.self.items ≡ remove items c.in-Ok.number = c.remove.ensures.items in
    record {
      bytes = held.bytes;
      all = rw is (without c.args.start c.in-Ok.number xs ys items held.all within here);
      sorted = rw is (removed_sorted items c.in-Ok.number within held.sorted);
    }

pub returns-in_default : goal.returns-in_default
returns-in_default c = λ n xs ys held.
    let items = c.args.self.now.starts.items in
    let missed = subst (λ (zs : List ℕ). IsBinarySearchResult (λ y. nat_cmp y c.args.start) zs (Err c.in_default.field-0)) c.as_slice.ensures.value c.in_default.ensures.position in
    absurd (not_missed items xs ys c.args.start c.in_default.field-0 missed held.sorted held.all)
