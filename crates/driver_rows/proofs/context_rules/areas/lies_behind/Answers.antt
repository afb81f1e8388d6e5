use Rattle.driver_rows.proofs.Words.{◌≡◌, ◌+◌, ◌-◌, ◌<◌, ◌≤◌, ◌∙◌, ℕ, List, true, false, nat_lt, length, get_or, subst, sym, ap, arith, inl, inr, cases_eq, lt-ltb, get_or_default, nat_tests, IsPartitionPoint, IsHeader, touches_ring, Header, Start, Finder, IsFinder, no_bytes, last_before_end}
use Rattle.driver_rows.proofs.context_rules.areas.lies_behind.Goals as goal

-- all segments start before the end of bytes that lie behind the last one
behind : (h : Header) → IsHeader h → (f : Finder) → IsFinder h.rings f → (from len : ℕ) (d : Start) → 0 < length f.starts.items →
    (get_or f.starts.items (length f.starts.items - 1) d).address + (get_or f.starts.items (length f.starts.items - 1) d).bytes ≤ from → touches_ring h from len ≡ false
behind h headed f is from len d some past = elim (cases_eq len 0) [
  | inl none ↦ sym (no_bytes h from len none)
  | inr more ↦
      let n : ℕ = length f.starts.items in
      let all : IsPartitionPoint (λ s. nat_lt s.address (from + len) ≡ true) (λ s. nat_lt s.address (from + len) ≡ false) f.starts.items n = (
        (λ k e early below.
            let rising = is.sorted k (n - 1) d (omega (arith, early)) (omega (arith, some)) in
            let same : get_or f.starts.items k e ≡ get_or f.starts.items k d = get_or_default f.starts.items k e d below in
            let low : (get_or f.starts.items k e).address < from + len = omega (arith, ap (λ (s : Start). s.address) same, rising, past, more) in
            lt-ltb _ _ low),
        (λ k e late below. absurd (omega (arith, late, below))),
      ) in
      sym (last_before_end h headed f is from len (from + len) n (omega (arith, more)) (omega arith) all some (omega arith) d)
      ∙ grind (arith, nat_tests, past)
]

pub returns-then-from-last : goal.returns-then-from-last
returns-then-from-last c = λ long len h headed is.
    let d : Start = record { address = 0; bytes = 0; ring = 0 } in
    let xs : List Start = c.as_slice-starts.result.now in
    let same = c.as_slice-starts.ensures.value in
    let past : (get_or xs (length xs - 1) d).address + (get_or xs (length xs - 1) d).bytes ≤ c.args.from = grind (arith, nat_tests, long, c.if-from-last.true) in
    let some : 0 < length xs = grind (arith, nat_tests, c.is_empty.ensures, c.if-is_empty.false) in
    behind h headed c.args.finder.now is c.args.from len d (subst (λ (ys : List Start). 0 < length ys) same some)
    (subst (λ (ys : List Start). (get_or ys (length ys - 1) d).address + (get_or ys (length ys - 1) d).bytes ≤ c.args.from) same past)
