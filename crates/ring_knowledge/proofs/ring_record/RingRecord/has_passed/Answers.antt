use Rattle.ring_knowledge.proofs.Laws.{◌≡◌, ◌+◌, ◌∙◌, ap, sym, arith, inl, inr, cases_lt, le-leb, nat_le, number, floor_number, descriptor_length, length_is, passed_with_forgotten}
use Rattle.ring_knowledge.proofs.ring_record.RingRecord.has_passed.Goals as goal

pub returns : goal.returns
returns c = λ shape v known.
    let r = c.args.self.now in
    let p = c.args.position in
    let floor : c.number-floor.result ≡ floor_number v = c.number-floor.ensures ∙ sym (ap number known.marks.floor) in
    elim (cases_lt p r.forgotten) [
      | inl low ↦
          let none : c.from.result ≡ 0 = elim (cases_lt 0 c.length_at.result) [
            | inl some ↦ absurd (omega (arith, low, (c.length_at.ensures.fits some).0))
            | inr zero ↦ omega (arith, c.from.ensures, zero)
          ] in
          le-leb (p + c.from.result) c.number-floor.result (omega (arith, none, c.if-position-floor.false))
          ∙ sym (le-leb (p + descriptor_length v p) (floor_number v) (passed_with_forgotten shape v r known.marks p low))
      | inr kept ↦
          let same : c.from.result ≡ descriptor_length v p = c.from.ensures ∙ c.length_at.ensures.value kept ∙ sym (length_is shape v r known.marks p kept) in
          ap (λ n. nat_le (p + n) c.number-floor.result) same ∙ ap (λ n. nat_le (p + descriptor_length v p) n) floor
    ]
