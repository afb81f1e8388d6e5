-- Behind any rows that break no rule the walk through each ring that is there reads what was declared
use Rattle.ownership_checker.proofs.LowerLaws.{reset, resets, cond-false, cond-true, cases_Bool, gone, rules, ◌≡◌, ◌∷◌, ◌++◌, ◌∙◌, ℕ, true, false, List, [], All, sym, ap, subst, drop, reverse, take, false≢true, reverse-append, take-append-drop, RingKind, Evt, walk_reads, Row, Reg, RingRow, FreeRow, is_driver_kind, All-tail, Header, IsHeader, Known, DriverKeeps, rings_of, endpoints_of, still_of, lenient_row, HasRing, has_ring, still_reads, on_ring, forgotten, learned, restored_on, ring_restored, inl, inr, IsRow, header_now, known_now, restored, row_comes, AreClean, NopRow, RingsKeep, nothing_keeps, restored_keeps, now_keeps, reversed_twice, WalksRead, breaks_no_rule, kept_now}
use Rattle.safety.proofs.HeaderRings.RingsOfHeader.{shape_allowed}
use Rattle.safety.proofs.RingsKeep.Histories.{row_keeps}
use Rattle.safety.specs.RingChanges.Histories.{MayBegin}

module _ (h : Header) (is : MayBegin h) where
  -- behind rows that break no rule: also behind a stop
  record AllKept (past : List Row) : Type 0 where
    pub headed : IsHeader (header_now h past)
    pub rings : RingsKeep (header_now h past) (known_now h past)

  of_rows : (past : List Row) → All IsRow past → AreClean h past → (known_now h past).stopped ≡ false → AllKept past
  of_rows past fit clean on = search (rules, rings_of, now_keeps h is past fit (kept_now h past clean) on)

  -- a row by which no ring comes or goes, no descriptor is withdrawn, and the controller isn't reset
  plain_kept : (past : List Row) (row : Row) → All IsRow (row ∷ past) → AreClean h (row ∷ past) →
      IsHeader (header_now h past) × RingsKeep (header_now h past) (learned (header_now h past) (restored (header_now h past) (known_now h past) row) row)
  plain_kept past row fit clean =
      let g : Header = header_now h past in
      let k : Known = known_now h past in
      let c = breaks_no_rule g k row clean.1 in
      let p = now_keeps h is past (All-tail IsRow row past fit) (kept_now h past clean.0) c.on in
      let may = lenient_row g (restored g k row) row c.clean in
      let now : Known = restored g k row in
      let keeps : DriverKeeps g now = restored_keeps g p.headed k p.keeps row c.stands in
      let rings : RingsKeep g now = rings_of g now keeps in
      let endpoints = endpoints_of g now keeps.states in (
        p.headed,
        row_keeps g p.headed now row rings endpoints keeps.commands_stay (row_comes g p.headed k p.keeps row may c.flips)
            (still_reads g p.headed now row rings endpoints (still_of g p.headed now row keeps may)),
      )

  reset_on : (g : Header) (k : Known) → k.stopped ≡ false → (reset g k).stopped ≡ false
  unfolding reset
  reset_on g k on = on

  all_kept : (past : List Row) → All IsRow past → AreClean h past → AllKept past
  unfolding forgotten gone on_ring restored_on ring_restored
  all_kept [] fit clean = record { headed = is.0; rings = nothing_keeps h is }
  all_kept (RingRow ring ∷ past) fit clean = of_rows (RingRow ring ∷ past) fit clean (breaks_no_rule (header_now h past) (known_now h past) (RingRow ring) clean.1).on
  all_kept (FreeRow id ∷ past) fit clean = of_rows (FreeRow id ∷ past) fit clean (breaks_no_rule (header_now h past) (known_now h past) (FreeRow id) clean.1).on
  all_kept (NopRow r p ∷ past) fit clean = of_rows (NopRow r p ∷ past) fit clean (breaks_no_rule (header_now h past) (known_now h past) (NopRow r p) clean.1).on
  all_kept (Reg r v ∷ past) fit clean =
      let g : Header = header_now h past in
      let k : Known = known_now h past in
      elim (cases_Bool (resets k r v)) [
        | inl done ↦
            let on = reset_on g k (breaks_no_rule g k (Reg r v) clean.1).on in
            of_rows (Reg r v ∷ past) fit clean (ap (λ (l : Known). l.stopped) (cond-true (resets k r v) (reset g k) (learned g k (Reg r v)) done) ∙ on)
        | inr none ↦
            let kept = plain_kept past (Reg r v) fit clean in
            record { headed = kept.0; rings = subst (RingsKeep g) (sym (cond-false (resets k r v) (reset g k) (learned g k (Reg r v)) none)) kept.1 }
      ]
  all_kept (row ∷ past) fit clean = let kept = plain_kept past row fit clean in record { headed = kept.0; rings = kept.1 }

  earlier_clean : (xs ys : List Row) → AreClean h (xs ++ ys) → AreClean h ys
  earlier_clean [] ys clean = clean
  earlier_clean (x ∷ xs) ys clean = earlier_clean xs ys clean.0

  earlier_fit : (xs ys : List Row) → All IsRow (xs ++ ys) → All IsRow ys
  earlier_fit [] ys fit = fit
  earlier_fit (x ∷ xs) ys fit = earlier_fit xs ys (All-tail IsRow x (xs ++ ys) fit)

split : (rows : List Row) (done : ℕ) → reverse rows ≡ reverse (drop done rows) ++ reverse (take done rows)
split rows done = ap reverse (sym (take-append-drop done rows)) ∙ reverse-append (take done rows) (drop done rows)

no_event_ring : (kind : RingKind) → is_driver_kind kind ≡ true → kind ≡ Evt → ⊥
no_event_ring kind driver same = false≢true (sym (ap is_driver_kind same) ∙ driver)

pub walks : (h : Header) → MayBegin h → (past : List Row) → All IsRow past → AreClean h past → WalksRead h (reverse past)
walks h is past fit clean done r within driver restored =
    let rows : List Row = reverse past in
    let there : List Row = reverse (take done rows) in
    let parts : past ≡ reverse (drop done rows) ++ there = sym (reversed_twice past) ∙ split rows done in
    let was_clean = earlier_clean h is (reverse (drop done rows)) there (subst (AreClean h) parts clean) in
    let kept = all_kept h is there (earlier_fit h is (reverse (drop done rows)) there (subst (All IsRow) parts fit)) was_clean in
    let g = header_now h there in
    let has : HasRing g r = has_ring g r driver in
    search (rules, walk_reads, shape_allowed, no_event_ring)
