-- Each position before a ring's floor was given by a write of its own: floors, summed, and what else each row does are no more than rows
use Rattle.safety.proofs.UpperLaws.{[], ◌≡◌, ◌≢◌, ◌+◌, ◌<◌, ◌≤◌, ◌∷◌, ◌∙◌, ℕ, suc, true, List, All, length, Option, arith, refl, sym, ap, rules, cases_eq, cond_both, All-head, All-tail, is_inside, put, put_at, put_off, Opens, RingChange, RingView, floor_number, Header, Row, Sub, Write, Reg, Bell, Read, RingRow, FreeRow, IsHeader, shape_of, command_id, Register, Known, on_ring, nothing, endpoint_rung, rung, learned, AreKept, IsRow, header_now, known_now, forgotten, restored, restored_on, ring_restored, with_ring, without_ring, register_leaves, view_after, kind, Block, DriverKeeps, IsDriverRing, ring_shape, Declares, changed, ring_with, is_driver_ring, driver_ring, endpoints_of, rings_of, still_of, not_in_both, written_view, event_same, still_reads, RingsKeep, RingWithdraws, given_among, all_given, same_given, no_more, of_driver, on_driver, off_driver, none_of_driver, driver_le, total, total_grows, total_le, total_none, total_one, false, false≢true, NopRow, kept_coming, kept_going, kept_withdrawing, is_ring_row, RegRead, status_leaves, reset, given_up, held_at_given, is_ring, resets, cases_Bool, cond-true, cond-false, subst, inl, inr, if◌then◌else◌, known_gone, command_ring, id_of, MayBegin}
use Rattle.safety.proofs.LazyRuns.Progress.{one_more, none_given}
use Rattle.safety.proofs.RingsKeep.DriverRows.{nothing_keeps}
use Rattle.safety.proofs.RingsKeep.Histories.{row_keeps}
use Rattle.safety.proofs.RingChanges.Restored.{row_comes, row_keeps as kept_row}
use Rattle.safety.proofs.RingChanges.LiveHeadline.{Keeps, kept_on, now_keeps}
use Rattle.safety.proofs.LazyRuns.RingRows.{OthersStay, comes_stay, goes_stay, reset_on}

-- how many rows read an event or a register
unfoldable pub reads : List Row → ℕ
reads [] = 0
reads ((Read b) ∷ past) = suc (reads past)
reads (RegRead r v ∷ past) = suc (reads past)
reads (_ ∷ past) = reads past

module _ (h : Header) where
  -- ---- rows that give nothing

  abbrev GivesNone : Known → Known → Type 0
  GivesNone k l = (r : ℕ) → (l.ring r).given ≡ (k.ring r).given

  declares_none : (k : Known) (r : ℕ) (blocks : List Block) → GivesNone k (learned h k (Sub r blocks))
  unfolding learned
  declares_none k r blocks q =
      view_after h (λ v. v.given ≡ (k.ring q).given) k r (Declares blocks) q (λ same. ap (λ n. (k.ring n).given) (sym same)) (λ other. refl)

  opens_none : (k : Known) (r : ℕ) → GivesNone k (on_ring h k r Opens)
  opens_none k r q = view_after h (λ v. v.given ≡ (k.ring q).given) k r Opens q (λ same. ap (λ n. (k.ring n).given) (sym same)) (λ other. refl)

  rung_none : (k : Known) (s t : ℕ) → GivesNone k (learned h k (Bell s t))
  unfolding learned rung endpoint_rung
  rung_none k s t = search (rules, cond_both, on_ring, command_id, endpoint_rung, opens_none)

  register_none : (k : Known) (r : Register) (x : ℕ) → GivesNone k (learned h k (Reg r x))
  register_none k r x q = ap (λ f. (f q).given) (register_leaves h k r x).ring

  status_none : (k : Known) (r : Register) (x : ℕ) → GivesNone k (learned h k (RegRead r x))
  status_none k r x q = ap (λ f. (f q).given) (status_leaves h k r x).ring

  reset_none : (k : Known) → GivesNone k (reset h k)
  unfolding reset given_up held_at_given
  reset_none k q = cond_both (is_ring q (id_of (command_ring h))) _ _ (λ (v : RingView). v.given ≡ (k.ring q).given) (λ _. refl) (λ _. refl)

  event_none : (k : Known) (b : Block) → GivesNone k (learned h k (Read b))
  unfolding learned
  event_none k b r = ((event_same h k (kind b) b).rings r).given

  change_none : (k : Known) (r : ℕ) (change : RingChange) → ((v : RingView) → (changed (shape_of h r) v change).given ≡ v.given) → GivesNone k (on_ring h k r change)
  change_none k r change same q =
      view_after h (λ v. v.given ≡ (k.ring q).given) k r change q (λ here. same (k.ring r) ∙ ap (λ n. (k.ring n).given) (sym here)) (λ other. refl)

  restored_none : (k : Known) (o : Option ℕ) → GivesNone k (restored_on h k o)
  unfolding restored_on
  restored_none k o r = grind (arith, change_none)

  -- ---- the positions of the driver's rings that are given, summed, where of ring r those below n r are counted

  module _ (n : ℕ → ℕ) where
    of_ring : Known → ℕ → ℕ
    of_ring k r = of_driver h r (given_among (k.ring r) (n r))

    all_rings : Known → ℕ
    all_rings k = total (of_ring k) 256

    none_more : (k l : Known) → GivesNone k l → all_rings l ≤ all_rings k
    unfolding all_rings of_ring
    none_more k l none = total_le (of_ring l) (of_ring k) 256 (λ r. omega (arith, ap (λ m. of_driver h r m) (same_given (k.ring r) (l.ring r) (n r) (none r))))

    module _ (is : IsHeader h) (k : Known) (a w : ℕ) where
      abbrev l : Known
      l = learned h k (Write a w)

      near : (r : ℕ) → of_ring l r ≤ of_ring k r + 1
      unfolding of_ring
      near r = search (rules, l, on_driver, given_among, written_view, one_more, ring_shape, driver_ring, off_driver)

      -- the ring has the word
      record IsWritten (r : ℕ) : Type 0 where
        driver : IsDriverRing h r
        inside : is_inside (shape_of h r) a ≡ true

      written : (r : ℕ) → of_ring k r < of_ring l r → IsWritten r
      unfolding of_ring
      written r more = search (rules, l, driver_ring, on_driver, given_among, written_view, no_more, ring_shape, off_driver)

      write_one : all_rings l ≤ all_rings k + 1
      unfolding all_rings
      write_one =
          total_one (of_ring k) (of_ring l) 256 near
          (λ r c first second. grind (arith, cases_eq r c, written r first, written c second, not_in_both h is r c))

    before_any : all_rings nothing ≡ 0
    unfolding all_rings of_ring nothing
    before_any = total_none (of_ring nothing) 256 (λ r. ap (λ m. of_driver h r m) (none_given (nothing.ring r) (n r) (λ p. refl)) ∙ none_of_driver h r)

    -- a row of the driver gives one position at most, and one that reads an event none
    row_most : IsHeader h → (k : Known) (row : Row) → all_rings (learned h k row) ≤ all_rings k + 1
    unfolding learned
    row_most is k (Write a w) = write_one is k a w
    row_most is k (RingRow ring) = omega arith
    row_most is k (FreeRow id) = omega arith
    row_most is k (NopRow r p) = omega arith
    row_most is k _ = search (rules, arith, none_more, declares_none, register_none, rung_none, event_none, status_none)

    status_most : (k : Known) (r : Register) (x : ℕ) → all_rings (learned h k (RegRead r x)) ≤ all_rings k
    status_most k r x = none_more k (learned h k (RegRead r x)) (status_none k r x)

    reset_most : (k : Known) → all_rings (reset h k) ≤ all_rings k
    reset_most k = none_more k (reset h k) (reset_none k)

    event_most : (k : Known) (b : Block) → all_rings (learned h k (Read b)) ≤ all_rings k
    event_most k b = none_more k (learned h k (Read b)) (event_none k b)

    restored_most : (k : Known) (row : Row) → all_rings (restored h k row) ≤ all_rings k
    restored_most k row = none_more k (restored h k row) (restored_none k (ring_restored h k row))

    withdrawn_most : (k : Known) (r p : ℕ) → all_rings (on_ring h k r (RingWithdraws p)) ≤ all_rings k
    withdrawn_most k r p = none_more k (on_ring h k r (RingWithdraws p)) (change_none k r (RingWithdraws p) (λ v. refl))

-- ---- a ring comes or goes

module _ (h g : Header) (k l : Known) (id : ℕ) (o : OthersStay h g k l id) (n : ℕ → ℕ) where
  other_same : (r : ℕ) → r ≢ id → of_ring g n l r ≡ of_ring h n k r
  unfolding of_ring of_driver
  other_same r other =
      ap (λ v. if is_driver_ring (ring_with g r) then given_among v (n r) else 0) (o.rings r other)
      ∙ ap (λ q. if is_driver_ring q then given_among (k.ring r) (n r) else 0) (o.listed r other)

  -- nothing of it is given
  here_none : of_ring g n l id ≡ 0
  unfolding of_ring
  here_none = ap (λ m. of_driver g id m) (none_given (l.ring id) (n id) (λ p. ap (λ (v : RingView). v.given p) o.new)) ∙ none_of_driver g id

  comes_most : all_rings g n l ≤ all_rings h n k
  unfolding all_rings
  comes_most =
      total_le (of_ring g n l) (of_ring h n k) 256
      (λ r. elim (cases_eq r id) [ inl same ↦ omega (arith, ap (of_ring g n l) same, here_none) | inr other ↦ omega (arith, other_same r other) ])

module _ (h g : Header) (k l : Known) (id : ℕ) (o : OthersStay h g k l id) (n : ℕ → ℕ) (m : ℕ) where
  -- of the others the same positions are counted
  others_same : (r : ℕ) → r ≢ id → of_ring g n l r ≡ of_ring h (put n id m) k r
  unfolding of_ring
  others_same r other =
      other_same h g k l id o n r other ∙ ap (λ x. of_driver h r (given_among (k.ring r) x)) (sym (put_off n id m r other))

  goes_none : all_rings g n l ≤ all_rings h (put n id m) k
  unfolding all_rings
  goes_none =
      total_le (of_ring g n l) (of_ring h (put n id m) k) 256
      (λ r. elim (cases_eq r id) [ inl same ↦ omega (arith, ap (of_ring g n l) same, here_none h g k l id o n) | inr other ↦ omega (arith, others_same r other) ])

  -- where the first m positions of it were given
  goes_most : id < 256 → given_among (k.ring id) m ≡ m → all_rings g n l + of_driver h id m ≤ all_rings h (put n id m) k
  unfolding all_rings of_ring
  goes_most low all =
      let here : of_driver h id (given_among (k.ring id) (put n id m id)) ≡ of_driver h id m = ap (λ x. of_driver h id (given_among (k.ring id) x)) (put_at n id m) ∙ ap (λ x. of_driver h id x) all in
      total_grows (of_ring g n l) (of_ring h (put n id m) k) id (of_driver h id m) 256 low (λ r other. omega (arith, others_same r other)) (omega (arith, here_none h g k l id o n, here))

-- ---- behind all rows

-- the numbers of the floors of the driver's rings, summed
unfoldable pub floors : Header → Known → ℕ
floors h k = total (λ r. of_driver h r (floor_number (k.ring r))) 256

module _ (h : Header) where
  -- those of the rings that went, and a row for each of these
  unfoldable pub gone : List Row → ℕ
  gone [] = 0
  gone (FreeRow id ∷ past) = gone past + of_driver (header_now h past) id (floor_number ((known_now h past).ring id)) + 1
  gone (_ ∷ past) = gone past

  module _ (is : MayBegin h) where
    pub kept_before : (row : Row) (past : List Row) → All IsRow (row ∷ past) → AreKept h (row ∷ past) → Keeps h is past
    kept_before row past are kept = now_keeps h is past (All-tail IsRow row past are) kept.0 (kept_on (header_now h past) (known_now h past) row kept.1)

    -- a row that restores a ring, or none
    plain_most : (row : Row) (past : List Row) → All IsRow (row ∷ past) → AreKept h (row ∷ past) → (n : ℕ → ℕ) → all_rings (header_now h past) n (known_now h past) + gone past + reads past ≤ length past →
        all_rings (header_now h past) n (learned (header_now h past) (restored (header_now h past) (known_now h past) row) row) + gone past + reads past ≤ length (row ∷ past)
    plain_most row past are kept n before =
        let g : Header = header_now h past in
        omega (arith, before, restored_most g n (known_now h past) row, row_most g n (kept_before row past are kept).headed (restored g (known_now h past) row) row)

    register_most : (r : Register) (x : ℕ) (past : List Row) → All IsRow (Reg r x ∷ past) → AreKept h (Reg r x ∷ past) → (n : ℕ → ℕ) →
        all_rings (header_now h past) n (known_now h past) + gone past + reads past ≤ length past →
        all_rings (header_now h past) n (known_now h (Reg r x ∷ past)) + gone past + reads past ≤ length (Reg r x ∷ past)
    unfolding ring_restored restored_on
    register_most r x past are kept n before =
        let g : Header = header_now h past in
        let k : Known = known_now h past in
        cond_both (resets k r x) (reset g k) (learned g k (Reg r x)) (λ l. all_rings g n l + gone past + reads past ≤ length (Reg r x ∷ past))
        (λ _. omega (arith, before, reset_most g n k)) (λ _. plain_most (Reg r x) past are kept n before)

    driven : (row : Row) (past : List Row) → is_ring_row row ≡ false → All IsRow (row ∷ past) → AreKept h (row ∷ past) → (n : ℕ → ℕ) → all_rings (header_now h past) n (known_now h past) + gone past + reads past ≤ length past →
        all_rings (header_now h past) n (known_now h (row ∷ past)) + gone past + reads past ≤ length (row ∷ past)
    driven (RingRow ring) past other are kept n before = absurd (false≢true (sym other))
    driven (FreeRow id) past other are kept n before = absurd (false≢true (sym other))
    driven (NopRow r p) past other are kept n before = absurd (false≢true (sym other))
    driven (Reg r x) past other are kept n before = register_most r x past are kept n before
    driven row past other are kept n before = plain_most row past are kept n before

    -- of a ring that goes those before its floor were given
    freed_most : (id : ℕ) (past : List Row) → All IsRow (FreeRow id ∷ past) → AreKept h (FreeRow id ∷ past) → (n : ℕ → ℕ) →
        all_rings (header_now h (FreeRow id ∷ past)) n (known_now h (FreeRow id ∷ past)) + of_driver (header_now h past) id (floor_number ((known_now h past).ring id))
        ≤ all_rings (header_now h past) (put n id (floor_number ((known_now h past).ring id))) (known_now h past)
    freed_most id past are kept n =
        let p = kept_before (FreeRow id) past are kept in
        let good = (kept_going (header_now h past) (known_now h past) id kept.1).1 in
        let g : Header = header_now h past in
        let k : Known = known_now h past in
        let m : ℕ = floor_number (k.ring id) in
        let stay = goes_stay g p.headed k p.keeps id good in
        elim (cases_Bool (is_driver_ring (ring_with g id))) [
          | inl driver ↦ goes_most g (without_ring g id) k _ id stay n m (All-head IsRow (FreeRow id) past are) (all_given (k.ring id) m (p.keeps.rings id (driver_ring g id driver)).passed)
          | inr other ↦ omega (arith, goes_none g (without_ring g id) k _ id stay n m, off_driver g id m other)
        ]

    -- each write gives one position at most
    given_most : (past : List Row) → All IsRow past → AreKept h past → (n : ℕ → ℕ) → all_rings (header_now h past) n (known_now h past) + gone past + reads past ≤ length past
    unfolding reads gone ring_restored restored_on
    given_most [] are kept n = omega (arith, before_any h n)
    given_most ((Read b) ∷ past) are kept n =
        omega (arith, given_most past (All-tail IsRow (Read b) past are) kept.0 n, event_most (header_now h past) n (known_now h past) b)
    given_most (RegRead r v ∷ past) are kept n =
        omega (arith, given_most past (All-tail IsRow (RegRead r v) past are) kept.0 n, status_most (header_now h past) n (known_now h past) r v)
    given_most (NopRow r p ∷ past) are kept n =
        omega (arith, given_most past (All-tail IsRow (NopRow r p) past are) kept.0 n, withdrawn_most (header_now h past) n (known_now h past) r p)
    given_most (RingRow ring ∷ past) are kept n =
        let p = kept_before (RingRow ring) past are kept in
        let g : Header = header_now h past in
        let stay = comes_stay g p.headed (known_now h past) p.keeps ring (All-head IsRow (RingRow ring) past are) (kept_coming g (known_now h past) ring kept.1).1 in
        omega (arith, given_most past (All-tail IsRow (RingRow ring) past are) kept.0 n, comes_most g (with_ring g ring) (known_now h past) _ ring.id stay n)
    given_most (FreeRow id ∷ past) are kept n =
        omega (
          arith,
          given_most past (All-tail IsRow (FreeRow id) past are) kept.0 (put n id (floor_number ((known_now h past).ring id))),
          freed_most id past are kept n,
        )
    given_most (row ∷ past) are kept n = driven row past refl are kept n (given_most past (All-tail IsRow row past are) kept.0 n)

    -- ---- before a floor all is given

    rings_behind : (row : Row) (past : List Row) → All IsRow (row ∷ past) → AreKept h (row ∷ past) → (known_now h (row ∷ past)).stopped ≡ false → RingsKeep (header_now h (row ∷ past)) (known_now h (row ∷ past))
    rings_behind row past are kept on = rings_of (header_now h (row ∷ past)) (known_now h (row ∷ past)) (now_keeps h is (row ∷ past) are kept on).keeps

    rings_then : (row : Row) (past : List Row) → All IsRow (row ∷ past) → AreKept h (row ∷ past) →
        RingsKeep (header_now h past) (learned (header_now h past) (restored (header_now h past) (known_now h past) row) row)
    rings_then row past are kept =
        let p = kept_before row past are kept in
        let g : Header = header_now h past in
        let k : Known = restored g (known_now h past) row in
        let d : DriverKeeps g k = kept_row g p.headed (known_now h past) p.keeps row kept.1.1 in
        row_keeps g p.headed k row (rings_of g k d) (endpoints_of g k d.states) d.commands_stay (row_comes g p.headed (known_now h past) p.keeps row kept.1.0 kept.1.2)
        (still_reads g p.headed k row (rings_of g k d) (endpoints_of g k d.states) (still_of g p.headed k row d kept.1.0))

    register_kept : (r : Register) (x : ℕ) (past : List Row) → All IsRow (Reg r x ∷ past) → AreKept h (Reg r x ∷ past) → RingsKeep (header_now h past) (known_now h (Reg r x ∷ past))
    unfolding ring_restored restored_on
    register_kept r x past are kept =
        let g : Header = header_now h past in
        let k : Known = known_now h past in
        elim (cases_Bool (resets k r x)) [
          | inl now ↦ rings_behind (Reg r x) past are kept (ap (λ (l : Known). l.stopped) (cond-true (resets k r x) (reset g k) (learned g k (Reg r x)) now) ∙ reset_on g k (kept_on g k (Reg r x) kept.1))
          | inr none ↦ subst (λ l. RingsKeep g l) (sym (cond-false (resets k r x) (reset g k) (learned g k (Reg r x)) none)) (rings_then (Reg r x) past are kept)
        ]

    rings_kept : (past : List Row) → All IsRow past → AreKept h past → RingsKeep (header_now h past) (known_now h past)
    unfolding on_ring forgotten known_gone
    rings_kept [] are kept = nothing_keeps h is
    rings_kept (NopRow r q ∷ past) are kept = rings_behind (NopRow r q) past are kept (kept_withdrawing (header_now h past) (known_now h past) r q kept.1).0
    rings_kept (RingRow ring ∷ past) are kept = rings_behind (RingRow ring) past are kept (kept_coming (header_now h past) (known_now h past) ring kept.1).0
    rings_kept (FreeRow id ∷ past) are kept = rings_behind (FreeRow id) past are kept (kept_going (header_now h past) (known_now h past) id kept.1).0
    rings_kept (Reg r x ∷ past) are kept = register_kept r x past are kept
    rings_kept (row ∷ past) are kept = rings_then row past are kept

    pub floors_most : (past : List Row) → All IsRow past → AreKept h past → floors (header_now h past) (known_now h past) + gone past + reads past ≤ length past
    unfolding floors all_rings of_ring
    floors_most past are kept =
        let g : Header = header_now h past in
        let k : Known = known_now h past in
        let at : ℕ → ℕ = λ r. floor_number (k.ring r) in
        let same : floors g k ≤ all_rings g at k =
        total_le (λ r. of_driver g r (floor_number (k.ring r))) (λ r. of_driver g r (given_among (k.ring r) (floor_number (k.ring r)))) 256
        (λ r. driver_le g r (floor_number (k.ring r)) (given_among (k.ring r) (floor_number (k.ring r)))
        (λ driver. omega (arith, all_given (k.ring r) (floor_number (k.ring r)) (rings_kept past are kept r driver).passed))) in
        omega (arith, same, given_most past are kept at)
