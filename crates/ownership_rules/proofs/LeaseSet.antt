-- The leases of a trace as a set: each tells something that is open behind its first row, and wasn't before it, and behind each row up to the one
-- at which it is over; and each such thing has its lease
use Rattle.ownership_rules.proofs.Words.{◌≡◌, ◌⊎◌, ◌↔◌, ◌+◌, ◌-◌, ◌<◌, ◌≤◌, ◌==◌, ◌&&◌, ◌∷◌, ◌++◌, ◌∙◌, ℕ, zero, suc, Bool, true, false, not, List, [], length, filter, map, reverse, take, arith, sym, ap, subst, refl, inl, inr, eqb-true, list_any, cases_Bool, cases_lt, false≢true, not-true, not_from_false, and_from, and_parts, or_cases, or_left, or_right, list_any-append, Header, Row, Lease, Known, nothing, header_after, header_now, known_after, known_now, Leased, is_among, open_leases, as_lease, begun, end_from, leases, leases_from, with_ends, without_end}
use Rattle.ownership_rules.proofs.Among.{IsIn, some_of, any_of, in_filter, from_filter, among_is, in_among, same_number}
use Rattle.ownership_rules.proofs.Covered.{sorted, mapped, from_is, to_is, header_behind, known_behind, headers_alike, known_alike}

-- what is open behind row n of the trace; behind row 0, and each before the first one, what is open from the beginning
abbrev pub open_behind : Header → ℕ → List Row → ℕ → List Leased
open_behind h first rows n = open_leases (header_now h past) (known_now h past) where
  past : List Row
  past = reverse (take (n + 1 - first) rows)

-- with what is open behind each row
module _ (behind : ℕ → List Leased) where
  -- m is open behind row `from` and on, and over at row `to`, if it ever is
  pub record IsOpenUntil (m : Leased) (from to : ℕ) : Type 0 where
    pub some : from < to
    pub through : (n : ℕ) → from ≤ n → n < to → is_among (behind n) m ≡ true
    pub over : (to ≡ without_end) ⊎ (is_among (behind to) m ≡ false)

  -- what is leased, open from the lease's first row on, and not behind the row before it
  pub record IsLease (l : Lease) : Type 0 where
    pub leased : Leased
    pub told : l ≡ as_lease l.from l.to leased
    pub begins : (l.from ≡ 0) ⊎ (is_among (behind (l.from - 1)) leased ≡ false)
    pub stays : IsOpenUntil leased l.from l.to

-- ---- elements of lists of leases, by a test

abbrev same_lease : Lease → Lease → Bool
same_lease a b = a.kind == b.kind && a.ring == b.ring && a.pos == b.pos && a.from == b.from && a.to == b.to

lease_is : (a b : Lease) → same_lease a b ≡ true → a ≡ b
lease_is a b h = grind (arith, eqb-true, and_parts)

lease_itself : (a : Lease) → same_lease a a ≡ true
lease_itself a = grind (arith, and_from, same_number)

found : (ls : List Lease) (l : Lease) → IsIn l ls ↔ (list_any (same_lease l) ls ≡ true)
found ls l = (λ at. any_of (same_lease l) ls l at (lease_itself l), λ t. let x = some_of (same_lease l) ls t in subst (λ y. IsIn y ls) (sym (lease_is l x.0 x.2)) x.1)

in_either : (xs ys : List Lease) (l : Lease) → IsIn l (xs ++ ys) ↔ (IsIn l xs ⊎ IsIn l ys)
in_either xs ys l =
    let parts = list_any-append (same_lease l) xs ys in (
      λ at. elim (or_cases _ _ (sym parts ∙ (found (xs ++ ys) l).0 at)) [ inl t ↦ inl ((found xs l).1 t) | inr t ↦ inr ((found ys l).1 t) ],
      λ at. (found (xs ++ ys) l).1 (parts ∙ elim at [ inl t ↦ or_left _ _ ((found xs l).0 t) | inr t ↦ or_right _ _ ((found ys l).0 t) ]),
    )

-- which leases begin at one row, ls being what begins
with_ends_are : (h : Header) (k : Known) (from n : ℕ) (rows : List Row) (ls : List Leased) (l : Lease) →
    IsIn l (with_ends h k from n rows ls) ↔ ((m : Leased) × IsIn m ls × (l ≡ as_lease from (end_from h k n rows m) m))
unfolding with_ends
with_ends_are h k from n rows ls l =
    let f : Leased → Lease = λ m. as_lease from (end_from h k n rows m) m in
    let test = sorted (same_lease l) (map f ls) ∙ mapped (same_lease l) f ls in (
      λ at. let x = some_of (λ m. same_lease l (f m)) ls (sym test ∙ (found _ l).0 at) in (x.0, x.1, lease_is l (f x.0) x.2),
      λ x. (found _ l).1 (test ∙ any_of (λ m. same_lease l (f m)) ls x.0 x.1 (subst (λ y. same_lease l y ≡ true) x.2 (lease_itself l))),
    )

module _ (behind : ℕ → List Leased) where
  -- these rows follow row n, behind which k is known of the rings of h
  abbrev Follow : Header → Known → ℕ → List Row → Type 0
  Follow h k n rows = (x : ℕ) → behind (n + x) ≡ open_leases (header_behind h (take x rows)) (known_behind h k (take x rows))

  here : (h : Header) (k : Known) (n : ℕ) (rows : List Row) → Follow h k n rows → behind n ≡ open_leases h k
  here h k n rows f = subst (λ x. behind x ≡ open_leases h k) (omega arith) (f zero)

  next : (h : Header) (k : Known) (n : ℕ) (row : Row) (rows : List Row) → Follow h k n (row ∷ rows) → Follow (header_after h row) (known_after h k row) (n + 1) rows
  next h k n row rows f x = let e : n + 1 + x ≡ n + suc x = omega arith in rw e (f (suc x))

  at_last : (h : Header) (k : Known) (n : ℕ) → Follow h k n [] → (x : ℕ) → n ≤ x → behind x ≡ open_leases h k
  at_last h k n f x from = subst (λ y. behind y ≡ open_leases h k) (omega arith) (nothing_more (x - n) (f (x - n)))
    where
      nothing_more : (y : ℕ) → behind (n + y) ≡ open_leases (header_behind h (take y [])) (known_behind h k (take y [])) → behind (n + y) ≡ open_leases h k
      nothing_more zero e = e
      nothing_more (suc y) e = e

  -- what is open behind row n stays so up to its end
  ends : (h : Header) (k : Known) (n : ℕ) (rows : List Row) (m : Leased) → Follow h k n rows → n + length rows < without_end → is_among (behind n) m ≡ true →
      IsOpenUntil behind m n (end_from h k (n + 1) rows m)
  unfolding end_from
  ends h k n [] m f room now = record {
    some = omega (arith, room);
    through = λ x from below. rw (at_last h k n f x from, sym (here h k n [] f)) now;
    over = inl refl;
  }
  ends h k n (row ∷ rows) m f room now =
      let h' = header_after h row in
      let k' = known_after h k row in
      let f' = next h k n row rows f in
      elim (cases_Bool (is_among (open_leases h' k') m)) [
        | inl goes_on ↦
            let rest = ends h' k' (n + 1) rows m f' (omega (arith, room)) (rw (here h' k' (n + 1) rows f') goes_on) in
            rw goes_on (record {
              some = omega (arith, rest.some);
              through = λ x from below. elim (cases_lt n x) [ inl past ↦ rest.through x (omega arith) below | inr at ↦ let e : x ≡ n = omega arith in rw e now ];
              over = rest.over;
            })
        | inr gone ↦
            rw gone (record {
              some = omega arith;
              through = λ x from below. let e : x ≡ n = omega arith in rw e now;
              over = inr (rw (here h' k' (n + 1) rows f') gone);
            })
      ]

  -- and that is the only row up to which it does
  ends_once : (h : Header) (k : Known) (n : ℕ) (rows : List Row) (m : Leased) (to : ℕ) → Follow h k n rows → n + length rows < without_end → IsOpenUntil behind m n to →
      to ≡ end_from h k (n + 1) rows m
  unfolding end_from
  ends_once h k n [] m to f room stays =
      elim stays.over [
        | inl never ↦ never
        | inr gone ↦ absurd (false≢true (sym gone ∙ (rw (at_last h k n f to (omega (arith, stays.some)), sym (here h k n [] f)) (stays.through n (omega arith) stays.some))))
      ]
  ends_once h k n (row ∷ rows) m to f room stays =
      let h' = header_after h row in
      let k' = known_after h k row in
      let f' = next h k n row rows f in
      let now = here h' k' (n + 1) rows f' in
      elim (cases_Bool (is_among (open_leases h' k') m)) [
        | inl goes_on ↦
            let after : n + 1 < to = elim (cases_lt (n + 1) to) [
              | inl past ↦ past
              | inr at ↦ elim stays.over [
                | inl never ↦ omega (arith, room, stays.some, never, at)
                | inr gone ↦ let e : to ≡ n + 1 = omega (arith, stays.some) in absurd (false≢true (sym gone ∙ (rw (e, now) goes_on)))
              ]
            ] in
            rw goes_on (ends_once h' k' (n + 1) rows m to f' (omega (arith, room)) (record { some = after; through = λ x from below. stays.through x (omega arith) below; over = stays.over }))
        | inr gone ↦
            rw gone (elim (cases_lt (n + 1) to) [
              | inl past ↦ absurd (false≢true (sym gone ∙ (rw (sym now) (stays.through (n + 1) (omega arith) past))))
              | inr at ↦ omega (arith, stays.some)
            ])
      ]

  -- the lease of one of these, from row `from` on, which stays open from row n on
  abbrev Begins : ℕ → ℕ → List Leased → Lease → Type 0
  Begins from n ls l = (m : Leased) × IsIn m ls × (l.from ≡ from) × (l ≡ as_lease l.from l.to m) × IsOpenUntil behind m n l.to

  ended : (h : Header) (k : Known) (from n : ℕ) (rows : List Row) (ls : List Leased) (l : Lease) → Follow h k n rows → n + length rows < without_end →
      ((m : Leased) → IsIn m ls → is_among (behind n) m ≡ true) → IsIn l (with_ends h k from (n + 1) rows ls) ↔ Begins from n ls l
  ended h k from n rows ls l f room now =
      let are = with_ends_are h k from (n + 1) rows ls l in (
        λ at.
            let x = are.0 at in
            let m : Leased = x.0 in
            let begins : l.from ≡ from = ap (λ (y : Lease). y.from) x.2 ∙ from_is from (end_from h k (n + 1) rows m) m in
            let is_over : l.to ≡ end_from h k (n + 1) rows m = ap (λ (y : Lease). y.to) x.2 ∙ to_is from (end_from h k (n + 1) rows m) m in (
              m,
              x.1,
              begins,
              subst (λ y. l ≡ as_lease y l.to m) (sym begins) (subst (λ y. l ≡ as_lease from y m) (sym is_over) x.2),
              subst (λ y. IsOpenUntil behind m n y) (sym is_over) (ends h k n rows m f room (now m x.1)),
            ),
        λ x. are.1 (x.0, x.1, subst (λ y. l ≡ as_lease from y x.0) (ends_once h k n rows x.0 l.to f room x.4) (subst (λ y. l ≡ as_lease y l.to x.0) x.2 x.3)),
      )

  -- at the first row of a lease something opens
  opens : (l : Lease) → IsLease behind l → 0 < l.from → behind (l.from - 1) ≡ behind l.from → ⊥
  opens l lease positive same =
      elim lease.begins [
        | inl zero_is ↦ absurd (omega (arith, positive, zero_is))
        | inr not_yet ↦ absurd (false≢true (sym not_yet ∙ (rw same (lease.stays.through l.from (omega arith) lease.stays.some))))
      ]

  -- those that begin behind row n, where those that begin behind the next one are told
  one_earlier : (h : Header) (k : Known) (n : ℕ) (row : Row) (rows : List Row) (l : Lease) → Follow h k n (row ∷ rows) → n + length (row ∷ rows) < without_end →
      IsIn l (leases_from (header_after h row) (known_after h k row) (n + 1 + 1) rows) ↔ ((n + 1 < l.from) × IsLease behind l) →
      IsIn l (leases_from h k (n + 1) (row ∷ rows)) ↔ ((n < l.from) × IsLease behind l)
  unfolding leases_from begun
  one_earlier h k n row rows l f room rest = (there, back)
    where
      h' : Header
      h' = header_after h row

      k' : Known
      k' = known_after h k row

      f' : Follow h' k' (n + 1) rows
      f' = next h k n row rows f

      is_new : Leased → Bool
      is_new m = not (is_among (open_leases h k) m)

      starts : IsIn l (with_ends h' k' (n + 1) (n + 1 + 1) rows (begun h k row)) ↔ Begins (n + 1) (n + 1) (filter is_new (open_leases h' k')) l
      starts = ended h' k' (n + 1) (n + 1) rows (filter is_new (open_leases h' k')) l f' (omega (arith, room))
          (λ m at. rw (here h' k' (n + 1) rows f') (in_among (open_leases h' k') m (from_filter is_new (open_leases h' k') m at).0))

      both : IsIn l (with_ends h' k' (n + 1) (n + 1 + 1) rows (begun h k row) ++ leases_from h' k' (n + 1 + 1) rows) ↔ (IsIn l (with_ends h' k' (n + 1) (n + 1 + 1) rows (begun h k row)) ⊎ IsIn l (leases_from h' k' (n + 1 + 1) rows))
      both = in_either (with_ends h' k' (n + 1) (n + 1 + 1) rows (begun h k row)) (leases_from h' k' (n + 1 + 1) rows) l

      there : IsIn l (leases_from h k (n + 1) (row ∷ rows)) → (n < l.from) × IsLease behind l
      there at = elim (both.0 at) [
        | inl now ↦
            let x = starts.0 now in
            let fresh : is_among (behind n) x.0 ≡ false = rw (here h k n (row ∷ rows) f) (not-true _ (from_filter is_new (open_leases h' k') x.0 x.1).1) in
            let before : n ≡ l.from - 1 = omega (arith, x.2) in (
              omega (arith, x.2),
              record {
                leased = x.0;
                told = x.3;
                begins = inr (subst (λ y. is_among (behind y) x.0 ≡ false) before fresh);
                stays = subst (λ y. IsOpenUntil behind x.0 y l.to) (sym x.2) x.4;
              },
            )
        | inr after ↦ let x = rest.0 after in (omega (arith, x.0), x.1)
      ]

      back : (n < l.from) × IsLease behind l → IsIn l (leases_from h k (n + 1) (row ∷ rows))
      back x = both.1 (elim (cases_lt (n + 1) l.from) [
        | inl after ↦ inr (rest.1 (after, x.1))
        | inr at ↦
            let m = (x.1).leased in
            let e : l.from ≡ n + 1 = omega (arith, at, x.0) in
            let before : l.from - 1 ≡ n = omega (arith, e) in
            let fresh : is_among (open_leases h k) m ≡ false = elim (x.1).begins [
              | inl zero_is ↦ absurd (omega (arith, e, zero_is))
              | inr not_yet ↦ rw (sym (here h k n (row ∷ rows) f), sym before) not_yet
            ] in
            let stays : IsOpenUntil behind m (n + 1) l.to = subst (λ y. IsOpenUntil behind m y l.to) e (x.1).stays in
            let now : is_among (open_leases h' k') m ≡ true = rw (sym (here h' k' (n + 1) rows f')) (stays.through (n + 1) (omega arith) stays.some) in
            inl (starts.1 (m, in_filter is_new (open_leases h' k') m (among_is (open_leases h' k') m now) (not_from_false _ fresh), e, (x.1).told, stays))
      ])

  -- the leases that begin behind row n
  later : (h : Header) (k : Known) (n : ℕ) (rows : List Row) (l : Lease) → Follow h k n rows → n + length rows < without_end →
      IsIn l (leases_from h k (n + 1) rows) ↔ ((n < l.from) × IsLease behind l)
  unfolding leases_from
  later h k n [] l f room =
      (λ at. absurd at, λ x. absurd (opens l x.1 (omega (arith, x.0)) (at_last h k n f (l.from - 1) (omega (arith, x.0)) ∙ sym (at_last h k n f l.from (omega (arith, x.0))))))
  later h k n (row ∷ rows) l f room =
      one_earlier h k n row rows l f room (later (header_after h row) (known_after h k row) (n + 1) rows l (next h k n row rows f) (omega (arith, room)))

-- the rows of a trace, the first of which is row n + 1
module _ (h : Header) (n : ℕ) (rows : List Row) (room : n + length rows < without_end) (l : Lease) where
  abbrev behind : ℕ → List Leased
  behind = open_behind h (n + 1) rows

  follow : Follow behind h nothing n rows
  follow x = let e : n + x + 1 - (n + 1) ≡ x = omega arith in rw (e, headers_alike h [] (take x rows), known_alike h [] (take x rows)) refl

  before : (x : ℕ) → x ≤ n → behind x ≡ open_leases h nothing
  before x within = let e : x + 1 - (n + 1) ≡ 0 = omega (arith, within) in rw e refl

  starts : IsIn l (with_ends h nothing 0 (n + 1) rows (open_leases h nothing)) ↔ Begins behind 0 n (open_leases h nothing) l
  starts = ended behind h nothing 0 n rows (open_leases h nothing) l follow room (λ m at. rw (before n (omega arith)) (in_among (open_leases h nothing) m at))

  rest : IsIn l (leases_from h nothing (n + 1) rows) ↔ ((n < l.from) × IsLease behind l)
  rest = later behind h nothing n rows l follow room

  both : IsIn l (with_ends h nothing 0 (n + 1) rows (open_leases h nothing) ++ leases_from h nothing (n + 1) rows) ↔ (IsIn l (with_ends h nothing 0 (n + 1) rows (open_leases h nothing)) ⊎ IsIn l (leases_from h nothing (n + 1) rows))
  both = in_either (with_ends h nothing 0 (n + 1) rows (open_leases h nothing)) (leases_from h nothing (n + 1) rows) l

  told_by : IsIn l (leases h (n + 1) rows) → IsLease behind l
  unfolding leases
  told_by at = elim (both.0 at) [
    | inl now ↦
        let x = starts.0 now in
        let stays = x.4 in
        record {
          leased = x.0;
          told = x.3;
          begins = inl x.2;
          stays = record {
            some = omega (arith, x.2, stays.some);
            through = λ y from below. elim (cases_lt n y) [
              | inl past ↦ stays.through y (omega arith) below
              | inr within ↦ rw (before y within) (in_among (open_leases h nothing) x.0 x.1)
            ];
            over = stays.over;
          };
        }
    | inr after ↦ (rest.0 after).1
  ]

  tells : IsLease behind l → IsIn l (leases h (n + 1) rows)
  unfolding leases
  tells lease = both.1 (elim (cases_lt n l.from) [
    | inl after ↦ inr (rest.1 (after, lease))
    | inr within ↦ elim (cases_lt 0 l.from) [
      | inl positive ↦ absurd (opens behind l lease positive (before (l.from - 1) (omega (arith, within)) ∙ sym (before l.from within)))
      | inr at ↦
          let stays = lease.stays in
          let now : is_among (open_leases h nothing) lease.leased ≡ true = rw (sym (before l.from within)) (stays.through l.from (omega arith) stays.some) in
          let past : n < l.to = elim (cases_lt n l.to) [
            | inl past ↦ past
            | inr early ↦ elim stays.over [
              | inl never ↦ omega (arith, room, never, early)
              | inr gone ↦ absurd (false≢true (sym gone ∙ (rw (before l.to early) now)))
            ]
          ] in
          inl (starts.1 (
            lease.leased,
            among_is (open_leases h nothing) lease.leased now,
            omega (arith, at),
            lease.told,
            record { some = past; through = λ y from below. stays.through y (omega (arith, at)) below; over = stays.over },
          ))
    ]
  ])

-- a lease is among those of a trace exactly where it tells something that is open from its first row on, and over at its last
pub leases_are : (h : Header) (first : ℕ) (rows : List Row) (l : Lease) → 0 < first → first + length rows ≤ without_end →
    IsIn l (leases h first rows) ↔ IsLease (open_behind h first rows) l
leases_are h first rows l positive room =
    let e : first - 1 + 1 ≡ first = omega (arith, positive) in
    let fits : first - 1 + length rows < without_end = omega (arith, positive, room) in
    subst (λ f. IsIn l (leases h f rows) ↔ IsLease (open_behind h f rows) l) e (told_by h (first - 1) rows fits l, tells h (first - 1) rows fits l)
