-- The rings of a header: allowed, and apart from the event ring
use Rattle.safety.proofs.Words.{[], ◌≡◌, ◌==◌, ◌%◌, ◌<◌, ◌≤◌, ◌&&◌, ◌⊎◌, ◌∷◌, ◌∙◌, ℕ, Bool, true, false, not, List, nat_lt, Option, Some, None, find, arith, refl, sym, ap, subst, inl, inr, eq-eqb, eqb-true, ltb-true, rules, list_all, list_any, cases_Bool, false≢true, cond-true, cond-false, and_parts, or_parts, not-true, not_from_true, false_from_ne_true, none-some, same_Some, Evt, Xfer, Shape, is_inside, place_count, IsShape, is_shape, shape_facts, cases_option, rings_apart, touches-word, Header, Ring, IsHeader, may_stand_together, clash, ring_with, shape_of, shape_or, event_ring, event_shape, event_size, command_ring, command_id, id_or_none, is_command_kind, is_event_kind, is_driver_kind, IsIn, any_of, IsDriverRing, IsTransferRing, touches}

-- what a search finds passes, and is one of the list
pub found_in : {X : Type 0} (p : X → Bool) (xs : List X) (x : X) → find p xs ≡ Some x → IsIn x xs × (p x ≡ true)
found_in p [] x at = absurd (none-some x at)
found_in p (y ∷ ys) x at =
    elim (cases_Bool (p y)) [
      | inl here ↦
          let same = same_Some y x (sym (cond-true (p y) (Some y) (find p ys) here) ∙ at) in
          (inl (sym same), ap p (sym same) ∙ here)
      | inr later ↦
          let found = found_in p ys x (sym (cond-false (p y) (Some y) (find p ys) later) ∙ at) in
          (inr found.0, found.1)
    ]

pub each_passes : {X : Type 0} (p : X → Bool) (xs : List X) (x : X) → list_all p xs ≡ true → IsIn x xs → p x ≡ true
each_passes p [] x all at = absurd at
each_passes p (y ∷ ys) x all at =
    let parts = and_parts (p y) (list_all p ys) all in
    elim at [ inl here ↦ ap p here ∙ parts.0 | inr later ↦ each_passes p ys x parts.1 later ]

-- of two rings that may stand together one doesn't clash with the other
pub together : (rings : List Ring) (r q : Ring) → may_stand_together rings ≡ true → IsIn r rings → IsIn q rings →
    (r ≡ q) ⊎ (clash r q ≡ false) ⊎ (clash q r ≡ false)
together [] r q may a b = absurd a
together (y ∷ ys) r q may a b =
    let parts = and_parts (not (list_any (clash y) ys)) (may_stand_together ys) may in
    let apart : list_any (clash y) ys ≡ false = not-true (list_any (clash y) ys) parts.0 in
    elim a [
      | inl first ↦ elim b [
        | inl second ↦ inl (first ∙ sym second)
        | inr second ↦ inr (inl (false_from_ne_true (clash r q) (λ t. false≢true (sym apart ∙ any_of (clash y) ys q second (ap (λ x. clash x q) (sym first) ∙ t)))))
      ]
      | inr first ↦ elim b [
        | inl second ↦ inr (inr (false_from_ne_true (clash q r) (λ t. false≢true (sym apart ∙ any_of (clash y) ys r first (ap (λ x. clash x r) (sym second) ∙ t)))))
        | inr second ↦ together ys r q parts.1 first second
      ]
    ]

pub clash_apart : (r q : Ring) (x : ℕ) → clash r q ≡ false → is_inside r.shape x ≡ true → is_inside q.shape x ≡ true → ⊥
clash_apart r q x none a b = search (rules, or_parts, rings_apart)

-- the event ring of a header that has one
pub record EventRing (h : Header) : Type 0 where
  pub ring : Ring
  pub at : IsIn ring h.rings
  pub shape : event_shape h ≡ ring.shape
  pub is : IsShape (event_shape h)

pub record IsAllowed (shape : Shape) : Type 0 where
  pub is : IsShape shape
  pub other : shape.kind ≡ Evt → ⊥

module _ (h : Header) where
  pub transfer_driver : (r : ℕ) → IsTransferRing h r → IsDriverRing h r
  transfer_driver r t = record { ring = t.ring; found = t.found; kind = (grind (arith, false≢true)) }

  pub shape_is : (r : ℕ) (ring : Ring) → ring_with h r ≡ Some ring → shape_of h r ≡ ring.shape
  unfolding shape_of
  shape_is r ring found = ap (λ o. shape_or Xfer o) found

  module _ (is : IsHeader h) where
    pub header_parts : (list_all (λ r. nat_lt r.id 256 && is_shape r.shape) h.rings ≡ true) × (may_stand_together h.rings ≡ true)
    header_parts = and_parts (list_all (λ r. nat_lt r.id 256 && is_shape r.shape) h.rings) (may_stand_together h.rings) is

    pub ring_allowed : (r : Ring) → IsIn r h.rings → IsShape r.shape
    ring_allowed r at = (and_parts (nat_lt r.id 256) (is_shape r.shape) (each_passes (λ r. nat_lt r.id 256 && is_shape r.shape) h.rings r header_parts.0 at)).1

    -- a command or transfer ring has an allowed shape with Links
    pub ring_shape : (r : ℕ) → IsDriverRing h r → IsAllowed (shape_of h r)
    ring_shape r d = search (rules, found_in, shape_is, ring_allowed, false≢true)

    events_of : (e : Option Ring) → event_ring h ≡ e → event_shape h ≡ shape_or Evt e
    unfolding event_shape
    events_of e at = ap (λ o. shape_or Evt o) at

    event_found : (e : Ring) → event_ring h ≡ Some e → IsIn e h.rings × (is_event_kind e.shape.kind ≡ true)
    unfolding event_ring
    event_found e at = found_in (λ r. is_event_kind r.shape.kind) h.rings e at

    size_is : event_size h ≡ place_count (event_shape h)
    unfolding event_size
    size_is = refl

    pub event_ring_is : 0 < event_size h → EventRing h
    event_ring_is some =
        elim (cases_option (event_ring h)) [
          | inl none ↦
              let no : place_count (event_shape h) ≡ 0 = ap (λ s. place_count s) (events_of None none) in
              absurd (omega (arith, size_is))
          | inr found ↦
              let e : Ring = found.0 in
              let at = event_found e found.1 in
              let shape = events_of (Some e) found.1 in
              record { ring = e; at = at.0; shape = shape; is = subst (λ s. IsShape s) (sym shape) (ring_allowed e at.0) }
        ]

    -- no word of a ring belongs to the event ring
    pub ring_not_event : (r a : ℕ) → IsDriverRing h r → a % 4 ≡ 0 → is_inside (shape_of h r) a ≡ true → touches (event_shape h) a 4 ≡ false
    ring_not_event r a d word inside =
        let here : is_inside d.ring.shape a ≡ true = ap (λ s. is_inside s a) (sym (shape_is r d.ring d.found)) ∙ inside in
        elim (cases_option (event_ring h)) [
          | inl none ↦ ap (λ s. touches s a 4) (events_of None none)
          | inr some ↦
              let e : Ring = some.0 in
              let found = event_found e some.1 in
              ap (λ s. touches s a 4) (events_of (Some e) some.1)
              ∙ touches-word e.shape (ring_allowed e found.0) a word
              ∙ false_from_ne_true (is_inside e.shape a) (λ there.
              elim (together h.rings d.ring e header_parts.1 (found_in (λ q. q.id == r) h.rings d.ring d.found).0 found.0) [
                | inl same ↦ false≢true (sym (not_from_true (is_event_kind e.shape.kind) found.1) ∙ sym (ap (λ x. is_driver_kind x.shape.kind) same) ∙ d.kind)
                | inr apart ↦ elim apart [
                  | inl one ↦ clash_apart d.ring e a one here there
                  | inr other ↦ clash_apart e d.ring a other there here
                ]
              ])
        ]

    -- without an event ring no word belongs to it
    pub no_events : event_size h ≡ 0 → (a : ℕ) → touches (event_shape h) a 4 ≡ false
    no_events empty a =
        elim (cases_option (event_ring h)) [
          | inl none ↦ ap (λ s. touches s a 4) (events_of None none)
          | inr found ↦
              let e : Ring = found.0 in
              let several = (shape_facts e.shape (ring_allowed e (event_found e found.1).0)).several in
              let same : place_count (event_shape h) ≡ place_count e.shape = ap (λ s. place_count s) (events_of (Some e) found.1) in
              absurd (omega (arith, size_is))
        ]

    -- an event ring has two blocks at least
    pub event_ring_size : (e : Ring) → event_ring h ≡ Some e → 2 ≤ event_size h
    event_ring_size e at =
        let several = (shape_facts e.shape (ring_allowed e (event_found e at).0)).several in
        let same : place_count (event_shape h) ≡ place_count e.shape = ap (λ s. place_count s) (events_of (Some e) at) in
        omega (arith, size_is)

    pub command_found : (c : Ring) → command_ring h ≡ Some c → IsIn c h.rings × (is_command_kind c.shape.kind ≡ true)
    unfolding command_ring
    command_found c at = found_in (λ r. is_command_kind r.shape.kind) h.rings c at

    pub command_named : (o : Option Ring) → command_ring h ≡ o → command_id h ≡ id_or_none o
    unfolding command_id
    command_named o at = ap id_or_none at

    ids_apart : (r c : Ring) → clash r c ≡ false → r.id ≡ c.id → ⊥
    ids_apart r c none same = search (rules, or_parts, false≢true, eq-eqb)

    -- a transfer ring isn't the command ring
    pub transfer_not_command : (r : ℕ) → IsTransferRing h r → r ≡ command_id h → ⊥
    transfer_not_command r t same =
        let mine = found_in (λ q. q.id == r) h.rings t.ring t.found in
        let id = eqb-true t.ring.id r mine.1 in
        elim (cases_option (command_ring h)) [
          | inl none ↦
              let none_is = command_named None none in
              let low = ltb-true t.ring.id 256 (and_parts (nat_lt t.ring.id 256) (is_shape t.ring.shape) (each_passes (λ r. nat_lt r.id 256 && is_shape r.shape) h.rings t.ring header_parts.0 mine.0)).0 in
              omega arith
          | inr some ↦
              let c : Ring = some.0 in
              let found = command_found c some.1 in
              let both : t.ring.id ≡ c.id = id ∙ same ∙ command_named (Some c) some.1 in
              elim (together h.rings t.ring c header_parts.1 mine.0 found.0) [
                | inl one ↦ grind (arith, false≢true)
                | inr apart ↦ elim apart [
                  | inl first ↦ ids_apart t.ring c first both
                  | inr second ↦ ids_apart c t.ring second (sym both)
                ]
              ]
        ]
