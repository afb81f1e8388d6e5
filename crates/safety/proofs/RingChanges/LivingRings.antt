-- The rings that were declared, and those of them that live: what a ring that comes or goes makes of both
use Rattle.safety.proofs.MiddleLaws.{any_of, Evt, Xfer, arith, [], ◌≡◌, ◌≢◌, ◌⊎◌, ◌∷◌, ◌++◌, ◌||◌, ◌==◌, ◌∙◌, ℕ, not, Bool, true, false, List, Some, None, find, filter, refl, sym, ap, subst, inl, inr, eq-eqb, eqb-true, ne_eqb, cases_Bool, cases_eq, cond-true, cond-false, false≢true, none-some, same_Some, put, IsIn, Header, Ring, World, IsHeader, ring_with, shape_of, command_id, event_shape, emptied, with_ring, without_ring, ◌&&◌, if◌then◌else◌, fun_ext, and_parts, clash, from_filter, is_command_kind, is_event_kind, is_transfer_kind, list_any, list_any-append, may_stand_together, not-true, not_from_false, or_from, or_parts, shape_or, put_at, put_off, header_parts, other_ids, Left, aside, laid, none_found, command_ring, event_ring, id_or_none, is_in_way, listed, may_come, RingEvent, has_other_words, is_out_of_order, cases_option, found_in, RingKind, or_left, or_right, in_filter, found_before, found_new, find_kept, found_kept, is_command, no_id}
use Rattle.safety.proofs.Behind.LeasesBehind.{from_both}
use Rattle.safety.proofs.RingChanges.LeftOut.{is_event}
use Rattle.safety.proofs.RingChanges.LeftOut as left

-- the takes of a ring show no harm
abbrev pub TakesAreRight : Header → ℕ → List RingEvent → Type 0
TakesAreRight h r events = (is_out_of_order (shape_of h r) events ≡ false) × (has_other_words (shape_of h r) events ≡ false)

-- a ring that was declared lives, or it went, and its takes show no harm
pub record Lists (l : Left) (live declared : Header) : Type 0 where
  pub size : declared.context_size ≡ live.context_size
  -- the command ring and the event ring that live are those that the controller uses
  pub command : (q : Ring) → command_ring live ≡ Some q → command_ring declared ≡ Some q
  pub events : (q : Ring) → event_ring live ≡ Some q → event_ring declared ≡ Some q
  pub version : declared.version ≡ live.version
  pub found : (r : ℕ) (q : Ring) → ring_with live r ≡ Some q → (ring_with declared r ≡ Some q) × (l.gone r ≡ false)
  pub each : (q : Ring) → IsIn q declared.rings → (ring_with live q.id ≡ Some q) ⊎ (l.gone q.id ≡ true)
  pub rests : (r : ℕ) → l.gone r ≡ true → TakesAreRight declared r (l.events r)

-- ---- before the first row all of them live

abbrev pub none_gone : Left
none_gone = record { gone = λ r. false; queue = λ r. []; lengths = λ r. []; events = λ r. []; reported = λ r. 0 }

command_no_transfer : (kind : RingKind) → is_command_kind kind ≡ true → is_transfer_kind kind ≡ false
command_no_transfer o c = grind (arith, false≢true)

event_no_transfer : (kind : RingKind) → is_event_kind kind ≡ true → is_transfer_kind kind ≡ false
event_no_transfer o e = grind (arith, false≢true)

pub fails_there : (p : Ring → Bool) (rs : List Ring) (q : Ring) → list_any p rs ≡ false → IsIn q rs → p q ≡ false
fails_there p [] q none at = absurd at
fails_there p (y ∷ ys) q none at =
    let parts = or_parts (p y) (list_any p ys) none in
    elim at [ inl here ↦ ap p here ∙ parts.0 | inr later ↦ fails_there p ys q parts.1 later ]

-- in a list of rings that may stand together each is found by its ID
found_by_id : (rs : List Ring) (q : Ring) → may_stand_together rs ≡ true → IsIn q rs → find (λ p. p.id == q.id) rs ≡ Some q
found_by_id [] q together at = absurd at
found_by_id (y ∷ ys) q together at =
    let parts = and_parts (not (list_any (clash y) ys)) (may_stand_together ys) together in
    elim at [
      | inl here ↦ cond-true (y.id == q.id) (Some y) (find (λ p. p.id == q.id) ys) (eq-eqb y.id q.id (ap (λ (p : Ring). p.id) (sym here))) ∙ ap (λ (p : Ring). Some p) (sym here)
      | inr later ↦
          cond-false (y.id == q.id) (Some y) (find (λ p. p.id == q.id) ys) (other_ids y q (fails_there (clash y) ys q (not-true (list_any (clash y) ys) parts.0) later))
          ∙ found_by_id ys q parts.1 later
    ]

pub all_live : (h : Header) → IsHeader h → Lists none_gone h h
all_live h is = record {
  size = refl;
  command = λ q at. at;
  events = λ q at. at;
  version = refl;
  found = λ r q at. (at, refl);
  each = λ q at. inl (found_by_id h.rings q (header_parts h is).1 at);
  rests = λ r went. absurd (false≢true went);
}

-- ---- what is left behind a ring that goes, and where one comes

abbrev pub left_behind : Left → ℕ → World → Left
left_behind l id w = record {
  gone = put l.gone id true;
  queue = put l.queue id (w.queue id);
  lengths = put l.lengths id (w.lengths id);
  events = put l.events id (w.events id);
  reported = put l.reported id (w.reported id);
}

abbrev pub come_again : Left → ℕ → Left
come_again l id = record l { gone = put l.gone id false }

laid_goes : {A : Type 0} (g : ℕ → Bool) (old now : ℕ → A) (id : ℕ) (x : A) → g id ≡ false → laid g old now ≡ laid (put g id true) (put old id (now id)) (put now id x)
laid_goes g old now id x off =
    fun_ext (λ n. elim (cases_eq n id) [
      | inl here ↦
          cond-false (g n) (old n) (now n) (ap g here ∙ off) ∙ ap now here
          ∙ sym (cond-true (put g id true n) (put old id (now id) n) (put now id x n) (ap (put g id true) here ∙ put_at g id true) ∙ ap (put old id (now id)) here ∙ put_at old id (now id))
      | inr other ↦ λ j. if sym (put_off g id true n other) j then sym (put_off old id (now id) n other) j else sym (put_off now id x n other) j
    ])

laid_comes : {A : Type 0} (g : ℕ → Bool) (old now : ℕ → A) (id : ℕ) (x : A) → put (laid g old now) id x ≡ laid (put g id false) old (put now id x)
laid_comes g old now id x =
    fun_ext (λ n. elim (cases_eq n id) [
      | inl here ↦
          ap (put (laid g old now) id x) here ∙ put_at (laid g old now) id x
          ∙ sym (cond-false (put g id false n) (old n) (put now id x n) (ap (put g id false) here ∙ put_at g id false) ∙ ap (put now id x) here ∙ put_at now id x)
      | inr other ↦ put_off (laid g old now) id x n other ∙ (λ j. if sym (put_off g id false n other) j then old n else sym (put_off now id x n other) j)
    ])

-- the world that a ring goes from is as it was
pub went_aside : (l : Left) (id : ℕ) (w : World) → l.gone id ≡ false → aside l w ≡ aside (left_behind l id w) (emptied w id)
unfolding emptied
went_aside l id w off =
    λ j. record w {
      queue = laid_goes l.gone l.queue w.queue id [] off j;
      lengths = laid_goes l.gone l.lengths w.lengths id [] off j;
      events = laid_goes l.gone l.events w.events id [] off j;
      reported = laid_goes l.gone l.reported w.reported id 0 off j;
    }

pub came_aside : (l : Left) (id : ℕ) (w : World) → emptied (aside l w) id ≡ aside (come_again l id) (emptied w id)
unfolding emptied
came_aside l id w =
    λ j. record w {
      queue = laid_comes l.gone l.queue w.queue id [] j;
      lengths = laid_comes l.gone l.lengths w.lengths id [] j;
      events = laid_comes l.gone l.events w.events id [] j;
      reported = laid_comes l.gone l.reported w.reported id 0 j;
    }

module _ (l : Left) (live declared : Header) (lists : Lists l live declared) where
  pub shape_same : (r : ℕ) (q : Ring) → ring_with live r ≡ Some q → shape_of declared r ≡ shape_of live r
  unfolding shape_of
  shape_same r q at = ap (λ o. shape_or Xfer o) ((lists.found r q at).0 ∙ sym at)

  -- of the command ring and the event ring the same is so where they live
  pub command_is : (q : Ring) → command_ring live ≡ Some q → command_id declared ≡ command_id live
  unfolding command_id
  command_is q at = ap id_or_none (lists.command q at ∙ sym at)

  pub events_are : (q : Ring) → event_ring live ≡ Some q → event_shape declared ≡ event_shape live
  unfolding event_shape
  events_are q at = ap (λ o. shape_or Evt o) (lists.events q at ∙ sym at)

  -- else the command ring went, or there never was one
  pub command_went : command_ring live ≡ None → (command_id declared ≡ no_id) ⊎ (l.gone (command_id declared) ≡ true)
  unfolding command_id command_ring
  command_went none =
      elim (cases_option (find (λ q. is_command_kind q.shape.kind) declared.rings)) [
        | inl never ↦ inl (ap id_or_none never)
        | inr some ↦
            let there = found_in (λ q. is_command_kind q.shape.kind) declared.rings some.0 some.1 in
            elim (lists.each some.0 there.0) [
              | inl lives ↦ absurd (false≢true (sym (none_found (λ q. is_command_kind q.shape.kind) live.rings none some.0 (found_in (λ p. p.id == some.0.id) live.rings some.0 lives).0) ∙ there.1))
              | inr went ↦ inr (ap (λ o. l.gone (id_or_none o)) some.1 ∙ went)
            ]
      ]

  -- ---- a ring goes

  module _ (is : IsHeader live) (id : ℕ) (ring : Ring) (there : ring_with live id ≡ Some ring) (w : World) (right : TakesAreRight live id (w.events id)) where
    pub was_live : l.gone id ≡ false
    was_live = (lists.found id ring there).1

    still_gone : (r : ℕ) → l.gone r ≡ true → put l.gone id true r ≡ true
    still_gone r went = elim (cases_eq r id) [ inl here ↦ ap (put l.gone id true) here ∙ put_at l.gone id true | inr other ↦ put_off l.gone id true r other ∙ went ]

    -- one that is found still was there before
    command_before : (q : Ring) → command_ring (without_ring live id) ≡ Some q → command_ring live ≡ Some q
    command_before q at =
        elim (cases_Bool (is_command ring)) [
          | inl it ↦ absurd (none-some q (sym (left.no_command_still live is id ring there it) ∙ at))
          | inr other ↦ sym (left.command_still live is id ring there other) ∙ at
        ]

    event_before : (q : Ring) → event_ring (without_ring live id) ≡ Some q → event_ring live ≡ Some q
    event_before q at =
        elim (cases_Bool (is_event ring)) [
          | inl it ↦ absurd (none-some q (sym (left.no_event_still live is id ring there it) ∙ at))
          | inr other ↦ sym (left.event_still live is id ring there other) ∙ at
        ]

    without_size : declared.context_size ≡ (without_ring live id).context_size
    unfolding without_ring
    without_size = lists.size

    without_version : declared.version ≡ (without_ring live id).version
    unfolding without_ring
    without_version = lists.version

    pub goes_lists : Lists (left_behind l id w) (without_ring live id) declared
    goes_lists = record {
      size = without_size;
      command = λ q at. lists.command q (command_before q at);
      events = λ q at. lists.events q (event_before q at);
      version = without_version;
      found = λ r q at.
          let other = left.not_there live is id ring there r q at in
          let before = lists.found r q (sym (left.ring_same live is id ring there r other) ∙ at) in
          (before.0, put_off l.gone id true r other ∙ before.1);
      each = λ q at. elim (lists.each q at) [
        | inl lives ↦ elim (cases_eq q.id id) [
          | inl here ↦ inr (ap (put l.gone id true) here ∙ put_at l.gone id true)
          | inr other ↦ inl (left.ring_same live is id ring there q.id other ∙ lives)
        ]
        | inr went ↦ inr (still_gone q.id went)
      ];
      rests = λ r went. elim (cases_eq r id) [
        | inl here ↦
            let events = ap (put l.events id (w.events id)) here ∙ put_at l.events id (w.events id) in
            let shape = ap (shape_of declared) here ∙ shape_same id ring there in
            ((λ j. is_out_of_order (shape j) (events j)) ∙ right.0, (λ j. has_other_words (shape j) (events j)) ∙ right.1)
        | inr other ↦
            let before = lists.rests r (sym (put_off l.gone id true r other) ∙ went) in
            let events = put_off l.events id (w.events id) r other in
            (ap (is_out_of_order (shape_of declared r)) events ∙ before.0, ap (has_other_words (shape_of declared r)) events ∙ before.1)
      ];
    }

  -- ---- a ring comes: none that lives has its ID, and it is the one of its kind

  module _ (ring : Ring) (absent : ring_with live ring.id ≡ None) (no_command : is_command ring ≡ true → command_ring live ≡ None) (no_event : is_event ring ≡ true → event_ring live ≡ None) where
    abbrev keep : Ring → Bool
    keep q = not (q.id == ring.id)

    abbrev kept : List Ring
    kept = filter keep declared.rings

    -- it stands behind the others, or before them
    abbrev rings_now : List Ring
    rings_now = (listed declared ring).rings

    stands : (rings_now ≡ kept ++ ring ∷ []) ⊎ (rings_now ≡ ring ∷ kept)
    unfolding listed with_ring without_ring
    stands = elim (cases_Bool (is_transfer_kind ring.shape.kind)) [ inl transfer ↦ inl (grind arith) | inr other ↦ inr (grind arith) ]

    keeps : (q : Ring) → q.id ≢ ring.id → keep q ≡ true
    keeps q other = not_from_false (q.id == ring.id) (ne_eqb q.id ring.id other)

    none_left : (rs : List Ring) → find (λ q. q.id == ring.id) (filter keep rs) ≡ None
    none_left [] = refl
    none_left (y ∷ ys) = grind (arith, cases_Bool (y.id == ring.id), none_left ys)

    -- what it isn't is found among the others
    found_beside : (test : Ring → Bool) → test ring ≡ false → find test rings_now ≡ find test kept
    found_beside test fails =
        elim stands [
          | inl behind ↦ ap (find test) behind ∙ found_before test kept ring fails
          | inr before ↦ ap (find test) before ∙ cond-false (test ring) (Some ring) (find test kept) fails
        ]

    -- what none of the others is it is
    found_here : (test : Ring → Bool) → test ring ≡ true → (find test kept ≡ None) ⊎ (rings_now ≡ ring ∷ kept) → find test rings_now ≡ Some ring
    found_here test passes alone =
        let first : rings_now ≡ ring ∷ kept → find test rings_now ≡ Some ring = λ e. ap (find test) e ∙ cond-true (test ring) (Some ring) (find test kept) passes in
        elim stands [
          | inr before ↦ first before
          | inl behind ↦ elim alone [ inl none ↦ ap (find test) behind ∙ found_new test kept ring none passes | inr before ↦ first before ]
        ]

    -- a ring that lives has another ID
    lives_apart : (test : Ring → Bool) (q : Ring) → find test live.rings ≡ Some q → keep q ≡ true
    lives_apart test q at =
        keeps q (λ same. false≢true (sym (none_found (λ p. p.id == ring.id) live.rings absent q (found_in test live.rings q at).0) ∙ eq-eqb q.id ring.id same))

    kept_of_kind : (test : Ring → Bool) (q : Ring) → test ring ≡ false → find test (with_ring live ring).rings ≡ Some q → (find test live.rings ≡ Some q → find test declared.rings ≡ Some q) → find test rings_now ≡ Some q
    unfolding with_ring
    kept_of_kind test q fails at before =
        let lived = sym (found_before test live.rings ring fails) ∙ at in
        found_beside test fails ∙ found_kept test keep declared.rings q (before lived) (lives_apart test q lived)

    -- the first of its kind
    new_of_kind : (test : Ring → Bool) (q : Ring) → test ring ≡ true → find test live.rings ≡ None → is_transfer_kind ring.shape.kind ≡ false → find test (with_ring live ring).rings ≡ Some q → find test rings_now ≡ Some q
    unfolding listed with_ring without_ring
    new_of_kind test q passes none kind at =
        let here : ring ≡ q = same_Some ring q (sym (found_new test live.rings ring none passes) ∙ at) in
        let before : rings_now ≡ ring ∷ kept = ap (λ (h : Header). h.rings) (cond-false (is_transfer_kind ring.shape.kind) (with_ring (without_ring declared ring.id) ring) (record declared { rings = ring ∷ (without_ring declared ring.id).rings }) kind) in
        found_here test passes (inr before) ∙ ap (λ (x : Ring). Some x) here

    commands_stay : (q : Ring) → command_ring (with_ring live ring) ≡ Some q → command_ring (listed declared ring) ≡ Some q
    unfolding command_ring
    commands_stay q at =
        elim (cases_Bool (is_command ring)) [
          | inl it ↦ new_of_kind is_command q it (no_command it) (command_no_transfer ring.shape.kind it) at
          | inr other ↦ kept_of_kind is_command q other at (lists.command q)
        ]

    events_stay : (q : Ring) → event_ring (with_ring live ring) ≡ Some q → event_ring (listed declared ring) ≡ Some q
    unfolding event_ring
    events_stay q at =
        elim (cases_Bool (is_event ring)) [
          | inl it ↦ new_of_kind is_event q it (no_event it) (event_no_transfer ring.shape.kind it) at
          | inr other ↦ kept_of_kind is_event q other at (lists.events q)
        ]

    here_live : ring_with (with_ring live ring) ring.id ≡ Some ring
    unfolding with_ring
    here_live = found_new (λ q. q.id == ring.id) live.rings ring absent (eq-eqb ring.id ring.id refl)

    here_declared : ring_with (listed declared ring) ring.id ≡ Some ring
    here_declared = found_here (λ q. q.id == ring.id) (eq-eqb ring.id ring.id refl) (inl (none_left declared.rings))

    elsewhere : (r : ℕ) → r ≢ ring.id → ring_with (listed declared ring) r ≡ ring_with declared r
    elsewhere r other =
        found_beside (λ q. q.id == r) (ne_eqb ring.id r (λ same. other (sym same)))
        ∙ find_kept (λ q. q.id == r) keep declared.rings (λ q at passes. keeps q (λ same. other (sym (eqb-true q.id r passes) ∙ same)))

    elsewhere_live : (r : ℕ) → r ≢ ring.id → ring_with (with_ring live ring) r ≡ ring_with live r
    unfolding with_ring
    elsewhere_live r other = found_before (λ q. q.id == r) live.rings ring (ne_eqb ring.id r (λ same. other (sym same)))

    shape_elsewhere : (r : ℕ) → r ≢ ring.id → shape_of (listed declared ring) r ≡ shape_of declared r
    unfolding shape_of
    shape_elsewhere r other = ap (λ o. shape_or Xfer o) (elsewhere r other)

    old_one : (q : Ring) → IsIn q kept → IsIn q declared.rings × (q.id ≢ ring.id)
    old_one q at = let was = from_filter keep declared.rings q at in (was.0, λ same. false≢true (sym (not-true (q.id == ring.id) was.1) ∙ eq-eqb q.id ring.id same))

    -- a ring of the list is the new one, or has another ID
    one_of : (q : Ring) → IsIn q rings_now → (q ≡ ring) ⊎ (IsIn q declared.rings × (q.id ≢ ring.id))
    one_of q at =
        elim stands [
          | inl behind ↦ elim (from_both q kept (ring ∷ []) (subst (IsIn q) behind at)) [
            | inl early ↦ inr (old_one q early)
            | inr last ↦ elim last [ inl new ↦ inl new | inr later ↦ absurd later ]
          ]
          | inr before ↦ by_first (subst (IsIn q) before at)
        ]
      where
        by_first : IsIn q (ring ∷ kept) → (q ≡ ring) ⊎ (IsIn q declared.rings × (q.id ≢ ring.id))
        by_first first = elim first [ inl new ↦ inl new | inr later ↦ inr (old_one q later) ]

    -- what another one passes one of the list passes
    pub still_listed : (test : Ring → Bool) (q : Ring) → IsIn q declared.rings → q.id ≢ ring.id → test q ≡ true → list_any test rings_now ≡ true
    still_listed test q at other passes =
        let old : list_any test kept ≡ true = any_of test kept q (in_filter keep declared.rings q at (keeps q other)) passes in
        elim stands [
          | inl behind ↦ ap (list_any test) behind ∙ list_any-append test kept (ring ∷ []) ∙ or_left (list_any test kept) (list_any test (ring ∷ [])) old
          | inr before ↦ ap (list_any test) before ∙ or_right (test ring) (list_any test kept) old
        ]

    version_so : (listed declared ring).version ≡ (with_ring live ring).version
    unfolding listed with_ring without_ring
    version_so = elim (cases_Bool (is_transfer_kind ring.shape.kind)) [ inl transfer ↦ (grind (arith, lists.version)) | inr other ↦ (grind (arith, lists.version)) ]

    size_so : (listed declared ring).context_size ≡ (with_ring live ring).context_size
    unfolding listed with_ring without_ring
    size_so = elim (cases_Bool (is_transfer_kind ring.shape.kind)) [ inl transfer ↦ (grind (arith, lists.size)) | inr other ↦ (grind (arith, lists.size)) ]

    pub comes_lists : Lists (come_again l ring.id) (with_ring live ring) (listed declared ring)
    comes_lists = record {
      size = size_so;
      command = commands_stay;
      events = events_stay;
      version = version_so;
      found = λ r q at. elim (cases_eq r ring.id) [
        | inl here ↦
            let same : ring ≡ q = same_Some ring q (sym here_live ∙ ap (ring_with (with_ring live ring)) (sym here) ∙ at) in
            (ap (ring_with (listed declared ring)) here ∙ here_declared ∙ ap (λ (x : Ring). Some x) same, ap (put l.gone ring.id false) here ∙ put_at l.gone ring.id false)
        | inr other ↦
            let before = lists.found r q (sym (elsewhere_live r other) ∙ at) in
            (elsewhere r other ∙ before.0, put_off l.gone ring.id false r other ∙ before.1)
      ];
      each = λ q at. elim (one_of q at) [
        | inl new ↦ inl (subst (λ (p : Ring). ring_with (with_ring live ring) p.id ≡ Some p) (sym new) here_live)
        | inr old ↦ elim (lists.each q old.0) [
          | inl lives ↦ inl (elsewhere_live q.id old.1 ∙ lives)
          | inr went ↦ inr (put_off l.gone ring.id false q.id old.1 ∙ went)
        ]
      ];
      rests = λ r went.
          let other : r ≢ ring.id = λ same. false≢true (sym (ap (put l.gone ring.id false) same ∙ put_at l.gone ring.id false) ∙ went) in
          let before = lists.rests r (sym (put_off l.gone ring.id false r other) ∙ went) in
          (ap (λ s. is_out_of_order s (l.events r)) (shape_elsewhere r other) ∙ before.0, ap (λ s. has_other_words s (l.events r)) (shape_elsewhere r other) ∙ before.1);
    }

-- ---- a ring that may stand with those that live has none in its way

apart_from : (rs : List Ring) (r : Ring) → may_stand_together (rs ++ r ∷ []) ≡ true → list_any (is_in_way r) rs ≡ false
apart_from [] r together = refl
apart_from (y ∷ ys) r together =
    let parts = and_parts (not (list_any (clash y) (ys ++ r ∷ []))) (may_stand_together (ys ++ r ∷ [])) together in
    let all = or_parts (list_any (clash y) ys) (clash y r || false) (sym (list_any-append (clash y) ys (r ∷ [])) ∙ not-true (list_any (clash y) (ys ++ r ∷ [])) parts.0) in
    let kinds = or_parts _ (is_event_kind y.shape.kind && is_event_kind r.shape.kind) (or_parts (clash y r) false all.1).0 in
    let apart = or_parts (is_in_way r y) (is_command_kind y.shape.kind && is_command_kind r.shape.kind) kinds.0 in
    or_from (is_in_way r y) (list_any (is_in_way r) ys) apart.0 (apart_from ys r parts.1)

pub may_come_there : (live : Header) (ring : Ring) → IsHeader (with_ring live ring) → may_come live ring ≡ true
unfolding may_come with_ring
may_come_there live ring is = not_from_false (list_any (is_in_way ring) live.rings) (apart_from live.rings ring (header_parts (with_ring live ring) is).1)
