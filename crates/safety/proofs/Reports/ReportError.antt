-- The controller reports that an endpoint has halted, or gone to Error: the run goes on
use Rattle.safety.proofs.MiddleLaws.{spot_named, code_told, [], ◌≡◌, ◌≢◌, ◌+◌, ◌<◌, ◌==◌, ◌&&◌, ◌||◌, if◌then◌else◌, ◌∷◌, ◌++◌, ◌∙◌, ℕ, Bool, true, false, not, List, length, drop, Some, None, arith, refl, sym, ap, subst, rules, and_parts, and_from, and_right, or_left, or_right, cond-true, cond-false, not_from_true, none-some, same_Some, put, put_pair, Block, IsBlock, endpoint, kind, slot, is_transfer_event, is_command_completion, is_other_event, is_success, is_halting, is_trb_error, is_transfer_code, Data, Holds, ceiling, is_data_below, is_open, EndpointState, Halted, Error, is_running, Header, Read, IsHeader, shape_of, command_id, World, unreported, posted, names_last, with_reported, report_error, report_code, counted, Known, event_read, learned, event_at, on_ring, passed, broken_off, transferred, transferred_at, transfer_read, is_in_profile, is_working, can_report, can_report_at, DriverKeeps, RingState, state_of, BoundRing, Agrees, transfer_driver, transfer_not_command, ring_shape, agrees_counted, with_reads, PostKeeps, post_keeps, learned_read, event_clean, OnlyRing, stands_only, events_only, cond_is, put_at, put_off, LearnsRing, stands_learns, matches_learns, known_states, world_states, stands_states, events_states, matches_states, open_takes, broken_at, last_take, broken_matches, broken_unreported, held_open, possible, where_bound, IsReport, ReportKeeps, transfer_kind, event_named, in_profile_is}
use Rattle.safety.proofs.Reports.ReportSuccess.{below_is}

-- the ring at rest, its takes reported
abbrev pub ended_ring : World → ℕ → ℕ → World
ended_ring u r c = record u { reported = put u.reported r c; is_active = put u.is_active r false }

pub record Breaks (h : Header) (u v : World) (s i r : ℕ) (b : Block) (state : EndpointState) : Type 0 where
  pub runs : is_running (u.endpoint_state s i) ≡ true
  pub active : u.is_active r ≡ true
  pub last : names_last b (open_takes (state_of u r)) ≡ true
  pub is : world_states (ended_ring u r (u.reported r + length (open_takes (state_of u r)))) (put_pair u.endpoint_state s i state) ≡ v

breaks_is : (h : Header) (u v : World) (s i r : ℕ) (b : Block) (state : EndpointState) → report_error h u s i r b state ≡ Some v → Breaks h u v s i r b state
unfolding report_error with_reported unreported
breaks_is h u v s i r b state at = search (rules, cond_is, drop, and_parts, same_Some, none-some)

pub only_ended : (u : World) (r c : ℕ) → OnlyRing u (ended_ring u r c) r (record (state_of u r) { active = false; reported = c })
only_ended u r c = search (rules, put_at, put_off)

-- what is known of the ring once the event is read
pub held_behind : (h : Header) → Known → ℕ → ℕ → Known
held_behind h k r p = on_ring h (passed h k r (Data p)) r (Holds (p + 1))

learns_held : (h : Header) (k : Known) (r p n : ℕ) → LearnsRing k (with_reads (held_behind h k r p) n) r (broken_at (shape_of h r) (k.ring r) p)
unfolding held_behind passed on_ring
learns_held h k r p n = search (rules, with_reads, held_behind, broken_at, put_at, put_off)

broken_is : (h : Header) (k : Known) (s i r p : ℕ) (state : EndpointState) → broken_off h k s i r (Data p) state ≡ known_states (held_behind h k r p) (put_pair k.endpoint_state s i state) k.must_move
unfolding broken_off held_behind passed on_ring
broken_is h k s i r p state = refl

pair_same : (f g : ℕ → ℕ → EndpointState) (s i : ℕ) (x : EndpointState) → ((t j : ℕ) → f t j ≡ g t j) → (t j : ℕ) → put_pair f s i x t j ≡ put_pair g s i x t j
pair_same f g s i x same t j = ap (λ y. if t == s && j == i then x else y) (same t j)

pub works : (h : Header) (k : Known) (s i r : ℕ) → is_running (k.endpoint_state s i) ≡ true → (k.ring r).held ≡ None → is_working k s i r ≡ true
unfolding is_working
works h k s i r runs none = and_from (is_running (k.endpoint_state s i)) (is_open (k.ring r)) runs (held_open (k.ring r) none)

-- what the rules and what is known say of the event's code
pub record BreaksBy (h : Header) (k : Known) (b : Block) (state : EndpointState) (must : ℕ → ℕ → Bool) : Type 0 where
  pub code_is : is_transfer_code (code_told h k b) ≡ true
  pub may : (r p : ℕ) → p < ceiling (shape_of h r) (k.ring r) → is_working k (slot b) (endpoint b) r ≡ true → can_report_at h k b (Some (record { ring = r; spot = Data p })) ≡ true
  pub read : (r p : ℕ) → event_at h k b ≡ Some (record { ring = r; spot = Data p }) →
      event_read h k (kind b) b ≡ known_states (held_behind h k r p) (put_pair k.endpoint_state (slot b) (endpoint b) state) must

module _ (h : Header) (k : Known) (b : Block) (transfer : is_transfer_event (kind b) ≡ true) where
  broken_read : (r p : ℕ) → event_at h k b ≡ Some (record { ring = r; spot = Data p }) → event_read h k (kind b) b ≡ transferred h k (code_told h k b) (slot b) (endpoint b) r (Data p)
  unfolding event_read transfer_read transferred_at
  broken_read r p at = ap (λ n. event_read h k n b) (transfer_kind (kind b) transfer) ∙ ap (λ o. transferred_at h k b o) at

  works_and_below : (r p : ℕ) → p < ceiling (shape_of h r) (k.ring r) → is_working k (slot b) (endpoint b) r ≡ true →
      (is_data_below (ceiling (shape_of h r) (k.ring r)) (Data p) && is_working k (slot b) (endpoint b) r) ≡ true
  works_and_below r p below works = and_from _ _ (below_is (ceiling (shape_of h r) (k.ring r)) p below) works

  may_break : is_success (code_told h k b) ≡ false → (is_halting (code_told h k b) || is_trb_error (code_told h k b)) ≡ true → (r p : ℕ) → p < ceiling (shape_of h r) (k.ring r) → is_working k (slot b) (endpoint b) r ≡ true →
      can_report_at h k b (Some (record { ring = r; spot = Data p })) ≡ true
  unfolding can_report_at can_report
  may_break fails breaks r p below works = cond-false (is_success (code_told h k b)) _ _ fails ∙ cond-true (is_halting (code_told h k b) || is_trb_error (code_told h k b)) _ _ breaks ∙ works_and_below r p below works

  pub halts : is_success (code_told h k b) ≡ false → is_halting (code_told h k b) ≡ true → BreaksBy h k b Halted (put_pair k.must_move (slot b) (endpoint b) true)
  unfolding transferred
  halts fails halting = record {
    code_is = or_left _ _ (or_left _ _ (or_right _ _ halting));
    may = may_break fails (or_left _ _ halting);
    read = λ r p at. broken_read r p at ∙ cond-false (is_success (code_told h k b)) _ _ fails ∙ cond-true (is_halting (code_told h k b)) _ _ halting
        ∙ ap (λ (m : Known). let x : Known = record m { must_move = put_pair k.must_move (slot b) (endpoint b) true } in x) (broken_is h k (slot b) (endpoint b) r p Halted);
  }

  pub errs : is_success (code_told h k b) ≡ false → is_halting (code_told h k b) ≡ false → is_trb_error (code_told h k b) ≡ true → BreaksBy h k b Error k.must_move
  unfolding transferred
  errs fails quiet error = record {
    code_is = or_left _ _ (or_right _ _ error);
    may = may_break fails (or_right _ _ error);
    read = λ r p at. broken_read r p at ∙ cond-false (is_success (code_told h k b)) _ _ fails ∙ cond-false (is_halting (code_told h k b)) _ _ quiet ∙ cond-true (is_trb_error (code_told h k b)) _ _ error
        ∙ broken_is h k (slot b) (endpoint b) r p Error;
  }

module _ (h : Header) (is : IsHeader h) (k : Known) (unread : List Block) (w v : World) (b : Block) (block : IsBlock b) (running : w.stopped ≡ false) (d : DriverKeeps h k) (g : Agrees h k unread w)
    (x : IsReport h k w v b) (state : EndpointState) (must : ℕ → ℕ → Bool) (by : BreaksBy h k b state must) (f : Breaks h (posted h w b) v (slot b) (endpoint b) x.ring b state) where
  p : PostKeeps h k unread w b
  p = post_keeps h is k unread w b block d g x.can

  had : k.ring_of (slot b) (endpoint b) ≡ Some x.ring
  had = sym (g.matches.ring_of (slot b) (endpoint b)) ∙ x.had

  other : x.ring ≢ command_id h
  other = transfer_not_command h is x.ring (d.states.transfer (slot b) (endpoint b) x.ring had)

  on_bound : BoundRing (shape_of h x.ring) k.ring_of (k.ring x.ring) (state_of (posted h w b) x.ring) x.ring → ReportKeeps h k unread w v b
  unfolding spot_named
  on_bound bound =
      let r : ℕ = x.ring in
      let u : World = posted h w b in
      let driver = transfer_driver h r (d.states.transfer (slot b) (endpoint b) r had) in
      let allowed = (ring_shape h is r driver).is in
      let keeps = d.rings r driver in
      let s : RingState = state_of u r in
      let l = last_take (shape_of h r) allowed k.memory (k.ring r) keeps s bound.spot bound.matches bound.takes b f.last in
      let q : ℕ = l.position in
      let at = event_named h k b r (Data q) by.code_is had l.named_is in
      let c : ℕ = u.reported r + length (open_takes s) in
      let learns = learns_held h k r q (k.reads + 1) in
      let o = only_ended u r c in
      let next : BoundRing (shape_of h r) k.ring_of (broken_at (shape_of h r) (k.ring r) q) (record s { active = false; reported = c }) r =
      record {
        slot = bound.slot;
        index = bound.index;
        bound = bound.bound;
        spot = bound.spot;
        matches = broken_matches (shape_of h r) allowed k.memory (k.ring r) keeps s bound.spot bound.matches bound.takes b c l;
        takes = broken_unreported (shape_of h r) allowed k.memory (k.ring r) keeps s bound.spot bound.matches bound.takes b l;
      } in
      let z : World = ended_ring u r c in
      let m : Known = with_reads (held_behind h k r q) (k.reads + 1) in
      let e : ℕ → ℕ → EndpointState = put_pair k.endpoint_state (slot b) (endpoint b) state in
      let y : ℕ → ℕ → EndpointState = put_pair u.endpoint_state (slot b) (endpoint b) state in
      let states = pair_same u.endpoint_state k.endpoint_state (slot b) (endpoint b) state p.matches.endpoints in
      let after_z : Agrees h (known_states m e must) (unread ++ b ∷ []) (counted h (world_states z y)) =
      agrees_counted h (known_states m e must) (unread ++ b ∷ []) (world_states z y)
      (stands_states h m z e y must (stands_learns h k m r _ learns z (stands_only h k u z r _ o p.stands)))
      (events_states h m z e y must (unread ++ b ∷ []) (events_only h k u z r _ o (unread ++ b ∷ []) p.events))
      (matches_states h m z e y must states (matches_learns h k m r _ learns u z _ o d p.matches other next refl refl refl))
      p.posted_is p.late in
      let learned_is : learned h k (Read b) ≡ known_states m e must = learned_read h k b ∙ ap (λ n. with_reads n (k.reads + 1)) (by.read r q at) in
      let open_ring = bound.matches.opened f.active in
      let below : q < ceiling (shape_of h r) (k.ring r) = omega (arith, l.last, bound.matches.below) in
      let runs : is_running (k.endpoint_state (slot b) (endpoint b)) ≡ true = ap is_running (sym (p.matches.endpoints (slot b) (endpoint b))) ∙ f.runs in
      record {
        clean = event_clean h k w b g.stands g.read running p.can p.room
            (or_left (is_transfer_event (kind b) || is_command_completion (kind b)) (is_other_event (kind b)) (or_left (is_transfer_event (kind b)) (is_command_completion (kind b)) x.transfer))
            (possible h k b (record { ring = r; spot = Data q }) x.transfer at (by.may r q below (works h k (slot b) (endpoint b) r runs open_ring)) (d.states.on (slot b) (endpoint b) r had))
            (and_right (is_transfer_event (kind b)) (not (is_in_profile h k b)) (not_from_true (is_in_profile h k b) (in_profile_is h k b x.may_data by.code_is)));
        agrees = subst (λ n. Agrees h n (unread ++ b ∷ []) (counted h v)) (sym learned_is) (subst (λ y. Agrees h (known_states m e must) (unread ++ b ∷ []) (counted h y)) f.is after_z);
      }

  error_keeps : ReportKeeps h k unread w v b
  error_keeps = where_bound h is k unread w v b block running d g x on_bound

-- which report it is, by the event's code
module _ (h : Header) (is : IsHeader h) (k : Known) (unread : List Block) (w v : World) (b : Block) (block : IsBlock b) (running : w.stopped ≡ false) (d : DriverKeeps h k) (g : Agrees h k unread w)
    (x : IsReport h k w v b) (fails : is_success (code_told h k b) ≡ false) where
  pub halted_keeps : is_halting (code_told h k b) ≡ true → ReportKeeps h k unread w v b
  unfolding report_code
  halted_keeps halting =
      error_keeps h is k unread w v b block running d g x Halted _ (halts h k b x.transfer fails halting)
      (breaks_is h (posted h w b) v (slot b) (endpoint b) x.ring b Halted (sym (cond-false (is_success (code_told h k b)) _ _ fails ∙ cond-true (is_halting (code_told h k b)) _ _ halting) ∙ x.by_code))

  pub erred_keeps : is_halting (code_told h k b) ≡ false → is_trb_error (code_told h k b) ≡ true → ReportKeeps h k unread w v b
  unfolding report_code
  erred_keeps quiet error =
      error_keeps h is k unread w v b block running d g x Error _ (errs h k b x.transfer fails quiet error)
      (breaks_is h (posted h w b) v (slot b) (endpoint b) x.ring b Error
      (sym (cond-false (is_success (code_told h k b)) _ _ fails ∙ cond-false (is_halting (code_told h k b)) _ _ quiet ∙ cond-true (is_trb_error (code_told h k b)) _ _ error) ∙ x.by_code))
