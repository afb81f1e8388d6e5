-- A doorbell where all events are read: what is known agrees with the world
use Rattle.safety.proofs.MiddleLaws.{[], ◌≡◌, ◌==◌, ◌&&◌, ◌||◌, if◌then◌else◌, ◌∙◌, ℕ, not, nat_lt, true, List, Option, None, Some, option_and_then, slice_get, arith, refl, sym, ap, subst, inl, inr, rules, cases_Bool, cond-true, cond-false, and_from, or_parts, or_cases, not-false, false≢true, put_pair, Block, RingView, Opens, changed, EndpointState, Running, is_running, is_stopped, Header, Bell, IsHeader, shape_of, command_id, World, counted, Known, learned, on_ring, command_at, next_command, endpoint_rung, rung, is_bad_bell, lenient, IsDriverRing, DriverKeeps, Stands, EventsStand, state_of, RingMatches, BoundRing, UnderWayMatches, CommandMatches, Matches, Agrees, Spot, RingState, activated, bell_row, endpoint_bell, transfer_driver, transfer_not_command, ring_shape, command_is_ring, BellFacts, bell_facts, at_pair, Late, agrees_counted, stands_only, events_only, late_only, read_only, matches_command, OnlyRing, stands_learns, matches_learns, LearnsRing, known_states, world_states, stands_states, events_states, matches_states, RingGoesOn, bound_on, goes_same, opens_goes_on, KnownGoesOn, same_controller, matches_go_on, view_after, put_at, put_off, is_named, Crcr, is_some, is_value, Register, named_in_run}
use Rattle.safety.proofs.StatesKeep.StatesRung.{running_is}

abbrev pub activated_ring : World → ℕ → RingState
activated_ring w r = record (state_of w r) { active = true }

pub only_activated : (h : Header) (w : World) (r : ℕ) → OnlyRing w (activated h w r) r (activated_ring w r)
unfolding activated
only_activated h w r = search (rules, put_at, put_off)

pub record ActivatedRest (w v : World) : Type 0 where
  pub under_way : v.under_way ≡ w.under_way
  pub scribbles : v.scribbles ≡ w.scribbles
  pub inside : v.looked_outside ≡ w.looked_outside

pub activated_rest : (h : Header) (w : World) (r : ℕ) → ActivatedRest w (activated h w r)
unfolding activated
activated_rest h w r = record { under_way = refl; scribbles = refl; inside = refl }

pub learns_opened : (h : Header) (k : Known) (r : ℕ) → LearnsRing k (on_ring h k r Opens) r (changed (shape_of h r) (k.ring r) Opens)
unfolding on_ring
learns_opened h k r = search (rules, put_at, put_off)

pub opened_reads : (h : Header) (k : Known) (r : ℕ) → (on_ring h k r Opens).reads ≡ k.reads
unfolding on_ring
opened_reads h k r = refl

-- an active ring that is known to be open
pub active_matches : (h : Header) (r : ℕ) (v : RingView) (s : RingState) (t : Spot) → v.held ≡ None → RingMatches (shape_of h r) v s t → RingMatches (shape_of h r) v (record s { active = true }) t
active_matches h r v s t none m = search rules

pub active_bound : (h : Header) (r : ℕ) (f : ℕ → ℕ → Option ℕ) (v : RingView) (s : RingState) → v.held ≡ None → BoundRing (shape_of h r) f v s r → BoundRing (shape_of h r) f v (record s { active = true }) r
active_bound h r f v s none b = search (rules, active_matches)

module _ (h : Header) (is : IsHeader h) (k : Known) (unread : List Block) (w : World) (d : DriverKeeps h k) (g : Agrees h k unread w) where
  goes : (r : ℕ) → IsDriverRing h r → RingGoesOn (shape_of h r) (k.ring r) (changed (shape_of h r) (k.ring r) Opens)
  goes r ring = opens_goes_on (shape_of h r) (ring_shape h is r ring).is k.memory (k.ring r) (d.rings r ring)

  -- ---- an endpoint's ring

  bound_opened : (s t r : ℕ) → k.ring_of s t ≡ Some r → BoundRing (shape_of h r) k.ring_of (changed (shape_of h r) (k.ring r) Opens) (activated_ring w r) r
  bound_opened s t r at =
      let transfer = d.states.transfer s t r at in
      elim (g.matches.rings r (λ same. transfer_not_command h is r transfer same)) [
        | inl bound ↦
            active_bound h r k.ring_of (changed (shape_of h r) (k.ring r) Opens) (state_of w r) refl
            (bound_on (shape_of h r) (k.ring r) (changed (shape_of h r) (k.ring r) Opens) (goes r (transfer_driver h r transfer)) (state_of w r) k.ring_of r bound)
        | inr free ↦ absurd (free.none s t at)
      ]

  endpoint_opened : (s t r : ℕ) → k.ring_of s t ≡ Some r → Matches h (on_ring h k r Opens) (activated h w r)
  endpoint_opened s t r at =
      let rest = activated_rest h w r in
      matches_learns h k (on_ring h k r Opens) r (changed (shape_of h r) (k.ring r) Opens) (learns_opened h k r) w (activated h w r) (activated_ring w r) (only_activated h w r) d g.matches
      (λ same. transfer_not_command h is r (d.states.transfer s t r at) same) (bound_opened s t r at) rest.under_way rest.scribbles rest.inside

  states_rung : (s t r : ℕ) → (is_running (k.endpoint_state s t) || is_stopped (k.endpoint_state s t)) ≡ true → (q j : ℕ) →
      put_pair w.endpoint_state s t Running q j ≡ (if is_stopped (k.endpoint_state s t) then put_pair k.endpoint_state s t Running else k.endpoint_state) q j
  states_rung s t r may q j = search (rules, at_pair, or_cases, running_is, false≢true)

  -- ---- the row

  late : Late w
  late a = omega (arith, g.stamps a)

  record Parts (r : ℕ) (e f : ℕ → ℕ → EndpointState) : Type 0 where
    stands : Stands h (known_states (on_ring h k r Opens) e (on_ring h k r Opens).must_move) (world_states (activated h w r) f)
    events : EventsStand h (world_states (activated h w r) f) unread
    matches : Matches h (known_states (on_ring h k r Opens) e (on_ring h k r Opens).must_move) (world_states (activated h w r) f)
    read : (activated h w r).posted ≡ (on_ring h k r Opens).reads
    late : Late (activated h w r)

  opened_agrees : (r : ℕ) → Matches h (on_ring h k r Opens) (activated h w r) → (e f : ℕ → ℕ → EndpointState) → ((q j : ℕ) → f q j ≡ e q j) → Parts r e f
  opened_agrees r m e f same =
      let v : World = activated h w r in
      let l : Known = on_ring h k r Opens in
      let o = only_activated h w r in
      record {
        stands = stands_states h l v e f l.must_move
            (stands_learns h k l r (changed (shape_of h r) (k.ring r) Opens) (learns_opened h k r) v (stands_only h k w v r (activated_ring w r) o g.stands));
        events = events_states h l v e f l.must_move unread (events_only h k w v r (activated_ring w r) o unread g.events);
        matches = matches_states h l v e f l.must_move same m;
        read = read_only h k w v r (activated_ring w r) o g.read ∙ sym (opened_reads h k r);
        late = late_only h k w v r (activated_ring w r) o late;
      }

  parts_agree : (r : ℕ) (e f : ℕ → ℕ → EndpointState) → Parts r e f →
      Agrees h (known_states (on_ring h k r Opens) e (on_ring h k r Opens).must_move) unread (counted h (world_states (activated h w r) f))
  parts_agree r e f p = search (rules, agrees_counted)

  states_of : ℕ → ℕ → ℕ → ℕ → EndpointState
  states_of s t = if is_stopped (k.endpoint_state s t) then put_pair k.endpoint_state s t Running else k.endpoint_state

  bell_is : (s t r : ℕ) → (is_running (k.endpoint_state s t) || is_stopped (k.endpoint_state s t)) ≡ true →
      endpoint_bell h w s t (Some r) ≡ world_states (activated h w r) (put_pair w.endpoint_state s t Running)
  unfolding endpoint_bell
  bell_is s t r may = search (rules, cond-true, is_running, is_stopped, world_states, activated, put_pair)

  rung_is : (s t r : ℕ) → endpoint_rung h k s t (Some r) ≡ known_states (on_ring h k r Opens) (states_of s t) (on_ring h k r Opens).must_move
  unfolding endpoint_rung states_of on_ring
  rung_is s t r = refl

  rung_same : (s t r : ℕ) → (is_running (k.endpoint_state s t) || is_stopped (k.endpoint_state s t)) ≡ true → (q j : ℕ) → put_pair w.endpoint_state s t Running q j ≡ states_of s t q j
  unfolding states_of
  rung_same s t r may = states_rung s t r may

  pub endpoint_agrees : (s t : ℕ) (o : Option ℕ) → k.ring_of s t ≡ o → (is_running (k.endpoint_state s t) || is_stopped (k.endpoint_state s t)) ≡ true →
      Agrees h (endpoint_rung h k s t o) unread (counted h (endpoint_bell h w s t o))
  unfolding endpoint_rung endpoint_bell
  endpoint_agrees s t None at may = search (rules, agrees_counted, late)
  endpoint_agrees s t (Some r) at may = search (rules, agrees_counted, rung_is, bell_is, parts_agree, opened_agrees, endpoint_opened, rung_same)

  -- ---- the command ring

  command_goes : is_named k ≡ true → KnownGoesOn h k (on_ring h k (command_id h) Opens)
  command_goes on =
      let l = learns_opened h k (command_id h) in
      search (rules, view_after, shape_of, command_id, changed, goes, command_is_ring, goes_same)

  -- what is declared and given, and where the floor is, stays
  record StaysBut (v x : RingView) : Type 0 where
    queue : x.queue ≡ v.queue
    given : x.given ≡ v.given
    floor : x.floor ≡ v.floor

  command_stays : (q : ℕ) → StaysBut (k.ring q) ((on_ring h k (command_id h) Opens).ring q)
  command_stays q =
      view_after h (λ x. StaysBut (k.ring q) x) k (command_id h) Opens q
      (λ same. subst (λ n. StaysBut (k.ring n) (changed (shape_of h (command_id h)) (k.ring (command_id h)) Opens)) (sym same) (record { queue = refl; given = refl; floor = refl }))
      (λ other. record { queue = refl; given = refl; floor = refl })

  command_known : is_named k ≡ true → Matches h (on_ring h k (command_id h) Opens) w
  unfolding command_at
  command_known on =
      matches_go_on h k (on_ring h k (command_id h) Opens) w w (command_goes on) (same_controller w)
      (λ u at. ap (λ q. slice_get q (next_command h k)) (command_stays (command_id h)).queue)
      (λ p c u. g.matches.contexts p c (search (rules, command_stays, option_and_then, slice_get))) g.matches

  command_opened : is_named k ≡ true → Matches h (on_ring h k (command_id h) Opens) (activated h w (command_id h))
  command_opened on =
      let m : Known = on_ring h k (command_id h) Opens in
      let l = learns_opened h k (command_id h) in
      let y : Matches h m w = command_known on in
      let started : is_named m ≡ true = ap (λ (f : Register → Option ℕ). is_some (f Crcr)) l.register ∙ on in
      let c : CommandMatches h m w = y.command started in
      let o = only_activated h w (command_id h) in
      let rest = activated_rest h w (command_id h) in
      matches_command h m w (activated h w (command_id h)) (command_id h) (activated_ring w (command_id h)) o y refl started
      (record {
        spot = c.spot;
        ring = subst (λ s. RingMatches (shape_of h (command_id h)) (m.ring (command_id h)) s c.spot) (sym o.here)
            (active_matches h (command_id h) (m.ring (command_id h)) (state_of w (command_id h)) c.spot (ap (λ x. x.held) l.here) c.ring);
        under_way = subst (λ x. UnderWayMatches h m c.spot x) (sym rest.under_way) c.under_way;
      })
      (λ unused. absurd (false≢true (sym unused ∙ ap (λ x. not (is_value 0 x.held)) l.here)))
      (λ s may. y.scribbles s (ap (λ f. f s) (sym rest.scribbles) ∙ may)) (rest.inside ∙ y.inside)

  pub command_agrees : is_named k ≡ true → Agrees h (on_ring h k (command_id h) Opens) unread (counted h (activated h w (command_id h)))
  command_agrees on =
      let l = learns_opened h k (command_id h) in
      let o = only_activated h w (command_id h) in
      let v : World = activated h w (command_id h) in
      agrees_counted h (on_ring h k (command_id h) Opens) unread v
      (stands_learns h k (on_ring h k (command_id h) Opens) (command_id h) (changed (shape_of h (command_id h)) (k.ring (command_id h)) Opens) l v (stands_only h k w v (command_id h) (activated_ring w (command_id h)) o g.stands))
      (events_only h k w v (command_id h) (activated_ring w (command_id h)) o unread g.events) (command_opened on)
      (read_only h k w v (command_id h) (activated_ring w (command_id h)) o g.read ∙ sym (opened_reads h k (command_id h))) (late_only h k w v (command_id h) (activated_ring w (command_id h)) o late)

  -- ---- the row

  pub rings_agree : (s t : ℕ) → lenient h k (Bell s t) ≡ [] → Agrees h (learned h k (Bell s t)) unread (counted h (bell_row h w s t))
  unfolding learned rung bell_row is_bad_bell
  rings_agree s t clean =
      let facts : BellFacts h k s t = bell_facts h k s t clean in
      elim (cases_Bool (s == 0)) [
        | inl command ↦
            let zero : (t == 0) ≡ true = not-false (t == 0) (sym (cond-true (s == 0) (not (t == 0)) (is_bad_bell h k s t) command) ∙ facts.good) in
            subst (λ m. Agrees h m unread (counted h (bell_row h w s t))) (sym (cond-true (s == 0) (on_ring h k (command_id h) Opens) (endpoint_rung h k s t (k.ring_of s t)) command))
            (subst (λ v. Agrees h (on_ring h k (command_id h) Opens) unread (counted h v))
            (sym (cond-true (s == 0) (if t == 0 && w.started then activated h w (command_id h) else w) (endpoint_bell h w s t (w.ring_of s t)) command
            ∙ cond-true (t == 0 && w.started) (activated h w (command_id h)) w (and_from (t == 0) w.started zero (g.stands.started ∙ facts.started))))
            (command_agrees (named_in_run h k d facts.started facts.on)))
        | inr endpoint ↦
            subst (λ m. Agrees h m unread (counted h (bell_row h w s t))) (sym (cond-false (s == 0) (on_ring h k (command_id h) Opens) (endpoint_rung h k s t (k.ring_of s t)) endpoint))
            (subst (λ v. Agrees h (endpoint_rung h k s t (k.ring_of s t)) unread (counted h v))
            (sym (cond-false (s == 0) (if t == 0 && w.started then activated h w (command_id h) else w) (endpoint_bell h w s t (w.ring_of s t)) endpoint
            ∙ ap (λ o. endpoint_bell h w s t o) (g.matches.ring_of s t)))
            (endpoint_agrees s t (k.ring_of s t) refl (search (rules, or_parts, nat_lt, not-false))))
      ]
