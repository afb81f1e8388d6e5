-- A doorbell keeps what is kept of unfinished commands: none of them touches the endpoint
use Rattle.safety.proofs.MiddleLaws.{[], ◌≡◌, ◌≢◌, ◌==◌, ◌&&◌, if◌then◌else◌, ◌∙◌, ℕ, not, Bool, true, false, Option, None, Some, refl, sym, ap, subst, eq-eqb, rules, cond_both, cond-false, or_parts, or_left, and_from, false≢true, put_pair, Opens, number, Command, SetTrDequeue, is_stopped, is_at_rest, changes, Header, Bell, IsHeader, shape_of, command_id, Known, on_ring, endpoint_rung, rung, touches_endpoint, is_touched, is_bad_bell, is_bad_doorbell, doorbell_tests, lenient_tests, lenient, IsUnfinished, CommandKeeps, DriverKeeps, drops, is_dropped, arith, tests_fail, ring_here, ring_elsewhere, transfer_not_command, IsTransferTest, command_not_transfer, bound_transfer, SameGiven, on_ring_same, at_pair, unfinished_fails, standing_same, unfinished_view, PlacesStay, MovesAhead, still_restored, SameStates, RingsStay, ring_stays, same_stay, opened_free, ◌||◌, is_asked}

opened_states : (h : Header) (k : Known) (r : ℕ) → SameStates k (on_ring h k r Opens)
unfolding on_ring
opened_states h k r = record { memory = refl; soiled = refl; device = refl; slot_state = refl; off = λ s i. refl; ring_of = refl; was_bound = refl }

module _ (h : Header) (is : IsHeader h) (k : Known) (d : DriverKeeps h k) where
  -- a ring of the driver whose pointer doesn't change
  opened_floor : (r q : ℕ) → ((on_ring h k r Opens).ring q).floor ≡ (k.ring q).floor
  opened_floor r q = search (rules, ring_here, ring_elsewhere)

  -- ---- the command ring's

  commands_rung : (p : ℕ) (c : Command) → IsUnfinished h (on_ring h k (command_id h) Opens) p c → CommandKeeps h (on_ring h k (command_id h) Opens) p c
  unfolding on_ring
  commands_rung =
      let l : Known = on_ring h k (command_id h) Opens in
      same_stay h k l (opened_states h k (command_id h)) d.unfinished
      (unfinished_view h k l ((on_ring_same h k (command_id h) Opens tt).rings (command_id h)) (opened_floor (command_id h) (command_id h)))
      (λ p c u. ring_stays h k l c (refl) (opened_states h k (command_id h)).ring_of (λ s i r at.
      ring_elsewhere h k (command_id h) r Opens (λ same. transfer_not_command h is r (d.states.transfer s i r at) same))
      (λ r bound. ring_elsewhere h k (command_id h) r Opens (λ same. command_not_transfer h is (subst (λ x. IsTransferTest h x) same (bound_transfer h is k r c bound)))) (opened_free h k (command_id h)))

  -- ---- an endpoint's

  -- an unfinished Set TR Dequeue touches its endpoint
  pub set_touches : (s t i p q : ℕ) (cycle : Bool) (u : ℕ) → is_touched h k s t ≡ false → IsUnfinished h k u (SetTrDequeue q i p cycle) → q ≡ s → i ≡ t → ⊥
  unfolding is_touched touches_endpoint changes
  set_touches s t i p q cycle u untouched unfinished_at same_slot same_index =
      let none = unfinished_fails h k (touches_endpoint h k s t) u (SetTrDequeue q i p cycle) untouched unfinished_at in
      false≢true (sym none ∙ or_left (s == q && t == i) false (and_from (s == q) (t == i) (eq-eqb s q (sym same_slot)) (eq-eqb t i (sym same_index))))

  none_drops : (s t u : ℕ) (c : Command) → is_touched h k s t ≡ false → IsUnfinished h k u c → drops k c s t ≡ true → ⊥
  unfolding is_touched drops touches_endpoint changes
  none_drops s t u c untouched unfinished_at drops_it = false≢true (sym (unfinished_fails h k (touches_endpoint h k s t) u c untouched unfinished_at) ∙ (grind (arith, false, or_left, is_dropped, k.memory, false≢true)))

  module _ (s t r : ℕ) (has : k.ring_of s t ≡ Some r) (untouched : is_touched h k s t ≡ false) where
    opened : Known
    opened = on_ring h k r Opens

    l : Known
    l = endpoint_rung h k s t (Some r)

    rung_states : SameStates k l
    unfolding l endpoint_rung on_ring
    rung_states = search (rules, l, at_pair, false≢true)

    ring_is : l.ring ≡ opened.ring
    unfolding l opened endpoint_rung
    ring_is = refl

    state_elsewhere : (q i : ℕ) → (q ≡ s → i ≡ t → ⊥) → l.endpoint_state q i ≡ k.endpoint_state q i
    unfolding l endpoint_rung on_ring
    state_elsewhere q i other = search (rules, is_stopped, k.endpoint_state, put_pair, at_pair)

    given_same : (q : ℕ) → SameGiven (k.ring q) (l.ring q)
    unfolding opened
    given_same q = subst (λ f. SameGiven (k.ring q) (f q)) (sym ring_is) ((on_ring_same h k r Opens tt).rings q)

    rung_stay : (u : ℕ) (c : Command) → IsUnfinished h k u c → RingsStay h k l c
    unfolding opened
    rung_stay u c unfinished_at =
        record {
          rest = λ q i p cycle at rests.
              ap is_at_rest (state_elsewhere q i (set_touches s t i p q cycle u untouched (subst (λ x. IsUnfinished h k u x) at unfinished_at))) ∙ rests;
          ahead = λ q i p x cycle at there rests.
              let other : x ≢ r = λ same.
              let one = d.states.one_endpoint q i s t r (there ∙ ap (λ n. Some n) same) has in
              set_touches s t i p q cycle u untouched (subst (λ x. IsUnfinished h k u x) at unfinished_at) one.0 one.1 in
              subst (λ v. MovesAhead (shape_of h x) (k.ring x) v) (sym (ap (λ f. f x) ring_is ∙ ring_elsewhere h k r x Opens other)) (λ a b moves. moves);
          standing = λ q n x bsr at there. standing_same (shape_of h x) (k.ring x) (l.ring x) (given_same x) (ap (λ f. number f) (ap (λ f. (f x).floor) ring_is ∙ opened_floor r x));
          still = λ x bound.
              let other : x ≢ r = λ same.
              none_drops s t u c untouched unfinished_at ((d.unfinished u c unfinished_at).unkept x s t bound (has ∙ ap (λ n. Some n) (sym same))) in
              subst (λ v. PlacesStay (shape_of h x) (k.ring x) v) (sym (ap (λ f. f x) ring_is ∙ ring_elsewhere h k r x Opens other)) (λ a b placed. placed);
          moved = still_restored k l c (λ q i its. ap (λ f. f q i) rung_states.ring_of) (λ x. (given_same x).free);
        }

    endpoint_commands : (p : ℕ) (c : Command) → IsUnfinished h l p c → CommandKeeps h l p c
    unfolding opened
    endpoint_commands =
        let before = unfinished_view h k l (given_same (command_id h)) (ap (λ f. (f (command_id h)).floor) ring_is ∙ opened_floor r (command_id h)) in
        same_stay h k l rung_states d.unfinished before (λ p c u. rung_stay p c (before p c u))

  by_ring : (s t : ℕ) (o : Option ℕ) → k.ring_of s t ≡ o → is_touched h k s t ≡ false → (p : ℕ) (c : Command) → IsUnfinished h (endpoint_rung h k s t o) p c →
      CommandKeeps h (endpoint_rung h k s t o) p c
  unfolding endpoint_rung l
  by_ring s t None has untouched = d.unfinished
  by_ring s t (Some r) has untouched = endpoint_commands s t r has untouched

  pub rung_commands : (s t : ℕ) → lenient h k (Bell s t) ≡ [] → (p : ℕ) (c : Command) → IsUnfinished h (rung h k s t) p c → CommandKeeps h (rung h k s t) p c
  unfolding rung lenient_tests doorbell_tests is_bad_doorbell is_bad_bell
  rung_commands s t clean =
      let rule : (if s == 0 then not (t == 0) else is_bad_bell h k s t) ≡ false = (or_parts (not k.started || is_asked k.halt) _ (tests_fail h k (Bell s t) clean).0).1 in
      cond_both (s == 0) (on_ring h k (command_id h) Opens) (endpoint_rung h k s t (k.ring_of s t)) (λ l. (p : ℕ) (c : Command) → IsUnfinished h l p c → CommandKeeps h l p c)
      (λ zero. commands_rung)
      (λ slot. by_ring s t (k.ring_of s t) refl (or_parts _ (is_touched h k s t) (sym (cond-false (s == 0) (not (t == 0)) (is_bad_bell h k s t) slot) ∙ rule)).1)
