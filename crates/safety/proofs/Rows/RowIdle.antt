-- The doorbell of a ring that is open: nothing is learned, and where all events are read the world agrees with what is known as before
use Rattle.safety.proofs.MiddleLaws.{[], ◌≡◌, ◌==◌, ◌||◌, ◌∙◌, ℕ, not, nat_lt, true, false, List, Option, None, Some, refl, sym, ap, subst, inl, inr, rules, cond-true, cond-false, or_parts, not-false, false≢true, put_pair, Block, Opens, is_open, EndpointState, Running, Halted, Error, is_running, is_stopped, Header, Bell, IsHeader, command_id, World, counted, Known, learned, on_ring, endpoint_rung, rung, is_bad_bell, is_touched, lenient, DriverKeeps, Agrees, is_open_if, is_idle, MayRing, activated, bell_row, endpoint_bell, arith, bell_facts, agrees_once_counted, put_at, put_off, open_held, is_named}
use Rattle.safety.proofs.Rows.RowRings.{endpoint_agrees, command_agrees}

pub opens_same : (h : Header) (k : Known) (r : ℕ) → (k.ring r).held ≡ None → on_ring h k r Opens ≡ k
unfolding on_ring
opens_same h k r none = search (rules, put_at, put_off)

rung_same : (h : Header) (k : Known) (s t r : ℕ) → (k.ring r).held ≡ None → k.endpoint_state s t ≡ Running → endpoint_rung h k s t (Some r) ≡ k
unfolding endpoint_rung
rung_same h k s t r none runs = search (rules, cond-false, is_stopped, opens_same)

-- no doorbell changes an endpoint that has halted or failed
record AtRest (e : EndpointState) : Type 0 where
  waits : (is_running e || is_stopped e) ≡ false

halted_rests : (e : EndpointState) → e ≡ Halted → AtRest e
halted_rests e is = subst (λ x. AtRest x) (sym is) (record { waits = refl })

failed_rests : (e : EndpointState) → e ≡ Error → AtRest e
failed_rests e is = subst (λ x. AtRest x) (sym is) (record { waits = refl })

module _ (h : Header) (k : Known) (d : DriverKeeps h k) (s t : ℕ) where
  pub idle : is_idle h k (Bell s t) ≡ true → learned h k (Bell s t) ≡ k
  unfolding learned rung endpoint_rung
  idle is = search (rules, cond-true, opens_same, open_held, cond-false, k.ring, rung_same, d.states.open_runs)

  pub bell_untouched : is_bad_bell h k s t ≡ false → is_touched h k s t ≡ false
  unfolding is_bad_bell
  bell_untouched good = (or_parts _ (is_touched h k s t) good).1

  pub bell_state : is_bad_bell h k s t ≡ false → (is_running (k.endpoint_state s t) || is_stopped (k.endpoint_state s t)) ≡ true
  unfolding is_bad_bell
  bell_state good = search (rules, or_parts, nat_lt, not-false)

  -- the endpoint may be rung, and works
  may_ring_by : (o : Option ℕ) → k.ring_of s t ≡ o → is_open_if k o ≡ true → is_bad_bell h k s t ≡ false → MayRing h k s t
  may_ring_by o at is good =
      grind (arith, false≢true, d.states.off, bell_state, open_held, k.ring, bell_untouched, d.states.open_runs, k.ring_of, is_open_if)

  pub rings : is_idle h k (Bell s t) ≡ true → lenient h k (Bell s t) ≡ [] → (s == 0) ≡ false → MayRing h k s t
  rings is clean endpoint =
      may_ring_by (k.ring_of s t) refl (sym (cond-false (s == 0) (is_open (k.ring (command_id h))) (is_open_if k (k.ring_of s t)) endpoint) ∙ is)
      (sym (cond-false (s == 0) (not (t == 0)) (is_bad_bell h k s t) endpoint) ∙ (bell_facts h k s t clean).good)

-- ---- where all events are read

module _ (h : Header) (is : IsHeader h) (k : Known) (unread : List Block) (w : World) (d : DriverKeeps h k) (g : Agrees h k unread w) where
  rests : (s t : ℕ) (o : Option ℕ) → AtRest (k.endpoint_state s t) → Agrees h k unread (counted h (endpoint_bell h w s t o))
  unfolding endpoint_bell activated
  rests s t None rest =
      search (rules, agrees_once_counted, counted, cond-false, is_running, w.endpoint_state, is_stopped, activated, put_pair, g.matches.endpoints)
  rests s t (Some r) rest =
      search (rules, agrees_once_counted, counted, cond-false, is_running, w.endpoint_state, is_stopped, activated, put_pair, g.matches.endpoints)

  works : (s t : ℕ) (o : Option ℕ) → k.ring_of s t ≡ o → k.endpoint_state s t ≡ Running → ((r : ℕ) → k.ring_of s t ≡ Some r → (k.ring r).held ≡ None) →
      Agrees h k unread (counted h (endpoint_bell h w s t o))
  unfolding endpoint_bell
  works s t None at runs none = agrees_once_counted h k unread w g
  works s t (Some r) at runs none =
      subst (λ m. Agrees h m unread (counted h (endpoint_bell h w s t (Some r)))) (rung_same h k s t r (none r at) runs)
      (endpoint_agrees h is k unread w d g s t (Some r) at (ap (λ e. is_running e || is_stopped e) runs))

  pub rung_agrees : (s t : ℕ) → (s == 0) ≡ false → MayRing h k s t → Agrees h k unread (counted h (bell_row h w s t))
  unfolding bell_row
  rung_agrees s t endpoint may =
      subst (λ v. Agrees h k unread (counted h v))
      (sym (cond-false (s == 0) _ (endpoint_bell h w s t (w.ring_of s t)) endpoint ∙ ap (λ o. endpoint_bell h w s t o) (g.matches.ring_of s t)))
      (elim may.state [
        | inl on ↦ works s t (k.ring_of s t) refl on.0 on.1
        | inr down ↦ rests s t (k.ring_of s t) (elim down [ inl halted ↦ halted_rests (k.endpoint_state s t) halted | inr failed ↦ failed_rests (k.endpoint_state s t) failed ])
      ])

  pub command_rung : is_open (k.ring (command_id h)) ≡ true → is_named k ≡ true → Agrees h k unread (counted h (activated h w (command_id h)))
  command_rung opened on =
      subst (λ m. Agrees h m unread (counted h (activated h w (command_id h)))) (opens_same h k (command_id h) (open_held (k.ring (command_id h)) opened)) (command_agrees h is k unread w d g on)
