-- Events that were posted and will not be read: they change no more than where rings stand and what is known of slots
use Rattle.safety.proofs.UpperLaws.{◌&&◌, ◌||◌, not, ceiling, ceiling_within, given_count, is_crossing, is_step_given, is_way_given, rings_of, shape_allowed, [], ◌≡◌, ◌≤◌, ◌⊎◌, ◌∷◌, ◌∙◌, ℕ, false, List, refl, sym, ap, inl, inr, arith, subst, Block, kind, RingView, floor_number, Header, Read, IsHeader, shape_of, Known, learned, lenient, DriverKeeps, ArePossible, all_read, SameGiven, event_same, PassesNoMore, passes_both, behind_kept, event_on, given_count_still, given_count_near, Shape, last, last_from, last_most}
use Rattle.safety.specs.DriverRings.{IsDriverRing}
use Rattle.safety.proofs.DriverHistories.{kept_driver}

module _ (h : Header) where
  -- a ring of the driver: its floor isn't behind where it was, and nothing free is passed that wasn't
  pub record Further (k l : Known) (r : ℕ) : Type 0 where
    pub driver : IsDriverRing h r
    pub on : floor_number (k.ring r) ≤ floor_number (l.ring r)
    pub passes : PassesNoMore (shape_of h r) (k.ring r) (l.ring r)

  -- l is what is known when events are read too
  pub record Lost (k l : Known) : Type 0 where
    pub started : l.started ≡ k.started
    pub stopped : l.stopped ≡ k.stopped
    pub halt : l.halt ≡ k.halt
    pub memory : l.memory ≡ k.memory
    pub soiled : l.soiled ≡ k.soiled
    pub given : (r : ℕ) → SameGiven (k.ring r) (l.ring r)
    pub rings : (r : ℕ) → (l.ring r ≡ k.ring r) ⊎ Further k l r

  lost_none : (k : Known) → Lost k k
  lost_none k = record {
    started = refl;
    stopped = refl;
    halt = refl;
    memory = refl;
    soiled = refl;
    given = λ r. record { queue = refl; lengths = refl; given = refl; crossed = refl; withdrawn = refl; free = refl };
    rings = λ r. inl refl;
  }

  both_given : (u v w : RingView) → SameGiven u v → SameGiven v w → SameGiven u w
  both_given u v w a b = record {
    queue = b.queue ∙ a.queue;
    lengths = b.lengths ∙ a.lengths;
    given = b.given ∙ a.given;
    crossed = b.crossed ∙ a.crossed;
    withdrawn = b.withdrawn ∙ a.withdrawn;
    free = b.free ∙ a.free;
  }

  both_further : (k l m : Known) (r : ℕ) → (l.ring r ≡ k.ring r) ⊎ Further k l r → (m.ring r ≡ l.ring r) ⊎ Further l m r → (m.ring r ≡ k.ring r) ⊎ Further k m r
  both_further k l m r (inl same) (inl still) = inl (still ∙ same)
  both_further k l m r (inl same) (inr on) = inr (record {
    driver = on.driver;
    on = subst (λ v. floor_number v ≤ floor_number (m.ring r)) same on.on;
    passes = subst (λ v. PassesNoMore (shape_of h r) v (m.ring r)) same on.passes;
  })
  both_further k l m r (inr on) (inl still) = inr (record {
    driver = on.driver;
    on = subst (λ v. floor_number (k.ring r) ≤ floor_number v) (sym still) on.on;
    passes = subst (λ v. PassesNoMore (shape_of h r) (k.ring r) v) (sym still) on.passes;
  })
  both_further k l m r (inr one) (inr other) = inr (record {
    driver = one.driver;
    on = omega (arith, one.on, other.on);
    passes = passes_both (shape_of h r) (k.ring r) (l.ring r) (m.ring r) one.passes other.passes;
  })

  lost_both : (k l m : Known) → Lost k l → Lost l m → Lost k m
  lost_both k l m a b = record {
    started = b.started ∙ a.started;
    stopped = b.stopped ∙ a.stopped;
    halt = b.halt ∙ a.halt;
    memory = b.memory ∙ a.memory;
    soiled = b.soiled ∙ a.soiled;
    given = λ r. both_given (k.ring r) (l.ring r) (m.ring r) (a.given r) (b.given r);
    rings = λ r. both_further k l m r (a.rings r) (b.rings r);
  }

  module _ (is : IsHeader h) where
    lost_one : (k : Known) (e : Block) → DriverKeeps h k → lenient h k (Read e) ≡ [] → Lost k (learned h k (Read e))
    unfolding learned
    lost_one k e d may =
        let same = event_same h k (kind e) e in
        record {
          started = same.started;
          stopped = same.stopped;
          halt = same.halt;
          memory = same.memory;
          soiled = same.soiled;
          given = same.rings;
          rings = λ r. elim (event_on h is k d e may r) [
            | inl still ↦ inl still
            | inr on ↦ inr (record { driver = on.driver; on = on.on; passes = (behind_kept h is k d e may r on.driver).passes })
          ];
        }

    pub events_lost : (unread : List Block) (k : Known) → DriverKeeps h k → ArePossible h k unread → k.stopped ≡ false → Lost k (all_read h k unread)
    events_lost [] k d possible on = lost_none k
    events_lost (e ∷ unread) k d possible on =
        let l : Known = learned h k (Read e) in
        let one : Lost k l = lost_one k e d possible.0 in
        let still : l.stopped ≡ false = one.stopped ∙ on in
        lost_both k l (all_read h l unread) one (events_lost unread l (kept_driver h is k (Read e) d (possible.0, tt) still) possible.1 still)

-- what is given of a ring stays
step_same : (shape : Shape) (v w : RingView) → SameGiven v w → (p : ℕ) → is_step_given shape v p ≡ is_step_given shape w p
unfolding is_step_given is_way_given
step_same shape v w same p =
    ap (λ b. b && (not (is_crossing shape p) || v.crossed p)) (ap (λ f. f p) (sym same.given)) ∙ ap (λ b. w.given p && (not (is_crossing shape p) || b)) (ap (λ f. f p) (sym same.crossed))

module _ (h : Header) (is : IsHeader h) (k l : Known) (d : DriverKeeps h k) (e : DriverKeeps h l) (lost : Lost h k l) where
  count_same : (r : ℕ) → IsDriverRing h r → given_count (shape_of h r) (k.ring r) ≡ given_count (shape_of h r) (l.ring r)
  count_same r driver =
      let allowed = shape_allowed h is r driver in
      given_count_still (shape_of h r) (k.ring r) (l.ring r) (step_same (shape_of h r) (k.ring r) (l.ring r) (lost.given r))
      (given_count_near (shape_of h r) allowed k.memory (k.ring r) (rings_of h k d r driver)) (given_count_near (shape_of h r) allowed l.memory (l.ring r) (rings_of h l e r driver))

  -- the controller hasn't come further on a ring than it is held behind a reset
  pub come_within : (r : ℕ) → ceiling (shape_of h r) (l.ring r) ≤ last (shape_of h r) (k.ring r)
  come_within r =
      elim (lost.rings r) [
        | inl same ↦ omega (arith, ap (λ v. ceiling (shape_of h r) v) same, last_from (shape_of h r) (k.ring r))
        | inr on ↦
            let within = ceiling_within (shape_of h r) (shape_allowed h is r on.driver) l.memory (l.ring r) (rings_of h l e r on.driver) in
            last_most (shape_of h r) (k.ring r) (ceiling (shape_of h r) (l.ring r)) (omega (arith, within.1, count_same r on.driver))
            (λ p free below. (on.passes p (ap (λ f. f p) (lost.given r).free ∙ free)).1 below)
      ]

  -- nor is it behind the floor
  pub floor_on : (r : ℕ) → floor_number (k.ring r) ≤ floor_number (l.ring r)
  floor_on r =
      elim (lost.rings r) [
        | inl same ↦ omega (arith, ap (λ v. floor_number v) same)
        | inr on ↦ on.on
      ]
