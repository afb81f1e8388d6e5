-- A ring of which more is known while its pointer stays: what is said of it in the world stays
use Rattle.safety.proofs.Words.{Bool, ◌≡◌, ◌≤◌, ◌<◌, ◌+◌, ◌-◌, ◌∙◌, ℕ, suc, zero, refl, sym, data_at, take_at, Take, Unreported, true, List, map, Option, None, arith, ap, rules, range_with_len, Shape, Spot, address_of, number, rank, is_border, RingView, floor_number, ceiling, is_way_given, is_step_given, given_count_same, RingEvent, Newest, RingState, RingMatches, BoundRing, IsHeldMore, GivesMore, step_more}
use Rattle.safety.proofs.NoHarm.NoWait.{ceiling_open, ceiling_held}

-- from the floor on, and below the ceiling, the same positions hold the same values
abbrev pub KeepsValues : Shape → RingView → RingView → Type 0
KeepsValues shape v x = (q : ℕ) → floor_number v ≤ q → q < ceiling shape v → data_at x.queue q ≡ data_at v.queue q

-- the floor is the same, no less is given, what events may tell stays, and where descriptors begin, they still do
pub record RingGoesOn (shape : Shape) (v x : RingView) : Type 0 where
  pub floor : x.floor ≡ v.floor
  pub ceiling : ceiling shape v ≤ ceiling shape x
  pub more : GivesMore v x
  pub borders : (q : ℕ) → is_border v.lengths 0 q ≡ true → is_border x.lengths 0 q ≡ true
  pub held : v.held ≡ None → x.held ≡ None
  pub values : KeepsValues shape v x

-- wherever the floor is, and wherever the ring is held
pub newest_still : (shape : Shape) (v : RingView) (f : Spot) (o : Option ℕ) (n : ℕ) (events : List RingEvent) →
    Newest shape v n events → Newest shape (record v { floor = f; held = o }) n events
unfolding is_step_given is_way_given
newest_still shape v f o n x y = grind arith

-- a ring with another floor and another hold, below which the pointer stands as it did
pub held_from : (shape : Shape) (v : RingView) (s : RingState) (t f : Spot) (o : Option ℕ) (a : Bool) (c : ℕ) → RingMatches shape v s t → rank f ≤ rank t →
    number t ≤ ceiling shape (record v { floor = f; held = o }) → (a ≡ true → o ≡ None) → RingMatches shape (record v { floor = f; held = o }) (record s { active = a; reported = c }) t
unfolding is_way_given
held_from shape v s t f o a c m reached below opened = assumption (m, newest_still shape v f o (number t) s.events m.newest)

map_same : {X : Type 0} (f g : ℕ → X) (a n : ℕ) → ((q : ℕ) → a ≤ q → q < a + n → f q ≡ g q) → map f (range_with_len a n) ≡ map g (range_with_len a n)
map_same f g a zero same = refl
map_same f g a (suc n) same = grind (arith, map_same f g (a + 1) n)

module _ (shape : Shape) (v x : RingView) (g : RingGoesOn shape v x) (s : RingState) where
  pub matches_on : (t : Spot) → RingMatches shape v s t → RingMatches shape x s t
  unfolding is_way_given
  matches_on t m = record {
    is_spot = m.is_spot;
    pointer = m.pointer;
    cycle = m.cycle;
    reached = omega (arith, m.reached, ap rank g.floor);
    below = omega (arith, m.below, g.ceiling);
    way = λ q at. (search rules);
    opened = λ on. g.held (m.opened on);
    next = m.next;
    newest = grind (arith, step_more, g.more, g.borders);
    in_order = m.in_order;
    as_declared = m.as_declared;
  }

  unreported_on : (t : Spot) → RingMatches shape v s t → Unreported shape v s t → Unreported shape x s t
  unreported_on t m u = record {
    takes = u.takes
        ∙ map_same (take_at shape v.queue) (take_at shape x.queue) (floor_number v) (number t - floor_number v) (λ q from below. ap (λ o. let y : Take = record { address = address_of shape q; value = o } in y) (sym (g.values q from (omega (arith, m.below)))))
        ∙ ap (λ f. map (take_at shape x.queue) (range_with_len (number f) (number t - number f))) (sym g.floor);
    most = u.most;
  }

  pub bound_on : (ring_of : ℕ → ℕ → Option ℕ) (r : ℕ) → BoundRing shape ring_of v s r → BoundRing shape ring_of x s r
  bound_on ring_of r b = record { slot = b.slot; index = b.index; bound = b.bound; spot = b.spot; matches = matches_on b.spot b.matches; takes = unreported_on b.spot b.matches b.takes }

pub held_goes_on : (shape : Shape) (v : RingView) (o : Option ℕ) → IsHeldMore v.held o → RingGoesOn shape v (record v { held = o })
unfolding is_step_given is_way_given
held_goes_on shape v o more = search (rules, ceiling_open, given_count_same, ceiling_held)
