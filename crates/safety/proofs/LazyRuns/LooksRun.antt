-- The looks for an event, at one ring after the other, are a run: each ring comes to its goal
use Rattle.safety.proofs.UpperLaws.{[], ◌≡◌, ◌+◌, ◌-◌, ◌*◌, ◌<◌, ◌≤◌, ◌∷◌, ◌++◌, ◌∙◌, ℕ, suc, zero, List, filter, map, nat_lt, reverse, arith, refl, sym, ap, subst, inl, inr, lt-ltb, le-ltb, append_assoc, rules, cases_lt, cond-true, cond-false, reverse-append, Spot, Shape, IsSpot, number, rank, next, spots_from, rank_least, rank_most, same_rank, next_later, next_least, Header, Row, Step, Look, IsHeader, shape_of, World, counted, Known, DriverKeeps, Agrees, Runs, look_runs, false, Some, ◌≢◌, ◌==◌, ◌&&◌, if◌then◌else◌, Bool, true, is_some, ne_eqb, cases_Bool, cases_eq, and_left, and_right, Block, cycle, kind, is_link, Data, Link, after, command_id, RingState, RingMatches, state_of, Takeable, Crossable, takeable, crossable, ring_shape, only_crossed, only_taken, only_begun, behind_link, behind_block, TakeDone, CrossDone, take_done, cross_done, block_no_link, link_is, OnlyRing, stands_at, block_found, not, eq-eqb, IsDriverRing, Stands, further, looks_to, spots_before, crossed, looked, looked_at, seen_by_look, looks_taken, taken_on, steps_made, flat_map, put, RingSpot, put_at, put_off, lazy_brought, lazy_further, step_reached, agrees_now, StandsAt, Leads, Past, MayBring, Looked, LooksLeave, LooksLaw, RingStands, ring_stands, commands_stand, Traced, is_done, until_made}
use Rattle.safety.proofs.Looks.LookKinds.{seen}
use Rattle.safety.proofs.DriverHistories.{run_keeps}

-- The looks of the lazy schedule at one ring are a run: by induction over the spots on the way

-- One look at what is given: the ring stands at its next spot, and all else stays

-- A look at what is given moves the pointer on: a block that is given is taken, and a Link that is given is followed
module _ (h : Header) (is : IsHeader h) (k : Known) (w : World) (d : DriverKeeps h k) (s : Stands h k w) (r : ℕ) (ring : IsDriverRing h r) (on : w.is_active r ≡ true) where
  shows_cycle : cycle (seen w r) ≡ w.cycle_state r → not (cycle (seen w r) == w.cycle_state r) ≡ false
  shows_cycle same = ap not (eq-eqb (cycle (seen w r)) (w.cycle_state r) same)

  pub block_taken : (q : ℕ) → RingMatches (shape_of h r) (k.ring r) (state_of w r) (Data q) → (k.ring r).given q ≡ true → (r == command_id h && is_some w.under_way) ≡ false →
      looked h h w r ≡ Some (looks_taken h (seen_by_look h w r) r (seen w r))
  unfolding looked looked_at
  block_taken q m given free =
      let t = takeable (shape_of h r) (ring_shape h is r ring).is k.memory (k.ring r) (d.rings r ring) q (stands_at h is k w d s r (Data q) ring m) given ((d.rings r ring).open_restored (m.opened on) q) in
      simp (on, shows_cycle (ap (λ b. cycle b) (block_found h is k w d s r (Data q) ring m) ∙ t.cycle_is ∙ sym m.cycle), block_no_link h is k w d s r ring q m t, free)

  pub link_followed : (q : ℕ) → RingMatches (shape_of h r) (k.ring r) (state_of w r) (Link q) → (k.ring r).crossed q ≡ true →
      looked h h w r ≡ Some (crossed h (seen_by_look h w r) r (seen w r))
  unfolding looked looked_at
  link_followed q m given =
      let c = crossable (shape_of h r) (ring_shape h is r ring).is k.memory (k.ring r) (d.rings r ring) q (stands_at h is k w d s r (Link q) ring m) given in
      simp (on, shows_cycle (ap (λ b. cycle b) (block_found h is k w d s r (Link q) ring m) ∙ c.cycle_is ∙ sym m.cycle), link_is h is k w d s r ring q m c)

either_only : (w x y : World) (r : ℕ) (s : RingState) (c : Bool) → OnlyRing w x r s → OnlyRing w y r s → OnlyRing w (if c then x else y) r s
either_only w x y r s true a b = a
either_only w x y r s false a b = b

module _ (h : Header) where
  only_taken_any : (w : World) (r : ℕ) (b : Block) → OnlyRing w (looks_taken h (seen_by_look h w r) r b) r (behind_block h w r b)
  unfolding looks_taken
  only_taken_any w r b = search (rules, either_only, only_begun, only_taken)

  taken_elsewhere : (w : World) (r : ℕ) (b : Block) → r ≢ command_id h → (looks_taken h (seen_by_look h w r) r b).under_way ≡ w.under_way
  unfolding looks_taken taken_on seen_by_look
  taken_elsewhere w r b other = ap (λ (x : World). x.under_way) (cond-false (r == command_id h) _ _ (ne_eqb r (command_id h) other))

  -- what a look leaves, from what its ring is then
  leaves_from : (w v : World) (r : ℕ) (s : RingState) → OnlyRing w v r s → s.active ≡ w.is_active r → s.reported ≡ w.reported r →
      (r ≢ command_id h → v.under_way ≡ w.under_way) → LooksLeave h w (counted h v) r
  unfolding counted
  leaves_from w v r s o active reported under_way = search rules

  pub record LookDone (w : World) (r : ℕ) (s : Spot) : Type 0 where
    pub world : World
    pub made : looked h h w r ≡ Some world
    pub stands : StandsAt h (counted h world) r (next (shape_of h r) s)
    pub leaves : LooksLeave h w (counted h world) r

  stands_from : (k : Known) (w v : World) (r : ℕ) (x : RingState) (t : Spot) → OnlyRing w v r x → RingMatches (shape_of h r) (k.ring r) x t → StandsAt h (counted h v) r t
  unfolding counted
  stands_from k w v r x t o m = search (rules, shape_of, state_of, cycle, next)

  module _ (is : IsHeader h) (k : Known) (w : World) (d : DriverKeeps h k) (g : Agrees h k [] w) (r : ℕ) where
    take_look : (q : ℕ) (t : Spot) → rank (Data q) < rank t → StandsAt h w r (Data q) → MayBring h k w r t → LookDone w r (Data q)
    take_look q t before at may =
        let b : Block = seen w r in
        let m : RingStands h is k w d g r (Data q) = ring_stands h is k w d g r (Data q) may.active at in
        let given : (k.ring r).given q ≡ true = may.reach.passed q (omega (arith, before, rank_most t)) in
        let can : Takeable (shape_of h r) k.memory (k.ring r) q =
        takeable (shape_of h r) (ring_shape h is r m.ring).is k.memory (k.ring r) (d.rings r m.ring) q (stands_at h is k w d g.stands r (Data q) m.ring m.matches) given
        ((d.rings r m.ring).open_restored (m.matches.opened may.active) q) in
        let same : cycle b ≡ w.cycle_state r = ap (λ x. cycle x) (block_found h is k w d g.stands r (Data q) m.ring m.matches) ∙ can.cycle_is ∙ sym m.matches.cycle in
        let plain : is_link (kind b) ≡ false = block_no_link h is k w d g.stands r m.ring q m.matches can in
        let done : TakeDone h is k w d g.stands r m.ring (Data q) = take_done h is k w d g.stands r m.ring (Data q) m.matches may.active same plain in
        let here : done.number ≡ q = ap number (sym done.was) in
        let v : World = looks_taken h (seen_by_look h w r) r b in
        let o : OnlyRing w v r (behind_block h w r b) = only_taken_any w r b in
        let made : looked h h w r ≡ Some v = block_taken h is k w d g.stands r m.ring may.active q m.matches given (search (rules, arith, cases_eq, command_id, and_left, is_some, ne_eqb, cases_Bool, commands_stand, and_right)) in
        record {
          world = v;
          made = made;
          stands = stands_from k w v r (behind_block h w r b) (after (shape_of h r) q) o (subst (λ n. RingMatches (shape_of h r) (k.ring r) (behind_block h w r b) (after (shape_of h r) n)) here done.matches);
          leaves = leaves_from w v r (behind_block h w r b) o refl refl (taken_elsewhere w r b);
        }

    link_look : (q : ℕ) (t : Spot) → rank (Link q) < rank t → StandsAt h w r (Link q) → MayBring h k w r t → LookDone w r (Link q)
    unfolding crossed seen_by_look
    link_look q t before at may =
        let b : Block = seen w r in
        let m : RingStands h is k w d g r (Link q) = ring_stands h is k w d g r (Link q) may.active at in
        let given : (k.ring r).crossed q ≡ true = may.reach.passed_links q at.is_spot before in
        let can : Crossable (shape_of h r) k.memory (k.ring r) q =
        crossable (shape_of h r) (ring_shape h is r m.ring).is k.memory (k.ring r) (d.rings r m.ring) q (stands_at h is k w d g.stands r (Link q) m.ring m.matches) given in
        let same : cycle b ≡ w.cycle_state r = ap (λ x. cycle x) (block_found h is k w d g.stands r (Link q) m.ring m.matches) ∙ can.cycle_is ∙ sym m.matches.cycle in
        let link : is_link (kind b) ≡ true = link_is h is k w d g.stands r m.ring q m.matches can in
        let done : CrossDone h is k w d g.stands r m.ring (Link q) = cross_done h is k w d g.stands r m.ring (Link q) m.matches may.active same link in
        let here : done.number ≡ q = ap number (sym done.was) in
        let v : World = crossed h (seen_by_look h w r) r b in
        let o : OnlyRing w v r (behind_link h w r b) = only_crossed h w r b in
        let made : looked h h w r ≡ Some v = link_followed h is k w d g.stands r m.ring may.active q m.matches given in
        record {
          world = v;
          made = made;
          stands = stands_from k w v r (behind_link h w r b) (Data q) o (subst (λ n. RingMatches (shape_of h r) (k.ring r) (behind_link h w r b) (Data n)) here done.matches);
          leaves = leaves_from w v r (behind_link h w r b) o refl refl (λ other. refl);
        }

    pub one_look : (s t : Spot) → rank s < rank t → StandsAt h w r s → MayBring h k w r t → LookDone w r s
    one_look (Data q) t before at may = take_look q t before at may
    one_look (Link q) t before at may = link_look q t before at may

-- from a spot on none is before t, where that one isn't
none_before : (shape : Shape) (t s : Spot) (n : ℕ) → rank t ≤ rank s → filter (λ u. nat_lt (rank u) (rank t)) (spots_from shape s n) ≡ []
none_before shape t s zero le = refl
none_before shape t s (suc n) le = simp (le-ltb (rank s) (rank t) le) (none_before shape t (next shape s) n (omega (arith, le, next_later shape s)))

one_before : (shape : Shape) (t s : Spot) (n : ℕ) → rank s < rank t →
    filter (λ u. nat_lt (rank u) (rank t)) (spots_from shape s (suc n)) ≡ s ∷ filter (λ u. nat_lt (rank u) (rank t)) (spots_from shape (next shape s) n)
one_before shape t s n lt = simp (lt-ltb (rank s) (rank t) lt)

-- where a ring stands that was brought to a spot
pub further_then : (s t : Spot) → rank s < rank t → further s t ≡ t
unfolding further
further_then s t lt = cond-true _ t s (lt-ltb (rank s) (rank t) lt)

pub further_not : (s t : Spot) → rank t ≤ rank s → further s t ≡ s
unfolding further
further_not s t le = cond-false _ t s (le-ltb (rank s) (rank t) le)

-- the first of the steps in their order is made first
pub first_made : (s : Step) (steps made : List Step) → reverse (s ∷ steps) ++ made ≡ reverse steps ++ (s ∷ made)
first_made s steps made = ap (λ l. l ++ made) (reverse-append (s ∷ []) steps) ∙ append_assoc (reverse steps) (s ∷ []) made

module _ (h : Header) where
  leaves_then : (w v x : World) (r : ℕ) → LooksLeave h w v r → LooksLeave h v x r → LooksLeave h w x r
  leaves_then w v x r a b = search rules

  -- the looks on n spots from s on, where they are before t
  looks_on : ℕ → Spot → Spot → ℕ → List Step
  looks_on r t s n = map (λ u. Look r) (filter (λ u. nat_lt (rank u) (rank t)) (spots_from (shape_of h r) s n))

  no_looks : (r : ℕ) (t s : Spot) (n : ℕ) → rank t ≤ rank s → looks_on r t s n ≡ []
  unfolding looks_on
  no_looks r t s n le = ap (λ l. map (λ u. Look r) l) (none_before (shape_of h r) t s n le)

  more_looks : (r : ℕ) (t s : Spot) (n : ℕ) → rank s < rank t → looks_on r t s (suc n) ≡ Look r ∷ looks_on r t (next (shape_of h r) s) n
  unfolding looks_on
  more_looks r t s n lt = ap (λ l. map (λ u. Look r) l) (one_before (shape_of h r) t s n lt)

  module _ (is : IsHeader h) (past : Past h) (to_come : List Row) (r : ℕ) where
    -- no look is made
    stays : (made : List Step) (w : World) (t : Spot) (steps : List Step) → steps ≡ [] → Leads h past made to_come w → Runs h past.known w → StandsAt h w r t → Looked h past to_come made w r t steps
    stays made w t steps none run runs at = search (rules, reverse)

    still_may : (w v : World) (t : Spot) → LooksLeave h w v r → MayBring h past.known w r t → MayBring h past.known v r t
    still_may w v t leaves may = record { active = leaves.active ∙ may.active; reach = may.reach; one_command = may.one_command }

    brings : (n : ℕ) (made : List Step) (w : World) (s t : Spot) → IsSpot (shape_of h r) t → rank s ≤ rank t → rank t < rank s + n → Leads h past made to_come w → Runs h past.known w → w.posted ≡ w.reads →
        w.halted ≡ false → StandsAt h w r s → (rank s < rank t → MayBring h past.known w r t) → Looked h past to_come made w r t (looks_on r t s n)
    unfolding steps_made
    brings zero made w s t is_spot le near run runs read running at may = absurd (omega (arith, le, near))
    brings (suc n) made w s t is_spot le near run runs read running at may =
        elim (cases_lt (rank s) (rank t)) [
          | inr same ↦
              let here : s ≡ t = same_rank s t (omega (arith, le, same)) in
              stays made w t (looks_on r t s (suc n)) (no_looks r t s (suc n) (omega (arith, same))) run runs (subst (λ u. StandsAt h w r u) here at)
          | inl before ↦
              let k : Known = past.known in
              let d : DriverKeeps h k = past.keeps in
              let g : Agrees h k [] w = agrees_now h past.known w runs read in
              let one : LookDone h w r s = one_look h is k w d g r s t before at (may before) in
              let v : World = counted h one.world in
              let then_run : Leads h past (Look r ∷ made) to_come v = step_reached h past to_come made w one.world (Look r) (λ e. cc) (until_made h w one.world (looked h h w r) running (g.stands.stopped ∙ runs.on) one.made) run in
              let then_runs : Runs h past.known v = look_runs h is past.known w one.world r runs (run_keeps h is k w d runs) one.made in
              let later : rank s < rank (next (shape_of h r) s) = next_later (shape_of h r) s in
              let rest : Looked h past to_come (Look r ∷ made) v r t (looks_on r t (next (shape_of h r) s) n) =
              brings n (Look r ∷ made) v (next (shape_of h r) s) t is_spot (next_least (shape_of h r) s t is_spot before) (omega (arith, near, later)) then_run then_runs
              (one.leaves.posted ∙ read ∙ sym one.leaves.reads) (one.leaves.halted ∙ running) one.stands (λ on. still_may w v t one.leaves (may before)) in
              record {
                world = rest.world;
                run = subst (λ l. Leads h past (reverse l ++ made) to_come rest.world) (sym (more_looks r t s n before))
                    (subst (λ l. Leads h past l to_come rest.world) (sym (first_made (Look r) (looks_on r t (next (shape_of h r) s) n) made)) rest.run);
                runs = rest.runs;
                stands = rest.stands;
                leaves = leaves_then w v rest.world r one.leaves rest.leaves;
              }
        ]

  looks_are : (pointers : ℕ → Spot) (r : ℕ) (t : Spot) → looks_to h pointers (record { ring = r; spot = t }) ≡ looks_on r t (pointers r) (2 * (number t - number (pointers r)) + 2)
  unfolding looks_to spots_before looks_on
  looks_are pointers r t = refl

  pub looks_law : LooksLaw h
  looks_law past to_come made w pointers goal is run runs read running at may =
      let r : ℕ = goal.ring in
      let t : Spot = goal.spot in
      let s : Spot = pointers goal.ring in
      let n : ℕ = 2 * (number t - number s) + 2 in
      elim (cases_lt (rank s) (rank t)) [
        | inl before ↦
            subst (λ u. Looked h past to_come made w r u (looks_to h pointers goal)) (sym (further_then s t before))
            (subst (λ l. Looked h past to_come made w r t l) (sym (looks_are pointers r t))
            (brings is past to_come r n made w s t (may before).reach.is_spot (omega (arith, before)) (omega (arith, rank_most t, rank_least s)) run runs read running at may))
        | inr behind ↦
            subst (λ u. Looked h past to_come made w r u (looks_to h pointers goal)) (sym (further_not s t (omega (arith, behind))))
            (stays is past to_come r made w s (looks_to h pointers goal) (looks_are pointers r t ∙ no_looks r t s n (omega (arith, behind))) run runs at)
      ]

module _ (h : Header) where
  -- a ring stands where it is said to, and may be brought to its goal, if that is further
  pub record Fits (k : Known) (w : World) (pointers : ℕ → Spot) (goal : RingSpot) : Type 0 where
    pub stands : StandsAt h w goal.ring (pointers goal.ring)
    pub may : rank (pointers goal.ring) < rank goal.spot → MayBring h k w goal.ring goal.spot

  abbrev pub AllFit : Known → World → (ℕ → Spot) → List RingSpot → Type 0
  AllFit k w pointers [] = Unit {0}
  AllFit k w pointers (goal ∷ rest) = Fits k w pointers goal × AllFit k w pointers rest

  -- none of the goals is on ring r
  abbrev pub AreElsewhere : ℕ → List RingSpot → Type 0
  AreElsewhere r [] = Unit {0}
  AreElsewhere r (goal ∷ rest) = (goal.ring ≢ r) × AreElsewhere r rest

  -- no two goals are on one ring
  abbrev pub AreApart : List RingSpot → Type 0
  AreApart [] = Unit {0}
  AreApart (goal ∷ rest) = AreElsewhere goal.ring rest × AreApart rest

  pub record AllBrought (past : Past h) (to_come : List Row) (made : List Step) (w : World) (now : ℕ → Spot) (goals : List RingSpot) (looks : List Step) : Type 0 where
    pub world : World
    pub run : Leads h past (reverse looks ++ made) to_come world
    pub traced : Traced h past.known (lazy_brought h now goals) world

  pub stands_same : (w v : World) (q : ℕ) (t : Spot) → state_of v q ≡ state_of w q → StandsAt h w q t → StandsAt h v q t
  stands_same w v q t same at = search rules

  module _ (k : Known) (w v : World) (now : ℕ → Spot) (r : ℕ) (t : Spot) (there : StandsAt h v r t) (leaves : LooksLeave h w v r) where
    moved_stands : (q : ℕ) → StandsAt h w q (now q) → StandsAt h v q (put now r t q)
    moved_stands q at = search (rules, put_at, put_off, stands_same)

    still_active : (q : ℕ) → v.is_active q ≡ w.is_active q
    still_active q = search rules

    moved_on : Runs h k v → Traced h k now w → Traced h k (put now r t) v
    moved_on runs trace = record {
      runs = runs;
      all_read = leaves.posted ∙ trace.all_read ∙ sym leaves.reads;
      halted = leaves.halted ∙ trace.halted;
      rings = λ s i q at. moved_stands q (trace.rings s i q at);
      active = λ s i q at opened. still_active q ∙ trace.active s i q at opened;
      command = λ on. moved_stands (command_id h) (trace.command on);
      command_active = λ on opened. still_active (command_id h) ∙ trace.command_active on opened;
    }

  same_spot_looks : (pointers now : ℕ → Spot) (goal : RingSpot) → now goal.ring ≡ pointers goal.ring → looks_to h now goal ≡ looks_to h pointers goal
  unfolding looks_to
  same_spot_looks pointers now goal same = ap (λ s. map (λ t. Look goal.ring) (spots_before (shape_of h goal.ring) s goal.spot)) same

  -- the looks at one ring leave the goals on others as they are
  module _ (k : Known) (w v : World) (now : ℕ → Spot) (r : ℕ) (t : Spot) (there : StandsAt h v r t) (leaves : LooksLeave h w v r) where
    all_fit_still : (goals : List RingSpot) → AreElsewhere r goals → AllFit k w now goals → AllFit k v (put now r t) goals
    all_fit_still [] other fits = tt
    all_fit_still (goal ∷ rest) other fits = ((search (rules, put_off, moved_stands, still_active)), all_fit_still rest other.1 fits.1)

  abbrev AreSame : (ℕ → Spot) → (ℕ → Spot) → List RingSpot → Type 0
  AreSame pointers now [] = Unit {0}
  AreSame pointers now (goal ∷ rest) = (now goal.ring ≡ pointers goal.ring) × AreSame pointers now rest

  same_still : (pointers now : ℕ → Spot) (r : ℕ) (t : Spot) (goals : List RingSpot) → AreElsewhere r goals → AreSame pointers now goals → AreSame pointers (put now r t) goals
  same_still pointers now r t [] other same = tt
  same_still pointers now r t (goal ∷ rest) other same = (put_off now r t goal.ring other.0 ∙ same.0, same_still pointers now r t rest other.1 same.1)

  all_same : (pointers : ℕ → Spot) (goals : List RingSpot) → AreSame pointers pointers goals
  all_same pointers [] = tt
  all_same pointers (goal ∷ rest) = (refl, all_same pointers rest)

  two_lists : (a b made : List Step) → reverse (a ++ b) ++ made ≡ reverse b ++ (reverse a ++ made)
  two_lists a b made = ap (λ l. l ++ made) (reverse-append a b) ∙ append_assoc (reverse b) (reverse a) made

  module _ (is : IsHeader h) (past : Past h) (to_come : List Row) (pointers : ℕ → Spot) (running : is_done past.known.halt ≡ false) where
    all_brought : (goals : List RingSpot) (made : List Step) (w : World) (now : ℕ → Spot) → AreSame pointers now goals → AreApart goals → AllFit past.known w now goals →
        Leads h past made to_come w → Traced h past.known now w → AllBrought past to_come made w now goals (flat_map (looks_to h pointers) goals)
    unfolding lazy_brought
    all_brought [] made w now same apart fits run trace = record { world = w; run = run; traced = trace }
    all_brought (goal ∷ rest) made w now same apart fits run trace =
        let r : ℕ = goal.ring in
        let t : Spot = lazy_further (now r) goal.spot in
        let looks : List Step = looks_to h pointers goal in
        let one : Looked h past to_come made w r t looks =
        subst (λ l. Looked h past to_come made w r t l) (same_spot_looks pointers now goal same.0)
        (looks_law h past to_come made w now goal is run trace.runs trace.all_read (trace.halted ∙ running) fits.0.stands fits.0.may) in
        let v : World = one.world in
        let on : AllBrought past to_come (reverse looks ++ made) v (put now r t) rest (flat_map (looks_to h pointers) rest) =
        all_brought rest (reverse looks ++ made) v (put now r t) (same_still pointers now r t rest apart.0 same.1) apart.1
        (all_fit_still past.known w v now r t one.stands one.leaves rest apart.0 fits.1) one.run
        (moved_on past.known w v now r t one.stands one.leaves one.runs trace) in
        record {
          world = on.world;
          run = subst (λ l. Leads h past l to_come on.world) (sym (two_lists looks (flat_map (looks_to h pointers) rest) made)) on.run;
          traced = on.traced;
        }

  -- goals on rings apart are reached one after the other
  pub goals_reached : IsHeader h → (past : Past h) (to_come : List Row) (made : List Step) (w : World) (pointers : ℕ → Spot) (goals : List RingSpot) → is_done past.known.halt ≡ false → AreApart goals →
      AllFit past.known w pointers goals → Leads h past made to_come w → Traced h past.known pointers w → AllBrought past to_come made w pointers goals (flat_map (looks_to h pointers) goals)
  goals_reached is past to_come made w pointers goals running apart fits run trace = all_brought is past to_come pointers running goals made w pointers (all_same pointers goals) apart fits run trace
