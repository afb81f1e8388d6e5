-- What a Transfer Event asks for and teaches, and that the controller can report it
use Rattle.safety.proofs.UpperLaws.{spot_named, Take, take_at, names, names_value, names_address, by_address, IsValued, spot_ahead, spot_reached, IsAhead, Data, has_event_data, told_same, code_posted, reported_on, and_right, cond-false, code_told, [], ◌≡◌, ◌≢◌, ◌+◌, ◌≤◌, ◌||◌, ◌∷◌, ◌∙◌, ℕ, suc, nat_lt, true, false, List, Some, arith, refl, sym, ap, subst, inl, inr, lt-ltb, le-ltb, rules, cases_lt, cond-true, false≢true, Block, kind, slot, endpoint, is_transfer_event, is_success, is_halting, is_trb_error, is_stopping, Spot, Shape, number, rank, after, Reaches, Holds, is_open, same_rank, Header, Row, Read, shape_of, Known, RingSpot, on_ring, event_read, learned, passed, broken_off, stopped_at, transferred, transferred_at, transfer_read, ring_here, learned_read, put_at, put_off, transfer_kind, TransferLeaves, transferred_leaves, with_reads, behind_blocks, further, taken_up_to, report_goals, goals, brought, ◌-◌, ◌<◌, ◌&&◌, zero, Bool, length, map, Option, None, position, get_or, eq-eqb, range_with_len, cases_Bool, and_from, not_from_false, length-map-range_with_len, get_or-map-range_with_len, put, put_pair, IsBlock, pointer, spot_address, declared, floor_number, named, RingKeeps, position-None, named_spot-Some, EndpointState, Halted, Error, is_running, IsHeader, command_id, World, unreported, lenient, IsDriverRing, DriverKeeps, state_of, BoundRing, Agrees, transfer_driver, transfer_not_command, number_after, PostKeeps, post_keeps, open_takes, stored, stored_block, can_post, names_last, posts_posted, report_code, report_error, report_success, reported, with_reported, TransferFacts, NamesBlock, StandsAt, may_post, named_value}
use Rattle.std.proofs.Common.{option_map}
use Rattle.safety.proofs.LazyRuns.PostStep.{EventLearns, ReportLeaves}

-- For a Transfer Event the schedule brings its ring behind the block that it names, and what is known of the ring then

-- ---- spots

pub further_is : (s t : Spot) → rank s ≤ rank t → further s t ≡ t
unfolding further
further_is s t near = search (rules, cases_lt, cond-true, nat_lt, lt-ltb, cond-false, le-ltb, same_rank)

behind_next : (shape : Shape) (p n : ℕ) → n ≡ suc p → behind_blocks shape n ≡ after shape p
unfolding behind_blocks
behind_next shape p n same = ap (λ m. behind_blocks shape m) same

module _ (h : Header) where
  pub taken_behind : (r p : ℕ) → taken_up_to h r (p + 1) ≡ record { ring = r; spot = after (shape_of h r) p }
  unfolding taken_up_to
  taken_behind r p = ap (λ t. let at : RingSpot = record { ring = r; spot = t } in at) (behind_next (shape_of h r) p (p + 1) (omega arith))

  pub brought_here : (pointers : ℕ → Spot) (r : ℕ) (t : Spot) → rank (pointers r) ≤ rank t → brought h pointers (record { ring = r; spot = t } ∷ []) r ≡ t
  unfolding brought
  brought_here pointers r t near = put_at pointers r (further (pointers r) t) ∙ further_is (pointers r) t near

  pub brought_off : (pointers : ℕ → Spot) (r q : ℕ) (t : Spot) → q ≢ r → brought h pointers (record { ring = r; spot = t } ∷ []) q ≡ pointers q
  unfolding brought
  brought_off pointers r q t other = put_off pointers r (further (pointers r) t) q other

  module _ (k : Known) (b : Block) (transfer : is_transfer_event (kind b) ≡ true) (f : TransferFacts h k b) where
    pub goals_are : (later : List Row) → goals h k later (kind b) b ≡ report_goals h k later b (Some (record { ring = f.ring; spot = f.spot }))
    unfolding goals
    goals_are later = ap (λ t. goals h k later t b) (transfer_kind (kind b) transfer) ∙ ap (λ o. report_goals h k later b o) f.at

    pub block_goal : (later : List Row) (n : NamesBlock h k f.ring f.spot) → is_stopping (code_told h k b) ≡ false →
        goals h k later (kind b) b ≡ record { ring = f.ring; spot = after (shape_of h f.ring) n.position } ∷ []
    unfolding report_goals
    block_goal later n goes_on = grind (arith, goals_are, cond-false, is_stopping, code_told, taken_up_to, number, taken_behind)

    -- ---- what is known behind it

    pub read_is : learned h k (Read b) ≡ with_reads (transferred h k (code_told h k b) (slot b) (endpoint b) f.ring f.spot) (k.reads + 1)
    unfolding event_read transfer_read transferred_at
    read_is =
        learned_read h k b ∙ ap (λ m. with_reads m (k.reads + 1))
        (ap (λ t. event_read h k t b) (transfer_kind (kind b) transfer) ∙ ap (λ o. transferred_at h k b o) f.at)

    learns_at : (t : Spot) (l : Known) → learned h k (Read b) ≡ with_reads l (k.reads + 1) → TransferLeaves k l (slot b) (endpoint b) f.ring → (l.ring f.ring).floor ≡ t →
        EventLearns h k (learned h k (Read b)) f.ring t
    learns_at t l same leaves floor =
        subst (λ m. EventLearns h k m f.ring t) (sym same) (record { ring_of = leaves.ring_of; floor = floor; others = leaves.others })

    pub learns : (t : Spot) → ((transferred h k (code_told h k b) (slot b) (endpoint b) f.ring f.spot).ring f.ring).floor ≡ t → EventLearns h k (learned h k (Read b)) f.ring t
    unfolding transferred passed broken_off stopped_at on_ring
    learns t floor = search (rules, learns_at, transferred, code_told, slot, endpoint, read_is, transferred_leaves)

    -- by the code: where the floor is then, and whether the ring is held
    module _ (c s i r : ℕ) (t : Spot) where
      pub success_floor : is_success c ≡ true → ((transferred h k c s i r t).ring r).floor ≡ after (shape_of h r) (number t)
      unfolding transferred passed
      success_floor success =
          ap (λ (l : Known). (l.ring r).floor) (cond-true (is_success c) (passed h k r t) _ success) ∙ ap (λ v. v.floor) (ring_here h k r (Reaches (after (shape_of h r) (number t))))

      -- held, with the floor at a spot
      pub record IsHeldAt (l : Known) (u : Spot) : Type 0 where
        pub floor : (l.ring r).floor ≡ u
        pub held : is_open (l.ring r) ≡ false

      broken_ring : (l : Known) → l.ring ≡ (on_ring h (passed h k r t) r (Holds (number t + 1))).ring → IsHeldAt l (after (shape_of h r) (number t))
      unfolding passed is_open
      broken_ring l same =
          let there = ap (λ g. g r) same ∙ ring_here h (passed h k r t) r (Holds (number t + 1)) in
          record { floor = ap (λ v. v.floor) there ∙ ap (λ v. v.floor) (ring_here h k r (Reaches (after (shape_of h r) (number t)))); held = ap (λ v. is_open v) there }

      pub error_ring : is_success c ≡ false → (is_halting c || is_trb_error c) ≡ true → IsHeldAt (transferred h k c s i r t) (after (shape_of h r) (number t))
      unfolding transferred broken_off
      error_ring fails breaks = search (rules, cond-false, broken_ring, false≢true)

      pub stop_ring : is_success c ≡ false → is_halting c ≡ false → is_trb_error c ≡ false → is_stopping c ≡ true → IsHeldAt (transferred h k c s i r t) t
      unfolding transferred stopped_at is_open
      stop_ring fails quiet fine stopping = search (rules, ring_here, cond-false, cond-true)

-- an element that passes has a first one
first_found : {X : Type 0} (test : X → Bool) (xs : List X) (i : ℕ) (d : X) → i < length xs → test (get_or xs i d) ≡ true → (n : ℕ) × (position test xs ≡ Some n)
first_found test xs i d inside passes = by (position test xs) refl
  where
    by : (o : Option ℕ) → position test xs ≡ o → (n : ℕ) × (position test xs ≡ Some n)
    by (Some n) at = (n, at)
    by None at = absurd (false≢true (sym (position-None test xs i d at inside) ∙ passes))

not_both : (x y : Bool) → (x ≡ true → y ≡ false) → (x && y) ≡ false
not_both x y other = grind arith

-- an event names the last of these takes, where by a value it names none before it
last_of_range : (b : Block) (f : ℕ → Take) (from n : ℕ) → names b (f (from + n)) ≡ true → (has_event_data b ≡ true → (q : ℕ) → from ≤ q → q < from + n → names b (f q) ≡ false) →
    names_last b (map f (range_with_len from (suc n))) ≡ true
unfolding names_last
last_of_range b f from zero at first = ap (λ q. names b (f q)) (omega arith) ∙ at
last_of_range b f from (suc n) at first =
    and_from _ _ (not_from_false _ (not_both (has_event_data b) (names b (f from)) (λ tells. first tells from (omega arith) (omega arith))))
    (last_of_range b f (from + 1) n (ap (λ q. names b (f q)) (omega arith) ∙ at) (λ tells q low below. first tells q (omega arith) (omega arith)))

same_position : (p q : ℕ) → Data p ≡ Data q → p ≡ q
same_position p q e = cc

module _ (h : Header) where
  -- the report of an event on ring r
  pub record Reports (w : World) (b : Block) (r : ℕ) : Type 0 where
    pub world : World
    pub at : reported h w b ≡ Some world
    pub leaves : ReportLeaves h w world b r

  module _ (is : IsHeader h) (k : Known) (w : World) (b : Block) (block : IsBlock b) (d : DriverKeeps h k) (g : Agrees h k [] w) (clean : lenient h k (Read b) ≡ []) (transfer : is_transfer_event (kind b) ≡ true)
      (f : TransferFacts h k b) where
    shape : Shape
    shape = shape_of h f.ring

    abbrev u : World
    u = posts_posted h w b

    can : can_post h w b ≡ true
    can = may_post h is k w b d g clean

    p : PostKeeps h k [] w b
    p = post_keeps h is k [] w b block d g can

    driver : IsDriverRing h f.ring
    driver = transfer_driver h f.ring (d.states.transfer (slot b) (endpoint b) f.ring f.bound)

    pub no_command : f.ring ≢ command_id h
    no_command = transfer_not_command h is f.ring (d.states.transfer (slot b) (endpoint b) f.ring f.bound)

    keeps : RingKeeps shape k.memory (k.ring f.ring)
    unfolding shape
    keeps = d.rings f.ring driver

    -- the spot that it names lies from the floor on, and where it tells no value, at the address
    pub there : IsAhead (shape_of h f.ring) (k.ring f.ring) f.spot
    unfolding shape
    there = spot_ahead h k b f.ring f.spot keeps f.named_is

    pub reached : rank (k.ring f.ring).floor ≤ rank f.spot
    unfolding shape
    reached = spot_reached h k b f.ring f.spot keeps f.named_is

    pub at_address : has_event_data b ≡ false → spot_address (shape_of h f.ring) f.spot ≡ pointer b
    unfolding spot_named named shape
    at_address tells = (named_spot-Some (shape_of h f.ring) (k.ring f.ring).floor (declared (k.ring f.ring)) (pointer b) f.spot keeps.is_spot (sym (by_address (shape_of h f.ring) (k.ring f.ring) b tells) ∙ f.named_is)).at

    bound : BoundRing shape k.ring_of (k.ring f.ring) (state_of u f.ring) f.ring
    unfolding shape
    bound = elim (p.matches.rings f.ring no_command) [ inl here ↦ here | inr free ↦ absurd (free.none (slot b) (endpoint b) f.bound) ]

    number_of : (s : Spot) → StandsAt h w f.ring s → number bound.spot ≡ number s
    unfolding shape posts_posted stored_block stored
    number_of s here = sym bound.matches.next ∙ here.next

    told : code_posted h w b ≡ code_told h k b
    told = told_same h k w b (g.matches.isochronous (slot b) (endpoint b))

    pub report_at : (v : World) → report_code h u (code_told h k b) (slot b) (endpoint b) f.ring b ≡ Some v → reported h w b ≡ Some v
    unfolding reported reported_on
    report_at v by_code = grind (arith, cond-true, and_from, can, and_right, f.may_data, f.no_service, told, f.bound, g.matches.ring_of)

    module _ (n : NamesBlock h k f.ring f.spot) (here : StandsAt h w f.ring (after (shape_of h f.ring) n.position)) where
      number_now : number bound.spot ≡ n.position + 1
      number_now = number_of (after (shape_of h f.ring) n.position) here ∙ number_after (shape_of h f.ring) n.position

      from : floor_number (k.ring f.ring) ≤ n.position
      from = subst (λ t. floor_number (k.ring f.ring) ≤ number t) n.is there.from

      abbrev take_there : ℕ → Take
      take_there q = take_at shape (k.ring f.ring).queue q

      valued_there : has_event_data b ≡ true → IsValued (k.ring f.ring) (pointer b) n.position
      unfolding spot_named
      valued_there tells =
          let v = named_value (shape_of h f.ring) (k.ring f.ring) b f.spot tells f.named_is in
          subst (λ q. IsValued (k.ring f.ring) (pointer b) q) (same_position v.0 n.position (sym v.1 ∙ n.is)) v.2

      -- it names the take of its block, and by a value none before it
      names_take : names b (take_there n.position) ≡ true
      unfolding shape
      names_take = elim (cases_Bool (has_event_data b)) [
        | inl tells ↦ names_value b (take_there n.position) tells ∙ (valued_there tells).passes
        | inr tells ↦ names_address b (take_there n.position) tells ∙ eq-eqb _ (pointer b) (ap (λ t. spot_address (shape_of h f.ring) t) (sym n.is) ∙ at_address tells)
      ]

      names_first : has_event_data b ≡ true → (q : ℕ) → floor_number (k.ring f.ring) ≤ q → q < n.position → names b (take_there q) ≡ false
      names_first tells q low below = names_value b (take_there q) tells ∙ (valued_there tells).first q low below

      takes : open_takes (state_of u f.ring) ≡ map take_there (range_with_len (floor_number (k.ring f.ring)) (suc (n.position - floor_number (k.ring f.ring))))
      takes =
          let long : number bound.spot - floor_number (k.ring f.ring) ≡ suc (n.position - floor_number (k.ring f.ring)) = omega (arith, number_now, from) in
          bound.takes.takes ∙ ap (λ l. map take_there (range_with_len (floor_number (k.ring f.ring)) l)) long

      -- its take is unreported
      take_found : (m : ℕ) × (position (names b) (open_takes (state_of u f.ring)) ≡ Some m)
      take_found =
          let F : ℕ = floor_number (k.ring f.ring) in
          let i : ℕ = n.position - F in
          let long : length (open_takes (state_of u f.ring)) ≡ suc i = ap (λ l. length l) takes ∙ length-map-range_with_len take_there F (suc i) in
          let element : get_or (open_takes (state_of u f.ring)) i (take_there 0) ≡ take_there n.position =
          ap (λ l. get_or l i (take_there 0)) takes ∙ get_or-map-range_with_len take_there F (suc i) i n.position (take_there 0) (omega arith) (omega (arith, from)) in
          first_found (names b) (open_takes (state_of u f.ring)) i (take_there 0) (omega (arith, long)) (ap (names b) element ∙ names_take)

      -- a success: the ring stays as active as it was
      pub success_reports : is_success (code_told h k b) ≡ true → (x : Reports w b f.ring) × (x.world.is_active f.ring ≡ w.is_active f.ring)
      unfolding report_code report_success with_reported unreported posts_posted stored_block stored
      success_reports success =
          let m : ℕ = take_found.0 in
          let v : World = with_reported h (posts_posted h w b) f.ring ((posts_posted h w b).reported f.ring + m + 1) in
          let found : option_map (λ m. with_reported h (posts_posted h w b) f.ring ((posts_posted h w b).reported f.ring + m + 1)) (position (names b) (open_takes (state_of u f.ring))) ≡ Some v =
          ap (λ o. option_map (λ m. with_reported h (posts_posted h w b) f.ring ((posts_posted h w b).reported f.ring + m + 1)) o) take_found.1 in
          let x : Reports w b f.ring = record {
            world = v;
            at = report_at v (cond-true (is_success (code_told h k b)) _ _ success ∙ found);
            leaves = record { memory = refl; posted = refl; reads = refl; pointers = refl; cycles = refl; events = refl; halted = refl; active = λ q other. refl };
          } in
          (x, refl)

      last : names_last b (open_takes (state_of u f.ring)) ≡ true
      last =
          let F : ℕ = floor_number (k.ring f.ring) in
          ap (λ l. names_last b l) takes
          ∙ last_of_range b take_there F (n.position - F) (ap (λ q. names b (take_there q)) (omega (arith, from)) ∙ names_take) (λ tells q low below. names_first tells q low (omega (arith, from)))

      module _ (runs : is_running (k.endpoint_state (slot b) (endpoint b)) ≡ true) (on : w.is_active f.ring ≡ true) where
        ended : EndpointState → World
        ended state = record (with_reported h (posts_posted h w b) f.ring ((posts_posted h w b).reported f.ring + length (unreported (posts_posted h w b) f.ring))) {
          is_active = put w.is_active f.ring false;
          endpoint_state = put_pair w.endpoint_state (slot b) (endpoint b) state;
        }

        error_at : (state : EndpointState) → report_error h (posts_posted h w b) (slot b) (endpoint b) f.ring b state ≡ Some (ended state)
        unfolding ended report_error with_reported unreported posts_posted stored_block stored
        error_at state =
            cond-true (is_running (w.endpoint_state (slot b) (endpoint b)) && w.is_active f.ring && names_last b (open_takes (state_of u f.ring))) _ None
            (and_from _ _ (and_from _ _ (ap is_running (g.matches.endpoints (slot b) (endpoint b)) ∙ runs) on) last)

        error_leaves : (state : EndpointState) → report_code h u (code_told h k b) (slot b) (endpoint b) f.ring b ≡ Some (ended state) → Reports w b f.ring
        unfolding ended with_reported posts_posted stored_block stored
        error_leaves state by_code = search (rules, ended, report_at, put_off)

        -- an error: the endpoint stops at its block
        pub error_reports : is_success (code_told h k b) ≡ false → (is_halting (code_told h k b) || is_trb_error (code_told h k b)) ≡ true → Reports w b f.ring
        unfolding report_code
        error_reports fails breaks =
            elim (cases_Bool (is_halting (code_told h k b))) [
              | inl halting ↦ error_leaves Halted (cond-false (is_success (code_told h k b)) _ _ fails ∙ cond-true (is_halting (code_told h k b)) _ _ halting ∙ error_at Halted)
              | inr quiet ↦
                  let error : is_trb_error (code_told h k b) ≡ true = sym (ap (λ c. c || is_trb_error (code_told h k b)) quiet) ∙ breaks in
                  error_leaves Error (cond-false (is_success (code_told h k b)) _ _ fails ∙ cond-false (is_halting (code_told h k b)) _ _ quiet ∙ cond-true (is_trb_error (code_told h k b)) _ _ error ∙ error_at Error)
            ]
