-- A write that gives a Set TR Dequeue restores the ring that it moves, and begins the lease of its own block. The log is told of both in the order
-- of their rings' IDs, as of what begins at one row
use Rattle.leases.proofs.UpperLaws.{◌≡◌, ◌≢◌, ◌+◌, ◌<◌, ◌≤◌, ◌==◌, ◌&&◌, ◌∷◌, ◌∙◌, ℕ, Bool, true, false, not, List, [], Some, None, filter, map, option_and_then, slice_get, arith, refl, sym, ap, inl, append-nil, eqb-true, and_parts, false≢true, not-true, or_left, nat_tests, none-some, IsIn, Header, IsHeader, Ring, Known, changed, on_ring, learned, Write, driver_rings, is_driver_kind, open_leases, shape_of, command_id, positions_given, crossings_given, due_positions, place_count, floor_number, is_inside, address_of, link_address, gives_is, gives_crossing_is, address_inside, link_address_inside, position_given_is, gives, gives_crossing, is_crossing, SetTrDequeue, command_given, command_at, with_device, with_word, written, taken_device, given_of, given_by, range_of_command, range_of_context, from_filter, DriverKeeps, IsDriverRing, due_has_ring, contains_first, and_then_parts, ring_elsewhere, ring_shape, unrestored, Restores, due_crossings, IsShape, GivesCrossing, gives_one, data_not_link, Given, Position, Crossing, as_lease, comes_before, without_end, Leased, Block, AreOpen, Lent, in_turn, is_place_free, newly_open, passed_on, precedes, with_begun, with_leased, FreeWasGiven, all_from_one, find_some, shape_allowed, shape_there, together, Apart, IsAmong, restored, restored_on, ring_moved, ring_restored, is_freed, MovesRing, rules, from_map, from_range, in_either, IsOpen, passed_open, lease_given, block_free, freed_are, restored_open, are_shaped, RingView, range_with_len, command_of}
use Rattle.leases.proofs.RingLeases.TwoSteps.{IsBefore, L_in_U as there_both, newly_own, only_begins, restored_first, restored_last}
use Rattle.safety.proofs.RingsKeep.DriverRows.{ring_here}
use Rattle.leases.proofs.LeaseBooks.GivingCommands.{all_kept, contexts_given, new_leases, none_at}
use Rattle.leases.proofs.LeaseRows.TransferRows.{driver_there}
use Rattle.leases.proofs.RingLeases.LentFree.{among, driver, driver_in, in_drivers, not_command}

-- ---- rings of the driver

-- what is free of them was given
pub was_given : (h : Header) → IsHeader h → (k : Known) → DriverKeeps h k → FreeWasGiven h k
was_given h headed k d q at p free = (d.rings q.id (driver_there h headed q at)).free_given p free

-- ---- the word is written, and the ring restored, in either order

module _ (h : Header) (k : Known) (r a w : ℕ) where
  view_commutes : (s : ℕ) → (with_word h (on_ring h k r Restores) a w).ring s ≡ (on_ring h (with_word h k a w) r Restores).ring s
  unfolding with_word
  view_commutes s = search (rules, with_word, on_ring, changed, shape_of, ring_here, ring_elsewhere)

  pub word_commutes : with_word h (on_ring h k r Restores) a w ≡ on_ring h (with_word h k a w) r Restores
  unfolding with_word on_ring
  word_commutes = λ j. record (with_word h k a w) { ring = λ s. view_commutes s j }

-- ---- the row

pub record Moves (h : Header) (k : Known) (r a w : ℕ) : Type 0 where
  pub slot : ℕ
  pub index : ℕ
  pub pointer : ℕ
  pub cycle : Bool
  pub given : command_given h k a w ≡ Some (SetTrDequeue slot index pointer cycle)

moves_is : (h : Header) (k : Known) (r a w : ℕ) → ring_restored h k (Write a w) ≡ Some r → Moves h k r a w
unfolding ring_restored ring_moved
moves_is h k r a w at = search (rules, none-some)

-- such a write takes no device context
only_word : (h : Header) (k : Known) (r a w : ℕ) → Moves h k r a w → learned h k (Write a w) ≡ with_word h k a w
unfolding learned written taken_device with_device
only_word h k r a w m = ap (λ o. with_device h (with_word h k a w) (option_and_then (taken_device k) o)) m.given

module _ (h : Header) (headed : IsHeader h) (k : Known) (freed : FreeWasGiven h k) (r a w : ℕ) (m : Moves h k r a w) where
  abbrev c : ℕ
  c = command_id h

  abbrev step : Known
  step = with_word h k a w

  -- the position that it gives
  pub record GivesHere : Type 0 where
    pub position : ℕ
    pub gives : gives (shape_of h c) (k.ring c).floor position a w ≡ true
    pub command : command_at h k position ≡ Some (SetTrDequeue m.slot m.index m.pointer m.cycle)
    pub ring : IsDriverRing h c
    pub at : a ≡ address_of (shape_of h c) position + 12

  gives_here : GivesHere
  unfolding command_given
  gives_here =
      let first = and_then_parts (command_at h k) (slice_get (positions_given (shape_of h c) (k.ring c) a w) 0) (SetTrDequeue m.slot m.index m.pointer m.cycle) m.given in
      let fresh = position_given_is (shape_of h c) (k.ring c) a w first.0 (contains_first (positions_given (shape_of h c) (k.ring c) a w) first.0 first.1) in
      search (rules, gives_is, shape_of, gives, due_has_ring)

  shape_is : (q : ℕ) → IsDriverRing h q → IsShape (shape_of h q)
  shape_is q d = (ring_shape h headed q d).is

  inside : is_inside (shape_of h c) a ≡ true
  inside = ap (λ x. is_inside (shape_of h c) x) gives_here.at ∙ address_inside (shape_of h c) (shape_is c gives_here.ring) gives_here.position 12 (omega arith)

  -- so it is of no Link
  no_link : (x : ℕ) → is_crossing (shape_of h c) x ≡ true → a ≡ link_address (shape_of h c) x + 12 → ⊥
  no_link x crossing at = data_not_link (shape_of h c) (shape_is c gives_here.ring) gives_here.position x crossing (omega (arith, gives_here.at, at))

  abbrev gives_new : ℕ → ℕ → Bool
  gives_new q p = not ((k.ring q).given p) && gives (shape_of h q) (k.ring q).floor p a w

  abbrev crosses_new : ℕ → ℕ → Bool
  crosses_new q x = not ((k.ring q).crossed x) && gives_crossing (shape_of h q) (k.ring q).floor x a w

  position_inside : (q p : ℕ) → IsShape (shape_of h q) → gives_new q p ≡ true → is_inside (shape_of h q) a ≡ true
  position_inside q p is new = rw ((gives_is (shape_of h q) (k.ring q).floor p a w (and_parts (not ((k.ring q).given p)) _ new).1).at) (address_inside (shape_of h q) is p 12 (omega arith))

  new_crossing : (q x : ℕ) → crosses_new q x ≡ true → GivesCrossing (shape_of h q) (k.ring q).floor x a w
  new_crossing q x new = gives_crossing_is (shape_of h q) (k.ring q).floor x a w (and_parts (not ((k.ring q).crossed x)) (gives_crossing (shape_of h q) (k.ring q).floor x a w) new).1

  crossing_inside : (q x : ℕ) → IsShape (shape_of h q) → crosses_new q x ≡ true → is_inside (shape_of h q) a ≡ true
  crossing_inside q x is new = ap (λ y. is_inside (shape_of h q) y) (new_crossing q x new).at ∙ link_address_inside (shape_of h q) is x 12 (new_crossing q x new).due.crossing (omega arith)

  -- the word is one of the ring
  given_inside : (q : ℕ) → IsShape (shape_of h q) → (g : Given) → IsIn g (given_of h k a w q) → is_inside (shape_of h q) a ≡ true
  unfolding given_of positions_given crossings_given
  given_inside q is g at = grind (
    arith,
    in_either g (map (Position q) (filter (gives_new q) (due_positions (shape_of h q) (k.ring q))))
        (map (Crossing q) (filter (crosses_new q) (due_crossings (shape_of h q) (k.ring q)))) at,
    from_map (Position q) (filter (gives_new q) (due_positions (shape_of h q) (k.ring q))) g,
    from_map (Crossing q) (filter (crosses_new q) (due_crossings (shape_of h q) (k.ring q))) g,
    from_filter,
    position_inside q,
    crossing_inside q,
  )

  -- its command names no input context
  contexts_none : contexts_given h k a w ≡ []
  unfolding positions_given range_of_command range_of_context
  contexts_none = none_at (λ p. range_of_command h p (command_at h k p)) (filter (gives_new c) (due_positions (shape_of h c) (k.ring c)))
      (λ p at. grind (arith, and_parts, from_filter (gives_new c) (due_positions (shape_of h c) (k.ring c)) p at, gives_one (shape_of h c) (shape_is c gives_here.ring) (k.ring c).floor a w p gives_here.position, gives_here))

  own_are : newly_open (open_leases h k) (open_leases h step) ≡ map lease_given (given_by h k a w)
  unfolding with_device
  own_are = search (rules, new_leases h (are_shaped h headed) k freed a w None tt, contexts_none, append-nil)

  own_stays : (l : Leased) → IsOpen (open_leases h k) l → IsOpen (open_leases h step) l
  unfolding with_device
  own_stays l at = all_kept h (are_shaped h headed) k freed a w None tt l at

  -- where it gives one position, it begins the lease of this alone
  empty_if : {X : Type 0} (xs : List X) → ((x : X) → IsIn x xs → ⊥) → xs ≡ []
  empty_if [] none = refl
  empty_if (x ∷ xs) none = absurd (none x (inl refl))

  module _ (command : Ring) (among : IsAmong command h.rings) (driver : is_driver_kind command.shape.kind ≡ true) (is : command.id ≡ c)
      (p : ℕ) (gives_p : positions_given (shape_of h c) (k.ring c) a w ≡ p ∷ []) where
    shape_here : shape_of h c ≡ command.shape
    shape_here = ap (shape_of h) (sym is) ∙ shape_there h headed command among

    elsewhere_none : (q : Ring) → IsAmong q h.rings → Apart command q → given_of h k a w q.id ≡ []
    elsewhere_none q at apart =
        let shaped = shape_there h headed q at in
        empty_if (given_of h k a w q.id) (λ g there. apart.memory a (rw (← shape_here) inside) (rw (← shaped) (given_inside q.id (rw shaped (shape_allowed h headed q at)) g there)))

    crossings_none : crossings_given (shape_of h c) (k.ring c) a w ≡ []
    unfolding crossings_given
    crossings_none = empty_if (filter (crosses_new c) (due_crossings (shape_of h c) (k.ring c))) (search (rules, from_filter, new_crossing c, no_link))

    commanded : given_of h k a w command.id ≡ Position c p ∷ []
    unfolding given_of
    commanded = rw is (rw (gives_p, crossings_none) refl)

    pub own_one : newly_open (open_leases h k) (open_leases h step) ≡ Block c p ∷ []
    unfolding given_by driver_rings
    own_one = own_are ∙ ap (map lease_given) (all_from_one (λ q. given_of h k a w q.id) h.rings (together h headed) command among driver elsewhere_none
        ∙ append-nil (given_of h k a w command.id) ∙ commanded)

-- ---- the order of what begins

before_own : (f : ℕ → Bool) (r c p : ℕ) → r < c → (l m : Leased) → is_freed f r l ≡ true → m ≡ Block c p → IsBefore l m
unfolding precedes comes_before as_lease
before_own f r c p less l m here at = grind (arith, false≢true, eqb-true, and_parts, nat_tests)

after_own : (f : ℕ → Bool) (r c p : ℕ) → c < r → (l m : Leased) → is_freed f r l ≡ true → m ≡ Block c p → IsBefore m l
unfolding precedes comes_before as_lease
after_own f r c p less l m here at = grind (arith, false≢true, eqb-true, and_parts, nat_tests)

-- ---- the two steps

module _ (h : Header) (k : Known) (ts : List Lent) (command : Ring) (p : ℕ) (q : Ring) (ps : List ℕ) (a w : ℕ) (x : MovesRing h k ts command p q ps a w) where
  abbrev r : ℕ
  r = q.id

  moves : Moves h k r a w
  moves = moves_is h k r a w x.moves

  pub other : r ≢ command_id h
  other = not_command h q x.found x.transfer x.headed

  -- where the ring alone is restored, and where the row's own step alone is made
  abbrev pub alone : Known
  alone = on_ring h k r Restores

  abbrev pub own_step : Known
  own_step = with_word h k a w

  abbrev pub both : Known
  both = on_ring h own_step r Restores

  pub freed_given : (y : ℕ) → (k.ring r).free y ≡ true → (k.ring r).given y ≡ true
  freed_given y free = x.freed q (in_drivers h q x.found x.transfer) y free

  pub freed_later : (y : ℕ) → (own_step.ring r).free y ≡ true → (own_step.ring r).given y ≡ true
  unfolding with_word
  freed_later y free = or_left ((k.ring r).given y) (gives (shape_of h r) (k.ring r).floor y a w) (freed_given y free)

  same_free : is_freed (own_step.ring r).free r ≡ is_freed (k.ring r).free r
  unfolding with_word
  same_free = refl

  pub same_left : unrestored q.shape (own_step.ring r) ≡ unrestored q.shape (k.ring r)
  unfolding with_word unrestored due_positions
  same_left = refl

  given_alone : command_given h alone a w ≡ command_given h k a w
  unfolding command_given command_at
  given_alone =
      ap (λ (v : RingView). option_and_then (λ y. option_and_then command_of (slice_get v.queue y)) (slice_get (positions_given (shape_of h (command_id h)) v a w) 0))
      (ring_elsewhere h k r (command_id h) Restores (λ same. other (sym same)))

  -- what is known behind the row
  pub both_is : learned h (restored h k (Write a w)) (Write a w) ≡ both
  unfolding restored_on
  both_is = rw x.moves (only_word h alone r a w (search (rules, given_alone, moves)) ∙ word_commutes h k r a w)

  pub in_rings : IsAmong command h.rings
  in_rings = (find_some (λ s. s.id == command.id) h.rings command x.commands).0

  own_begins : newly_open (open_leases h k) (open_leases h own_step) ≡ Block (command_id h) p ∷ []
  own_begins = own_one h x.headed k x.freed r a w moves command in_rings x.drives x.is_command p x.gives

  module _ (row : ℕ) (early : row < without_end) where
    abbrev K : List Leased
    K = open_leases h k

    abbrev L : List Leased
    L = open_leases h alone

    abbrev S : List Leased
    S = open_leases h own_step

    abbrev U : List Leased
    U = open_leases h both

    abbrev R : Leased → Bool
    R = is_freed (k.ring r).free r

    left_L : K ≡ filter (λ l. not (R l)) L
    left_L = restored_open h k r other

    left_U : S ≡ filter (λ l. not (R l)) U
    left_U = restored_open h own_step r other ∙ (λ j. filter (λ l. not (same_free j l)) U)

    same_freed : filter R L ≡ filter R U
    unfolding with_word unrestored due_positions
    same_freed = freed_are h x.headed k q (among h q x.found x.transfer) (driver h q x.found x.transfer) freed_given
        ∙ sym (freed_are h x.headed own_step q (among h q x.found x.transfer) (driver h q x.found x.transfer) freed_later)

    stays : (l : Leased) → IsOpen K l → IsOpen S l
    stays = own_stays h x.headed k x.freed r a w moves

    own_block : (m : Leased) → IsIn m (newly_open K S) → m ≡ Block (command_id h) p
    own_block m at = search (rules, own_begins)

    one_turn : in_turn (Block (command_id h) p ∷ []) ≡ Block (command_id h) p ∷ []
    unfolding in_turn with_leased
    one_turn = refl

    L_in_U : (l : Leased) → IsOpen L l → IsOpen U l
    L_in_U = there_both R K L S U left_L left_U same_freed stays

    -- the ring is restored first where its ID is less
    pub first_restored : r < command_id h → with_begun row (passed_on K L row ts) (Block (command_id h) p ∷ []) ≡ passed_on K U row ts
    first_restored less =
        rw (← one_turn, ← own_begins, ← newly_own R K L S U left_L left_U same_freed stays)
        (sym (only_begins L U row (passed_on K L row ts) (passed_open K L row ts early) L_in_U)
        ∙ restored_first R K L S U left_L left_U same_freed stays row early ts x.opened (λ l m here at. before_own (k.ring r).free r (command_id h) p less l m here (own_block m at)))

    -- else the command's block comes under lease first
    pub own_first : with_begun row ts (Block (command_id h) p ∷ []) ≡ passed_on K S row ts
    own_first = search (rules, own_begins, one_turn, only_begins, stays)

    pub last_restored : command_id h < r → passed_on S U row (passed_on K S row ts) ≡ passed_on K U row ts
    last_restored less = restored_last R K L S U left_L left_U same_freed stays row early ts x.opened
        (λ l m here at. after_own (k.ring r).free r (command_id h) p less l m here (own_block m at))

    -- the place of the command's block is free
    bounds : (floor_number (k.ring (command_id h)) ≤ p) × (p < floor_number (k.ring (command_id h)) + place_count (shape_of h (command_id h))) × ((k.ring (command_id h)).given p ≡ false)
    unfolding positions_given due_positions
    bounds = search (
      rules,
      from_filter (λ y. not ((k.ring (command_id h)).given y) && gives (shape_of h (command_id h)) (k.ring (command_id h)).floor y a w)
          (range_with_len (floor_number (k.ring (command_id h))) (place_count (shape_of h (command_id h)))) p,
      x.gives,
      from_range,
      not-true,
      and_parts,
      gives,
    )

    pub command_free : (m : Known) (us : List Lent) → AreOpen h m us → m.ring (command_id h) ≡ k.ring (command_id h) → is_place_free h us (Block command.id p) ≡ true
    command_free m us opened same = search (rules, command_id, shape_of, shape_there, in_rings, bounds, block_free, shape_allowed, are_shaped, driver_in)

    pub alone_command : alone.ring (command_id h) ≡ k.ring (command_id h)
    alone_command = ring_elsewhere h k r (command_id h) Restores (λ same. other (sym same))

    pub command_block : Block command.id p ≡ Block (command_id h) p
    command_block = ap (λ i. Block i p) x.is_command

    pub opened_alone : AreOpen h alone (passed_on K L row ts)
    opened_alone = passed_open K L row ts early

    pub opened_own : AreOpen h own_step (passed_on K S row ts)
    opened_own = passed_open K S row ts early

    pub at_end : passed_on K U row ts ≡ passed_on K (open_leases h (learned h (restored h k (Write a w)) (Write a w))) row ts
    at_end = ap (λ z. passed_on K (open_leases h z) row ts) (sym both_is)
