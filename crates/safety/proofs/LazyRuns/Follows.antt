-- What the induction over the rows follows: where rings stand in the world, what is known of them there, and what looks may be made
use Rattle.safety.proofs.MiddleLaws.{rules, [], ◌≡◌, ◌⊎◌, ◌∷◌, ◌++◌, ℕ, true, false, List, reverse, Some, Block, IsBlock, Spot, Data, is_open, IsSpot, number, spot_address, spot_cycle, Header, Row, Read, Step, NextRow, IsHeader, shape_of, command_id, World, next_take, Known, learned, lenient, DriverKeeps, Runs, live_reached, live_with, steps_before, pointers_after, AreAtFloors, ◌∙◌, option_and_then, sym, ap, subst, IsDriverRow, live_step, Option, cond-false, row_done, counted, steps_made, while_running, ◌≢◌, ◌+◌, ◌<◌, ◌≤◌, rank, MayReach, RingSpot, next_command, state_of, further, looks_to, flat_map, kind, goals, Bool, inl, inr, cases_Bool, cases_eq, false≢true, Shape, IsShape, data_not_link, IsDriverRing, RingMatches, Unreported, UnderWayMatches, Agrees, transfer_driver, ring_shape, command_is_ring, arith, Sub, Write, Reg, Bell, refl, RingRow, FreeRow, NopRow, is_ring_row, is_done, is_some, command_ring, is_used, is_named, RegRead, Halt, is_first_halt, until_halted, None, crossing_positive}
use Rattle.std.proofs.Common.{option_map}
use Rattle.safety.proofs.LazyRuns.NeedsOfHeld.{AreTimely}

-- What an induction over the rows has to carry beside the lazy law: all events are read, the schedule knows where the pointers stand,
-- also that of the command ring, and a ring that is open is active. Without it neither a look nor a post is known to be possible

abbrev pub IsActiveIfOpen : Known → World → ℕ → Type 0
IsActiveIfOpen k w r = is_open (k.ring r) ≡ true → w.is_active r ≡ true

module _ (h : Header) where
  -- ring r stands at spot t: its pointer, its cycle state, and the position that is taken next. The last tells spots with one address apart
  pub record StandsAt (w : World) (r : ℕ) (t : Spot) : Type 0 where
    pub is_spot : IsSpot (shape_of h r) t
    pub pointer : w.pointer_of r ≡ spot_address (shape_of h r) t
    pub cycle : w.cycle_state r ≡ spot_cycle (shape_of h r) t
    pub next : next_take (shape_of h r) (w.events r) ≡ number t

  -- with k known and the pointers where the schedule has them, by ring ID
  pub record Follows (k : Known) (pointers : ℕ → Spot) (w : World) : Type 0 where
    pub runs : Runs h k w
    pub all_read : w.posted ≡ w.reads
    -- the controller halts where it is seen to have halted, and not before
    pub halted : w.halted ≡ is_done k.halt
    -- the rings that an endpoint has
    pub floors : (s i r : ℕ) → k.ring_of s i ≡ Some r → StandsAt w r (k.ring r).floor
    pub traced : (s i r : ℕ) → k.ring_of s i ≡ Some r → pointers r ≡ (k.ring r).floor
    pub active : (s i r : ℕ) → k.ring_of s i ≡ Some r → IsActiveIfOpen k w r
    -- the command ring: once CRCR names it, it may stand behind its floor, where a Stop Endpoint was taken and isn't finished
    pub before : is_some (command_ring h) ≡ true → is_used h k ≡ false → is_named k ≡ false → pointers (command_id h) ≡ Data 0
    pub command : is_named k ≡ true → StandsAt w (command_id h) (pointers (command_id h))
    pub command_active : is_named k ≡ true → IsActiveIfOpen k w (command_id h)

  -- what the step of a row rests on: the steps so far, the newest first, are a run beside these rows that begins with the rings of another
  -- header; what is known behind it; and where the schedule has the pointers
  pub record Past : Type 0 where
    pub first : Header
    pub rows : List Row
    pub made : List Step
    pub known : Known
    pub keeps : DriverKeeps h known
    pub pointers : ℕ → Spot

  -- steps of that run lead to world w, with these rows to come
  abbrev pub Leads : Past → List Step → List Row → World → Type 0
  Leads past steps later w = live_reached past.first past.rows steps ≡ Some (live_with h later w)

  -- a row that a driver makes or reads, with the controller's steps before it; after a stop no clean row comes
  pub record Carries (past : Past) (row : Row) (later : List Row) : Type 0 where
    pub world : World
    pub run : Leads past (NextRow ∷ reverse (steps_before h past.known past.pointers row later) ++ past.made) later world
    pub goes : Follows (learned h past.known row) (pointers_after h past.known past.pointers row later) world
        ⊎ (((learned h past.known row).stopped ≡ true) × AreAtFloors h (learned h past.known row) world)

  -- the step of a row that reads an event
  abbrev pub EventLaw : Type 0
  EventLaw =
      (past : Past) (later : List Row) (b : Block) (w : World) → IsHeader h → IsBlock b → lenient h past.known (Read b) ≡ [] →
      AreTimely h past.known ((Read b) ∷ later) → Leads past past.made ((Read b) ∷ later) w → Follows past.known past.pointers w →
      Carries past (Read b) later

-- The lazy run makes no step of the controller for a row of the driver: it goes from one row to the next

pub driver_no_ring : (row : Row) → IsDriverRow row → is_ring_row row ≡ false
driver_no_ring (Sub r blocks) driver_row = refl
driver_no_ring (Write a w) driver_row = refl
driver_no_ring (Reg r v) driver_row = refl
driver_no_ring (Bell s t) driver_row = refl
driver_no_ring (RegRead r v) driver_row = refl
driver_no_ring row driver_row = absurd driver_row

module _ (h : Header) where
  -- the row shows first that the controller has halted
  abbrev pub sees_halt : Known → Row → Bool
  sees_halt k (RegRead r v) = is_first_halt h k r v
  sees_halt k _ = false

  -- but for that one no step is made before a row of the driver
  pub no_steps : (k : Known) (pointers : ℕ → Spot) (row : Row) (later : List Row) → IsDriverRow row → sees_halt k row ≡ false → steps_before h k pointers row later ≡ []
  unfolding steps_before
  no_steps k pointers (RegRead r v) later driver_row none = cond-false (is_first_halt h k r v) (Halt ∷ []) [] none
  no_steps k pointers (Read b) later driver_row none = absurd driver_row
  no_steps k pointers row later driver_row none = refl

  pub pointers_same : (k : Known) (pointers : ℕ → Spot) (row : Row) (later : List Row) (r : ℕ) → IsDriverRow row → pointers_after h k pointers row later r ≡ pointers r
  unfolding pointers_after
  pointers_same k pointers o later r driver_row = grind arith

  -- the next row is made
  pub next_reached : (past : Past h) (made : List Step) (w v : World) (row : Row) (later : List Row) → is_ring_row row ≡ false → Leads h past made (row ∷ later) w →
      row_done h w row ≡ Some v → Leads h past (NextRow ∷ made) later (counted h v)
  next_reached past made w v (RingRow ring) later driven run at = absurd (false≢true (sym driven))
  next_reached past made w v (FreeRow id) later driven run at = absurd (false≢true (sym driven))
  next_reached past made w v (NopRow r p) later driven run at = absurd (false≢true (sym driven))
  next_reached past made w v row later driven run at = search rules

  -- a step of the controller is made
  pub step_reached : (past : Past h) (to_come : List Row) (made : List Step) (w u : World) (s : Step) → (s ≡ NextRow → ⊥) → steps_made h h w s ≡ Some u →
      Leads h past made to_come w → Leads h past (s ∷ made) to_come (counted h u)
  step_reached past to_come made w u s other at run = grind (arith, option_and_then, live_step, option_map, live_with, counted)

  -- so it is while the controller runs
  pub until_made : (w u : World) (o : Option World) → w.halted ≡ false → w.stopped ≡ false → o ≡ Some u → until_halted h w o ≡ Some u
  unfolding until_halted while_running
  until_made w u o running on at = cond-false w.halted None _ running ∙ cond-false w.stopped None o on ∙ at

  pub driver_reached : (past : Past h) (w v : World) (row : Row) (later : List Row) → IsDriverRow row → sees_halt past.known row ≡ false → Leads h past past.made (row ∷ later) w →
      row_done h w row ≡ Some v → Leads h past (NextRow ∷ reverse (steps_before h past.known past.pointers row later) ++ past.made) later (counted h v)
  driver_reached past w v row later driver_row none run at = search (rules, no_steps, next_reached, driver_no_ring)

-- The looks of the lazy schedule at one ring are a run, and bring the ring to its spot

-- what the looks at ring r leave
pub record LooksLeave (h : Header) (w v : World) (r : ℕ) : Type 0 where
  -- the other rings
  pub others : (q : ℕ) → q ≢ r → state_of v q ≡ state_of w q
  -- of ring r what no look changes
  pub active : v.is_active r ≡ w.is_active r
  pub reported : v.reported r ≡ w.reported r
  pub under_way : r ≢ command_id h → v.under_way ≡ w.under_way
  pub started : v.started ≡ w.started
  pub stopped : v.stopped ≡ w.stopped
  pub halted : v.halted ≡ w.halted
  pub memory : v.memory ≡ w.memory
  pub slot_state : v.slot_state ≡ w.slot_state
  pub endpoint_state : v.endpoint_state ≡ w.endpoint_state
  pub ring_of : v.ring_of ≡ w.ring_of
  pub posted : v.posted ≡ w.posted
  pub reads : v.reads ≡ w.reads
  pub dequeue : v.dequeue ≡ w.dequeue

module _ (h : Header) where
  -- ring r may be brought to spot t: it is active, all before t is given, and of the command ring no more than the next command is taken
  pub record MayBring (k : Known) (w : World) (r : ℕ) (t : Spot) : Type 0 where
    pub active : w.is_active r ≡ true
    pub reach : MayReach (shape_of h r) (k.ring r) t
    pub one_command : r ≡ command_id h → number t ≤ next_command h k + 1

  -- the looks are a run, and the ring stands at its goal, or where it stood if that is further. Its takes are those of the blocks
  -- that it passed: what stands at a spot has taken the blocks before it, by the agreement of a run
  pub record Looked (past : Past h) (to_come : List Row) (made : List Step) (w : World) (r : ℕ) (t : Spot) (looks : List Step) : Type 0 where
    pub world : World
    pub run : Leads h past (reverse looks ++ made) to_come world
    pub runs : Runs h past.known world
    pub stands : StandsAt h world r t
    pub leaves : LooksLeave h w world r

  -- nothing is asked of a ring that stands at its goal, or behind it
  abbrev pub LooksLaw : Type 0
  LooksLaw =
      (past : Past h) (to_come : List Row) (made : List Step) (w : World) (pointers : ℕ → Spot) (goal : RingSpot) → IsHeader h → Leads h past made to_come w → Runs h past.known w →
      w.posted ≡ w.reads → w.halted ≡ false → StandsAt h w goal.ring (pointers goal.ring) →
      (rank (pointers goal.ring) < rank goal.spot → MayBring past.known w goal.ring goal.spot) →
      Looked past to_come made w goal.ring (further (pointers goal.ring) goal.spot) (looks_to h pointers goal)

-- The world directly before the controller posts an event: each ring stands where the schedule says

module _ (h : Header) where
  -- all events are read, and the rings stand at these spots, by ring ID
  pub record Traced (k : Known) (pointers : ℕ → Spot) (w : World) : Type 0 where
    pub runs : Runs h k w
    pub all_read : w.posted ≡ w.reads
    pub halted : w.halted ≡ is_done k.halt
    pub rings : (s i r : ℕ) → k.ring_of s i ≡ Some r → StandsAt h w r (pointers r)
    pub active : (s i r : ℕ) → k.ring_of s i ≡ Some r → IsActiveIfOpen k w r
    pub command : is_named k ≡ true → StandsAt h w (command_id h) (pointers (command_id h))
    pub command_active : is_named k ≡ true → IsActiveIfOpen k w (command_id h)

  -- so it is behind each row
  pub traced_behind : (k : Known) (pointers : ℕ → Spot) (w : World) → Follows h k pointers w → Traced k pointers w
  traced_behind k pointers w f = assumption (f, λ (s i r : ℕ) (at : k.ring_of s i ≡ Some r). subst (λ t. StandsAt h w r t) (sym (f.traced s i r at)) (f.floors s i r at))

  -- the looks for an event, in their order
  abbrev pub looks_for : Past h → List Row → Block → List Step
  looks_for past later b = flat_map (looks_to h past.pointers) (goals h past.known later (kind b) b)

-- What the completion of a command leaves of rings: each that an endpoint has stands at its floor, and is active if it is open

-- an endpoint had ring r before, and its floor stays
pub record HadBefore (k m : Known) (r : ℕ) : Type 0 where
  pub slot : ℕ
  pub index : ℕ
  pub had : k.ring_of slot index ≡ Some r
  pub floor : (m.ring r).floor ≡ (k.ring r).floor

module _ (h : Header) where
  pub record AtFloors (k : Known) (w : World) : Type 0 where
    pub floors : (s i r : ℕ) → k.ring_of s i ≡ Some r → StandsAt h w r (k.ring r).floor
    pub active : (s i r : ℕ) → k.ring_of s i ≡ Some r → IsActiveIfOpen k w r

  -- what is known goes from k to m; the test tells which rings are bound or moved
  pub record RingsGo (k m : Known) (x : World) (placed : ℕ → Bool) : Type 0 where
    pub at_floors : AtFloors m x
    pub had : (s i r : ℕ) → m.ring_of s i ≡ Some r → placed r ≡ false → HadBefore k m r
    pub not_command : placed (command_id h) ≡ false

-- two spots with one address and one number are one
pub one_spot : (shape : Shape) → IsShape shape → (t u : Spot) → IsSpot shape t → IsSpot shape u → spot_address shape t ≡ spot_address shape u → number t ≡ number u → t ≡ u
one_spot shape is o x a b same at = grind (arith, data_not_link)

-- the first spot
pub first_spot : (shape : Shape) (t : Spot) → IsSpot shape t → number t ≡ 0 → t ≡ Data 0
first_spot shape o is none = grind (arith, crossing_positive)

-- a command ring that wasn't started is at its beginning
module _ (h : Header) (k : Known) (w : World) (g : Agrees h k [] w) (unused : is_used h k ≡ false) where
  none_taken : (t : Spot) → next_take (shape_of h (command_id h)) (w.events (command_id h)) ≡ number t → number t ≡ 0
  none_taken t next = sym next ∙ g.matches.new unused

  pub stands_first : (t : Spot) → StandsAt h w (command_id h) t → t ≡ Data 0
  stands_first t at = first_spot (shape_of h (command_id h)) t at.is_spot (none_taken t at.next)

  pub first_stands : is_named k ≡ true → StandsAt h w (command_id h) (Data 0)
  first_stands named =
      let c = g.matches.command named in
      let m = c.ring in
      subst (λ t. StandsAt h w (command_id h) t) (first_spot (shape_of h (command_id h)) c.spot m.is_spot (none_taken c.spot m.next))
      (record { is_spot = m.is_spot; pointer = m.pointer; cycle = m.cycle; next = m.next })

module _ (h : Header) (is : IsHeader h) (k : Known) (w : World) (d : DriverKeeps h k) (g : Agrees h k [] w) where
  same_there : (r : ℕ) (t u : Spot) → IsDriverRing h r → RingMatches (shape_of h r) (k.ring r) (state_of w r) t → StandsAt h w r u → t ≡ u
  same_there r t u ring m at = one_spot (shape_of h r) (ring_shape h is r ring).is t u m.is_spot at.is_spot (sym m.pointer ∙ at.pointer) (sym m.next ∙ at.next)

  -- the ring of an endpoint: where it stands, and the takes that aren't reported
  pub record EndpointStands (r : ℕ) (t : Spot) : Type 0 where
    pub ring : IsDriverRing h r
    pub matches : RingMatches (shape_of h r) (k.ring r) (state_of w r) t
    pub takes : Unreported (shape_of h r) (k.ring r) (state_of w r) t

  pub endpoint_stands : (s i r : ℕ) (t : Spot) → r ≢ command_id h → k.ring_of s i ≡ Some r → StandsAt h w r t → EndpointStands r t
  endpoint_stands s i r t other has at =
      let ring : IsDriverRing h r = transfer_driver h r (d.states.transfer s i r has) in
      elim (g.matches.rings r other) [
        | inl b ↦ subst (λ x. EndpointStands r x) (same_there r b.spot t ring b.matches at) (record { ring = ring; matches = b.matches; takes = b.takes })
        | inr free ↦ absurd (free.none s i has)
      ]

  -- the command ring: where it stands, and which command is under way
  pub record CommandsStand (t : Spot) : Type 0 where
    pub ring : IsDriverRing h (command_id h)
    pub matches : RingMatches (shape_of h (command_id h)) (k.ring (command_id h)) (state_of w (command_id h)) t
    pub under_way : UnderWayMatches h k t w.under_way

  pub commands_stand : (t : Spot) → is_named k ≡ true → StandsAt h w (command_id h) t → CommandsStand t
  commands_stand t on at =
      let ring : IsDriverRing h (command_id h) = command_is_ring h k d on in
      let c = g.matches.command on in
      subst (λ x. CommandsStand x) (same_there (command_id h) c.spot t ring c.ring at) (record { ring = ring; matches = c.ring; under_way = c.under_way })

  -- any ring that is active
  pub record RingStands (r : ℕ) (t : Spot) : Type 0 where
    pub ring : IsDriverRing h r
    pub matches : RingMatches (shape_of h r) (k.ring r) (state_of w r) t

  commands_active : (t : Spot) → w.is_active (command_id h) ≡ true → StandsAt h w (command_id h) t → RingStands (command_id h) t
  commands_active t active at =
      elim (cases_Bool (is_named k)) [ inl on ↦ assumption (commands_stand t on at) | inr off ↦ absurd (false≢true (sym (g.matches.before off).rests.inactive ∙ active)) ]

  endpoint_active : (r : ℕ) (t : Spot) → r ≢ command_id h → w.is_active r ≡ true → StandsAt h w r t → RingStands r t
  endpoint_active r t other active at =
      elim (g.matches.rings r other) [
        | inl b ↦ assumption (endpoint_stands b.slot b.index r t other b.bound at)
        | inr free ↦ absurd (false≢true (sym free.rests.inactive ∙ active))
      ]

  pub ring_stands : (r : ℕ) (t : Spot) → w.is_active r ≡ true → StandsAt h w r t → RingStands r t
  ring_stands r t active at =
      elim (cases_eq r (command_id h)) [
        | inl command ↦
            subst (λ q. RingStands q t) (sym command)
            (commands_active t (ap w.is_active (sym command) ∙ active) (subst (λ q. StandsAt h w q t) command at))
        | inr other ↦ endpoint_active r t other active at
      ]
