-- What the schedule follows stays where a ring comes or goes, where a descriptor is withdrawn, where a ring is restored, and where the controller is
-- reset: no pointer moves
use Rattle.safety.proofs.UpperLaws.{◌≡◌, ◌≢◌, ◌==◌, ◌∙◌, ℕ, true, false, Option, Some, None, refl, sym, ap, subst, ne_eqb, rules, none-some, put, put_off, Spot, Data, new_ring, is_open, Header, Ring, Row, IsHeader, shape_of, command_id, ring_with, World, counted, Known, on_ring, DriverKeeps, IsTransferRing, Runs, view_after, IsComing, forgotten, is_bad_free, is_bad_ring, with_ring, without_ring, without_descriptor, is_left, restored, restored_on, ring_restored, RingWithdraws, arith, StandsAt, IsActiveIfOpen, Follows, open_before, is_named, is_used, is_value, is_done, is_some, not, IsSpot, spot_address, next_take, reset, given_up, driver_reset, is_ring, eq-eqb, cond-true, false≢true, ◌⊎◌, inl, inr, cases_Bool, gone, Bool, if◌then◌else◌, put_at, RingView, [], spot_cycle, emptied, resting, command_ring, id_of, shape_or, Crcr, Xfer}
use Rattle.safety.proofs.LazyRuns.CommandRings.{CommandChanges, CommandIs, CommandStays, comes_command, comes_listed, comes_not_had, goes_command, goes_listed, is_its_own, unnamed}
use Rattle.safety.proofs.RingChanges.ComingGoing.{absent}
use Rattle.safety.proofs.RingChanges.GoneRings as gone_rings
use Rattle.safety.proofs.RingChanges.Restored as restores

-- what no row of these moves
pub record StaysPut (w v : World) : Type 0 where
  pub posted : v.posted ≡ w.posted
  pub reads : v.reads ≡ w.reads
  pub pointers : v.pointer_of ≡ w.pointer_of
  pub cycles : v.cycle_state ≡ w.cycle_state
  pub active : v.is_active ≡ w.is_active

module _ (h : Header) where
  -- ---- the rings are the same

  stands_too : (w v : World) → StaysPut w v → v.events ≡ w.events → (r : ℕ) (t : Spot) → StandsAt h w r t → StandsAt h v r t
  stands_too w v p events r t at = search rules

  -- what is known goes from k to l
  pub record Learns (k l : Known) : Type 0 where
    pub ring_of : l.ring_of ≡ k.ring_of
    pub named : is_named l ≡ is_named k
    pub floors : (r : ℕ) → (l.ring r).floor ≡ (k.ring r).floor
    pub held : (r : ℕ) → (l.ring r).held ≡ (k.ring r).held

  pub follows_too : (k l : Known) (pointers : ℕ → Spot) (w v : World) → Learns k l → StaysPut w v → v.events ≡ w.events → v.halted ≡ is_done l.halt → Runs h l v → Follows h k pointers w →
      Follows h l pointers v
  follows_too k l pointers w v learns p events halted run f =
      let had : (s i r : ℕ) → l.ring_of s i ≡ Some r → k.ring_of s i ≡ Some r = λ s i r at. ap (λ g. g s i) (sym learns.ring_of) ∙ at in
      let still : (r : ℕ) → IsActiveIfOpen k w r → IsActiveIfOpen l v r = λ r was opened. ap (λ g. g r) p.active ∙ was (open_before (k.ring r) (l.ring r) (learns.held r) opened) in
      record {
        runs = run;
        all_read = p.posted ∙ f.all_read ∙ sym p.reads;
        halted = halted;
        floors = λ s i r at. subst (λ t. StandsAt h v r t) (sym (learns.floors r)) (stands_too w v p events r (k.ring r).floor (f.floors s i r (had s i r at)));
        traced = λ s i r at. f.traced s i r (had s i r at) ∙ sym (learns.floors r);
        active = λ s i r at. still r (f.active s i r (had s i r at));
        before = λ there unused off. f.before there (ap (λ o. not (is_value 0 o)) (sym (learns.held (command_id h))) ∙ unused) (sym learns.named ∙ off);
        command = λ on. stands_too w v p events (command_id h) (pointers (command_id h)) (f.command (sym learns.named ∙ on));
        command_active = λ on. still (command_id h) (f.command_active (sym learns.named ∙ on));
      }

  pub restored_learns : (k : Known) (o : Option ℕ) → Learns k (restored_on h k o)
  unfolding restored_on on_ring
  restored_learns k o = grind (arith, view_after)

  restored_halt : (k : Known) (o : Option ℕ) → (restored_on h k o).halt ≡ k.halt
  unfolding restored_on on_ring
  restored_halt k o = grind arith

  pub withdrawn_learns : (k : Known) (r p : ℕ) → Learns k (on_ring h k r (RingWithdraws p))
  unfolding on_ring
  withdrawn_learns k r p = search (rules, view_after)

  still_put : (w : World) → StaysPut w w
  still_put w = record { posted = refl; reads = refl; pointers = refl; cycles = refl; active = refl }

  pub restored_follows : IsHeader h → (k : Known) (pointers : ℕ → Spot) (w : World) (row : Row) → DriverKeeps h k → is_left h k (ring_restored h k row) ≡ false → Follows h k pointers w →
      Follows h (restored h k row) pointers w
  restored_follows is k pointers w row d good f =
      let o = ring_restored h k row in
      follows_too k (restored h k row) pointers w w (restored_learns k o) (still_put w) refl (f.halted ∙ ap is_done (sym (restored_halt k o))) (search (rules, restores.row_runs)) f

  withdrawn_stays : (w : World) (r p : ℕ) → StaysPut w (counted h (without_descriptor w r p))
  unfolding counted without_descriptor
  withdrawn_stays w r p = record { posted = refl; reads = refl; pointers = refl; cycles = refl; active = refl }

  withdrawn_events : (w : World) (r p : ℕ) → (counted h (without_descriptor w r p)).events ≡ w.events
  unfolding counted without_descriptor
  withdrawn_events w r p = refl

  pub withdrawn_follows : (k : Known) (pointers : ℕ → Spot) (w : World) (r p : ℕ) → Runs h (on_ring h k r (RingWithdraws p)) (counted h (without_descriptor w r p)) → Follows h k pointers w →
      Follows h (on_ring h k r (RingWithdraws p)) pointers (counted h (without_descriptor w r p))
  unfolding counted without_descriptor on_ring
  withdrawn_follows k pointers w r p run f =
      follows_too k (on_ring h k r (RingWithdraws p)) pointers w (counted h (without_descriptor w r p)) (withdrawn_learns k r p) (withdrawn_stays w r p) (withdrawn_events w r p) f.halted run f

-- ---- the controller is reset: no endpoint has a ring, and CRCR names none

pub reset_on : (h : Header) (k : Known) → k.stopped ≡ false → (reset h k).stopped ≡ false
unfolding reset
reset_on h k on = on

module _ (h : Header) (is : IsHeader h) (k : Known) (pointers : ℕ → Spot) (w : World) where
  reset_opens : is_some (command_ring h) ≡ true → is_used h (reset h k) ≡ true
  unfolding reset given_up
  reset_opens some = ap (λ (v : RingView). not (is_value 0 v.held)) (cond-true (is_ring (command_id h) (id_of (command_ring h))) _ _ (is_its_own h some))

  pub reset_follows : Runs h (reset h k) (counted h (driver_reset w)) → Follows h (reset h k) pointers (counted h (driver_reset w))
  unfolding counted driver_reset reset
  reset_follows run = record {
    runs = run;
    all_read = refl;
    halted = refl;
    floors = λ s i r at. absurd (none-some r at);
    traced = λ s i r at. absurd (none-some r at);
    active = λ s i r at. absurd (none-some r at);
    before = λ there unused off. absurd (false≢true (sym unused ∙ reset_opens there));
    command = λ on. absurd (false≢true on);
    command_active = λ on. absurd (false≢true on);
  }

-- ---- a ring comes or goes

-- CRCR names the command ring that stays as before, and none that comes or goes
abbrev pub CommandKnown : (h g : Header) (k l : Known) (id : ℕ) → Type 0
CommandKnown h g k l id = (CommandStays h g id × (is_named l ≡ is_named k)) ⊎ (CommandChanges h g id × (is_named l ≡ false))

-- the rings but one are those of h, and so is what is known of them, and the world's state; the ring of no endpoint is that one
pub record OthersStay (h g : Header) (k l : Known) (id : ℕ) : Type 0 where
  pub listed : (r : ℕ) → r ≢ id → ring_with g r ≡ ring_with h r
  pub shapes : (r : ℕ) → r ≢ id → shape_of g r ≡ shape_of h r
  pub rings : (r : ℕ) → r ≢ id → l.ring r ≡ k.ring r
  pub new : l.ring id ≡ new_ring
  pub ring_of : l.ring_of ≡ k.ring_of
  pub started : l.started ≡ k.started
  pub halt : l.halt ≡ k.halt
  pub not_had : (s i r : ℕ) → k.ring_of s i ≡ Some r → r ≢ id
  pub command : CommandKnown h g k l id

pub record OthersLeft (w v : World) (id : ℕ) : Type 0 where
  pub posted : v.posted ≡ w.posted
  pub reads : v.reads ≡ w.reads
  pub halted : v.halted ≡ w.halted
  pub pointers : v.pointer_of ≡ w.pointer_of
  pub cycles : v.cycle_state ≡ w.cycle_state
  pub events : (r : ℕ) → r ≢ id → v.events r ≡ w.events r
  pub active : (r : ℕ) → r ≢ id → v.is_active r ≡ w.is_active r

moved_left : (h : Header) (w : World) (id : ℕ) → OthersLeft w (counted h (resting w id)) id
unfolding counted emptied resting
moved_left h w id = record { posted = refl; reads = refl; halted = refl; pointers = refl; cycles = refl; events = λ q other. put_off w.events id [] q other; active = λ q other. put_off w.is_active id false q other }

module _ (h g : Header) (k l : Known) (id : ℕ) (o : OthersStay h g k l id) (pointers : ℕ → Spot) (w v : World) (left : OthersLeft w v id) (f : Follows h k pointers w) where
  abbrev now : ℕ → Spot
  now = put pointers id (Data 0)

  stands_on : (r : ℕ) (t : Spot) → r ≢ id → StandsAt h w r t → StandsAt g v r t
  stands_on r t other at =
      let same = sym (o.shapes r other) in
      record {
        is_spot = subst (λ shape. IsSpot shape t) same at.is_spot;
        pointer = ap (λ p. p r) left.pointers ∙ at.pointer ∙ ap (λ shape. spot_address shape t) same;
        cycle = ap (λ c. c r) left.cycles ∙ at.cycle ∙ ap (λ shape. spot_cycle shape t) same;
        next = ap (λ e. next_take (shape_of g r) e) (left.events r other) ∙ ap (λ shape. next_take shape (w.events r)) (o.shapes r other) ∙ at.next;
      }

  active_on : (r : ℕ) → r ≢ id → IsActiveIfOpen k w r → IsActiveIfOpen l v r
  active_on r other was opened = left.active r other ∙ was (subst (λ x. is_open x ≡ true) (o.rings r other) opened)

  had : (s i r : ℕ) → l.ring_of s i ≡ Some r → k.ring_of s i ≡ Some r
  had s i r at = ap (λ x. x s i) (sym o.ring_of) ∙ at

  pointer_same : (r : ℕ) → r ≢ id → now r ≡ pointers r
  pointer_same r other = put_off pointers id (Data 0) r other

  -- of the command ring, by its ID
  record CommandFollows (n : ℕ) : Type 0 where
    before : is_some (command_ring g) ≡ true → is_used g l ≡ false → is_named l ≡ false → now n ≡ Data 0
    command : is_named l ≡ true → StandsAt g v n (now n)
    active : is_named l ≡ true → IsActiveIfOpen l v n

  unused_before : (c : CommandStays h g id) → is_used g l ≡ false → is_used h k ≡ false
  unused_before c unused = ap (λ (x : RingView). not (is_value 0 x.held)) (sym (ap l.ring c.same ∙ o.rings (command_id h) c.other)) ∙ unused

  stays_so : (c : CommandStays h g id) → is_named l ≡ is_named k → CommandFollows (command_id g)
  stays_so c named =
      let same : now (command_id h) ≡ pointers (command_id h) = pointer_same (command_id h) c.other in
      subst (λ n. CommandFollows n) (sym c.same)
      (record {
        before = λ there unused off. same ∙ f.before (ap (λ x. is_some x) (sym c.there) ∙ there) (unused_before c unused) (sym named ∙ off);
        command = λ on. subst (λ t. StandsAt g v (command_id h) t) (sym same) (stands_on (command_id h) (pointers (command_id h)) c.other (f.command (sym named ∙ on)));
        active = λ on. active_on (command_id h) c.other (f.command_active (sym named ∙ on));
      })

  changes_so : CommandChanges h g id → is_named l ≡ false → CommandFollows (command_id g)
  changes_so c off = record {
    before = λ there unused none. ap now (c.then_it there) ∙ put_at pointers id (Data 0);
    command = λ on. absurd (false≢true (sym off ∙ on));
    active = λ on. absurd (false≢true (sym off ∙ on));
  }

  of_command : CommandFollows (command_id g)
  of_command = elim o.command [ inl same ↦ stays_so same.0 same.1 | inr other ↦ changes_so other.0 other.1 ]

  pub others_follow : Runs g l v → Follows g l now v
  others_follow run = record {
    runs = run;
    all_read = left.posted ∙ f.all_read ∙ sym left.reads;
    halted = left.halted ∙ f.halted ∙ ap is_done (sym o.halt);
    floors = λ s i r at.
        let other = o.not_had s i r (had s i r at) in
        subst (λ x. StandsAt g v r x.floor) (sym (o.rings r other)) (stands_on r (k.ring r).floor other (f.floors s i r (had s i r at)));
    traced = λ s i r at.
        let other = o.not_had s i r (had s i r at) in
        pointer_same r other ∙ f.traced s i r (had s i r at) ∙ ap (λ x. x.floor) (sym (o.rings r other));
    active = λ s i r at. active_on r (o.not_had s i r (had s i r at)) (f.active s i r (had s i r at));
    before = of_command.before;
    command = of_command.command;
    command_active = of_command.active;
  }

module _ (h : Header) (is : IsHeader h) (k : Known) (d : DriverKeeps h k) where
  module _ (r : Ring) (coming : IsComing r) (good : is_bad_ring h k r ≡ false) where
    -- CRCR doesn't name a ring that isn't there
    not_yet : command_id h ≡ r.id → is_named k ≡ false
    not_yet same =
        elim (cases_Bool (is_named k)) [
          | inr off ↦ off
          | inl on ↦ let ring = d.run.named on in absurd (none-some ring.ring (sym (absent h is r coming k d good) ∙ ap (λ n. ring_with h n) (sym same) ∙ ring.found))
        ]

    comes_known : CommandIs h (with_ring h r) r.id → CommandKnown h (with_ring h r) k (forgotten k r.id) r.id
    unfolding forgotten
    comes_known (inl c) = inl (c, refl)
    comes_known (inr c) = inr (c, elim c.before [ inl none ↦ unnamed h is k d none | inr same ↦ not_yet same ])

    pub comes_stay : OthersStay h (with_ring h r) k (forgotten k r.id) r.id
    unfolding forgotten shape_of
    comes_stay = record {
      listed = comes_listed h is k d r coming good;
      shapes = λ q other. ap (λ o. shape_or Xfer o) (comes_listed h is k d r coming good q other);
      rings = λ q other. put_off k.ring r.id new_ring q other;
      new = put_at k.ring r.id new_ring;
      ring_of = refl;
      started = refl;
      halt = refl;
      not_had = comes_not_had h is k d r coming good;
      command = comes_known (comes_command h is k d r coming good);
    }

    pub comes_follows : (pointers : ℕ → Spot) (w : World) → Runs (with_ring h r) (forgotten k r.id) (counted h (resting w r.id)) → Follows h k pointers w →
        Follows (with_ring h r) (forgotten k r.id) (put pointers r.id (Data 0)) (counted h (resting w r.id))
    comes_follows pointers w run f = others_follow h (with_ring h r) k (forgotten k r.id) r.id comes_stay pointers w (counted h (resting w r.id)) (moved_left h w r.id) f run

  module _ (id : ℕ) (good : is_bad_free h k id ≡ false) where
    goes_known : CommandIs h (without_ring h id) id → CommandKnown h (without_ring h id) k (gone h k id) id
    unfolding gone forgotten
    goes_known (inl c) = inl (c, ap (λ (b : Bool). is_some (if b then None else k.register Crcr)) (ne_eqb id (command_id h) (λ same. c.other (sym same))))
    goes_known (inr c) =
        inr (
          c,
          elim (cases_Bool (id == command_id h)) [
            | inl same ↦ ap (λ (b : Bool). is_some (if b then None else k.register Crcr)) same
            | inr other ↦
                ap (λ (b : Bool). is_some (if b then None else k.register Crcr)) other
                ∙ elim c.before [ inl none ↦ unnamed h is k d none | inr same ↦ absurd (false≢true (sym other ∙ eq-eqb id (command_id h) (sym same))) ]
          ],
        )

    pub goes_stay : OthersStay h (without_ring h id) k (gone h k id) id
    unfolding gone forgotten shape_of
    goes_stay = record {
      listed = goes_listed h is id;
      shapes = λ q other. ap (λ o. shape_or Xfer o) (goes_listed h is id q other);
      rings = λ q other. put_off k.ring id new_ring q other;
      new = put_at k.ring id new_ring;
      ring_of = refl;
      started = refl;
      halt = refl;
      not_had = λ s i r has same. gone_rings.not_had h is k d id (subst (IsTransferRing h) same (d.states.transfer s i r has)) good s i r has same;
      command = goes_known (goes_command h is id);
    }

    pub goes_follows : (pointers : ℕ → Spot) (w : World) → Runs (without_ring h id) (gone h k id) (counted h (resting w id)) → Follows h k pointers w →
        Follows (without_ring h id) (gone h k id) (put pointers id (Data 0)) (counted h (resting w id))
    goes_follows pointers w run f = others_follow h (without_ring h id) k (gone h k id) id goes_stay pointers w (counted h (resting w id)) (moved_left h w id) f run
