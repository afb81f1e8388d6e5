-- Something happens on a transfer ring that leaves all else as it is: the record follows
use Rattle.driver_rows.proofs.MiddleLaws.{rules, ◌≤◌, ◌≡◌, ◌∙◌, ℕ, Bool, true, false, Some, refl, ap, sym, subst, slice_get, with_item, RingKind, is_not_restored, ceiling, IsShape, RingChange, RingView, Restores, Withdraws, changed, floor_number, ceiling_within, DriverKeeps, IsDriverRing, Shape, Header, Ring, IsHeader, is_command_kind, is_transfer_kind, ring_with, shape_of, RingRecord, FollowsRing, Known, on_ring, unfinished, ring_elsewhere, same_blocks, unfinished_same, IsAmong, among_at, no_command_here, ring_found, shape_allowed, shape_there, TraceRecord, FollowsTrace, restored_on, IsTransferAt, is_passed, follows_beside, followed, here_on, only_on, rings_with, driver}
use Rattle.ownership_rules.specs.Withdrawals.{is_left}
use Rattle.ownership_rules.specs.Withdrawals.{is_unfit}

no_command : (kind : RingKind) → is_transfer_kind kind ≡ true → is_command_kind kind ≡ false
no_command kind e = search rules

-- what is kept with another record of one ring
abbrev pub with_record : TraceRecord → ℕ → RingRecord → TraceRecord
with_record kept n new = record kept { rings = with_item kept.rings n new }

module _ (h : Header) (headed : IsHeader h) (id n : ℕ) (there : IsTransferAt h id n) (kept : TraceRecord) (old : RingRecord) (at : slice_get kept.rings.items n ≡ Some old) (k : Known) (m : ℕ → ℕ) (f : FollowsTrace h k kept m) where
  abbrev ring : Ring
  ring = there.ring

  among : IsAmong ring h.rings
  among = among_at h.rings n ring there.at

  -- its record follows what is known of it
  pub known_there : FollowsRing ring.shape (k.ring id) old
  known_there = subst (λ (i : ℕ). FollowsRing ring.shape (k.ring i) old) there.named (f.rings.each n ring old there.at at (driver ring.shape.kind there.kind))

  module _ (change : RingChange) where
    abbrev after : Known
    after = on_ring h k ring.id change

    -- the same commands are unfinished
    commands_after : unfinished h after ≡ unfinished h k
    commands_after = search (rules, unfinished_same, same_blocks, ring_elsewhere, no_command_here, among, no_command)

    followed_after : (new : RingRecord) → FollowsRing ring.shape (changed ring.shape (k.ring ring.id) change) new → FollowsTrace h after (with_record kept n new) m
    unfolding on_ring
    followed_after new noted =
        followed h k after kept m f (record { memory = refl; started = refl; stopped = refl; halt = refl; register = refl; reads = refl; dequeue = refl; device = refl; soiled = refl }) (λ s. refl) commands_after (with_record kept n new) refl
        (rings_with h headed k after kept.rings.items f.rings n ring there.at (only_on h headed k n ring there.at change) new (λ driver. subst (λ (v : RingView). FollowsRing ring.shape v new) (sym (here_on h headed k n ring there.at change)) noted))
        (follows_beside k after kept.devices f.devices)

    -- the ring by its ID
    pub changed_there : (new : RingRecord) → FollowsRing ring.shape (changed ring.shape (k.ring id) change) new → FollowsTrace h (on_ring h k id change) (with_record kept n new) m
    changed_there new followed = search (rules, followed, followed_after)

  -- ---- the ring as it is read of the header

  module _ (shape : Shape) (read : shape ≡ ring.shape) where
    pub known_read : FollowsRing shape (k.ring id) old
    known_read = subst (λ (s : Shape). FollowsRing s (k.ring id) old) (sym read) known_there

    shape_read : shape ≡ shape_of h id
    shape_read = read ∙ sym (shape_there h headed ring among) ∙ ap (λ i. shape_of h i) there.named

    -- the floor lies no higher than the ceiling
    pub floor_low : DriverKeeps h k → floor_number (k.ring id) ≤ ceiling shape (k.ring id)
    floor_low keeps =
        let found : ring_with h id ≡ Some there.ring = ap (ring_with h) (sym there.named) ∙ ring_found h headed there.ring among in
        let allowed : IsShape (shape_of h id) = subst (λ (s : Shape). IsShape s) (sym read ∙ shape_read) (shape_allowed h headed there.ring among) in
        let is : IsDriverRing h id = record { ring = there.ring; found = found; kind = driver there.ring.shape.kind there.kind } in
        subst (λ (s : Shape). floor_number (k.ring id) ≤ ceiling s (k.ring id)) (sym shape_read) (ceiling_within (shape_of h id) allowed k.memory (k.ring id) (keeps.rings id is)).0

    -- whether it is left, and its record behind that
    pub left_so : (result : Bool) → ((v : RingView) → FollowsRing shape v old → result ≡ is_not_restored shape v m) → result ≡ is_left h k (Some id)
    unfolding is_left
    left_so result checked = search (rules, known_read, shape_read)

    pub restored_so : (new : RingRecord) → ((v : RingView) → FollowsRing shape v old → FollowsRing shape (changed shape v Restores) new) → FollowsTrace h (restored_on h k (Some id)) (with_record kept n new) m
    unfolding restored_on
    restored_so new noted =
        changed_there Restores new (subst (λ (s : Shape). FollowsRing s (changed s (k.ring id) Restores) new) read (noted (k.ring id) known_read))

    -- a descriptor that is withdrawn
    module _ (p : ℕ) where
      pub passed_so : {b : Bool} → is_passed h shape (k.ring id) p ≡ b → is_passed h (shape_of h id) (k.ring id) p ≡ b
      passed_so told = ap (λ s. is_passed h s (k.ring id) p) (sym shape_read) ∙ told

      pub unfit_so : {b : Bool} → is_unfit shape (k.ring id) p ≡ b → is_unfit (shape_of h id) (k.ring id) p ≡ b
      unfit_so told = ap (λ s. is_unfit s (k.ring id) p) (sym shape_read) ∙ told

      pub withdrawn_so : (new : RingRecord) → FollowsRing shape (changed shape (k.ring id) (Withdraws p)) new → FollowsTrace h (on_ring h k id (Withdraws p)) (with_record kept n new) m
      withdrawn_so new noted =
          changed_there (Withdraws p) new (subst (λ (s : Shape). FollowsRing s (changed s (k.ring id) (Withdraws p)) new) read noted)
