-- A declaration that was checked, from what was checked of one ring
use Rattle.driver_rows.proofs.MiddleLaws.{◌≡◌, ◌≢◌, ℕ, ◌<◌, List, true, false, inl, inr, Some, Result, Ok, Err, refl, ap, sym, ◌∙◌, subst, ◌==◌, slice_get, IfErr, OnOk, cases_Bool, Block, RingView, Declares, changed, declared, Ring, Header, Sub, IsHeader, command_id, is_command_kind, is_driver_kind, is_event_kind, profile_of, Profile, RingRecord, FollowsRing, Known, learned, on_ring, unfinished, after_declaration, unfinished_declared, unfinished_same, same_blocks, ring_elsewhere, IsAmong, among_at, ring_found, no_command_here, NotDeclared, first_broken, DriverKeeps, IsDriverRing, StepFault, Refused, Memory, TraceRecord, FollowsTrace, IfRefused, IsLeast, IsRowStep, IsDeclared, room_tests, nothing_broken, command_id_is, command_found, declared_nowhere, declared_on_events, declared_on_ring, followed, here_on, only_on, rings_with, rules}
use Rattle.driver_rows.proofs.RingRows.OneRing.{with_record}

module _ (h : Header) (headed : IsHeader h) (id : ℕ) (blocks : List Block) where
  -- a declaration that names no ring
  pub undeclared : ((q : Ring) → IsAmong q h.rings → (q.id == id) ≡ false) → (k : Known) → k.stopped ≡ false → IsLeast h k (Sub id blocks) NotDeclared
  undeclared none k on = declared_nowhere h k on id blocks none

  module _ (n : ℕ) (ring : Ring) (at : slice_get h.rings n ≡ Some ring) (named : ring.id ≡ id) where
    among : IsAmong ring h.rings
    among = among_at h.rings n ring at

    -- one on the event ring
    pub on_events : is_event_kind ring.shape.kind ≡ true → (k : Known) → k.stopped ≡ false → IsLeast h k (Sub id blocks) NotDeclared
    on_events event k on = declared_on_events h k on id blocks headed ring among named event

    module _ (driver : is_driver_kind ring.shape.kind ≡ true) (kept : TraceRecord) (old : RingRecord) (there : slice_get kept.rings.items n ≡ Some old) where
      module _ (k : Known) (m : ℕ → ℕ) (f : FollowsTrace h k kept m) where
        after : Known
        after = learned h k (Sub ring.id blocks)

        apart_ring : command_id h ≢ ring.id → (learned h k (Sub ring.id blocks)).ring (command_id h) ≡ k.ring (command_id h)
        unfolding learned
        apart_ring apart = ring_elsewhere h k ring.id (command_id h) (Declares blocks) apart

        -- the command ring's unfinished commands are the same
        commands_after : DriverKeeps h k → unfinished h after ≡ unfinished h k
        unfolding after
        commands_after keeps = elim (cases_Bool (is_command_kind ring.shape.kind)) [
          | inl command ↦
              let here_id : command_id h ≡ ring.id = command_id_is h ring (command_found h headed ring among command) in
              let is_ring : IsDriverRing h ring.id = record { ring = ring; found = ring_found h headed ring among; kind = driver } in
              unfinished_declared h k ring.id blocks (λ p given.
              subst (λ (r : ℕ). p < declared (k.ring r)) (sym here_id) ((keeps.rings ring.id is_ring).given_declared p (ap (λ (r : ℕ). (k.ring r).given p) (sym here_id) ∙ given)))
          | inr other ↦ search (rules, unfinished_same, same_blocks, apart_ring, no_command_here, among)
        ]

        followed_after : DriverKeeps h k → (new : RingRecord) → FollowsRing ring.shape (changed ring.shape (k.ring ring.id) (Declares blocks)) new → FollowsTrace h after (with_record kept n new) m
        unfolding learned on_ring after
        followed_after keeps new noted =
            followed h k after kept m f (record { memory = refl; started = refl; stopped = refl; halt = refl; register = refl; reads = refl; dequeue = refl; device = refl; soiled = refl }) (λ s. refl) (commands_after keeps) (with_record kept n new) refl
            (rings_with h headed k after kept.rings.items f.rings n ring at (only_on h headed k n ring at (Declares blocks)) new (λ kind. subst (λ (v : RingView). FollowsRing ring.shape v new) (sym (here_on h headed k n ring at (Declares blocks))) noted))
            (after_declaration h k kept.devices f.devices ring.id blocks)

        step : DriverKeeps h k → k.stopped ≡ false → (new : RingRecord) → IsDeclared (profile_of h.version) ring.shape (k.ring ring.id) blocks new → IsRowStep h k (Sub ring.id blocks) (with_record kept n new) m
        unfolding learned after
        step keeps on new s =
            record { clean = nothing_broken _ (declared_on_ring h k on ring.id blocks headed ring among refl driver ∙ s.clean); followed = followed_after keeps new s.followed }

      module _ (profile : Profile) (by_version : profile ≡ profile_of h.version) where
        pub declared_ok : {X : Type 0} (new : RingRecord) (result : Result X StepFault) →
            OnOk result ((v : RingView) → FollowsRing ring.shape v old → IsDeclared profile ring.shape v blocks new) →
            OnOk result ((k : Known) (m : ℕ → ℕ) → FollowsTrace h k kept m → DriverKeeps h k → k.stopped ≡ false → IsRowStep h k (Sub id blocks) (with_record kept n new) m)
        declared_ok new (Ok x) checked = λ k m f keeps on.
            subst (λ (i : ℕ). IsRowStep h k (Sub i blocks) (with_record kept n new) m) named
            (step k m f keeps on new
            (subst (λ (p : Profile). IsDeclared p ring.shape (k.ring ring.id) blocks new) by_version (checked (k.ring ring.id) (f.rings.each n ring old at there driver))))
        declared_ok new (Err e) checked = checked

        pub declared_bad : {X : Type 0} (result : Result X StepFault) →
            IfErr result (λ e. IfRefused e (λ c. (v : RingView) → FollowsRing ring.shape v old → first_broken (room_tests profile ring.shape v blocks) ≡ Some c)) →
            IfErr result (λ e. IfRefused e (λ c. (k : Known) (m : ℕ → ℕ) → FollowsTrace h k kept m → k.stopped ≡ false → IsLeast h k (Sub id blocks) c))
        declared_bad (Ok x) breaks = breaks
        declared_bad (Err (Refused c)) breaks = λ k m f on.
            declared_on_ring h k on id blocks headed ring among named driver
            ∙ subst (λ (p : Profile). first_broken (room_tests p ring.shape (k.ring ring.id) blocks) ≡ Some c) by_version (breaks (k.ring ring.id) (f.rings.each n ring old at there driver))
        declared_bad (Err Memory) breaks = breaks
