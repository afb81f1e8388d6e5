-- A ring of any kind that comes or goes: what a driver keeps it keeps still, and the run goes on
use Rattle.safety.proofs.UpperLaws.{RingKind, is_inside_descriptor, resting, ◌≡◌, ◌||◌, ◌∙◌, ℕ, Bool, true, false, None, Some, Option, is_some, refl, sym, ap, subst, inl, inr, cases_Bool, cases_eq, cases_option, false≢true, false_from_ne_true, none-some, or_parts, fun_ext, put, put_at, put_off, list_any, IsComing, is_bad_free, is_bad_ring, is_bad_kind, is_bad_segment, with_ring, without_ring, emptied, forgotten, Header, Ring, IsHeader, ring_with, command_id, World, Known, counted, DriverKeeps, IsTransferRing, Runs, is_in_run, is_transfer_kind, all_read, Cmd, Evt, Xfer, gone, goes_badly, command_ring, event_ring, is_command_kind, is_event_kind, halted_is, started_is, is_command, gone_ring_header, gone_ring_kept, command_comes_header, command_comes_keeps, command_goes_header, command_goes_keeps, event_comes_header, event_comes_keeps, event_goes_header, event_goes_keeps, event_comes_runs, event_goes_runs}
use Rattle.safety.proofs.RingChanges.LeftOut.{is_event}
use Rattle.safety.proofs.RingChanges.RingRuns.{comes_header, comes_keeps, comes_runs, goes_runs}
use Rattle.safety.proofs.RingChanges.CommandRuns.{command_comes_runs, command_goes_runs, command_goes_whole}
use Rattle.safety.proofs.RingChanges.GoneRings as transfer_gone
use Rattle.safety.proofs.RingChanges.RingRuns as transfer_runs
use Rattle.safety.proofs.RingChanges.CommandRings as commands
use Rattle.safety.proofs.RingChanges.EventRings as events
use Rattle.safety.proofs.RingChanges.RunFacts as facts

none_of : {X : Type 0} (o : Option X) → is_some o ≡ false → o ≡ None
none_of o none = elim (cases_option o) [ inl is ↦ is | inr some ↦ absurd (false≢true (sym none ∙ ap (λ x. is_some x) some.1)) ]

put_same : (f : ℕ → Bool) (id r : ℕ) → f id ≡ false → f r ≡ put f id false r
put_same f id r off =
    elim (cases_eq r id) [
      | inl here ↦ ap f here ∙ off ∙ sym (ap (put f id false) here ∙ put_at f id false)
      | inr other ↦ sym (put_off f id false r other)
    ]

-- a ring that isn't looked at rests when it is forgotten
resting_same : (w : World) (id : ℕ) → w.is_active id ≡ false → emptied w id ≡ resting w id
unfolding emptied resting
resting_same w id off = λ j. record (emptied w id) { is_active = fun_ext (λ r. put_same w.is_active id r off) j }

-- ---- a ring comes

module _ (h : Header) (is : IsHeader h) (r : Ring) (coming : IsComing r) (k : Known) (d : DriverKeeps h k) (good : is_bad_ring h k r ≡ false) where
  two : (is_some (ring_with h r.id) ≡ false) × (is_bad_kind h k r.shape.kind ≡ false)
  unfolding is_bad_ring
  two =
      or_parts (is_some (ring_with h r.id)) (is_bad_kind h k r.shape.kind)
      (or_parts (is_some (ring_with h r.id) || is_bad_kind h k r.shape.kind) (list_any (is_bad_segment h k) r.shape.segments) good).0

  pub absent : ring_with h r.id ≡ None
  absent = none_of (ring_with h r.id) two.0

  command_by : (kind : RingKind) → is_bad_kind h k kind ≡ false → is_command_kind kind ≡ true → command_ring h ≡ None
  unfolding is_bad_kind
  command_by Cmd fine it = none_of (command_ring h) (or_parts (is_some (command_ring h)) (is_in_run k) fine).0
  command_by Evt fine it = absurd (false≢true it)
  command_by Xfer fine it = absurd (false≢true it)

  event_by : (kind : RingKind) → is_bad_kind h k kind ≡ false → is_event_kind kind ≡ true → event_ring h ≡ None
  unfolding is_bad_kind
  event_by Evt fine it = none_of (event_ring h) (or_parts (is_some (event_ring h)) k.started fine).0
  event_by Cmd fine it = absurd (false≢true it)
  event_by Xfer fine it = absurd (false≢true it)

  pub no_command : is_command r ≡ true → command_ring h ≡ None
  no_command it = command_by r.shape.kind two.1 it

  pub no_event : is_event r ≡ true → event_ring h ≡ None
  no_event it = event_by r.shape.kind two.1 it

  idle : (w : World) → Runs h k w → w.is_active r.id ≡ false
  idle w run =
      false_from_ne_true (w.is_active r.id) (λ on. let there = facts.active h is k d w run r.id on in none-some there.0 (sym absent ∙ there.1))

  header_by : (kind : RingKind) → r.shape.kind ≡ kind → IsHeader (with_ring h r)
  header_by Xfer at = comes_header h is r coming at k d good
  header_by Cmd at = command_comes_header h is k d r coming at good
  header_by Evt at = event_comes_header h is k d r coming at good

  pub coming_header : IsHeader (with_ring h r)
  coming_header = header_by r.shape.kind refl

  keeps_by : (kind : RingKind) → r.shape.kind ≡ kind → DriverKeeps (with_ring h r) (forgotten k r.id)
  keeps_by Xfer at = comes_keeps h is r coming at k d good
  keeps_by Cmd at = command_comes_keeps h is k d r coming at good
  keeps_by Evt at = event_comes_keeps h is k d r coming at good

  pub coming_keeps : DriverKeeps (with_ring h r) (forgotten k r.id)
  coming_keeps = keeps_by r.shape.kind refl

  runs_by : (kind : RingKind) → r.shape.kind ≡ kind → (w : World) → Runs h k w → Runs (with_ring h r) (forgotten k r.id) (counted h (resting w r.id))
  runs_by Xfer at w run = subst (λ v. Runs (with_ring h r) (forgotten k r.id) (counted h v)) (resting_same w r.id (idle w run)) (comes_runs h is r coming at k w d good run)
  runs_by Cmd at w run = command_comes_runs h is r coming at k w d good run
  runs_by Evt at w run = event_comes_runs h is r coming at k w d good run

  pub coming_runs : (w : World) → Runs h k w → Runs (with_ring h r) (forgotten k r.id) (counted h (resting w r.id))
  coming_runs w run = runs_by r.shape.kind refl w run

-- ---- a ring goes

module _ (h : Header) (is : IsHeader h) (id : ℕ) (k : Known) (d : DriverKeeps h k) (good : is_bad_free h k id ≡ false) where
  pub going_ring : (q : Ring) × (ring_with h id ≡ Some q)
  unfolding is_bad_free goes_badly
  going_ring = elim (cases_option (ring_with h id)) [ inl none ↦ absurd (false≢true (sym good ∙ ap (goes_badly h k id) none)) | inr some ↦ some ]

  abbrev pub q : Ring
  q = going_ring.0

  transfer : q.shape.kind ≡ Xfer → IsTransferRing h id
  transfer at = record { ring = q; found = going_ring.1; kind = ap (λ n. is_transfer_kind n) at }

  header_goes : (kind : RingKind) → q.shape.kind ≡ kind → IsHeader (without_ring h id)
  header_goes Xfer at = gone_ring_header h is k d id (transfer at) good
  header_goes Cmd at = command_goes_header h is k d id q going_ring.1 at good
  header_goes Evt at = event_goes_header h is k d id q going_ring.1 at good

  pub going_header : IsHeader (without_ring h id)
  going_header = header_goes q.shape.kind refl

  keeps_goes : (kind : RingKind) → q.shape.kind ≡ kind → DriverKeeps (without_ring h id) (gone h k id)
  keeps_goes Xfer at = subst (DriverKeeps (without_ring h id)) (sym (transfer_gone.gone_is h is k d id (transfer at) good)) (gone_ring_kept h is k d id (transfer at) good)
  keeps_goes Cmd at = command_goes_keeps h is k d id q going_ring.1 at good
  keeps_goes Evt at = event_goes_keeps h is k d id q going_ring.1 at good

  pub going_keeps : DriverKeeps (without_ring h id) (gone h k id)
  going_keeps = keeps_goes q.shape.kind refl

  module _ (w : World) (run : Runs h k w) where
    abbrev later : Known
    later = all_read h k run.unread

    transfer_idle : q.shape.kind ≡ Xfer → w.is_active id ≡ false
    transfer_idle at =
        let went = transfer_runs.gone h is id (transfer at) run.unread k d good run.possible run.on in
        elim (run.agrees.matches.rings id (λ same. transfer_gone.no_command h is later went.keeps id (transfer at) went.good (sym same))) [
          | inl bound ↦ absurd (transfer_gone.not_had h is later went.keeps id (transfer at) went.good bound.slot bound.index id bound.bound refl)
          | inr free ↦ free.rests.inactive
        ]

    runs_goes : (kind : RingKind) → q.shape.kind ≡ kind → Runs (without_ring h id) (gone h k id) (counted h (resting w id))
    runs_goes Xfer at =
        subst (λ m. Runs (without_ring h id) m (counted h (resting w id))) (sym (transfer_gone.gone_is h is k d id (transfer at) good))
        (subst (λ v. Runs (without_ring h id) (forgotten k id) (counted h v)) (resting_same w id (transfer_idle at)) (goes_runs h is id (transfer at) k w d good run))
    runs_goes Cmd at = command_goes_runs h is id q going_ring.1 at k w d good run
    runs_goes Evt at = event_goes_runs h is id q going_ring.1 at k w d good run

    pub going_runs : Runs (without_ring h id) (gone h k id) (counted h (resting w id))
    going_runs = runs_goes q.shape.kind refl

    -- ---- one that is looked at is the command ring of a controller that has halted

    event_idle : q.shape.kind ≡ Evt → w.is_active id ≡ false
    event_idle at = facts.looks_at_none h is k d w run (started_is h k w run ∙ (events.unused h is k d id q going_ring.1 at good).0) id

    command_halted : q.shape.kind ≡ Cmd → w.is_active id ≡ true → w.halted ≡ true
    command_halted at on =
        elim (cases_Bool w.started) [
          | inl started ↦ halted_is h k w run (commands.rests h is k d id q going_ring.1 at good (sym (started_is h k w run) ∙ started)).0
          | inr before ↦ absurd (false≢true (sym (facts.looks_at_none h is k d w run before id) ∙ on))
        ]

    active_by : (kind : RingKind) → q.shape.kind ≡ kind → w.is_active id ≡ true → (command_id h ≡ id) × (is_command q ≡ true) × (w.halted ≡ true)
    active_by Cmd at on = (commands.is_command h is k d id q going_ring.1 at good, ap (λ n. is_command_kind n) at, command_halted at on)
    active_by Xfer at on = absurd (false≢true (sym (transfer_idle at) ∙ on))
    active_by Evt at on = absurd (false≢true (sym (event_idle at) ∙ on))

    pub going_active : w.is_active id ≡ true → (command_id h ≡ id) × (is_command q ≡ true) × (w.halted ≡ true)
    going_active on = active_by q.shape.kind refl on

    whole_by : (kind : RingKind) → q.shape.kind ≡ kind → w.is_active id ≡ true → is_inside_descriptor (w.events id) ≡ false
    whole_by Cmd at on = command_goes_whole h is id q going_ring.1 at k w d good run on
    whole_by Xfer at on = absurd (false≢true (sym (transfer_idle at) ∙ on))
    whole_by Evt at on = absurd (false≢true (sym (event_idle at) ∙ on))

    -- and isn't inside a descriptor
    pub going_whole : w.is_active id ≡ true → is_inside_descriptor (w.events id) ≡ false
    going_whole on = whole_by q.shape.kind refl on
