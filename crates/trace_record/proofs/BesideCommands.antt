-- Which commands are unfinished, and which rings they bind, beside a command or event ring that comes, or an event ring that goes
use Rattle.trace_record.proofs.UpperLaws.{rules, ◌≡◌, ◌≢◌, ◌∙◌, ◌<◌, ℕ, List, [], true, false, Option, None, Some, refl, ap, sym, arith, inl, inr, Ring, Header, IsHeader, Known, is_command_kind, command_id, command_ring, shape_of, IsAmong, among_at, same_or_apart, together}
use Rattle.trace_record.proofs.BaseWords.{◌==◌, ◌&&◌, binding_in, map, RingKind, Command, RingView, Shape, Xfer, binds, binds_ring, command_at, command_of, cond-false, cond-true, due_positions, eq-eqb, eqb-true, false≢true, filter, filter_map, id_or_none, is_being_bound, is_event_kind, is_inside, is_transfer_kind, list_any, new_ring, not, option_and_then, shape_or, slice_get, unfinished, unfinished_positions}
use Rattle.traces.specs.Header.{id_of, is_ring, ring_having, ring_with}
use Rattle.traces.specs.LivingRings.{with_ring, without_ring}
use Rattle.ring_knowledge.specs.Histories.{forgotten, gone}
use Rattle.ownership_rules.specs.Moves.{ring_bound}
use Rattle.trace_record.specs.RingChanges.{SameCommands}
use Rattle.trace_record.proofs.BoundRings.{any_in}
use Rattle.trace_record.proofs.CommandRing.{none_due}
use Rattle.trace_record.proofs.GivenCommands.{no_command_event}
use Rattle.trace_record.proofs.RingFinder.ListTests.{filter_nothing}
use Rattle.trace_record.proofs.LivingRings.{not_from}
use Rattle.trace_record.proofs.ListPlaces.{found_left, found_new, found_still, none_passes}
use Rattle.trace_record.proofs.RingFinder.CommandRings.{commands_among}
use Rattle.trace_record.proofs.RingFinder.HeaderRings.{no_command_here}
use Rattle.trace_record.proofs.RingFinder.RingsApart.{other_number, same_number}

-- the commands that are unfinished on a ring
abbrev commands_on : Shape → RingView → List Command
commands_on shape v = filter_map (λ p. option_and_then command_of (slice_get v.queue p)) (filter v.given (due_positions shape v))

unfinished_on : (h : Header) (k : Known) → unfinished h k ≡ commands_on (shape_of h (command_id h)) (k.ring (command_id h))
unfolding unfinished unfinished_positions command_at
unfinished_on h k = refl

-- by other rings, of which the command ring and the transfer rings are as before
module _ (h : Header) (k : Known) (g : Header) (l : Known) (id : command_id g ≡ command_id h) (shape : shape_of g (command_id h) ≡ shape_of h (command_id h))
    (view : l.ring (command_id h) ≡ k.ring (command_id h)) (having : (a : ℕ) → ring_having g a ≡ ring_having h a) (bindings : (c : Command) → binds g l c ≡ binds h k c) where
  commands_same : unfinished g l ≡ unfinished h k
  commands_same =
      unfinished_on g l ∙ ap (λ i. commands_on (shape_of g i) (l.ring i)) id ∙ ap (λ (s : Shape). commands_on s (l.ring (command_id h))) shape
      ∙ ap (λ (v : RingView). commands_on (shape_of h (command_id h)) v) view ∙ sym (unfinished_on h k)

  binds_alike : (r : ℕ) (c : Command) → binds_ring g l r c ≡ binds_ring h k r c
  unfolding binds_ring ring_bound
  binds_alike r c =
      ap (λ bs. list_any (λ b. is_ring r (ring_having g b.pointer)) bs) (bindings c)
      ∙ any_in (λ b. is_ring r (ring_having g b.pointer)) (λ b. is_ring r (ring_having h b.pointer)) (binds h k c) (λ b at. ap (is_ring r) (having b.pointer))

  pub same_commands : SameCommands h k g l
  unfolding is_being_bound
  same_commands = record {
    commands = commands_same;
    bound = λ r. ap (λ cs. list_any (binds_ring g l r) cs) commands_same ∙ any_in (binds_ring g l r) (binds_ring h k r) (unfinished h k) (λ c at. binds_alike r c);
  }

no_transfer_event : (kind : RingKind) → is_event_kind kind ≡ true → is_transfer_kind kind ≡ false
no_transfer_event kind event = search rules

-- ---- an event ring that comes

module _ (h : Header) (headed : IsHeader h) (k : Known) (r : Ring) (low : r.id < 256) (unnamed : ring_with h r.id ≡ None) where
  -- it isn't the command ring that is there
  beside : r.id ≢ command_id h
  unfolding command_id
  beside = by (command_ring h) refl
    where
      by : (o : Option Ring) → command_ring h ≡ o → r.id ≢ id_or_none o
      by None none same = omega (arith, low, same)
      by (Some c) there same = false≢true (sym (none_passes (λ q. q.id == r.id) h.rings unnamed c (commands_among h c there).0) ∙ eq-eqb c.id r.id (sym same))

  come_view : (forgotten k r.id).ring (command_id h) ≡ k.ring (command_id h)
  unfolding forgotten
  come_view = cond-false (command_id h == r.id) new_ring (k.ring (command_id h)) (other_number (command_id h) r.id (λ same. beside (sym same)))

  come_binds : (c : Command) → binds (with_ring h r) (forgotten k r.id) c ≡ binds h k c
  unfolding binds binding_in with_ring forgotten
  come_binds c = search (rules, map)

  module _ (event : is_event_kind r.shape.kind ≡ true) where
    come_id : command_id (with_ring h r) ≡ command_id h
    unfolding command_id command_ring with_ring
    come_id = ap id_or_none (found_still (λ q. is_command_kind q.shape.kind) h.rings r (no_command_event r.shape.kind event))

    come_shape : shape_of (with_ring h r) (command_id h) ≡ shape_of h (command_id h)
    unfolding shape_of with_ring
    come_shape = ap (λ (o : Option Ring). shape_or Xfer o) (found_still (λ q. q.id == command_id h) h.rings r (other_number r.id (command_id h) beside))

    come_having : (a : ℕ) → ring_having (with_ring h r) a ≡ ring_having h a
    unfolding ring_having with_ring
    come_having a = ap id_of (found_still (λ q. is_transfer_kind q.shape.kind && is_inside q.shape a) h.rings r (ap (λ b. b && is_inside r.shape a) (no_transfer_event r.shape.kind event)))

    pub events_come : SameCommands h k (with_ring h r) (forgotten k r.id)
    events_come = same_commands h k (with_ring h r) (forgotten k r.id) come_id come_shape come_view come_having come_binds

  -- ---- a command ring that comes

  module _ (command : is_command_kind r.shape.kind ≡ true) (none : command_ring h ≡ None) where
    was_none : unfinished h k ≡ []
    was_none = unfinished_on h k ∙ ap (λ ps. filter_map (λ p. option_and_then command_of (slice_get (k.ring (command_id h)).queue p)) (filter (k.ring (command_id h)).given ps)) (none_due h headed k none (k.ring (command_id h)))

    new_id : command_id (with_ring h r) ≡ r.id
    unfolding command_id command_ring with_ring
    new_id = ap id_or_none (found_new (λ q. is_command_kind q.shape.kind) h.rings r none command)

    new_view : (forgotten k r.id).ring r.id ≡ new_ring
    unfolding forgotten
    new_view = cond-true (r.id == r.id) new_ring (k.ring r.id) (same_number r.id)

    is_none : unfinished (with_ring h r) (forgotten k r.id) ≡ []
    is_none =
        unfinished_on (with_ring h r) (forgotten k r.id) ∙ ap (λ i. commands_on (shape_of (with_ring h r) (command_id (with_ring h r))) ((forgotten k r.id).ring i)) new_id
        ∙ ap (λ (v : RingView). commands_on (shape_of (with_ring h r) (command_id (with_ring h r))) v) new_view
        ∙ ap (λ ps. filter_map (λ p. option_and_then command_of (slice_get new_ring.queue p)) ps) (filter_nothing (λ p. false) (λ p. refl) (due_positions (shape_of (with_ring h r) (command_id (with_ring h r))) new_ring))

    pub commands_come : SameCommands h k (with_ring h r) (forgotten k r.id)
    unfolding is_being_bound
    commands_come = record {
      commands = is_none ∙ sym was_none;
      bound = λ q. ap (λ cs. list_any (binds_ring (with_ring h r) (forgotten k r.id) q) cs) is_none ∙ sym (ap (λ cs. list_any (binds_ring h k q) cs) was_none);
    }

-- ---- an event ring that goes

module _ (h : Header) (headed : IsHeader h) (k : Known) (n : ℕ) (r : Ring) (at : slice_get h.rings n ≡ Some r) (event : is_event_kind r.shape.kind ≡ true) where
  apart : r.id ≢ command_id h
  apart = no_command_here h headed r (among_at h.rings n r at) (no_command_event r.shape.kind event)

  -- a ring that isn't kept is it
  it_goes : (q : Ring) → IsAmong q h.rings → not (q.id == r.id) ≡ false → q ≡ r
  it_goes q there goes = elim (same_or_apart h.rings (together h headed) q r there (among_at h.rings n r at)) [
    | inl one ↦ sym one
    | inr other ↦ absurd (other.ids (eqb-true q.id r.id (not_from (q.id == r.id) goes)))
  ]

  go_view : (gone h k r.id).ring (command_id h) ≡ k.ring (command_id h)
  unfolding gone forgotten
  go_view = cond-false (command_id h == r.id) new_ring (k.ring (command_id h)) (other_number (command_id h) r.id (λ same. apart (sym same)))

  go_binds : (c : Command) → binds (without_ring h r.id) (gone h k r.id) c ≡ binds h k c
  unfolding binds binding_in without_ring gone forgotten
  go_binds c = search (rules, map)

  go_id : command_id (without_ring h r.id) ≡ command_id h
  unfolding command_id command_ring without_ring
  go_id =
      ap id_or_none (found_left (λ q. is_command_kind q.shape.kind) (λ q. not (q.id == r.id)) h.rings
      (λ q there goes. ap (λ (x : Ring). is_command_kind x.shape.kind) (it_goes q there goes) ∙ no_command_event r.shape.kind event))

  go_shape : shape_of (without_ring h r.id) (command_id h) ≡ shape_of h (command_id h)
  unfolding shape_of without_ring
  go_shape =
      ap (λ (o : Option Ring). shape_or Xfer o) (found_left (λ q. q.id == command_id h) (λ q. not (q.id == r.id)) h.rings
      (λ q there goes. ap (λ (x : Ring). x.id == command_id h) (it_goes q there goes) ∙ other_number r.id (command_id h) apart))

  go_having : (a : ℕ) → ring_having (without_ring h r.id) a ≡ ring_having h a
  unfolding ring_having without_ring
  go_having a =
      ap id_of (found_left (λ q. is_transfer_kind q.shape.kind && is_inside q.shape a) (λ q. not (q.id == r.id)) h.rings
      (λ q there goes. ap (λ (x : Ring). is_transfer_kind x.shape.kind && is_inside x.shape a) (it_goes q there goes) ∙ ap (λ b. b && is_inside r.shape a) (no_transfer_event r.shape.kind event)))

  pub events_go : SameCommands h k (without_ring h r.id) (gone h k r.id)
  events_go = same_commands h k (without_ring h r.id) (gone h k r.id) go_id go_shape go_view go_having go_binds
