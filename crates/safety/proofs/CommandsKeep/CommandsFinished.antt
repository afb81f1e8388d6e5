-- A completion keeps what is kept of the commands that stay unfinished
use Rattle.safety.proofs.MiddleLaws.{◌≡◌, ◌≢◌, ◌∙◌, ℕ, true, false, Some, option_and_then, slice_get, arith, refl, sym, ap, subst, Bool, Option, None, false≢true, Block, Spot, after, RingView, Reaches, changed, is_due, due_is, due_from, number-after, Command, command_of, named_slot, is_off, is_at_rest, Header, IsHeader, shape_of, command_id, Known, command_at, next_command, finished, completed, input_context_bytes, binds_ring, IsDriverRing, IsUnfinished, CommandKeeps, DriverKeeps, AddressDevice, has_bad_context, rules, command_not_transfer, bound_transfer, drops_concerns, transfer_not_command, ring_here, endpoints_of, next_is, SameDriver, clean_same, area_parts, area_from, device_apart, devices_apart, IsPart, OtherSlots, Beside, Concerns, some_concerned, not_both, Standing, PlacesStay, MovesAhead, RingsBeside, still_restored, context_good, finish_elsewhere, OfCommand, Has, Binds, Commands, eq-eqb}
use Rattle.safety.proofs.CommandsKeep.WriteBeside.{ContextParts, context_parts, context_from}
use Rattle.safety.specs.EndpointsKeep as endpoints

-- ---- a command that concerns nothing that changed: it is of another slot, or of another endpoint of the slot

module _ (h : Header) (is : IsHeader h) (k : Known) (d : DriverKeeps h k) (q : ℕ) (e : Command) (ends : IsUnfinished h k q e) (s : ℕ) (part : Option (ℕ → Bool)) (l : Known)
    (driver : SameDriver k l) (o : OtherSlots k l s part (OfCommand h k s part e)) (p : ℕ) (c : Command) (u : IsUnfinished h k p c) (other : p ≢ q)
    (apart : (t i : ℕ) → Concerns k.memory c t i → t ≡ s → IsPart part i → ⊥) where
  keeps : CommandKeeps h k p c
  keeps = d.unfinished p c u

  -- where the slot changed the command is of another
  other_slot : (t : ℕ) → named_slot c ≡ Some t → t ≡ s → part ≡ None → ⊥
  other_slot t named same whole =
      let one = some_concerned k.memory c t named in
      apart t one.0 one.1 same (subst (λ x. IsPart x one.0) (sym whole) tt)

  addresses_first : (t n : ℕ) (bsr : Bool) → c ≡ AddressDevice t bsr n → Concerns k.memory c t 1
  addresses_first t n bsr at = subst (λ z. Concerns k.memory z t 1) (sym at) (refl, refl)

  -- the ring of an endpoint that it concerns isn't one that the other command ended with
  not_its_ring : (t i r : ℕ) → Concerns k.memory c t i → k.ring_of t i ≡ Some r → OfCommand h k s part e r → ⊥
  not_its_ring t i r its has (Has j mine at) =
      let same = d.states.one_endpoint t i s j r has at in
      apart t i its same.0 (subst (λ x. IsPart part x) (sym same.1) mine)
  not_its_ring t i r its has (Binds bound) =
      not_both k.memory e c t i (keeps.alone q e ends (λ same. other (sym same))) (drops_concerns k e t i ((d.unfinished q e ends).unkept r t i bound has)) its
  not_its_ring t i r its has (Commands same) = transfer_not_command h is r (d.states.transfer t i r has) same

  ring_same : (t i r : ℕ) → Concerns k.memory c t i → k.ring_of t i ≡ Some r → l.ring r ≡ k.ring r
  ring_same t i r its has = o.rings r (not_its_ring t i r its has)

  -- nor is one that the command binds
  not_bound_by_it : (r : ℕ) → binds_ring h k r c ≡ true → OfCommand h k s part e r → ⊥
  not_bound_by_it r bound (Has j mine at) = apart s j (drops_concerns k c s j (keeps.unkept r s j bound at)) refl mine
  not_bound_by_it r bound (Binds also) = false≢true (sym (keeps.unshared r q e bound ends (λ same. other (sym same))) ∙ also)
  not_bound_by_it r bound (Commands same) = command_not_transfer h is (subst (λ x. endpoints.IsTransferRing h x) same (bound_transfer h is k r c bound))

  pub rings_finished : RingsBeside h k l c
  rings_finished = record {
    ring_of = λ t i its. o.ring_of t i (apart t i its);
    rest = λ t i x cycle at rests. ap is_at_rest (o.states t i (apart t i (subst (λ z. Concerns k.memory z t i) (sym at) (refl, eq-eqb i i refl)))) ∙ rests;
    ahead = λ t i x r cycle at has rests.
        subst (λ v. MovesAhead (shape_of h r) (k.ring r) v) (sym (ring_same t i r (subst (λ z. Concerns k.memory z t i) (sym at) (refl, eq-eqb i i refl)) has)) (λ a b moves. moves);
    standing = λ t n r bsr at has.
        subst (λ v. Standing (shape_of h r) (k.ring r) v) (sym (ring_same t 1 r (addresses_first t n bsr at) has)) (record { here = λ a b moves. moves; nothing = λ none. none });
    still = λ r bound. subst (λ v. PlacesStay (shape_of h r) (k.ring r) v) (sym (o.rings r (not_bound_by_it r bound))) (λ a b placed. placed);
    kept = λ r t i bound has.
        sym (o.ring_of t i (λ same mine. not_bound_by_it r bound (o.within i r mine (ap (λ n. l.ring_of n i) (sym same) ∙ has)))) ∙ has;
    moved = still_restored k l c (λ t i its. o.ring_of t i (apart t i its)) (λ r. (driver.rings r).free);
  }

  context_finished : (n : ℕ) → has_bad_context h k (Some n) ≡ false → has_bad_context h l (Some n) ≡ false
  context_finished n good =
      let parts : ContextParts h k n = context_parts h k n good in
      let areas = area_parts h k n (input_context_bytes h.context_size) parts.area in
      context_from h l n
      (area_from h l n (input_context_bytes h.context_size)
      (record {
        ends = areas.ends;
        rings = areas.rings;
        devices = devices_apart h l n (input_context_bytes h.context_size)
            (λ t f at. let before = o.fewer t f at in let slot = (d.devices t f before).slot in device_apart h k n (input_context_bytes h.context_size) t f areas slot.0 slot.1 before);
      }))
      (clean_same k l n (input_context_bytes h.context_size) driver.soiled ∙ parts.clean)

  pub beside_finished : Beside h k l c
  beside_finished = record {
    memory = λ n at x low high. ap (λ f. f x) driver.memory;
    context = λ n at. context_finished n (ap (λ x. has_bad_context h k x) (sym at) ∙ context_good h k c keeps.good);
    slot = λ t named on. o.alive t (other_slot t named) on;
    off = λ t i its. ap is_off (o.states t i (apart t i its));
    device = λ t n bsr at none. keeps.device t n bsr at (sym (o.device t (other_slot t (ap named_slot at))) ∙ none);
  }

-- ---- which commands stay unfinished

module _ (h : Header) (is : IsHeader h) (k : Known) (d : DriverKeeps h k) (b : Block) where
  abbrev m : Known
  m = finished h k b (command_at h k (next_command h k))

  abbrev l : Known
  l = completed h k b

  abbrev beyond : Spot
  beyond = after (shape_of h (command_id h)) (next_command h k)

  command_view : l.ring (command_id h) ≡ changed (shape_of h (command_id h)) (k.ring (command_id h)) (Reaches beyond)
  unfolding completed
  command_view = search (rules, ring_here, command_id, changed, shape_of, finish_elsewhere, command_at, next_command, endpoints_of)

  -- what is unfinished was before, and isn't the command that ended
  pub unfinished_before : IsDriverRing h (command_id h) → (p : ℕ) (c : Command) → IsUnfinished h l p c → IsUnfinished h k p c × (p ≢ next_command h k)
  unfolding command_at
  unfinished_before ring p c u =
      let given : (k.ring (command_id h)).given p ≡ true = ap (λ (v : RingView). v.given p) (sym command_view) ∙ u.given in
      let due = due_is (shape_of h (command_id h)) beyond p (ap (λ (v : RingView). is_due (shape_of h (command_id h)) v.floor p) (sym command_view) ∙ u.due) in
      let high = number-after (shape_of h (command_id h)) (next_command h k) in
      let low = next_is h k in (
        record {
          due = due_from (shape_of h (command_id h)) (k.ring (command_id h)).floor p (omega (arith, due.0, high, low)) ((d.rings (command_id h) ring).given_within p given);
          given = given;
          command = ap (λ (v : RingView). option_and_then command_of (slice_get v.queue p)) (sym command_view) ∙ u.command;
        },
        λ same. absurd (omega (arith, due.0, high, same)),
      )
