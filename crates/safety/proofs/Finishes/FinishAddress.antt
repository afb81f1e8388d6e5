-- The controller finishes an Address Device with success: the run goes on
use Rattle.safety.proofs.MiddleLaws.{[], ◌≡◌, ◌<◌, ◌≤◌, ◌∷◌, ◌∙◌, ℕ, Bool, true, false, Some, arith, refl, sym, ap, subst, inl, inr, rules, cases_Bool, cases_lt, false≢true, Shape, IsShape, RingView, floor_number, given_count, RingKeeps, cases_option, given_below, step_is, floor_given, given_count_declared, ceiling_within, Command, AddressDevice, Running, SlotGoesOn, Places, changes, is_off, context_pointer, context_cycle, Header, IsHeader, shape_of, World, Known, next_command, DriverKeeps, CommandKeeps, Stays, Stands, changed_by, changed_by_all, succeeded, ring_shape, transfer_driver, bad_context_parts, bad_command_context, slot_above, off_none, rings_of, address_ready, slot_keeps, StatesMatch, ChangeKeeps, same_context, address_same}
use Rattle.safety.proofs.RingsKeep.KeptRings.{command_holds}
use Rattle.safety.proofs.Finishes.PlaceKeeps.{MayBind, MayMove, bind_keeps, move_keeps}
use Rattle.safety.proofs.Finishes.FinishSuccess.{EffectKeeps}
use Rattle.safety.proofs.Finishes.FinishGiven.{ListKeeps, nothing_keeps, change_then}
use Rattle.world_state.specs.Bindings as bindings

-- ---- a ring on which nothing from the floor on is given

nothing_ahead : (shape : Shape) → IsShape shape → (memory : ℕ → ℕ) (v : RingView) → RingKeeps shape memory v → ((p : ℕ) → floor_number v ≤ p → v.given p ≡ false) → given_count shape v ≤ floor_number v
nothing_ahead shape is memory v k nothing =
    elim (cases_lt (floor_number v) (given_count shape v)) [
      | inl more ↦ absurd (false≢true (sym (nothing (floor_number v) (omega arith)) ∙ (step_is shape v (floor_number v) (given_below shape v (floor_number v) more)).0))
      | inr within ↦ within
    ]

module _ (h : Header) (is : IsHeader h) (k : Known) (d : DriverKeeps h k) (s n : ℕ) (bsr : Bool) (given : CommandKeeps h k (next_command h k) (AddressDevice s bsr n)) where
  abbrev pub p : ℕ
  p = context_pointer h.context_size k.memory n 1

  abbrev pub cycle : Bool
  cycle = context_cycle h.context_size k.memory n 1

  -- where endpoint 1 is off
  pub first_binds : is_off (k.endpoint_state s 1) ≡ true → MayBind h k s 1 p cycle
  first_binds off = record { memory = k.memory; ready = address_ready h is k (rings_of h k d) s n bsr (command_holds h k (next_command h k) (AddressDevice s bsr n) given) off; none = off_none h k d s 1 off }

  -- where it isn't
  moves_at : is_off (k.endpoint_state s 1) ≡ false → (r : ℕ) → k.ring_of s 1 ≡ Some r → MayMove h k s 1 p cycle
  moves_at on r had =
      let transfer = d.states.transfer s 1 r had in
      let driver = transfer_driver h r transfer in
      let allowed = (ring_shape h is r driver).is in
      let keeps = d.rings r driver in
      let stays : Stays h k r n = given.stays r had in
      let within = ceiling_within (shape_of h r) allowed k.memory (k.ring r) keeps in
      let none = nothing_ahead (shape_of h r) allowed k.memory (k.ring r) keeps stays.nothing in
      record {
        on = on;
        ring = r;
        had = had;
        transfer = transfer;
        keeps = keeps;
        least = floor_number (k.ring r);
        most = floor_number (k.ring r);
        low = omega (arith, within.1);
        floor = omega arith;
        high = omega (arith, floor_given (shape_of h r) allowed k.memory (k.ring r) keeps, given_count_declared (shape_of h r) allowed k.memory (k.ring r) keeps);
        moves = stays.here;
      }

  pub second_moves : is_off (k.endpoint_state s 1) ≡ false → MayMove h k s 1 p cycle
  second_moves on = elim (cases_option (k.ring_of s 1)) [ inl none ↦ absurd (false≢true (sym on ∙ ap is_off (d.states.off s 1 none))) | inr some ↦ moves_at on some.0 some.1 ]

  -- ---- behind the change of the slot's state

  abbrev pub c : Command
  c = AddressDevice s bsr n

  pub slot_binds : MayBind h k s 1 p cycle → MayBind h (changed_by h c k (SlotGoesOn s)) s 1 p cycle
  unfolding changed_by
  slot_binds b = search (rules, b.ready)

  pub slot_moves : MayMove h k s 1 p cycle → MayMove h (changed_by h c k (SlotGoesOn s)) s 1 p cycle
  unfolding changed_by
  slot_moves m = search rules

  place_keeps : (u v : World) → StatesMatch h (changed_by h c k (SlotGoesOn s)) u → s < 256 → bindings.changed_by h c u (Places s 1 p cycle Running) ≡ Some v →
      ChangeKeeps h (changed_by h c k (SlotGoesOn s)) (changed_by h c (changed_by h c k (SlotGoesOn s)) (Places s 1 p cycle Running)) u v
  place_keeps u v m low at =
      let l : Known = changed_by h c k (SlotGoesOn s) in
      let numbered : (0 < s) × (s < 256) × (0 < 1) × (1 < 32) = (slot_above h k d c s given.good refl, low, omega arith, omega arith) in
      elim (cases_Bool (is_off (k.endpoint_state s 1))) [
        | inl off ↦ bind_keeps h is c l u v s 1 p cycle Running m numbered at (slot_binds (first_binds off))
        | inr on ↦ move_keeps h is c l u v s 1 p cycle Running m numbered at (slot_moves (second_moves on))
      ]

  list_keeps : (w : World) → StatesMatch h k w → s < 256 → ListKeeps h c k w (SlotGoesOn s ∷ Places s 1 p cycle Running ∷ [])
  list_keeps w m low = search (rules, change_then, slot_keeps, place_keeps, nothing_keeps)

  pub address_changes : (m : ℕ) → changes h.context_size k.memory m c ≡ SlotGoesOn s ∷ Places s 1 p cycle Running ∷ []
  unfolding changes
  address_changes m = refl

  pub address_keeps : (w : World) (m : ℕ) → Stands h k w → StatesMatch h k w → s < 256 → EffectKeeps h k w m c
  unfolding bindings.effect succeeded
  address_keeps w m stands states low x at =
      let world_list : changes h.context_size w.memory m c ≡ SlotGoesOn s ∷ Places s 1 p cycle Running ∷ [] =
      address_same h.context_size w.memory k.memory m s n bsr (same_context h is k w n stands (bad_context_parts h k n (bad_command_context h k c given.good))) ∙ address_changes m in
      subst (λ list. ChangeKeeps h k (changed_by_all h c k list) w x) (sym (address_changes m))
      (list_keeps w states low x (ap (λ list. bindings.changed_by_all h c w list) (sym world_list) ∙ at))
