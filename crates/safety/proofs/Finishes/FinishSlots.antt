-- The controller finishes with success a command that places no endpoint on a ring: the run goes on
use Rattle.safety.proofs.MiddleLaws.{Types, [], ◌≡◌, ◌∷◌, ◌∙◌, ℕ, true, false, List, Option, Some, option_and_then, ap, subst, none-some, same_Some, Command, AddressDevice, ConfigureEndpoint, SetTrDequeue, Change, SlotGoesOn, DeviceLeft, Disables, Places, Stops, Resets, changes, Header, World, Known, changed_by, changed_by_all, succeeded, arith, StatesMatch, ChangeKeeps, none_keeps, both_keep, slot_keeps, device_keeps, types_keeps, reset_keeps, stop_keeps, disable_keeps}
use Rattle.safety.proofs.Finishes.FinishSuccess.{EffectKeeps}
use Rattle.world_state.specs.Bindings as bindings

-- ---- changes that place nothing

abbrev pub IsNoPlacing : Change → Type 0
IsNoPlacing (Places s i p cycle state) = ⊥
IsNoPlacing _ = Unit {0}

abbrev pub AreNoPlacings : List Change → Type 0
AreNoPlacings [] = Unit {0}
AreNoPlacings (change ∷ rest) = IsNoPlacing change × AreNoPlacings rest

pub some_then : {A B : Type 0} (f : A → Option B) (o : Option A) (y : B) → option_and_then f o ≡ Some y → (x : A) × (o ≡ Some x) × (f x ≡ Some y)
some_then f o y at = grind (arith, none-some)

module _ (h : Header) (c : Command) where
  pub change_keeps : (change : Change) → IsNoPlacing change → (k : Known) (w v : World) → StatesMatch h k w → bindings.changed_by h c w change ≡ Some v → ChangeKeeps h k (changed_by h c k change) w v
  change_keeps (SlotGoesOn s) none k w v m at = slot_keeps h c k w m s v at
  change_keeps (DeviceLeft s) none k w v m at = device_keeps h c k w m s v at
  change_keeps (Types s which isochronous) none k w v m at = types_keeps h c k w m s which isochronous v at
  change_keeps (Disables s which) none k w v m at = disable_keeps h c k w m s which v at
  change_keeps (Places s i p cycle state) none k w v m at = absurd none
  change_keeps (Stops s i) none k w v m at = stop_keeps h c k w m s i v at
  change_keeps (Resets s i) none k w v m at = reset_keeps h c k w m s i v at

  pub changes_keep : (l : List Change) → AreNoPlacings l → (k : Known) (w v : World) → StatesMatch h k w → bindings.changed_by_all h c w l ≡ Some v → ChangeKeeps h k (changed_by_all h c k l) w v
  unfolding bindings.changed_by_all changed_by_all
  changes_keep [] none k w v m at = subst (λ x. ChangeKeeps h k k w x) (same_Some w v at) (none_keeps h k w m)
  changes_keep (change ∷ rest) none k w v m at =
      let u = some_then (λ x. bindings.changed_by_all h c x rest) (bindings.changed_by h c w change) v at in
      let one = change_keeps change none.0 k w u.0 m u.1 in
      both_keep h k (changed_by h c k change) (changed_by_all h c (changed_by h c k change) rest) w u.0 v one.rest
      (changes_keep rest none.1 (changed_by h c k change) u.0 v one.states u.2)

-- ---- commands whose success places nothing

abbrev pub PlacesNone : Command → Type 0
PlacesNone (AddressDevice s bsr n) = ⊥
PlacesNone (ConfigureEndpoint s false n) = ⊥
PlacesNone (SetTrDequeue s i p cycle) = ⊥
PlacesNone _ = Unit {0}

-- it keeps that states agree: No Op, Enable Slot, Disable Slot, Evaluate Context, Reset Endpoint, Stop Endpoint, Reset Device, and a Configure Endpoint that deconfigures
pub effect_keeps : (h : Header) (k : Known) (w : World) (n : ℕ) (e : Command) → PlacesNone e → StatesMatch h k w → EffectKeeps h k w n e
unfolding bindings.effect succeeded changes
effect_keeps h k w n e none m x at =
    changes_keep h e (changes h.context_size k.memory n e) (grind (arith, true)) k w x m
    (ap (λ l. bindings.changed_by_all h e w l) (grind (arith, true)) ∙ at)
