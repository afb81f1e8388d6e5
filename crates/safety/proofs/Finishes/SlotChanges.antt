-- The changes of a success that touch no ring: a slot's state goes on, its device context is left, an endpoint is reset
use Rattle.safety.proofs.LowerLaws.{typed, Types, ◌≡◌, ◌==◌, ◌&&◌, if◌then◌else◌, ℕ, Bool, Some, unwrap_or, ap, subst, rules, false≢true, same_Some, put_pair, Command, EndpointState, Stopped, SlotGoesOn, DeviceLeft, Resets, Header, World, Known, changed_by, in_state, put_at, put_off, StatesMatch, ChangeKeeps}
use Rattle.world_state.specs.Bindings as bindings

pub same_put_pair : {A : Type 0} (f g : ℕ → ℕ → A) (s i : ℕ) (x : A) → ((t j : ℕ) → f t j ≡ g t j) → (t j : ℕ) → put_pair f s i x t j ≡ put_pair g s i x t j
same_put_pair f g s i x same t j = ap (λ z. if t == s && j == i then x else z) (same t j)

module _ (h : Header) (c : Command) (k : Known) (w : World) (m : StatesMatch h k w) where
  -- an endpoint is in a new state
  pub state_made : (s i : ℕ) (state : EndpointState) → ChangeKeeps h k (in_state h k s i state) w (bindings.in_state w s i state)
  unfolding in_state bindings.in_state
  state_made s i state = search (rules, same_put_pair)

  pub slot_keeps : (s : ℕ) (v : World) → bindings.changed_by h c w (SlotGoesOn s) ≡ Some v → ChangeKeeps h k (changed_by h c k (SlotGoesOn s)) w v
  unfolding bindings.changed_by changed_by
  slot_keeps s v at = subst (λ x. ChangeKeeps h k (changed_by h c k (SlotGoesOn s)) w x) (same_Some _ v at) (search (rules, unwrap_or))

  pub device_keeps : (s : ℕ) (v : World) → bindings.changed_by h c w (DeviceLeft s) ≡ Some v → ChangeKeeps h k (changed_by h c k (DeviceLeft s)) w v
  unfolding bindings.changed_by changed_by
  device_keeps s v at = subst (λ x. ChangeKeeps h k (changed_by h c k (DeviceLeft s)) w x) (same_Some _ v at) (search (rules, false≢true, put_at, put_off))

  pub types_keeps : (s : ℕ) (which isochronous : ℕ → Bool) (v : World) → bindings.changed_by h c w (Types s which isochronous) ≡ Some v →
      ChangeKeeps h k (changed_by h c k (Types s which isochronous)) w v
  unfolding bindings.changed_by changed_by typed bindings.typed
  types_keeps s which isochronous v at = subst (λ x. ChangeKeeps h k (changed_by h c k (Types s which isochronous)) w x) (same_Some _ v at) (search rules)

  pub reset_keeps : (s i : ℕ) (v : World) → bindings.changed_by h c w (Resets s i) ≡ Some v → ChangeKeeps h k (changed_by h c k (Resets s i)) w v
  unfolding bindings.changed_by changed_by
  reset_keeps s i v at = subst (λ x. ChangeKeeps h k (in_state h k s i Stopped) w x) (same_Some _ v at) (state_made s i Stopped)
