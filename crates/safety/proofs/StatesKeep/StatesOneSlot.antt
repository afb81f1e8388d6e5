-- One slot behind the success of a command that concerns it
use Rattle.safety.proofs.LowerLaws.{◌≡◌, ◌≢◌, ◌⊎◌, ℕ, Bool, true, false, Option, None, Some, is_some, unwrap_or, refl, inl, inr, false≢true, none-some, Command, EnableSlot, DisableSlot, AddressDevice, ConfigureEndpoint, ResetDevice, SlotState, Disabled, Enabled, Default, Addressed, Configured, slot_success, rules, arith, SlotStands}

-- the state behind it
abbrev pub state_after : Command → SlotState → SlotState
state_after c state = unwrap_or (slot_success c state) state

module _ (rings after : ℕ → Option ℕ) (device left : Option ℕ) where
  pub slot_enabled : (state : SlotState) → is_some (slot_success EnableSlot state) ≡ true → SlotStands state rings device → SlotStands (state_after EnableSlot state) rings device
  slot_enabled o may was = grind (arith, was.slots, false≢true)

  pub slot_disabled : (s : ℕ) (state : SlotState) → is_some (slot_success (DisableSlot s) state) ≡ true → ((i : ℕ) → after i ≡ None) → left ≡ None →
      SlotStands (state_after (DisableSlot s) state) after left
  slot_disabled s o may none gone = grind (arith, false≢true, none-some)

  -- endpoint 1 alone is there
  one_there : (state : SlotState) → state ≢ Disabled → state ≢ Enabled → ((i r : ℕ) → after i ≡ Some r → i ≡ 1) → after 1 ≢ None → SlotStands state after left
  one_there state there some one first = search rules

  no_endpoints : SlotStands Enabled rings device → (i r : ℕ) → (i ≡ 1) ⊎ (rings i ≡ Some r) → i ≡ 1
  no_endpoints was i r at = elim at [ inl one ↦ one | inr there ↦ absurd ((was.slots i r there).1 refl) ]

  pub slot_addressed : (s n : ℕ) (bsr : Bool) (state : SlotState) → is_some (slot_success (AddressDevice s bsr n) state) ≡ true → SlotStands state rings device →
      ((i r : ℕ) → after i ≡ Some r → (i ≡ 1) ⊎ (rings i ≡ Some r)) → after 1 ≢ None → SlotStands (state_after (AddressDevice s bsr n) state) after left
  slot_addressed s n true Enabled may was fewer first = one_there Default (λ is. cc) (λ is. cc) (λ i r at. no_endpoints was i r (fewer i r at)) first
  slot_addressed s n false Enabled may was fewer first = one_there Addressed (λ is. cc) (λ is. cc) (λ i r at. no_endpoints was i r (fewer i r at)) first
  slot_addressed s n false Default may was fewer first = one_there Addressed (λ is. cc) (λ is. cc) (λ i r at. (search (rules, was.slots))) first
  slot_addressed s n true Default may was fewer first = absurd (false≢true may)
  slot_addressed s n true Disabled may was fewer first = absurd (false≢true may)
  slot_addressed s n false Disabled may was fewer first = absurd (false≢true may)
  slot_addressed s n true Addressed may was fewer first = absurd (false≢true may)
  slot_addressed s n false Addressed may was fewer first = absurd (false≢true may)
  slot_addressed s n true Configured may was fewer first = absurd (false≢true may)
  slot_addressed s n false Configured may was fewer first = absurd (false≢true may)

  first_there : (state : SlotState) → state ≢ Disabled → state ≢ Enabled → SlotStands state rings device → rings 1 ≢ None
  first_there state there some was = search rules

  -- all endpoints may be there
  all_there : after 1 ≢ None → SlotStands Configured after left
  all_there first = record { slots = λ i r at. (λ is. cc, λ is. cc, inr refl); first = inr (inr first); no_device = λ is. cc }

  pub slot_configured : (s n : ℕ) (state : SlotState) → is_some (slot_success (ConfigureEndpoint s false n) state) ≡ true → SlotStands state rings device → (rings 1 ≢ None → after 1 ≢ None) →
      SlotStands (state_after (ConfigureEndpoint s false n) state) after left
  slot_configured s n o may was first = grind (arith, all_there, first_there, false≢true)

  pub slot_deconfigured : (s n : ℕ) (state : SlotState) → is_some (slot_success (ConfigureEndpoint s true n) state) ≡ true → SlotStands state rings device →
      ((i r : ℕ) → after i ≡ Some r → i ≡ 1) → (rings 1 ≢ None → after 1 ≢ None) → SlotStands (state_after (ConfigureEndpoint s true n) state) after left
  slot_deconfigured s n o may was one first = grind (arith, one_there, first_there, false≢true)

  pub slot_reset : (s : ℕ) (state : SlotState) → is_some (slot_success (ResetDevice s) state) ≡ true → SlotStands state rings device → ((i r : ℕ) → after i ≡ Some r → i ≡ 1) →
      (rings 1 ≢ None → after 1 ≢ None) → SlotStands (state_after (ResetDevice s) state) after left
  slot_reset s o may was one first = grind (arith, one_there, first_there, false≢true)
