-- The step of a row that reads a Command Completion Event, whatever its command and its code
use Rattle.safety.proofs.UpperLaws.{typed_by_context, [], ◌≡◌, ◌+◌, ◌==◌, ◌∙◌, ℕ, not, true, false, List, Option, Some, is_some, unwrap_or, refl, sym, ap, rules, or_parts, cond-false, cond-true, Block, IsBlock, kind, code, slot, is_command_completion, Command, changes, command_of, named_context, can_succeed, Header, Read, Row, Config, IsHeader, command_id, register_or_zero, World, posted, Known, event_read, learned, lenient, on_ring, command_at, next_command, is_bad_area, has_bad_context, CommandKeeps, Agrees, bad_command_context, ring_elsewhere, StatesMatch, ChangeKeeps, states_match, let_go, completion_kind, seen_after, stop_ended_is, next_unfinished, stored, stored_block, world_changed_by_all, bindings_effect, ended, ended_with, passes_end, finish_succeeded, completed, known_finished, known_succeeded, is_placed_by, ◌≢◌, ◌<◌, ◌∷◌, Bool, map, All, get_or, eq-eqb, list_any, All-head, All-tail, ConfigureEndpoint, Running, Change, SlotGoesOn, Disables, Places, placed_by_context, added_endpoints, is_dropped, context_pointer, context_cycle, is_ring, is_among, has_repeats, ring_bound, binding_in, DriverKeeps, Stands, bad_context_parts, same_context, configure_same, slot_above, may_add, have_none, numbered, apart, ReadyAt, HasNone, ring_at, ready_next, placed_there, none_there, false≢true, each_fails, any_of_map, known_changed_by, subst, inl, inr, cases_Bool, PlacesNone, command_numbered, SetTrDequeue, Stopped, may_move, MayMove, ContextSize, AreNoPlacings, arith, AddressDevice, is_off, address_same, first_binds, second_moves, slot_binds, slot_moves, and_left, and_right, not-true, was_stop_seen, learned_read, next_known, failed_read, put_off, Carries, Past, RingsGo, AtFloors, Follows, Leads, AreTimely, same_meant, is_done, event_shape}
use Rattle.std.proofs.Common.{option_map}
use Rattle.safety.specs.LazyRuns.Needs.{is_placed}
use Rattle.safety.proofs.LazyRuns.ChangesGo.{ListGoes, ChangeGoes, no_change_goes, change_then_goes, change_goes, changes_go, bind_goes, move_goes}
use Rattle.safety.proofs.LazyRuns.CompletionStep.{ReadyToFinish, finish_posted, spots_then, ready_to_finish, floors_then, CompletionLearns, FinishLeaves, completion_step}
use Rattle.safety.proofs.LazyRuns.PostStep.{EventLawOf, timely_running}

-- The success of a command, from its changes: the lazy run goes on

module _ (h : Header) where
  -- ---- it can succeed in the world as in what is known

  same_success : (k : Known) (w : World) (n : ℕ) (c : Command) → Agrees h k [] w →
      can_succeed w.slot_state w.endpoint_state (register_or_zero w.register Config) n c ≡ can_succeed k.slot_state k.endpoint_state (register_or_zero k.register Config) n c
  unfolding can_succeed
  same_success k w n c g = search (rules, is_some, same_meant, unwrap_or)

  low_end : (k : Known) (o : Option ℕ) → has_bad_context h k o ≡ false → passes_end h o ≡ false
  unfolding passes_end has_bad_context is_bad_area
  low_end k o good = grind (arith, or_parts)

  -- ---- what it leaves

  success_learns : (k : Known) (b : Block) (c : Command) → is_command_completion (kind b) ≡ true → (code b == 1) ≡ true → command_at h k (next_command h k) ≡ Some c →
      CompletionLearns h k (learned h k (Read b)) (known_succeeded h k (slot b) c)
  unfolding learned event_read completed known_finished on_ring
  success_learns k b c completion one here = search (rules, completion_kind, cond-true, seen_after, stop_ended_is, ring_elsewhere)

  -- ---- the step

  -- what its changes do, from what is known of the command and of the world
  abbrev pub EffectGoes : Known → World → ℕ → Command → Type 0
  EffectGoes k w n c = (changes h.context_size w.memory n c ≡ changes h.context_size k.memory n c) × ListGoes h c k w (changes h.context_size k.memory n c)

  -- what was tested of the command when it was given holds still
  pub given_then : (past : Past h) (later : List Row) (b : Block) → IsHeader h → (ready : ReadyToFinish h past later b) → CommandKeeps h past.known (next_command h past.known) ready.says.command
  given_then past later b is ready =
      let c : Command = ready.says.command in
      ready.keeps.unfinished (next_command h past.known) c (next_unfinished h is past.known ready.keeps ready.says.started ready.says.below c ready.says.here)

  module _ (past : Past h) (later : List Row) (b : Block) (completion : is_command_completion (kind b) ≡ true) (one : (code b == 1) ≡ true) (ready : ReadyToFinish h past later b) (is : IsHeader h)
      (effect : EffectGoes past.known ready.world (slot b) ready.says.command) where
    abbrev k : Known
    k = past.known

    abbrev w : World
    w = ready.world

    abbrev c : Command
    c = ready.says.command

    abbrev m : Known
    m = known_succeeded h k (slot b) c

    list : ListGoes h c k w (changes h.context_size k.memory (slot b) c)
    list = effect.1

    makes : bindings_effect h w (slot b) c ≡ Some list.world
    unfolding bindings_effect
    makes = ap (λ l. world_changed_by_all h c w l) effect.0 ∙ list.made

    succeeds : finish_succeeded h w (slot b) (Some c) ≡ Some list.world
    unfolding finish_succeeded
    succeeds =
        let can : can_succeed k.slot_state k.endpoint_state (register_or_zero k.register Config) (slot b) c ≡ true = sym (cond-true (code b == 1) _ _ one) ∙ ready.says.may in
        simp (low_end k (named_context c) (bad_command_context h k c (given_then past later b is ready).good), same_success k w (slot b) c ready.agrees ∙ can) makes

    keeps : ChangeKeeps h k m w list.world
    unfolding known_succeeded
    keeps = list.keeps

    still : list.world.halted ≡ w.halted
    still = ap (λ (y : World). y.halted) keeps.rest.world

    pub success_step : IsBlock b → lenient h past.known (Read b) ≡ [] → is_done past.known.halt ≡ false → Carries h past (Read b) later
    unfolding posted stored_block stored ended_with ended known_succeeded is_placed is_placed_by list event_shape
    success_step block clean running =
        completion_step h is past later b block clean completion (spots_then h past later b) (λ q. refl) w (let_go (posted h list.world b)) list.world m ready.traced ready.stay
        running ready.opened (finish_posted h past later b (let_go (posted h list.world b)) completion ready (search (rules, cond-true, code, option_map, ended, finish_succeeded, w, slot, command_of, succeeds))) (search (rules, let_go, still))
        (success_learns k b c completion one ready.says.here) (search (rules, list, code, is_placed_by, slot, command_at, next_command, command_id)) ready.run

  -- the states of what is known are those of the world, before the first change
  pub states_then : (past : Past h) (later : List Row) (b : Block) → IsHeader h → (ready : ReadyToFinish h past later b) → StatesMatch h past.known ready.world
  states_then past later b is ready = states_match h is past.known ready.world ready.keeps past.keeps.numbered ready.agrees.matches

-- The success of a Configure Endpoint: the rings of the endpoints that it adds are bound

module _ (h : Header) (is : IsHeader h) (memory : ℕ → ℕ) (s a : ℕ) (c : Command) (above : 0 < s) (low : s < 256) where
  -- the added ones, each in turn
  each_goes : (indices : List ℕ) (l : Known) (u : World) → StatesMatch h l u → AtFloors h l u → All (ReadyAt h is l memory s a) indices → All (HasNone h is memory s a l) indices → All (λ i. (0 < i) × (i < 32)) indices →
      has_repeats (map (ring_at h is memory a) indices) ≡ false → ListGoes h c l u (map (placed_by_context h.context_size memory s a) indices)
  unfolding has_repeats is_among
  each_goes [] l u m at ready none within distinct = no_change_goes h c l u m at
  each_goes (i ∷ rest) l u m at ready none within distinct =
      let first : ReadyAt h is l memory s a i = All-head (ReadyAt h is l memory s a) i rest ready in
      let later : All (ReadyAt h is l memory s a) rest = All-tail (ReadyAt h is l memory s a) i rest ready in
      let index = All-head (λ i. (0 < i) × (i < 32)) i rest within in
      let p : ℕ = context_pointer h.context_size memory a i in
      let cycle : Bool = context_cycle h.context_size memory a i in
      let change : Change = Places s i p cycle Running in
      let n : Known = known_changed_by h c l change in
      let parts = or_parts (is_among (map (ring_at h is memory a) rest) (ring_at h is memory a i)) (has_repeats (map (ring_at h is memory a) rest)) distinct in
      let missing : list_any (is_ring first.ring) (map (ring_at h is memory a) rest) ≡ false = sym (ap (is_among (map (ring_at h is memory a) rest)) first.named) ∙ parts.0 in
      let others : All (λ j. is_ring first.ring (ring_at h is memory a j) ≡ false) rest =
      each_fails (λ j. is_ring first.ring (ring_at h is memory a j)) rest (sym (any_of_map (is_ring first.ring) (ring_at h is memory a) rest) ∙ missing) in
      let one : ChangeGoes h c l u change =
      bind_goes h is c l u s i p cycle Running m at (above, low, index.0, index.1) (record { memory = memory; ready = first; none = All-head (HasNone h is memory s a l) i rest none }) in
      change_then_goes h c l u change (map (placed_by_context h.context_size memory s a) rest) one
      (each_goes rest n one.world one.keeps.states one.goes.at_floors
      (λ y e inside. ready_next h is c l memory s a i first.ring (get_or rest y e) first.off first.named (later y e inside) (others y e inside))
      (λ y e inside.
      let j : ℕ = get_or rest y e in
      let other : j ≢ i = λ same. false≢true (sym (others y e inside) ∙ ap (is_ring first.ring) (ap (ring_at h is memory a) same ∙ first.named) ∙ eq-eqb first.ring first.ring refl) in
      none_there h is memory s a l n i j first.ring (placed_there h is c l s i p first.ring cycle first.off first.named) other (All-tail (HasNone h is memory s a l) i rest none y e inside))
      (All-tail (λ i. (0 < i) × (i < 32)) i rest within) parts.1)

module _ (h : Header) (is : IsHeader h) (k : Known) (w : World) (d : DriverKeeps h k) (m : StatesMatch h k w) (at : AtFloors h k w) (s a : ℕ) (low : s < 256)
    (given : CommandKeeps h k (next_command h k) (ConfigureEndpoint s false a)) where
  abbrev configure : Command
  configure = ConfigureEndpoint s false a

  -- behind the change of the slot's state, and behind the drops
  abbrev l : Known
  l = known_changed_by h configure k (SlotGoesOn s)

  abbrev types : Change
  types = typed_by_context h.context_size k.memory s a

  abbrev typed : Known
  typed = known_changed_by h configure l types

  abbrev drops : Change
  drops = Disables s (is_dropped k.memory a)

  abbrev adds : List Change
  adds = map (placed_by_context h.context_size k.memory s a) (added_endpoints k.memory a)

  first : ChangeGoes h configure k w (SlotGoesOn s)
  first = change_goes h configure k w m at (SlotGoesOn s) tt

  second : ChangeGoes h configure l first.world types
  second = change_goes h configure l first.world first.keeps.states first.goes.at_floors types tt

  third : ChangeGoes h configure typed second.world drops
  third = change_goes h configure typed second.world second.keeps.states second.goes.at_floors drops tt

  fourth : ListGoes h configure (known_changed_by h configure typed drops) third.world adds
  unfolding ring_bound binding_in
  fourth =
      each_goes h is k.memory s a configure (slot_above h k d configure s given.good refl) low (added_endpoints k.memory a) (known_changed_by h configure typed drops) third.world third.keeps.states
      third.goes.at_floors (may_add h is k d s a given) (have_none h is k d s a given) (numbered h is k d s a given) (apart h is k d s a given)

  all : ListGoes h configure k w (SlotGoesOn s ∷ types ∷ drops ∷ adds)
  all =
      change_then_goes h configure k w (SlotGoesOn s) (types ∷ drops ∷ adds) first
      (change_then_goes h configure l first.world types (drops ∷ adds) second (change_then_goes h configure typed second.world drops adds third fourth))

  pub configure_effect : (slot : ℕ) → Stands h k w → EffectGoes h k w slot (ConfigureEndpoint s false a)
  unfolding changes
  configure_effect slot stands = search (rules, configure_same, w, k, same_context, bad_context_parts, bad_command_context, all)

-- The completion of a command that doesn't succeed: it leaves all rings of endpoints
module _ (h : Header) where
  -- what it leaves of the world, and what it adds to what is known
  failed_leaves : (w : World) (b : Block) → FinishLeaves h w (let_go (posted h w b)) w b
  unfolding posted stored_block stored
  failed_leaves w b = record { memory = refl; posted = refl; reads = refl; halted = refl; rings = λ q. refl; command = refl }

  failed_learns : (k : Known) (b : Block) (c : Command) → is_command_completion (kind b) ≡ true → command_at h k (next_command h k) ≡ Some c → (code b == 1) ≡ false →
      CompletionLearns h k (learned h k (Read b)) k
  failed_learns k b c completion here fails =
      let same : learned h k (Read b) ≡ next_known h k (seen_after k c) (k.reads + 1) = learned_read h k b ∙ failed_read h k b c (k.reads + 1) completion here fails in
      subst (λ l. CompletionLearns h k l k) (sym same) (record { ring_of = λ s i. refl; rings = λ q other. put_off k.ring (command_id h) _ q other })

  module _ (past : Past h) (later : List Row) (b : Block) (completion : is_command_completion (kind b) ≡ true) (fails : (code b == 1) ≡ false) (ready : ReadyToFinish h past later b) where
    fails_so : ended_with h h ready.world b ready.taken ≡ Some (let_go (posted h ready.world b))
    unfolding ended_with ended
    fails_so = search (rules, cond-false, code, option_map, ended, finish_succeeded, slot, command_of, let_go, posted, not-true, was_stop_seen, not)

    rings_stay : RingsGo h past.known past.known ready.world (λ r. is_placed h past.known r b)
    unfolding is_placed
    rings_stay = search (rules, floors_then, and_left, and_right)

  pub failed_step : (past : Past h) (later : List Row) (b : Block) (w : World) → is_command_completion (kind b) ≡ true → (code b == 1) ≡ false → IsHeader h → IsBlock b → lenient h past.known (Read b) ≡ [] →
      AreTimely h past.known ((Read b) ∷ later) → Leads h past past.made ((Read b) ∷ later) w → Follows h past.known past.pointers w → Carries h past (Read b) later
  failed_step past later b w completion fails is block clean timely run f =
      let running = timely_running h past.known b timely.0.1 in
      let ready : ReadyToFinish h past later b = ready_to_finish h is past later b w completion clean timely f running run in
      let v : World = let_go (posted h ready.world b) in
      completion_step h is past later b block clean completion (spots_then h past later b) (λ q. refl) ready.world v ready.world past.known ready.traced ready.stay
      running ready.opened (finish_posted h past later b v completion ready (fails_so past later b completion fails ready)) (failed_leaves ready.world b)
      (failed_learns past.known b ready.says.command completion ready.says.here fails) (rings_stay past later b completion fails ready) ready.run

-- The success of an Address Device: the default control endpoint's ring is bound, or stays where it is
module _ (h : Header) (is : IsHeader h) (k : Known) (w : World) (d : DriverKeeps h k) (m : StatesMatch h k w) (at : AtFloors h k w) (s n : ℕ) (bsr : Bool) (low : s < 256)
    (given : CommandKeeps h k (next_command h k) (AddressDevice s bsr n)) where
  abbrev address : Command
  address = AddressDevice s bsr n

  abbrev p : ℕ
  p = context_pointer h.context_size k.memory n 1

  abbrev cycle : Bool
  cycle = context_cycle h.context_size k.memory n 1

  -- behind the change of the slot's state
  abbrev slot_known : Known
  slot_known = known_changed_by h address k (SlotGoesOn s)

  slot_first : ChangeGoes h address k w (SlotGoesOn s)
  slot_first = change_goes h address k w m at (SlotGoesOn s) tt

  place_second : ChangeGoes h address slot_known slot_first.world (Places s 1 p cycle Running)
  place_second =
      let numbered : (0 < s) × (s < 256) × (0 < 1) × (1 < 32) = (slot_above h k d address s given.good refl, low, omega arith, omega arith) in
      elim (cases_Bool (is_off (k.endpoint_state s 1))) [
        | inl off ↦
            bind_goes h is address slot_known slot_first.world s 1 p cycle Running slot_first.keeps.states slot_first.goes.at_floors numbered
            (slot_binds h is k d s n bsr given (first_binds h is k d s n bsr given off))
        | inr on ↦
            move_goes h is address slot_known slot_first.world s 1 p cycle Running slot_first.keeps.states slot_first.goes.at_floors numbered
            (slot_moves h is k d s n bsr given (second_moves h is k d s n bsr given on))
      ]

  both : ListGoes h address k w (SlotGoesOn s ∷ Places s 1 p cycle Running ∷ [])
  both =
      change_then_goes h address k w (SlotGoesOn s) (Places s 1 p cycle Running ∷ []) slot_first
      (change_then_goes h address slot_known slot_first.world (Places s 1 p cycle Running) [] place_second
      (no_change_goes h address (known_changed_by h address slot_known (Places s 1 p cycle Running)) place_second.world place_second.keeps.states place_second.goes.at_floors))

  pub address_effect : (slot : ℕ) → Stands h k w → EffectGoes h k w slot (AddressDevice s bsr n)
  unfolding changes
  address_effect slot stands = search (rules, address_same, w, k, same_context, bad_context_parts, bad_command_context, both)

-- The success of a command that places no ring: No Op, Enable Slot, Disable Slot, Evaluate Context, Reset Endpoint, Stop Endpoint,
-- Reset Device, and a Configure Endpoint that deconfigures

-- its changes place nothing, and read no memory
record ChangesPlain (size : ContextSize) (f g : ℕ → ℕ) (n : ℕ) (c : Command) : Type 0 where
  plain : AreNoPlacings (changes size g n c)
  same : changes size f n c ≡ changes size g n c

changes_plain : (size : ContextSize) (f g : ℕ → ℕ) (n : ℕ) (c : Command) → PlacesNone c → ChangesPlain size f g n c
unfolding changes
changes_plain size f g n o none = grind (arith, true)

module _ (h : Header) where
  pub slot_effect : (k : Known) (w : World) (n : ℕ) (c : Command) → PlacesNone c → StatesMatch h k w → AtFloors h k w → EffectGoes h k w n c
  slot_effect k w n c none m at = search (rules, changes_plain, changes_go, changes)

-- The success of a Set TR Dequeue: the ring stands where it was moved
pub dequeue_effect : (h : Header) → IsHeader h → (k : Known) (w : World) (n s i p : ℕ) (cycle : Bool) → DriverKeeps h k → StatesMatch h k w → AtFloors h k w →
    CommandKeeps h k (next_command h k) (SetTrDequeue s i p cycle) → EffectGoes h k w n (SetTrDequeue s i p cycle)
unfolding changes
dequeue_effect h is k w n s i p cycle d m at given =
    let c : Command = SetTrDequeue s i p cycle in
    let change : Change = Places s i p cycle Stopped in
    let may : MayMove h k s i p cycle = may_move h is k d s i p cycle given.moves_on in
    let one : ChangeGoes h c k w change = move_goes h is c k w s i p cycle Stopped m at (m.within s i may.ring may.had) may in
    (refl, change_then_goes h c k w change [] one (no_change_goes h c (known_changed_by h c k change) one.world one.keeps.states one.goes.at_floors))

module _ (h : Header) (is : IsHeader h) (past : Past h) (later : List Row) (b : Block) (ready : ReadyToFinish h past later b) where
  -- the command by its name
  command_keeps : (c : Command) → ready.says.command ≡ c → CommandKeeps h past.known (next_command h past.known) c
  command_keeps c here = subst (λ x. CommandKeeps h past.known (next_command h past.known) x) here (given_then h past later b is ready)

  command_there : (c : Command) → ready.says.command ≡ c → command_of ready.taken.block ≡ Some c
  command_there c here = ready.command_is ∙ ap (λ x. Some x) here

  plain : (c : Command) → PlacesNone c → EffectGoes h past.known ready.world (slot b) c
  plain c none = slot_effect h past.known ready.world (slot b) c none (states_then h past later b is ready) (floors_then h past later b ready)

  command_effect : (c : Command) → ready.says.command ≡ c → EffectGoes h past.known ready.world (slot b) c
  command_effect (ConfigureEndpoint s false a) here = search (rules, plain, states_then, floors_then, command_numbered, command_there, command_keeps, configure_effect)
  command_effect (ConfigureEndpoint s true a) here = search (rules, plain)
  command_effect _ here = search (rules, plain, address_effect, states_then, floors_then, command_numbered, command_there, command_keeps, configure_effect, dequeue_effect)

pub completion_law : (h : Header) → EventLawOf h is_command_completion
completion_law h past later b w completion is block clean timely run f =
    elim (cases_Bool (code b == 1)) [
      | inl one ↦
          let running = timely_running h past.known b timely.0.1 in
          let ready : ReadyToFinish h past later b = ready_to_finish h is past later b w completion clean timely f running run in
          success_step h past later b completion one ready is (command_effect h is past later b ready ready.says.command refl) block clean running
      | inr fails ↦ failed_step h past later b w completion fails is block clean timely run f
    ]
