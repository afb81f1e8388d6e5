-- The command that succeeds is one that was given: what was tested of it then holds still
use Rattle.safety.proofs.MiddleLaws.{[], ◌≡◌, ◌∷◌, List, Some, subst, same_Some, Command, Change, Header, World, Known, changed_by, changed_by_all, StatesMatch, ChangeKeeps, none_keeps, both_keep}
use Rattle.safety.proofs.Finishes.FinishSlots.{some_then}
use Rattle.world_state.specs.Bindings as bindings

-- ---- changes one after the other

-- these changes keep that states agree
abbrev pub ListKeeps : Header → Command → Known → World → List Change → Type 0
ListKeeps h c k w list = (x : World) → bindings.changed_by_all h c w list ≡ Some x → ChangeKeeps h k (changed_by_all h c k list) w x

pub nothing_keeps : (h : Header) (c : Command) (k : Known) (w : World) → StatesMatch h k w → ListKeeps h c k w []
unfolding bindings.changed_by_all changed_by_all
nothing_keeps h c k w m x at = subst (λ v. ChangeKeeps h k k w v) (same_Some w x at) (none_keeps h k w m)

pub change_then : (h : Header) (c : Command) (k : Known) (w : World) (change : Change) (rest : List Change) →
    ((v : World) → bindings.changed_by h c w change ≡ Some v → ChangeKeeps h k (changed_by h c k change) w v) →
    ((v : World) → bindings.changed_by h c w change ≡ Some v → StatesMatch h (changed_by h c k change) v → ListKeeps h c (changed_by h c k change) v rest) →
    ListKeeps h c k w (change ∷ rest)
unfolding bindings.changed_by_all changed_by_all
change_then h c k w change rest first later x at =
    let l : Known = changed_by h c k change in
    let v = some_then (λ y. bindings.changed_by_all h c y rest) (bindings.changed_by h c w change) x at in
    let one : ChangeKeeps h k l w v.0 = first v.0 v.1 in
    both_keep h k l (changed_by_all h c l rest) w v.0 x one.rest (later v.0 v.1 one.states x v.2)
