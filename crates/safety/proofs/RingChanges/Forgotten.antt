-- Of an ID that no ring has all may be forgotten
use Rattle.safety.proofs.UpperLaws.{[], ◌≡◌, ◌≢◌, ◌<◌, ◌∙◌, ℕ, List, Some, None, get_or, refl, sym, ap, subst, inl, inr, rules, emptied, forgotten, cases_eq, cases_option, none-some, Block, RingKeeps, Header, Ring, Read, IsHeader, ring_with, ring_having, shape_of, command_id, World, Known, learned, lenient, Binding, binds, ring_bound, IsTransferRing, DriverKeeps, Agrees, forgetting_agrees, context_lies, transfer_ring, command_named, having_transfer, BindsAsBefore, IsAsBefore, OtherRings, other_rings_keep, command_with, BindsAlike, read_possible, KeepsRings, next_kept, NextAlike}
use Rattle.safety.proofs.RingChanges.ReadAlike.{read_alike}
use Rattle.safety.proofs.RingChanges.Squares.{Other, cleared, cleared_apart, cleared_here, cleared_put}

module _ (h : Header) (is : IsHeader h) (k : Known) (d : DriverKeeps h k) (id : ℕ) (low : id < 256) (absent : ring_with h id ≡ None) where
  other : (s : ℕ) (q : Ring) → ring_with h s ≡ Some q → s ≢ id
  other s q found same = none-some q (sym absent ∙ ap (λ n. ring_with h n) (sym same) ∙ found)

  pub no_command : command_id h ≢ id
  no_command same = search (rules, cases_option, command_named, other, command_with)

  not_had : (s i x : ℕ) → k.ring_of s i ≡ Some x → x ≢ id
  not_had s i x at = let ring = d.states.transfer s i x at in other x ring.ring ring.found

  not_bound : (p s : ℕ) → ring_having h p ≡ Some s → s ≢ id
  not_bound p s names = let ring = transfer_ring h s (having_transfer h is p s names) in other s ring.ring ring.found

  as_before : (s : ℕ) → IsTransferRing h s → IsAsBefore h h.rings k (cleared id k.ring) s
  as_before s ring = record { transfer = ring; shape = refl; view = cleared_apart id k.ring s (other s ring.ring ring.found) }

  bound_same : (b : Binding) → BindsAsBefore h h.rings k (cleared id k.ring) b
  unfolding ring_bound
  bound_same b = λ s names. (names, as_before s (transfer_ring h s (having_transfer h is b.pointer s names)))

  pub others : OtherRings h h.rings k (cleared id k.ring)
  others = record {
    command = refl;
    command_ring = λ ring. ring;
    command_shape = refl;
    command_view = cleared_apart id k.ring (command_id h) no_command;
    events = refl;
    version = refl;
    size = refl;
    keeps = λ s ring. subst (λ v. RingKeeps (shape_of h s) k.memory v) (sym (cleared_apart id k.ring s (other s ring.ring ring.found))) (d.rings s ring);
    clean = d.clean;
    had = λ s i x at. as_before x (d.states.transfer s i x at);
    each = λ s. elim (cases_eq s id) [
      | inl here ↦ inr (ap (cleared id k.ring) here ∙ cleared_here id k.ring)
      | inr away ↦ inl (cleared_apart id k.ring s away)
    ];
    devices = λ s e at. let device = d.devices s e at in (device.rings, device.entry_rings);
    contexts = λ p n c u at. (context_lies h k d p n c u at).rings;
    binds = λ p c u i b l. bound_same (get_or (binds h k c) i b);
  }

  pub forgotten_keeps : DriverKeeps h (forgotten k id)
  unfolding forgotten
  forgotten_keeps = other_rings_keep h h.rings k (cleared id k.ring) d others

  pub forgotten_agrees : (w : World) (unread : List Block) → Agrees h k unread w → Agrees h (forgotten k id) unread (emptied w id)
  unfolding forgotten emptied
  forgotten_agrees w unread a = forgetting_agrees h h.rings k id (λ s away. refl) no_command not_had w d others unread a

  -- ---- an event

  rings_same : KeepsRings h h.rings (cleared id) (λ values. values) (Other id)
  rings_same = search (rules, cleared_apart, cleared_put)

  next_same : NextAlike h h.rings (cleared id) (λ values. values) (Other id) k
  next_same = next_kept h h.rings (cleared id) (λ values. values) (Other id) rings_same refl no_command k

  binds_same : BindsAlike h h.rings (cleared id) (λ values. values) (Other id) rings_same k
  binds_same p c u i b l = (refl, not_bound (get_or (binds h k c) i b).pointer)

  pub forgotten_read : (e : Block) → lenient h (forgotten k id) (Read e) ≡ lenient h k (Read e)
  unfolding forgotten
  forgotten_read e = read_possible h h.rings (cleared id) (λ values. values) (Other id) rings_same k next_same e not_had

  pub forgotten_learned : (e : Block) → lenient h k (Read e) ≡ [] → learned h (forgotten k id) (Read e) ≡ forgotten (learned h k (Read e)) id
  unfolding forgotten
  forgotten_learned e may = (read_alike h h.rings (cleared id) (λ values. values) (Other id) rings_same is k d next_same not_had binds_same e may).0
