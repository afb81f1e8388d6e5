-- A declaration keeps what is kept of unfinished commands
use Rattle.safety.proofs.MiddleLaws.{◌≡◌, ◌<◌, ◌∙◌, ℕ, List, option_and_then, slice_get, arith, refl, sym, ap, subst, inl, inr, rules, cases_eq, Block, number, RingView, Declares, declared, is_due, slice_get-append, Command, command_of, Header, IsHeader, shape_of, command_id, Known, on_ring, command_at, IsUnfinished, CommandKeeps, DriverKeeps, ring_here, ring_elsewhere, MovesStay, moves_declares, moves_stand, due_has_ring, Standing, still_restored, SameStates, RingsStay, same_stay, declared_free}

module _ (h : Header) (is : IsHeader h) (k : Known) (d : DriverKeeps h k) (r : ℕ) (blocks : List Block) where
  l : Known
  l = on_ring h k r (Declares blocks)

  states : SameStates k l
  unfolding on_ring l
  states = record { memory = refl; soiled = refl; device = refl; slot_state = refl; off = λ s i. refl; ring_of = refl; was_bound = refl }

  -- what a ring shows but its declared blocks is as it was
  record OnlyDeclares (v w : RingView) : Type 0 where
    pub floor : w.floor ≡ v.floor
    pub given : w.given ≡ v.given
    pub queue : (p : ℕ) → p < declared v → slice_get w.queue p ≡ slice_get v.queue p

  before : (p : ℕ) (c : Command) → IsUnfinished h l p c → IsUnfinished h k p c
  unfolding command_at l
  before p c u =
      let o : OnlyDeclares (k.ring (command_id h)) (l.ring (command_id h)) = search (rules, l, ring_here, slice_get-append, ring_elsewhere) in
      let due = ap (λ t. is_due (shape_of h (command_id h)) t p) (sym o.floor) ∙ u.due in
      let given = ap (λ f. f p) (sym o.given) ∙ u.given in
      let low = (d.rings (command_id h) (due_has_ring h is (k.ring (command_id h)).floor p due)).given_declared p given in
      record { due = due; given = given; command = ap (λ x. option_and_then command_of x) (sym (o.queue p low)) ∙ u.command }

  stays : (q : ℕ) → MovesStay (shape_of h q) (k.ring q) (l.ring q)
  unfolding l
  stays q =
      elim (cases_eq q r) [
        | inl same ↦ subst (λ n. MovesStay (shape_of h n) (k.ring n) ((on_ring h k r (Declares blocks)).ring n)) (sym same)
            (subst (λ w. MovesStay (shape_of h r) (k.ring r) w) (sym (ring_here h k r (Declares blocks))) (moves_declares (shape_of h r) (k.ring r) blocks))
        | inr other ↦ subst (λ w. MovesStay (shape_of h q) (k.ring q) w) (sym (ring_elsewhere h k r q (Declares blocks) other)) (moves_stand (shape_of h q) (k.ring q))
      ]

  standing : (q : ℕ) → Standing (shape_of h q) (k.ring q) (l.ring q)
  unfolding l
  standing q =
      let o : OnlyDeclares (k.ring q) (l.ring q) = search (rules, l, ring_here, slice_get-append, ring_elsewhere) in
      record {
        here = (stays q).standing;
        nothing = λ none p low. ap (λ f. f p) o.given ∙ none p (omega (arith, low, ap (λ t. number t) o.floor));
      }

  rings_stay : (c : Command) → RingsStay h k l c
  unfolding on_ring l
  rings_stay c = record { rest = λ s i p cycle at rests. rests; ahead = λ s i p q cycle at has rests. (stays q).ahead; standing = λ s n q bsr at has. standing q; still = λ q bound. (stays q).placed; moved = still_restored k (on_ring h k r (Declares blocks)) c (λ s i its. refl) (declared_free h k r blocks) }

  pub declared_commands : (p : ℕ) (c : Command) → IsUnfinished h (on_ring h k r (Declares blocks)) p c → CommandKeeps h (on_ring h k r (Declares blocks)) p c
  unfolding l
  declared_commands = same_stay h k l states d.unfinished before (λ p c u. rings_stay c)
