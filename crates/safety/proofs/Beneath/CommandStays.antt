-- Behind an event that is read before it, a second Address Device that a write gives finds nothing left on its ring
use Rattle.safety.proofs.UpperLaws.{[], ◌≡◌, ◌∙◌, ℕ, Bool, length, Some, arith, refl, sym, ap, subst, inl, inr, MayCome, cases_lt, Block, RingView, declared, floor_number, Command, AddressDevice, Header, Write, Read, IsHeader, Known, command_given, learned, lenient, DriverKeeps, Concerns, write_leaves, event_behind, rings_behind}
use Rattle.safety.proofs.Beneath.CommandBeneath.{written_keeps, command_event, alike_there}
use Rattle.safety.proofs.Beneath.GivenBehind.{there, facts}

module _ (h : Header) (is : IsHeader h) (k : Known) (d : DriverKeeps h k) (a w : ℕ) (e : Block) (clean : MayCome h k (Write a w)) (may : lenient h k (Read e) ≡ [])
    (c : Command) (given : command_given h k a w ≡ Some c) where
  abbrev l : Known
  l = learned h k (Read e)

  abbrev m : Known
  m = learned h k (Write a w)

  -- the rings of the endpoints that the command concerns are those that they had
  pub rings_concerned : (t i : ℕ) → Concerns m.memory c t i → l.ring_of t i ≡ k.ring_of t i
  rings_concerned t i its =
      let at = there h is k d a w e clean may c given in
      sym (ap (λ f. f t i) (alike_there h is k d a w e clean may).ring_of)
      ∙ rings_behind h is m (written_keeps h is k d a w e clean may) e (command_event h is k d a w e clean may) at.position c t i at.unfinished its
      ∙ ap (λ f. f t i) (write_leaves h k a w).slots.ring_of

  -- nor is anything behind the event
  pub left_behind : (s n r : ℕ) (bsr : Bool) → c ≡ AddressDevice s bsr n → l.ring_of s 1 ≡ Some r → declared (l.ring r) ≡ floor_number (l.ring r)
  left_behind s n r bsr same at =
      let left = (facts h is k d a w e clean may c given).nothing_left s n r bsr same (sym (rings_concerned s 1 (subst (λ x. Concerns m.memory x s 1) (sym same) (refl, refl))) ∙ at) in
      elim ((event_behind h is k d e may).rings r) [
        | inl still ↦ ap (λ (v : RingView). declared v) still ∙ left ∙ sym (ap (λ (v : RingView). floor_number v) still)
        | inr on ↦
            elim (cases_lt (declared (l.ring r)) (floor_number (l.ring r))) [
              | inl above ↦ let below = on.1.behind.given_declared (declared (l.ring r)) (on.1.behind.passed (declared (l.ring r)) above) in absurd (omega arith)
              | inr low ↦ omega (arith, left, (ap (λ q. length q) on.1.same.queue), low, on.1.on)
            ]
      ]
