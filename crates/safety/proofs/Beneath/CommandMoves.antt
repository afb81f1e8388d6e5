-- Behind an event that is read before it, a command that a write gives may move its rings as before
use Rattle.safety.proofs.UpperLaws.{arith, [], ◌≡◌, ◌&&◌, ◌∙◌, ℕ, not, Bool, false, Some, refl, sym, ap, subst, inl, inr, eq-eqb, MayCome, or_from, and_parts, false≢true, false_from_ne_true, not_from_true, Block, cases_option, Command, AddressDevice, SetTrDequeue, is_off, Header, Write, Read, IsHeader, Known, command_given, learned, binding_in, is_bad_stay, is_bad_move, lenient, DriverKeeps, StaysIf, clean_tests, read_on}
use Rattle.safety.proofs.DriverHistories.{kept_driver}
use Rattle.safety.proofs.Beneath.GivenBehind.{between, own_between}
use Rattle.safety.proofs.Beneath.CommandContext.{set_behind}
use Rattle.safety.proofs.Beneath.CommandStays.{left_behind}

module _ (h : Header) (is : IsHeader h) (k : Known) (d : DriverKeeps h k) (a w : ℕ) (e : Block) (clean : MayCome h k (Write a w)) (may : lenient h k (Read e) ≡ [])
    (c : Command) (given : command_given h k a w ≡ Some c) where
  abbrev l : Known
  l = learned h k (Read e)

  pub behind_keeps : DriverKeeps h l
  behind_keeps = kept_driver h is k (Read e) d (may, tt) (read_on h k e ∙ (clean_tests h k (Read e) may).0)

  stay_behind : (s n r : ℕ) (bsr : Bool) → c ≡ AddressDevice s bsr n → l.ring_of s 1 ≡ Some r → is_bad_stay h l (Some r) (binding_in h l n 1) ≡ false
  unfolding is_bad_stay binding_in
  stay_behind s n r bsr same at =
      let left = left_behind h is k d a w e clean may c given s n r bsr same at in
      let stays = subst (λ f. StaysIf h (between h is k d a w e clean may c given) f) same (own_between h is k d a w e clean may c given).stays r at in
      grind (arith, Bool, or_from, not_from_true, eq-eqb)

  by : (f : Command) → c ≡ f → is_bad_move h l f ≡ false
  unfolding is_bad_move
  by (SetTrDequeue s i p cycle) at = ap (λ f. is_bad_move h l f) (sym at) ∙ set_behind h is k d e may a w clean c given s i p cycle at
  by (AddressDevice s bsr n) at =
      false_from_ne_true (not (is_off (l.endpoint_state s 1)) && is_bad_stay h l (l.ring_of s 1) (binding_in h l n 1)) (λ both.
      let parts = and_parts (not (is_off (l.endpoint_state s 1))) (is_bad_stay h l (l.ring_of s 1) (binding_in h l n 1)) both in
      elim (cases_option (l.ring_of s 1)) [
        | inl none ↦ false≢true (sym (ap (λ t. not (is_off t)) (behind_keeps.states.off s 1 none)) ∙ parts.0)
        | inr r ↦ false≢true (sym (ap (λ o. is_bad_stay h l o (binding_in h l n 1)) r.1 ∙ stay_behind s n r.0 bsr at r.1) ∙ parts.1)
      ])
  by _ at = refl

  pub moves_behind : is_bad_move h l c ≡ false
  moves_behind = by c refl
