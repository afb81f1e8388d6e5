-- Behind an event that is read before it, a command that a write gives has the same input context, and may move the same rings
use Rattle.safety.proofs.UpperLaws.{[], ◌≡◌, ◌∙◌, ℕ, false, Bool, Some, ap, subst, MayCome, Block, Command, SetTrDequeue, Header, Write, Read, IsHeader, Known, command_given, learned, is_bad_area, is_soiled, covers, device_ranges, is_bad_dequeue, is_bad_move, lenient, DriverKeeps, MovesIf, has_bad_context, rules, arith, AreaParts, area_parts, area_from, clean_same, context_parts, context_from, Behind, devices_fewer, none_fewer, event_behind}
use Rattle.safety.proofs.Beneath.GivenBehind.{between, own_between}

module _ (h : Header) (is : IsHeader h) (k : Known) (d : DriverKeeps h k) (e : Block) (may : lenient h k (Read e) ≡ []) where
  abbrev l : Known
  l = learned h k (Read e)

  b : Behind h k l
  b = event_behind h is k d e may

  pub area_behind : (from len : ℕ) → is_bad_area h k from len ≡ false → is_bad_area h l from len ≡ false
  area_behind from len good =
      let p : AreaParts h k from len = area_parts h k from len good in
      area_from h l from len
      (record { ends = p.ends; rings = p.rings; devices = none_fewer (covers h from len) (device_ranges h k) (device_ranges h l) (devices_fewer h is k l b) p.devices })

  pub clean_behind : (from len : ℕ) → is_soiled k from len ≡ false → is_soiled l from len ≡ false
  clean_behind from len good = clean_same k l from len b.driver.soiled ∙ good

  pub context_behind : (n : ℕ) → has_bad_context h k (Some n) ≡ false → has_bad_context h l (Some n) ≡ false
  context_behind n good = grind (arith, context_parts, context_from, area_behind, clean_behind)

  module _ (a w : ℕ) (clean : MayCome h k (Write a w)) (c : Command) (given : command_given h k a w ≡ Some c) where
    abbrev x : Known
    x = between h is k d a w e clean may c given

    set_by : (s i p : ℕ) (cycle : Bool) → is_bad_move h x (SetTrDequeue s i p cycle) ≡ false → is_bad_move h l (SetTrDequeue s i p cycle) ≡ false
    unfolding is_bad_move is_bad_dequeue
    set_by s i p cycle good = search rules

    -- a Set TR Dequeue may move the ring as before
    pub set_behind : (s i p : ℕ) (cycle : Bool) → c ≡ SetTrDequeue s i p cycle → is_bad_move h l c ≡ false
    set_behind s i p cycle at =
        ap (λ f. is_bad_move h l f) at ∙ set_by s i p cycle (subst (λ f. MovesIf h x f) at (own_between h is k d a w e clean may c given).moves_on)
