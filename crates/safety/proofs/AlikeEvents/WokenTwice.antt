-- Two knowledges that are the same one with its ring woken: they are the same
use Rattle.safety.proofs.MiddleLaws.{◌≡◌, ℕ, Bool, ap, rules, Header, Known, HeldMore, SameDriver, held_same, Woken}
use Rattle.safety.proofs.AlikeEvents.HeldFurther.{held_more}

module _ (h : Header) (r : ℕ) (S : ℕ → ℕ → Bool) (k l m : Known) (one : Woken h r S k l) (two : Woken h r S k m) where
  same_view : (q : ℕ) → m.ring q ≡ l.ring q
  same_view q = search rules

  pub woken_more : SameDriver l m → HeldMore l m
  woken_more d = held_more l m d (search (rules)) (λ q. ap (λ v. v.floor) (same_view q)) (λ q. held_same (l.ring q).held (m.ring q).held (ap (λ v. v.held) (same_view q)))
