-- Looks at rings, one behind the other
use Rattle.replayer.proofs.LowerLaws.{if◌then◌else◌, option_map, Halt, tells_halt, drop_all, ◌≡◌, ◌∙◌, ℕ, suc, ◌+◌, ◌-◌, ◌<◌, ◌≤◌, ◌||◌, lt-ltb, nat_lt, Bool, true, false, List, [], drop, get_or, length, Option, Some, None, is_some, Ok, Err, ap, refl, arith, option_and_then, Bor, nat_tests, Ring, Row, Read, Block, Step, Look, Seen, Unmade, IsMade, Making, behind_look, blocks_of_ring, is_waited, looked_at, looked_at_each, made_before, made_behind_looks, made_looks, made_step, rings_at, tried_step, unless_possible, with_active, is_command_kind, left, made_is, made_of, unmade}
unfoldable use Rattle.replayer.specs.Schedules.Making.{made_halt}

pub any_before : (ring : Ring) (looks : ℕ) → 0 < looks → nat_lt 0 looks ≡ (nat_lt 0 looks || is_command_kind ring.shape.kind)
any_before ring looks some = rw (lt-ltb 0 looks some) refl

pub none_before : (ring : Ring) (looks : ℕ) → looks ≤ 0 → is_command_kind ring.shape.kind ≡ (nat_lt 0 looks || is_command_kind ring.shape.kind)
none_before ring looks none = grind (arith, nat_tests)

pub look_first : (m : Making) (ring : Ring) → looked_at m ring ≡ made_looks (blocks_of_ring ring - 0) (is_command_kind ring.shape.kind) m ring.id
unfolding looked_at
look_first m ring = ap (λ n. made_looks n (is_command_kind ring.shape.kind) m ring.id) (omega arith)

module _ (m k : Making) (ring : Ring) (looks : ℕ) where
  abbrev had : Bool
  had = nat_lt 0 looks || is_command_kind ring.shape.kind

  module _ (below : looks < blocks_of_ring ring) (so_far : looked_at m ring ≡ made_looks (blocks_of_ring ring - looks) had k ring.id) where
    look_next : looked_at m ring ≡ option_and_then (λ p. behind_look had (made_looks (blocks_of_ring ring - (looks + 1)) true p.1 ring.id) p) (tried_step k (Look ring.id))
    unfolding made_looks
    look_next = so_far ∙ ap (λ n. made_looks n had k ring.id) (let e : blocks_of_ring ring - looks ≡ suc (blocks_of_ring ring - (looks + 1)) = omega arith in e)

    pub look_failed : {X Z : Type 0} (e : Unmade) (P : X → Option Seen × Making → Type 0) (Q : Z → Bool × Making → Type 0) → IsMade (Err e) (tried_step k (Look ring.id)) P → IsMade (Err e) (looked_at m ring) Q
    look_failed e P Q made = rw look_next (unmade e (tried_step k (Look ring.id)) _ P Q made)

    module _ (R : Making → Type 0) where
      pub look_none : (v : Bool) → v ≡ had → IsMade (Ok None) (tried_step k (Look ring.id)) (λ seen p. (seen ≡ p.0) × R p.1) → IsMade (Ok v) (looked_at m ring) (λ a p. (a ≡ p.0) × R p.1)
      look_none v is made = rw look_next (made_of None (tried_step k (Look ring.id)) _ (Ok v) (λ seen p. (seen ≡ p.0) × R p.1) (λ a p. (a ≡ p.0) × R p.1) made by)
        where
          by : (p : Option Seen × Making) → (None ≡ p.0) × R p.1 → IsMade (Ok v) (behind_look had (made_looks (blocks_of_ring ring - (looks + 1)) true p.1 ring.id) p) (λ a p. (a ≡ p.0) × R p.1)
          by (None, n) h = (is, h.1)
          by (Some s, n) h = absurd (cc)

      pub look_waited : (seen : Seen) → is_waited seen ≡ true → IsMade (Ok (Some seen)) (tried_step k (Look ring.id)) (λ seen p. (seen ≡ p.0) × R p.1) → IsMade (Ok true) (looked_at m ring) (λ a p. (a ≡ p.0) × R p.1)
      look_waited seen waits made = rw look_next (made_of (Some seen) (tried_step k (Look ring.id)) _ (Ok true) (λ seen p. (seen ≡ p.0) × R p.1) (λ a p. (a ≡ p.0) × R p.1) made by)
        where
          by : (p : Option Seen × Making) → (Some seen ≡ p.0) × R p.1 → IsMade (Ok true) (behind_look had (made_looks (blocks_of_ring ring - (looks + 1)) true p.1 ring.id) p) (λ a p. (a ≡ p.0) × R p.1)
          by (None, n) h = absurd (cc)
          by (Some s, n) h = let same : is_waited s ≡ true = grind (arith, waits, h.0) in rw same (refl, h.1)

      pub look_more : (seen : Seen) → is_waited seen ≡ false → IsMade (Ok (Some seen)) (tried_step k (Look ring.id)) (λ seen p. (seen ≡ p.0) × R p.1) →
          (n : Making) × R n × (looked_at m ring ≡ made_looks (blocks_of_ring ring - (looks + 1)) (nat_lt 0 (looks + 1) || is_command_kind ring.shape.kind) n ring.id)
      look_more seen goes made =
          let y = made_is (Some seen) (tried_step k (Look ring.id)) (λ seen p. (seen ≡ p.0) × R p.1) made in
          by y.0 (look_next ∙ ap (λ o. option_and_then (λ p. behind_look had (made_looks (blocks_of_ring ring - (looks + 1)) true p.1 ring.id) p) o) y.1) y.2
        where
          by : (p : Option Seen × Making) → looked_at m ring ≡ behind_look had (made_looks (blocks_of_ring ring - (looks + 1)) true p.1 ring.id) p → (Some seen ≡ p.0) × R p.1 →
              (n : Making) × R n × (looked_at m ring ≡ made_looks (blocks_of_ring ring - (looks + 1)) (nat_lt 0 (looks + 1) || is_command_kind ring.shape.kind) n ring.id)
          by (None, n) e h = absurd (cc)
          by (Some s, n) e h =
              let same : is_waited s ≡ false = grind (arith, goes, h.0) in
              (n, h.1, e ∙ rw (same, lt-ltb 0 (looks + 1) (omega arith)) refl)

  pub look_end : (so_far : looked_at m ring ≡ made_looks (blocks_of_ring ring - looks) had k ring.id) (R : Making → Type 0) → blocks_of_ring ring ≤ looks → R k → IsMade (Ok true) (looked_at m ring) (λ a p. (a ≡ p.0) × R p.1)
  unfolding made_looks
  look_end so_far R past has = grind arith

-- ---- a step behind looks at a ring that is late

module _ (m k : Making) (s : Step) (r n looks : ℕ) where
  module _ (below : looks < n) (so_far : made_behind_looks n m s r ≡ made_behind_looks (n - looks) k s r) where
    late_next : made_behind_looks n m s r ≡ option_and_then (λ p. unless_possible (option_and_then (λ j. made_behind_looks (n - (looks + 1)) j s r) (made_step p.1 (Look r))) p) (tried_step k s)
    unfolding made_behind_looks
    late_next =
        let one : n - looks ≡ suc (n - (looks + 1)) = omega (arith, below) in
        so_far ∙ ap (λ d. made_behind_looks d k s r) one

    pub late_failed : {X Z : Type 0} (e : Unmade) (P : X → Option Seen × Making → Type 0) (Q : Z → Making → Type 0) → IsMade (Err e) (tried_step k s) P → IsMade (Err e) (made_behind_looks n m s r) Q
    late_failed e P Q made = rw late_next (unmade e (tried_step k s) _ P Q made)

    pub late_posted : {Z : Type 0} (z : Z) (shown : Option Seen) → is_some shown ≡ true → (R : Making → Type 0) → IsMade (Ok shown) (tried_step k s) (λ v p. (v ≡ p.0) × R p.1) → IsMade (Ok z) (made_behind_looks n m s r) (λ d j. R j)
    late_posted z given2 some given4 made = grind (arith, late_next, made_of, option_and_then)

    -- the step isn't possible yet
    pub late_unseen : (R : Making → Type 0) (shown : Option Seen) → is_some shown ≡ false → IsMade (Ok shown) (tried_step k s) (λ v p. (v ≡ p.0) × R p.1) →
        (j : Making) × R j × (made_behind_looks n m s r ≡ option_and_then (λ i. made_behind_looks (n - (looks + 1)) i s r) (made_step j (Look r)))
    late_unseen given1 given2 none made = grind (arith, made_is, late_next, option_and_then)

    pub late_more : {Z : Type 0} (R : Making → Type 0) (z : Z) (j : Making) → made_behind_looks n m s r ≡ option_and_then (λ i. made_behind_looks (n - (looks + 1)) i s r) (made_step j (Look r)) →
        IsMade (Ok z) (made_step j (Look r)) (λ d i. R i) → (i : Making) × R i × (made_behind_looks n m s r ≡ made_behind_looks (n - (looks + 1)) i s r)
    late_more R z j e made = grind (arith, made_is, option_and_then)

  pub late_end : made_behind_looks n m s r ≡ made_behind_looks (n - looks) k s r → n ≤ looks → made_behind_looks n m s r ≡ made_step k s
  unfolding made_behind_looks
  late_end so_far past = grind arith

-- ---- looks at each of many rings

module _ (m k : Making) (rings : List (Bor Ring)) (active : List Ring) (i : ℕ) where
  module _ (ring : Bor Ring) (below : i < length rings) (is : ring ≡ get_or rings i ring) (so_far : looked_at_each [] m (rings_at rings) ≡ looked_at_each active k (rings_at (drop i rings))) where
    each_next : looked_at_each [] m (rings_at rings) ≡ option_and_then (λ p. looked_at_each (with_active active ring.now p.0) p.1 (rings_at (drop (i + 1) rings))) (looked_at k ring.now)
    unfolding looked_at_each
    each_next = so_far ∙ ap (λ l. looked_at_each active k (rings_at l)) (left rings i ring below is)

    pub each_failed : {X Z : Type 0} (e : Unmade) (P : X → Bool × Making → Type 0) (Q : Z → List Ring × Making → Type 0) → IsMade (Err e) (looked_at k ring.now) P → IsMade (Err e) (looked_at_each [] m (rings_at rings)) Q
    each_failed e P Q made = rw each_next (unmade e (looked_at k ring.now) _ P Q made)

    pub each_more : (b : Bool) (R : Making → Type 0) (after : List Ring) → after ≡ with_active active ring.now b → IsMade (Ok b) (looked_at k ring.now) (λ a p. (a ≡ p.0) × R p.1) →
        (n : Making) × R n × (looked_at_each [] m (rings_at rings) ≡ looked_at_each after n (rings_at (drop (i + 1) rings)))
    each_more b R after same made = grind (arith, made_is, each_next, option_and_then)

  pub each_end : {Z : Type 0} (so_far : looked_at_each [] m (rings_at rings) ≡ looked_at_each active k (rings_at (drop i rings))) (z : Z) (view : Z → List Ring) (R : Making → Type 0) → view z ≡ active → length rings ≤ i → R k →
      IsMade (Ok z) (looked_at_each [] m (rings_at rings)) (λ a p. (view a ≡ p.0) × R p.1)
  unfolding looked_at_each
  each_end so_far z view R is past has = rw (so_far, drop_all i rings past) (is, has)

-- ---- rows before which nothing is posted

unmapped : {X Y Z W : Type 0} (e : Unmade) (o : Option Y) (f : Y → W) (P : X → Y → Type 0) (Q : Z → W → Type 0) → IsMade (Err e) o P → IsMade (Err e) (option_map f o) Q
unmapped e o f P Q made = grind arith

mapped : {Z : Type 0} (x : Option Seen) (z : Z) (o : Option (Option Seen × Making)) (R : Making → Type 0) → IsMade (Ok x) o (λ seen p. (seen ≡ p.0) × R p.1) →
    IsMade (Ok z) (option_map (λ p. p.1) o) (λ done n. R n)
mapped x z o R made = grind arith

module _ (m : Making) where
  pub halt_unmade : {X Z : Type 0} (e : Unmade) (P : X → Option Seen × Making → Type 0) (Q : Z → Making → Type 0) → IsMade (Err e) (tried_step m Halt) P → IsMade (Err e) (made_halt m) Q
  unfolding made_halt
  halt_unmade e P Q made = unmapped e (tried_step m Halt) (λ p. p.1) P Q made

  pub halt_made : {Z : Type 0} (x : Option Seen) (z : Z) (R : Making → Type 0) → IsMade (Ok x) (tried_step m Halt) (λ seen p. (seen ≡ p.0) × R p.1) → IsMade (Ok z) (made_halt m) (λ done n. R n)
  unfolding made_halt
  halt_made x z R made = mapped x z (tried_step m Halt) R made

pub not_read : (m : Making) (row : Row) (late : Option Ring) → ((b : Block) → row ≡ Read b → ⊥) → made_before m row late ≡ (if tells_halt row then made_halt m else Some m)
unfolding made_before
not_read m row late other = grind arith
