-- Schedules that are made step by step
use Rattle.replayer.proofs.Words.{drop_all, ◌≡◌, ◌∙◌, ℕ, ◌+◌, ◌<◌, ◌≤◌, le-leb, true, false, List, [], ◌∷◌, ◌++◌, drop, get_or, length, Option, Some, None, is_some, Result, Ok, Err, ap, subst, arith, option_and_then, nat_tests, common_steps, Step, Scene, step_made, Seen, NotPossible, shows, Unmade, Dropped, IsMade, Making, behind_step, if_possible, is_full, made_step, made_steps, tried_step, IsStep}

-- where something isn't made, nothing is made of it
pub unmade : {X Y Z W : Type 0} (e : Unmade) (o : Option Y) (f : Y → Option W) (P : X → Y → Type 0) (Q : Z → W → Type 0) → IsMade (Err e) o P → IsMade (Err e) (option_and_then f o) Q
unmade given1 o f given4 given5 made = grind arith

-- what is made of what was made
pub made_of : {X Y Z W : Type 0} (x : X) (o : Option Y) (f : Y → Option W) (r : Result Z Unmade) (P : X → Y → Type 0) (Q : Z → W → Type 0) → IsMade (Ok x) o P →
    ((y : Y) → P x y → IsMade r (f y) Q) → IsMade r (option_and_then f o) Q
made_of x given2 f r given5 given6 made next = grind arith

pub made_is : {X Y : Type 0} (x : X) (o : Option Y) (P : X → Y → Type 0) → IsMade (Ok x) o P → (y : Y) × (o ≡ Some y) × P x y
made_is x given2 given3 made = grind arith

module _ (m : Making) (items : List Step) (n : ℕ) (same : items ≡ m.steps) (count : n ≡ length items) where
  pub full_is : 4194303 ≤ n → is_full m ≡ true
  full_is most = le-leb 4194304 (length m.steps + 1) (omega (arith, count, ap length same, most))

  pub room_is : n < 4194303 → is_full m ≡ false
  room_is few = grind (arith, nat_tests, count, ap length same, few)

module _ (m : Making) (s : Step) where
  pub tried_full : {X : Type 0} (P : X → Option Seen × Making → Type 0) → is_full m ≡ true → IsMade (Err Dropped) (tried_step m s) P
  unfolding tried_step
  tried_full P full = rw full tt

  pub tried_made : (seen : Seen) (Q : Scene → Type 0) (P : Option Seen → Option Seen × Making → Type 0) → is_full m ≡ false → IsStep (Ok seen) (step_made m.scene s) (shows m.scene.header m.scene.world s) Q →
      ((x : Scene) → Q x → P (Some seen) (Some seen, record { steps = m.steps ++ s ∷ []; scene = x })) → IsMade (Ok (Some seen)) (tried_step m s) P
  unfolding tried_step
  tried_made seen Q P room step next = rw room (by (step_made m.scene s) step)
    where
      by : (o : Option Scene) → IsStep (Ok seen) o (shows m.scene.header m.scene.world s) Q → IsMade (Ok (Some seen)) (Some (behind_step m s o)) P
      by None step = absurd step
      by (Some x) step = subst (λ v. P (Some seen) (Some v, record { steps = m.steps ++ s ∷ []; scene = x })) step.0 (next x step.1)

  pub tried_stuck : (Q : Scene → Type 0) (P : Option Seen → Option Seen × Making → Type 0) → is_full m ≡ false → IsStep (Err NotPossible) (step_made m.scene s) (shows m.scene.header m.scene.world s) Q →
      P None (None, m) → IsMade (Ok None) (tried_step m s) P
  unfolding tried_step
  tried_stuck Q P room step stays = rw room (by (step_made m.scene s) step)
    where
      by : (o : Option Scene) → IsStep (Err NotPossible) o (shows m.scene.header m.scene.world s) Q → IsMade (Ok None) (Some (behind_step m s o)) P
      by None step = stays
      by (Some x) step = absurd step

  pub step_is : {Z : Type 0} (z : Z) (seen : Seen) (R : Making → Type 0) → IsMade (Ok (Some seen)) (tried_step m s) (λ v p. (v ≡ p.0) × R p.1) → IsMade (Ok z) (made_step m s) (λ d n. R n)
  unfolding made_step
  step_is z seen R made = made_of (Some seen) (tried_step m s) if_possible (Ok z) (λ v p. (v ≡ p.0) × R p.1) (λ d n. R n) made by
    where
      by : (p : Option Seen × Making) → (Some seen ≡ p.0) × R p.1 → IsMade (Ok z) (if_possible p) (λ d n. R n)
      by (None, k) h = absurd (cc)
      by (Some v, k) h = h.1

  pub step_isnt : {Z : Type 0} (R : Making → Type 0) (Q : Z → Making → Type 0) → IsMade (Ok None) (tried_step m s) (λ v p. (v ≡ p.0) × R p.1) → IsMade (Err Dropped) (made_step m s) Q
  unfolding made_step
  step_isnt R Q made = made_of None (tried_step m s) if_possible (Err Dropped) (λ v p. (v ≡ p.0) × R p.1) Q made by
    where
      by : (p : Option Seen × Making) → (None ≡ p.0) × R p.1 → IsMade (Err Dropped) (if_possible p) Q
      by (None, k) h = tt
      by (Some v, k) h = absurd (cc)

  pub step_unmade : {X Z : Type 0} (e : Unmade) (P : X → Option Seen × Making → Type 0) (Q : Z → Making → Type 0) → IsMade (Err e) (tried_step m s) P → IsMade (Err e) (made_step m s) Q
  unfolding made_step
  step_unmade e P Q made = unmade e (tried_step m s) if_possible P Q made

module _ (m : Making) (s : Step) where
  pub step_is_some : {Z : Type 0} (z : Z) (shown : Option Seen) → is_some shown ≡ true → (R : Making → Type 0) → IsMade (Ok shown) (tried_step m s) (λ v p. (v ≡ p.0) × R p.1) → IsMade (Ok z) (made_step m s) (λ d n. R n)
  step_is_some z None some R made = absurd (cc)
  step_is_some z (Some seen) some R made = step_is m s z seen R made

  pub step_is_none : {Z : Type 0} (shown : Option Seen) → is_some shown ≡ false → (R : Making → Type 0) (Q : Z → Making → Type 0) → IsMade (Ok shown) (tried_step m s) (λ v p. (v ≡ p.0) × R p.1) → IsMade (Err Dropped) (made_step m s) Q
  step_is_none (Some seen) none R Q made = absurd (cc)
  step_is_none None none R Q made = step_isnt m s R Q made

-- ---- steps, one behind the other

pub left : {X : Type 0} (xs : List X) (i : ℕ) (x : X) → i < length xs → x ≡ get_or xs i x → drop i xs ≡ x ∷ drop (i + 1) xs
left xs i x below is = grind (arith, common_steps, below, is)

module _ (m k : Making) (steps : List Step) (i : ℕ) (s : Step) where
  pub more_made : {Z : Type 0} (R : Making → Type 0) (z : Z) → i < length steps → s ≡ get_or steps i s → made_steps m steps ≡ made_steps k (drop i steps) → IsMade (Ok z) (made_step k s) (λ d n. R n) →
      (n : Making) × R n × (made_steps m steps ≡ made_steps n (drop (i + 1) steps))
  unfolding made_steps
  more_made R z below is so_far made =
      let n = made_is z (made_step k s) (λ d n. R n) made in
      (n.0, n.2, so_far ∙ ap (λ l. made_steps k l) (left steps i s below is) ∙ ap (λ o. option_and_then (λ p. made_steps p (drop (i + 1) steps)) o) n.1)

  pub none_made : {X Z : Type 0} (e : Unmade) (P : X → Making → Type 0) (Q : Z → Making → Type 0) → i < length steps → s ≡ get_or steps i s → made_steps m steps ≡ made_steps k (drop i steps) →
      IsMade (Err e) (made_step k s) P → IsMade (Err e) (made_steps m steps) Q
  unfolding made_steps
  none_made e P Q below is so_far made =
      rw (so_far, left steps i s below is) (unmade e (made_step k s) (λ n. made_steps n (drop (i + 1) steps)) P Q made)

pub all_made : {Z : Type 0} (m k : Making) (steps : List Step) (i : ℕ) (z : Z) (R : Making → Type 0) → length steps ≤ i → made_steps m steps ≡ made_steps k (drop i steps) → R k → IsMade (Ok z) (made_steps m steps) (λ d n. R n)
unfolding made_steps
all_made m k steps i z R past so_far has = rw (so_far, drop_all i steps past) has
