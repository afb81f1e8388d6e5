-- The three ways in which a look ends, and what each changes
use Rattle.safety.proofs.Words.{◌≡◌, ◌≢◌, ◌+◌, ◌-◌, ◌%◌, ◌^◌, ◌==◌, ◌&&◌, ◌⊎◌, if◌then◌else◌, ◌∷◌, ℕ, Bool, true, false, Some, None, is_some, refl, inl, inr, cond, eq-eqb, ne_eqb, eqb-true, rules, cond-true, cond-false, not-false, same_Some, put, Block, is_set, aligned, block_at, cycle, kind, pointer, word, is_link, declared_at, Header, command_id, shape_of, World, Took, next_take, looked, looked_at, seen_by_look, crossed, taken_on, command_begun, RingState, state_of, declared_next}
use Rattle.world_state.specs.Looks.{taken}
use Rattle.safety.proofs.StepsLeave.OnlyRing.{OnlyRing}

pub put_at : {A : Type 0} (f : ℕ → A) (n : ℕ) (x : A) → put f n x n ≡ x
put_at f n x = cond-true (n == n) x (f n) (eq-eqb n n refl)

pub put_off : {A : Type 0} (f : ℕ → A) (n : ℕ) (x : A) (m : ℕ) → m ≢ n → put f n x m ≡ f m
put_off f n x m other = cond-false (m == n) x (f m) (ne_eqb m n other)

pub cond_is : {A : Type 0} (b : Bool) (x y z : A) → cond b x y ≡ z → ((b ≡ true) × (x ≡ z)) ⊎ ((b ≡ false) × (y ≡ z))
cond_is true x y z at = inl (refl, at)
cond_is false x y z at = inr (refl, at)

chosen_at : (t : Bool) (f g : ℕ → ℕ) (n : ℕ) → (if t then f else g) n ≡ (if t then f n else g n)
chosen_at true f g n = refl
chosen_at false f g n = refl

-- the block that is looked at
abbrev pub seen : World → ℕ → Block
seen w r = block_at w.memory (w.pointer_of r)

pub record Waits (h : Header) (w v : World) (r : ℕ) : Type 0 where
  pub is : seen_by_look h w r ≡ v

pub record Crosses (h : Header) (w v : World) (r : ℕ) : Type 0 where
  pub cycle_is : cycle (seen w r) ≡ w.cycle_state r
  pub link : is_link (kind (seen w r)) ≡ true
  pub is : crossed h (seen_by_look h w r) r (seen w r) ≡ v

pub record TakesBlock (h : Header) (w v : World) (r : ℕ) : Type 0 where
  pub cycle_is : cycle (seen w r) ≡ w.cycle_state r
  pub link : is_link (kind (seen w r)) ≡ false
  pub free : (r == command_id h && is_some w.under_way) ≡ false
  pub is : taken h (seen_by_look h w r) r (seen w r) ≡ v

abbrev pub LookEnds : Header → World → World → ℕ → Type 0
LookEnds h w v r = Waits h w v r ⊎ Crosses h w v r ⊎ TakesBlock h w v r

none_is : {A : Type 0} (x : A) → None ≡ Some x → ⊥
none_is x e = cc

pub looked_is : (h : Header) (w v : World) (r : ℕ) → looked h h w r ≡ Some v → (w.is_active r ≡ true) × LookEnds h w v r
unfolding looked looked_at
looked_is h w v r at =
    elim (cond_is (w.is_active r) _ _ (Some v) at) [
      | inl on ↦ (on.0, search (rules, cond_is, same_Some, eqb-true, not-false, is_some, none_is))
      | inr off ↦ absurd (none_is v off.1)
    ]

-- ---- what each changes

module _ (h : Header) (w : World) (r : ℕ) where
  pub only_seen : OnlyRing w (seen_by_look h w r) r (state_of w r)
  unfolding seen_by_look
  only_seen = search rules

  -- the pointer and the cycle state behind a Link
  abbrev pub behind_link : Block → RingState
  behind_link b = record (state_of w r) { pointer = aligned (pointer b); cycle = if is_set (word b 3) 1 then 1 - w.cycle_state r else w.cycle_state r }

  pub only_crossed : (b : Block) → OnlyRing w (crossed h (seen_by_look h w r) r b) r (behind_link b)
  unfolding seen_by_look crossed
  only_crossed b = search (rules, behind_link, put_at, chosen_at, put_off)

  -- the pointer behind a taken block
  abbrev pub behind_block : Block → RingState
  behind_block b = record (state_of w r) {
    pointer = (w.pointer_of r + 16) % 2 ^ 64;
    events = Took (w.pointer_of r) b (declared_at (w.queue r) (w.lengths r) (next_take (shape_of h r) (w.events r))) ∷ w.events r;
  }

  pub only_taken : (b : Block) → OnlyRing w (taken_on h (seen_by_look h w r) r b) r (behind_block b)
  unfolding seen_by_look taken_on declared_next
  only_taken b = search (rules, behind_block, put_at, put_off)

  pub only_begun : (u : World) (s : RingState) (a : ℕ) (b : Block) → OnlyRing w u r s → OnlyRing w (command_begun h u a b) r s
  unfolding command_begun
  only_begun u s a b o = search rules
