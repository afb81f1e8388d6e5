-- Which harms a world has
use Rattle.controller_model.proofs.Words.{rules, ◌≡◌, ◌≢◌, IsSome, Ring, eq-eqb, ne_eqb, cond-true, cond-false, ◌+◌, ◌-◌, ◌*◌, ◌/◌, ◌==◌, ◌&&◌, ◌||◌, ◌<◌, ◌≤◌, ◌∙◌, ◌∷◌, ℕ, zero, suc, List, get_or, length, take, Bool, true, false, not, Option, Some, None, find, option_map, ap, sym, refl, arith, [], nat_lt, nat_le, option_and_then, lt-ltb, list_any, range_with_len, list_any_more, Block, Evt, block_at, cycle, Shape, place_count, Command, command_of, named_context, input_context_bytes, Header, event_ring, event_shape, event_size, shape_of, shape_or, some_ring, World, Harm, TakenOutOfOrder, TakenOtherWords, WaitsInsideDescriptor, LooksOutside, PostsOverUnread, InputContextChanged, harm_of, harms, waits, is_inside_descriptor, is_out_of_order, has_other_words, has_changed_context, is_context_changed, is_changed_since, RingState, Pending, FollowsRing, ring_held, under_way_of}

-- one more element of a list, as at a step of a loop
pub any_more : {X : Type 0} (p : X → Bool) (xs : List X) (i : ℕ) (x : X) (a b : Bool) → i < length xs → x ≡ get_or xs i x → a ≡ list_any p (take i xs) → b ≡ p x →
    (a || b) ≡ list_any p (take (i + 1) xs)
any_more p xs i x a b inside at before here = grind (arith, list_any_more)

pub and_true : (b : Bool) → (b && true) ≡ b
and_true b = grind arith

module _ (h : Header) (r : ℕ) (w : World) (x : RingState) (f : FollowsRing h r (ring_held w r) x) where
  pub waits_idle : x.is_active ≡ false → false ≡ (waits w r && is_inside_descriptor (w.events r))
  unfolding waits
  waits_idle e = sym (ap (λ b. (b && not (cycle (block_at w.memory (w.pointer_of r)) == w.cycle_state r)) && is_inside_descriptor (w.events r)) (f.active ∙ e))

  pub waits_so : (words : ℕ → ℕ) (b : Block) (agrees : Bool) → words ≡ w.memory → x.is_active ≡ true → x.history.is_inside ≡ true → b ≡ block_at words x.pointer →
      agrees ≡ (cycle b == w.cycle_state r) → not agrees ≡ (waits w r && is_inside_descriptor (w.events r))
  unfolding waits
  waits_so words b agrees same active inside block turn = search (rules, and_true)

-- there is no event ring whose events the driver hasn't read
pub posts_nowhere : (h : Header) (w : World) → w.posted_nowhere ≡ false → None ≡ event_ring h →
    false ≡ (w.posted_nowhere || (nat_lt 0 (event_size h) && nat_le (event_size h) (w.posted - w.reads)))
unfolding event_size event_shape
posts_nowhere h w there none = (λ i. sym there i || (nat_lt 0 (place_count (shape_or Evt (none i))) && nat_le (place_count (shape_or Evt (none i))) (w.posted - w.reads)))

pub posts_there : (h : Header) (w : World) (shape : Shape) (n posted reads : ℕ) → w.posted_nowhere ≡ false → shape ≡ event_shape h → n ≡ place_count shape → 2 ≤ n →
    w.posted ≡ posted → w.reads ≡ reads →
    nat_le n (posted - reads) ≡ (w.posted_nowhere || (nat_lt 0 (event_size h) && nat_le (event_size h) (w.posted - w.reads)))
unfolding event_size
posts_there h w shape n posted reads there same count several at seen = grind (arith, lt-ltb, nat_le, nat_lt)

module _ (h : Header) (w : World) (o : Option Pending) (e : w.under_way ≡ option_map under_way_of o) where
  pub context_idle : o ≡ None → false ≡ has_changed_context h w w.under_way
  unfolding has_changed_context
  context_idle none = ap (λ p. has_changed_context h w (option_map under_way_of p)) (sym none) ∙ ap (λ u. has_changed_context h w u) (sym e)

  module _ (p : Pending) (some : o ≡ Some p) where
    here : has_changed_context h w w.under_way ≡ is_context_changed h w (w.written (p.address + 12)) (option_and_then named_context (command_of p.block))
    unfolding has_changed_context
    here = ap (λ u. has_changed_context h w u) e ∙ ap (λ q. has_changed_context h w (option_map under_way_of q)) some

    pub context_of_none : None ≡ command_of p.block → false ≡ has_changed_context h w w.under_way
    unfolding is_context_changed
    context_of_none none = ap (λ c. is_context_changed h w (w.written (p.address + 12)) (option_and_then named_context c)) none ∙ sym here

    pub context_unnamed : (c : Command) → Some c ≡ command_of p.block → None ≡ named_context c → false ≡ has_changed_context h w w.under_way
    unfolding is_context_changed
    context_unnamed c is none =
        ap (λ a. is_context_changed h w (w.written (p.address + 12)) a) none
        ∙ ap (λ d. is_context_changed h w (w.written (p.address + 12)) (option_and_then named_context d)) is ∙ sym here

    pub context_named : (c : Command) (a step words : ℕ) (changed : ℕ → ℕ) → Some c ≡ command_of p.block → Some a ≡ named_context c →
        step ≡ w.written (p.address + 12) → words ≡ input_context_bytes h.context_size / 4 → changed ≡ w.changed →
        list_any (λ i. nat_lt step (changed (a + 4 * i))) (range_with_len 0 words) ≡ has_changed_context h w w.under_way
    unfolding is_context_changed is_changed_since
    context_named c a step words changed is named since many same =
        (λ i. list_any (λ n. nat_lt (since i) (same i (a + 4 * n))) (range_with_len 0 (many i)))
        ∙ ap (λ x. is_context_changed h w (w.written (p.address + 12)) x) named
        ∙ ap (λ d. is_context_changed h w (w.written (p.address + 12)) (option_and_then named_context d)) is ∙ sym here

-- the first of six facts that holds
abbrev pub least : Bool → Bool → Bool → Bool → Bool → Bool → Option Harm
least a b c d e f =
    option_map (λ (t : Harm × Bool). t.0) (find (λ t. t.1)
    ((TakenOutOfOrder, a) ∷ (TakenOtherWords, b) ∷ (WaitsInsideDescriptor, c) ∷ (LooksOutside, d) ∷ (PostsOverUnread, e) ∷ (InputContextChanged, f) ∷ []))

module _ (h : Header) (w : World) where
  abbrev pub order_harm : Bool
  order_harm = some_ring h (λ r. is_out_of_order (shape_of h r) (w.events r))

  abbrev pub words_harm : Bool
  words_harm = some_ring h (λ r. has_other_words (shape_of h r) (w.events r))

  abbrev pub waits_harm : Bool
  waits_harm = some_ring h (λ r. waits w r && is_inside_descriptor (w.events r))

  abbrev pub posts_harm : Bool
  posts_harm = w.posted_nowhere || (nat_lt 0 (event_size h) && nat_le (event_size h) (w.posted - w.reads))

  abbrev pub context_harm : Bool
  context_harm = has_changed_context h w w.under_way

  pub harm_is : {a b c d e f : Bool} → order_harm ≡ a → words_harm ≡ b → waits_harm ≡ c → w.looked_outside ≡ d → posts_harm ≡ e → context_harm ≡ f → harm_of h w ≡ least a b c d e f
  unfolding harm_of harms
  harm_is p q r s t u = (λ i. least (p i) (q i) (r i) (s i) (t i) (u i))

pub take_past : {X : Type 0} (xs : List X) (n : ℕ) → length xs ≤ n → take n xs ≡ xs
take_past [] zero l = refl
take_past [] (suc n) l = refl
take_past (x ∷ xs) zero l = absurd (omega arith)
take_past (x ∷ xs) (suc n) l = ap (λ ys. x ∷ ys) (take_past xs n (omega arith))

-- a ring that a list has is found by its ID
found_first : (x y : Ring) (ys : List Ring) → (y.id ≢ x.id → IsSome (find (λ r. r.id == x.id) ys)) → IsSome (find (λ r. r.id == x.id) (y ∷ ys))
found_first x y ys later = search (rules, find, cond-true, eq-eqb, cond-false, ne_eqb)

pub listed : (rings : List Ring) (i : ℕ) (x : Ring) → i < length rings → x ≡ get_or rings i x → IsSome (find (λ r. r.id == x.id) rings)
listed [] i x inside at = absurd (omega arith)
listed (y ∷ ys) zero x inside at = found_first x y ys (λ apart. absurd (apart (ap (λ (r : Ring). r.id) (sym at))))
listed (y ∷ ys) (suc i) x inside at = found_first x y ys (λ apart. listed ys i x (omega arith) at)
