-- A write changes no word under lease: each given block and Link keeps the Cycle bit that it shows, and a word that is written as it
-- stands gives nothing
use Rattle.safety.proofs.Words.{◌≡◌, ◌%◌, ◌+◌, ◌-◌, ◌<◌, ◌==◌, ◌&&◌, ◌||◌, ◌∙◌, ℕ, not, Bool, true, false, nat_lt, lt-ltb, eq-eqb, eqb-true, refl, sym, ap, subst, rules, none_passes_at, unrestored_position, crossing_due_is, kept_cycle, fun_ext, and_from, not-false, false_from_ne_true, ceiling, flips_passed, unrestored, crossed_link, false≢true, put, put_here, put_elsewhere, Shape, IsShape, address_of, cycle_of, link_address, RingView, Writes, changed, is_due, is_crossing_due, gives, gives_crossing, gives_is, gives_crossing_is, leased_position, leased_crossing, RingKeeps, MayWrite}

-- what is written to the control word of a given block, or of a given Link, has the Cycle bit with which it was given; of a block that is
-- free only where the controller may have passed it
pub record KeepsCycles (shape : Shape) (v : RingView) (a w : ℕ) : Type 0 where
  pub blocks : (p : ℕ) → is_due shape v.floor p ≡ true → v.given p ≡ true → (v.free p ≡ true → p < ceiling shape v) → a ≡ address_of shape p + 12 → w % 2 ≡ cycle_of shape p
  pub links : (q : ℕ) → is_crossing_due shape v.floor q ≡ true → v.crossed q ≡ true → a ≡ link_address shape q + 12 → w % 2 ≡ cycle_of shape (q - 1)

-- a block that is free keeps its Cycle bit below the ceiling
passed_bit : (shape : Shape) (v : RingView) (a w p : ℕ) → flips_passed shape v a w ≡ false → is_due shape v.floor p ≡ true → p < ceiling shape v → v.free p ≡ true → a ≡ address_of shape p + 12 →
    w % 2 ≡ cycle_of shape p
unfolding flips_passed
passed_bit shape v a w p keeps due below free at =
    let test = λ (p : ℕ). nat_lt p (ceiling shape v) && a == address_of shape p + 12 && not (w % 2 == cycle_of shape p) in
    let fails : test p ≡ false = none_passes_at test (unrestored shape v) p keeps (unrestored_position shape v p due free) in
    let aimed : (nat_lt p (ceiling shape v) && a == address_of shape p + 12) ≡ true =
    and_from (nat_lt p (ceiling shape v)) (a == address_of shape p + 12) (lt-ltb p (ceiling shape v) below) (eq-eqb a (address_of shape p + 12) at) in
    eqb-true (w % 2) (cycle_of shape p)
    (not-false (w % 2 == cycle_of shape p)
    (false_from_ne_true (not (w % 2 == cycle_of shape p)) (λ flips. false≢true (sym fails ∙ and_from (nat_lt p (ceiling shape v) && a == address_of shape p + 12) (not (w % 2 == cycle_of shape p)) aimed flips))))

-- the word isn't under lease
pub free_keeps_cycles : (shape : Shape) (memory : ℕ → ℕ) (v : RingView) (a w : ℕ) → MayWrite shape memory v a w → KeepsCycles shape v a w
free_keeps_cycles shape memory v a w may = search (rules, passed_bit, leased_position, false≢true, and_from, nat_lt, lt-ltb, leased_crossing)

-- ---- the word is written as it stands

pub put_same : (memory : ℕ → ℕ) (a w : ℕ) → memory a ≡ w → put memory a w ≡ memory
put_same memory a w same = search (rules, put_here, put_elsewhere)

module _ (shape : Shape) (memory : ℕ → ℕ) (v : RingView) (k : RingKeeps shape memory v) (a w : ℕ) (same : memory a ≡ w) where
  pub same_keeps_cycles : IsShape shape → KeepsCycles shape v a w
  same_keeps_cycles is =
      record {
        blocks = λ p due given below at. ap (λ x. x % 2) (sym same ∙ ap memory at) ∙ (search (rules, v.free, k.free_shows, kept_cycle));
        links = λ q due given at.
            let link = crossed_link shape q (crossing_due_is shape v.floor q due).crossing in
            ap (λ x. x % 2) (sym same ∙ ap memory at) ∙ (k.kept_link q link.0 due given link.1).1;
      }

  or_given : (g f : Bool) → (g ≡ false → f ≡ true → ⊥) → (g || f) ≡ g
  or_given true f none = refl
  or_given false true none = absurd (none refl refl)
  or_given false false none = refl

  given_same : (p : ℕ) → (v.given p || gives shape v.floor p a w) ≡ v.given p
  given_same p = search (rules, or_given, v.given, gives, v.floor, gives_is, k.not_yet)

  crossed_same : (q : ℕ) → (v.crossed q || gives_crossing shape v.floor q a w) ≡ v.crossed q
  crossed_same q =
      or_given (v.crossed q) (gives_crossing shape v.floor q a w) (λ fresh now.
      let g = gives_crossing_is shape v.floor q a w now in
      k.not_yet_link q g.is_due fresh (ap (λ x. x % 2) (ap memory (sym g.at) ∙ same) ∙ g.cycle))

  pub same_view : changed shape v (Writes a w) ≡ v
  same_view =
      ap {B = RingView} (λ g. record v { given = g; crossed = λ q. v.crossed q || gives_crossing shape v.floor q a w }) (fun_ext given_same)
      ∙ ap {B = RingView} (λ c. record v { crossed = c }) (fun_ext crossed_same)

  pub same_word_keeps : RingKeeps shape (put memory a w) (changed shape v (Writes a w))
  same_word_keeps = subst (λ u. RingKeeps shape (put memory a w) u) (sym same_view) (subst (λ (m : ℕ → ℕ). RingKeeps shape m v) (sym (put_same memory a w same)) k)
