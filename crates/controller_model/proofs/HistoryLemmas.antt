-- One more thing that happens on a ring
use Rattle.controller_model.proofs.Words.{rules, ◌≡◌, ◌+◌, ◌≤◌, ◌==◌, ◌||◌, ◌++◌, if◌then◌else◌, ◌∷◌, ◌∙◌, ℕ, not, [], List, Option, length, drop, true, false, sym, arith, length-append, eq-eqb, ne_eqb, drop-append-le, drop_all, cond-true, cond-false, Block, Shape, address_of, cycle_of, DeclaredBlock, RingEvent, Took, Placed, takes_of, next_take, was_placed, first_at, is_as_declared, is_right_place, is_out_of_order, has_other_words, is_end, is_inside_descriptor, take_of, History, Keeps, ShowsHarms}

-- a bit by a test
pub as_bit : (shape : Shape) (p : ℕ) → (if cycle_of shape p == 1 then 1 else 0) ≡ cycle_of shape p
as_bit shape p = search (rules, cond-true, eq-eqb, cond-false, ne_eqb)

drop-more : {X : Type 0} (n : ℕ) (xs ys : List X) → n ≤ length xs → drop n (xs ++ ys) ≡ drop n xs ++ ys
drop-more n xs ys h = drop-append-le n xs ys h

-- a take: what it says of its position, and what is kept after it
pub record Takes (h after : History) (a : ℕ) (b : Block) (d : Option DeclaredBlock) : Type 0 where
  pub next : after.next ≡ h.next + 1
  pub placed : after.was_placed ≡ false
  pub inside : after.is_inside ≡ not (is_end d)
  pub unreported : after.unreported.items ≡ h.unreported.items ++ take_of a b ∷ []

pub keeps_took : (shape : Shape) (events : List RingEvent) (reported : ℕ) (h after : History) (a : ℕ) (b : Block) (d : Option DeclaredBlock) →
    Takes h after a b d → Keeps shape events reported h → Keeps shape (Took a b d ∷ events) reported after
unfolding next_take was_placed is_inside_descriptor takes_of
keeps_took shape events reported h after a b d t k = search (rules, drop-more, length-append)

-- and the harms of its takes
pub shows_took : (shape : Shape) (events : List RingEvent) (reported : ℕ) (h after : History) (a : ℕ) (b : Block) (d : Option DeclaredBlock) →
    after.out_of_order ≡ (not (is_right_place h.was_placed d) || not (address_of shape h.next == a) || h.out_of_order) →
    after.other_words ≡ (not (is_as_declared shape d h.next b) || h.other_words) →
    Keeps shape events reported h → ShowsHarms shape events h → ShowsHarms shape (Took a b d ∷ events) after
unfolding is_out_of_order has_other_words
shows_took shape events reported h after a b d order words k s = grind arith

pub keeps_nothing : (shape : Shape) (h : History) → h.next ≡ 0 → h.was_placed ≡ false → h.is_inside ≡ false → h.unreported.items ≡ [] → Keeps shape [] 0 h
unfolding next_take was_placed is_inside_descriptor takes_of
keeps_nothing shape h next placed inside unreported = grind arith

pub shows_nothing : (shape : Shape) (h : History) → h.out_of_order ≡ false → h.other_words ≡ false → ShowsHarms shape [] h
unfolding is_out_of_order has_other_words
shows_nothing shape h order words = record { order = sym order; words = sym words }

-- the same, but for the takes that weren't reported
pub record KeepsRest (h after : History) : Type 0 where
  pub next : after.next ≡ h.next
  pub placed : after.was_placed ≡ h.was_placed
  pub inside : after.is_inside ≡ h.is_inside
  pub order : after.out_of_order ≡ h.out_of_order
  pub words : after.other_words ≡ h.other_words

pub keeps_placed : (shape : Shape) (events : List RingEvent) (reported a : ℕ) (h after : History) → after.next ≡ first_at shape a h.next → after.was_placed ≡ true →
    after.is_inside ≡ false → after.unreported.items ≡ [] →
    Keeps shape events reported h → Keeps shape (Placed a ∷ events) (length (takes_of events)) after
unfolding next_take was_placed is_inside_descriptor takes_of
keeps_placed shape events reported a h after next placed inside none k = search (rules, length, drop_all)

pub shows_placed : (shape : Shape) (events : List RingEvent) (a : ℕ) (h after : History) → after.out_of_order ≡ h.out_of_order → after.other_words ≡ h.other_words →
    ShowsHarms shape events h → ShowsHarms shape (Placed a ∷ events) after
unfolding is_out_of_order has_other_words
shows_placed shape events a h after order words s = record { order = s.order ∙ sym order; words = s.words ∙ sym words }
