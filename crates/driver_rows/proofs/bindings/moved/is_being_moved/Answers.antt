use Rattle.driver_rows.proofs.Laws.{◌≡◌, ℕ, ◌||◌, ◌∙◌, true, false, List, [], ◌∷◌, refl, ap, sym, arith, is_some, list_any, Command, AddressDevice, named_slot, Header, Known, unfinished, is_address_device, is_being_moved, moves_ring, names_below, below_none, below_next, below_all, passes_below}
use Rattle.driver_rows.proofs.bindings.moved.is_being_moved.Goals as goal

named : (h : Header) (k : Known) (r : ℕ) (c : Command) → moves_ring h k r c ≡ true → is_some (named_slot c) ≡ true
unfolding moves_ring
named h k r c e = grind arith

-- without an Address Device no ring is moved
none_moves : (h : Header) (k : Known) (r : ℕ) (cs : List Command) → list_any is_address_device cs ≡ false → list_any (moves_ring h k r) cs ≡ false
unfolding moves_ring
none_moves h k r [] e = refl
none_moves h k r (AddressDevice s bsr n ∷ cs) e = absurd (cc)
none_moves h k r (_ ∷ cs) e = none_moves h k r cs e

pub returns-then-not-has_address_device : goal.returns-then-not-has_address_device
unfolding is_being_moved
returns-then-not-has_address_device c = grind (arith, none_moves)

pub loop-slot-init : goal.loop-slot-init
loop-slot-init c = λ h k m f. below_none (moves_ring h k c.args.ring) (unfinished h k)

pub loop-slot-preserved : goal.loop-slot-preserved
loop-slot-preserved c = λ h k m f.
    below_next (moves_ring h k c.args.ring) c.loop-slot.slot (unfinished h k)
    ∙ (λ i. c.loop-slot.invariant h k m f i || (sym (c.is_moved_of.ensures h k m f) ∙ c.if-is_moved_of.false) i)

pub returns-then-is_moved_of : goal.returns-then-is_moved_of
unfolding is_being_moved
returns-then-is_moved_of c = λ h k m f.
    sym (passes_below (moves_ring h k c.args.ring) c.loop-slot.slot (unfinished h k) (sym (c.is_moved_of.ensures h k m f) ∙ c.if-is_moved_of.true))

pub returns : goal.returns
unfolding is_being_moved
returns c = λ h k m f.
    let last : c.loop-slot.slot ≡ 256 = omega (arith, c.loop-slot.auto.slot-end, c.loop-slot-test.false) in
    sym (c.loop-slot.invariant h k m f) ∙ ap (λ n. list_any (names_below (moves_ring h k c.args.ring) n) (unfinished h k)) last
    ∙ below_all (moves_ring h k c.args.ring) (named h k c.args.ring) h k
