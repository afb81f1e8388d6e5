-- The ranges that a command takes, one after another
use Rattle.leases.proofs.BaseWords.{arith, not-true, ◌≡◌, ◌%◌, ◌∷◌, ◌++◌, ◌∙◌, ◌↔◌, ℕ, List, [], Bool, true, false, None, Some, Option, Ok, Err, Result, refl, ap, sym, subst, append_assoc, is_some, append-nil, result_ok, Fault, device_context_bytes, input_context_bytes, long_at, register_or_zero, Command, AddressDevice, named_context, Header, Known, device_named, entry_of, no_device, taken_device, Leased, Range, Use, InputContext, SlotEntry, DeviceContext, range_of_command, range_of_context, RangeIndexes, Lent, begun_at, with_begun, is_use_free, shares_use, and_false, any_append, or_false, HoldsAll, slot_taken, rules}
use Rattle.leases.proofs.LeaseBooks.Growing.{map_append}

-- what a block says that was read
pub read_is : (o : Option Command) (r : Result Command Fault) → ((c : Command) → (r ≡ Ok c) ↔ (o ≡ Some c)) → result_ok r ≡ o
read_is o (Ok c) said = sym ((said c).0 refl)
read_is None (Err e) said = refl
read_is (Some c) (Err e) said = grind (arith, said c)

-- what begins at one row begins at once
pub begun_twice : (n : ℕ) (ts : List Lent) (xs ys : List Leased) → with_begun n (with_begun n ts xs) ys ≡ with_begun n ts (xs ++ ys)
unfolding with_begun
begun_twice n ts xs ys = append_assoc ts _ _ ∙ ap (λ us. ts ++ us) (sym (map_append (begun_at n) xs ys))

pub begun_none : (n : ℕ) (ts : List Lent) → with_begun n ts [] ≡ ts
unfolding with_begun
begun_none n ts = append-nil ts

-- what begins shares no index with the range of another use
pub still_free : (h : Header) (n : ℕ) (ts : List Lent) (e : Use) (l : Leased) → shares_use h e l ≡ false → is_use_free h ts e ≡ true → is_use_free h (with_begun n ts (l ∷ [])) e ≡ true
unfolding is_use_free with_begun begun_at
still_free h n ts e l apart free = search (rules, any_append, not-true, or_false, and_false)

module _ {B : Type 0} {Holds : Header → List Lent → B → Type 0} (h : Header) (n : ℕ) (book : B) (x : RangeIndexes) where
  pub all_more : (ts : List Lent) (xs ys : List Leased) → HoldsAll Holds h (with_begun n (with_begun n ts xs) ys) book x → HoldsAll Holds h (with_begun n ts (xs ++ ys)) book x
  all_more ts xs ys all = subst (λ us. HoldsAll Holds h us book x) (begun_twice n ts xs ys) all

  pub none_more : (ts : List Lent) (ls : List Leased) → ls ≡ [] → HoldsAll Holds h ts book x → HoldsAll Holds h (with_begun n ts ls) book x
  none_more ts ls none all = subst (λ us. HoldsAll Holds h us book x) (sym (ap (with_begun n ts) none ∙ begun_none n ts)) all

  pub same_more : (ts : List Lent) (ls ms : List Leased) → ls ≡ ms → HoldsAll Holds h (with_begun n ts ms) book x → HoldsAll Holds h (with_begun n ts ls) book x
  same_more ts ls ms same all = subst (λ ks. HoldsAll Holds h (with_begun n ts ks) book x) (sym same) all

-- ---- the input context

pub no_context : (h : Header) (p : ℕ) (c : Command) → named_context c ≡ None → range_of_command h p (Some c) ≡ []
unfolding range_of_command range_of_context
no_context h p c none = ap (range_of_context h p) none

pub one_context : (h : Header) (p a bytes : ℕ) (c : Command) → named_context c ≡ Some a → bytes ≡ input_context_bytes h.context_size → range_of_command h p (Some c) ≡ Range bytes a (InputContext p) ∷ []
unfolding range_of_command range_of_context
one_context h p a bytes c some same = ap (range_of_context h p) some ∙ ap (λ n. Range n a (InputContext p) ∷ []) (sym same)

-- ---- the device context

pub takes_none : (k : Known) (c : Command) → ((s : ℕ) (bsr : Bool) (n : ℕ) → c ≡ AddressDevice s bsr n → ⊥) → taken_device k c ≡ None
unfolding taken_device
takes_none k c other = grind arith

pub takes_no_more : (k : Known) (c : Command) (s : ℕ) (bsr : Bool) (n : ℕ) → c ≡ AddressDevice s bsr n → is_some (k.device s) ≡ true → taken_device k c ≡ None
unfolding taken_device no_device
takes_no_more k c s bsr n is some = ap (taken_device k) is ∙ (grind arith)

pub takes_one : (k : Known) (c : Command) (s : ℕ) (bsr : Bool) (n : ℕ) → c ≡ AddressDevice s bsr n → is_some (k.device s) ≡ false → taken_device k c ≡ Some (s, device_named k s)
unfolding taken_device no_device
takes_one k c s bsr n is none = ap (taken_device k) is ∙ (grind arith)

pub slot_is : (h : Header) (k : Known) (o : Option (ℕ × ℕ)) (s entry d bytes : ℕ) → o ≡ Some (s, d) → entry ≡ entry_of k s → bytes ≡ device_context_bytes h.context_size →
    slot_taken h k o ≡ (Range 8 entry (SlotEntry s) ∷ []) ++ (Range bytes d (DeviceContext s) ∷ [])
slot_is h k o s entry d bytes some at same = search (rules, device_context_bytes)

pub none_taken : {B : Type 0} {Holds : Header → List Lent → B → Type 0} (h : Header) (n : ℕ) (book : B) (x : RangeIndexes) (k : Known) (ts : List Lent) (o : Option (ℕ × ℕ)) → o ≡ None → HoldsAll Holds h ts book x → HoldsAll Holds h (with_begun n ts (slot_taken h k o)) book x
none_taken h n book x k ts o none all = none_more h n book x ts (slot_taken h k o) (ap (slot_taken h k) none) all

-- an entry lies on words
pub entry_aligned : (k : Known) (s : ℕ) → entry_of k s % 4 ≡ 0
unfolding entry_of
entry_aligned k s = search (rules, register_or_zero)

-- the device context that an entry names
pub named_at : (k : Known) (s : ℕ) (memory : ℕ → ℕ) (entry : ℕ) → ((a : ℕ) → k.memory a ≡ memory a) → entry ≡ entry_of k s → long_at memory entry ≡ device_named k s
unfolding device_named entry_of
named_at k s memory entry words at = search (rules, register_or_zero)

-- the ranges of a slot share no index with an input context
pub still_free_slot : (h : Header) (k : Known) (n : ℕ) (ts : List Lent) (p : ℕ) (o : Option (ℕ × ℕ)) → is_use_free h ts (InputContext p) ≡ true → is_use_free h (with_begun n ts (slot_taken h k o)) (InputContext p) ≡ true
still_free_slot h k n ts p None free = ap (λ us. is_use_free h us (InputContext p)) (begun_none n ts) ∙ free
still_free_slot h k n ts p (Some e) free = rw (← begun_twice n ts (Range 8 (entry_of k e.0) (SlotEntry e.0) ∷ []) (Range (device_context_bytes h.context_size) e.1 (DeviceContext e.0) ∷ []))
    (search (rules, still_free))
