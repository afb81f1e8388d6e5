-- What is lent after a clean declaration, doorbell or register's row
use Rattle.leases.proofs.MiddleLaws.{arith, ◌≡◌, ◌<◌, ◌∷◌, ◌≢◌, ◌⊎◌, ℕ, List, [], true, false, None, Result, refl, ap, sym, inl, inr, subst, length, OnOk, le-leb, lt-ltb, and_from, Trb, table_bytes, place_count, due_positions, floor_number, Ring, Header, Row, Sub, Write, Reg, Bell, Read, RingRow, FreeRow, Register, Dcbaap, Erstba, cases_Bool, IsHeader, command_id, driver_rings, event_shape, is_driver_kind, shape_of, base_address, Known, learned, is_bad_register, Range, SegmentTable, is_among, open_leases, IsIn, from_filter, in_filter, DriverKeeps, register_facts, due_has_ring, Lent, with_begun, RangeIndexes, shape_there, IsAmong, TraceRecord, HoldsAll, IsOtherRow, IsNextRow, AreOpen, grown, rules, from_range, nothing_new, bell_same, reg_same, sub_same, NopRow, read_same, array_stands, table_stands, ◌∙◌, if◌then◌else◌, learned_or_reset, Some, with_register, RegRead, Usbcmd, lent_table, AreShaped}
unfoldable use Rattle.leases.proofs.BaseWords.{reset, resets}
use Rattle.ring_knowledge.specs.Rings as rings

-- from what an answer promises to what follows
pub on_more : {X E P Q : Type 0} (answer : Result X E) → (P → Q) → OnOk answer P → OnOk answer Q
on_more answer f p = grind arith

pub on_both : {X E P Q R : Type 0} (answer : Result X E) → (P → Q → R) → OnOk answer P → OnOk answer Q → OnOk answer R
on_both answer f p q = grind arith

pub in_rings : (q : Ring) (rs : List Ring) → IsIn q rs → IsAmong q rs
in_rings q [] at = absurd at
in_rings q (x ∷ rest) at = search (rules, in_rings q rest)

from_rings : (q : Ring) (rs : List Ring) → IsAmong q rs → IsIn q rs
from_rings q [] at = absurd at
from_rings q (x ∷ rest) at = elim at [ inl here ↦ inl (sym here) | inr later ↦ inr (from_rings q rest later) ]

pub among_drivers : (h : Header) (q : Ring) → IsAmong q h.rings → is_driver_kind q.shape.kind ≡ true → IsIn q (driver_rings h)
unfolding driver_rings
among_drivers h q among driver = in_filter (λ r. is_driver_kind r.shape.kind) h.rings q (from_rings q h.rings among) driver

pub from_drivers : (h : Header) (q : Ring) → IsIn q (driver_rings h) → IsAmong q h.rings × (is_driver_kind q.shape.kind ≡ true)
unfolding driver_rings
from_drivers h q at = let found = from_filter (λ r. is_driver_kind r.shape.kind) h.rings q at in (in_rings q h.rings found.0, found.1)

pub are_shaped : (h : Header) → IsHeader h → AreShaped h
are_shaped h headed = λ q at. shape_there h headed q (from_drivers h q at).0

-- DCBAAP stands once a slot may have a device context
array_rests : (h : Header) (k : Known) (r : Register) (v : ℕ) → DriverKeeps h k → is_bad_register h k r v ≡ false →
    (with_register k.register r v Dcbaap ≡ k.register Dcbaap) ⊎ ((s : ℕ) → k.device s ≡ None)
array_rests h k r v d fine = elim (cases_Bool k.started) [
  | inl on ↦ inl (array_stands h k r v on fine)
  | inr off ↦ inr (λ s. d.states.no_device s ((d.unstarted off).slots s))
]

-- another register than ERSTBA leaves it
pub other_table : (k : Known) (r : Register) (v : ℕ) → r ≢ Erstba → with_register k.register r v Erstba ≡ k.register Erstba
other_table k Erstba v other = absurd (other refl)
other_table k r v other = refl

-- another than USBCMD resets nothing
pub resets_none : (k : Known) (r : Register) (v : ℕ) → r ≢ Usbcmd → resets k r v ≡ false
unfolding resets
resets_none k Usbcmd v other = absurd (other refl)
resets_none k r v other = refl

-- a command that was given is declared
pub declared_given : (h : Header) → IsHeader h → (k : Known) → DriverKeeps h k → (p : ℕ) → IsIn p (rings.unfinished_positions h k) → p < length (k.ring (command_id h)).queue
unfolding rings.unfinished_positions due_positions
declared_given h headed k d p at =
    let found = from_filter (k.ring (command_id h)).given (due_positions (shape_of h (command_id h)) (k.ring (command_id h))) p at in
    let range = from_range (floor_number (k.ring (command_id h))) (place_count (shape_of h (command_id h))) p found.0 in
    (d.rings (command_id h) (due_has_ring h headed (k.ring (command_id h)).floor p (and_from _ _ (le-leb (floor_number (k.ring (command_id h))) p range.0)
    (lt-ltb p _ range.1)))).given_declared p found.1

module _ (h : Header) (headed : IsHeader h) (k : Known) (ts : List Lent) where
  -- the book still holds what is lent
  module _ {B : Type 0} {Holds : Header → List Lent → B → Type 0} where
    pub held_still : (book : B) (x : RangeIndexes) (row : Row) (number : ℕ) → grown h k row number ts ≡ ts → HoldsAll Holds h ts book x → HoldsAll Holds h (grown h k row number ts) book x
    held_still book x row number same held = subst (λ (ts : List Lent). HoldsAll Holds h ts book x) (sym same) held

  unchanged : (row : Row) (number : ℕ) → AreOpen h k ts → open_leases h (learned_or_reset h k row) ≡ open_leases h k → grown h k row number ts ≡ ts
  unchanged row number still same = nothing_new h k ts still row number (λ l. ap (λ ls. is_among ls l) same)

  module _ (number : ℕ) (t : TraceRecord) (m : ℕ → ℕ) where
    pub lent_sub : (r : ℕ) (blocks : List Trb) → IsNextRow h k ts (Sub r blocks) t m → grown h k (Sub r blocks) number ts ≡ ts
    lent_sub r blocks next = unchanged (Sub r blocks) number next.step.opened (sub_same h k r blocks (declared_given h headed k next.keeps))

    pub lent_bell : (s i : ℕ) → IsNextRow h k ts (Bell s i) t m → grown h k (Bell s i) number ts ≡ ts
    lent_bell s i next = unchanged (Bell s i) number next.step.opened (bell_same h k s i)

    -- a ring that comes or goes, or a descriptor that is withdrawn
    lent_coming : (ring : Ring) → IsNextRow h k ts (RingRow ring) t m → grown h k (RingRow ring) number ts ≡ ts
    unfolding learned
    lent_coming ring next = unchanged (RingRow ring) number next.step.opened refl

    lent_going : (id : ℕ) → IsNextRow h k ts (FreeRow id) t m → grown h k (FreeRow id) number ts ≡ ts
    unfolding learned
    lent_going id next = unchanged (FreeRow id) number next.step.opened refl

    lent_withdrawing : (r p : ℕ) → IsNextRow h k ts (NopRow r p) t m → grown h k (NopRow r p) number ts ≡ ts
    unfolding learned
    lent_withdrawing r p next = unchanged (NopRow r p) number next.step.opened refl

    lent_status : (r : Register) (v : ℕ) → IsNextRow h k ts (RegRead r v) t m → grown h k (RegRead r v) number ts ≡ ts
    lent_status r v next = unchanged (RegRead r v) number next.step.opened (read_same h k r v)

    pub lent_register : (r : Register) (v : ℕ) → resets k r v ≡ false → with_register k.register r v Erstba ≡ k.register Erstba → IsNextRow h k ts (Reg r v) t m → grown h k (Reg r v) number ts ≡ ts
    lent_register r v on table next =
        unchanged (Reg r v) number next.step.opened
        (ap (λ b. open_leases h (if b then reset h k else learned h k (Reg r v))) on ∙ reg_same h k r v table (array_rests h k r v next.keeps (register_facts h k r v next.clean).good))

    -- ERSTBA may be written again as it stands
    pub lent_again : (v u : ℕ) → k.register Erstba ≡ Some u → IsNextRow h k ts (Reg Erstba v) t m → grown h k (Reg Erstba v) number ts ≡ ts
    lent_again v u written next = lent_register Erstba v (resets_none k Erstba v (λ e. cc)) (table_stands h k v u (register_facts h k Erstba v next.clean).good written) next

    -- the segment table comes under lease
    pub table_begins : {B : Type 0} (Holds : Header → List Lent → B → Type 0) (v : ℕ) (book : B) (x : RangeIndexes) → k.register Erstba ≡ None → IsNextRow h k ts (Reg Erstba v) t m →
        HoldsAll Holds h (with_begun number ts (Range (table_bytes (event_shape h)) (base_address v) SegmentTable ∷ [])) book x → HoldsAll Holds h (grown h k (Reg Erstba v) number ts) book x
    table_begins Holds v book x unwritten next held = rw (lent_table h k ts next.step.opened v number unwritten) held

    -- rows but those of registers
    pub other_held : {B : Type 0} {Holds : Header → List Lent → B → Type 0} (book : B) (x : RangeIndexes) (row : Row) → IsOtherRow row → ((r : Register) (v : ℕ) → row ≡ Reg r v → ⊥) → IsNextRow h k ts row t m →
        HoldsAll Holds h ts book x → HoldsAll Holds h (grown h k row number ts) book x
    other_held book x row other none next held = grind (arith, held_still, lent_sub, lent_bell, lent_status, lent_coming, lent_going, lent_withdrawing)

-- a row that is neither a write nor an event
pub other_row : (row : Row) → ((a w : ℕ) → row ≡ Write a w → ⊥) → ((b : Trb) → row ≡ Read b → ⊥) → IsOtherRow row
other_row u no_write no_event = search rules
