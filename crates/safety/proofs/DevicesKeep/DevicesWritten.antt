-- A write keeps what is kept of device contexts under lease, and of the one that it takes holds what was tested
use Rattle.safety.proofs.MiddleLaws.{[], ◌≡◌, ◌≢◌, ◌+◌, ◌*◌, ◌^◌, ◌<◌, ◌≤◌, ◌==◌, ◌&&◌, ◌⊎◌, ◌∙◌, ℕ, not, true, false, List, Contains, nat_le, nat_lt, Option, Some, is_some, option_and_then, slice_get, unwrap_or, arith, sym, ap, subst, inl, inr, lt-ltb, le-leb, ne_eqb, rules, is_in-parts, cases_lt, and_left, and_from, or_from, or_left, or_right, false≢true, not_from_false, none-some, same_Some, slice_get_within, get_or_from_slice_get, Block, is_in, is_inside, overlap, positions_given, cases_option, address_inside, gives_is, position_given_is, put_elsewhere, Command, command_of, named_slot, device_context_bytes, Header, Dcbaap, Erstba, Write, IsHeader, shape_of, command_id, touches_ring, Known, command_at, device_named, entry_of, command_given, is_soiled, lenient, IsDriverRing, DeviceKeeps, DriverKeeps, DevicesKeep, ring_shape, due_has_ring, clean_word, area_parts, not_in_other, overlap_turned, word_elsewhere, is_soiled_from, device_apart, device_free, entry_free, table_free, lease_free, not_in_device, at_number, command_slot_low, after_write, taken, written_memory, written_device, written_device_none, written_soiled, written_soiled_none, not_the_controllers, entry_same, write_leaves}
use Rattle.safety.proofs.RunKeeps.KeptClean.{taking, not_in_area}
use Rattle.safety.proofs.CommandsKeep.WriteBeside.{rules_of, word_stays}

named_from : (k l : Known) (s : ℕ) → l.register Dcbaap ≡ k.register Dcbaap → ((x : ℕ) → entry_of k s ≤ x → x < entry_of k s + 8 → l.memory x ≡ k.memory x) → device_named l s ≡ device_named k s
unfolding device_named entry_of
named_from k l s same words = search (rules, unwrap_or)

below_end : (n m : ℕ) → nat_lt m n ≡ false → n ≤ m
below_end n m fails = elim (cases_lt m n) [ inl low ↦ absurd (false≢true (sym fails ∙ lt-ltb m n low)) | inr high ↦ high ]

pub contains_first : (xs : List ℕ) (p : ℕ) → slice_get xs 0 ≡ Some p → Contains xs p
contains_first xs p at = (0, slice_get_within xs 0 p at, get_or_from_slice_get xs 0 p p at)

pub and_then_parts : {X Y : Type 0} (f : X → Option Y) (o : Option X) (y : Y) → option_and_then f o ≡ Some y → (x : X) × (o ≡ Some x) × (f x ≡ Some y)
and_then_parts f o y at = grind (arith, none-some)

module _ (h : Header) (is : IsHeader h) (k : Known) (d : DriverKeeps h k) (a w : ℕ) (clean : lenient h k (Write a w) ≡ []) where
  abbrev l : Known
  l = after_write h k a w

  dcbaap : l.register Dcbaap ≡ k.register Dcbaap
  dcbaap = ap (λ f. f Dcbaap) (write_leaves h k a w).registers.register

  entry_is : (s : ℕ) → entry_of l s ≡ entry_of k s
  entry_is s = entry_same k l s dcbaap

  -- a clean area that the device context that is taken leaves free
  clean_after : (from len : ℕ) → is_soiled k from len ≡ false → ((e : ℕ × ℕ) → taken h k a w ≡ Some e → overlap e.1 (device_context_bytes h.context_size) from len ≡ false) → is_soiled l from len ≡ false
  clean_after from len none apart =
      is_soiled_from l from len (λ i low.
      let kept = and_left (k.soiled (from + 4 * i)) (not (from + 4 * i == a)) (clean_word k from len i none low) in
      elim (cases_option (taken h k a w)) [
        | inl idle ↦ written_soiled_none h k a w idle (from + 4 * i) ∙ kept
        | inr some ↦
            written_soiled h k a w some.0 some.1 (from + 4 * i)
            ∙ or_from (is_in (from + 4 * i) some.0.1 (device_context_bytes h.context_size)) (k.soiled (from + 4 * i) && not (from + 4 * i == a))
            (not_in_other some.0.1 (device_context_bytes h.context_size) from len (from + 4 * i) (apart some.0 some.1) (omega arith) (omega arith)) kept
      ])

  -- device contexts behind the write: the one that is taken, or one from before
  device_before : (s c : ℕ) → l.device s ≡ Some c → ((e : ℕ × ℕ) × (taken h k a w ≡ Some e) × (s ≡ e.0) × (c ≡ e.1)) ⊎ (k.device s ≡ Some c)
  device_before s c at = search (rules, cases_option, taken, written_device_none, at_number, same_Some, written_device)

  -- ---- one from before

  taken_free : (e : ℕ × ℕ) (at : taken h k a w ≡ Some e) (s c : ℕ) → k.device s ≡ Some c → overlap e.1 (device_context_bytes h.context_size) c (device_context_bytes h.context_size) ≡ false
  taken_free e at s c was =
      let slot = (d.devices s c was).slot in
      device_free h k e.1 (device_context_bytes h.context_size) (lease_free h k e.1 (device_context_bytes h.context_size) (rules_of h is k d a w clean e at).free) s c slot.0 slot.1 was

  taken_entry : (e : ℕ × ℕ) (at : taken h k a w ≡ Some e) (s c : ℕ) → k.device s ≡ Some c → overlap e.1 (device_context_bytes h.context_size) (entry_of k s) 8 ≡ false
  taken_entry e at s c was =
      let slot = (d.devices s c was).slot in
      entry_free h k e.1 (device_context_bytes h.context_size) (lease_free h k e.1 (device_context_bytes h.context_size) (rules_of h is k d a w clean e at).free) s c slot.0 slot.1 was

  still_soiled : (x : ℕ) → x ≢ a → k.soiled x ≡ true → l.soiled x ≡ true
  still_soiled x other soiled =
      let kept = and_from (k.soiled x) (not (x == a)) soiled (not_from_false (x == a) (ne_eqb x a other)) in
      elim (cases_option (taken h k a w)) [
        | inl none ↦ written_soiled_none h k a w none x ∙ kept
        | inr some ↦ written_soiled h k a w some.0 some.1 x ∙ or_right (is_in x some.0.1 (device_context_bytes h.context_size)) (k.soiled x && not (x == a)) kept
      ]

  old_device : (s c : ℕ) → k.device s ≡ Some c → DeviceKeeps h l s c
  old_device s c at =
      let was : DeviceKeeps h k s c = d.devices s c at in
      record {
        slot = was.slot;
        aligned = was.aligned;
        ends = was.ends;
        rings = was.rings;
        soiled = λ x inside.
            let within = is_in-parts x c (device_context_bytes h.context_size) inside in
            still_soiled x (word_elsewhere a c (device_context_bytes h.context_size) x (not_in_device h k a (not_the_controllers h k a w clean) s c was.slot.0 was.slot.1 at) within.0 within.1) (was.soiled x inside);
        written = ap is_some dcbaap ∙ was.written;
        entry = named_from k l s dcbaap (word_stays h is k d a w clean (entry_of k s) 8 (λ free. entry_free h k a 4 free s c was.slot.0 was.slot.1 at)) ∙ was.entry;
        entry_clean = ap (λ e. is_soiled l e 8) (entry_is s) ∙ clean_after (entry_of k s) 8 was.entry_clean (λ e some. taken_entry e some s c at);
        entry_rings = ap (λ e. touches_ring h e 8) (entry_is s) ∙ was.entry_rings;
        others = λ t e there other.
            elim (device_before t e there) [
              | inl now ↦
                  overlap_turned e (device_context_bytes h.context_size) c (device_context_bytes h.context_size)
                  (ap (λ x. overlap x (device_context_bytes h.context_size) c (device_context_bytes h.context_size)) now.3 ∙ taken_free now.0 now.1 s c at)
              | inr before ↦ was.others t e before other
            ];
        entries = λ t e there.
            ap (λ x. overlap c (device_context_bytes h.context_size) x 8) (entry_is t)
            ∙ elim (device_before t e there) [
              | inl now ↦
                  ap (λ n. overlap c (device_context_bytes h.context_size) (entry_of k n) 8) now.2
                  ∙ overlap_turned (entry_of k now.0.0) 8 c (device_context_bytes h.context_size)
                  (device_apart h k (entry_of k now.0.0) 8 s c (area_parts h k (entry_of k now.0.0) 8 (rules_of h is k d a w clean now.0 now.1).entry_area) was.slot.0 was.slot.1 at)
              | inr before ↦ was.entries t e before
            ];
        table = λ v there. was.table v (ap (λ f. f Erstba) (sym (write_leaves h k a w).registers.register) ∙ there);
      }

  -- ---- the one that is taken

  -- the word that gives a command lies in the command ring
  record GivesInRing (c : Command) : Type 0 where
    pub block : Block
    pub says : command_of block ≡ Some c
    pub ring : IsDriverRing h (command_id h)
    pub inside : is_inside (shape_of h (command_id h)) a ≡ true

  in_ring : (c : Command) → command_given h k a w ≡ Some c → GivesInRing c
  unfolding command_given command_at
  in_ring c given =
      let first = and_then_parts (command_at h k) (slice_get (positions_given (shape_of h (command_id h)) (k.ring (command_id h)) a w) 0) c given in
      let block = and_then_parts (λ x. command_of x) (slice_get (k.ring (command_id h)).queue first.0) c first.2 in
      let contained = contains_first (positions_given (shape_of h (command_id h)) (k.ring (command_id h)) a w) first.0 first.1 in
      let writes = gives_is (shape_of h (command_id h)) (k.ring (command_id h)).floor first.0 a w (position_given_is (shape_of h (command_id h)) (k.ring (command_id h)) a w first.0 contained).1 in
      let ring = due_has_ring h is (k.ring (command_id h)).floor first.0 writes.due in
      search (rules, ap (λ y. is_inside (shape_of h (command_id h)) y) writes.at ∙ address_inside (shape_of h (command_id h)) (ring_shape h is (command_id h) ring).is first.0 12 (omega arith))

  new_device : (e : ℕ × ℕ) → taken h k a w ≡ Some e → DeviceKeeps h l e.0 e.1
  new_device e at =
      let rules = rules_of h is k d a w clean e at in
      let t = taking h k a w e clean at in
      let gives = in_ring t.command t.given in
      let area = area_parts h k e.1 (device_context_bytes h.context_size) rules.area in
      let entry = area_parts h k (entry_of k e.0) 8 rules.entry_area in
      let free = lease_free h k e.1 (device_context_bytes h.context_size) rules.free in
      let word : (x : ℕ) → entry_of k e.0 ≤ x → x < entry_of k e.0 + 8 → x ≢ a = λ x low high same.
      false≢true (sym (not_in_area h (command_id h) a (entry_of k e.0) 8 gives.ring gives.inside entry.rings)
      ∙ and_from (nat_le (entry_of k e.0) a) (nat_lt a (entry_of k e.0 + 8)) (le-leb (entry_of k e.0) a (omega arith)) (lt-ltb a (entry_of k e.0 + 8) (omega arith))) in
      record {
        slot = (rules.some, command_slot_low gives.block t.command e.0 gives.says (ap named_slot t.takes.command));
        aligned = rules.aligned;
        ends = below_end (e.1 + device_context_bytes h.context_size) (2 ^ 64) area.ends;
        rings = area.rings;
        soiled = λ x inside. written_soiled h k a w e at x ∙ or_left (is_in x e.1 (device_context_bytes h.context_size)) (k.soiled x && not (x == a)) inside;
        written = ap is_some dcbaap ∙ rules.written;
        entry = named_from k l e.0 dcbaap (λ x low high. ap (λ f. f x) (written_memory h k a w) ∙ put_elsewhere k.memory a w x (word x low high)) ∙ t.takes.named;
        entry_clean = grind (arith, entry_is, clean_after, same_Some);
        entry_rings = ap (λ y. touches_ring h y 8) (entry_is e.0) ∙ entry.rings;
        others = λ s c there other.
            elim (device_before s c there) [
              | inl now ↦ absurd (other (now.2 ∙ ap (λ (x : ℕ × ℕ). x.0) (same_Some now.0 e (sym now.1 ∙ at))))
              | inr before ↦ taken_free e at s c before
            ];
        entries = λ s c there.
            ap (λ x. overlap e.1 (device_context_bytes h.context_size) x 8) (entry_is s)
            ∙ elim (device_before s c there) [
              | inl now ↦
                  ap (λ n. overlap e.1 (device_context_bytes h.context_size) (entry_of k n) 8) (now.2 ∙ ap (λ (x : ℕ × ℕ). x.0) (same_Some now.0 e (sym now.1 ∙ at))) ∙ rules.entry_apart
              | inr before ↦ taken_entry e at s c before
            ];
        table = λ v there. table_free h k e.1 (device_context_bytes h.context_size) free v (ap (λ f. f Erstba) (sym (write_leaves h k a w).registers.register) ∙ there);
      }

  pub written_devices : DevicesKeep h (after_write h k a w)
  written_devices s c at =
      elim (device_before s c at) [
        | inl now ↦ subst (λ n. DeviceKeeps h l n c) (sym now.2) (subst (λ x. DeviceKeeps h l now.0.0 x) (sym now.3) (new_device now.0 now.1))
        | inr before ↦ old_device s c before
      ]
