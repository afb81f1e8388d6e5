-- A write that gives a command and an event that isn't read yet: the event stays possible, the command is unfinished behind it, and what
-- is known is the same both ways but for the numbers at which rings are held
use Rattle.safety.proofs.UpperLaws.{typed, [], ◌≡◌, ◌≢◌, ◌⊎◌, ◌∙◌, ℕ, Bool, false, true, Option, None, Some, option_and_then, slice_get, arith, refl, sym, ap, subst, rules, MayCome, or_right, none-some, same_Some, Block, is_inside, RingView, Writes, changed, is_due, gives, positions_given, cases_option, gives_is, address_inside, position_given_is, Command, AddressDevice, Header, Write, Read, IsHeader, shape_of, command_id, Known, command_at, with_device, with_word, written, taken_device, device_named, no_device, command_given, learned, lenient, IsHeldMore, HeldMore, IsDriverRing, IsUnfinished, CommandKeeps, DriverKeeps, ◌∷◌, List, BlockKind, kind, target, Change, on_ring, event_at, next_command, passed, broken_off, stopped_at, transferred, transferred_at, transfer_read, set_to, bound_to, moved_to, moved, pointed, disabled, in_state, held_at_ceiling, changed_by, changed_by_all, succeeded, stop_ended, finished, completed, event_read, clean_tests, fewer, event_facts, ring_shape, due_has_ring, at_number, taken, written_ring, written_device, SameGiven, SameDriver, both_drivers, Alike, held_twice, taking, contains_first, and_then_parts, read_on, ReadAlike, EverySlot, held_more, read_same, command_same, event_behind, word_read, Untaken, device_read, device_driver, beyond}
use Rattle.safety.proofs.AlikeEvents.HeldFurther.{SameStates, counted}
use Rattle.safety.proofs.Beneath.DeviceBeneath.{devices_same}
use Rattle.safety.proofs.DriverHistories.{kept_driver}
use Rattle.safety.proofs.Beneath.WriteBehind.{command_behind}
use Rattle.safety.proofs.Beneath.WriteBeneath.{word_driver}

-- An event takes no device context: where one is leased behind it, it was
abbrev pub DevicesLeft : Known → Known → Type 0
DevicesLeft k l = (s x : ℕ) → l.device s ≡ Some x → k.device s ≡ Some x

none_left : (k : Known) → DevicesLeft k k
none_left k s x at = at

module _ (h : Header) where
  -- ---- a Transfer Event

  -- ---- a completion

  change_left : (c : Command) (k : Known) (change : Change) → DevicesLeft k (changed_by h c k change)
  unfolding changed_by disabled typed in_state pointed bound_to moved moved_to set_to on_ring held_at_ceiling
  change_left c k o = grind (arith, fewer, target, shape_of, none_left)

  changes_left : (c : Command) (k : Known) (all : List Change) → DevicesLeft k (changed_by_all h c k all)
  unfolding changed_by_all
  changes_left c k [] = none_left k
  changes_left c k (change ∷ rest) = λ s x at. change_left c k change s x (changes_left c (changed_by h c k change) rest s x at)

  -- ---- any event

  kind_left : (k : Known) (b : Block) (n : BlockKind) → DevicesLeft k (event_read h k n b)
  unfolding event_read transfer_read completed on_ring transferred_at transferred passed broken_off stopped_at finished succeeded stop_ended
  kind_left k b o = grind (arith, event_at, changes_left, command_at, next_command, none_left)

  pub devices_left : (k : Known) (e : Block) → DevicesLeft k (learned h k (Read e))
  unfolding learned
  devices_left k e = kind_left k e (kind e)

module _ (h : Header) (is : IsHeader h) (k : Known) (d : DriverKeeps h k) (a w : ℕ) (e : Block) (clean : MayCome h k (Write a w)) (may : lenient h k (Read e) ≡ []) where
  abbrev l : Known
  l = learned h k (Read e)

  abbrev word : Known
  word = with_word h k a w

  abbrev m : Known
  m = learned h k (Write a w)

  abbrev beneath : Known
  beneath = learned h m (Read e)

  word_first : ReadAlike h EverySlot k word e
  word_first = word_read h k a w is d clean.0 (event_facts h k e may).started e may

  device_then : ReadAlike h (Untaken (taken h k a w)) word m e
  unfolding learned written
  device_then = device_read h word (taken h k a w) e word_first.possible

  pub command_event : lenient h m (Read e) ≡ []
  command_event = device_then.possible

  -- ---- behind the event the rules are kept

  pub written_keeps : DriverKeeps h m
  written_keeps = kept_driver h is k (Write a w) d clean (clean_tests h m (Read e) command_event).0

  pub beneath_keeps : DriverKeeps h beneath
  beneath_keeps = kept_driver h is m (Read e) written_keeps (command_event, tt) (read_on h m e ∙ (clean_tests h m (Read e) command_event).0)

  -- ---- what the two have in common

  pub floors_alike : (r : ℕ) → (beneath.ring r).floor ≡ (l.ring r).floor
  floors_alike r = (device_then.after.rings r).floor ∙ (word_first.after.rings r).floor

  pub untaken_devices : (t : ℕ) → Untaken (taken h k a w) t → beneath.device t ≡ l.device t
  untaken_devices t apart = device_then.after.device t apart ∙ word_first.after.device t tt

  pub alike_there : Alike (Untaken (taken h k a w)) l beneath
  alike_there = search (rules, taken, l, beneath, word_first, device_then, held_twice, word, untaken_devices)

  -- a ring is given what the write gives of it behind the event
  pub rings_there : (r : ℕ) → SameGiven (changed (shape_of h r) (l.ring r) (Writes a w)) (beneath.ring r)
  unfolding with_word
  rings_there r = search (rules, l, beneath, read_same, m, word_driver, word, written_ring)

  -- ---- the command that is given

  module _ (c : Command) (given : command_given h k a w ≡ Some c) where
    behind_given : command_given h l a w ≡ Some c
    behind_given = command_behind h is k d a w e clean may ∙ given

    pub record GivenThere : Type 0 where
      pub position : ℕ
      pub ring : IsDriverRing h (command_id h)
      pub inside : is_inside (shape_of h (command_id h)) a ≡ true
      pub fresh : (l.ring (command_id h)).given position ≡ false
      pub unfinished : IsUnfinished h beneath position c

    pub given_there : GivenThere
    unfolding command_given command_at with_word
    given_there =
        let first = and_then_parts (command_at h l) (slice_get (positions_given (shape_of h (command_id h)) (l.ring (command_id h)) a w) 0) c behind_given in
        let contained = contains_first (positions_given (shape_of h (command_id h)) (l.ring (command_id h)) a w) first.0 first.1 in
        let gives_here = position_given_is (shape_of h (command_id h)) (l.ring (command_id h)) a w first.0 contained in
        let writes = gives_is (shape_of h (command_id h)) (l.ring (command_id h)).floor first.0 a w gives_here.1 in
        let ring = due_has_ring h is (l.ring (command_id h)).floor first.0 writes.due in
        let both = word_driver h is k d a w e clean may in
        let read = read_same h m e in
        let view : m.ring (command_id h) ≡ word.ring (command_id h) = written_ring h k a w (command_id h) in
        let given_word : (word.ring (command_id h)).given first.0 ≡ true =
        ap (λ f. f first.0) (both.rings (command_id h)).given
        ∙ or_right ((l.ring (command_id h)).given first.0) (gives (shape_of h (command_id h)) (l.ring (command_id h)).floor first.0 a w) gives_here.1 in
        let queue : (beneath.ring (command_id h)).queue ≡ (l.ring (command_id h)).queue =
        (read.rings (command_id h)).queue ∙ ap (λ (v : RingView). v.queue) view ∙ (both.rings (command_id h)).queue in
        record {
          position = first.0;
          ring = ring;
          inside = ap (λ y. is_inside (shape_of h (command_id h)) y) writes.at ∙ address_inside (shape_of h (command_id h)) (ring_shape h is (command_id h) ring).is first.0 12 (omega arith);
          fresh = gives_here.0;
          unfinished = record {
            due = ap (λ t. is_due (shape_of h (command_id h)) t first.0) (floors_alike (command_id h)) ∙ writes.due;
            given = ap (λ f. f first.0) (read.rings (command_id h)).given ∙ ap (λ (v : RingView). v.given first.0) view ∙ given_word;
            command = command_same h l beneath first.0 queue ∙ first.2;
          };
        }

    pub given_keeps : CommandKeeps h beneath given_there.position c
    given_keeps = beneath_keeps.unfinished given_there.position c given_there.unfinished

    -- ---- the device context

    -- the slot of an Address Device has one behind the event
    there_taken : (f : ℕ × ℕ) → taken h k a w ≡ Some f → beneath.device f.0 ≡ Some f.1
    there_taken f at = search (rules, taking, cases_option, given_keeps, same_Some, written_device, at_number, Option, devices_left, taking h k a w f clean.0 at, cases_option (beneath.device f.0))

    -- one that was there is there still
    device_kept : (s n x : ℕ) (bsr : Bool) → c ≡ AddressDevice s bsr n → k.device s ≡ Some x → l.device s ≢ None
    unfolding taken_device no_device
    device_kept s n x bsr same at none =
        let idle : taken h k a w ≡ None =
        ap (λ o. option_and_then (taken_device k) o) (given ∙ ap (λ y. Some y) same) ∙ ap (λ o. no_device o s (device_named k s)) at in
        given_keeps.device s n bsr same (untaken_devices s (λ f some. absurd (none-some f (sym idle ∙ some))) ∙ none)

    pub device_alike : (s n : ℕ) (bsr : Bool) → c ≡ AddressDevice s bsr n → ((k.device s ≡ None) × (l.device s ≡ None)) ⊎ ((k.device s ≢ None) × (l.device s ≢ None))
    device_alike s n bsr same = search (rules, l, cases_option, none-some, devices_left, device_kept)

    pub names_same : (s : ℕ) → device_named l s ≡ device_named k s
    unfolding device_named
    names_same s = let driver = (event_behind h is k d e may).driver in let memory = driver.memory in let register = driver.register in cc

    taken_by : (x : Command) → c ≡ x → taken_device l x ≡ taken_device k x
    unfolding taken_device no_device
    taken_by x at = search (rules, none-some, device_alike, names_same)

    -- ---- what is known

    abbrev behind : Known
    behind = with_device h (with_word h l a w) (taken h k a w)

    common : SameDriver behind beneath
    unfolding learned written
    common =
        both_drivers behind (counted h m) beneath (device_driver h (with_word h l a w) word (taken h k a w) (word_driver h is k d a w e clean may)) (read_same h m e)

    untaken_word : (t : ℕ) → Untaken (taken h k a w) t → beneath.device t ≡ (with_word h l a w).device t
    unfolding with_word
    untaken_word t apart = untaken_devices t apart

    states_by : (o : Option (ℕ × ℕ)) (x : Known) → ((t : ℕ) → x.device t ≡ (with_device h (with_word h l a w) o).device t) → SameStates l (record x { device = l.device }) →
        SameStates (with_device h (with_word h l a w) o) x
    unfolding with_device with_word
    states_by o x device s = grind arith

    held_is : (x : Known) (r : ℕ) → x.ring ≡ (with_word h l a w).ring → (x.ring r).held ≡ (l.ring r).held
    unfolding with_word
    held_is x r same = ap (λ f. (f r).held) same

    command_held : HeldMore behind beneath
    unfolding with_word
    command_held =
        let ring : behind.ring ≡ (with_word h l a w).ring = (beyond h (with_word h l a w) (taken h k a w)).ring in
        held_more behind beneath common
        (states_by (taken h k a w) beneath (devices_same h (with_word h l a w) (taken h k a w) beneath.device untaken_word there_taken)
        (record {
          was_bound = device_then.after.was_bound ∙ word_first.after.was_bound;
          slot_state = device_then.after.slot_state ∙ word_first.after.slot_state;
          endpoint_state = device_then.after.endpoint_state ∙ word_first.after.endpoint_state;
          ring_of = device_then.after.ring_of ∙ word_first.after.ring_of;
          isochronous = device_then.after.isochronous ∙ word_first.after.isochronous;
          must_move = device_then.after.must_move ∙ word_first.after.must_move;
          stop_seen = device_then.after.stop_seen ∙ word_first.after.stop_seen;
          device = refl;
        }))
        (λ r. floors_alike r ∙ sym (ap (λ f. (f r).floor) ring))
        (λ r. subst (λ o. IsHeldMore o (beneath.ring r).held) (sym (held_is behind r ring)) (held_twice (l.ring r).held ((learned h word (Read e)).ring r).held (beneath.ring r).held (word_first.after.rings r).held (device_then.after.rings r).held))

    -- the same both ways, but for where rings are held
    pub command_after : HeldMore (learned h l (Write a w)) beneath
    unfolding learned written
    command_after = subst (λ o. HeldMore (with_device h (with_word h l a w) o) beneath) (sym (search (rules, option_and_then, taken_device, behind_given, taken_by))) command_held
