-- A write that gives no command and an event that isn't read yet may change places
use Rattle.safety.proofs.UpperLaws.{[], ◌≡◌, ℕ, None, refl, sym, subst, inl, inr, rules, MayCome, none-some, fun_ext, Block, RingView, Writes, changed, Header, Write, Read, IsHeader, shape_of, Known, with_word, command_given, learned, lenient, DriverKeeps, HeldMore, Square, event_facts, keeps_cycles, SameGiven, SameDriver, both_drivers, ReadAlike, EverySlot, states_from, held_more, read_same, given_same, crossed_same, Behind, written_word, word_read, event_behind, passed_behind}
use Rattle.safety.proofs.AlikeEvents.HeldFurther.{SameStates, counted}
use Rattle.safety.proofs.Beneath.WriteBehind.{command_behind, write_behind}

module _ (h : Header) (is : IsHeader h) (k : Known) (d : DriverKeeps h k) (a w : ℕ) (e : Block) (clean : MayCome h k (Write a w))
    (may : lenient h k (Read e) ≡ []) where
  -- behind the event, then the word; the word, then behind the event
  abbrev l : Known
  l = learned h k (Read e)

  abbrev m : Known
  m = with_word h k a w

  abbrev behind : Known
  behind = with_word h l a w

  abbrev beneath : Known
  beneath = learned h m (Read e)

  b : Behind h k l
  b = event_behind h is k d e may

  read : ReadAlike h EverySlot k m e
  read = word_read h k a w is d clean.0 (event_facts h k e may).started e may

  ring_given : (r : ℕ) → SameGiven (changed (shape_of h r) (l.ring r) (Writes a w)) (changed (shape_of h r) (k.ring r) (Writes a w))
  ring_given r =
      elim (b.rings r) [
        | inl same ↦ subst (λ (v : RingView). SameGiven (changed (shape_of h r) v (Writes a w)) (changed (shape_of h r) (k.ring r) (Writes a w))) (sym same)
            (record { queue = refl; lengths = refl; given = refl; crossed = refl; withdrawn = refl; free = refl })
        | inr on ↦
            let writes = keeps_cycles h is k a w clean r on.0 on.1.before in
            record {
              queue = sym (b.driver.rings r).queue;
              lengths = sym (b.driver.rings r).lengths;
              given = fun_ext (given_same (shape_of h r) k.memory (k.ring r) (l.ring r) on.1 a w writes);
              crossed = fun_ext (crossed_same (shape_of h r) k.memory (k.ring r) (l.ring r) on.1 a w writes);
              withdrawn = sym (b.driver.rings r).withdrawn;
              free = sym (b.driver.rings r).free;
            }
      ]

  pub word_driver : SameDriver behind (counted h m)
  unfolding with_word
  word_driver = search (rules, behind, counted, m, b, ring_given)

  states : SameStates behind beneath
  unfolding with_word
  states = search (rules, behind, beneath, l, states_from, read)

  word_after : HeldMore behind beneath
  unfolding with_word
  word_after = search (rules, held_more, both_drivers, counted, word_driver, read_same, states, read)

module _ (h : Header) (is : IsHeader h) (k : Known) (d : DriverKeeps h k) (a w : ℕ) (e : Block) (clean : MayCome h k (Write a w)) (none : command_given h k a w ≡ None)
    (may : lenient h k (Read e) ≡ []) where
  pub write_square : Square h k (Write a w) e
  write_square = search (rules, l, m, behind, written_word, command_behind, read, write_behind, passed_behind, none-some, word_after)
