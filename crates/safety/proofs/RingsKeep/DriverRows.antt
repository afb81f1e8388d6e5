-- Declarations, writes, register writes and doorbells keep what the rules keep of each ring
use Rattle.safety.proofs.LowerLaws.{runs_leave, [], ◌≡◌, ◌≢◌, ◌==◌, ◌∙◌, ℕ, List, Option, None, Some, option_and_then, refl, sym, ap, subst, inl, inr, eq-eqb, ne_eqb, rules, cases_eq, cond-true, cond-false, cond_both, Block, RingView, RingChange, Declares, Opens, Writes, EndpointRestored, IsRestored, MayCome, RingKept, RingsKept, changed, new_ring_keeps, declares_keeps, writes_keeps, opens_keeps, Header, Register, Crcr, Erdp, Usbcmd, register_read, status_read, Sub, Write, IsHeader, shape_of, command_id, Known, nothing, on_ring, with_device, with_word, written, command_given, taken_device, valued, register_written, endpoint_rung, rung, lenient, RingsKeep, arith, shape_allowed, may_declare, same_word_keeps, free_or_same, may_write, passes_same, passes_both, passes_restored, passes_held, cleared_keeps, is_no_other, unchained_is, MayBegin, shape_unmoved}
use Rattle.safety.specs.DriverRings.{IsDriverRing}

module _ (h : Header) where
  pub ring_here : (k : Known) (r : ℕ) (change : RingChange) → (on_ring h k r change).ring r ≡ changed (shape_of h r) (k.ring r) change
  unfolding on_ring
  ring_here k r change = cond-true (r == r) (changed (shape_of h r) (k.ring r) change) (k.ring r) (eq-eqb r r refl)

  pub ring_elsewhere : (k : Known) (r q : ℕ) (change : RingChange) → q ≢ r → (on_ring h k r change).ring q ≡ k.ring q
  unfolding on_ring
  ring_elsewhere k r q change other = cond-false (q == r) (changed (shape_of h r) (k.ring r) change) (k.ring q) (ne_eqb q r other)

  -- before the first row
  pub nothing_keeps : MayBegin h → RingsKeep h nothing
  unfolding nothing
  nothing_keeps is r driver = new_ring_keeps (shape_of h r) (shape_allowed h is.0 r driver) (shape_unmoved h is.1 r) (λ a. 0) (λ a. refl)

-- from what was first known on
module _ (h : Header) (first : Known) where
  -- only memory and rings are spoken of
  pub same_keeps : (k l : Known) → k.memory ≡ l.memory → k.ring ≡ l.ring → RingsKept h first k → RingsKept h first l
  same_keeps k l memory rings keeps r driver = search (rules, shape_of, l.memory, first.ring, k.ring)

  -- a step further
  goes_on : (k : Known) (r : ℕ) → IsDriverRing h r → (w : RingView) → RingsKept h first k → (IsDriverRing h r → RingKept (shape_of h r) k.memory (k.ring r) w) →
      RingKept (shape_of h r) k.memory (first.ring r) w
  goes_on k r driver w keeps here =
      record { rules = (here driver).rules; passes = passes_both (shape_of h r) (first.ring r) (k.ring r) w (keeps r driver).passes (here driver).passes }

  -- what happens on one ring changes no other
  pub on_ring_keeps : (k : Known) (r : ℕ) (change : RingChange) → RingsKept h first k →
      (IsDriverRing h r → RingKept (shape_of h r) k.memory (k.ring r) (changed (shape_of h r) (k.ring r) change)) → RingsKept h first (on_ring h k r change)
  unfolding on_ring
  on_ring_keeps k r change keeps here q driver =
      elim (cases_eq q r) [
        | inl same ↦
            subst (λ n. RingKept (shape_of h n) k.memory (first.ring n) ((on_ring h k r change).ring n)) (sym same)
            (subst (λ v. RingKept (shape_of h r) k.memory (first.ring r) v) (sym (ring_here h k r change))
            (goes_on k r (subst (λ n. IsDriverRing h n) same driver) (changed (shape_of h r) (k.ring r) change) keeps here))
        | inr other ↦ subst (λ v. RingKept (shape_of h q) k.memory (first.ring q) v) (sym (ring_elsewhere h k r q change other)) (keeps q driver)
      ]

  -- two things, one after the other
  pub on_ring_twice_keeps : (k : Known) (r : ℕ) (one two : RingChange) → RingsKept h first k →
      (IsDriverRing h r → RingKept (shape_of h r) k.memory (k.ring r) (changed (shape_of h r) (changed (shape_of h r) (k.ring r) one) two)) →
      RingsKept h first (on_ring h (on_ring h k r one) r two)
  unfolding on_ring
  on_ring_twice_keeps k r one two keeps here q driver =
      let between : Known = on_ring h k r one in
      let both : (on_ring h between r two).ring r ≡ changed (shape_of h r) (changed (shape_of h r) (k.ring r) one) two =
      ring_here h between r two ∙ ap (λ v. changed (shape_of h r) v two) (ring_here h k r one) in
      elim (cases_eq q r) [
        | inl same ↦
            subst (λ n. RingKept (shape_of h n) k.memory (first.ring n) ((on_ring h between r two).ring n)) (sym same)
            (subst (λ v. RingKept (shape_of h r) k.memory (first.ring r) v) (sym both)
            (goes_on k r (subst (λ n. IsDriverRing h n) same driver) (changed (shape_of h r) (changed (shape_of h r) (k.ring r) one) two) keeps here))
        | inr other ↦
            subst (λ v. RingKept (shape_of h q) k.memory (first.ring q) v) (sym (ring_elsewhere h between r q two other ∙ ring_elsewhere h k r q one other)) (keeps q driver)
      ]

-- one row more
module _ (h : Header) (k : Known) (keeps : RingsKeep h k) where
  pub stands : RingsKept h k k
  stands r driver = record { rules = keeps r driver; passes = passes_same (shape_of h r) (k.ring r) }

  pub declared_keeps : IsHeader h → (r : ℕ) (blocks : List Block) → lenient h k (Sub r blocks) ≡ [] → RingsKept h k (on_ring h k r (Declares blocks))
  declared_keeps is r blocks clean =
      on_ring_keeps h k k r (Declares blocks) stands
      (λ driver. record {
        rules = declares_keeps (shape_of h r) (shape_allowed h is r driver) k.memory (k.ring r) blocks (keeps r driver) (may_declare h k r blocks clean).1;
        passes = passes_held (shape_of h r) k.memory (k.ring r) (changed (shape_of h r) (k.ring r) (Declares blocks)) (keeps r driver) refl refl;
      })

  word_keeps : IsHeader h → (a w : ℕ) → MayCome h k (Write a w) → RingsKept h k (with_word h k a w)
  unfolding with_word
  word_keeps is a w may r driver =
      record {
        rules = elim (free_or_same h k a w may.0) [
          | inl free ↦ writes_keeps (shape_of h r) k.memory (k.ring r) a w (keeps r driver) (may_write h k a w may free r driver)
          | inr (inl same) ↦ same_word_keeps (shape_of h r) k.memory (k.ring r) (keeps r driver) a w same
          | inr (inr unchained) ↦ cleared_keeps (shape_of h r) k.memory (k.ring r) (keeps r driver) a w (is_no_other h is k a w unchained r driver) (unchained_is h k a w unchained).cleared
        ];
        passes = passes_held (shape_of h r) k.memory (k.ring r) (changed (shape_of h r) (k.ring r) (Writes a w)) (keeps r driver) refl refl;
      }

  device_keeps : (l : Known) (taken : Option (ℕ × ℕ)) → RingsKept h k l → RingsKept h k (with_device h l taken)
  unfolding with_device
  device_keeps l o kept = grind (arith, same_keeps, with_device)

  pub written_keeps : IsHeader h → (a w : ℕ) → MayCome h k (Write a w) → RingsKept h k (written h k a w)
  unfolding written
  written_keeps is a w may = device_keeps (with_word h k a w) (option_and_then (taken_device k) (command_given h k a w)) (word_keeps is a w may)

  pub register_keeps : (r : Register) (x : ℕ) → RingsKept h k (register_written h k r x)
  unfolding register_written valued
  register_keeps Usbcmd x =
      let same = runs_leave h (valued k Usbcmd x) x in same_keeps h k k (register_written h k Usbcmd x) (sym same.memory) (sym same.ring) stands
  register_keeps Crcr x = same_keeps h k k (register_written h k Crcr x) refl refl stands
  register_keeps Erdp x = same_keeps h k k (register_written h k Erdp x) refl refl stands
  register_keeps r x = same_keeps h k k (valued k r x) refl refl stands

  pub status_keeps : (r : Register) (x : ℕ) → RingsKept h k (register_read k r x)
  unfolding register_read status_read
  status_keeps o x = grind (arith, same_keeps, stands)

  open_keeps : IsHeader h → (r : ℕ) → IsRestored (k.ring r) → RingsKept h k (on_ring h k r Opens)
  open_keeps is r restored = search (rules, on_ring_keeps, stands, opens_keeps, shape_allowed, passes_restored)

  endpoint_keeps : IsHeader h → (s t : ℕ) (ring : Option ℕ) → k.ring_of s t ≡ ring → EndpointRestored k s t → RingsKept h k (endpoint_rung h k s t ring)
  unfolding endpoint_rung
  endpoint_keeps is s t None has restored = stands
  endpoint_keeps is s t (Some r) has restored = same_keeps h k (on_ring h k r Opens) (endpoint_rung h k s t (Some r)) refl refl (open_keeps is r (restored r has))

  pub rung_keeps : IsHeader h → (s t : ℕ) → IsRestored (k.ring (command_id h)) → EndpointRestored k s t → RingsKept h k (rung h k s t)
  unfolding rung
  rung_keeps is s t commands restored =
      cond_both (s == 0) (on_ring h k (command_id h) Opens) (endpoint_rung h k s t (k.ring_of s t)) (RingsKept h k)
      (λ _. open_keeps is (command_id h) commands) (λ _. endpoint_keeps is s t (k.ring_of s t) refl restored)
