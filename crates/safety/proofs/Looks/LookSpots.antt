-- A look at a ring of a rule-keeping driver: what it finds, and where the pointer stands behind it
use Rattle.safety.proofs.LowerLaws.{◌≡◌, ◌+◌, ◌-◌, ◌%◌, ◌^◌, ◌≤◌, if◌then◌else◌, ◌∷◌, ◌∙◌, ℕ, true, false, arith, refl, sym, ap, subst, inl, inr, cases_Bool, false≢true, mod-eq_of_lt, is_set, aligned, block_at, cycle, kind, pointer, word, is_link, kind-with_cycle, Spot, Data, Link, address_of, cycle_of, link_address, after, spot_address, declared_at, ceiling, cycle_of_bit, next_is_spot, spot_address-after, Header, IsHeader, shape_of, World, Took, next_take, Known, IsDriverRing, DriverKeeps, Stands, RingMatches, state_of, rules, ring_shape, Takeable, Crossable, takeable, crossable, waits_at_block, waits_at_link, ceiling_open, step_inside, spot_lies, leads_on, crossed_matches, taken_matches, behind_link, behind_block}
use Rattle.safety.proofs.Looks.LookKinds.{seen}
use Rattle.safety.proofs.NoHarm.Safe.{stands_at, block_found}

module _ (h : Header) (is : IsHeader h) (k : Known) (w : World) (d : DriverKeeps h k) (s : Stands h k w) (r : ℕ) (ring : IsDriverRing h r) where
  -- with its own cycle a block is given
  found_block : (q : ℕ) → RingMatches (shape_of h r) (k.ring r) (state_of w r) (Data q) → w.is_active r ≡ true → cycle (seen w r) ≡ w.cycle_state r → Takeable (shape_of h r) k.memory (k.ring r) q
  found_block q m on same =
      let allowed = (ring_shape h is r ring).is in
      let keeps = d.rings r ring in
      let at = stands_at h is k w d s r (Data q) ring m in
      let found = block_found h is k w d s r (Data q) ring m in
      elim (cases_Bool ((k.ring r).given q)) [
        | inl given ↦ takeable (shape_of h r) allowed k.memory (k.ring r) keeps q at given (keeps.open_restored (m.opened on) q)
        | inr missing ↦ absurd (waits_at_block (shape_of h r) allowed k.memory (k.ring r) keeps q at missing (sym (ap (λ b. cycle b) found) ∙ same ∙ m.cycle))
      ]

  -- and a Link too
  found_link : (q : ℕ) → RingMatches (shape_of h r) (k.ring r) (state_of w r) (Link q) → cycle (seen w r) ≡ w.cycle_state r → Crossable (shape_of h r) k.memory (k.ring r) q
  found_link q m same =
      let allowed = (ring_shape h is r ring).is in
      let keeps = d.rings r ring in
      let at = stands_at h is k w d s r (Link q) ring m in
      let found = block_found h is k w d s r (Link q) ring m in
      elim (cases_Bool ((k.ring r).crossed q)) [
        | inl given ↦ crossable (shape_of h r) allowed k.memory (k.ring r) keeps q at given
        | inr missing ↦ absurd (waits_at_link (shape_of h r) allowed k.memory (k.ring r) keeps q at missing (sym (ap (λ b. cycle b) found) ∙ same ∙ m.cycle))
      ]

  pub block_no_link : (q : ℕ) → RingMatches (shape_of h r) (k.ring r) (state_of w r) (Data q) → Takeable (shape_of h r) k.memory (k.ring r) q → is_link (kind (seen w r)) ≡ false
  block_no_link q m t =
      ap (λ b. is_link (kind b)) (block_found h is k w d s r (Data q) ring m ∙ t.stands)
      ∙ ap is_link (kind-with_cycle t.block (cycle_of (shape_of h r) q) (cycle_of_bit (shape_of h r) q)) ∙ t.no_link

  pub link_is : (q : ℕ) → RingMatches (shape_of h r) (k.ring r) (state_of w r) (Link q) → Crossable (shape_of h r) k.memory (k.ring r) q → is_link (kind (seen w r)) ≡ true
  link_is q m c =
      ap (λ b. is_link (kind b)) (block_found h is k w d s r (Link q) ring m) ∙ (leads_on (shape_of h r) c.link (block_at k.memory (link_address (shape_of h r) q)) c.leads).is_link

  -- behind a Link that is followed
  pub record CrossDone (t : Spot) : Type 0 where
    pub number : ℕ
    pub was : t ≡ Link number
    pub matches : RingMatches (shape_of h r) (k.ring r) (behind_link h w r (seen w r)) (Data number)

  pub cross_done : (t : Spot) → RingMatches (shape_of h r) (k.ring r) (state_of w r) t → w.is_active r ≡ true → cycle (seen w r) ≡ w.cycle_state r → is_link (kind (seen w r)) ≡ true → CrossDone t
  cross_done (Data q) m on same link = absurd (false≢true (sym (block_no_link q m (found_block q m on same)) ∙ link))
  cross_done (Link q) m on same link =
      let c = found_link q m same in
      let b = block_found h is k w d s r (Link q) ring m in
      let leads = leads_on (shape_of h r) c.link (block_at k.memory (link_address (shape_of h r) q)) c.leads in
      record {
        number = q;
        was = refl;
        matches = crossed_matches (shape_of h r) (ring_shape h is r ring).is k.memory (k.ring r) (state_of w r) q m c _ _
            (ap (λ b. aligned (pointer b)) b ∙ leads.target)
            (ap (λ t. if t then 1 - w.cycle_state r else w.cycle_state r) (ap (λ b. is_set (word b 3) 1) b ∙ leads.toggles_is));
      }

  -- behind a block that is taken
  pub record TakeDone (t : Spot) : Type 0 where
    pub number : ℕ
    pub was : t ≡ Data number
    pub block : Takeable (shape_of h r) k.memory (k.ring r) number
    pub found : seen w r ≡ block_at k.memory (address_of (shape_of h r) number)
    pub matches : RingMatches (shape_of h r) (k.ring r) (behind_block h w r (seen w r)) (after (shape_of h r) number)

  behind_ends : (q : ℕ) → w.pointer_of r ≡ address_of (shape_of h r) q → (w.pointer_of r + 16) % 2 ^ 64 ≡ address_of (shape_of h r) q + 16
  behind_ends q at =
      let allowed = ring_shape h is r ring in
      let lies = spot_lies (shape_of h r) allowed.is (after (shape_of h r) q) (next_is_spot (shape_of h r) (Data q)) in
      let next : spot_address (shape_of h r) (after (shape_of h r) q) ≡ address_of (shape_of h r) q + 16 = spot_address-after (shape_of h r) allowed.is allowed.other q in
      mod-eq_of_lt (omega (arith, lies.ends)) ∙ ap (λ n. n + 16) at

  declared_same : (q : ℕ) → next_take (shape_of h r) (w.events r) ≡ q →
      declared_at (w.queue r) (w.lengths r) (next_take (shape_of h r) (w.events r)) ≡ declared_at (k.ring r).queue (k.ring r).lengths q
  declared_same q at = search (rules, declared_at, w.lengths, next_take, shape_of, w.events, s.queues, k.ring, s.lengths)

  pub take_done : (t : Spot) → RingMatches (shape_of h r) (k.ring r) (state_of w r) t → w.is_active r ≡ true → cycle (seen w r) ≡ w.cycle_state r → is_link (kind (seen w r)) ≡ false → TakeDone t
  take_done (Link q) m on same block = absurd (false≢true (sym block ∙ link_is q m (found_link q m same)))
  take_done (Data q) m on same block =
      let allowed = ring_shape h is r ring in
      let t = found_block q m on same in
      let high : q + 1 ≤ ceiling (shape_of h r) (k.ring r) = omega (arith, t.below, ceiling_open (shape_of h r) (k.ring r) (m.opened on)) in
      record {
        number = q;
        was = refl;
        block = t;
        found = block_found h is k w d s r (Data q) ring m;
        matches = subst (λ o. RingMatches (shape_of h r) (k.ring r) (record (state_of w r) { pointer = (w.pointer_of r + 16) % 2 ^ 64; events = Took (w.pointer_of r) (seen w r) o ∷ w.events r }) (after (shape_of h r) q))
            (sym (declared_same q m.next))
            (taken_matches (shape_of h r) allowed.is allowed.other k.memory (k.ring r) (state_of w r) q m t _ (seen w r) (behind_ends q m.pointer) (block_found h is k w d s r (Data q) ring m) high
            (step_inside (shape_of h r) allowed.is k.memory (k.ring r) (d.rings r ring) (q + 1) t.below));
      }
