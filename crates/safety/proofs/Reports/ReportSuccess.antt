-- The controller reports that a take has succeeded: the run goes on
use Rattle.safety.proofs.LowerLaws.{may_have_data, spot_named, names, None, cond-false, ◌⊎◌, ◌&&◌, counted_code, is_of_service, has_isoch, code_told, code_posted, in_profile_is, no_service, [], ◌≡◌, ◌≢◌, ◌+◌, ◌<◌, ◌||◌, ◌∷◌, ◌++◌, ◌∙◌, ℕ, true, false, not, List, drop, Option, Some, position, arith, refl, sym, ap, subst, inl, inr, lt-ltb, rules, false≢true, and_parts, and_right, or_from, or_left, cond-true, not-true, not_from_true, none-some, same_Some, Block, BlockKind, IsBlock, code, endpoint, kind, slot, is_transfer_event, is_command_completion, is_other_event, is_success, is_transfer_code, Spot, Data, after, number, floor_number, ceiling, is_data_below, Off, is_off, Header, Read, IsHeader, shape_of, command_id, World, takes_of, unreported, can_post, posted, with_reported, report_success, report_code, reported_on, reported, counted, Known, event_read, learned, RingSpot, event_at, on_ring, spot_on, passed, transferred, transferred_at, transfer_read, lenient, is_in_profile, is_impossible_by_kind, is_impossible_transfer, can_report, can_report_at, DriverKeeps, state_of, BoundRing, Agrees, Runs, all_read, TransferEvent, transfer_driver, transfer_not_command, ring_shape, agrees_counted, with_reads, OnlyRing, stands_only, events_only, late_only, cond_is, put_at, put_off, LearnsRing, stands_learns, matches_learns}
use Rattle.std.proofs.Common.{option_map}
use Rattle.safety.proofs.Posts.Posted.{PostKeeps, post_keeps}
use Rattle.safety.proofs.Posts.EventRead.{learned_read, event_clean, blocks_more, possible_more, read_more}
use Rattle.safety.proofs.Reports.ReportedRing.{open_takes, reported_is, reported_matches, reported_unreported}
use Rattle.safety.proofs.StatesKeep.StatesPlaced.{on_is}

pub transfer_kind : (t : BlockKind) → is_transfer_event t ≡ true → t ≡ TransferEvent
transfer_kind o h = grind (arith, false≢true)

pub mapped : {A B : Type 0} (f : A → B) (o : Option A) (y : B) → option_map f o ≡ Some y → (x : A) × (o ≡ Some x) × (f x ≡ y)
mapped f o y at = grind (arith, none-some, same_Some)

pub record IsReport (h : Header) (k : Known) (w v : World) (b : Block) : Type 0 where
  pub can : can_post h w b ≡ true
  pub transfer : is_transfer_event (kind b) ≡ true
  pub may_data : may_have_data h.version b ≡ true
  pub ring : ℕ
  pub had : w.ring_of (slot b) (endpoint b) ≡ Some ring
  pub by_code : report_code h (posted h w b) (code_told h k b) (slot b) (endpoint b) ring b ≡ Some v

-- it tells of the service of its endpoint, and of no block
pub record IsOfService (h : Header) (w v : World) (b : Block) : Type 0 where
  pub can : can_post h w b ≡ true
  pub transfer : is_transfer_event (kind b) ≡ true
  pub may_data : may_have_data h.version b ≡ true
  pub has : has_isoch h.version ≡ true
  pub service : is_of_service (code b) ≡ true
  pub ring : ℕ
  pub had : w.ring_of (slot b) (endpoint b) ≡ Some ring
  pub is : posted h w b ≡ v

-- what a code says of the ring of an endpoint
record SaysOn (h : Header) (k : Known) (w v : World) (b : Block) (o : Option ℕ) : Type 0 where
  ring : ℕ
  had : o ≡ Some ring
  says : (report_code h (posted h w b) (code_told h k b) (slot b) (endpoint b) ring b ≡ Some v)
      ⊎ ((has_isoch h.version ≡ true) × (is_of_service (code b) ≡ true) × (posted h w b ≡ v))

says_on : (h : Header) (k : Known) (w v : World) (b : Block) (o : Option ℕ) → code_posted h w b ≡ code_told h k b → reported_on h w b o ≡ Some v → SaysOn h k w v b o
unfolding reported_on
says_on h k w v b o told at = grind (arith, none-some, same_Some)

-- a code counts in the world as in what is known
pub told_same : (h : Header) (k : Known) (w : World) (b : Block) → w.isochronous (slot b) (endpoint b) ≡ k.isochronous (slot b) (endpoint b) → code_posted h w b ≡ code_told h k b
unfolding code_posted code_told
told_same h k w b same = ap (λ f. counted_code (has_isoch h.version && f) (code b)) same

-- what is reported could be posted
pub reported_can : (h : Header) (w v : World) (b : Block) → reported h w b ≡ Some v → can_post h w b ≡ true
unfolding reported
reported_can h w v b at = search (rules, cond_is, and_parts, none-some)

pub report_is : (h : Header) (k : Known) (w v : World) (b : Block) → code_posted h w b ≡ code_told h k b → reported h w b ≡ Some v → (IsReport h k w v b) ⊎ (IsOfService h w v b)
unfolding reported
report_is h k w v b told at =
    elim (cond_is (can_post h w b && is_transfer_event (kind b) && may_have_data h.version b) (reported_on h w b (w.ring_of (slot b) (endpoint b))) None (Some v) at) [
      | inl may ↦
          let on = says_on h k w v b (w.ring_of (slot b) (endpoint b)) told may.1 in
          elim on.says [ inl by ↦ inl (search (rules, and_parts, not-true, on.had)) | inr of ↦ inr (search (rules, and_parts, not-true, on.had)) ]
      | inr never ↦ absurd (none-some v never.1)
    ]

-- ---- a success

success_is : (h : Header) (u v : World) (c s i r : ℕ) (b : Block) → is_success c ≡ true → report_code h u c s i r b ≡ Some v →
    (n : ℕ) × (position (names b) (open_takes (state_of u r)) ≡ Some n) × (with_reported h u r (u.reported r + n + 1) ≡ v)
unfolding report_code report_success unreported
success_is h u v c s i r b success at = search (rules, mapped, with_reported, reported, position, drop, takes_of, cond-true, is_success, option_map)

only_reported : (h : Header) (u : World) (r n : ℕ) → OnlyRing u (with_reported h u r n) r (record (state_of u r) { reported = n })
unfolding with_reported
only_reported h u r n = search (rules, put_at, put_off)

reported_under : (h : Header) (u : World) (r n : ℕ) → (with_reported h u r n).under_way ≡ u.under_way
unfolding with_reported
reported_under h u r n = refl

reported_scribbles : (h : Header) (u : World) (r n : ℕ) → (with_reported h u r n).scribbles ≡ u.scribbles
unfolding with_reported
reported_scribbles h u r n = refl

reported_inside : (h : Header) (u : World) (r n : ℕ) → (with_reported h u r n).looked_outside ≡ u.looked_outside
unfolding with_reported
reported_inside h u r n = refl

-- what is known once the success of the block at a spot is read
learns_passed : (h : Header) (k : Known) (r n : ℕ) (t : Spot) → LearnsRing k (with_reads (passed h k r t) n) r (record (k.ring r) { floor = after (shape_of h r) (number t) })
unfolding passed on_ring
learns_passed h k r n t = search (rules, put_at, put_off)

pub event_named : (h : Header) (k : Known) (b : Block) (r : ℕ) (t : Spot) → is_transfer_code (code_told h k b) ≡ true → k.ring_of (slot b) (endpoint b) ≡ Some r → spot_named h k b r ≡ Some t →
    event_at h k b ≡ Some (record { ring = r; spot = t })
unfolding event_at spot_on code_told
event_named h k b r t told had is = grind (arith, no_service, cond-false, option_map)

success_read : (h : Header) (k : Known) (b : Block) (r : ℕ) (t : Spot) → is_transfer_event (kind b) ≡ true → is_success (code_told h k b) ≡ true → event_at h k b ≡ Some (record { ring = r; spot = t }) →
    event_read h k (kind b) b ≡ passed h k r t
unfolding event_read transfer_read transferred_at transferred
success_read h k b r t transfer success at = search (rules, event_read, transfer_kind, kind, transferred_at, cond-true, is_success, code, passed)

pub below_is : (n p : ℕ) → p < n → is_data_below n (Data p) ≡ true
unfolding is_data_below
below_is n p l = lt-ltb p n l

may_report : (h : Header) (k : Known) (b : Block) (r p : ℕ) → is_success (code_told h k b) ≡ true → p < ceiling (shape_of h r) (k.ring r) → can_report_at h k b (Some (record { ring = r; spot = Data p })) ≡ true
unfolding can_report_at can_report
may_report h k b r p success below = cond-true (is_success (code_told h k b)) _ _ success ∙ below_is (ceiling (shape_of h r) (k.ring r)) p below

pub possible : (h : Header) (k : Known) (b : Block) (o : RingSpot) → is_transfer_event (kind b) ≡ true → event_at h k b ≡ Some o → can_report_at h k b (Some o) ≡ true →
    k.endpoint_state (slot b) (endpoint b) ≢ Off → is_impossible_by_kind h k (kind b) b ≡ false
unfolding is_impossible_by_kind is_impossible_transfer
possible h k b o transfer at may on =
    search (rules, is_impossible_by_kind, transfer_kind, kind, and_right, is_in_profile, is_off, slot, endpoint, not, can_report_at, event_at, or_from, on_is, not_from_true)

success_code : (c : ℕ) → is_success c ≡ true → is_transfer_code c ≡ true
success_code c success = search (rules, or_left)

-- the agreement behind the report, and that the event breaks no rule where it will be read
pub record ReportKeeps (h : Header) (k : Known) (unread : List Block) (w v : World) (b : Block) : Type 0 where
  pub clean : lenient h k (Read b) ≡ []
  pub agrees : Agrees h (learned h k (Read b)) (unread ++ b ∷ []) (counted h v)

-- so the run goes on
pub runs_more : (h : Header) (now : Known) (w v : World) (b : Block) → IsBlock b → (run : Runs h now w) → ReportKeeps h (all_read h now run.unread) run.unread w v b → Runs h now (counted h v)
runs_more h now w v b block run keeps = record {
  unread = run.unread ++ b ∷ [];
  possible = possible_more h run.unread now b run.possible keeps.clean;
  blocks = blocks_more run.unread b run.blocks block;
  on = run.on;
  agrees = subst (λ m. Agrees h m (run.unread ++ b ∷ []) (counted h v)) (sym (read_more h run.unread now b)) keeps.agrees;
}

module _ (h : Header) (is : IsHeader h) (k : Known) (unread : List Block) (w v : World) (b : Block) (block : IsBlock b) (running : w.stopped ≡ false) (d : DriverKeeps h k) (g : Agrees h k unread w) (x : IsReport h k w v b) where
  pub p : PostKeeps h k unread w b
  p = post_keeps h is k unread w b block d g x.can

  pub had : k.ring_of (slot b) (endpoint b) ≡ Some x.ring
  had = sym (g.matches.ring_of (slot b) (endpoint b)) ∙ x.had

  pub other : x.ring ≢ command_id h
  other = transfer_not_command h is x.ring (d.states.transfer (slot b) (endpoint b) x.ring had)

  -- an endpoint has the ring
  pub where_bound : (BoundRing (shape_of h x.ring) k.ring_of (k.ring x.ring) (state_of (posted h w b) x.ring) x.ring → ReportKeeps h k unread w v b) → ReportKeeps h k unread w v b
  where_bound goes =
      elim (p.matches.rings x.ring other) [
        | inl bound ↦ goes bound
        | inr free ↦ absurd (free.none (slot b) (endpoint b) had)
      ]

  on_bound : is_success (code_told h k b) ≡ true → BoundRing (shape_of h x.ring) k.ring_of (k.ring x.ring) (state_of (posted h w b) x.ring) x.ring → ReportKeeps h k unread w v b
  unfolding spot_named
  on_bound success bound =
      let r : ℕ = x.ring in
      let u : World = posted h w b in
      let driver = transfer_driver h r (d.states.transfer (slot b) (endpoint b) r had) in
      let allowed = (ring_shape h is r driver).is in
      let keeps = d.rings r driver in
      let f = success_is h u v (code_told h k b) (slot b) (endpoint b) r b success x.by_code in
      let named_take = reported_is (shape_of h r) allowed k.memory (k.ring r) keeps (state_of u r) bound.spot bound.matches bound.takes b f.0 f.1 in
      let q : ℕ = floor_number (k.ring r) + f.0 in
      let at = event_named h k b r (Data q) (success_code (code_told h k b) success) had named_take.named_is in
      let l = learns_passed h k r (k.reads + 1) (Data q) in
      let c : ℕ = u.reported r + f.0 + 1 in
      let o = only_reported h u r c in
      let next : BoundRing (shape_of h r) k.ring_of (record (k.ring r) { floor = after (shape_of h r) q }) (record (state_of u r) { reported = c }) r =
      record {
        slot = bound.slot;
        index = bound.index;
        bound = bound.bound;
        spot = bound.spot;
        matches = reported_matches (shape_of h r) allowed k.memory (k.ring r) keeps (state_of u r) bound.spot bound.matches bound.takes b f.0 c named_take;
        takes = reported_unreported (shape_of h r) allowed k.memory (k.ring r) keeps (state_of u r) bound.spot bound.matches bound.takes b f.0 named_take;
      } in
      let z : World = with_reported h u r c in
      let m : Known = with_reads (passed h k r (Data q)) (k.reads + 1) in
      let after_z : Agrees h m (unread ++ b ∷ []) (counted h z) =
      agrees_counted h m (unread ++ b ∷ []) z
      (stands_learns h k m r _ l z (stands_only h k u z r _ o p.stands))
      (events_only h k u z r _ o (unread ++ b ∷ []) p.events)
      (matches_learns h k m r _ l u z _ o d p.matches other next (reported_under h u r c) (reported_scribbles h u r c) (reported_inside h u r c))
      (o.posted ∙ p.posted_is) (late_only h k u z r _ o p.late) in
      let learned_is : learned h k (Read b) ≡ m = learned_read h k b ∙ ap (λ n. with_reads n (k.reads + 1)) (success_read h k b r (Data q) x.transfer success at) in
      record {
        clean = event_clean h k w b g.stands g.read running p.can p.room
            (or_left (is_transfer_event (kind b) || is_command_completion (kind b)) (is_other_event (kind b)) (or_left (is_transfer_event (kind b)) (is_command_completion (kind b)) x.transfer))
            (possible h k b (record { ring = r; spot = Data q }) x.transfer at (may_report h k b r q success (omega (arith, named_take.within, bound.matches.below))) (d.states.on (slot b) (endpoint b) r had))
            (and_right (is_transfer_event (kind b)) (not (is_in_profile h k b)) (not_from_true (is_in_profile h k b) (in_profile_is h k b x.may_data (success_code (code_told h k b) success))));
        agrees = subst (λ n. Agrees h n (unread ++ b ∷ []) (counted h v)) (sym learned_is) (subst (λ y. Agrees h m (unread ++ b ∷ []) (counted h y)) f.2 after_z);
      }

  pub success_keeps : is_success (code_told h k b) ≡ true → ReportKeeps h k unread w v b
  success_keeps success = where_bound (on_bound success)
