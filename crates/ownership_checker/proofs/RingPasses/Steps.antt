-- A row more of a pass
use Rattle.ownership_checker.proofs.LowerLaws.{reset, resets, reset_keeps, frees_badly, coming_keeps, going_keeps, MayCome, learned_or_reset, ◌≡◌, ◌+◌, ◌++◌, ◌∷◌, ◌∙◌, ℕ, headline, true, false, List, [], All, Option, Result, IfErr, suc, length, reverse, arith, refl, sym, ap, subst, inl, inr, reverse-append, All-cons, All-head, All-nil, All-tail, Header, Known, Ring, IsHeader, DriverKeeps, nothing, false≢true, lenient_row, nothing_kept, clean_tests, EventState, Row, RingRow, FreeRow, TraceRecord, FollowsTrace, IsWithin, IsLeast, IsRowStep, Refusal, IsTracked, ContextsFit, IsComing, learned, Reg, Bool, if◌then◌else◌, is_bad_ring, with_ring, without_ring, AreKept, IsRow, header_now, known_now, is_left, restored, restored_on, ring_restored, some_flips, row_comes, stopped_still, BadFree, BadRing, BadWithdraw, withdraws_badly, restored_same, IsLeastOfRow, DoNoHarm, IsRingPassed, NothingFree, RingPass, kept_driver, NopRow, IsFinder, contexts_fit, row_keeps, withdraw_keeps, IsRingStep, least_broken, none_broken, reversed_twice, rules, is_ring_row, kept_coming, kept_going, kept_withdrawing, coming_alone, going_alone, withdrawing_alone, comes_free, driven_after, driven_free, driver_same, flips_none_restored, goes_free, header_driven, kept_now, no_rule_broken, nothing_free, stands_where_restored, nothing_fits, tables_fit}
use Rattle.trace_record.specs.declared.fault.StepFault as step
use Rattle.safety.specs.RingChanges.Histories.{MayBegin}
use Rattle.trace_record.specs.declared.fault.StepFault.TheVariants as variants
use Rattle.trace_record.specs.Steps as steps

all_joined : (xs ys : List Row) → All IsRow xs → All IsRow ys → All IsRow (xs ++ ys)
all_joined [] ys first second = second
all_joined (x ∷ xs) ys first second = search (rules, All-cons, All-head, All-tail, all_joined xs ys)

pub all_reversed : (rows : List Row) → All IsRow rows → All IsRow (reverse rows)
all_reversed [] are = are
all_reversed (row ∷ rows) are = rw (reverse-append (row ∷ []) rows) (all_joined (reverse rows) (row ∷ []) (all_reversed rows (All-tail IsRow row rows are))
    (All-cons IsRow row [] (All-head IsRow row rows are) (All-nil IsRow)))

one_more : (events : Option EventState) (n : ℕ) → IsWithin events n → IsWithin events (n + 1)
one_more events n within = grind arith

one_later : (t : TraceRecord) (n : ℕ) → IsWithin t.events n → IsWithin t.events (suc n)
one_later t n within = subst (IsWithin t.events) (omega arith) (one_more t.events n within)

-- of a refusal of a row, what follows of it
pub refused_too : {T : Type 0} (r : Result T step.StepFault) (P Q : Refusal → Type 0) → ((c : Refusal) → P c → Q c) → IfErr r (λ e. steps.IfRefused e P) → IfErr r (λ e. steps.IfRefused e Q)
refused_too r P Q f so = grind (arith, f)

pub told_of : (e : step.StepFault) (P Q : Refusal → Type 0) → ((c : Refusal) → P c → Q c) → steps.IfRefused e P → steps.IfRefused e Q
told_of e P Q f so = grind (arith, f)

-- behind a row that breaks no rule the driver keeps what it kept
module _ (h : Header) (is : IsHeader h) (k : Known) (keeps : DriverKeeps h k) where
  keeps_behind : (row : Row) → MayCome h k row → (learned_or_reset h k row).stopped ≡ false → DriverKeeps h (learned_or_reset h k row)
  keeps_behind (Reg r v) may still = by (resets k r v) refl still
    where
      by : (b : Bool) → resets k r v ≡ b → (if b then reset h k else learned h k (Reg r v)).stopped ≡ false → DriverKeeps h (if b then reset h k else learned h k (Reg r v))
      by true done still = reset_keeps h is k keeps r v may.0 done
      by false none still = kept_driver h is k (Reg r v) keeps may still
  keeps_behind row may still = kept_driver h is k row keeps may still

module _ {B M : Type 0} (words : M → ℕ → ℕ) where
  pub before_rows : (pass : RingPass B M) → MayBegin pass.header → IsFinder pass.header.rings pass.finder → IsWithin pass.record.events 0 → FollowsTrace pass.header nothing pass.record (words pass.memory) →
      IsRingPassed words pass.header [] pass
  before_rows pass is found unread follows = record {
    opening = is;
    header = refl;
    headed = is.0;
    found = found;
    few_reads = unread;
    tracked = record { follows = follows; keeps = λ on. nothing_kept pass.header is };
    tables = nothing_fits pass.header;
    clean = tt;
    unwithdrawn = λ none. nothing_free;
  }

  module _ (h : Header) (past : List Row) (before : RingPass B M) (p : IsRingPassed words h past before) where
    abbrev g : Header
    g = header_now h past

    abbrev k : Known
    k = known_now h past

    -- what is tracked, by the rings that are there
    pub tracked_now : IsTracked g k before.record (words before.memory)
    tracked_now = subst (λ (x : Header). IsTracked x k before.record (words before.memory)) p.header p.tracked

    pub headed_now : IsHeader g
    headed_now = subst IsHeader p.header p.headed

    -- behind a row of the driver: what it starts or moves stood as declared
    pub driven_behind : (row : Row) → is_ring_row row ≡ false → (after : TraceRecord) (memory : ℕ → ℕ) → is_left g k (ring_restored g k row) ≡ false → some_flips g (restored g k row) row ≡ false →
        IsRowStep g (restored g k row) row after memory → IsWithin after.events (length past + 1) →
        (later : RingPass B M) → later.header ≡ before.header → later.finder ≡ before.finder → later.record ≡ after → words later.memory ≡ memory →
        (later.has_withdrawn ≡ false → NothingFree (known_now h (row ∷ past))) → IsRingPassed words h (row ∷ past) later
    driven_behind row driven after memory stands flips now reads later header same is at none =
        let clean = lenient_row g (restored g k row) row now.clean in
        let on : k.stopped ≡ false = sym (stopped_still g k (ring_restored g k row)) ∙ (clean_tests g (restored g k row) row clean).0 in
        let keeps = tracked_now.keeps on in
        let keeps_restored : DriverKeeps g (restored g k row) = row_keeps g headed_now k keeps row stands in
        record {
          opening = p.opening;
          header = header ∙ p.header ∙ sym (header_driven g row driven);
          headed = rw header p.headed;
          found = rw (header, same) p.found;
          few_reads = rw is (subst (IsWithin after.events) (omega arith) reads);
          tracked = rw (is, at, header, p.header, driven_after g k row driven)
              (record { follows = now.followed; keeps = keeps_behind g headed_now (restored g k row) keeps_restored row (row_comes g headed_now k keeps row clean flips) });
          tables = tables_fit g headed_now k row keeps_restored clean p.tables;
          clean = (p.clean, no_rule_broken g k row (record { on = on; stands = stands; flips = flips; clean = now.clean }));
          unwithdrawn = none;
        }

    -- the same where nothing was withdrawn
    module _ (has_none : before.has_withdrawn ≡ false) where
      pub none_now : NothingFree k
      none_now = p.unwithdrawn has_none

      pub quiet_behind : (row : Row) → is_ring_row row ≡ false → (after : TraceRecord) (memory : ℕ → ℕ) → IsRowStep before.header k row after memory → IsWithin after.events (length past + 1) →
          (later : RingPass B M) → later.header ≡ before.header → later.finder ≡ before.finder → later.record ≡ after → words later.memory ≡ memory → IsRingPassed words h (row ∷ past) later
      quiet_behind row driven after memory step reads later header same is at =
          driven_behind row driven after memory (stands_where_restored g k none_now row) (flips_none_restored g k none_now row)
          (rw (restored_same g k row none_now, ← p.header) step) reads later header same is at (λ none. driven_free h past none_now row driven)

      pub least_quiet : (row : Row) (c : Refusal) → IsLeast before.header k row c → IsLeastOfRow g k row c
      least_quiet row c least = rw (driver_same g k none_now row, ← p.header) least

    -- where the ring that a row starts or moves stands as declared, this holds what is known once that is the controller's again
    pub restored_tracked : (row : Row) (o : Option ℕ) (after : TraceRecord) → o ≡ ring_restored before.header k row → k.stopped ≡ false → is_left before.header k (ring_restored before.header k row) ≡ false →
        FollowsTrace before.header (restored_on before.header k o) after (words before.memory) → IsTracked before.header (restored before.header k row) after (words before.memory)
    restored_tracked row o after is on stands follows = record { follows = rw (← is) follows; keeps = λ still. row_keeps before.header p.headed k (p.tracked.keeps on) row stands }

    -- behind a ring that comes
    pub comes_behind : (ring : Ring) → IsComing ring → (after : TraceRecord) → (DriverKeeps before.header k → k.stopped ≡ false → IsRingStep before.header k (RingRow ring) after (words before.memory)) →
        k.stopped ≡ false → IsWithin after.events (length past) → (later : RingPass B M) → later.header ≡ with_ring before.header ring → IsHeader later.header → IsFinder later.header.rings later.finder → later.record ≡ after →
        words later.memory ≡ words before.memory → later.has_withdrawn ≡ before.has_withdrawn → IsRingPassed words h (RingRow ring ∷ past) later
    unfolding ring_restored restored_on
    comes_behind ring coming after stepped on reads later header is found recorded at same =
        let keeps = tracked_now.keeps on in
        let now : IsRingStep g k (RingRow ring) after (words before.memory) = rw p.header at (stepped (p.tracked.keeps on) on) in
        let good = kept_coming g k ring now.kept in
        let there : later.header ≡ with_ring g ring = header ∙ ap (λ (x : Header). with_ring x ring) p.header in
        record {
          opening = p.opening;
          header = there;
          headed = is;
          found = found;
          few_reads = rw recorded (one_later after (length past) reads);
          tracked = rw (recorded, at, there) (record { follows = now.followed; keeps = λ still. coming_keeps g headed_now ring coming k keeps good.1 });
          tables = tables_fit g headed_now k (RingRow ring) keeps now.kept.0 p.tables;
          clean = (p.clean, none_broken k _ BadRing (is_bad_ring g k ring) (coming_alone g k ring) good);
          unwithdrawn = λ none. comes_free h past (p.unwithdrawn (sym same ∙ none)) ring;
        }

    -- behind a ring that goes
    pub goes_behind : (id : ℕ) (after : TraceRecord) → (DriverKeeps before.header k → k.stopped ≡ false → IsRingStep before.header k (FreeRow id) after (words before.memory)) →
        (DriverKeeps before.header k → frees_badly before.header k id ≡ false) → k.stopped ≡ false → IsWithin after.events (length past) → (later : RingPass B M) → later.header ≡ without_ring before.header id → IsHeader later.header → IsFinder later.header.rings later.finder → later.record ≡ after →
        words later.memory ≡ words before.memory → later.has_withdrawn ≡ before.has_withdrawn → IsRingPassed words h (FreeRow id ∷ past) later
    unfolding ring_restored restored_on
    goes_behind id after stepped allowed on reads later header is found recorded at same =
        let keeps = tracked_now.keeps on in
        let now : IsRingStep g k (FreeRow id) after (words before.memory) = rw p.header at (stepped (p.tracked.keeps on) on) in
        let there : later.header ≡ without_ring g id = header ∙ ap (λ (x : Header). without_ring x id) p.header in
        let good = kept_going g k id now.kept in
        record {
          opening = p.opening;
          header = there;
          headed = is;
          found = found;
          few_reads = rw recorded (one_later after (length past) reads);
          tracked = rw (recorded, at, there) (record { follows = now.followed; keeps = λ still. going_keeps g headed_now id k keeps good.1 });
          tables = tables_fit g headed_now k (FreeRow id) keeps now.kept.0 p.tables;
          clean = (p.clean, none_broken k _ BadFree (frees_badly g k id) (going_alone g k id) (on, rw p.header at (allowed (p.tracked.keeps on))));
          unwithdrawn = λ none. goes_free h past (p.unwithdrawn (sym same ∙ none)) id;
        }

    -- behind a descriptor that is withdrawn
    pub withdrawn_behind : (r q : ℕ) (after : TraceRecord) → (DriverKeeps before.header k → k.stopped ≡ false → IsRingStep before.header k (NopRow r q) after (words before.memory)) →
        (DriverKeeps before.header k → withdraws_badly before.header k r q ≡ false) → k.stopped ≡ false → IsWithin after.events (length past) →
        (later : RingPass B M) → later.header ≡ before.header → later.finder ≡ before.finder → later.record ≡ after → words later.memory ≡ words before.memory → later.has_withdrawn ≡ true →
        IsRingPassed words h (NopRow r q ∷ past) later
    unfolding ring_restored restored_on
    withdrawn_behind r q after stepped good on reads later header same recorded at has =
        let keeps = tracked_now.keeps on in
        let now : IsRingStep g k (NopRow r q) after (words before.memory) = rw p.header at (stepped (p.tracked.keeps on) on) in
        record {
          opening = p.opening;
          header = header ∙ p.header;
          headed = rw header p.headed;
          found = rw (header, same) p.found;
          few_reads = rw recorded (one_later after (length past) reads);
          tracked = rw (recorded, at, header, p.header) (record { follows = now.followed; keeps = λ still. withdraw_keeps g r q headed_now k keeps (kept_withdrawing g k r q now.kept).1 });
          tables = tables_fit g headed_now k (NopRow r q) keeps now.kept.0 p.tables;
          clean = (p.clean, none_broken k _ BadWithdraw (withdraws_badly g k r q) (withdrawing_alone g k r q) (on, rw p.header at (good (p.tracked.keeps on))));
          unwithdrawn = λ none. absurd (false≢true (sym none ∙ has));
        }

    -- the log and the indexes tell nothing of this
    pub same_still : (later : RingPass B M) → later.header ≡ before.header → later.finder ≡ before.finder → later.record ≡ before.record → later.memory ≡ before.memory →
        later.has_withdrawn ≡ before.has_withdrawn → IsRingPassed words h past later
    same_still later header finder known memory withdrawn = rw (header, finder, known, memory, withdrawn) (assumption p)

    -- no run beside the rows, in their order, does harm
    pub no_harm : All IsRow past → DoNoHarm h (reverse past)
    no_harm are = headline h (reverse past) p.opening.0 p.opening.1 (all_reversed past are) (subst (AreKept h) (sym (reversed_twice past)) (kept_now h past p.clean))

  -- ---- a ring that is refused, whatever rows were passed before it

  pub comes_refused : (before : RingPass B M) (ring : Ring) → ((h : Header) (past : List Row) → IsRingPassed words h past before → (known_now h past).stopped ≡ false) → (e : step.StepFault) →
      steps.IfRefused e (λ c. (c ≡ BadRing) × ((k : Known) → FollowsTrace before.header k before.record (words before.memory) → is_bad_ring before.header k ring ≡ true)) →
      steps.IfRefused e (λ c. (h : Header) (past : List Row) → IsRingPassed words h past before → IsLeastOfRow (header_now h past) (known_now h past) (RingRow ring) c)
  comes_refused before ring on (variants.Refused c) bad = λ h past p.
      let g = header_now h past in
      let k = known_now h past in
      subst (λ (x : Refusal). IsLeastOfRow g k (RingRow ring) x) (sym bad.0)
      (least_broken k _ BadRing (is_bad_ring g k ring) (coming_alone g k ring) (on h past p) (subst (λ (x : Header). is_bad_ring x k ring ≡ true) p.header (bad.1 k p.tracked.follows)))
  comes_refused before ring on variants.Memory bad = tt

  pub goes_refused : (before : RingPass B M) (id : ℕ) → ((h : Header) (past : List Row) → IsRingPassed words h past before → (known_now h past).stopped ≡ false) → (e : step.StepFault) →
      steps.IfRefused e (λ c. (c ≡ BadFree) × ((k : Known) (memory : ℕ → ℕ) → FollowsTrace before.header k before.record memory → DriverKeeps before.header k → frees_badly before.header k id ≡ true)) →
      steps.IfRefused e (λ c. (h : Header) (past : List Row) → IsRingPassed words h past before → IsLeastOfRow (header_now h past) (known_now h past) (FreeRow id) c)
  goes_refused before id on (variants.Refused c) bad = λ h past p.
      let g = header_now h past in
      let k = known_now h past in
      let runs = on h past p in
      subst (λ (x : Refusal). IsLeastOfRow g k (FreeRow id) x) (sym bad.0)
      (least_broken k _ BadFree (frees_badly g k id) (going_alone g k id) runs
      (subst (λ (x : Header). frees_badly x k id ≡ true) p.header (bad.1 k (words before.memory) p.tracked.follows (p.tracked.keeps runs))))
  goes_refused before id on variants.Memory bad = tt

  -- a descriptor that is refused
  pub withdrawn_refused : (before later : RingPass B M) (r q : ℕ) → ((h : Header) (past : List Row) → IsRingPassed words h past before → IsRingPassed words h past later × ((known_now h past).stopped ≡ false)) →
      (e : step.StepFault) →
      steps.IfRefused e (λ c. (c ≡ BadWithdraw) × ((k : Known) → FollowsTrace later.header k later.record (words later.memory) → DriverKeeps later.header k → ContextsFit later.header k → withdraws_badly later.header k r q ≡ true)) →
      steps.IfRefused e (λ c. (h : Header) (past : List Row) → IsRingPassed words h past before → IsLeastOfRow (header_now h past) (known_now h past) (NopRow r q) c)
  withdrawn_refused before later r q still (variants.Refused c) bad = λ h past p.
      let g = header_now h past in
      let k = known_now h past in
      let l = (still h past p).0 in
      let on = (still h past p).1 in
      let keeps = l.tracked.keeps on in
      subst (λ (x : Refusal). IsLeastOfRow g k (NopRow r q) x) (sym bad.0)
      (least_broken k _ BadWithdraw (withdraws_badly g k r q) (withdrawing_alone g k r q) on
      (subst (λ (x : Header). withdraws_badly x k r q ≡ true) l.header (bad.1 k l.tracked.follows keeps (contexts_fit later.header k keeps))))
  withdrawn_refused before later r q still variants.Memory bad = tt
