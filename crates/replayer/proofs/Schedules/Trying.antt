-- The schedules that are tried, made step by step
use Rattle.replayer.proofs.LowerLaws.{Block, Read, slice_get, slice_get-get_or, arith, ◌≡◌, ℕ, ◌+◌, ◌-◌, ◌<◌, ◌≤◌, is_some, le-leb, true, false, List, [], ◌∷◌, ◌++◌, append-nil, drop, get_or, length, reverse, Option, Some, None, option_and_then, option_map, option_to_list, Result, Ok, Err, refl, subst, drop_all, lt-leb, All-append, All-cons, All-nil, ◌*◌, All, IfErr, IfNone, IfOk, IfSome, take, is_event_kind, Schedule, Header, Ring, Row, Step, header_after, Unmade, Dropped, Memory, IsMade, Making, looked_at_each, eager_row, eager_rows, eager_schedule, late_schedules, lines_of, looked_at_last, nothing_made, without_late, IsNoRead, IsTame, NoneDoesHarm, lazy_behind, Search, AreClean, left, made_is, unmade}

-- ---- the looks at the end

module _ (late : Option Ring) (h : Header) (m : Making) (rings : List Ring) (same : rings ≡ h.rings ++ option_to_list late) where
  pub last_failed : {X Z : Type 0} (e : Unmade) (P : X → List Ring × Making → Type 0) (Q : Z → List Step → Type 0) → IsMade (Err e) (looked_at_each [] m rings) P → IsMade (Err e) (looked_at_last late h m) Q
  last_failed {X} {Z} e P Q made = subst (λ l. IsMade (Err e) (option_map (λ p. p.1.steps) (looked_at_each [] m l)) Q) same (by e (looked_at_each [] m rings) made)
    where
      by : (e : Unmade) (o : Option (List Ring × Making)) → IsMade (Err e) o P → IsMade (Err e) (option_map (λ p. p.1.steps) o) Q
      by Dropped None made = tt
      by Dropped (Some p) made = absurd made
      by Memory o made = tt

  pub last_made : {X Z : Type 0} (x : X) (z : Z) (view : Z → List Step) (P : X → List Ring × Making → Type 0) → IsMade (Ok x) (looked_at_each [] m rings) P → ((p : List Ring × Making) → P x p → view z ≡ p.1.steps) →
      IsMade (Ok z) (looked_at_last late h m) (λ s steps. view s ≡ steps)
  last_made {X} {Z} x z view P made are = subst (λ l. IsMade (Ok z) (option_map (λ p. p.1.steps) (looked_at_each [] m l)) (λ s steps. view s ≡ steps)) same (by (looked_at_each [] m rings) made)
    where
      by : (o : Option (List Ring × Making)) → IsMade (Ok x) o P → IsMade (Ok z) (option_map (λ p. p.1.steps) o) (λ s steps. view s ≡ steps)
      by None made = absurd made
      by (Some p) made = are p made

-- ---- the eager schedule, row by row

-- nothing is told of what isn't made
abbrev pub Untold : Unit {0} → Header × Making → Type 0
Untold x p = Unit {0}

module _ (late : Option Ring) (g : Header) (active : List Ring) (row : Row) (rows : List Row) (i : ℕ) (k : Making) (below : i < length rows) (is : row ≡ get_or rows i row) where
  row_after : eager_rows late g active (drop i rows) k ≡ option_and_then (λ p. eager_rows late (header_after g row) p.0 (drop (i + 1) rows) p.1) (eager_row late g active row k)
  unfolding eager_rows
  row_after = rw (left rows i row below is) refl

  pub row_unmade : {X : Type 0} (e : Unmade) (P : X → List Ring × Making → Type 0) → IsMade (Err e) (eager_row late g active row k) P → IsMade (Err e) (eager_rows late g active (drop i rows) k) Untold
  row_unmade e P made = rw row_after (unmade e (eager_row late g active row k) _ P Untold made)

  pub row_made : {X : Type 0} (x : X) (view : X → List Ring) (R : Making → Type 0) → IsMade (Ok x) (eager_row late g active row k) (λ a p. (view a ≡ p.0) × R p.1) →
      (n : Making) × R n × (eager_rows late g active (drop i rows) k ≡ eager_rows late (header_after g row) (view x) (drop (i + 1) rows) n)
  row_made x view R made = grind (arith, made_is, row_after, option_and_then)

module _ (h : Header) (rows first : List Row) (late : Option Ring) where
  pub eager_failed : {Z : Type 0} (e : Unmade) (Q : Z → List Step → Type 0) → IsMade (Err e) (eager_rows late (without_late h late) [] first (nothing_made h rows)) Untold →
      IsMade (Err e) (eager_schedule h rows first late) Q
  unfolding eager_schedule
  eager_failed e Q made = unmade e (eager_rows late (without_late h late) [] first (nothing_made h rows)) (λ p. looked_at_last late p.0 p.1) Untold Q made

  pub eager_end : (g : Header) (active : List Ring) (i : ℕ) (k : Making) → length first ≤ i → eager_rows late (without_late h late) [] first (nothing_made h rows) ≡ eager_rows late g active (drop i first) k →
      eager_schedule h rows first late ≡ looked_at_last late g k
  unfolding eager_schedule eager_rows
  eager_end g active i k past so_far = grind (arith, option_and_then, drop_all)

-- ---- the schedules of a wide search

-- how many lines were made
pub made_lines : (n otherwise : ℕ) (r : Result Schedule Unmade) (o : Option (List Step)) → IsMade r o (λ s steps. s.steps ≡ steps) → IfErr r (λ why. why ≡ Dropped) → IfOk r (λ s. n ≡ length s.steps) → IfErr r (λ why. n ≡ otherwise) →
    n ≡ lines_of o otherwise
made_lines n otherwise given3 o made dropped many none = grind arith

all_of_one : (T : List Step → Type 0) (o : Option (List Step)) → IfSome o T → All T (option_to_list o)
all_of_one T None tame = All-nil T
all_of_one T (Some steps) tame = All-cons T steps [] tame (All-nil T)

module _ (h : Header) (rows first : List Row) (lines : ℕ) where
  module _ (left : ℕ) (ring : Ring) (rest : List Ring) where
    pub late_event : is_event_kind ring.shape.kind ≡ true → late_schedules h rows first lines left (ring ∷ rest) ≡ late_schedules h rows first lines left rest
    unfolding late_schedules
    late_event event = rw event refl

    module _ (driven : is_event_kind ring.shape.kind ≡ false) (n : ℕ) (many : n ≡ lines_of (eager_schedule h rows first (Some ring)) lines) (T : List Step → Type 0) (tame : IfSome (eager_schedule h rows first (Some ring)) T) where
      pub late_last : left ≤ n → All T (late_schedules h rows first lines left (ring ∷ rest))
      unfolding late_schedules
      late_last most = rw (driven, ← many, le-leb left n most, append-nil (option_to_list (eager_schedule h rows first (Some ring)))) (all_of_one T (eager_schedule h rows first (Some ring)) tame)

      pub late_goes : n < left → All T (late_schedules h rows first lines (left - n) rest) → All T (late_schedules h rows first lines left (ring ∷ rest))
      unfolding late_schedules
      late_goes few others = rw (driven, ← many, lt-leb left n few) (All-append T _ _ (all_of_one T (eager_schedule h rows first (Some ring)) tame) others)

  pub late_nothing : (left_over i : ℕ) (rings : List Ring) (T : List Step → Type 0) → length rings ≤ i → All T (late_schedules h rows first lines left_over (drop i rings))
  unfolding late_schedules
  late_nothing left_over i rings T past = rw (drop_all i rings past) (All-nil T)

-- ---- all that is tried

pub none_tried : (h : Header) (rows first : List Row) (n lines : ℕ) (search : Search) → first ≡ take (n + 1) rows → lines ≡ lines_of (eager_schedule h rows first None) (n + 1) → IfSome (eager_schedule h rows first None) (IsTame h rows (n + 1)) →
    (AreClean h (reverse (take n rows)) → IfSome (lazy_behind h rows (take n rows)) (IsTame h rows (n + 1))) → All (IsTame h rows (n + 1)) (late_schedules h rows first lines (10 * lines) h.rings) → NoneDoesHarm h rows n search
none_tried h rows first n lines search is many eager lazy late = grind arith

-- what a search finds tells of the row that was asked for alone
pub told_none : {X : Type 0} {E : Type 0} (r : Result (Option X) E) (A : Type 0) (o : ℕ → Option Row) (at : ℕ → Type 0) (B : ℕ → Type 0) → IfOk r (λ found. IfNone found A) → ((refused : ℕ) → at refused → A → B refused) →
    IfOk r (λ found. IfNone found ((refused : ℕ) → at refused → IfSome (o refused) (λ row. IsNoRead row → B refused)))
told_none given1 given2 o given4 given5 none next = grind arith

-- nothing is told of a row that reads an event
pub read_told : (rows : List Row) (n : ℕ) (d : Row) (b : Block) (A : Type 0) → n < length rows → get_or rows n d ≡ Read b → IfSome (slice_get rows n) (λ row. IsNoRead row → A)
read_told rows n d b A inside is = rw (slice_get-get_or rows n d inside, is) (λ none. absurd none)

pub where_none : {X : Type 0} (o : Option X) (A : Type 0) → is_some o ≡ false → IfNone o A → A
where_none given1 given2 none told = grind arith
