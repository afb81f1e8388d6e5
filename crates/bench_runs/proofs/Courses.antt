-- What is noted of a run as it goes on, and what is told at its end
use Rattle.bench_runs.proofs.Words.{◌≡◌, ◌∙◌, ◌∷◌, ℕ, false, List, [], Option, Some, None, Result, Ok, Err, OnOk, refl, ap, subst, sym, length, false≢true, is_some, none-some, Header, Row, Step, harm_of, Scene, Harm, Refusal, IsBench, IsRowJudged, JudgesNext, Live, Written, Course, IsCourse, IsEndAt, IsEndSoFar, IsNoted, IsOver, end_of, ended_with, noted_with, Ended, NoHarm, Refused, HarmAt, NotPossible, BadLine, RefusedRow}

-- where it hadn't ended, it ends where there is harm
so_far : (h : Header) (past : List Row) (steps : List Step) (x : Scene) (harm : Option Harm) → harm ≡ harm_of x.header x.world →
    IsEndSoFar (ended_with None harm (length steps)) h past steps x
so_far h past steps x None same = sym same
so_far h past steps x (Some k) same = (sym same, refl)

pub course_of : {M : Type 0} (words : M → ℕ → ℕ) (h : Header) (past : List Row) (steps : List Step) (told : List Written) (x : Scene) (course : Course) (live : Live M)
    (before : Option Ended) (noted : Option RefusedRow) → IsBench words h past steps told x live.bench → before ≡ None →
    course.ended ≡ ended_with before (harm_of x.header x.world) (length steps) → course.refused ≡ noted → IsNoted h past noted → (noted ≡ None → JudgesNext live) →
    IsCourse words course live
course_of words h past steps told x course live before noted is none ended refused so judges = (
  h,
  past,
  steps,
  told,
  x,
  record {
    bench = is;
    ends =
        subst (λ e. IsEndSoFar e h past steps x) (sym (ended ∙ ap (λ b. ended_with b (harm_of x.header x.world) (length steps)) none))
        (so_far h past steps x (harm_of x.header x.world) refl);
    noted = λ on. subst (IsNoted h past) (sym refused) so;
    judges = λ on first. judges (sym refused ∙ first);
  },
)

-- behind a row
pub noted_behind : (h : Header) (past : List Row) (row : Row) (noted : Option RefusedRow) (n : ℕ) (told : Option Refusal) → IsNoted h past noted →
    (noted ≡ None → IsRowJudged h past row told) → IsNoted h (row ∷ past) (noted_with noted n told)
noted_behind h past row None n None is judged = judged refl
noted_behind h past row None n (Some c) is judged = record { later = []; row = row; earlier = past; split = refl; least = judged refl }
noted_behind h past row (Some r) n told is judged =
    record { later = row ∷ is.later; row = is.row; earlier = is.earlier; split = ap (λ l. row ∷ l) is.split; least = is.least }

pub noted_none : (noted : Option RefusedRow) (n : ℕ) (told : Option Refusal) → noted_with noted n told ≡ None → (noted ≡ None) × (told ≡ None)
noted_none None n None at = (refl, refl)
noted_none None n (Some c) at = absurd (none-some _ (sym at))
noted_none (Some r) n told at = absurd (none-some _ (sym at))

-- at a line that can't be followed
pub over_some : (ended : Option Ended) → IsOver ended → ended ≡ None → ⊥
over_some ended is at = subst IsOver at is

pub over : (h : Header) (past : List Row) (steps : List Step) (x : Scene) (ended : Option Ended) → IsOver ended → harm_of x.header x.world ≡ None → IsEndSoFar ended h past steps x
over h past steps x None is none = absurd is
over h past steps x (Some NoHarm) is none = absurd is
over h past steps x (Some (Refused row)) is none = absurd is
over h past steps x (Some (HarmAt k n)) is none = absurd is
over h past steps x (Some (NotPossible n)) is none = none
over h past steps x (Some (BadLine line fault)) is none = tt

-- at the end
pub told_end : (h : Header) (past : List Row) (steps : List Step) (x : Scene) (ended : Option Ended) (noted : Option RefusedRow) → IsEndSoFar ended h past steps x →
    (ended ≡ None → IsNoted h past noted) → IsEndAt (end_of ended noted) h past steps x
told_end h past steps x (Some ended) noted so is = so
told_end h past steps x None (Some row) so is = (is refl, so)
told_end h past steps x None None so is = (is refl, so)

-- ---- answers that may fail

pub not_some : {A : Type 0} (o : Option A) → is_some o ≡ false → o ≡ None
not_some None at = refl
not_some (Some a) at = absurd (false≢true (sym at))

pub whenever : {A E P : Type 0} (r : Result A E) → P → OnOk r P
whenever (Ok a) p = p
whenever (Err e) p = tt

pub both : {A E P Q R : Type 0} (r : Result A E) → (P → Q → R) → OnOk r P → OnOk r Q → OnOk r R
both (Ok a) f p q = f p q
both (Err e) f p q = tt
