-- What a pass over the rows of a trace says of it, by the log of their leases
use Rattle.ownership_checker.proofs.Words.{ended_where, arith, common_steps, refl, subst, ◌≡◌, ◌≤◌, ◌+◌, ◌∷◌, ◌++◌, ◌∙◌, ℕ, Bool, List, [], Option, Err, ap, sym, length, map, reverse, length-append, length-map, TraceText, Header, Row, Lease, Leased, Lent, lease_of, with_begun, lents, without_end, StreamFault, Line, Device, IsOpened, IfBadLine, IsBadLine, IsWholeLog, joined_behind, calls_say_the_text, IsSound, IsBehindAll, IsRingLogged, RingPass, header_now, leases_are, leases_of}
use Rattle.ownership_checker.proofs.RingPasses.Verdicts.{reversed_twice}
use Rattle.trace_reader.specs.declared.row_reader.fault.StreamFault.TheVariants.{Memory}
unfoldable use Rattle.trace_reader.specs.Streaming.WholeTexts.{read_by_calls}

-- the leases of rows, none of which has the number of none, are what was and is lent behind them
pub leases_lent : (h : Header) (first : ℕ) (rows : List Row) → first + length rows ≤ without_end → leases_of h first rows ≡ map lease_of (lents h first (reverse rows))
leases_lent h first rows room =
    let as_many : length (reverse rows) ≡ length rows = grind (arith, common_steps) in
    ap (leases_of h first) (sym (reversed_twice rows)) ∙ leases_are h first (reverse rows) (subst (λ n. first + n ≤ without_end) (sym as_many) room)

module _ {B : Type 0} (Holds : Header → List Lent → B → Type 0) (trace : TraceText) (log : B) (w : IsWholeLog Holds trace log) where
  -- the leases that the log keeps
  pub sound_so : (leases : List Lease) → leases ≡ map lease_of (lents trace.header trace.first (reverse trace.rows)) → IsSound trace leases
  sound_so leases certified = record {
    accepted = record { verdict = w.verdict; certified = certified ∙ sym (leases_lent trace.header trace.first trace.rows w.room) };
    walk = w.walk;
    harmless = w.harmless;
  }

  -- as many as were counted
  pub sound_count : (count : ℕ) → count ≡ length (lents trace.header trace.first (reverse trace.rows)) → (leases : List Lease) × IsSound trace leases × (count ≡ length leases)
  sound_count count is =
      let ts = lents trace.header trace.first (reverse trace.rows) in
      (map lease_of ts, sound_so (map lease_of ts) refl, is ∙ sym (length-map ts lease_of))

-- behind rows that are kept in memory
module _ {B M : Type 0} (words : M → ℕ → ℕ) (holds : List Lease → Header → List Lent → B → Type 0) (trace : TraceText) (log : B) (pass : RingPass B M) where
  pub kept_whole : IsBehindAll words holds trace.header trace.first trace.rows log pass → (list : List Lease) → holds list trace.header (lents trace.header trace.first []) log → (kept : B) →
      ((list : List Lease) (h : Header) (first : ℕ) (past : List Row) → IsRingLogged (holds list) h first past pass → holds list (header_now h past) (lents h first past) kept) →
      IsWholeLog (holds list) trace kept
  kept_whole all list begins kept logs = record {
    verdict = all.verdict;
    walk = all.walk;
    harmless = all.harmless;
    room = all.room;
    kept = logs list trace.header trace.first (reverse trace.rows) (all.logged list begins);
  }

-- ---- the count of leases

pub one_begun : (ts : List Lent) (row : ℕ) (l : Leased) → length (with_begun row ts (l ∷ [])) ≡ length ts + 1
unfolding with_begun
one_begun ts row l = length-append ts _

pub as_many_ended : (over : Leased → Bool) (row : ℕ) (ts : List Lent) → length (map (ended_where over row) ts) ≡ length ts
as_many_ended over row ts = length-map ts (ended_where over row)

-- ---- a bad line before the first row

pub opened_bad : (keeps : Bool) (held held' : Option (List ℕ)) (e : StreamFault) → IsOpened keeps held held' (Err e) → IfBadLine e (IsBadLine keeps held held')
unfolding read_by_calls
opened_bad keeps held held' (Line line fault) (came, used, (later, is, told)) = (came, used, (later, is, sym (calls_say_the_text keeps (came ++ later)) ∙ ap joined_behind told))
opened_bad keeps held held' Device told = tt
opened_bad keeps held held' Memory told = tt
