use Rattle.trace_record.proofs.BaseWords.{◌≡◌, ℕ, ◌/◌, ◌<◌, ◌≤◌, false, slice_index_or, mark_of}
use Rattle.trace_record.proofs.range_words.soiled.SoiledWords.is_clean.Given as goal

abbrev pub invariant-loop-page : goal.invariant-loop-page
invariant-loop-page l = (p : ℕ) → l.first / 1024 ≤ p → p < l.page → slice_index_or l.self.marks (mark_of p) false ≡ false
