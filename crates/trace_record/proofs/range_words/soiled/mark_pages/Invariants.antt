use Rattle.std.specs.Prelude.{◌≡◌, ℕ, ◌/◌, ◌≤◌, ◌<◌, true}
use Rattle.trace_record.specs.RangeWords.Marks.{is_page_marked}
use Rattle.trace_record.proofs.range_words.soiled.mark_pages.Given as goal

-- the pages so far are marked, and those that were still are
abbrev pub invariant-loop-page : goal.invariant-loop-page
invariant-loop-page l = record {
  these : (g : ℕ) → l.first ≤ g → g < l.end → g / 16 < l.page → is_page_marked l.marks g ≡ true;
  kept : (g : ℕ) → is_page_marked l.fn.marks g ≡ true → is_page_marked l.marks g ≡ true;
}
