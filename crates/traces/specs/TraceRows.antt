-- Rows of a trace, by its version, and the IDs of the rings that come
use Rattle.std.specs.Prelude.{◌≡◌, Bool, true, false, not, ◌||◌, ◌&&◌, ℕ, nat_lt, List, length, All, [], ◌∷◌, ◌++◌, ◌==◌}
use Rattle.std.specs.List.{list_any}
use Rattle.std.proofs.Props.{props}
use Rattle.traces.specs.Rows.{IsRow, FitsLine, is_ring_row, line_is_fact, row_is_fact}
use Rattle.traces.specs.Header.{is_transfer_kind}
use Rattle.traces.specs.Limits.{most_declared_of}
use Rattle.traces.specs.Versions.{has_ring_rows, has_runs}
use Rattle.traces.specs.declared.ring.Ring.{Ring}
use Rattle.traces.specs.declared.version.Version.{Version}
use Rattle.traces.specs.declared.row.Row.{Row}
use Rattle.traces.specs.declared.row.Row.TheVariants.{Sub, Ring as RingRow, RegRead}

-- what a row's line can say
abbrev pub IsTraceRow : Row → Type 0
IsTraceRow row = IsRow row × FitsLine row

-- the row is of a controller that runs more than once: a register was read, or a command or event ring comes
abbrev pub is_run_row : Row → Bool
is_run_row (RegRead register value) = true
is_run_row (RingRow ring) = not (is_transfer_kind ring.shape.kind)
is_run_row row = false

-- the version has rows of this kind
abbrev pub is_of_version : Version → Row → Bool
is_of_version version row = (not (is_ring_row row) || has_ring_rows version) && (not (is_run_row row) || has_runs version)

-- it declares more blocks than a row of the version may
abbrev pub declares_too_much : Version → Row → Bool
declares_too_much version (Sub ring blocks) = nat_lt (most_declared_of version) (length blocks)
declares_too_much version row = false

-- what a row of a trace of this version can say
abbrev pub IsRowOf : Version → Row → Type 0
IsRowOf version row = IsTraceRow row × (is_of_version version row ≡ true) × (declares_too_much version row ≡ false)

abbrev pub AreRowsOf : Version → List Row → Type 0
AreRowsOf version rows = All (IsRowOf version) rows

-- each is one fact
pub rows_of_are_fact : (version : Version) (rows : List Row) → IsProp (AreRowsOf version rows)
rows_of_are_fact version rows = hlevel (props, row_is_fact, line_is_fact)

-- the first row is a ring's
abbrev pub begins_with_ring : List Row → Bool
begins_with_ring [] = false
begins_with_ring (RingRow ring ∷ rows) = true
begins_with_ring (row ∷ rows) = false

-- the IDs of the rings that came, with the row's
abbrev pub ids_with : List ℕ → Row → List ℕ
ids_with ids (RingRow ring) = ids ++ ring.id ∷ []
ids_with ids row = ids

-- a ring of the header has this ID, or one that came had it; it may have gone
abbrev pub is_used : List Ring → List ℕ → ℕ → Bool
is_used rings ids id = list_any (λ r. r.id == id) rings || list_any (λ other. other == id) ids

-- its ring has an ID that was used before
abbrev pub has_used_id : List Ring → List ℕ → Row → Bool
has_used_id rings ids (RingRow ring) = is_used rings ids ring.id
has_used_id rings ids row = false

-- each ring that comes has an ID that wasn't used before: by these rings, these IDs and the rows so far
abbrev pub have_new_ids : List Ring → List ℕ → List Row → Bool
have_new_ids rings ids [] = true
have_new_ids rings ids (row ∷ rows) = not (has_used_id rings ids row) && have_new_ids rings (ids_with ids row) rows
