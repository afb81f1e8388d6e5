-- The headline, as a law over the definitions: rows that break no rule do no harm, whatever a controller does beside them
use Rattle.std.specs.Prelude.{List, All, reverse}
use Rattle.traces.specs.declared.header.Header.{Header}
use Rattle.traces.specs.declared.row.Row.{Row}
use Rattle.traces.specs.AllowedHeaders.{AreUnmoved, IsHeader}
use Rattle.safety.specs.Harmless.{DoNoHarm}
use Rattle.safety.specs.RingChanges.Histories.{AreKept}
use Rattle.traces.specs.Rows.{IsRow}

-- In every run beside the rows, with steps of the controller anywhere between them, the controller takes of each ring only submitted
-- descriptors that aren't withdrawn (a `nop` row submits the No Ops in place of a withdrawn one), in order, each at most once, whole, word for
-- word; it looks only inside the ring's segments, posts no event over an unread one, and the input context of the command under way hasn't
-- changed since that command's control word was last written
abbrev pub Headline : Header → Type 0
Headline h = (rows : List Row) → IsHeader h → AreUnmoved h.rings → All IsRow rows → AreKept h (reverse rows) → DoNoHarm h rows
