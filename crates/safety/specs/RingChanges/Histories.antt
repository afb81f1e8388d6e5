-- Which histories of rows the headline speaks of
use Rattle.std.specs.Prelude.{◌≡◌, false, List, [], ◌∷◌}
use Rattle.traces.specs.AllowedHeaders.{AreUnmoved, IsHeader}
use Rattle.traces.specs.declared.header.Header.{Header}
use Rattle.traces.specs.declared.row.Row.{Row}
use Rattle.ring_knowledge.specs.Histories.{header_now, known_now, restored, ring_restored}
use Rattle.ring_knowledge.specs.Known.{Known}
use Rattle.ownership_rules.specs.LenientRules.{lenient}
use Rattle.ownership_rules.specs.Withdrawals.{is_left, some_flips}

-- no lenient rule is broken; behind a stop no row may come. The ring that a row starts or moves stands as declared; the row is judged where
-- that ring is the controller's again
abbrev pub IsKept : Header → Known → Row → Type 0
IsKept h k row = (lenient h (restored h k row) row ≡ []) × (is_left h k (ring_restored h k row) ≡ false) × (some_flips h (restored h k row) row ≡ false)

-- rows may begin on this header: it is allowed, and none of its rings has grown behind its first lap
abbrev pub MayBegin : Header → Type 0
MayBegin h = IsHeader h × AreUnmoved h.rings

module _ (h : Header) where
  -- the rows so far, the newest first
  abbrev pub AreKept : List Row → Type 0
  AreKept [] = Unit {0}
  AreKept (row ∷ past) = AreKept past × IsKept (header_now h past) (known_now h past) row
