-- A run as the rings that live see it: of a ring that goes nothing is left. Where rows break no rule nothing comes of such a ring any more, so
-- it is the run of the model, but for what was declared and happened on rings that went (`Alike` in `Alike.antt`)
use Rattle.safety.proofs.Words.{List, [], ◌∷◌, Option, Some, None, option_and_then, Header, Step, NextRow, Row, RingRow, FreeRow, NopRow, World, opening, row_done, resting, without_descriptor, header_after, counted, made}
use Rattle.std.specs.Prelude.{option_map}

-- the rings that live, the rows still to come, and the world
pub record LiveScene : Type 0 where
  pub header : Header
  pub rows : List Row
  pub world : World

abbrev pub live_with : Header → List Row → World → LiveScene
live_with h rows w = record { header = h; rows = rows; world = w }

-- nothing is left of a ring that goes, and it isn't looked at any more
abbrev pub live_row : Header → World → Row → Option World
live_row h w (RingRow ring) = Some (resting w ring.id)
live_row h w (FreeRow id) = Some (resting w id)
live_row h w (NopRow r p) = Some (without_descriptor w r p)
live_row h w row = row_done h w row

abbrev pub live_next : LiveScene → List Row → Option LiveScene
live_next x [] = None
live_next x (row ∷ rest) = option_map (λ w. record { header = header_after x.header row; rows = rest; world = counted x.header w }) (live_row x.header x.world row)

abbrev pub live_step : LiveScene → Step → Option LiveScene
live_step x NextRow = live_next x x.rows
live_step x s = option_map (λ w. record { header = x.header; rows = x.rows; world = counted x.header w }) (made x.header x.header x.world s)

module _ (h : Header) where
  abbrev pub live_reached : List Row → List Step → Option LiveScene
  live_reached rows [] = Some (live_with h rows opening)
  live_reached rows (s ∷ older) = option_and_then (λ x. live_step x s) (live_reached rows older)
