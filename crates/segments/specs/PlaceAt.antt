-- Which word of a ring's blocks has an address
use Rattle.std.specs.Prelude.{ℕ, ◌<◌, length, ◌/◌, ◌%◌, ◌==◌, if◌then◌else◌, Option, None, position}
use Rattle.std.specs.Option.{option_map, option_or}
use Rattle.segments.specs.declared.place.Place.{Place}
use Rattle.segments.specs.declared.place.Place.TheVariants.{Data, Link}
use Rattle.segments.specs.ShapeValue.{Shape}
use Rattle.segments.specs.Places.{data_places, links, is_in}

-- the data place whose block has the byte at this address
abbrev pub data_place_at : Shape → ℕ → Option ℕ
data_place_at shape address = position (λ a. is_in address a 16) (data_places shape)

-- the segment whose Link has the byte at this address
abbrev pub link_at : Shape → ℕ → Option ℕ
link_at shape address = position (λ a. is_in address a 16) (links shape)

-- the word at this address: its data place, or the segment whose Link it is of, and which of the block's four words it is
abbrev pub place_at : Shape → ℕ → Option Place
place_at shape address =
    if address % 4 == 0
    then option_or (option_map (λ i. Data i (address % 16 / 4)) (data_place_at shape address)) (option_map (λ j. Link j (address % 16 / 4)) (link_at shape address))
    else None

-- the number of a Link is that of a segment with one
abbrev pub IsLinkOf : Shape → Place → Type 0
IsLinkOf shape (Data place word) = Unit {0}
IsLinkOf shape (Link segment word) = segment < length (links shape)
