-- The data place before a Link
use Rattle.ring_knowledge.proofs.Words.{◌≡◌, ◌+◌, ◌-◌, ◌<◌, ◌≤◌, ℕ, Some, None, arith, length, slice_index, Place, AtData, AtLink, Shape, IsShape, data_count, place_count, links, ends, place_at, segment_at, before, before-next, block_is, link_aligned, end_is, end_in_lap, place_at-data}
use Rattle.segments.proofs.DataPlaces.{link_is}

-- the block 16 bytes before a Link is that of the last data place before it
pub record IsLast (shape : Shape) (j word : ℕ) : Type 0 where
  pub address : 16 ≤ slice_index (links shape) j
  pub some : 0 < slice_index (ends shape) j
  pub most : slice_index (ends shape) j ≤ place_count shape
  pub at : place_at shape (slice_index (links shape) j - 16) ≡ Some (AtData (slice_index (ends shape) j - 1) word)

pub last_place : (shape : Shape) → IsShape shape → (j : ℕ) → j < length (links shape) → (word : ℕ) × IsLast shape j word
last_place shape is j h =
    let link = link_is shape is j h in
    let some = link.is_segment.some_data in
    let last = block_is shape is j (data_count shape.kind (segment_at shape.segments j) - 1) link.segment (omega arith) in
    let end = end_is shape j h in
    let lap = end_in_lap shape is j h in
    let more = before-next shape.kind shape.segments j link.segment in
    let number : before shape.kind shape.segments j + (data_count shape.kind (segment_at shape.segments j) - 1) ≡ slice_index (ends shape) j - 1 = omega arith in
    grind (arith, slice_index, segment_at, place_at-data, link_aligned)

-- so a search at that address finds it
pub last_found : (shape : Shape) (j word : ℕ) → IsLast shape j word → (x i v : ℕ) (p : Place) → x ≡ slice_index (links shape) j - 16 →
    place_at shape x ≡ Some p → p ≡ AtData i v → i + 1 ≡ slice_index (ends shape) j
last_found shape j word last x i v p address found is_data = grind (arith, slice_index)

-- and neither a Link nor nothing
pub last_no_link : (shape : Shape) (j word : ℕ) → IsLast shape j word → (x i v : ℕ) (p : Place) → x ≡ slice_index (links shape) j - 16 →
    place_at shape x ≡ Some p → p ≡ AtLink i v → ⊥
last_no_link shape j word last x i v p address found is_link = cc

pub last_somewhere : (shape : Shape) (j word : ℕ) → IsLast shape j word → (x : ℕ) → x ≡ slice_index (links shape) j - 16 → place_at shape x ≡ None → ⊥
last_somewhere shape j word last x address none = cc
