-- What a fact on literals unfolds to compute: name it on an `unfolding` line
use Rattle.std.specs.Prelude.{⊤}
use Rattle.traces.specs.Header as of_header
use Rattle.traces.specs.Limits as of_limits
use Rattle.traces.specs.LivingRings as of_livingrings

unfoldable pub header_on_literals : ⊤
unfolding of_header.shape_of of_header.command_ring of_header.event_ring of_header.command_id of_header.event_id of_header.event_shape of_header.event_size of_header.driver_rings of_header.ring_having of_header.touches_ring of_header.some_ring of_limits.most_lines_of of_limits.most_bytes_of of_limits.most_declared_of of_livingrings.with_ring of_livingrings.without_ring
header_on_literals = tt
