-- What a fact on literals unfolds to compute: name it on an `unfolding` line
use Rattle.std.specs.Prelude.{⊤}
use Rattle.segments.specs.Ceiling as of_ceiling
use Rattle.segments.specs.Descriptors as of_descriptors
use Rattle.segments.specs.Givings as of_givings
use Rattle.segments.specs.Growth as of_growth
use Rattle.segments.specs.Moves as of_moves
use Rattle.segments.specs.Places as of_places
use Rattle.segments.specs.RingView as of_ringview
use Rattle.segments.specs.Walk as of_walk

unfoldable pub views_on_literals : ⊤
unfolding of_ceiling.is_way_given of_ceiling.is_step_given of_ceiling.first_not_given of_ceiling.given_count of_ceiling.ceiling of_ceiling.is_open of_ceiling.named of_ceiling.data_at of_ceiling.named_data of_ceiling.is_data_below of_ceiling.is_stop_spot of_ceiling.stopped_number of_descriptors.is_border of_descriptors.length_from of_descriptors.declared_at of_descriptors.no_ops of_descriptors.split_at of_givings.has_no_room of_givings.is_declared_as of_givings.is_other_than_declared of_givings.is_not_declared of_givings.descriptor_length of_givings.is_not_whole of_givings.unrestored of_givings.is_not_restored of_givings.flips_passed of_givings.is_wrong_link of_givings.link_of of_givings.leads_wrong of_givings.interrupts of_growth.grown of_moves.is_target of_moves.spots_between of_moves.target of_moves.are_given of_moves.are_ways_given of_moves.is_reached of_moves.may_move_to of_moves.is_move of_moves.is_placement of_places.place_of of_places.lap_of of_ringview.due_positions of_ringview.due_crossings of_ringview.positions_given of_ringview.crossings_given of_ringview.leased_positions of_ringview.leased_crossings of_walk.looks of_walk.walk
views_on_literals = tt
