-- What a fact on literals unfolds to compute: name it on an `unfolding` line
use Rattle.std.specs.Prelude.{⊤}
use Rattle.world_state.specs.Bindings as of_bindings
use Rattle.world_state.specs.DriverRows as of_driverrows
use Rattle.world_state.specs.Finishes as of_finishes
use Rattle.world_state.specs.Harms as of_harms
use Rattle.world_state.specs.Looks as of_looks
use Rattle.world_state.specs.Posts as of_posts
use Rattle.world_state.specs.Replays as of_replays
use Rattle.world_state.specs.RingRows as of_ringrows
use Rattle.world_state.specs.Steps as of_steps
use Rattle.world_state.specs.Takes as of_takes
use Rattle.world_state.specs.World as of_world
use Rattle.traces.specs.OnLiterals.{header_on_literals}
use Rattle.segments.specs.OnLiterals.{views_on_literals}
use Rattle.commands.specs.OnLiterals.{commands_on_literals}

unfoldable pub world_on_literals : ⊤
unfolding of_bindings.is_had_by_another of_bindings.inactive of_bindings.placed of_bindings.placed_on of_bindings.has_one_of of_bindings.disabled of_bindings.typed of_bindings.in_state of_bindings.changed_by of_bindings.changed_by_all of_bindings.effect of_driverrows.valued of_driverrows.resets of_driverrows.reset of_driverrows.shows of_driverrows.runs_once of_driverrows.runs_again of_driverrows.run_or_stop of_driverrows.is_command_ring of_driverrows.command_placed of_driverrows.with_command_ring of_driverrows.with_dequeue of_driverrows.register_row of_driverrows.activated of_driverrows.endpoint_bell of_driverrows.bell_row of_driverrows.declared of_driverrows.event_read of_driverrows.row_done of_finishes.passes_end of_finishes.succeeded of_finishes.ended of_finishes.ended_with of_finishes.finished_as of_finishes.finished of_harms.is_right_place of_harms.is_out_of_order of_harms.has_other_words of_harms.is_end of_harms.is_inside_descriptor of_harms.waits of_harms.is_changed_since of_harms.is_context_changed of_harms.has_changed_context of_harms.harms of_harms.harm_of of_looks.taken_on of_looks.may_scribble of_looks.command_begun of_looks.taken of_looks.crossed of_looks.seen_by_look of_looks.looked_at of_looks.looked of_posts.can_post of_posts.posted of_posts.with_reported of_posts.report_success of_posts.report_error of_posts.is_stop_under_way of_posts.with_stopped of_posts.stopped_with of_posts.report_stop of_posts.report_code of_posts.code_posted of_posts.reported_on of_posts.reported of_posts.other_posted of_replays.judged of_replays.stepped of_replays.scene_ending_from of_ringrows.listed of_ringrows.may_come of_ringrows.emptied of_ringrows.resting of_ringrows.without_descriptor of_steps.is_scribbled of_steps.scribbled of_steps.counted of_steps.while_running of_steps.halts of_steps.until_halted of_steps.noting_post of_steps.made of_takes.take_of of_takes.takes_of of_takes.unreported of_takes.names of_takes.names_last of_takes.is_place of_takes.first_at of_takes.next_take of_takes.was_placed of_takes.is_as_declared of_takes.declared_next of_world.opening of_world.stored of_world.stored_block of_world.event_at header_on_literals views_on_literals commands_on_literals
world_on_literals = tt
