-- What a fact on literals unfolds to compute: name it on an `unfolding` line
use Rattle.std.specs.Prelude.{⊤}
use Rattle.ring_knowledge.specs.BesideFree as of_besidefree
use Rattle.ring_knowledge.specs.Completions as of_completions
use Rattle.ring_knowledge.specs.Histories as of_histories
use Rattle.ring_knowledge.specs.Known as of_known
use Rattle.ring_knowledge.specs.Learned as of_learned
use Rattle.ring_knowledge.specs.Marks as of_marks
use Rattle.ring_knowledge.specs.Registers as of_registers
use Rattle.ring_knowledge.specs.Resets as of_resets
use Rattle.ring_knowledge.specs.Rings as of_rings
use Rattle.ring_knowledge.specs.Transfers as of_transfers
use Rattle.ring_knowledge.specs.Writes as of_writes
use Rattle.traces.specs.OnLiterals.{header_on_literals}
use Rattle.segments.specs.OnLiterals.{views_on_literals}
use Rattle.commands.specs.OnLiterals.{commands_on_literals}

unfoldable pub knowledge_on_literals : ⊤
unfolding of_besidefree.stands_beside_free of_completions.set_to of_completions.moved_to of_completions.moved of_completions.bound_to of_completions.pointed of_completions.disabled of_completions.typed of_completions.in_state of_completions.held_at_ceiling of_completions.changed_by of_completions.changed_by_all of_completions.succeeded of_completions.stop_ended of_completions.finished of_completions.completed of_histories.forgotten of_histories.gone of_histories.ring_moved of_histories.ring_restored of_histories.restored_on of_known.nothing of_learned.event_read of_learned.learned of_marks.is_noted of_registers.runs_once of_registers.runs_again of_registers.status_read of_registers.register_read of_registers.valued of_registers.run_or_stop of_registers.register_written of_registers.endpoint_rung of_registers.rung of_resets.behind_blocks of_resets.given_up of_resets.first_free of_resets.held_at_given of_resets.resets of_resets.reset of_rings.on_ring of_rings.given_of of_rings.given_by of_rings.spot_named of_rings.spot_on of_rings.event_at of_rings.code_told of_rings.next_command of_rings.command_at of_rings.unfinished_positions of_rings.unfinished of_transfers.passed of_transfers.broken_off of_transfers.stopped_at of_transfers.transferred of_transfers.transferred_at of_transfers.transfer_read of_writes.entry_of of_writes.device_named of_writes.no_device of_writes.taken_device of_writes.command_given of_writes.with_device of_writes.with_word of_writes.written header_on_literals views_on_literals commands_on_literals
knowledge_on_literals = tt
