-- What a fact on literals unfolds to compute: name it on an `unfolding` line
use Rattle.std.specs.Prelude.{⊤}
use Rattle.safety.specs.LazyRuns.LateEvents as of_lateevents
use Rattle.safety.specs.LazyRuns.Lazy as of_lazy
use Rattle.safety.specs.LazyRuns.Needs as of_needs
use Rattle.ownership_rules.specs.BadWithdrawals as of_badwithdrawals
use Rattle.ownership_rules.specs.Rings as of_rings
use Rattle.ownership_rules.specs.Withdrawals as of_withdrawals
use Rattle.ring_knowledge.specs.OnLiterals.{knowledge_on_literals}

unfoldable pub lazy_on_literals : ⊤
unfolding of_lateevents.is_held_ring of_lateevents.is_late of_lazy.spots_before of_lazy.further of_lazy.taken_up_to of_lazy.command_taken of_lazy.stop_goal of_lazy.report_goals of_lazy.open_goals of_lazy.stopped_goals of_lazy.goals of_lazy.post_of of_lazy.looks_to of_lazy.is_first_halt of_lazy.steps_before of_lazy.brought of_lazy.pointers_after of_lazy.steps_for of_lazy.pointers_for of_lazy.pointers_at of_lazy.lazy_run of_lazy.lazy_steps of_needs.number_behind of_needs.ring_placed of_needs.is_placed_by_all of_needs.is_placed_by of_needs.is_placed of_needs.begins_anew of_needs.number_reported of_needs.ends_need of_needs.need of_badwithdrawals.withdraws_badly of_rings.shows_first_lap of_rings.is_had of_rings.is_bad_segment of_rings.is_bad_kind of_rings.is_bad_ring of_rings.is_in_use of_rings.goes_badly of_rings.is_bad_free of_withdrawals.may_be_told of_withdrawals.may_tell_value of_withdrawals.is_no_descriptor of_withdrawals.is_unfit of_withdrawals.rests_with of_withdrawals.has_stopped of_withdrawals.is_bad_withdraw of_withdrawals.is_passed of_withdrawals.is_left of_withdrawals.some_flips knowledge_on_literals
lazy_on_literals = tt
