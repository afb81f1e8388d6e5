use Rattle.trace_record.proofs.Laws.{arith, passed_on, room_left, same_ring, sum_room_left, count_of, one_of, place_of, sum_of}
use Rattle.trace_record.proofs.device_record.holders.Holders.pass_on.Goals as goal

pub take-requires : goal.take-requires
take-requires c = grind (arith, room_left, sum_room_left)

pub returns-then-eq : goal.returns-then-eq
returns-then-eq c = grind (arith, same_ring, count_of, one_of, sum_of, place_of)

pub returns : goal.returns
returns c = grind (arith, passed_on)
