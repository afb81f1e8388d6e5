-- Other events counted as read, with nothing else that they say
use Rattle.safety.proofs.Words.{◌∙◌, ℕ, Option, Some, None, sym, Spot, Command, Header, World, UnderWay, Known, IsUnfinished, Stands, UnderWayMatches, TakenCommand, Matches, command_at, next_command, was_stop_seen, arith}

abbrev pub with_reads : Known → ℕ → Known
with_reads k n = record k { reads = n }

module _ (h : Header) where
  pub stands_with_reads : (n : ℕ) (k : Known) (w : World) → Stands h k w → Stands h (with_reads k n) w
  stands_with_reads n k w s = record { started = s.started; stopped = s.stopped; halting = s.halting; halted = s.halted; told = s.told; registers = s.registers; queues = s.queues; lengths = s.lengths; dequeue = s.dequeue; quiet = s.quiet }

  taken_with_reads : (n : ℕ) (k : Known) (u : UnderWay) → TakenCommand h k u → TakenCommand h (with_reads k n) u
  unfolding next_command command_at was_stop_seen
  taken_with_reads n k u t = record { address = t.address; words = t.words; stopped = λ c at. t.stopped c at ∙ sym (grind arith) }

  under_way_with_reads : (n : ℕ) (k : Known) (t : Spot) (o : Option UnderWay) → UnderWayMatches h k t o → UnderWayMatches h (with_reads k n) t o
  unfolding next_command
  under_way_with_reads n k t None under = under
  under_way_with_reads n k t (Some u) under = (under.0, taken_with_reads n k u under.1)

  unfinished_with_reads : (n : ℕ) (k : Known) (p : ℕ) (c : Command) → IsUnfinished h (with_reads k n) p c → IsUnfinished h k p c
  unfolding command_at
  unfinished_with_reads n k p c u = record { due = u.due; given = u.given; command = u.command }

  pub matches_with_reads : (n : ℕ) (k : Known) (w : World) → Matches h k w → Matches h (with_reads k n) w
  matches_with_reads n k w m = record {
    slots = m.slots;
    endpoints = m.endpoints;
    ring_of = m.ring_of;
    isochronous = m.isochronous;
    rings = m.rings;
    before = λ off. let b = m.before off in record { rests = b.rests; none = b.none };
    new = m.new;
    command = λ on. let c = m.command on in record { spot = c.spot; ring = c.ring; under_way = under_way_with_reads n k c.spot w.under_way c.under_way };
    scribbles = m.scribbles;
    contexts = λ p c u. m.contexts p c (unfinished_with_reads n k p c u);
    inside = m.inside;
    there = m.there;
  }
