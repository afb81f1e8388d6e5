use Rattle.ring_knowledge.proofs.Laws.{◌≡◌, ◌-◌, ap, arith, length, min, common_steps, number, forgotten_now}
use Rattle.ring_knowledge.proofs.ring_record.RingRecord.forget_below.Goals as goal

pub returns : goal.returns
returns c = λ shape v known low whole.
    let follows = known.marks in
    let r = c.args.self.now in
    let many : c.min-count.result ≡ min (c.args.end - r.forgotten) (length r.blocks.items) = omega (arith, c.min-count.ensures, c.saturating_sub.ensures, c.len.ensures) in
    record {
      marks = record {
        allowed = follows.allowed;
        passed = omega (arith, many, follows.passed, low, ap number follows.floor);
        forgotten_whole = forgotten_now shape v r follows c.args.end c.min-count.result whole many;
        queue = grind (arith, common_steps);
        count = grind (arith, common_steps);
        floor = follows.floor;
        held = follows.held;
        begins = grind (arith, common_steps);
        as_many = grind (arith, common_steps);
        whole = follows.whole;
        positive = follows.positive;
        room = follows.room;
        places = follows.places;
        given = follows.given;
        segments = follows.segments;
        crossed = follows.crossed;
        withdrawn = grind (arith, common_steps);
        free = follows.free;
        free_withdrawn = follows.free_withdrawn;
        free_given = follows.free_given;
      };
      steps = λ q h. known.steps q h;
      stop = known.stop;
    }
