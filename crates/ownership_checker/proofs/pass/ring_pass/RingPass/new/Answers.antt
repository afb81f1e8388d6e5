use Rattle.ownership_checker.proofs.Laws.{arith, before_rows}
use Rattle.ownership_checker.proofs.pass.ring_pass.RingPass.new.Goals as goal

pub returns : goal.returns
returns g c =
    let words = g.M.WordMemory.words in
    record {
      logged = grind arith;
      passed = before_rows words _ (c.requires.headed, c.requires.unmoved) c.in_ok-finder.ensures c.in_ok-record.ensures.unread (c.in_ok-record.ensures.follows (words c.args.memory) c.requires.zero);
    }
