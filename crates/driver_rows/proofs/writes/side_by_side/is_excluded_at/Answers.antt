use Rattle.driver_rows.proofs.Words.{◌∙◌, Some, subst}
use Rattle.commands.specs.SideBySide.{exclude}
use Rattle.driver_rows.proofs.DoorbellRows.Touching.{IsThat, named_fits, that_is}
use Rattle.driver_rows.proofs.MemoryWrites.BesideOthers.{excludes_there, low_there, none_there}
use Rattle.driver_rows.proofs.writes.side_by_side.is_excluded_at.Goals as goal

pub returns-in-Some : goal.returns-in-Some
returns-in-Some g c = λ all f fit fits low.
    let s = c.args.slot in
    let i = c.args.index in
    let that : IsThat s i all (Some c.in-Some.other) =
    subst (IsThat s i all) c.in-Some.is (that_is s i all c.args.commands.now c.kept_at.result f c.kept_at.ensures.one c.kept_at.ensures.named) in
    c.excludes.ensures fits (named_fits c.args.size s i all (Some c.in-Some.other) fit that) low (low_there s i c.requires all c.in-Some.other that)
    ∙ excludes_there s i c.requires all c.in-Some.other that (exclude (g.M.WordMemory.words c.args.memory.now) c.args.command.now)

pub returns-in-None : goal.returns-in-None
returns-in-None g c = λ all f fit fits low.
    let s = c.args.slot in
    let i = c.args.index in
    none_there s i all (subst (IsThat s i all) c.in-None.is (that_is s i all c.args.commands.now c.kept_at.result f c.kept_at.ensures.one c.kept_at.ensures.named))
    (exclude (g.M.WordMemory.words c.args.memory.now) c.args.command.now)
