use Rattle.controller_model.proofs.Laws.{stored, follows_stored}
use Rattle.controller_model.proofs.rows.write.Goals as goal

pub returns : goal.returns
unfolding stored
returns g c = λ h w f.
    let made =
    follows_stored h (g.M.WordMemory.words c.args.memory.now) (g.M.WordMemory.words c.store.new.memory) c.args.kept.now c.store.new.stamps w
    c.args.at c.args.word c.args.step c.in_ok-store.ensures.below c.requires c.in_ok-store.ensures.stored f in
    assumption
