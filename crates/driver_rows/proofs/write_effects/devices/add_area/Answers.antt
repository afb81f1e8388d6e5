use Rattle.driver_rows.proofs.Laws.{subst, on_ok_weaker, IsWith, area_added}
use Rattle.driver_rows.proofs.write_effects.devices.add_area.Goals as goal

pub returns-in-Some : goal.returns-in-Some
returns-in-Some c =
    on_ok_weaker c.add.result
    (λ adds n old new with holds. area_added n c.in-Some.start old new _ _ (subst (λ o. IsWith o old new) c.in-Some.is with) (λ xs ys. adds n xs ys) holds)
    c.add.ensures.ok
