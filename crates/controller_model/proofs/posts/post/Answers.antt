use Rattle.controller_model.proofs.Laws.{◌≡◌, ◌+◌, ◌∙◌, ap, sym, arith, common_steps, address_of, event_shape, stored, stored_block, posted, follows_stored_block}
use Rattle.controller_model.proofs.posts.post.Goals as goal

pub returns-clause-posted : goal.returns-clause-posted
unfolding posted stored stored_block
returns-clause-posted g c = λ h w same f.
    let made =
    follows_stored_block h (g.M.WordMemory.words c.args.memory.now) (g.M.WordMemory.words c.store_block.new.memory) c.args.kept.now c.store_block.new.stamps w
    c.place-address.result c.args.step c.args.block.now c.place-address.ensures.below c.place-address.ensures.aligned c.requires c.in_ok-store_block.ensures.stored f in
    let there : c.place-address.result ≡ address_of (event_shape h) w.posted =
    c.place-address.ensures.same ∙ (λ i. address_of (same i) (sym f.events.posted i)) in
    let now = rw there at made in
    let next : c.in_ok-next.next ≡ c.args.kept.now.events.posted + 1 = grind (arith, common_steps, c.in_ok-next.ensures.value, c.checked_add.ensures) in
    assumption (ap (λ n. n + 1) f.events.posted ∙ sym next)
