use Rattle.driver_rows.proofs.Laws.{refl, subst, arith, going_kept, slice_get_within, rest_header, rest_is, FollowsTrace, goes_so, frees_fine, gone, without_ring}
use Rattle.driver_rows.proofs.rings.going.check_going.Goals as goal

pub remove-requires : goal.remove-requires
remove-requires c = let there = c.in-Some.ensures.there in slice_get_within c.args.header.now.rings c.in-Some.number there.ring there.at

pub new-requires : goal.new-requires
new-requires c = grind (arith, rest_is, rest_header)

pub returns-in_default-clause-refused : goal.returns-in_default-clause-refused
returns-in_default-clause-refused c = (refl, λ k m f keeps. c.in_default.ensures.none k m f keeps)

pub returns-clause-goes : goal.returns-clause-goes
returns-clause-goes c = grind (arith, rest_is)

pub returns-clause-headed : goal.returns-clause-headed
returns-clause-headed c = grind (arith, rest_is, rest_header)

pub returns-clause-version : goal.returns-clause-version
returns-clause-version c = λ k m f keeps. c.in-Some.ensures.free k m f keeps

pub returns-clause-ok : goal.returns-clause-ok
returns-clause-ok c = λ k m f keeps on.
    let h = c.args.header.now in
    let there = c.in-Some.ensures.there in
    let good = frees_fine h k c.args.id (c.in-Some.ensures.free k m f keeps) in
    record {
      kept = going_kept h k on c.args.id good;
      followed = subst (λ i. FollowsTrace (without_ring h i) (gone h k i) c.remove_ring.new.self m) there.named
          (c.in_ok-remove_ring.ensures.ok k m there.ring there.at f (goes_so h c.requires.headed c.args.id c.in-Some.number there k keeps good));
    }
