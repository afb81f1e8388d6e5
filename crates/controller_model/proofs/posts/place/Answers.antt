use Rattle.controller_model.proofs.Words.{address_aligned}
use Rattle.controller_model.proofs.posts.place.Goals as goal

pub returns-clause-aligned : goal.returns-clause-aligned
returns-clause-aligned c =
    rw c.address.ensures (address_aligned c.args.shape.now c.places.ensures.allowed c.args.position)
