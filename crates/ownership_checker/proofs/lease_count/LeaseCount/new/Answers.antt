use Rattle.ownership_checker.proofs.Words.{◌∙◌, [], ap, length, length-map, lease_of, lents, first_list}
use Rattle.ownership_checker.proofs.lease_count.LeaseCount.new.Goals as goal

pub returns : goal.returns
returns c = λ first. c.len.ensures ∙ c.in_ok-opening.opening.ok.0 ∙ ap length (c.in_ok-opening.ensures ∙ first_list c.args.header.now first) ∙ length-map (lents c.args.header.now first []) lease_of
