use Rattle.cycle_ring.proofs.Words.{◌∙◌, ap, sym, fault_of, Progress}
use Rattle.cycle_ring.proofs.EnqueueLemmas.{appended_blocks, appended_links, appended_others, appended_last, appended_declared, appended_rules}
use Rattle.cycle_ring.proofs.producer.Producer.enqueue.Goals as goal

pub returns-clause-blocks : goal.returns-clause-blocks
returns-clause-blocks c =
    appended_blocks _ _ c.self.view_is c.self.invariant c.args.blocks.now _ _ _ c.in-Some.ensures.shape c.in-Some.ensures.end.0
    (c.deref.ensures.value ∙ c.in_ok-writes.ensures) c.in_ok-extend_from_slice.ensures.items

pub returns-clause-links : goal.returns-clause-links
returns-clause-links c =
    appended_links _ _ c.self.view_is c.self.invariant c.args.blocks.now _ _ _ c.in-Some.ensures.shape c.in-Some.ensures.end.0
    (c.deref.ensures.value ∙ c.in_ok-writes.ensures) c.in_ok-extend_from_slice.ensures.items

pub returns-clause-others : goal.returns-clause-others
returns-clause-others c =
    appended_others _ _ c.self.view_is c.self.invariant c.args.blocks.now _ _ _ c.in-Some.ensures.shape c.in-Some.ensures.end.0
    (c.deref.ensures.value ∙ c.in_ok-writes.ensures) c.in_ok-extend_from_slice.ensures.items

pub returns-clause-last : goal.returns-clause-last
returns-clause-last c =
    appended_last _ _ c.self.view_is c.self.invariant c.args.blocks.now _ _ _ c.in-Some.ensures.shape c.in-Some.ensures.end.0
    (c.deref.ensures.value ∙ c.in_ok-writes.ensures) c.in_ok-extend_from_slice.ensures.items

pub returns-clause-declared : goal.returns-clause-declared
returns-clause-declared c =
    appended_declared _ _ c.self.view_is c.self.invariant c.args.blocks.now _ _ _ c.in-Some.ensures.shape c.in-Some.ensures.end.0
    (c.deref.ensures.value ∙ c.in_ok-writes.ensures) c.in_ok-extend_from_slice.ensures.items
    (sym (ap (λ (p : Progress). fault_of p.shape.kind c.args.blocks.now) c.self.view_is)
    ∙ ap (λ r. fault_of r c.args.blocks.now) (sym c.kind.ensures) ∙ sym c.descriptor_fault.ensures ∙ c.in_default-descriptor_fault.is)

pub returns-clause-rules : goal.returns-clause-rules
returns-clause-rules c =
    appended_rules _ _ c.self.view_is c.self.invariant c.args.blocks.now _ _ _ c.in-Some.ensures.shape c.in-Some.ensures.end.0
    (c.deref.ensures.value ∙ c.in_ok-writes.ensures) c.in_ok-extend_from_slice.ensures.items
    (sym (ap (λ (p : Progress). fault_of p.shape.kind c.args.blocks.now) c.self.view_is)
    ∙ ap (λ r. fault_of r c.args.blocks.now) (sym c.kind.ensures) ∙ sym c.descriptor_fault.ensures ∙ c.in_default-descriptor_fault.is)
