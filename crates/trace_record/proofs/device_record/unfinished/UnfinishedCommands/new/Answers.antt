use Rattle.trace_record.proofs.Laws.{◌∙◌, ap, sym, slice_index_or, endpoint_count, count_first, follows_none, alike}
use Rattle.trace_record.proofs.device_record.unfinished.UnfinishedCommands.new.Goals as goal

pub returns : goal.returns
returns c = follows_none _ c.in_ok-no_commands.ensures c.in_ok-no_commands-2.ensures

pub invariant_of-result-clause-counts_all : goal.invariant_of-result-clause-counts_all
invariant_of-result-clause-counts_all c = λ s below.
    ap (λ xs. slice_index_or xs s 0) (c.in_ok-vec.ensures.items_if_clones_equal (λ y same. same)) ∙ alike 256 s 0 ∙ sym (ap (λ xs. endpoint_count xs s) c.in_ok-no_commands-2.ensures ∙ count_first s)
