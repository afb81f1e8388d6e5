use Rattle.trace_record.proofs.BaseWords.{◌∙◌, List, length, subst, ap, rules, position, IsPermutation, IsNonDecreasingBy-from_sort_by_key, is_command_kind, is_event_kind, Ring, Start, AreHints, AreNumbers, starts_from}
use Rattle.trace_record.proofs.ring_finder.finder.Finder.new.Goals as goal

pub returns : goal.returns
returns c =
    let starts = c.in_ok-starts.ensures ∙ ap (λ xs. starts_from 0 xs) c.as_slice-rings.ensures in
    record {
      numbers = subst (λ (xs : List Ring). AreNumbers xs (length xs) c.in_ok-numbers.numbers.items) c.as_slice-rings.ensures c.in_ok-numbers.ensures;
      starts = subst (λ (xs : List Start). IsPermutation xs c.sort_unstable_by_key.new.self.items) starts c.sort_unstable_by_key.ensures.permutation;
      sorted = IsNonDecreasingBy-from_sort_by_key (λ s. s.address) _ c.sort_unstable_by_key.ensures.sorted (λ a r q k. search rules);
      hints = subst (λ (xs : List Start). AreHints xs (length xs) c.note_hints.new.hints.items) c.as_slice.ensures.value c.note_hints.ensures.hints;
      near = c.note_hints.ensures.near;
      commands = c.command_number-commands.ensures ∙ ap (λ (xs : List Ring). position (λ r. is_command_kind r.shape.kind) xs) c.as_slice-rings.ensures;
      events = c.event_number-events.ensures ∙ ap (λ (xs : List Ring). position (λ r. is_event_kind r.shape.kind) xs) c.as_slice-rings.ensures;
    }
