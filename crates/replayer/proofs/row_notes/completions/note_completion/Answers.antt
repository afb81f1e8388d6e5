use Rattle.replayer.proofs.MiddleLaws.{◌∙◌, ◌++◌, ◌∷◌, [], ap, map, code, completing_look, open_stopped, Begun, said_well, some_command, completion_taken, from_none, in_turn, may_place, placed_is}
use Rattle.replayer.proofs.row_notes.completions.note_completion.Goals as goal

pub add_placed_by-requires : goal.add_placed_by-requires
add_placed_by-requires g c = record {
  headed = c.requires.headed;
  found = c.requires.found;
  well = said_well c.command_said-command.result c.command_said-command.ensures.said;
}

pub returns-clause-placed : goal.returns-clause-placed
returns-clause-placed g c = λ k f d on possible.
    let h = c.args.header.now in
    let headed = c.requires.headed in
    let b = c.args.event in
    let command = c.command_said-command.result in
    let some = some_command h headed k d on (completion_taken h k b possible) in
    let here = c.command_said-command.ensures.same ∙ c.next_command.ensures k f.rings some in
    from_none c.add_placed_by.new.rings.items c.new-rings.result.items _ _ (c.in_ok-add_placed_by.ensures k f (may_place h k b headed d on possible command here)) c.new-rings.ensures.items (placed_is h k b command here)

pub returns-clause-noted : goal.returns-clause-noted
returns-clause-noted g c = λ k f d on possible.
    let h = c.args.header.now in
    let headed = c.requires.headed in
    let b = c.args.event in
    let words = g.M.WordMemory.words c.args.memory.now in
    let command = c.command_said-command.result in
    let some = some_command h headed k d on (completion_taken h k b possible) in
    let here = c.command_said-command.ensures.same ∙ c.next_command.ensures k f.rings some in
    let begun = c.in_ok-note_begun.ensures ∙ ap (λ rs. c.args.notes.now.items ++ map Begun rs) c.as_slice.ensures.value in
    let look = c.in_ok-note_look.ensures k words f d some ∙ ap (λ o. c.note_begun.new.notes.items ++ completing_look h k (open_stopped k (code b) o) ∷ []) here in
    in_turn c.args.notes.now.items _ _ _ _ _ _ begun look c.in_ok-add_note.ensures
