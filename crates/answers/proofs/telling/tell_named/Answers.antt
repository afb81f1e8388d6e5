use Rattle.answers.proofs.Laws.{inl, IsNote, rules, [], refl, string_bytes, cut, named_err, whole, nothing_begun, told_note}
use Rattle.answers.proofs.telling.tell_named.Goals as goal

pub returns-in_err-lines : goal.returns-in_err-lines
returns-in_err-lines g c = cut [] (λ _. inl refl) (search rules) (nothing_begun _ _) (nothing_begun _ _)

pub returns-in_err-write_whole : goal.returns-in_err-write_whole
returns-in_err-write_whole g c =
    cut [] (λ _. inl refl) (search rules) (rw (c.deref.ensures.value, c.in_ok-lines.ensures.out) at c.write_whole.ensures.beginning) (nothing_begun _ _)

pub returns-in_err-write_whole-2 : goal.returns-in_err-write_whole-2
returns-in_err-write_whole-2 g c =
    let n = told_note string_bytes (IsNote c.args.asked.now.explains c.args.answer) c.args.note (named_err c.args.asked.now.input.now c.args.answer) c.in_ok-lines.lines.err.items
    c.in_ok-lines.ensures.noted c.requires c.in_ok-lines.ensures.err in
    cut n.0 n.1 (search rules) (rw (c.deref.ensures.value, c.in_ok-lines.ensures.out) at c.write_whole.ensures.beginning)
    (rw (c.deref-2.ensures.value, n.2) at c.write_whole-2.ensures.beginning)

pub returns : goal.returns
returns g c =
    let n = told_note string_bytes (IsNote c.args.asked.now.explains c.args.answer) c.args.note (named_err c.args.asked.now.input.now c.args.answer) c.in_ok-lines.lines.err.items
    c.in_ok-lines.ensures.noted c.requires c.in_ok-lines.ensures.err in
    whole n.0 n.1 (search rules) (rw (c.deref.ensures.value, c.in_ok-lines.ensures.out) at c.in_ok-write_whole.ensures.whole)
    (rw (c.deref-2.ensures.value, n.2) at c.in_ok-write_whole-2.ensures.whole)
