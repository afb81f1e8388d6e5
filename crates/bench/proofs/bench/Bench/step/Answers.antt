use Rattle.bench.proofs.Words.{◌++◌, ◌∙◌, ◌∷◌, [], ap, sym, option_and_then, reverse-cons, IsBeside, shows, step_made, words_told}
use Rattle.bench.proofs.RowsBeside.{none_left, step_shown}
use Rattle.bench.proofs.bench.Bench.step.Goals as goal

pub returns-in_ok-add_step-in-Ok-clause-made : goal.returns-in_ok-add_step-in-Ok-clause-made
returns-in_ok-add_step-in-Ok-clause-made g c = λ h past steps told x b.
    let s = c.args.step.now in
    let made =
    step_shown (step_made x s) c.in-Ok.seen (shows x.header x.world s) (IsBeside g.M.WordMemory.words c.step.new.self) (c.in-Ok.ensures.step x b.beside b.none_left) in (
      made.0,
      made.1,
      made.2,
      record {
        reached = ap (λ o. option_and_then (λ z. step_made z s) o) b.reached ∙ made.1;
        none_left = none_left x made.0 s b.none_left made.1;
        beside = made.3;
        scheduled = c.in_ok-add_step-in-Ok.ensures ∙ ap (λ l. l ++ s ∷ []) b.scheduled ∙ sym (reverse-cons s steps);
        written = c.in_ok-add_words-in-Ok.ensures x made.2 ∙ ap (λ l. l ++ words_told x s) b.written;
        counted = b.counted;
        judged = b.judged;
      },
    )
