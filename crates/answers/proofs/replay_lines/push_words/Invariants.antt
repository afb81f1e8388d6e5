use Rattle.answers.proofs.Words.{◌≡◌, ◌++◌, take, words_text}
use Rattle.answers.proofs.replay_lines.push_words.Given as goal

abbrev pub invariant-loop-word : goal.invariant-loop-word
invariant-loop-word l = l.text.items ≡ l.initial.text.items ++ words_text (take l.word-index l.words)
