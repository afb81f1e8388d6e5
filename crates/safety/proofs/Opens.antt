-- Before the first row: nothing is known, nothing is posted, and the opening world agrees with that
use Rattle.safety.proofs.Words.{[], ◌≡◌, ◌≤◌, ℕ, false, arith, refl, rules, false≢true, All-nil, none-some, IsBlock, Header, opening, nothing, Stands, EventsStand, Matches, Runs, next_take, ceiling, has_other_words, is_out_of_order}

module _ (h : Header) where
  stands : Stands h nothing opening
  unfolding nothing opening
  stands = search rules

  events : EventsStand h opening []
  unfolding opening
  events = search (rules, none-some)

  matches : Matches h nothing opening
  unfolding nothing opening is_out_of_order has_other_words next_take ceiling
  matches = search (rules, none-some, false≢true)

  stamps : (a : ℕ) → opening.changed a ≤ opening.steps
  unfolding opening
  stamps a = omega arith

  read : opening.posted ≡ nothing.reads
  unfolding opening nothing
  read = refl

  on : nothing.stopped ≡ false
  unfolding nothing
  on = refl

  -- a run begins so
  pub opens : Runs h nothing opening
  opens = record { unread = []; possible = tt; blocks = All-nil IsBlock; on = on; agrees = record { stands = stands; events = events; matches = matches; read = read; stamps = stamps } }
