-- A ring is open where it is held nowhere
use Rattle.safety.proofs.Words.{◌≡◌, ℕ, true, Option, None, Some, is_none, refl, false≢true, RingView, is_open}

pub none_is : (o : Option ℕ) → is_none o ≡ true → o ≡ None
none_is None is = refl
none_is (Some n) is = absurd (false≢true is)

pub open_held : (v : RingView) → is_open v ≡ true → v.held ≡ None
unfolding is_open
open_held v is = none_is v.held is

pub held_open : (v : RingView) → v.held ≡ None → is_open v ≡ true
unfolding is_open
held_open v none = rw none refl
