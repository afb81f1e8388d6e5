-- Rows that give no endpoint another ring than it had
use Rattle.safety.proofs.Words.{register_read, status_read, ◌≡◌, ◌==◌, if◌then◌else◌, ℕ, Bool, refl, rules, cond_both, Block, Opens, Command, Header, Register, command_id, Known, on_ring, with_device, with_word, written, run_or_stop, valued, register_written, endpoint_rung, rung, passed, broken_off, stopped_at, transferred, transferred_at, transfer_read, stop_ended, arith, runs_again, runs_once}

-- the same endpoints have rings, and the same ones
abbrev pub SameRings : Known → Known → Type 0
SameRings k l = l.ring_of ≡ k.ring_of

either_same : (k : Known) (b : Bool) (l m : Known) → SameRings k l → SameRings k m → SameRings k (if b then l else m)
either_same k b l m one other = cond_both b l m (SameRings k) (λ x. one) (λ x. other)

module _ (h : Header) where
  pub written_same : (k : Known) (a w : ℕ) → SameRings k (written h k a w)
  unfolding written with_word with_device
  written_same k a w = grind arith

  pub register_same : (k : Known) (r : Register) (x : ℕ) → SameRings k (register_written h k r x)
  unfolding register_written valued run_or_stop runs_once runs_again
  register_same k r x = grind (arith, either_same)

  pub status_same : (k : Known) (r : Register) (x : ℕ) → SameRings k (register_read k r x)
  unfolding register_read status_read
  status_same k o x = grind (arith, either_same)

  pub rung_same : (k : Known) (s t : ℕ) → SameRings k (rung h k s t)
  unfolding rung on_ring endpoint_rung
  rung_same k s t = either_same k (s == 0) (on_ring h k (command_id h) Opens) (endpoint_rung h k s t (k.ring_of s t)) refl (grind arith)

  pub transfer_same : (k : Known) (b : Block) → SameRings k (transfer_read h k b)
  unfolding transfer_read transferred_at transferred passed broken_off stopped_at on_ring
  transfer_same k b = search (rules, either_same)

  pub stop_same : (k : Known) (c : Command) → SameRings k (stop_ended h k c)
  unfolding stop_ended
  stop_same k o = grind arith
