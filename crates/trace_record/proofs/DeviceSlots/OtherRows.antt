-- Rows by which nothing changes that the record speaks of
use Rattle.trace_record.proofs.MiddleLaws.{rules, ◌≡◌, ℕ, List, None, sym, subst, option_and_then, Block, Header, Register, Sub, Write, Reg, Known, on_ring, taken_device, command_given, with_device, with_word, written, run_or_stop, runs_again, runs_once, valued, register_written, learned, DeviceRecord, FollowsDevices, follows_beside}

after_once : (k : Known) (v : ℕ) (d : DeviceRecord) → FollowsDevices k d → FollowsDevices (runs_once k v) d
unfolding runs_once
after_once k v d f = search (rules, follows_beside)

after_again : (k : Known) (v : ℕ) (d : DeviceRecord) → FollowsDevices k d → FollowsDevices (runs_again k v) d
unfolding runs_again
after_again k v d f = search (rules, follows_beside)

pub after_run : (h : Header) (k : Known) (v : ℕ) (d : DeviceRecord) → FollowsDevices k d → FollowsDevices (run_or_stop h k v) d
unfolding run_or_stop
after_run h k v d f = search (rules, after_once, after_again)

module _ (h : Header) (k : Known) (d : DeviceRecord) (f : FollowsDevices k d) where
  pub after_declaration : (r : ℕ) (blocks : List Block) → FollowsDevices (learned h k (Sub r blocks)) d
  unfolding learned on_ring
  after_declaration r blocks = follows_beside k (learned h k (Sub r blocks)) d f

  -- a word is written, before a device context comes under lease by it
  pub after_word : (a word : ℕ) → FollowsDevices (with_word h k a word) d
  unfolding with_word
  after_word a word = follows_beside k (with_word h k a word) d f

  -- a write by which no device context comes under lease
  pub after_write : (a word : ℕ) → option_and_then (taken_device k) (command_given h k a word) ≡ None → FollowsDevices (learned h k (Write a word)) d
  unfolding learned written with_device
  after_write a word none = subst (λ o. FollowsDevices (with_device h (with_word h k a word) o) d) (sym none) (after_word a word)

  pub after_register : (r : Register) (v : ℕ) → FollowsDevices (learned h k (Reg r v)) d
  unfolding learned register_written valued
  after_register r v = search (rules, after_run, valued, follows_beside, register_written)
