-- When a Stopped event is possible where it will be read, and what reading it adds
use Rattle.safety.proofs.MiddleLaws.{arith, code_told, ◌≡◌, ◌≢◌, ℕ, true, false, Some, and_from, or_from, or_right, cond-true, cond-false, put_pair, Block, endpoint, kind, slot, is_transfer_event, is_success, is_halting, is_trb_error, is_stopping, is_transfer_code, Spot, Reaches, Holds, is_stop_spot, stopped_number, Off, is_stop_of, Header, shape_of, Known, event_read, event_at, command_at, next_command, on_ring, stopped_at, transferred, transferred_at, transfer_read, is_working, is_stopping_now, may_be_taken, is_impossible_by_kind, can_report, can_report_at, rules, possible, transfer_kind}

-- the code is that of a Stopped event alone
pub record StopCode (c : ℕ) : Type 0 where
  pub success : is_success c ≡ false
  pub halting : is_halting c ≡ false
  pub error : is_trb_error c ≡ false
  pub stopping : is_stopping c ≡ true

pub stop_transfer_code : (c : ℕ) → StopCode c → is_transfer_code c ≡ true
stop_transfer_code c s = or_right _ _ s.stopping

module _ (h : Header) (k : Known) (b : Block) (r : ℕ) (t : Spot) (transfer : is_transfer_event (kind b) ≡ true) (s : StopCode (code_told h k b)) (at : event_at h k b ≡ Some (record { ring = r; spot = t })) where
  pub stop_read : event_read h k (kind b) b ≡ (let m : Known = record (on_ring h (on_ring h k r (Holds (stopped_number (shape_of h r) (k.ring r) t))) r (Reaches t)) { stop_seen = put_pair k.stop_seen (slot b) (endpoint b) true } in m)
  unfolding event_read transfer_read transferred_at transferred stopped_at
  stop_read = grind (arith, event_read, transfer_kind, kind, transferred_at, cond-false, is_success, code_told, is_halting, is_trb_error, cond-true, is_stopping)

  pub stop_possible : is_working k (slot b) (endpoint b) r ≡ true → may_be_taken h k ≡ true → is_stop_of (slot b) (endpoint b) (command_at h k (next_command h k)) ≡ true →
      is_stop_spot (shape_of h r) (k.ring r) t ≡ true → k.endpoint_state (slot b) (endpoint b) ≢ Off → is_impossible_by_kind h k (kind b) b ≡ false
  unfolding is_stopping_now can_report_at can_report
  stop_possible working may stop spot on = possible h k b (record { ring = r; spot = t }) transfer at (search (rules, cond-false, is_success, code_told, is_halting, is_trb_error, or_from, s.halting, and_from)) on
