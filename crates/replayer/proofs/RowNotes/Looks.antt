-- The notes of single looks
use Rattle.replayer.proofs.Words.{code_told, arith, ◌≡◌, ℕ, ◌+◌, [], ◌∷◌, ◌++◌, Some, None, if◌then◌else◌, cond-false, ne_eqb, Block, code, is_success, Spot, number, Command, StopEndpoint, Header, command_id, Known, RingSpot, next_command, Succeeded, open_stopped, reporting_look, transfer_notes, CommandPlace}

abbrev pub place_of : Header → Known → CommandPlace
place_of h k = record { ring = command_id h; behind = next_command h k + 1 }

module _ (h : Header) (k : Known) where
  module _ (b : Block) (r : ℕ) (t : Spot) where
    abbrev at : RingSpot
    at = record { ring = r; spot = t }

    pub transfer_is : (if is_success (code_told h k b) then Succeeded r (number t + 1) ∷ [] else []) ++ reporting_look h k b at ∷ [] ≡ transfer_notes h k b (Some at)
    unfolding transfer_notes
    transfer_is = grind arith

-- ---- the ring that is stopped

module _ (k : Known) where
  pub failed_stop : (code : ℕ) (c : Command) → (code ≡ 1 → ⊥) → open_stopped k code (Some c) ≡ None
  unfolding open_stopped
  failed_stop code c other = grind (arith, cond-false, ne_eqb)

  pub no_stop : (c : Command) → ((s i : ℕ) → c ≡ StopEndpoint s i → ⊥) → open_stopped k 1 (Some c) ≡ None
  unfolding open_stopped
  no_stop c other = grind arith
