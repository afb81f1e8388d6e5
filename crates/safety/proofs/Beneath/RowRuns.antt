-- Behind a row of the driver the run goes on, whatever is unread
use Rattle.safety.proofs.UpperLaws.{plain_done, [], ◌≡◌, ◌==◌, ◌&&◌, if◌then◌else◌, ◌∷◌, ◌∙◌, ℕ, not, true, false, List, Some, sym, subst, inl, inr, rules, cases_Bool, cond-true, and_from, not-false, same_Some, Block, is_open, Header, Row, Bell, Read, IsHeader, MayCome, command_id, IsRow, World, counted, Known, learned, is_bad_bell, lenient, DriverKeeps, KeptByRestoring, IsDriverRow, Agrees, ArePossible, Runs, all_read, is_idle, is_open_if, MayRing, SquareLaw, MoreLaw, None, event_read, EndpointsKeep, activated, bell_row, endpoint_bell, row_done, arith, BellFacts, bell_facts, endpoints_of, transfer_command, open_held, held_open, read_counts, awake_runs, read_on, idle, rings, rung_agrees, command_rung, completed_view, is_named, is_used, is_value, ap, resets_by}

-- No event holds the command ring
module _ (h : Header) (is : IsHeader h) (k : Known) (keeps : EndpointsKeep h k) (b : Block) where
  read_held : (k.ring (command_id h)).held ≡ None → ((learned h k (Read b)).ring (command_id h)).held ≡ None
  unfolding learned event_read
  read_held none = grind (arith, transfer_command, completed_view)

-- an open command ring was started
open_used : (h : Header) (k : Known) → is_open (k.ring (command_id h)) ≡ true → is_used h k ≡ true
open_used h k opened = ap (λ o. not (is_value 0 o)) (open_held (k.ring (command_id h)) opened)

-- behind an event it is open still
pub still_open : (h : Header) → IsHeader h → (k : Known) (b : Block) → DriverKeeps h k → is_open (k.ring (command_id h)) ≡ true → is_open ((learned h k (Read b)).ring (command_id h)) ≡ true
still_open h is k b d opened = held_open ((learned h k (Read b)).ring (command_id h)) (read_held h is k (endpoints_of h k d.states) b (open_held (k.ring (command_id h)) opened))

-- an endpoint whose doorbell does nothing stays one behind an event
abbrev pub StillRingsLaw : Header → Type 0
StillRingsLaw h = (k : Known) (s t : ℕ) (e : Block) → IsHeader h → DriverKeeps h k → MayRing h k s t → lenient h k (Read e) ≡ [] → MayRing h (learned h k (Read e)) s t

module _ (h : Header) where
  module _ (is : IsHeader h) (kept : KeptByRestoring h (DriverKeeps h)) (still : StillRingsLaw h) where
    -- along the unread events
    along : (P : Known → Type 0) → ((k : Known) (e : Block) → DriverKeeps h k → P k → lenient h k (Read e) ≡ [] → P (learned h k (Read e))) →
        (unread : List Block) (k : Known) → DriverKeeps h k → ArePossible h k unread → k.stopped ≡ false → P k →
        P (all_read h k unread) × DriverKeeps h (all_read h k unread) × (k.started ≡ true → (all_read h k unread).started ≡ true)
    along P one [] k d possible on p = (p, d, λ started. started)
    along P one (e ∷ rest) k d possible on p =
        let still_on : (learned h k (Read e)).stopped ≡ false = read_on h k e ∙ on in
        let later = along P one rest (learned h k (Read e)) (kept is k (Read e) d (possible.0, tt) still_on) possible.1 still_on (one k e d p possible.0) in
        (later.0, later.1, λ started. later.2 ((read_counts h k e).2 ∙ started))

    module _ (now : Known) (w v : World) (s t : ℕ) (now_keeps : DriverKeeps h now) (run : Runs h now w) (possible : lenient h now (Bell s t) ≡ []) (idles : is_idle h now (Bell s t) ≡ true) where
      later : Known
      later = all_read h now run.unread

      command_agrees : (s == 0) ≡ true → Agrees h later run.unread (counted h (bell_row h w s t))
      unfolding later bell_row
      command_agrees command =
          let facts : BellFacts h now s t = bell_facts h now s t possible in
          let opened : is_open (now.ring (command_id h)) ≡ true =
          sym (cond-true (s == 0) (is_open (now.ring (command_id h))) (is_open_if now (now.ring_of s t)) command) ∙ idles in
          let l = along (λ k. is_open (k.ring (command_id h)) ≡ true) (λ k e d o b. still_open h is k e d o) run.unread now now_keeps run.possible run.on opened in
          let started = l.2 facts.started in
          let named : is_named (all_read h now run.unread) ≡ true = l.1.run.used started (open_used h (all_read h now run.unread) l.0) in
          let zero : (t == 0) ≡ true = not-false (t == 0) (sym (cond-true (s == 0) (not (t == 0)) (is_bad_bell h now s t) command) ∙ facts.good) in
          subst (λ u. Agrees h (all_read h now run.unread) run.unread (counted h u))
          (sym (cond-true (s == 0) (if t == 0 && w.started then activated h w (command_id h) else w) (endpoint_bell h w s t (w.ring_of s t)) command
          ∙ cond-true (t == 0 && w.started) (activated h w (command_id h)) w (and_from (t == 0) w.started zero (run.agrees.stands.started ∙ started))))
          (command_rung h is (all_read h now run.unread) run.unread w l.1 run.agrees l.0 named)

      endpoint_agrees : (s == 0) ≡ false → Agrees h later run.unread (counted h (bell_row h w s t))
      unfolding later
      endpoint_agrees endpoint =
          let l = along (λ k. MayRing h k s t) (λ k e d m b. still k s t e is d m b) run.unread now now_keeps run.possible run.on (rings h now now_keeps s t idles possible endpoint) in
          rung_agrees h is (all_read h now run.unread) run.unread w l.1 run.agrees s t endpoint l.0

      agrees_still : Agrees h later run.unread (counted h (bell_row h w s t))
      agrees_still = elim (cases_Bool (s == 0)) [ inl command ↦ command_agrees command | inr endpoint ↦ endpoint_agrees endpoint ]

      pub idle_runs : row_done h w (Bell s t) ≡ Some v → Runs h (learned h now (Bell s t)) (counted h v)
      unfolding later row_done
      idle_runs at = search (rules, later, idle, same_Some, agrees_still)

    -- any row of the driver that doesn't stop the controller
    module _ (square : SquareLaw h) (more : MoreLaw h) where
      pub row_runs : (now : Known) (row : Row) (w v : World) → IsRow row → IsDriverRow row → DriverKeeps h now → Runs h now w → MayCome h now row → (learned h now row).stopped ≡ false → resets_by now row ≡ false →
          plain_done h w row ≡ Some v → Runs h (learned h now row) (counted h v)
      row_runs now (Bell s t) w v is_row driver_row keeps run possible on stays at =
          elim (cases_Bool (is_idle h now (Bell s t))) [
            | inl idles ↦ idle_runs now w v s t keeps run possible.0 idles at
            | inr awake ↦ awake_runs h is square more kept (Bell s t) is_row driver_row now w v keeps run possible awake on stays at
          ]
      row_runs now z w v is_row driver_row keeps run possible on stays at = search (rules, awake_runs)
