-- What a finish is, and what is known behind the completion of a command that had no effect
use Rattle.safety.proofs.LowerLaws.{◌≡◌, ◌==◌, ◌∙◌, ℕ, Bool, true, false, Option, Some, None, refl, sym, ap, eqb-true, rules, false≢true, and_parts, cond-false, not-true, false_from_ne_true, none-some, same_Some, put, put_pair, Block, BlockKind, code, kind, pointer, slot, is_command_completion, after, Reaches, Command, StopEndpoint, command_of, is_stop_of, may_answer_slot, Header, shape_of, command_id, World, UnderWay, can_post, posted, Known, event_read, command_at, next_command, on_ring, is_stopping_now, may_be_taken, was_stop_seen, DriverKeeps, CommandCompletion, completed, finished, stop_ended, arith, with_reads, cond_is}
use Rattle.safety.proofs.StepsLeave.FloorMoves.{floor_behind}
use Rattle.world_state.specs.Finishes as finishes

-- ---- what a finish is

pub record IsFinish (h : Header) (w v : World) (b : Block) : Type 0 where
  pub can : can_post h w b ≡ true
  pub completion : is_command_completion (kind b) ≡ true
  pub some_code : (code b == 0) ≡ false
  pub taken : UnderWay
  pub under_way : w.under_way ≡ Some taken
  pub named : pointer b ≡ taken.address
  pub slot_named : may_answer_slot (command_of taken.block) (slot b) ≡ true
  pub ends : finishes.ended_with h h w b taken ≡ Some v

finished_on : (h : Header) (w v : World) (b : Block) (o : Option UnderWay) → finishes.finished_as h h w b o ≡ Some v →
    (u : UnderWay) × (o ≡ Some u) × (pointer b ≡ u.address) × (may_answer_slot (command_of u.block) (slot b) ≡ true) × (finishes.ended_with h h w b u ≡ Some v)
unfolding finishes.finished_as
finished_on h w v b None at = search (rules, none-some)
finished_on h w v b (Some u) at = search (rules, none-some, cond_is, and_parts, eqb-true)

pub finish_is : (h : Header) (w v : World) (b : Block) → finishes.finished h h w b ≡ Some v → IsFinish h w v b
unfolding finishes.finished
finish_is h w v b at = search (rules, cond_is, and_parts, finished_on, not-true, none-some)

-- the world behind the completion of a command that had no effect
abbrev pub let_go : World → World
let_go u = record u { under_way = None }

pub failure_is : (h : Header) (w v : World) (b : Block) (u : UnderWay) → (code b == 1) ≡ false → finishes.ended_with h h w b u ≡ Some v → (u.has_stopped ≡ false) × (let_go (posted h w b) ≡ v)
unfolding finishes.ended_with finishes.ended
failure_is h w v b u fails at = search (rules, cond_is, cond-false, none-some, same_Some)

pub completion_kind : (t : BlockKind) → is_command_completion t ≡ true → t ≡ CommandCompletion
completion_kind o h = grind (arith, false≢true)

-- ---- what is known behind it

-- which Stopped events still wait for the end of their Stop Endpoint
abbrev pub seen_after : Known → Command → ℕ → ℕ → Bool
seen_after k (StopEndpoint s i) = put_pair k.stop_seen s i false
seen_after k _ = k.stop_seen

abbrev pub next_known : Header → Known → (ℕ → ℕ → Bool) → ℕ → Known
next_known h k seen n = record k { ring = put k.ring (command_id h) (floor_behind (shape_of h (command_id h)) (k.ring (command_id h)) (next_command h k)); stop_seen = seen; reads = n }

pub stop_ended_is : (h : Header) (k : Known) (c : Command) → stop_ended h k c ≡ (let m : Known = record k { stop_seen = seen_after k c } in m)
unfolding stop_ended
stop_ended_is h k o = grind arith

pub reached_is : (h : Header) (k : Known) (seen : ℕ → ℕ → Bool) (n : ℕ) →
    with_reads (on_ring h (let m : Known = record k { stop_seen = seen } in m) (command_id h) (Reaches (after (shape_of h (command_id h)) (next_command h k)))) n ≡ next_known h k seen n
unfolding on_ring
reached_is h k seen n = refl

pub failed_read : (h : Header) (k : Known) (b : Block) (c : Command) (n : ℕ) → is_command_completion (kind b) ≡ true → command_at h k (next_command h k) ≡ Some c → (code b == 1) ≡ false →
    with_reads (event_read h k (kind b) b) n ≡ next_known h k (seen_after k c) n
unfolding event_read completed finished
failed_read h k b c n completion at fails =
    ap (λ t. with_reads (event_read h k t b) n) (completion_kind (kind b) completion)
    ∙ ap (λ o. with_reads (on_ring h (finished h k b o) (command_id h) (Reaches (after (shape_of h (command_id h)) (next_command h k)))) n) at
    ∙ ap (λ m. with_reads (on_ring h (stop_ended h m c) (command_id h) (Reaches (after (shape_of h (command_id h)) (next_command h k)))) n) (cond-false (code b == 1) _ k fails)
    ∙ ap (λ m. with_reads (on_ring h m (command_id h) (Reaches (after (shape_of h (command_id h)) (next_command h k)))) n) (stop_ended_is h k c)
    ∙ reached_is h k (seen_after k c) n

-- ---- no Stopped event waits where the command under way isn't the Stop Endpoint of one

stop_of_is : (k : Known) (s i : ℕ) (c : Command) → is_stop_of s i (Some c) ≡ true → was_stop_seen k c ≡ k.stop_seen s i
unfolding was_stop_seen
stop_of_is k s i o at = grind (arith, and_parts, eqb-true, false≢true)

pub stopping_of : (h : Header) (k : Known) (s i : ℕ) → is_stopping_now h k s i ≡ true → is_stop_of s i (command_at h k (next_command h k)) ≡ true
unfolding is_stopping_now
stopping_of h k s i at = (and_parts (may_be_taken h k) (is_stop_of s i (command_at h k (next_command h k))) at).1

pub none_waits : (h : Header) (k : Known) (d : DriverKeeps h k) (c : Command) → command_at h k (next_command h k) ≡ Some c → was_stop_seen k c ≡ false → (s i : ℕ) → k.stop_seen s i ≡ false
none_waits h k d c at fresh s i =
    false_from_ne_true (k.stop_seen s i) (λ seen.
    false≢true (sym fresh ∙ stop_of_is k s i c (ap (λ o. is_stop_of s i o) (sym at) ∙ stopping_of h k s i (d.states.seen_command s i seen)) ∙ seen))

pub put_false : (f : ℕ → ℕ → Bool) (a b s i : ℕ) → f s i ≡ false → put_pair f a b false s i ≡ false
put_false f a b s i none = search rules

pub none_after : (k : Known) (c : Command) → ((s i : ℕ) → k.stop_seen s i ≡ false) → (s i : ℕ) → seen_after k c s i ≡ false
none_after k (StopEndpoint t j) none s i = put_false k.stop_seen t j s i (none s i)
none_after k _ none s i = none s i
