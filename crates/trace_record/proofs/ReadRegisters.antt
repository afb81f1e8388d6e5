-- The record of a trace behind a register that is read
use Rattle.trace_record.proofs.UpperLaws.{◌≡◌, ◌∙◌, ℕ, List, refl, sym, subst, inl, inr, Header, Known}
use Rattle.trace_record.proofs.BaseWords.{◌&&◌, Command, EventState, FollowsEvents, FollowsRegisters, FollowsTrace, FollowsUnfinished, HoldsAreas, None, Option, Register, Some, TraceRecord, cases_Bool, cond-false, cond-true, input_context_bytes, inputs_of, unfinished}
use Rattle.traces.specs.declared.register.Register.TheVariants.{Usbsts}
use Rattle.traces.specs.declared.row.Row.TheVariants.{RegRead}
use Rattle.traces.specs.declared.halt.Halt.{Halt}
use Rattle.traces.specs.Halts as halts
use Rattle.traces.specs.Register.{halted_bit}
use Rattle.ring_knowledge.specs.Learned.{learned}
use Rattle.ring_knowledge.specs.Registers.{register_read, status_read}
use Rattle.ring_knowledge.specs.declared.register_record.RegisterRecord.{RegisterRecord}
use Rattle.trace_record.proofs.BoundRings.{binds_same, bound_same}
use Rattle.trace_record.proofs.DeviceSlots.Steps.{follows_beside}
use Rattle.trace_record.proofs.DeviceSlots.UnfinishedSame.{unfinished_same}

-- how far the controller is in halting is all that a read may change
abbrev seen : Known → Halt → Known
seen k halt = record k { halt = halt }

status_is : (k : Known) (v : ℕ) → (halt : Halt) × (status_read k v ≡ seen k halt)
unfolding status_read
status_is k v = elim (cases_Bool (halts.is_asked k.halt && halted_bit v)) [
  | inl shown ↦ (halts.seen k.halt v, cond-true (halts.is_asked k.halt && halted_bit v) (seen k (halts.seen k.halt v)) k shown)
  | inr goes_on ↦ (k.halt, cond-false (halts.is_asked k.halt && halted_bit v) (seen k (halts.seen k.halt v)) k goes_on)
]

read_is : (k : Known) (r : Register) (v : ℕ) → (halt : Halt) × (register_read k r v ≡ seen k halt)
unfolding register_read
read_is k Usbsts v = status_is k v
read_is k r v = (k.halt, refl)

module _ (h : Header) (k : Known) (t : TraceRecord) (m : ℕ → ℕ) (f : FollowsTrace h k t m) (g : RegisterRecord) where
  seen_followed : (b : Halt) → FollowsRegisters (seen k b) g → FollowsTrace h (seen k b) (record t { registers = g }) m
  seen_followed b registers =
      let same : unfinished h (seen k b) ≡ unfinished h k = unfinished_same h k (seen k b) (record { queue = refl; given = refl; floor = refl }) in
      record {
        words = f.words;
        rings = record { as_many = f.rings.as_many; each = f.rings.each };
        registers = registers;
        events = events t.events f.events;
        devices = follows_beside k (seen k b) t.devices f.devices;
        commands = subst (λ (cs : List Command). FollowsUnfinished cs t.commands) (sym same) f.commands;
        bound = λ r. f.bound r ∙ sym (bound_same h k (seen k b) same (binds_same h k (seen k b) refl (λ s. refl)) r);
        inputs = subst (λ (cs : List Command). HoldsAreas (input_context_bytes h.context_size) (inputs_of cs) t.inputs) (sym same) f.inputs;
        contexts = f.contexts;
        soiled = f.soiled;
      }
    where
      events : (o : Option EventState) → FollowsEvents h k o → FollowsEvents h (seen k b) o
      events None e = e
      events (Some x) e = record { here = e.here; shape = e.shape; reads = e.reads; dequeue = e.dequeue }

  pub read_followed : (r : Register) (v : ℕ) → FollowsRegisters (register_read k r v) g → FollowsTrace h (learned h k (RegRead r v)) (record t { registers = g }) m
  unfolding learned
  read_followed r v registers =
      let is = read_is k r v in
      subst (λ (l : Known). FollowsTrace h l (record t { registers = g }) m) (sym is.1) (seen_followed is.0 (subst (λ (l : Known). FollowsRegisters l g) is.1 registers))
