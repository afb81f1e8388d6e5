use Rattle.driver_rows.proofs.Words.{arith, ◌≡◌, ℕ, ◌∙◌, Bool, false, ap, sym, refl, Command, AddressDevice, SetTrDequeue, named_context, Header, Known, binding_in, is_bad_move, is_bad_stay, Dequeue, dequeue_in, as_binding}
use Rattle.driver_rows.proofs.bindings.moves.is_bad_move.Goals as goal

others : (h : Header) (k : Known) (c : Command) → ((s i p : ℕ) (cycle : Bool) → c ≡ SetTrDequeue s i p cycle → ⊥) → ((s : ℕ) (bsr : Bool) (n : ℕ) → c ≡ AddressDevice s bsr n → ⊥) →
    false ≡ is_bad_move h k c
unfolding is_bad_move
others h k c first second = grind arith

-- what the context says, by the words of memory
same_binding : (h : Header) (k : Known) (words : ℕ → ℕ) → ((a : ℕ) → k.memory a ≡ words a) → (n : ℕ) (d : Dequeue) → dequeue_in h.context_size words n 1 ≡ d →
    as_binding d ≡ binding_in h k n 1
unfolding binding_in
same_binding h k words same n d is = ap as_binding (sym is) ∙ (λ i. as_binding (dequeue_in h.context_size (λ a. sym (same a) i) n 1))

pub returns-then-not-is_at_rest : goal.returns-then-not-is_at_rest
unfolding is_bad_move
returns-then-not-is_at_rest g c = λ k f keeps fits. rw (c.in-SetTrDequeue.is, ← c.endpoint_state.ensures k f.devices, ← c.is_at_rest.ensures, c.if-not-is_at_rest.true) refl

pub returns-else-not-is_at_rest : goal.returns-else-not-is_at_rest
unfolding is_bad_move
returns-else-not-is_at_rest g c = λ k f keeps fits.
    rw (c.in-SetTrDequeue.is, ← c.endpoint_state.ensures k f.devices, ← c.is_at_rest.ensures, c.if-not-is_at_rest.false) (c.is_bad_dequeue.ensures k (g.M.WordMemory.words c.args.memory.now) f keeps)

pub returns-then-is_off : goal.returns-then-is_off
unfolding is_bad_move
returns-then-is_off g c = λ k f keeps fits. rw (c.in-AddressDevice.is, ← c.endpoint_state-in-AddressDevice.ensures k f.devices, ← c.is_off.ensures, c.if-is_off.true) refl

pub returns-else-is_off : goal.returns-else-is_off
unfolding is_bad_move
returns-else-is_off g c = λ k f keeps fits.
    let h = c.args.header.now in
    let lies = fits c.in-AddressDevice.input_context (ap named_context c.in-AddressDevice.is) in
    rw (c.in-AddressDevice.is, ← c.endpoint_state-in-AddressDevice.ensures k f.devices, ← c.is_off.ensures, c.if-is_off.false)
    (c.is_bad_stay.ensures k (g.M.WordMemory.words c.args.memory.now) f keeps ∙ ap (λ b. is_bad_stay h k (k.ring_of c.in-AddressDevice.slot 1) b)
    (same_binding h k _ f.words c.in-AddressDevice.input_context c.dequeue_in-dequeue.result (sym (c.dequeue_in-dequeue.ensures lies.0 lies.1))))

pub returns-in_default : goal.returns-in_default
returns-in_default g c = λ k f keeps fits. others c.args.header.now k c.args.command.now c.in_default.not-SetTrDequeue c.in_default.not-AddressDevice
