-- A word that the controller writes: what stands in the world and what the controller did stay
use Rattle.safety.proofs.Words.{◌≡◌, ◌≢◌, ◌+◌, ◌*◌, ◌/◌, ◌<◌, ◌≤◌, ◌==◌, ◌⊎◌, ℕ, true, Option, Some, None, arith, ap, inl, inr, eq-eqb, rules, cases_Bool, cases_eq, false≢true, cond-true, cond-false, put, put_here, put_elsewhere, Command, named_context, input_context_bytes, Header, shape_of, command_id, address_of, World, stored, Known, IsUnfinished, Stands, touches_events, IsUnchanged, Matches}

-- within a step a stamp is at most that of the step
abbrev pub Late : World → Type 0
Late w = (a : ℕ) → w.changed a ≤ w.steps + 1

pub memory_stored : (w : World) (a x b : ℕ) → b ≢ a → (stored w a x).memory b ≡ w.memory b
unfolding stored
memory_stored w a x b other = put_elsewhere w.memory a x b other

pub memory_here : (w : World) (a x : ℕ) → (stored w a x).memory a ≡ x
unfolding stored
memory_here w a x = put_here w.memory a x

module _ (h : Header) where
  -- the word at a belongs to no input context of an unfinished command
  abbrev pub IsInNoContext : Known → ℕ → Type 0
  IsInNoContext k a = (p n i : ℕ) (c : Command) → IsUnfinished h k p c → named_context c ≡ Some n → i < input_context_bytes h.context_size / 4 → n + 4 * i ≢ a

  pub late_stored : (w : World) (a x : ℕ) → Late w → Late (stored w a x)
  unfolding stored
  late_stored w a x late b =
      elim (cases_Bool (w.memory a == x)) [
        | inl same ↦ omega (arith, ap (λ f. f b) (cond-true (w.memory a == x) w.changed (put w.changed a (w.steps + 1)) same), late b)
        | inr other ↦ elim (cases_eq b a) [
          | inl here ↦ omega (arith, ap (λ f. f b) (cond-false (w.memory a == x) w.changed (put w.changed a (w.steps + 1)) other), ap (λ c. put w.changed a (w.steps + 1) c) here, put_here w.changed a (w.steps + 1))
          | inr there ↦ omega (arith, ap (λ f. f b) (cond-false (w.memory a == x) w.changed (put w.changed a (w.steps + 1)) other), put_elsewhere w.changed a (w.steps + 1) b there, late b)
        ]
      ]

  -- a word other than the one written keeps its stamp, and so does that one where it is written as it stands
  changed_kept : (w : World) (a x b : ℕ) → (b ≡ a → w.memory a ≡ x) → (stored w a x).changed b ≡ w.changed b
  unfolding stored
  changed_kept w a x b stands = search (rules, cond-true, cond-false, put_elsewhere, false≢true, eq-eqb)

  -- a write is stamped, and no other write's stamp changes
  written_later : (w : World) (a x b n : ℕ) → n ≤ w.written b → n ≤ w.steps + 1 → n ≤ (stored w a x).written b
  unfolding stored
  written_later w a x b n low now = search (rules, put_here, put_elsewhere)

  pub unchanged_stored : (w : World) (a x at : ℕ) (o : Option ℕ) → Late w → ((n i : ℕ) → o ≡ Some n → i < input_context_bytes h.context_size / 4 → n + 4 * i ≡ a → w.memory a ≡ x) →
      IsUnchanged h w at o → IsUnchanged h (stored w a x) at o
  unchanged_stored w a x at None late stands same = search rules
  unchanged_stored w a x at (Some n) late stands same = search (rules, changed_kept, written_later)

  pub matches_stored : (k : Known) (w : World) (a x : ℕ) → Late w → IsInNoContext k a → Matches h k w → Matches h k (stored w a x)
  unfolding stored
  matches_stored k w a x late apart m = record {
    slots = m.slots;
    endpoints = m.endpoints;
    ring_of = m.ring_of;
    isochronous = m.isochronous;
    rings = m.rings;
    before = λ off. let b = m.before off in record { rests = b.rests; none = b.none };
    new = m.new;
    command = λ on. let c = m.command on in record { spot = c.spot; ring = c.ring; under_way = c.under_way };
    scribbles = m.scribbles;
    contexts = λ p c u. unchanged_stored w a x (address_of (shape_of h (command_id h)) p) (named_context c) late (λ n i is l here. absurd (apart p n i c u is l here)) (m.contexts p c u);
    inside = m.inside;
    there = m.there;
  }

  -- a word that the controller may write: it is soiled, or belongs to the event ring
  pub stands_stored : (k : Known) (w : World) (a x : ℕ) → (k.soiled a ≡ true) ⊎ (touches_events h a ≡ true) → Stands h k w → Stands h k (stored w a x)
  unfolding stored
  stands_stored k w a x may s = search (rules, put_elsewhere, false≢true)
