-- When a posted event is possible where it will be read, and what reading it adds
use Rattle.safety.proofs.LowerLaws.{profile_alike, [], ◌≡◌, ◌+◌, ◌-◌, ◌≤◌, ◌==◌, ◌&&◌, ◌∷◌, ◌++◌, ◌∙◌, true, false, not, List, All, arith, refl, ap, le-ltb, ltb-false, eq-eqb, cond-false, or_from, not_from_true, Block, All-append, All-cons, All-nil, IsBlock, cycle, kind, is_event, is_transfer_event, cycle_of, Header, Read, event_shape, event_size, World, Known, event_read, learned, lenient, is_in_profile, is_impossible_by_kind, is_past_room, is_impossible, Stands, ArePossible, all_read, lenient_tests, event_tests, rules, clean_tests, EventFacts, event_facts, CanPost, with_reads}

pub learned_read : (h : Header) (k : Known) (b : Block) → learned h k (Read b) ≡ with_reads (event_read h k (kind b) b) (k.reads + 1)
unfolding learned
learned_read h k b = refl

pub event_broken : (h : Header) (k : Known) (b : Block) → k.stopped ≡ false → is_impossible h k b ≡ false → (is_transfer_event (kind b) && not (is_in_profile h k b)) ≡ false → lenient h k (Read b) ≡ []
unfolding lenient lenient_tests event_tests
event_broken h k b on possible in_profile = grind (arith, cond-false)

-- an event of a possible kind that breaks no rule breaks none where what it reads is the same and the dequeue pointer has gone on
pub event_still : (h : Header) (k l : Known) (b : Block) → l.started ≡ k.started → l.stopped ≡ k.stopped → l.reads ≡ k.reads → l.isochronous ≡ k.isochronous → k.dequeue ≤ l.dequeue → lenient h k (Read b) ≡ [] →
    is_impossible_by_kind h l (kind b) b ≡ false → lenient h l (Read b) ≡ []
unfolding is_impossible is_past_room
event_still h k l b on off same isochronous more clean possible =
    let f : EventFacts h k b = event_facts h k b clean in
    event_broken h l b (off ∙ (clean_tests h k (Read b) clean).0)
    (or_from _ _ (or_from _ _ (or_from _ _ (or_from _ _ (not_from_true l.started (on ∙ f.started))
    (le-ltb (event_size h - 2) (l.reads - l.dequeue) (let room = ltb-false (event_size h - 2) (k.reads - k.dequeue) f.room in omega arith)))
    (ap (λ n. not (cycle b == cycle_of (event_shape h) n)) same ∙ f.turn)) f.event) possible) (ap (λ p. is_transfer_event (kind b) && not p) (profile_alike h k l b isochronous) ∙ f.inside)

-- a posted event of a possible kind breaks no rule where it will be read
pub event_clean : (h : Header) (k : Known) (w : World) (b : Block) → Stands h k w → w.posted ≡ k.reads → w.stopped ≡ false → CanPost h w b → w.posted + 2 ≤ w.dequeue + event_size h →
    is_event (kind b) ≡ true → is_impossible_by_kind h k (kind b) b ≡ false → (is_transfer_event (kind b) && not (is_in_profile h k b)) ≡ false → lenient h k (Read b) ≡ []
unfolding is_impossible is_past_room
event_clean h k w b s read on can room event possible in_profile = search (rules, event_broken, or_from, not_from_true, le-ltb, eq-eqb, cycle_of, event_shape)

-- with it at the end, the unread events are possible and lead on
pub possible_more : (h : Header) (unread : List Block) (k : Known) (b : Block) → ArePossible h k unread → lenient h (all_read h k unread) (Read b) ≡ [] → ArePossible h k (unread ++ b ∷ [])
possible_more h [] k b possible none = (none, tt)
possible_more h (e ∷ unread) k b possible none = (possible.0, possible_more h unread (learned h k (Read e)) b possible.1 none)

pub read_more : (h : Header) (unread : List Block) (k : Known) (b : Block) → all_read h k (unread ++ b ∷ []) ≡ learned h (all_read h k unread) (Read b)
read_more h [] k b = refl
read_more h (e ∷ unread) k b = read_more h unread (learned h k (Read e)) b

pub blocks_more : (unread : List Block) (b : Block) → All IsBlock unread → IsBlock b → All IsBlock (unread ++ b ∷ [])
blocks_more unread b blocks block = All-append IsBlock unread (b ∷ []) blocks (All-cons IsBlock b [] block (All-nil IsBlock))
