-- An event of the controller itself is posted: the run goes on
use Rattle.safety.proofs.MiddleLaws.{[], ◌≡◌, ◌+◌, ◌||◌, ◌∷◌, ◌++◌, ◌∙◌, true, false, not, List, Some, sym, ap, subst, false≢true, and_parts, and_left, or_right, cond_some, Block, BlockKind, IsBlock, kind, is_transfer_event, is_command_completion, is_other_event, Header, Read, IsHeader, World, can_post, posted, other_posted, counted, Known, event_read, learned, is_in_profile, is_impossible_by_kind, DriverKeeps, Agrees, Runs, all_read, rules, arith, agrees_counted, with_reads, stands_with_reads, matches_with_reads, post_keeps, learned_read, event_clean, runs_more}

-- what such an event says
pub record SaysNothing (h : Header) (k : Known) (b : Block) (t : BlockKind) : Type 0 where
  pub read : event_read h k t b ≡ k
  pub possible : is_impossible_by_kind h k t b ≡ false
  pub no_transfer : is_transfer_event t ≡ false

pub says_nothing : (h : Header) (k : Known) (b : Block) (t : BlockKind) → is_other_event t ≡ true → SaysNothing h k b t
unfolding event_read is_impossible_by_kind
says_nothing h k b o other = grind (arith, false≢true)

posted_is : (h : Header) (w v : World) (b : Block) → other_posted h w b ≡ Some v → (can_post h w b ≡ true) × (is_other_event (kind b) ≡ true) × (posted h w b ≡ v)
unfolding other_posted
posted_is h w v b at = search (rules, cond_some, can_post, is_other_event, kind, posted, and_parts)

module _ (h : Header) (is : IsHeader h) (k : Known) (unread : List Block) (w : World) (b : Block) (block : IsBlock b) (d : DriverKeeps h k) (g : Agrees h k unread w) (can : can_post h w b ≡ true) (silent : event_read h k (kind b) b ≡ k) where
  learned_same : learned h k (Read b) ≡ with_reads k (k.reads + 1)
  learned_same = learned_read h k b ∙ ap (λ m. with_reads m (k.reads + 1)) silent

  agrees_other : Agrees h (with_reads k (k.reads + 1)) (unread ++ b ∷ []) (counted h (posted h w b))
  agrees_other =
      let p = post_keeps h is k unread w b block d g can in
      agrees_counted h (with_reads k (k.reads + 1)) (unread ++ b ∷ []) (posted h w b) (stands_with_reads h (k.reads + 1) k (posted h w b) p.stands) p.events (matches_with_reads h (k.reads + 1) k (posted h w b) p.matches) p.posted_is p.late

-- an event that changes nothing of what is known is posted
pub silent_agrees : (h : Header) → IsHeader h → (k : Known) (unread : List Block) (w v : World) (b : Block) → IsBlock b → DriverKeeps h k → Agrees h k unread w → can_post h w b ≡ true →
    event_read h k (kind b) b ≡ k → posted h w b ≡ v → Agrees h (learned h k (Read b)) (unread ++ b ∷ []) (counted h v)
silent_agrees h is k unread w v b block d g can silent at =
    subst (λ m. Agrees h m (unread ++ b ∷ []) (counted h v)) (sym (learned_same h is k unread w b block d g can silent))
    (subst (λ u. Agrees h (with_reads k (k.reads + 1)) (unread ++ b ∷ []) (counted h u)) at (agrees_other h is k unread w b block d g can silent))

-- the run goes on behind the post
pub other_runs : (h : Header) → IsHeader h → (now : Known) (w v : World) (b : Block) → IsBlock b → w.stopped ≡ false → (r : Runs h now w) →
    DriverKeeps h (all_read h now r.unread) → other_posted h w b ≡ Some v → Runs h now (counted h v)
other_runs h is now w v b block running r d at =
    let k : Known = all_read h now r.unread in
    let p = posted_is h w v b at in
    let s = says_nothing h k b (kind b) p.1 in
    let keeps = post_keeps h is k r.unread w b block d r.agrees p.0 in
    let none = event_clean h k w b r.agrees.stands r.agrees.read running keeps.can keeps.room
    (or_right (is_transfer_event (kind b) || is_command_completion (kind b)) (is_other_event (kind b)) p.1) s.possible
    (and_left (is_transfer_event (kind b)) (not (is_in_profile h k b)) s.no_transfer) in
    runs_more h now w v b block r
    (record {
      clean = none;
      agrees = silent_agrees h is k r.unread w v b block d r.agrees p.0 s.read p.2;
    })
