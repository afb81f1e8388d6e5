-- What enqueue appends, played into memory
use Rattle.cycle_ring.proofs.LowerLaws.{rules, ◌≡◌, ◌<◌, ◌≤◌, ◌++◌, ℕ, nat_le, nat_lt, true, List, length, subst, None, drop-append_seam, Block, fault_of, IsShape, place_count, place_count_pos, Progress, has_room, writes_of, appended, BlocksStand, LinksStand, OthersStay, GivenLast, MayBeDeclared, KeepTheRing, may_be_declared}
use Rattle.cycle_ring.proofs.KeepsTheRing.{keep_the_ring}
use Rattle.cycle_ring.proofs.DescriptorStands.{blocks_stand, links_stand, others_stay, given_last}

-- blocks for which there is room are fewer than the places
pub in_lap : (p : Progress) (n : ℕ) → IsShape p.shape → p.retired ≤ p.enqueued → has_room p n ≡ true → n < place_count p.shape
in_lap p n is_shape in_order room = search (rules, place_count_pos, nat_le, nat_lt)

-- a producer, by its fields and as it is seen; the list before and after; and the writes that were appended
module _ (p seen : Progress) (is_seen : p ≡ seen) (in_order : p.retired ≤ p.enqueued) (blocks : List Block) (old writes new : List (ℕ × ℕ))
    (is_shape : IsShape seen.shape) (room : has_room seen (length blocks) ≡ true)
    (are_writes : writes ≡ writes_of p.shape p.enqueued blocks) (is_new : new ≡ old ++ writes) where
  fewer : length blocks < place_count seen.shape
  fewer = in_lap seen (length blocks) is_shape (subst (λ (q : Progress). q.retired ≤ q.enqueued) is_seen in_order) room

  appended_writes : writes_of seen.shape seen.enqueued blocks ≡ appended old new
  appended_writes = search (rules, drop-append_seam)

  pub appended_blocks : BlocksStand seen.shape seen.enqueued blocks (appended old new)
  appended_blocks = search (rules, appended_writes, blocks_stand, fewer)

  pub appended_links : LinksStand seen.shape seen.enqueued blocks (appended old new)
  appended_links = search (rules, appended_writes, links_stand, fewer)

  pub appended_others : OthersStay seen.shape seen.enqueued blocks (appended old new)
  appended_others = search (rules, appended_writes, others_stay, fewer)

  pub appended_last : GivenLast seen.shape seen.enqueued (appended old new)
  appended_last = search (rules, appended_writes, given_last, fewer)

  -- and where they are a descriptor, they keep the rules of the ring
  module _ (no_fault : fault_of seen.shape.kind blocks ≡ None) where
    seen_in_order : seen.retired ≤ seen.enqueued
    seen_in_order = subst (λ (q : Progress). q.retired ≤ q.enqueued) is_seen in_order

    pub appended_declared : MayBeDeclared seen blocks
    appended_declared = may_be_declared seen blocks is_shape seen_in_order (room, no_fault)

    pub appended_rules : KeepTheRing seen blocks (appended old new)
    appended_rules =
        subst (λ (ws : List (ℕ × ℕ)). KeepTheRing seen blocks ws) appended_writes
        (keep_the_ring seen blocks is_shape seen_in_order fewer (room, no_fault))
