-- Behind a post: the event lies behind the unread ones, and nothing else that the driver or the controller did has changed
use Rattle.safety.proofs.LowerLaws.{[], ◌≡◌, ◌+◌, ◌<◌, ◌≤◌, ◌⊎◌, ◌∷◌, ◌++◌, ◌∙◌, ℕ, suc, zero, true, List, length, Some, slice_get, arith, refl, ap, inl, inr, length-append, rules, same_Some, none-some, Block, IsBlock, block_at, place_count, address_of, shape_facts, posted_in_order, Header, IsHeader, event_shape, event_size, World, stored_block, can_post, posted, Known, AreInOrder, DriverKeeps, Stands, EventsStand, Matches, Agrees, stored, EventRing, event_ring_is, same_block_at, Late, CanPost, can_post_is, size_is, places_apart, block_elsewhere, block_here, stands_block, late_block, matches_block}
use Rattle.world_state.specs.World.{event_at}

-- an element of a list with one more: of the list, or the new one
more_at : {X : Type 0} (xs : List X) (y : X) (i : ℕ) (e : X) → slice_get (xs ++ y ∷ []) i ≡ Some e → ((i < length xs) × (slice_get xs i ≡ Some e)) ⊎ ((i ≡ length xs) × (y ≡ e))
more_at [] y zero e at = inr (refl, same_Some y e at)
more_at [] y (suc i) e at = absurd (none-some e at)
more_at (x ∷ xs) y zero e at = inl (omega arith, at)
more_at (x ∷ xs) y (suc i) e at =
    elim (more_at xs y i e at) [ inl old ↦ inl (omega (arith, old.0), old.1) | inr new ↦ inr (omega (arith, new.0), new.1) ]

module _ (h : Header) (e : EventRing h) (w : World) (b : Block) where
  posted_elsewhere : (q : ℕ) → q < w.posted → w.posted < q + place_count (event_shape h) →
      block_at (stored_block w (address_of (event_shape h) w.posted) b).memory (address_of (event_shape h) q) ≡ block_at w.memory (address_of (event_shape h) q)
  posted_elsewhere q less near =
      let a : ℕ = address_of (event_shape h) q in
      same_block_at (stored_block w (address_of (event_shape h) w.posted) b).memory w.memory a
      (block_elsewhere w _ a b (λ j l same. places_apart h e q w.posted 0 j less near (omega arith) l (add_none a ∙ same)))
      (block_elsewhere w _ (a + 4) b (λ j l same. places_apart h e q w.posted 4 j less near (omega arith) l same))
      (block_elsewhere w _ (a + 8) b (λ j l same. places_apart h e q w.posted 8 j less near (omega arith) l same))
      (block_elsewhere w _ (a + 12) b (λ j l same. places_apart h e q w.posted 12 j less near (omega arith) l same))
    where
      add_none : (a : ℕ) → a + 0 ≡ a
      add_none a = omega arith

  event_before : (q : ℕ) → q < w.posted → w.posted < q + place_count (event_shape h) → event_at h (posted h w b) q ≡ event_at h w q
  unfolding posted event_at
  event_before q less near = posted_elsewhere q less near

  event_new : IsBlock b → event_at h (posted h w b) w.posted ≡ b
  unfolding posted event_at
  event_new is = block_here w (address_of (event_shape h) w.posted) b is

-- what a post keeps and adds
pub record PostKeeps (h : Header) (k : Known) (unread : List Block) (w : World) (b : Block) : Type 0 where
  pub stands : Stands h k (posted h w b)
  pub events : EventsStand h (posted h w b) (unread ++ b ∷ [])
  pub matches : Matches h k (posted h w b)
  pub late : Late (posted h w b)
  pub posted_is : (posted h w b).posted ≡ k.reads + 1
  pub can : CanPost h w b
  -- there was room for one more
  pub room : w.posted + 2 ≤ w.dequeue + event_size h

module _ (h : Header) (k : Known) (unread : List Block) (w : World) (b : Block) (e : EventRing h) (d : DriverKeeps h k) (g : Agrees h k unread w) (can : CanPost h w b) where
  after_posted : AreInOrder (event_size h) (record { posted = w.posted + 1; reads = w.reads; dequeue = w.dequeue })
  after_posted =
      let several = (shape_facts (event_shape h) e.is).several in
      posted_in_order (event_size h) (record { posted = w.posted; reads = w.reads; dequeue = w.dequeue }) (omega (arith, size_is h)) can.room g.events.order

  events_posted : IsBlock b → EventsStand h (posted h w b) (unread ++ b ∷ [])
  unfolding posted stored_block stored
  events_posted is = record {
    order = after_posted;
    count = omega (arith, g.events.count, length-append unread (b ∷ []));
    places = λ i f at. elim (more_at unread b i f at) [
      | inl old ↦
          event_before h e w b (w.reads + i) (omega (arith, g.events.count, old.0)) (omega (arith, g.events.order.dequeued, size_is h)) ∙ g.events.places i f old.1
      | inr new ↦ ap (λ q. event_at h (posted h w b) q) (index i new.0) ∙ event_new h e w b is ∙ new.1
    ];
    started = λ some. can.started;
    ring = λ some. can.size;
  }
    where
      index : (i : ℕ) → i ≡ length unread → w.reads + i ≡ w.posted
      index i at = omega (arith, g.events.count)

  late_posted : Late (posted h w b)
  unfolding posted
  late_posted = late_block h e k d w w.posted b (λ a. omega (arith, g.stamps a))

  matches_posted : Matches h k (posted h w b)
  unfolding posted
  matches_posted =
      let m = matches_block h e k d w w.posted b (λ a. omega (arith, g.stamps a)) g.matches in
      search rules

  keeps_at : IsBlock b → PostKeeps h k unread w b
  unfolding posted
  keeps_at is = search (rules, stands_block, w.posted, g.stands, events_posted, matches_posted, late_posted, g.read, after_posted)

-- a post that is possible keeps all that was known of the controller, with its event as the last unread one
pub post_keeps : (h : Header) → IsHeader h → (k : Known) (unread : List Block) (w : World) (b : Block) → IsBlock b → DriverKeeps h k → Agrees h k unread w →
    can_post h w b ≡ true → PostKeeps h k unread w b
post_keeps h is k unread w b block d g can =
    let may = can_post_is h w b can in
    keeps_at h k unread w b (event_ring_is h is may.size) d g may block
