-- Which event position a written ERDP names in the model
use Rattle.controller_model.proofs.Words.{◌≡◌, ℕ, true, false, None, ap, sym, cond-true, cond-false, is_event_place, position_from, Header, event_ring, event_shape, shape_or, Evt, World, with_dequeue}

module _ (h : Header) (w : World) (a : ℕ) where
  pub dequeue_kept : is_event_place (event_shape h) a ≡ false → with_dequeue h w a ≡ w
  unfolding with_dequeue
  dequeue_kept e = cond-false (is_event_place (event_shape h) a) _ w e

  pub dequeue_set : is_event_place (event_shape h) a ≡ true → with_dequeue h w a ≡ record w { dequeue = position_from (event_shape h) w.dequeue a }
  unfolding with_dequeue
  dequeue_set e = cond-true (is_event_place (event_shape h) a) _ w e

  pub no_ring_place : None ≡ event_ring h → is_event_place (event_shape h) a ≡ false
  unfolding event_shape
  no_ring_place none = ap (λ o. is_event_place (shape_or Evt o) a) (sym none)
