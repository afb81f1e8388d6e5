-- Behind an event ring that goes, or comes, the run goes on: nothing is unread before the controller is started
use Rattle.safety.proofs.MiddleLaws.{gone, Evt, [], ◌≡◌, ◌+◌, ◌∷◌, ◌∙◌, ℕ, false, List, Some, length, arith, refl, sym, ap, subst, put, All-nil, IsBlock, Block, new_ring, is_bad_free, is_bad_ring, IsComing, with_ring, without_ring, resting, forgotten, Header, Ring, IsHeader, ring_with, World, counted, Known, DriverKeeps, Agrees, Runs, all_read, agrees_once_counted, started_is, another_events_agrees, nothing_posted}
use Rattle.safety.proofs.RingChanges.EventRings as rings

-- ---- nothing is unread

none_of_none : (unread : List Block) → length unread ≡ 0 → unread ≡ []
none_of_none [] none = refl
none_of_none (e ∷ rest) none = absurd (omega (arith, none))

module _ (h : Header) (k : Known) (w : World) (before : k.started ≡ false) (run : Runs h k w) where
  nothing_unread : run.unread ≡ []
  nothing_unread =
      let none : w.posted ≡ 0 = nothing_posted h w run.unread run.agrees.events (started_is h k w run ∙ before) in
      let count : w.posted ≡ w.reads + length run.unread = run.agrees.events.count in
      none_of_none run.unread (omega (arith, none, count))

  agrees_now : Agrees h k [] w
  agrees_now = subst (λ unread. Agrees h (all_read h k unread) unread w) nothing_unread run.agrees

-- ---- an event ring that goes

module _ (h : Header) (is : IsHeader h) (id : ℕ) (e : Ring) (found : ring_with h id ≡ Some e) (kind : e.shape.kind ≡ Evt) where
  pub event_goes_runs : (k : Known) (w : World) → DriverKeeps h k → is_bad_free h k id ≡ false → Runs h k w → Runs (without_ring h id) (gone h k id) (counted h (resting w id))
  unfolding counted without_ring
  event_goes_runs k w d good run =
      let left = rings.left_another h is k d id e found kind good in
      let now : Agrees h k [] w = agrees_now h k w left.before run in
      let g : Header = record h { rings = rings.left_rings h is k d id e found kind good } in
      let l : Known = record k { ring = put k.ring id new_ring; soiled = rings.soiled_now h is k d id e found kind good } in
      let same : gone h k id ≡ l = rings.gone_is h is k d id e found kind good in
      record {
        unread = [];
        possible = tt;
        blocks = All-nil IsBlock;
        on = ap (λ (x : Known). x.stopped) same ∙ run.on;
        agrees = subst (λ x. Agrees g x [] (counted g (resting w id))) (sym same) (agrees_once_counted g l [] (resting w id) (another_events_agrees h g.rings k id l.soiled d left w now));
      }

-- ---- an event ring that comes

module _ (h : Header) (is : IsHeader h) (r : Ring) (coming : IsComing r) (kind : r.shape.kind ≡ Evt) where
  pub event_comes_runs : (k : Known) (w : World) → DriverKeeps h k → is_bad_ring h k r ≡ false → Runs h k w → Runs (with_ring h r) (forgotten k r.id) (counted h (resting w r.id))
  unfolding counted with_ring forgotten
  event_comes_runs k w d good run =
      let more = rings.coming_another h is k d r coming kind good in
      let now : Agrees h k [] w = agrees_now h k w more.before run in
      let f : Header = record h { rings = rings.more_rings h is k d r coming kind good } in
      let l : Known = record k { ring = put k.ring r.id new_ring } in
      record {
        unread = [];
        possible = tt;
        blocks = All-nil IsBlock;
        on = run.on;
        agrees = agrees_once_counted f l [] (resting w r.id) (another_events_agrees h f.rings k r.id k.soiled d more w now);
      }
