-- No access of memory or registers makes anything free, and none restores anything
use Rattle.safety.proofs.Words.{register_read, status_read, ◌≡◌, ◌∙◌, ℕ, List, refl, sym, ap, Block, Declares, Opens, Header, Row, command_id, Known, on_ring, with_device, with_word, written, run_or_stop, valued, register_written, endpoint_rung, rung, learned, kind, arith, runs_again, runs_once}
use Rattle.safety.proofs.Rows.SameDriver.{view_after, on_ring_same, event_same}

abbrev pub SameFree : Known → Known → Type 0
SameFree k l = (r : ℕ) → (l.ring r).free ≡ (k.ring r).free

module _ (h : Header) where
  pub declared_free : (k : Known) (r : ℕ) (blocks : List Block) → SameFree k (on_ring h k r (Declares blocks))
  declared_free k r blocks q = view_after h (λ v. v.free ≡ (k.ring q).free) k r (Declares blocks) q (λ same. ap (λ n. (k.ring n).free) (sym same)) (λ other. refl)

  pub opened_free : (k : Known) (r : ℕ) → SameFree k (on_ring h k r Opens)
  opened_free k r q = ((on_ring_same h k r Opens tt).rings q).free

  written_free : (k : Known) (a w : ℕ) → SameFree k (written h k a w)
  unfolding written with_word with_device
  written_free k a w r = (grind arith) ∙ refl

  -- what is free stays so, and nothing more is
  pub free_same : (k : Known) (row : Row) → SameFree k (learned h k row)
  unfolding learned register_written valued run_or_stop runs_once runs_again register_read status_read rung endpoint_rung
  free_same k o = grind (arith, declared_free, written_free, valued, on_ring, command_id, endpoint_rung, opened_free, event_same, kind)
