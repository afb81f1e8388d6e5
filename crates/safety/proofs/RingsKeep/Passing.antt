-- What is free of a ring, and how far the controller may pass it, from one change to the next
use Rattle.safety.proofs.Words.{◌≡◌, ◌<◌, ◌∙◌, ℕ, true, Option, None, Some, arith, sym, ap, false≢true, floor_number, ceiling, ceiling_held, ceiling_within, IsRestored, IsShownTo, Shape, IsShape, RingView, RingKeeps, PassesNoMore, rules}

pub passes_same : (shape : Shape) (v : RingView) → PassesNoMore shape v v
passes_same shape v p free = (free, λ below. below)

pub passes_both : (shape : Shape) (u v w : RingView) → PassesNoMore shape u v → PassesNoMore shape v w → PassesNoMore shape u w
passes_both shape u v w first second p free = search rules

-- nothing is free
pub passes_restored : (shape : Shape) (v w : RingView) → IsRestored w → PassesNoMore shape v w
passes_restored shape v w none p free = absurd (false≢true (sym (none p) ∙ free))

-- the ring is held at a number below which what is free shows its cycle
pub passes_at : (shape : Shape) (v w : RingView) (n : ℕ) → w.free ≡ v.free → w.held ≡ Some n → IsShownTo shape v n → PassesNoMore shape v w
passes_at shape v w n same at shown p free = search (rules, v.free, true, ceiling_held)

-- the ring is held where it was, or open
pub passes_held : (shape : Shape) (memory : ℕ → ℕ) (v w : RingView) → RingKeeps shape memory v → w.free ≡ v.free → w.held ≡ v.held → PassesNoMore shape v w
passes_held shape memory v w keeps same held p free = by v.held held
  where
    before : v.free p ≡ true
    before = ap (λ f. f p) (sym same) ∙ free

    by : (o : Option ℕ) → w.held ≡ o → (v.free p ≡ true) × (p < ceiling shape w → p < ceiling shape v)
    by None at = absurd (false≢true (sym (keeps.open_restored (sym held ∙ at) p) ∙ before))
    by (Some m) at = (before, λ below. omega (arith, below, ceiling_held shape w m at, ceiling_held shape v m (sym held ∙ at)))

-- behind such changes the floor has passed nothing free that doesn't show its cycle
pub passes_shown : (shape : Shape) → IsShape shape → (memory : ℕ → ℕ) (v w : RingView) → w.free ≡ v.free → RingKeeps shape memory w → PassesNoMore shape v w → IsShownTo shape v (floor_number w)
passes_shown shape is memory v w same keeps passes p free below =
    (passes p (ap (λ f. f p) same ∙ free)).1 (omega (arith, below, (ceiling_within shape is memory w keeps).0))
