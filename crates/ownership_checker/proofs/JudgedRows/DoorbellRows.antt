-- Which rule a doorbell breaks
use Rattle.ownership_checker.proofs.LowerLaws.{◌≡◌, ℕ, [], ◌∷◌, Bool, true, false, refl, ap, sym, ◌∙◌, if◌then◌else◌, Header, Bell, Known, AfterStop, BadDoorbell, first_of, first_broken, broken_of, older, stricter, broken, lenient_tests, tests, learned, TraceRecord, FollowsTrace, ContextsFit, IsLeast, IsLeastFrom, IsStepFrom, first_broken-is, nothing_broken, doorbell_tests, is_bad_doorbell, contexts_fit}

module _ (h : Header) (k : Known) (on : k.stopped ≡ false) (s t : ℕ) where
  tested : first_of (broken h k (Bell s t)) ≡ first_broken (doorbell_tests h k s t)
  unfolding broken tests lenient_tests older stricter doorbell_tests
  tested = ap (λ x. first_of (if x then AfterStop ∷ [] else broken_of (doorbell_tests h k s t))) on ∙ first_broken-is (doorbell_tests h k s t)

  pub bad_doorbell : is_bad_doorbell h k s t ≡ true → IsLeast h k (Bell s t) BadDoorbell
  unfolding doorbell_tests
  bad_doorbell is = tested ∙ rw is refl

  pub clean_doorbell : is_bad_doorbell h k s t ≡ false → broken h k (Bell s t) ≡ []
  unfolding doorbell_tests
  clean_doorbell is = nothing_broken (broken h k (Bell s t)) (tested ∙ rw is refl)

-- what a test of the doorbell has told
module _ (h : Header) (kept : TraceRecord) (m : ℕ → ℕ) (s t : ℕ) (told : Bool) (exact : (k : Known) → FollowsTrace h k kept m → ContextsFit h k → told ≡ is_bad_doorbell h k s t) where
  pub refused : told ≡ true → IsLeastFrom h kept m (Bell s t) BadDoorbell
  refused bad k f keeps on = bad_doorbell h k on s t (sym (exact k f (contexts_fit h k keeps)) ∙ bad)

  pub step : told ≡ false → (after : TraceRecord) → ((k : Known) → FollowsTrace h k kept m → FollowsTrace h (learned h k (Bell s t)) after m) → IsStepFrom h kept m (Bell s t) after m
  step good after rings k f keeps on = record { clean = clean_doorbell h k on s t (sym (exact k f (contexts_fit h k keeps)) ∙ good); followed = rings k f }
