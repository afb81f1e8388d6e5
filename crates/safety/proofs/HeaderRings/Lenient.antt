-- What breaks no rule of the trace's version breaks no lenient rule
use Rattle.safety.proofs.Words.{[], ◌≡◌, ◌||◌, ◌∷◌, ◌∙◌, Bool, true, false, List, map, refl, sym, inl, inr, stricter, broken, tests, cases_Bool, cond-true, cond-false, Header, Row, Known, Refusal, AfterStop, Test, broken_of, lenient_tests, lenient}

-- tests that refuse besides: where they refuse nothing, neither do those that they are made of
fewer : (more : Refusal → Bool) (ts : List Test) → broken_of (map (λ t. (t.0, more t.0 || t.1)) ts) ≡ [] → broken_of ts ≡ []
fewer more [] clean = refl
fewer more ((c, b) ∷ ts) clean = by (more c) b (fewer more ts) clean
  where
    by : (m b : Bool) → (broken_of (map (λ t. (t.0, more t.0 || t.1)) ts) ≡ [] → broken_of ts ≡ []) → broken_of ((c, m || b) ∷ map (λ t. (t.0, more t.0 || t.1)) ts) ≡ [] →
        broken_of ((c, b) ∷ ts) ≡ []
    by true b rest clean = cc clean
    by false true rest clean = cc clean
    by false false rest clean = rest clean

pub some_none : (c : Refusal) (cs : List Refusal) → c ∷ cs ≡ [] → ⊥
some_none c cs e = cc

module _ (h : Header) where
  pub lenient_row : (k : Known) (row : Row) → broken h k row ≡ [] → lenient h k row ≡ []
  unfolding broken lenient tests
  lenient_row k row clean =
      elim (cases_Bool k.stopped) [
        | inl stopped ↦ absurd (some_none AfterStop [] (sym (cond-true k.stopped (AfterStop ∷ []) (broken_of (tests h k row)) stopped) ∙ clean))
        | inr on ↦
            cond-false k.stopped (AfterStop ∷ []) (broken_of (lenient_tests h k row)) on
            ∙ fewer (stricter h k row) (lenient_tests h k row) (sym (cond-false k.stopped (AfterStop ∷ []) (broken_of (tests h k row)) on) ∙ clean)
      ]
