-- The lazy schedule has brought each ring that an endpoint has to its floor behind each row
use Rattle.replayer.proofs.Words.{arith, ◌≡◌, ◌∷◌, ◌++◌, ◌∙◌, List, [], All, ap, append-nil, append_assoc, refl, reverse, subst, sym, Header, NextRow, Step, Row, IsHeader, AreKept, IsRow, header_now, known_now, IsTimely, lazy_run, lazy_steps, one_more, pointers_at, steps_for, reverse-append, reverse-reverse, lazy_law, StandsAtFloors}
use Rattle.traces.specs.AllowedHeaders.{AreUnmoved}

module _ (h : Header) where
  -- the lazy run of more rows goes on where that of fewer ended
  record GoesOn (later past tail : List Row) : Type 0 where
    then : List Step
    same : lazy_run h (reverse later ++ past) tail ≡ then ++ lazy_run h past (later ++ tail)

  goes_on : (later past tail : List Row) → GoesOn later past tail
  unfolding lazy_run
  goes_on [] past tail = record { then = []; same = refl }
  goes_on (row ∷ rest) past tail =
      let on = goes_on rest (row ∷ past) tail in
      let step : List Step = NextRow ∷ reverse (steps_for (header_now h past) (known_now h past) (pointers_at h past (row ∷ rest ++ tail)) row (rest ++ tail)) in
      record {
        then = on.then ++ step;
        same = ap (λ rows. lazy_run h rows tail) (one_more row rest past) ∙ on.same ∙ sym (append_assoc on.then step (lazy_run h past (row ∷ rest ++ tail)));
      }

  -- its steps up to a row, and the others
  parts : (past later : List Row) (on : GoesOn later past []) → lazy_steps h (reverse past ++ later) ≡ reverse (lazy_run h past later) ++ reverse on.then
  unfolding lazy_steps
  parts past later on = grind (arith, reverse, reverse-append, reverse-reverse, lazy_run, append-nil)

  pub stands_at_floors : (rows : List Row) → IsHeader h → AreUnmoved h.rings → All IsRow rows → AreKept h (reverse rows) → IsTimely h (reverse rows) → StandsAtFloors h rows (lazy_steps h rows)
  stands_at_floors rows is unmoved fits kept timely past later same =
      let turned : reverse rows ≡ reverse later ++ past = ap reverse same ∙ reverse-append (reverse past) later ∙ ap (λ l. reverse later ++ l) (reverse-reverse past) in
      let goes = lazy_law h past later is unmoved (subst (All IsRow) same fits) (subst (AreKept h) turned kept) (subst (IsTimely h) turned timely) in
      let on = goes_on later past [] in
      record {
        made = lazy_run h past later;
        rest = reverse on.then;
        parts = ap (lazy_steps h) same ∙ parts past later on;
        scene = goes.scene;
        run = goes.run;
        live = goes.live;
        left = goes.left;
        floors = goes.floors;
      }
