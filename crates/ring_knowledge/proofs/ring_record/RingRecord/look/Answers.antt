use Rattle.ring_knowledge.proofs.Laws.{◌≡◌, ◌∙◌, rules, false, ap, sym, get_or, number, option_map, place_at, arith, Position, Crossing, positions_of, crossings_of, found, no_crossing_of_data, no_position_of_link, no_position_elsewhere, no_crossing_elsewhere, positions_none, positions_marked, positions_found, crossings_none, crossings_marked, crossings_found, no_crossing_named, no_position_named, owned_data, unowned_data, owned_link, owned_nowhere}
use Rattle.ring_knowledge.proofs.ring_record.RingRecord.look.Goals as goal

-- ---- a word of a data place

pub returns-then-is_marked : goal.returns-then-is_marked
returns-then-is_marked c =
    let at = found c.args.shape.now _ _ _ _ c.get.ensures.same c.in-Some-Data.ensures.value c.in-Some-Data.field-0-is in
    let mark = ap (λ marks. get_or marks c.in-Some-Data.place false) (sym c.deref.ensures.value) ∙ sym c.is_marked.ensures ∙ c.if-is_marked.true in
    record {
      lent = λ v known. owned_data _ v _ known.marks c.args.at c.get.ensures.aligned c.in-Some-Data.place c.in-Some-Data.index _ at mark (λ p due. c.is_kept.ensures p (omega (arith, ap number known.marks.floor, due.from)) (omega (arith, ap number known.marks.floor, due.within)) due.place_is);
      positions = λ v known. positions_marked _ v _ known.marks c.args.at c.args.word c.in-Some-Data.place c.in-Some-Data.index at mark;
      crossings = λ v known. crossings_none _ v _ known.marks c.args.at c.args.word (no_crossing_of_data c.args.shape.now known.marks.allowed c.args.self.now.floor c.args.at c.args.word c.in-Some-Data.place c.in-Some-Data.index at);
    }

pub returns-else-is_marked : goal.returns-else-is_marked
returns-else-is_marked c =
    let at = found c.args.shape.now _ _ _ _ c.get.ensures.same c.in-Some-Data.ensures.value c.in-Some-Data.field-0-is in
    let mark = ap (λ marks. get_or marks c.in-Some-Data.place false) (sym c.deref.ensures.value) ∙ sym c.is_marked.ensures ∙ c.if-is_marked.false in
    let mapped : c.map.result ≡ option_map Position c.position_by-position.result = search rules in
    record {
      lent = λ v known. unowned_data _ v _ known.marks c.args.at c.get.ensures.aligned c.in-Some-Data.place c.in-Some-Data.index at mark;
      positions = λ v known.
          positions_found _ v _ known.marks c.args.at c.args.word c.in-Some-Data.place c.position_by-position.result mark c.position_by-position.ensures.gives c.position_by-position.ensures.due
          ∙ sym (ap positions_of mapped);
      crossings = λ v known.
          crossings_none _ v _ known.marks c.args.at c.args.word (no_crossing_of_data c.args.shape.now known.marks.allowed c.args.self.now.floor c.args.at c.args.word c.in-Some-Data.place c.in-Some-Data.index at)
          ∙ no_crossing_named c.position_by-position.result ∙ sym (ap crossings_of mapped);
    }

-- ---- a word of a Link

pub returns-then-is_marked-2 : goal.returns-then-is_marked-2
returns-then-is_marked-2 c =
    let at = found c.args.shape.now _ _ _ _ c.get.ensures.same c.in-Some-Link.ensures.value c.in-Some-Link.field-0-is in
    let mark = ap (λ marks. get_or marks c.in-Some-Link.segment false) (sym c.deref-in-Some-Link.ensures.value) ∙ sym c.is_marked-in-Some-Link.ensures ∙ c.if-is_marked-2.true in
    record {
      lent = λ v known. sym mark ∙ owned_link _ v _ known.marks c.args.at c.get.ensures.aligned c.in-Some-Link.segment c.in-Some-Link.index at;
      positions = λ v known. positions_none _ v _ known.marks c.args.at c.args.word (no_position_of_link c.args.shape.now known.marks.allowed c.args.self.now.floor c.args.at c.args.word c.in-Some-Link.segment c.in-Some-Link.index at);
      crossings = λ v known. crossings_marked _ v _ known.marks c.args.at c.args.word c.in-Some-Link.segment c.in-Some-Link.index at mark;
    }

pub returns-else-is_marked-2 : goal.returns-else-is_marked-2
returns-else-is_marked-2 c =
    let at = found c.args.shape.now _ _ _ _ c.get.ensures.same c.in-Some-Link.ensures.value c.in-Some-Link.field-0-is in
    let mark = ap (λ marks. get_or marks c.in-Some-Link.segment false) (sym c.deref-in-Some-Link.ensures.value) ∙ sym c.is_marked-in-Some-Link.ensures ∙ c.if-is_marked-2.false in
    let mapped : c.map-in-Some-Link.result ≡ option_map Crossing c.crossing_by-crossing.result = search rules in
    record {
      lent = λ v known. sym mark ∙ owned_link _ v _ known.marks c.args.at c.get.ensures.aligned c.in-Some-Link.segment c.in-Some-Link.index at;
      positions = λ v known.
          positions_none _ v _ known.marks c.args.at c.args.word (no_position_of_link c.args.shape.now known.marks.allowed c.args.self.now.floor c.args.at c.args.word c.in-Some-Link.segment c.in-Some-Link.index at)
          ∙ no_position_named c.crossing_by-crossing.result ∙ sym (ap positions_of mapped);
      crossings = λ v known.
          crossings_found _ v _ known.marks c.args.at c.args.word c.in-Some-Link.segment c.crossing_by-crossing.result mark c.crossing_by-crossing.ensures.gives c.crossing_by-crossing.ensures.due
          ∙ sym (ap crossings_of mapped);
    }

-- ---- elsewhere

pub returns-in-None : goal.returns-in-None
returns-in-None c =
    let at = ap (λ m. place_at c.args.shape.now m) (sym c.get.ensures.same) ∙ sym c.in-None.ensures.value in
    record {
      lent = λ v known. owned_nowhere _ v _ known.marks c.args.at c.get.ensures.aligned at;
      positions = λ v known. positions_none _ v _ known.marks c.args.at c.args.word (no_position_elsewhere c.args.shape.now known.marks.allowed c.args.self.now.floor c.args.at c.args.word at);
      crossings = λ v known. crossings_none _ v _ known.marks c.args.at c.args.word (no_crossing_elsewhere c.args.shape.now known.marks.allowed c.args.self.now.floor c.args.at c.args.word at);
    }
