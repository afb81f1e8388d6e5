use Rattle.std.proofs.lemmas.Iterator.{first_from_Range}
use Rattle.ring_knowledge.proofs.Laws.{◌≡◌, ◌≤◌, ◌∙◌, ℕ, true, false, arith, rules, ap, number, option_map, Data, floor_number, data_at, has_value, data_named}
use Rattle.ring_knowledge.proofs.ring_record.RingRecord.named_data.Goals as goal

pub returns-clause-value : goal.returns-clause-value
returns-clause-value c = λ shape v known.
    let test = λ (p : ℕ). has_value c.args.value (data_at v.queue p) in
    let mapped : c.map.result ≡ option_map Data c.find.result = search rules in
    mapped ∙ data_named v c.args.value _ _ c.find.result (omega (arith, c.number.ensures, ap number known.marks.floor)) (omega (arith, c.end.ensures.value, known.marks.count))
    (first_from_Range _ _ _ c.find.result (λ p. floor_number v ≤ p → test p ≡ true) (λ p. floor_number v ≤ p → test p ≡ false) c.find.ensures.ran
    (λ x q k. grind (arith, known)) (λ x q k. (search rules, grind (arith, known))))
