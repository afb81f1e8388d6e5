use Rattle.ring_knowledge.proofs.Laws.{rules, not, list_any, range_with_len, contains, nat_cmp, eq-eqb, ne_eqb, descriptor_length, any_same_from, kept_from, length_is}
use Rattle.ring_knowledge.proofs.ring_record.RingRecord.may_withdraw.Goals as goal

pub returns-then-count-ne0 : goal.returns-then-count-ne0
returns-then-count-ne0 c = search (rules, descriptor_length, kept_from, length_is, ne_eqb, not, any_same_from, contains, nat_cmp, list_any, range_with_len)

pub returns-else-count-ne0 : goal.returns-else-count-ne0
returns-else-count-ne0 c = search (rules, descriptor_length, kept_from, length_is, eq-eqb, not, list_any, range_with_len)
