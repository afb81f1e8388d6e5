use Rattle.certificate.proofs.Laws.{◌∙◌, sym, leases_behind, other_magic, unread_behind}
use Rattle.certificate.proofs.reading.read_certificate.Goals as goal

pub returns-then-names_format-clause-leases : goal.returns-then-names_format-clause-leases
returns-then-names_format-clause-leases g c =
    leases_behind (λ x. x.items) _ _ _ c.read_records.result c.in_ok-count.ensures.bytes (sym c.names_format.ensures ∙ c.if-names_format.true) c.read_records.ensures.leases

pub returns-then-names_format-clause-unread : goal.returns-then-names_format-clause-unread
returns-then-names_format-clause-unread g c =
    unread_behind _ _ _ c.read_records.result c.in_ok-count.ensures.bytes (sym c.names_format.ensures ∙ c.if-names_format.true) c.read_records.ensures.unread

pub returns-in_ok-skip-clause-unread : goal.returns-in_ok-skip-clause-unread
returns-in_ok-skip-clause-unread g c =
    other_magic _ _ c.fill.new.buffer c.in_ok-count.count c.fill.auto.buffer c.in_ok-count.ensures.bound c.in_ok-count.ensures.bytes c.in_ok-count.ensures.end
    (sym c.names_format.ensures ∙ c.if-names_format.false)
