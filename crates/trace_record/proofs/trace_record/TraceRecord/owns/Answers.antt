use Rattle.trace_record.proofs.Laws.{◌≡◌, ◌∙◌, ℕ, ap, not, sym, subst, Bool, Header, Known, Row, Write, IsOwnedSo, IsPlaced, writes_to_owned, owned_by_version}
use Rattle.trace_record.proofs.OpenAreas.{not_owned}
use Rattle.trace_record.proofs.trace_record.TraceRecord.owns.Goals as goal

owned_at : (h : Header) (k : Known) (row : Row) (at word : ℕ) (owned : Bool) → row ≡ Write at word → owned ≡ writes_to_owned h k at word → IsOwnedSo h k row owned
owned_at h k row at word owned is says = subst (λ (r : Row). IsOwnedSo h k r owned) (sym is) says

pub returns-then-not-is_lenient : goal.returns-then-not-is_lenient
returns-then-not-is_lenient g c = λ headed k f placed.
    let h = c.args.header.now in
    let place = subst (λ (row : Row). IsPlaced h k row c.args.place.now) c.in-Write.is placed in
    let leased = sym (c.is_leased.ensures h k (g.M.WordMemory.words c.args.memory.now) f place.lent) ∙ c.if-is_leased.true in
    owned_at h k c.args.row.now c.in-Write.at c.in-Write.word _ c.in-Write.is
    (ap not c.if-not-is_lenient.true ∙ sym (owned_by_version h k c.in-Write.at c.in-Write.word leased (sym c.is_lenient.ensures ∙ c.if-not-is_lenient.true)))

pub returns-else-not-is_lenient : goal.returns-else-not-is_lenient
returns-else-not-is_lenient g c = λ headed k f placed.
    let h = c.args.header.now in
    let place = subst (λ (row : Row). IsPlaced h k row c.args.place.now) c.in-Write.is placed in
    let leased = sym (c.is_leased.ensures h k (g.M.WordMemory.words c.args.memory.now) f place.lent) ∙ c.if-is_leased.true in
    owned_at h k c.args.row.now c.in-Write.at c.in-Write.word _ c.in-Write.is
    (c.is_disturbed.ensures headed k f place (sym c.is_lenient.ensures ∙ c.if-not-is_lenient.false) leased)

pub returns-else-is_leased : goal.returns-else-is_leased
returns-else-is_leased g c = λ headed k f placed.
    let h = c.args.header.now in
    let place = subst (λ (row : Row). IsPlaced h k row c.args.place.now) c.in-Write.is placed in
    let free = sym (c.is_leased.ensures h k (g.M.WordMemory.words c.args.memory.now) f place.lent) ∙ c.if-is_leased.false in
    owned_at h k c.args.row.now c.in-Write.at c.in-Write.word _ c.in-Write.is (c.if-is_leased.false ∙ sym (not_owned h k c.in-Write.at c.in-Write.word free))
