use Rattle.controller_model.proofs.Laws.{◌∙◌, sym, refl, harm_is}
use Rattle.controller_model.proofs.safety.harm_of.Goals as goal

pub returns-then-posts_over_unread : goal.returns-then-posts_over_unread
returns-then-posts_over_unread c = λ words w f x.
    sym (harm_is c.args.header.now w (sym x.order ∙ c.if-rings.false) (sym x.words ∙ c.if-rings-2.false) (sym x.waiting ∙ c.if-rings-3.false) (f.looked ∙ c.if-kept.false)
    (sym (c.posts_over_unread.ensures words w f) ∙ c.if-posts_over_unread.true) refl)

pub returns-then-has_changed_context : goal.returns-then-has_changed_context
returns-then-has_changed_context c = λ words w f x.
    sym (harm_is c.args.header.now w (sym x.order ∙ c.if-rings.false) (sym x.words ∙ c.if-rings-2.false) (sym x.waiting ∙ c.if-rings-3.false) (f.looked ∙ c.if-kept.false)
    (sym (c.posts_over_unread.ensures words w f) ∙ c.if-posts_over_unread.false) (sym (c.has_changed_context.ensures words w f) ∙ c.if-has_changed_context.true))

pub returns : goal.returns
returns c = λ words w f x.
    sym (harm_is c.args.header.now w (sym x.order ∙ c.if-rings.false) (sym x.words ∙ c.if-rings-2.false) (sym x.waiting ∙ c.if-rings-3.false) (f.looked ∙ c.if-kept.false)
    (sym (c.posts_over_unread.ensures words w f) ∙ c.if-posts_over_unread.false) (sym (c.has_changed_context.ensures words w f) ∙ c.if-has_changed_context.false))
