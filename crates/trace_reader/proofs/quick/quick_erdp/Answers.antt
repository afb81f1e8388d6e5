use Rattle.trace_reader.proofs.Laws.{if_is, register_says}
use Rattle.trace_reader.proofs.Words.{◌≡◌, ◌∷◌, ◌++◌, ◌∙◌, [], codes, arith, rules, sym, Erdp, Reg, SaysAlone, register_name}
use Rattle.trace_reader.proofs.quick.quick_erdp.Goals as goal

pub returns : goal.returns
returns c =
    let field = c.in_ok-strip_prefix.field-0.now in
    let whole : c.args.content.now ≡ (codes "reg " ++ register_name Erdp ++ 32 ∷ []) ++ field = search rules in
    if_is (λ value. SaysAlone (Reg Erdp value) c.args.content.now) c.register_value_of.result
    (λ value is. register_says c.args.content.now field Erdp value (omega (arith, c.requires)) whole (sym c.register_value_of.ensures ∙ is))
