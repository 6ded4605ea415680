use Rattle.std.proofs.Common.{◌≡◌, ◌+◌, ◌≤◌, sym, subst, arith}
use Rattle.std.proofs.lemmas.Result.{on_ok_weaker}
use Rattle.proc_expand.specs.steps.Pens.{IsSmall}
use Rattle.proc_expand.specs.steps.Sources.{param_token}
use Rattle.proc_expand.proofs.OpenBodies.{param_up, param_small, param_within, marks_long, few_source, param_made, same_pen, wrote_made, long_made}
use Rattle.proc_expand.proofs.write.put_param.Goals as goal

pub number_at-number-requires-clause-within : goal.number_at-number-requires-clause-within
number_at-number-requires-clause-within c =
    let ts = c.args.tokens.now.lexemes in let end = c.args.tokens.now.end in
    let m = marks_long ts end c.args.source.now c.requires.source in
    let w = param_within ts end c.args.source.now c.requires.source c.args.call c.args.i c.requires.opened c.requires.param in omega (arith, m, w)

pub number_at-number-requires-clause-small : goal.number_at-number-requires-clause-small
number_at-number-requires-clause-small c =
    let ts = c.args.tokens.now.lexemes in let end = c.args.tokens.now.end in
    λ a j e g. (let z : c.args.call ≡ a = cc in subst (λ b. b.base + j ≤ 1099511627776) z
    (param_up ts end c.args.source.now c.requires.source c.args.call c.args.i j c.requires.opened c.requires.param g))

pub put_name-requires-clause-pen : goal.put_name-requires-clause-pen
put_name-requires-clause-pen c =
    same_pen c.args.tokens.now.lexemes c.args.tokens.now.end c.args.source.now c.requires.source c.args.pen.now c.requires.pen

pub put_name-requires-clause-few : goal.put_name-requires-clause-few
put_name-requires-clause-few c = few_source c.args.tokens.now.lexemes c.args.tokens.now.end c.args.source.now c.requires.source

pub put_name-requires-clause-small : goal.put_name-requires-clause-small
put_name-requires-clause-small c =
    subst IsSmall (sym c.number_at-number.ensures)
    (param_small c.args.tokens.now.lexemes c.args.tokens.now.end c.args.source.now c.requires.source c.args.call c.args.i c.requires.opened c.requires.param)

pub returns-clause-wrote : goal.returns-clause-wrote
returns-clause-wrote c =
    let ts = c.args.tokens.now.lexemes in let end = c.args.tokens.now.end in let s = c.args.source.now in let is = c.requires.source in
    on_ok_weaker c.put_name.result
    (wrote_made ts end s is c.number_at-number.result c.bytes_at.result.now c.pos_at.result
    (param_token ts end c.args.call c.args.i) c.args.pen.now c.put_name.new.pen
    (param_made ts end s is c.args.call c.args.i c.number_at-number.result c.bytes_at.result.now c.pos_at.result c.requires.opened c.requires.param
    c.number_at-number.ensures c.bytes_at.ensures c.pos_at.ensures))
    c.put_name.ensures.wrote

pub returns-clause-grown : goal.returns-clause-grown
returns-clause-grown c =
    let ts = c.args.tokens.now.lexemes in let end = c.args.tokens.now.end in let s = c.args.source.now in let is = c.requires.source in
    λ e. long_made ts end s is c.number_at-number.result c.bytes_at.result.now c.pos_at.result
    (param_token ts end c.args.call c.args.i) c.args.pen.now
    (param_made ts end s is c.args.call c.args.i c.number_at-number.result c.bytes_at.result.now c.pos_at.result c.requires.opened c.requires.param
    c.number_at-number.ensures c.bytes_at.ensures c.pos_at.ensures) (c.put_name.ensures.grown e)

pub overflow_mul-param : goal.overflow_mul-param
overflow_mul-param c =
    let ts = c.args.tokens.now.lexemes in let end = c.args.tokens.now.end in let is = c.requires.source in let f = is.few in
    let w = param_within ts end c.args.source.now is c.args.call c.args.i c.requires.opened c.requires.param in omega (arith, w, f)

pub overflow_add-param-2 : goal.overflow_add-param-2
overflow_add-param-2 c =
    let ts = c.args.tokens.now.lexemes in let end = c.args.tokens.now.end in let is = c.requires.source in let f = is.few in
    let w = param_within ts end c.args.source.now is c.args.call c.args.i c.requires.opened c.requires.param in omega (arith, w, f)
