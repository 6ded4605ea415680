use Rattle.std.proofs.Common.{sym, subst, arith}
use Rattle.std.proofs.lemmas.Result.{on_ok_weaker}
use Rattle.proc_expand.specs.Written.{token_at}
use Rattle.proc_expand.specs.steps.Frames.{names_in}
use Rattle.proc_expand.specs.steps.Pens.{IsSmall}
use Rattle.proc_expand.proofs.OpenBodies.{number_up, small_number, marks_long, few_source, name_token, same_pen, wrote_made, long_made}
use Rattle.proc_expand.proofs.write.put_token.Goals as goal

pub number_at-number-requires-clause-within : goal.number_at-number-requires-clause-within
number_at-number-requires-clause-within c =
    let ts = c.args.tokens.now.lexemes in let end = c.args.tokens.now.end in
    let m = marks_long ts end c.args.source.now c.requires.source in let w = c.requires.stands in let l = w.within in omega (arith, m, l)

pub number_at-number-requires-clause-small : goal.number_at-number-requires-clause-small
number_at-number-requires-clause-small c =
    let ts = c.args.tokens.now.lexemes in let end = c.args.tokens.now.end in
    λ a i e g. number_up ts end c.args.source.now c.requires.source c.args.call c.args.place i a c.requires.stands e g

pub put_name-requires-clause-pen : goal.put_name-requires-clause-pen
put_name-requires-clause-pen c =
    same_pen c.args.tokens.now.lexemes c.args.tokens.now.end c.args.source.now c.requires.source c.args.pen.now c.requires.pen

pub put_name-requires-clause-few : goal.put_name-requires-clause-few
put_name-requires-clause-few c = few_source c.args.tokens.now.lexemes c.args.tokens.now.end c.args.source.now c.requires.source

pub put_name-requires-clause-small : goal.put_name-requires-clause-small
put_name-requires-clause-small c =
    subst IsSmall (sym c.number_at-number.ensures)
    (small_number c.args.tokens.now.lexemes c.args.tokens.now.end c.args.source.now c.requires.source c.args.call c.args.place c.requires.stands)

pub returns-clause-wrote : goal.returns-clause-wrote
returns-clause-wrote c =
    let ts = c.args.tokens.now.lexemes in let end = c.args.tokens.now.end in let s = c.args.source.now in let is = c.requires.source in
    on_ok_weaker c.put_name.result
    (wrote_made ts end s is c.number_at-number.result c.bytes_at.result.now c.pos_at.result
    (token_at ts end (names_in ts end c.args.call) c.args.place) c.args.pen.now c.put_name.new.pen
    (name_token ts end s is c.args.call c.args.place c.number_at-number.result c.bytes_at.result.now c.pos_at.result c.requires.stands
    c.number_at-number.ensures c.bytes_at.ensures c.pos_at.ensures))
    c.put_name.ensures.wrote

pub returns-clause-grown : goal.returns-clause-grown
returns-clause-grown c =
    let ts = c.args.tokens.now.lexemes in let end = c.args.tokens.now.end in let s = c.args.source.now in let is = c.requires.source in
    λ e. long_made ts end s is c.number_at-number.result c.bytes_at.result.now c.pos_at.result
    (token_at ts end (names_in ts end c.args.call) c.args.place) c.args.pen.now
    (name_token ts end s is c.args.call c.args.place c.number_at-number.result c.bytes_at.result.now c.pos_at.result c.requires.stands
    c.number_at-number.ensures c.bytes_at.ensures c.pos_at.ensures) (c.put_name.ensures.grown e)
