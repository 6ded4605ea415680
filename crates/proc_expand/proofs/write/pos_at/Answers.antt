use Rattle.std.proofs.Common.{◌∙◌, arith}
use Rattle.jade_lexer.specs.Lexemes.{token_of}
use Rattle.proc_expand.proofs.OpenBodies.{pos_got, no_pos}
use Rattle.proc_expand.proofs.write.pos_at.Goals as goal

pub returns-then-place-len : goal.returns-then-place-len
returns-then-place-len c =
    pos_got c.args.tokens.now.lexemes c.args.tokens.now.end c.args.tokens.now.lexemes c.args.place (token_of c.at.result.now) c.at.ensures

pub returns-else-place-len : goal.returns-else-place-len
returns-else-place-len c =
    c.end.ensures ∙ no_pos c.args.tokens.now.lexemes c.args.tokens.now.end c.args.tokens.now.lexemes c.args.place
    (let e = c.len.ensures in omega (arith, e, c.if-place-len.false))
