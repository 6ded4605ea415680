use Rattle.std.proofs.Common.{ap, ◌∙◌, sym, ◌++◌, [], ◌∷◌}
use Rattle.jade_lexer.specs.Lexemes.{token_of}
use Rattle.proc_expand.specs.Words.{sign_of}
use Rattle.proc_expand.proofs.First.{signs_more}
use Rattle.proc_expand.proofs.sign.signs.Goals as goal

pub loop-place-preserved : goal.loop-place-preserved
loop-place-preserved c =
    c.in_ok-push.ensures.items ∙ ap (λ u. c.loop-place.found.items ++ u ∷ []) c.sign_of.ensures
    ∙ ap (λ u. u ++ sign_of (token_of c.at.result.now).bytes ∷ []) c.loop-place.invariant
    ∙ sym (signs_more c.args.tokens.now.lexemes c.loop-place.place (token_of c.at.result.now) c.at.ensures)
