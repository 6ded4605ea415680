use Rattle.std.proofs.Common.{◌+◌, length, ap, ◌∙◌}
use Rattle.std.proofs.lemmas.List.{length-map}
use Rattle.jade_lexer.specs.Lexemes.{TokenAt}
use Rattle.proc_expand.specs.declared.procedures.Procedure.{Procedure}
use Rattle.proc_expand.specs.Words.{sign_of, end_place}
use Rattle.proc_expand.proofs.write.body_of.Goals as goal

pub returns-clause-next : goal.returns-clause-next
returns-clause-next c = ap (λ (q : Procedure). q.head.stop + 1) c.requires.callee

pub returns-clause-stop : goal.returns-clause-stop
returns-clause-stop c =
    let ts = c.args.tokens.now.lexemes in let is = c.requires.source in
    c.end_place.ensures
    ∙ ap (λ n. end_place n c.args.callee.end) (ap length (c.deref.ensures.value ∙ is.scan.read) ∙ length-map ts (λ (t : TokenAt). sign_of t.bytes))
    ∙ ap (λ (q : Procedure). end_place (length ts) q.end) c.requires.callee
