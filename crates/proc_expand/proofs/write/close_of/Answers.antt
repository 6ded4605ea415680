use Rattle.std.proofs.Common.{length, sym, ap, ◌∙◌}
use Rattle.std.proofs.lemmas.List.{length-map}
use Rattle.jade_lexer.specs.Lexemes.{TokenAt}
use Rattle.proc_expand.specs.declared.sign.End.TheVariants.{Closed}
use Rattle.proc_expand.specs.Words.{sign_of, end_place}
use Rattle.proc_expand.specs.Refusals.{call_end}
use Rattle.proc_expand.proofs.Wholes.{call_closed}
use Rattle.proc_expand.proofs.write.close_of.Goals as goal

pub returns : goal.returns
returns c =
    let ts = c.args.tokens.now.lexemes in let end = c.args.tokens.now.end in let k = c.args.place in let is = c.requires.source in
    call_closed ts end is.accepted k c.requires.within c.requires.call
    ∙ ap Closed
    (ap (end_place (length ts)) (ap (λ us. call_end us k) (sym (c.deref-2.ensures.value ∙ is.scan.read)) ∙ sym c.call_end.ensures.value)
    ∙ ap (λ n. end_place n c.call_end.result)
    (sym (ap length (c.deref.ensures.value ∙ is.scan.read) ∙ length-map ts (λ (t : TokenAt). sign_of t.bytes)))
    ∙ sym c.end_place.ensures)
