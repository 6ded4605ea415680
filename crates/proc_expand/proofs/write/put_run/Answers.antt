use Rattle.std.proofs.Common.{◌≡◌, false, sym, ap, ◌∙◌}
use Rattle.proc_expand.specs.Words.{signs}
use Rattle.proc_expand.specs.Refusals.{is_call}
use Rattle.proc_expand.proofs.PenFacts.{passed_on}
use Rattle.proc_expand.proofs.Writing.{run_step, run_long}
use Rattle.proc_expand.proofs.write.put_run.Goals as goal

pub returns-in_err-put_token-clause-grown : goal.returns-in_err-put_token-clause-grown
returns-in_err-put_token-clause-grown c =
    let ts = c.args.tokens.now.lexemes in let end = c.args.tokens.now.end in let s = c.args.source.now in let is = c.requires.source in
    let k = c.place_in-place.result in
    let t : is_call (signs ts) k ≡ false = ap (λ u. is_call u k) (sym (c.deref.ensures.value ∙ is.scan.read)) ∙ sym c.is_call.ensures ∙ c.if-is_call.false in
    λ e. run_long ts end s is c.args.pen.now c.running.pen c.args.frame c.running.rest k c.running.invariant c.place_in-place.ensures t
    (c.put_token.ensures.grown (passed_on _ _ _ c.from_residual.ensures.1 c.in_err-put_token.was e))

pub running-preserved : goal.running-preserved
running-preserved c =
    let ts = c.args.tokens.now.lexemes in let end = c.args.tokens.now.end in let s = c.args.source.now in let is = c.requires.source in
    let k = c.place_in-place.result in
    let t : is_call (signs ts) k ≡ false = ap (λ u. is_call u k) (sym (c.deref.ensures.value ∙ is.scan.read)) ∙ sym c.is_call.ensures ∙ c.if-is_call.false in
    run_step ts end s is c.args.pen.now c.running.pen c.args.frame c.running.rest k c.running.invariant c.place_in-place.ensures t c.put_token.new.pen
    c.in_ok-put_token.ensures.wrote
