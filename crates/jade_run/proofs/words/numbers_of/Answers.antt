use Rattle.std.proofs.Common.{◌∙◌, sym, ap, Some, arith}
use Rattle.std.proofs.lemmas.Option.{slice_get-get_or}
use Rattle.jade_run.proofs.Signed.{number_at}
use Rattle.jade_run.proofs.words.numbers_of.Goals as goal

pub returns-in_default : goal.returns-in_default
returns-in_default c numbers s =
    let at = number_at numbers _ c.loop-i.i c.index-words-i.result s.spelled s.fit
    (slice_get-get_or _ c.loop-i.i c.index-words-i.result (omega arith) ∙ ap Some (sym c.index-words-i.is)) in
    let e = c.signed_of.ensures.exact at.0 at.1 (c.bytes.ensures ∙ at.2) in
    c.in_default.not-Some at.0 e
