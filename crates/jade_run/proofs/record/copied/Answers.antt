use Rattle.std.proofs.Common.{◌∙◌, ap, sym, ◌++◌, ◌∷◌, [], FitsSigned, rules, w64}
use Rattle.std.proofs.Math.Facts.{to_z-of_z}
use Rattle.run_record.proofs.Options.{went_well}
use Rattle.record_parts.proofs.Cutting.{take_one}
use Rattle.jade_run.proofs.record.copied.Goals as goal

pub loop-i-preserved : goal.loop-i-preserved
loop-i-preserved c =
    let z = c.number_at.result in
    let fits : FitsSigned w64 c.number_at.result = search (rules, c.number_at.type_inv) in
    went_well _ _ _ c.if-is_err.ensures.value c.push.ensures
    ∙ ap (λ y. c.loop-i.copies ++ y ∷ []) (to_z-of_z {w = w64} {z = z} fits)
    ∙ ap (λ l. l ++ z ∷ []) c.loop-i.invariant
    ∙ sym (take_one c.args.numbers.now c.loop-i.i z c.number_at.ensures)
