use Rattle.std.proofs.Common.{◌++◌, ap, ◌∙◌, w64, FitsSigned, rules}
use Rattle.std.specs.Fmt.{signed_decimal}
use Rattle.std.proofs.Math.Facts.{to_z-of_z}
use Rattle.jade_run.proofs.Joins.{text_more}
use Rattle.jade_run.proofs.texts.push_cells.Goals as goal

pub loop-i-preserved : goal.loop-i-preserved
loop-i-preserved c =
    let fits : FitsSigned w64 c.cell_at.result = search (rules, c.cell_at.type_inv) in
    text_more 32 signed_decimal _ _ _ _ _ _ _ c.cell_at.ensures c.loop-i.invariant c.in_ok-push_between.ensures
    (c.in_ok-push_signed.ensures ∙ ap (λ z. c.push_between.new.text.items ++ signed_decimal z) (to_z-of_z {w = w64} {z = c.cell_at.result} fits))
