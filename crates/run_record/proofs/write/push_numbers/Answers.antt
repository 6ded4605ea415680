use Rattle.std.proofs.Common.{◌++◌, ap, ◌∙◌, w64, FitsSigned, rules}
use Rattle.std.specs.Fmt.{signed_decimal}
use Rattle.std.proofs.Math.Facts.{to_z-of_z}
use Rattle.run_record.proofs.Adding.{piece_more}
use Rattle.run_record.proofs.write.push_numbers.Goals as goal

pub loop-i-preserved : goal.loop-i-preserved
loop-i-preserved c =
    let fits : FitsSigned w64 c.number_at.result = search (rules, c.number_at.type_inv) in
    piece_more 32 signed_decimal _ _ _ _ _ _ _ c.number_at.ensures c.loop-i.invariant c.in_ok-push.ensures.items
    (c.in_ok-push_signed.ensures ∙ ap (λ z. c.push.new.self.items ++ signed_decimal z) (to_z-of_z {w = w64} {z = c.number_at.result} fits))
