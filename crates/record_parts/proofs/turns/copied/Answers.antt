use Rattle.std.proofs.Common.{◌∙◌, ap, sym, take, ◌++◌, ◌∷◌, []}
use Rattle.run_record.proofs.Options.{went_well}
use Rattle.record_parts.proofs.Cutting.{take_one}
use Rattle.record_parts.proofs.turns.copied.Goals as goal

pub loop-i-preserved : goal.loop-i-preserved
loop-i-preserved c =
    went_well _ _ _ c.if-is_err.ensures.value c.push.ensures ∙ ap (λ l. l ++ c.in_ok-path.path ∷ []) c.loop-i.invariant
    ∙ ap (λ p. take c.loop-i.i c.args.paths.now ++ p ∷ []) c.in_ok-path.ensures ∙ sym (take_one c.args.paths.now c.loop-i.i _ c.at.ensures)
