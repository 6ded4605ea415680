use Rattle.std.proofs.Common.{◌∙◌, ap, sym, ◌++◌, ◌∷◌}
use Rattle.record_parts.proofs.Cutting.{lines_step, not_lines}
use Rattle.record_parts.proofs.lines.are_lines.Goals as goal

pub returns-in-None : goal.returns-in-None
returns-in-None c = (
  λ t. absurd (cc),
  λ a. absurd (not_lines c.args.text.now c.args.lines.now c.loop-i.i c.at.result.now c.loop-i.left.now c.at.ensures c.loop-i.invariant
      (λ rest e. c.in-None.ensures rest (e ∙ ap (λ l. l ++ 10 ∷ rest) (sym c.bytes.ensures))) a),
)

pub loop-i-preserved : goal.loop-i-preserved
loop-i-preserved c =
    lines_step c.args.text.now c.args.lines.now c.loop-i.i c.at.result.now c.loop-i.left.now c.in-Some.rest.now c.at.ensures c.loop-i.invariant
    (c.in-Some.ensures ∙ ap (λ l. l ++ 10 ∷ c.in-Some.rest.now) c.bytes.ensures)
