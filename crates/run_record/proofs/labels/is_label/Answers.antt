use Rattle.std.proofs.Common.{sym, ◌∙◌}
use Rattle.run_record.proofs.Options.{some_is}
use Rattle.run_record.proofs.Labelling.{label_indexed, label_parts}
use Rattle.run_record.proofs.labels.is_label.Goals as goal

pub returns-else-is_empty : goal.returns-else-is_empty
returns-else-is_empty c = (
  λ t. label_indexed c.args.bytes.now c.cut.result.0.now c.cut.result.1.now c.cut.ensures.whole (sym c.is_word.ensures ∙ c.if-is_word.true) (c.is_index.ensures.0 t),
  λ l. c.is_index.ensures.1 ((label_parts c.args.bytes.now c.cut.result.0.now c.cut.result.1.now c.cut.ensures l).rest
      (some_is c.cut.result.1.now _ c.is_empty.ensures c.if-is_empty.false)),
)

pub returns-else-is_word : goal.returns-else-is_word
returns-else-is_word c = (
  λ t. absurd (cc (t, c.if-is_word.false)),
  λ l. c.is_word.ensures ∙ (label_parts c.args.bytes.now c.cut.result.0.now c.cut.result.1.now c.cut.ensures l).word,
)
