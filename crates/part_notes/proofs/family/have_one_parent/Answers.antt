use Rattle.std.proofs.Common.{◌≡◌, sym, ap, ◌∙◌, true}
use Rattle.part_notes.specs.Families.{parent}
use Rattle.part_notes.proofs.Families.{parent_is, parent_starts}
use Rattle.part_notes.proofs.family.have_one_parent.Goals as goal

pub returns-then-numbers-parent : goal.returns-then-numbers-parent
returns-then-numbers-parent c = λ starts.
    let rest = c.in-Some.parent.now in
    let split = c.in-Some.ensures.cases in
    ap parent (sym c.numbers-numbers.ensures.value)
    ∙ parent_starts c.numbers-numbers.result.now rest c.if-numbers-parent.true (sym c.starts_with.ensures.value ∙ starts)
    ∙ sym (parent_is c.numbers.result.now rest c.in-Some.field-0-0.now split.0 split.1) ∙ ap parent c.numbers.ensures.value
