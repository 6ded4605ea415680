use Rattle.std.proofs.Common.{◌<◌, ◌+◌, inl, inr, length, refl, ◌∙◌, subst, sym}
use Rattle.object_table.proofs.Calls.{tickets_is, notes_is}
use Rattle.object_table.proofs.turns.hand_in_at.Goals as goal

pub returns-then-has_nothing-clause-answer : goal.returns-then-has_nothing-clause-answer
returns-then-has_nothing-clause-answer c =
    let t = c.args.task.now in
    let r = c.requires.rests in
    inl ((λ i. sym (tickets_is t r) i + length (sym (notes_is t r) i)) ∙ c.has_nothing.ensures.yes c.if-has_nothing.true, refl)

pub begin_roll-requires-clause-ready : goal.begin_roll-requires-clause-ready
begin_roll-requires-clause-ready c = λ e.
    let t = c.args.task.now in
    let r = c.requires.rests in
    subst (λ k. 0 < k) (λ i. tickets_is t r i + length (notes_is t r i)) (c.has_nothing.ensures.no c.if-has_nothing.false)

pub returns-clause-answer : goal.returns-clause-answer
returns-clause-answer c =
    let got = c.in-Ok.ensures.got in
    inr (c.relieve.ensures.done c.args.task.now got.0 got.1 c.requires.gone)
