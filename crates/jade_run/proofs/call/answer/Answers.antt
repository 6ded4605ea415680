use Rattle.std.proofs.Common.{rules, sym, ◌∙◌}
use Rattle.jade_run.proofs.Calls.{too_long_answers, command_answers, asks_text, asks_allowed, no_command, textless}
use Rattle.jade_run.proofs.Witnessing.{memory_still}
use Rattle.jade_run.proofs.call.answer.Goals as goal

pub returns-in-Err-clause-answer : goal.returns-in-Err-clause-answer
returns-in-Err-clause-answer g c =
    no_command _ _ _ _ c.in-Err.error c.not_a_command.result _ c.in-Err.ensures c.not_a_command.ensures.usage c.not_a_command.ensures.memory

pub of_text-requires-clause-allowed : goal.of_text-requires-clause-allowed
of_text-requires-clause-allowed g c = search (rules, asks_allowed, c.in-Ok.ensures)

pub returns-in-Ok-of_text-clause-answer : goal.returns-in-Ok-of_text-clause-answer
returns-in-Ok-of_text-clause-answer g c =
    command_answers _ _ _ c.in-Ok.command _ _ _ _ _ _ c.in-Ok.ensures (sym c.works_on_text.ensures ∙ c.if-not-works_on_text.false)
    c.in-Ok-read_text.ensures.ok c.deref.ensures.value c.in-Ok-of_text.ensures

pub returns-in-Ok-too_long-clause-answer : goal.returns-in-Ok-too_long-clause-answer
returns-in-Ok-too_long-clause-answer g c =
    too_long_answers _ _ _ _ _ _ (asks_text _ c.in-Ok.command c.in-Ok.ensures (sym c.works_on_text.ensures ∙ c.if-not-works_on_text.false))
    (rw c.in-Err-TooLong.field-0-is at c.in-Err-TooLong.ensures.too_long)
    c.in-Ok-too_long.ensures.text c.in-Ok-too_long.ensures.status

pub returns-in-Ok-of_text-clause-unread : goal.returns-in-Ok-of_text-clause-unread
returns-in-Ok-of_text-clause-unread g c h = absurd
    (h (asks_text _ c.in-Ok.command c.in-Ok.ensures (sym c.works_on_text.ensures ∙ c.if-not-works_on_text.false)))

pub returns-in-Ok-read_text-clause-unread : goal.returns-in-Ok-read_text-clause-unread
returns-in-Ok-read_text-clause-unread g c h = absurd
    (h (asks_text _ c.in-Ok.command c.in-Ok.ensures (sym c.works_on_text.ensures ∙ c.if-not-works_on_text.false)))

pub returns-in-Ok-too_long-clause-unread : goal.returns-in-Ok-too_long-clause-unread
returns-in-Ok-too_long-clause-unread g c h = absurd
    (h (asks_text _ c.in-Ok.command c.in-Ok.ensures (sym c.works_on_text.ensures ∙ c.if-not-works_on_text.false)))

pub returns-in-Err-TooLong-clause-unread : goal.returns-in-Err-TooLong-clause-unread
returns-in-Err-TooLong-clause-unread g c h = absurd
    (h (asks_text _ c.in-Ok.command c.in-Ok.ensures (sym c.works_on_text.ensures ∙ c.if-not-works_on_text.false)))

pub returns-in-Err-Failed-clause-unread : goal.returns-in-Err-Failed-clause-unread
returns-in-Err-Failed-clause-unread g c h = absurd
    (h (asks_text _ c.in-Ok.command c.in-Ok.ensures (sym c.works_on_text.ensures ∙ c.if-not-works_on_text.false)))

pub returns-then-not-works_on_text-clause-answer : goal.returns-then-not-works_on_text-clause-answer
returns-then-not-works_on_text-clause-answer g c =
    textless _ _ _ _ c.in-Ok.command c.without_text.result _ _ c.in-Ok.ensures (sym c.works_on_text.ensures ∙ c.if-not-works_on_text.true)
    c.without_text.ensures.answer c.without_text.ensures.memory

pub returns-in-Err-clause-still : goal.returns-in-Err-clause-still
returns-in-Err-clause-still g c = memory_still c.not_a_command.result _ _ c.not_a_command.ensures.memory

pub returns-then-not-works_on_text-clause-still : goal.returns-then-not-works_on_text-clause-still
returns-then-not-works_on_text-clause-still g c = memory_still c.without_text.result _ _ c.without_text.ensures.memory
