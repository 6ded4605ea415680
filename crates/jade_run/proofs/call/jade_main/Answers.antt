use Rattle.std.proofs.Common.{rules, ◌∙◌, sym}
use Rattle.jade_run.proofs.Calls.{wrote_headline, not_reading, stopped_headline}
use Rattle.jade_run.proofs.call.jade_main.Goals as goal

pub returns-in-Ok-write_text-clause-headline : goal.returns-in-Ok-write_text-clause-headline
returns-in-Ok-write_text-clause-headline g c =
    wrote_headline _ _ _ _ c.in-Ok.answer.text.items c.in-Ok.ensures.answer (search rules)

pub returns-in-Ok-write_text-clause-unread : goal.returns-in-Ok-write_text-clause-unread
returns-in-Ok-write_text-clause-unread g c h = ((c.in-Ok.ensures.unread h).0, λ e. not_reading _ _ _ c.in-Ok.answer.text.items _ _ _ c.in-Ok.ensures.answer e)

pub returns-in-Ok-clause-unread : goal.returns-in-Ok-clause-unread
returns-in-Ok-clause-unread g c h = ((c.in-Ok.ensures.unread h).0, λ e. absurd (cc))

pub returns-clause-unread : goal.returns-clause-unread
returns-clause-unread g c h = ((c.in-Err.ensures.unread h).0, λ e. let m = sym e ∙ (c.in-Err.ensures.unread h).1 in absurd (cc))

pub returns-in-Ok-clause-headline : goal.returns-in-Ok-clause-headline
returns-in-Ok-clause-headline g c = search (rules, c.in-Ok.ensures.answer.comes)

pub returns-clause-headline : goal.returns-clause-headline
returns-clause-headline g c = stopped_headline _ _ _ _ (search rules) c.in-Err.ensures.answer c.in-Err.ensures.still
