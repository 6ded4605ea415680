use Rattle.std.proofs.Common.{◌≡◌, true, rules}
use Rattle.run_record.proofs.Labelling.{turns_made, no_turns_head, no_label, no_paths}
use Rattle.run_record.proofs.lines.turn_of.Goals as goal

pub returns-in-None : goal.returns-in-None
returns-in-None c turn h = no_turns_head c.args.line.now turn c.in-None.ensures h

pub returns-then-not-is_label : goal.returns-then-not-is_label
returns-then-not-is_label c turn h =
    no_label c.args.line.now c.in-Some.turns.now c.cut.result.0.now c.cut.result.1.now turn c.in-Some.ensures c.cut.ensures
    (λ l. let t : c.is_label.result ≡ true = c.is_label.ensures.1 l in cc) h

pub returns-in-Err : goal.returns-in-Err
returns-in-Err c = no_paths c.args.line.now c.in-Some.turns.now c.cut.result.0.now c.cut.result.1.now c.in-Err.error c.in-Some.ensures c.cut.ensures c.in-Err.ensures

pub returns-in-Ok-of : goal.returns-in-Ok-of
returns-in-Ok-of c =
    turns_made c.args.line.now c.in-Some.turns.now c.cut.result.0.now c.cut.result.1.now c.in-Ok-of.label c.in-Ok.paths c.in-Some.ensures c.cut.ensures
    (c.is_label.ensures.0 (let t : c.is_label.result ≡ true = search rules in t)) c.in-Ok.ensures.0 c.in-Ok.ensures.1 c.in-Ok.ensures.2 c.in-Ok-of.ensures
