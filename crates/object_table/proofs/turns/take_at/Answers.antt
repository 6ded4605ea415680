use Rattle.std.proofs.Common.{refl, subst}
use Rattle.std.specs.Prelude.{Ok}
use Rattle.object_table.specs.steps.Kept.{HandedAs}
use Rattle.object_table.specs.declared.turns.Handed.{Handed}
use Rattle.object_table.specs.declared.turns.Handed.TheVariants.{Content, Kept}
use Rattle.object_table.proofs.Leaving.{object_lent, take_ends, took, as_found, kept_by}
use Rattle.object_table.specs.declared.slot.Slot.TheVariants.{Object}
use Rattle.object_table.proofs.turns.take_at.Goals as goal

pub complete-requires-clause-ending : goal.complete-requires-clause-ending
complete-requires-clause-ending c =
    let f = c.requires.fits in
    let got = c.in-Ok.ensures.got in
    let g = object_lent c.args.words.now.table_id.slots c.args.object got.0 c.args.task.now c.begin.new.task got.1 c.args.words.now.key f.laid.deep f.object
    c.slot_mut-slot.result.now c.slot_mut-slot.ensures.value in
    let made : HandedAs g.0 c.begin.new.task.path c.args.mode (Ok (Content c.in-Ok-Content.content)) c.hand_out_of.new.slot =
    subst (λ (h : Handed). HandedAs g.0 c.begin.new.task.path c.args.mode (Ok h) c.hand_out_of.new.slot) c.in-Ok-Content.field-0-is
    (c.in-Ok-Content.ensures g.0 g.2) in
    take_ends g.1 f.object c.requires.next made.0 made.3

pub desist-requires-clause-begun : goal.desist-requires-clause-begun
desist-requires-clause-begun c =
    let f = c.requires.fits in
    let got = c.in-Ok.ensures.got in
    let g = object_lent c.args.words.now.table_id.slots c.args.object got.0 c.args.task.now c.begin.new.task got.1 c.args.words.now.key f.laid.deep f.object
    c.slot_mut-slot.result.now c.slot_mut-slot.ensures.value in
    let made : HandedAs g.0 c.begin.new.task.path c.args.mode (Ok (Kept c.in-Ok-Kept.path)) c.hand_out_of.new.slot =
    subst (λ (h : Handed). HandedAs g.0 c.begin.new.task.path c.args.mode (Ok h) c.hand_out_of.new.slot) c.in-Ok-Kept.field-0-is
    (c.in-Ok-Kept.ensures g.0 g.2) in
    (c.args.task.now, Object g.0, as_found g.1 made.0)

pub returns-in-Ok-Content-clause-answer : goal.returns-in-Ok-Content-clause-answer
returns-in-Ok-Content-clause-answer c =
    let f = c.requires.fits in
    let got = c.in-Ok.ensures.got in
    let g = object_lent c.args.words.now.table_id.slots c.args.object got.0 c.args.task.now c.begin.new.task got.1 c.args.words.now.key f.laid.deep f.object
    c.slot_mut-slot.result.now c.slot_mut-slot.ensures.value in
    let made : HandedAs g.0 c.begin.new.task.path c.args.mode (Ok (Content c.in-Ok-Content.content)) c.hand_out_of.new.slot =
    subst (λ (h : Handed). HandedAs g.0 c.begin.new.task.path c.args.mode (Ok h) c.hand_out_of.new.slot) c.in-Ok-Content.field-0-is
    (c.in-Ok-Content.ensures g.0 g.2) in
    took g.1 made.0 made.1 made.2 (c.complete.ensures.done (take_ends g.1 f.object c.requires.next made.0 made.3) g.0 refl)

pub returns-in-Ok-Kept-clause-answer : goal.returns-in-Ok-Kept-clause-answer
returns-in-Ok-Kept-clause-answer c =
    let f = c.requires.fits in
    let got = c.in-Ok.ensures.got in
    let g = object_lent c.args.words.now.table_id.slots c.args.object got.0 c.args.task.now c.begin.new.task got.1 c.args.words.now.key f.laid.deep f.object
    c.slot_mut-slot.result.now c.slot_mut-slot.ensures.value in
    let made : HandedAs g.0 c.begin.new.task.path c.args.mode (Ok (Kept c.in-Ok-Kept.path)) c.hand_out_of.new.slot =
    subst (λ (h : Handed). HandedAs g.0 c.begin.new.task.path c.args.mode (Ok h) c.hand_out_of.new.slot) c.in-Ok-Kept.field-0-is
    (c.in-Ok-Kept.ensures g.0 g.2) in
    kept_by g.1 c.requires.next.live made.1 made.2 made.3 (c.desist.ensures.after c.args.task.now (Object g.0) (as_found g.1 made.0))

pub returns-in-Err-hand_out_of-clause-answer : goal.returns-in-Err-hand_out_of-clause-answer
returns-in-Err-hand_out_of-clause-answer c =
    let f = c.requires.fits in
    let got = c.in-Ok.ensures.got in
    let g = object_lent c.args.words.now.table_id.slots c.args.object got.0 c.args.task.now c.begin.new.task got.1 c.args.words.now.key f.laid.deep f.object
    c.slot_mut-slot.result.now c.slot_mut-slot.ensures.value in
    (c.desist-in-Err-hand_out_of.ensures.after c.args.task.now (Object g.0) (as_found g.1 (c.in-Err-hand_out_of.ensures g.0 g.2))).unchanged
