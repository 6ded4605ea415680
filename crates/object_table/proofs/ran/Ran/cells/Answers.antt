use Rattle.std.proofs.Common.{rules, ◌≡◌, Some, None, subst}
use Rattle.jade_meaning.specs.Answer.{Cells}
use Rattle.jade_meaning.specs.ReportAnswer.{report_answer}
use Rattle.object_table.specs.Calls.{IsFault, RanView}
use Rattle.part_notes.specs.Families.{left_after}
use Rattle.object_table.proofs.Telling.{tells_cells, tells_fault}
use Rattle.object_table.proofs.ran.Ran.cells.Goals as goal

pub returns-in-Some-clause-told : goal.returns-in-Some-clause-told
returns-in-Some-clause-told c =
    let P : RanView → Type 0 = λ r. report_answer c.args.limit r.report ≡ Cells c.self.inside.objects in
    let left : left_after c.args.limit c.self.inside.notes ≡ Some c.in-Some.field-0 = search rules in
    subst P c.self.view_is (tells_cells c.args.limit c.in-Some.field-0 c.self.inside.objects c.self.inside.turns c.self.inside.notes left)

pub returns-in-None-clause-told : goal.returns-in-None-clause-told
returns-in-None-clause-told c =
    let P : RanView → Type 0 = λ r. IsFault (report_answer c.args.limit r.report) in
    let left : left_after c.args.limit c.self.inside.notes ≡ None = search rules in
    subst P c.self.view_is (tells_fault c.args.limit c.self.inside.objects c.self.inside.turns c.self.inside.notes left)
