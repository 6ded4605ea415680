use Rattle.std.proofs.Common.{◌∙◌}
use Rattle.jade_syntax.specs.Image.{program as abstracted}
use Rattle.jade_meaning.proofs.Reporting.{in_ok, performed_by}
use Rattle.jade_meaning.proofs.serial.serial_program.Goals as goal

pub returns : goal.returns
returns c =
    in_ok c.into_report.result (λ r e. e ∙ performed_by (abstracted c.args.program.now) c.args.numbers.now c.args.limit c.objects-count.result c.of-items.result
    c.in_ok-given.given c.in_ok-scope.scope c.in_ok-spec.spec c.in_ok-path.path c.in_ok-state.state c.run.new.state c.of-items.ensures c.in_ok-given.ensures
    c.in_ok-scope.ensures c.objects-count.ensures c.in_ok-spec.ensures c.in_ok-path.ensures c.in_ok-state.ensures c.in_ok-run.ensures) c.into_report.ensures
