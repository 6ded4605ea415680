use Rattle.std.proofs.Common.{arith}
use Rattle.jade_syntax.proofs.Faultless.{keeps_limits}
use Rattle.jade_syntax.proofs.Limits.{limits}
use Rattle.jade_syntax.proofs.checked.Checked.objects.Goals as goal

pub count_objects-requires : goal.count_objects-requires
count_objects-requires c = (limits c.self.inside.program.items (keeps_limits c.self.inside.program c.self.invariant.faultless)).objects

pub overflow_cast-result : goal.overflow_cast-result
overflow_cast-result c =
    let few = (limits c.self.inside.program.items (keeps_limits c.self.inside.program c.self.invariant.faultless)).objects in
    omega (arith, c.count_objects.ensures, few)
