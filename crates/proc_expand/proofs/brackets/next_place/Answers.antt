use Rattle.std.proofs.Common.{sym, ◌∙◌, arith}
use Rattle.proc_expand.proofs.Nested.{closed_in, known_end}
use Rattle.proc_expand.proofs.brackets.next_place.Goals as goal

pub overflow_add-result : goal.overflow_add-result
overflow_add-result c =
    let known = known_end c.args.signs.now c.args.ends.now c.args.place c.args.place c.in-Opens.field-0 c.requires.ends (omega arith) c.requires.within c.in-Opens.is in
    let s = closed_in c.args.signs.now c.args.place c.in-Closed.last c.requires.within (sym known ∙ c.in-Closed.is) in omega (arith, s.1)
