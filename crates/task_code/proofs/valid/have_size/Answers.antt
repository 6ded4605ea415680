use Rattle.std.proofs.Common.{◌≡◌, ◌+◌, ◌<◌, ◌∙◌, true, rules, arith}
use Rattle.std.specs.Prelude.{slice_get}
use Rattle.task_code.specs.Rules.{is_size}
use Rattle.task_code.proofs.Keeping.{size_more}
use Rattle.task_code.proofs.valid.have_size.Goals as goal

pub members-preserved : goal.members-preserved
members-preserved c =
    let lt : c.members.i < c.args.count = omega (arith, c.members-test.true) in
    let h : is_size c.args.size (slice_get c.args.sizes.now (c.args.first + c.members.i)) ≡ true = search rules in
    c.members.invariant ∙ size_more c.args.sizes.now c.args.first c.args.count c.members.i c.args.size lt h
