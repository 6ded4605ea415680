use Rattle.std.proofs.Common.{◌≡◌, ◌-◌, suc, length, refl, arith}
use Rattle.proc_expand.specs.steps.Replaced.{taken_names}
use Rattle.proc_expand.proofs.FreeNumbers.{free_fits}
use Rattle.proc_expand.proofs.fresh.next_number.Goals as goal

pub overflow_add-numbers : goal.overflow_add-numbers
overflow_add-numbers c =
    let t = c.if-count-eq0.false in
    let e : length c.args.numbers.now ≡ suc (length c.args.numbers.now - 1) = omega (arith, t) in
    let f = free_fits (taken_names c.args.taken.now) c.args.numbers.now (length c.args.numbers.now - 1) (length (taken_names c.args.taken.now)) e
    refl c.requires.free c.requires.few in omega (arith, f)

pub next_free-requires-2 : goal.next_free-requires-2
next_free-requires-2 c =
    let t = c.if-count-eq0.false in
    let e : length c.args.numbers.now ≡ suc (length c.args.numbers.now - 1) = omega (arith, t) in
    let f = free_fits (taken_names c.args.taken.now) c.args.numbers.now (length c.args.numbers.now - 1) (length (taken_names c.args.taken.now)) e
    refl c.requires.free c.requires.few in omega (arith, f)
