use Rattle.std.proofs.Common.{◌≡◌, ◌+◌, ◌-◌, ◌<◌, ap, sym, ◌∙◌, subst, arith, Fits, w64}
use Rattle.object_table.specs.Touches.{passed}
use Rattle.object_table.specs.steps.Kept.{Rests}
use Rattle.object_table.proofs.Passing.{step_is, not_less, no_overflow, past_shown, past_rests}
use Rattle.object_table.proofs.pass.go_past.Goals as goal

pub overflow_add-task : goal.overflow_add-task
overflow_add-task c =
    let t = c.args.task.now in
    let n = c.args.events in
    let r = c.requires.rests in
    let k = c.requires.touches.0 in
    let comes = c.requires.touches.1 in
    let top : n < 18446744073709551616 = let a = c.ranges.events.fits in omega (arith, a) in
    let less = not_less t r n k top comes in
    let d : n - t.events ≡ k = step_is t r n k top comes (n - t.events) (omega (arith, less)) in
    let room = no_overflow t r n k top comes in
    subst (λ x. Fits w64 (t.touched + x)) (sym d) (record { fits = omega (arith, room) })

pub returns-clause-rests : goal.returns-clause-rests
returns-clause-rests c =
    let t = c.args.task.now in
    let n = c.args.events in
    let r = c.requires.rests in
    let k = c.requires.touches.0 in
    let comes = c.requires.touches.1 in
    let top : n < 18446744073709551616 = let a = c.ranges.events.fits in omega (arith, a) in
    let less = not_less t r n k top comes in
    let d : n - t.events ≡ k = step_is t r n k top comes (n - t.events) (omega (arith, less)) in
    subst (λ x. Rests (record t { touched = t.touched + x; events = n })) (sym d) (past_rests t r n k top comes)

pub returns-clause-shown : goal.returns-clause-shown
returns-clause-shown c =
    let t = c.args.task.now in
    let n = c.args.events in
    let r = c.requires.rests in
    λ k comes.
    let top : n < 18446744073709551616 = let a = c.ranges.events.fits in omega (arith, a) in
    let less = not_less t r n k top comes in
    let d : n - t.events ≡ k = step_is t r n k top comes (n - t.events) (omega (arith, less)) in
    ap (λ x. passed (t.touched + x) t.seat.me.0) d ∙ past_shown t r n k top comes
