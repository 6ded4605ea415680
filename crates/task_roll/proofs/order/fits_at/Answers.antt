use Rattle.std.proofs.Common.{◌∙◌, ◌&&◌, ◌-◌, ap, sym, arith}
use Rattle.task_roll.specs.Order.{stands_before}
use Rattle.task_roll.proofs.InOrder.{fits-pair, fits-not}
use Rattle.task_roll.proofs.order.fits_at.Goals as goal

pub returns-then-first : goal.returns-then-first
returns-then-first g c =
    let k = c.args.path.now in
    let es = c.args.rows.now.items in
    let f = g.T.OnPath.task in
    let e = c.index.result.now in
    let d = c.index-then-first.result.now in
    c.stands_before.ensures ∙ ap (λ q. stands_before q k) c.path-then-first.ensures ∙
    sym (ap (λ b. b && stands_before (f d) k) (ap (λ q. stands_before k q) (sym c.path.ensures) ∙ sym c.stands_before-first.ensures ∙ c.if-first.true)) ∙
    sym (fits-pair f k es c.args.place (c.args.place - 1) e d (omega (arith, c.if-place-eq0.false)) c.requires c.index.ensures c.index-then-first.ensures)

pub returns-else-first : goal.returns-else-first
returns-else-first g c =
    let k = c.args.path.now in
    c.if-first.false ∙ sym (fits-not g.T.OnPath.task k c.args.rows.now.items c.args.place c.index.result.now c.requires c.index.ensures
    (ap (λ q. stands_before k q) (sym c.path.ensures) ∙ sym c.stands_before-first.ensures ∙ c.if-first.false))
