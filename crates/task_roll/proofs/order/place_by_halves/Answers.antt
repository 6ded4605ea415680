use Rattle.std.proofs.Common.{◌≡◌, ◌∙◌, sym, ap, length, map, arith}
use Rattle.jade_base.specs.Places.{same_path}
use Rattle.task_roll.specs.Order.{place_among}
use Rattle.task_roll.proofs.InOrder.{found, missed, past-all}
use Rattle.task_roll.proofs.order.place_by_halves.Goals as goal
use Rattle.task_roll.proofs.order.place_by_halves.Goals.{else-place-len-via-then-place-len+else-is_same, else-place-len-via-else-place-len}

pub returns-then-is_same : goal.returns-then-is_same
returns-then-is_same g c =
    found g.T.OnPath.task c.args.path.now c.args.rows.now.items c.rank_of-place.result c.index.result.now c.rank_of-place.ensures
    (omega (arith, c.len.ensures, c.if-place-len.true)) c.index.ensures
    (ap (λ q. same_path c.args.path.now q) (sym c.path.ensures) ∙ sym c.is_same.ensures ∙ c.if-is_same.true)

pub returns : goal.returns
returns g c =
    let m : length c.args.rows.now.items ≡ place_among c.args.path.now (map g.T.OnPath.task c.args.rows.now.items) = elim c.else-place-len.branch [
      | else-place-len-via-then-place-len+else-is_same w ↦
          missed g.T.OnPath.task c.args.path.now c.args.rows.now.items c.rank_of-place.result w.index.result.now c.requires c.rank_of-place.ensures
          (omega (arith, c.len.ensures, w.if-place-len.true)) w.index.ensures
          (ap (λ q. same_path c.args.path.now q) (sym w.path.ensures) ∙ sym w.is_same.ensures ∙ w.if-is_same.false)
      | else-place-len-via-else-place-len w ↦
          past-all g.T.OnPath.task c.args.path.now c.args.rows.now.items c.rank_of-place.result c.rank_of-place.ensures
          (omega (arith, c.len.ensures, w.if-place-len.false))
    ] in
    omega (arith, c.len-2.ensures, m)
