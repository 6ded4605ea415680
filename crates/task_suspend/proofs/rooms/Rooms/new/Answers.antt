use Rattle.std.proofs.Common.{◌≡◌, ◌+◌, ◌++◌, ◌∷◌, [], true, length, vec_len, ap, sym, subst, ◌∙◌, arith}
use Rattle.task_suspend.specs.Numbers.{are_numbered, numbers}
use Rattle.task_suspend.proofs.Asking.{pushed, numbered_more}
use Rattle.task_suspend.proofs.rooms.Rooms.new.Goals as goal

pub loop-object-preserved : goal.loop-object-preserved
loop-object-preserved g c =
    let rooms = c.loop-object.rooms in
    let done = sym c.is_err.ensures.value ∙ c.if-is_err.false in
    let items : c.push.new.self.items ≡ rooms.items ++ c.new.result ∷ [] =
    pushed c.push.result c.push.new.self.items (rooms.items ++ c.new.result ∷ []) rooms.items done c.push.ensures.items in
    let len : vec_len c.push.new.self ≡ vec_len rooms + 1 =
    pushed c.push.result (vec_len c.push.new.self) (vec_len rooms + 1) (vec_len rooms) done c.push.ensures.len in
    let number : c.new.result.object.0 ≡ c.loop-object.object = ap (λ o. o.0) c.new.ensures in
    let here : c.new.result.object.0 ≡ 0 + length rooms.items = omega (arith, number, c.loop-object.invariant.0, rooms.ok.0) in (
      omega (arith, len, c.loop-object.invariant.0),
      subst (λ xs. are_numbered 0 (numbers xs) ≡ true) (sym items) (numbered_more rooms.items 0 c.new.result c.loop-object.invariant.1 here),
    )
