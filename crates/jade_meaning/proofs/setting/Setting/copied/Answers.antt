use Rattle.std.proofs.Common.{◌≡◌, ◌+◌, ◌-◌, ◌∷◌, ap, ◌∙◌, arith}
use Rattle.jade_meaning.proofs.Following.{copied_more}
use Rattle.jade_meaning.proofs.setting.Setting.copied.Goals as goal

pub loop-left-preserved : goal.loop-left-preserved
loop-left-preserved c =
    let n : (c.loop-left.left - 1) + 1 ≡ c.loop-left.left = omega arith in
    let name = c.at.result.now.name in
    record {
      copied = copied_more c.args.names.now (c.loop-left.left - 1) c.loop-left.left c.at.result.now c.args.task.now.scope c.args.self.now.given
          c.loop-left.scope c.bind.new.self n c.at.ensures (c.in-Ok-bind.ensures ∙ ap (λ v. record { name = name; value = v } ∷ c.loop-left.scope)
          c.value_of.ensures) c.loop-left.invariant.copied;
      within = omega (arith, c.loop-left.invariant.within);
    }
