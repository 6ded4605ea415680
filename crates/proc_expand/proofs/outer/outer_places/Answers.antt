use Rattle.std.proofs.Common.{◌++◌, not, nat_lt, ap, ◌∙◌, arith}
use Rattle.proc_expand.specs.Words.{one_if}
use Rattle.proc_expand.proofs.KnownNames.{lies_in}
use Rattle.proc_expand.proofs.Outside.{outer_more}
use Rattle.proc_expand.proofs.outer.outer_places.Goals as goal

pub loop-place-preserved : goal.loop-place-preserved
loop-place-preserved c =
    let ts = c.args.tokens.now.lexemes in let end = c.args.tokens.now.end in let k = c.loop-place.place in
    record {
      found = c.in_ok-add_place.ensures ∙ ap (λ u. u ++ one_if (not (nat_lt k c.reach_after-reach.result)) k) c.loop-place.invariant.found
          ∙ outer_more ts end k c.reach_after-reach.result (lies_in ts c.args.scan.now c.requires k (let t = c.loop-place-test.true in let l = c.len-place-end.ensures in let m = c.loop-place.auto.place-end in omega (arith, t, l, m)))
          c.reach_after-reach.ensures;
      reach = c.reach_after-reach.ensures;
    }
