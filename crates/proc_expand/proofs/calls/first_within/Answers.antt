use Rattle.std.proofs.Common.{◌&&◌, suc, length, nat_lt, ap, sym, ◌∙◌, arith}
use Rattle.proc_expand.specs.Words.{is_semicolon, some, end_place}
use Rattle.proc_expand.specs.Refusals.{within, is_call, call_end}
use Rattle.proc_expand.proofs.First.{first_at, first_more, first_done}
use Rattle.proc_expand.proofs.Heads.{past_end}
use Rattle.proc_expand.proofs.CallFacts.{is_within, reach_more}
use Rattle.proc_expand.proofs.calls.first_within.Goals as goal

pub returns-then-is_reached : goal.returns-then-is_reached
returns-then-is_reached c =
    let ss = c.args.signs.now in let k = c.loop-place.place in
    sym (first_at k (suc (length ss)) (within ss) c.loop-place.invariant.none_yet
    (is_within ss k c.loop-place.reach c.is_reached.result (c.loop-place.invariant.reached k) c.is_reached.ensures ∙ c.if-is_reached.true)
    (let t = c.loop-place-test.true in omega (arith, t)))

pub loop-place-preserved : goal.loop-place-preserved
loop-place-preserved c =
    let ss = c.args.signs.now in let k = c.loop-place.place in
    record {
      none_yet = first_more k (within ss) c.loop-place.invariant.none_yet
          (is_within ss k c.loop-place.reach c.is_reached.result (c.loop-place.invariant.reached k) c.is_reached.ensures ∙ c.if-is_reached.false);
      reached = λ j. reach_more ss k c.loop-place.reach _ j (c.loop-place.invariant.reached j) c.reach_after-reach.ensures;
    }

pub returns : goal.returns
returns c =
    let ss = c.args.signs.now in
    first_done c.loop-place.place (length ss) (within ss) (let t = c.loop-place-test.false in let e = c.loop-place.auto.place-end in omega (arith, t, e))
    c.loop-place.invariant.none_yet
    (ap (λ s. is_semicolon s && some (length ss) (λ i. is_call ss i && nat_lt (length ss) (end_place (length ss) (call_end ss i)))) (past_end ss (length ss) (omega arith)))
