use Rattle.std.proofs.Common.{◌≡◌, ◌+◌, ◌-◌, Some, ap, sym, ◌∙◌, arith}
use Rattle.std.specs.List.{slice_get}
use Rattle.task_codegen.proofs.Params.{given_input, given_single, given_family}
use Rattle.task_codegen.proofs.names.Names.given.Goals as goal

pub loop-left-preserved-in-Ok : goal.loop-left-preserved-in-Ok
loop-left-preserved-in-Ok c =
    let next : (c.loop-left.left - 1) + 1 ≡ c.loop-left.left = omega arith in
    let at : slice_get c.args.ranges.now (c.loop-left.left - 1) ≡ Some c.at.result.now =
    ap (λ xs. slice_get xs (c.loop-left.left - 1)) (sym c.items-items.ensures) ∙ c.at.ensures in
    record {
      same = given_input c.args.ranges.now (c.loop-left.left - 1) c.loop-left.left _ at next c.loop-left.body c.loop-left.invariant.same c.in-Input.name
          c.in-Input.pos _ _ c.in-Input.is c.next-slot.ensures c.in-Ok.ensures;
      within = omega (arith, c.loop-left.invariant.within);
    }

pub loop-left-preserved-in-Single : goal.loop-left-preserved-in-Single
loop-left-preserved-in-Single c =
    let next : (c.loop-left.left - 1) + 1 ≡ c.loop-left.left = omega arith in
    let at : slice_get c.args.ranges.now (c.loop-left.left - 1) ≡ Some c.at.result.now =
    ap (λ xs. slice_get xs (c.loop-left.left - 1)) (sym c.items-items.ensures) ∙ c.at.ensures in
    record {
      same = given_single c.args.ranges.now (c.loop-left.left - 1) c.loop-left.left _ at next c.loop-left.body c.loop-left.invariant.same c.in-Single.name
          c.in-Single.pos c.in-Single.size c.in-Single.is;
      within = omega (arith, c.loop-left.invariant.within);
    }

pub loop-left-preserved : goal.loop-left-preserved
loop-left-preserved c =
    let next : (c.loop-left.left - 1) + 1 ≡ c.loop-left.left = omega arith in
    let at : slice_get c.args.ranges.now (c.loop-left.left - 1) ≡ Some c.at.result.now =
    ap (λ xs. slice_get xs (c.loop-left.left - 1)) (sym c.items-items.ensures) ∙ c.at.ensures in
    record {
      same = given_family c.args.ranges.now (c.loop-left.left - 1) c.loop-left.left _ at next c.loop-left.body c.loop-left.invariant.same c.in-Family.name
          c.in-Family.pos c.in-Family.count c.in-Family.size c.in-Family.is;
      within = omega (arith, c.loop-left.invariant.within);
    }
