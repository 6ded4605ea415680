use Rattle.std.proofs.Common.{◌+◌, ◌∙◌, refl, sym, arith}
use Rattle.proc_expand.specs.Words.{is_comma}
use Rattle.proc_expand.proofs.First.{both_left, both_right}
use Rattle.proc_expand.proofs.Heads.{lies_within, place_listed}
use Rattle.proc_expand.proofs.procedures.read_params.Goals as goal

pub listing-preserved : goal.listing-preserved
listing-preserved c =
    let all = sym c.is_listed.ensures ∙ c.listing-test.true in
    let comma = both_right _ _ all in
    let first = both_left _ _ all in
    let n = lies_within c.args.signs.now (c.listing.place + 2) is_comma refl comma in
    record {
      at = let e = c.listing.invariant.at in omega (arith, e);
      within = omega (arith, n);
      same = c.listing.invariant.same
          ∙ sym (place_listed c.args.signs.now c.listing.place c.listing.params (both_left _ _ first) (both_right _ _ first) comma);
    }
