use Rattle.std.proofs.Common.{◌≡◌, ◌<◌, ℕ, List, subst, take, All, arith}
use Rattle.std.proofs.lemmas.List.{take_all}
use Rattle.run_record.specs.Pieces.{IsPath}
use Rattle.record_parts.proofs.Naming.{fit_more}
use Rattle.record_parts.proofs.turns.all_fit.Goals as goal

pub loop-i-preserved : goal.loop-i-preserved
loop-i-preserved c =
    fit_more c.args.paths.now c.loop-i.i c.at.result.now c.at.ensures c.requires
    (let F : List ℕ → Type 0 = λ p. All (λ k. k < 4294967296) p in subst F c.numbers.ensures.value c.fit.ensures) c.loop-i.invariant

pub returns : goal.returns
returns c =
    let whole : take c.loop-i.i c.args.paths.now ≡ c.args.paths.now = take_all c.loop-i.i c.args.paths.now (omega arith) in
    subst (All IsPath) whole c.loop-i.invariant
