use Rattle.std.proofs.Common.{◌≡◌, FitsSigned, subst, take, take_all, All, arith, rules, w64}
use Rattle.number_words.specs.Numbers.{is_number}
use Rattle.number_words.proofs.Signed.{numbered}
use Rattle.run_record.proofs.Bytes.{testing}
use Rattle.run_record.proofs.PathLemmas.{IsNumber}
use Rattle.jade_run.proofs.Keeping.{numbers_more}
use Rattle.jade_run.proofs.record.fit.Goals as goal

pub loop-i-preserved : goal.loop-i-preserved
loop-i-preserved c =
    let fits : FitsSigned w64 c.number_at.result = search (rules, c.number_at.type_inv) in
    numbers_more c.args.numbers.now c.loop-i.i c.number_at.result c.number_at.ensures (numbered c.number_at.result fits) c.loop-i.invariant

pub returns : goal.returns
returns c =
    let whole : take c.loop-i.i c.args.numbers.now ≡ c.args.numbers.now = take_all c.loop-i.i c.args.numbers.now (omega arith) in
    testing is_number c.args.numbers.now (subst (All IsNumber) whole c.loop-i.invariant)
