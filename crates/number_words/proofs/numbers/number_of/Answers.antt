use Rattle.std.proofs.Common.{arith, subst, sym}
use Rattle.std.specs.Str.{IsUtf8}
use Rattle.std.proofs.lemmas.Fmt.{IsAscii-decimal}
use Rattle.std.proofs.lemmas.Str.{IsUtf8-from_ascii}
use Rattle.number_words.proofs.numbers.number_of.Goals as goal

pub returns-in-Err-clause-exact : goal.returns-in-Err-clause-exact
returns-in-Err-clause-exact c n small spelled =
    absurd (c.in-Err.ensures.cases.0 (subst IsUtf8 (sym spelled) (IsUtf8-from_ascii _ (IsAscii-decimal n (omega arith)))))
