use Rattle.std.proofs.Common.{◌≡◌, ℕ, ◌<◌, ◌^◌, Result, Ok, arith, List}
use Rattle.std.specs.Fmt.{decimal}
use Rattle.std.proofs.lemmas.Fmt.{parse-decimal}
use Rattle.std.specs.Str.Parse.{ParsesUnsigned}
use Rattle.number_words.proofs.numbers.parsed.Goals as goal

-- a text that spells a number is parsed as that number
parse_gives : {E : Type 0} (n : ℕ) (text : List ℕ) (r : Result ℕ E) → n < 2 ^ 32 → text ≡ decimal n → ParsesUnsigned 32 10 text r → r ≡ Ok n
parse_gives n text r small spelled h = parse-decimal 32 n text r small (omega arith) spelled h

pub returns-in-Ok : goal.returns-in-Ok
returns-in-Ok c n small spelled = let e = parse_gives n _ _ small spelled c.parse.ensures.value.0 in cc

pub returns-in-Err : goal.returns-in-Err
returns-in-Err c n small spelled = let e = parse_gives n _ _ small spelled c.parse.ensures.value.0 in cc
