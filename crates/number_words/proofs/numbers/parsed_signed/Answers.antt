use Rattle.std.proofs.Common.{ap, Some}
use Rattle.number_words.proofs.Signed.{parse_gives, ok_is, read_back}
use Rattle.number_words.proofs.numbers.parsed_signed.Goals as goal

pub returns-in-Ok : goal.returns-in-Ok
returns-in-Ok c z h spelled =
    let e = parse_gives z _ _ h spelled c.parse.ensures.value.0 in
    ap Some (read_back c.in-Ok.number z (ok_is _ c.in-Ok.number z c.in-Ok.is e) h)

pub returns-in-Err : goal.returns-in-Err
returns-in-Err c z h spelled = let e = parse_gives z _ _ h spelled c.parse.ensures.value.0 in cc
