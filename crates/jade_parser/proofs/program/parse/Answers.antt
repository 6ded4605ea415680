use Rattle.jade_parser.proofs.Texts.{reading, refused_place, long_place, seen_known}
use Rattle.jade_parser.proofs.program.parse.Goals as goal

pub returns-in-Ok-parse_seen-clause-read : goal.returns-in-Ok-parse_seen-clause-read
returns-in-Ok-parse_seen-clause-read c = reading _ _ c.in-Ok.ensures _ (rw c.as_slice.ensures.value at c.in-Ok-parse_seen.ensures)

pub returns-in-Err-Token-clause-refused : goal.returns-in-Err-Token-clause-refused
returns-in-Err-Token-clause-refused c =
    refused_place _ _ c.in-Ok.ensures _ _ c.place_of.ensures (rw (c.as_slice.ensures.value, c.in-Err-Token.field-0-is) at c.in-Err-Token.ensures)

pub returns-in-Err-Long-clause-refused : goal.returns-in-Err-Long-clause-refused
returns-in-Err-Long-clause-refused c =
    long_place _ _ c.in-Ok.ensures _ _ c.place_of-in-Err-Long.ensures (rw (c.as_slice.ensures.value, c.in-Err-Long.field-0-is) at c.in-Err-Long.ensures)

pub parse_seen-requires : goal.parse_seen-requires
parse_seen-requires c = rw c.as_slice.ensures.value (seen_known c.args.tokens.now _ c.in-Ok.ensures)
