use Rattle.run_record.proofs.Same.{whole_record}
use Rattle.run_record.proofs.read.read_record.Goals as goal

pub returns : goal.returns
returns c =
    let limit = c.in-Ok-read_limit in
    let numbers = c.in-Ok-read_numbers in
    let turns = c.in-Ok-read_turns in
    let ending = c.in-Ok-read_ending in
    whole_record c.args.bytes.now c.in-Ok.rest.bytes.now limit.limit.1.bytes.now numbers.numbers.1.bytes.now turns.turns.2.bytes.now c.in-Ok.rest.number limit.limit.1.number
    numbers.numbers.1.number turns.turns.2.number limit.limit.0 numbers.numbers.0 turns.turns.0 turns.turns.1 ending.ending.0 ending.ending.1 c.in-Ok.ensures
    limit.ensures.0.some limit.ensures.0.within limit.ensures.1 numbers.ensures.0 numbers.ensures.1 turns.ensures ending.ensures
