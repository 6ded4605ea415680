use Rattle.std.proofs.Common.{length, ◌≤◌, not, arith}
use Rattle.std.proofs.Math.Dec.{eqb}
use Rattle.std.proofs.lemmas.List.Sums.{prefix_len-le-length}
use Rattle.std.proofs.lemmas.Result.{IfOk-weaker}
use Rattle.jade_lexer.specs.Reading.{part_length}
use Rattle.jade_lexer.proofs.Longest.{longest-le}
use Rattle.jade_lexer.proofs.lexer.first_part.Goals as goal

pub returns-then-begins_comment-clause-within : goal.returns-then-begins_comment-clause-within
returns-then-begins_comment-clause-within c =
    omega (arith, c.line_length.ensures, prefix_len-le-length (λ b. not (eqb b 10)) c.args.bytes.now)

pub split_at-requires : goal.split_at-requires
split_at-requires c = omega (arith, c.token_length-length.ensures, longest-le c.args.bytes.now)

pub returns-clause-within : goal.returns-clause-within
returns-clause-within c =
    IfOk-weaker c.token_part.result (λ part. part_length part ≤ length c.split_at.result.0.now) (λ part. part_length part ≤ length c.args.bytes.now)
    (λ part within. omega (arith, c.split_at.ensures.front_len, c.token_length-length.ensures, longest-le c.args.bytes.now)) c.token_part.ensures.within
