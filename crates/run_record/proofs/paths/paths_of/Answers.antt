use Rattle.std.proofs.Common.{arith, rules}
use Rattle.run_record.proofs.Options.{none_of, empty_is, some_is, went_well}
use Rattle.run_record.proofs.PathLemmas.{no_path_among, no_paths_left, paths_whole, paths_begun, paths_go_on, not_none, none_yet}
use Rattle.run_record.proofs.paths.paths_of.Goals as goal

pub pieces-init : goal.pieces-init
pieces-init c = paths_begun c.args.text.now _ c.empty-paths.ensures

pub returns-in-Err : goal.returns-in-Err
returns-in-Err c =
    no_path_among c.args.text.now c.pieces.paths c.pieces.left.now c.in-Some.piece.now c.in-Some.rest.now c.in-Err.error c.pieces.invariant c.in-Some.ensures c.in-Err.ensures

pub pieces-preserved : goal.pieces-preserved
pieces-preserved c =
    paths_go_on c.args.text.now c.pieces.paths c.pieces.left.now c.in-Some.piece.now c.in-Some.rest.now c.in-Ok.path _ c.pieces.invariant c.in-Some.ensures c.in-Ok.ensures.0
    c.in-Ok.ensures.1 (went_well _ _ _ c.if-is_err.ensures.value c.push.ensures)

pub returns-then-len-eq0 : goal.returns-then-len-eq0
returns-then-len-eq0 c all some good e =
    no_paths_left c.args.text.now c.pieces.paths c.pieces.left.now all c.pieces.invariant (none_of _ _ _ c.in_default.not-Some c.next_piece.ensures)
    (λ h l. h (none_yet c.pieces.paths (omega arith))) some good e

pub returns-then-not-is_empty : goal.returns-then-not-is_empty
returns-then-not-is_empty c all some good e =
    no_paths_left c.args.text.now c.pieces.paths c.pieces.left.now all c.pieces.invariant (none_of _ _ _ c.in_default.not-Some c.next_piece.ensures)
    (λ h. some_is c.pieces.left.now _ c.is_empty.ensures (search rules)) some good e

pub returns : goal.returns
returns c = (
  paths_whole c.args.text.now c.pieces.paths c.pieces.left.now c.pieces.invariant (empty_is c.pieces.left.now _ c.is_empty.ensures (search rules)),
  not_none c.pieces.paths (λ l. omega arith),
  c.pieces.invariant.good,
)
