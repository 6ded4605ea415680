use Rattle.std.proofs.Common.{◌∙◌, ◌∷◌, ◌++◌, [], ap, rules}
use Rattle.run_record.proofs.Options.{none_of, empty_is, some_is, was_ok}
use Rattle.run_record.proofs.PathLemmas.{path_begun, path_goes_on, path_ends, no_zero, no_step, no_path_left, path_made}
use Rattle.run_record.proofs.paths.path_of.Goals as goal

pub returns-in-None : goal.returns-in-None
returns-in-None c path h e = no_zero c.args.word.now path c.in-None.ensures h e

pub pieces-init : goal.pieces-init
pieces-init c =
    path_begun c.in-Some.left.now _ (was_ok _ _ c.if-is_err.ensures.value c.push.ensures.ok ∙ ap (λ l. l ++ 0 ∷ []) c.new-numbers.ensures.items)

pub returns-in-None-number_of : goal.returns-in-None-number_of
returns-in-None-number_of c path h e =
    no_step c.args.word.now c.in-Some.left.now c.pieces.numbers.items c.pieces.left.now c.in-Some-next_piece.piece.now c.in-Some-next_piece.rest.now path c.in-Some.ensures
    c.pieces.invariant c.in-Some-next_piece.ensures (λ n lt s. let x = c.number_of.ensures.exact n lt s in cc) h e

pub pieces-preserved : goal.pieces-preserved
pieces-preserved c =
    path_goes_on c.in-Some.left.now c.pieces.numbers.items c.pieces.left.now c.in-Some-next_piece.piece.now c.in-Some-next_piece.rest.now _ c.in-Some-number_of.number
    c.pieces.invariant c.in-Some-next_piece.ensures c.in-Some-number_of.ensures.some c.in-Some-number_of.ensures.fits
    (was_ok _ _ c.if-is_err-2.ensures.value c.push-in-Some-next_piece.ensures.ok)

pub returns-then-not-is_empty : goal.returns-then-not-is_empty
returns-then-not-is_empty c path h e =
    no_path_left c.args.word.now c.in-Some.left.now c.pieces.numbers.items c.pieces.left.now path c.in-Some.ensures c.pieces.invariant
    (none_of _ _ _ c.in_default.not-Some c.next_piece.ensures) (some_is c.pieces.left.now _ c.is_empty.ensures (search rules)) h e

pub returns-in-Ok : goal.returns-in-Ok
returns-in-Ok c =
    let w =
    path_made c.args.word.now c.in-Ok.path c.pieces.numbers.items (c.in-Ok.ensures ∙ c.as_slice.ensures)
    (path_ends c.args.word.now c.in-Some.left.now c.pieces.numbers.items c.pieces.left.now c.in-Some.ensures c.pieces.invariant
    (empty_is c.pieces.left.now _ c.is_empty.ensures (search rules))) in
    (w.spelled, w.fit)
