use Rattle.std.proofs.Common.{[], ◌∷◌, ◌++◌, refl, ap, ◌∙◌, arith, rules}
use Rattle.number_words.proofs.Signed.{read_back}
use Rattle.run_record.proofs.Options.{none_of, empty_is, some_is, went_well}
use Rattle.run_record.proofs.NumberLemmas.{numbers_begun, numbers_go_on, numbers_end, no_head, no_number, too_many, no_numbers_left}
use Rattle.run_record.proofs.lines.numbers_of.Goals as goal

pub returns-in-None : goal.returns-in-None
returns-in-None c numbers h = no_head c.args.line.now numbers c.in-None.ensures h

pub pieces-init : goal.pieces-init
pieces-init c = numbers_begun c.in-Some.left.now _ c.empty-numbers.ensures

pub returns-in-None-signed_of : goal.returns-in-None-signed_of
returns-in-None-signed_of c numbers h =
    no_number c.args.line.now c.in-Some.left.now c.pieces.numbers c.pieces.left.now c.in-Some-next_piece.piece.now c.in-Some-next_piece.rest.now numbers c.in-Some.ensures
    c.pieces.invariant.0 c.in-Some-next_piece.ensures (λ z fit s. let x = c.signed_of.ensures.exact z fit s in cc) h

pub returns-then-len-ge-MOST_NUMBERS : goal.returns-then-len-ge-MOST_NUMBERS
returns-then-len-ge-MOST_NUMBERS c numbers h =
    too_many c.args.line.now c.in-Some.left.now c.pieces.numbers c.pieces.left.now c.in-Some-next_piece.piece.now c.in-Some-next_piece.rest.now numbers c.in-Some.ensures
    c.pieces.invariant.0 c.in-Some-next_piece.ensures (omega arith) h

pub pieces-preserved : goal.pieces-preserved
pieces-preserved c =
    numbers_go_on c.in-Some.left.now c.pieces.numbers c.pieces.left.now c.in-Some-next_piece.piece.now c.in-Some-next_piece.rest.now c.in-Some-signed_of.number _
    c.pieces.invariant.0 (omega arith) c.in-Some-next_piece.ensures c.in-Some-signed_of.ensures.some c.in-Some-signed_of.ensures.fits
    (went_well _ _ _ c.if-is_err.ensures.value c.push.ensures ∙ ap (λ z. c.pieces.numbers ++ z ∷ []) (read_back c.in-Some-signed_of.number c.in-Some-signed_of.number refl c.in-Some-signed_of.ensures.fits))

pub returns-then-not-is_empty : goal.returns-then-not-is_empty
returns-then-not-is_empty c numbers h =
    no_numbers_left c.args.line.now c.in-Some.left.now c.pieces.numbers c.pieces.left.now numbers c.in-Some.ensures c.pieces.invariant.0
    (none_of _ _ _ c.in_default.not-Some c.next_piece.ensures) (some_is c.pieces.left.now _ c.is_empty.ensures (search rules)) h

pub returns : goal.returns
returns c =
    numbers_end c.args.line.now c.in-Some.left.now c.pieces.numbers c.pieces.left.now c.in-Some.ensures c.pieces.invariant.0 c.pieces.invariant.1
    (empty_is c.pieces.left.now _ c.is_empty.ensures (search rules))
