-- A text has no more tokens than bytes.
use Rattle.std.proofs.Common.{◌≡◌, ℕ, suc, ◌+◌, ◌≤◌, List, [], ◌∷◌, length, drop, ap, arith}
use Rattle.std.specs.Prelude.{All}
use Rattle.std.proofs.lemmas.List.{length-take, length-drop}
use Rattle.jade_lexer.specs.Lexemes.{TokenAt, TokenList}
use Rattle.jade_lexer.specs.Reading.{Whole, reading, first_spot}
use Rattle.jade_lexer.specs.Cut.{StandsIn, InOrder}
use Rattle.jade_lexer.proofs.Cuts.{whole_cut}
use Rattle.jade_lexer.proofs.Standing.{spans_of}

few_from : (text : List ℕ) (n : ℕ) (ts : List TokenAt) → InOrder n ts → All (StandsIn text) ts → n ≤ length text → n + length ts ≤ length text
few_from text n [] order each l = omega (arith, l)
few_from text n (t ∷ ts) order each l =
    let s = each 0 t (omega arith) in let e = ap length s.bytes in let a = length-take (length t.bytes) (drop t.start text) in let b = length-drop t.start text in
    let x = order.0 in let y = order.1 in
    let more = few_from text (t.start + length t.bytes) ts order.2 (λ k d h. each (suc k) d (omega (arith, h))) (omega (arith, e, a, b, y)) in omega (arith, more, x, y)

pub few_tokens : (text : List ℕ) (l : TokenList) → reading text ≡ Whole l → length l.lexemes ≤ length text
few_tokens text l h =
    let spans = spans_of text l (whole_cut first_spot text l h) in
    let few = few_from text 0 l.lexemes spans.order spans.each (omega arith) in omega (arith, few)
