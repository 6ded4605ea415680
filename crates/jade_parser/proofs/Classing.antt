-- One more token classified.
use Rattle.std.proofs.Common.{◌≡◌, ℕ, ◌+◌, List, [], ◌∷◌, ◌++◌, Some, map, take, refl, ap, ◌∙◌}
use Rattle.std.specs.List.{slice_get}
use Rattle.std.proofs.lemmas.List.{take_more, map-append}
use Rattle.std.proofs.lemmas.Option.{slice_get_within, get_or_from_slice_get}
use Rattle.jade_lexer.specs.Lexemes.{TokenAt}
use Rattle.jade_parser.specs.declared.Seen.{Seen}
use Rattle.jade_parser.specs.Kinds.{token_of_bytes}
use Rattle.jade_parser.specs.steps.Reads.{IsSeen}
use Rattle.jade_parser.specs.steps.Reads.{token_of}

mapped : {A B C : Type 0} (f : A → C) (g : B → C) (xs : List A) (ys : List B) (x : A) (y : B) → map g ys ≡ map f xs → g y ≡ f x → map g (ys ++ y ∷ [])
    ≡ map f (xs ++ x ∷ [])
mapped f g xs ys x y p q = rw (map-append g ys (y ∷ []), map-append f xs (x ∷ []), p, q) refl

pub seen_more : (lexemes : List TokenAt) (i : ℕ) (t : TokenAt) (all new : List Seen) (s : Seen) → slice_get lexemes i ≡ Some t → new ≡ all ++ s ∷ []
    → token_of s.kind ≡ token_of_bytes t.bytes → s.pos ≡ t.pos
    → IsSeen (take i lexemes) all → IsSeen (take (i + 1) lexemes) new
seen_more lexemes i t all new s h e k p f =
    let lt = slice_get_within lexemes i t h in
    let m : take (i + 1) lexemes ≡ take i lexemes ++ t ∷ [] =
    take_more lexemes i t lt ∙ ap (λ x. take i lexemes ++ x ∷ []) (get_or_from_slice_get lexemes i t t h) in
    rw (m, e) (record {
      tokens = mapped (λ (t : TokenAt). token_of_bytes t.bytes) (λ (s : Seen). token_of s.kind) (take i lexemes) all t s f.tokens k;
      places = mapped (λ (t : TokenAt). t.pos) (λ (s : Seen). s.pos) (take i lexemes) all t s f.places p;
    })
