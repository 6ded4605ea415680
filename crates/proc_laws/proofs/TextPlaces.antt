-- Where the tokens of the text that is written for a source come from.
use Rattle.std.proofs.Common.{◌≡◌, ℕ, ◌+◌, ◌<◌, Bool, true, false, ◌&&◌, List, [], ◌∷◌, ◌++◌, length, map, refl, ap, ◌∙◌, arith}
use Rattle.std.specs.Prelude.{nat_eq, ◌==◌, if◌then◌else◌}
use Rattle.std.specs.List.{list_all}
use Rattle.std.proofs.lemmas.Bool.{cond-true, cond-false, eqb-true, eq-eqb}
use Rattle.jade_base.specs.declared.place.Pos.{Pos}
use Rattle.jade_lexer.specs.Alphabet.{is_token}
use Rattle.jade_lexer.specs.Lexemes.{TokenAt, TokenList}
use Rattle.jade_lexer.specs.Cut.{IsCut, Spans}
use Rattle.jade_lexer.specs.Reading.{reading, Whole, first_spot, next_pos, pos_after}
use Rattle.jade_parser.specs.Grammar.{positions}
use Rattle.proc_expand.specs.Expanded.{origin_from, origin_of}
use Rattle.proc_expand.specs.Written.{MadeToken, spaced, expansion, expanded_text}
use Rattle.proc_laws.specs.SourceReading.{made_token, expanded_tokens}
use Rattle.proc_laws.proofs.AllTokens.{expansion_ok, cut_ok}
use Rattle.proc_laws.proofs.TextRead.{laid, text_laid}

abbrev places_of : List TokenAt → List Pos
places_of ts = map (λ (t : TokenAt). t.pos) ts

differ : (a b : ℕ) → (a ≡ b → ⊥) → nat_eq a b ≡ false
differ a b h = by (nat_eq a b) refl
  where
    by : (t : Bool) → nat_eq a b ≡ t → t ≡ false
    by true e = absurd (h (eqb-true a b e))
    by false e = refl

-- tokens further on are not the first
passed : (end : Pos) (column : ℕ) (t : MadeToken) (us : List MadeToken) (start next : ℕ) (vs : List MadeToken) → column < next
    → map (origin_from end column (t ∷ us)) (places_of (laid start next vs)) ≡ map (origin_from end (column + length t.bytes + 1) us) (places_of (laid start next vs))
passed end column t us start next [] h = refl
passed end column t us start next (v ∷ vs) h =
    let here = cond-false (nat_eq column next) t.origin (origin_from end (column + length t.bytes + 1) us (record { line = 1; column = next })) (differ column next (λ e. omega (arith, e, h))) in
    let later = passed end column t us (start + length v.bytes + 1) (next + length v.bytes + 1) vs (omega (arith, h)) in
    λ i. here i ∷ later i

found : (end : Pos) (start column : ℕ) (us : List MadeToken)
    → map (origin_from end column us) (places_of (laid start column us)) ≡ places_of (map made_token us)
found end start column [] = refl
found end start column (t ∷ us) =
    let s : ℕ = start + length t.bytes + 1 in
    let c : ℕ = column + length t.bytes + 1 in
    let here = cond-true (nat_eq column column) t.origin (origin_from end c us (record { line = 1; column = column })) (eq-eqb column column refl) in
    let later = passed end column t us s c us (omega arith) ∙ found end s c us in
    λ i. here i ∷ later i

pub places_come : (l there : TokenList) → list_all (λ (t : MadeToken). is_token t.bytes) (expansion l.lexemes l.end) ≡ true
    → reading (expanded_text l) ≡ Whole there
    → map (origin_of (record { tokens = expansion l.lexemes l.end; end = l.end })) (positions there) ≡ positions (expanded_tokens l)
places_come l there h r =
    ap (λ ts. map (origin_of (record { tokens = expansion l.lexemes l.end; end = l.end })) (places_of ts)) (text_laid l there h r)
    ∙ found l.end 0 1 (expansion l.lexemes l.end)

-- ---- where the text ends

after_feed : (p : Pos) (xs : List ℕ) → 0 < p.line → 1 < (pos_after p (xs ++ 10 ∷ [])).line
after_feed p [] h = omega (arith, h)
after_feed p (x ∷ xs) h =
    after_feed (next_pos p x) xs (by (x == 10) (record { line = p.line + 1; column = 1 }) (record { line = p.line; column = p.column + 1 }) (omega arith) h)
  where
    by : (b : Bool) (q r : Pos) → 0 < q.line → 0 < r.line → 0 < (if b then q else r).line
    by true q r f g = f
    by false q r f g = g

no_origin : (end p : Pos) (column : ℕ) (us : List MadeToken) → nat_eq p.line 1 ≡ false → origin_from end column us p ≡ end
no_origin end p column [] h = refl
no_origin end p column (t ∷ us) h =
    cond-false (nat_eq p.line 1 && nat_eq column p.column) t.origin (origin_from end (column + length t.bytes + 1) us p)
    (ap (λ b. b && nat_eq column p.column) h) ∙ no_origin end p (column + length t.bytes + 1) us h

-- ---- for the tokens of a text

module _ (cut : (text : List ℕ) (tokens : TokenList) → reading text ≡ Whole tokens → IsCut text tokens) where
  pub places_come_back : (text : List ℕ) (l : TokenList) → reading text ≡ Whole l → (there : TokenList) → reading (expanded_text l) ≡ Whole there
      → map (origin_of (record { tokens = expansion l.lexemes l.end; end = l.end })) (positions there) ≡ positions (expanded_tokens l)
  places_come_back text l h there r =
      places_come l there (expansion_ok l.lexemes l.end (cut_ok l.end first_spot text l.lexemes (cut text l h))) r

  pub end_comes_back : ((text : List ℕ) (tokens : TokenList) → IsCut text tokens → Spans text tokens)
      → (l there : TokenList) → reading (expanded_text l) ≡ Whole there
      → origin_of (record { tokens = expansion l.lexemes l.end; end = l.end }) there.end ≡ l.end
  end_comes_back spans l there r =
      let s = spans (expanded_text l) there (cut (expanded_text l) there r) in
      let u = after_feed first_spot.pos (spaced (expansion l.lexemes l.end)) (omega arith) in
      ap (origin_from l.end 1 (expansion l.lexemes l.end)) s.end
      ∙ no_origin l.end (pos_after first_spot.pos (expanded_text l)) 1 (expansion l.lexemes l.end)
      (differ (pos_after first_spot.pos (expanded_text l)).line 1 (λ e. omega (arith, e, u)))
