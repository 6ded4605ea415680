-- Tokens at other places are read as the program with these.
use Rattle.std.proofs.Common.{◌≡◌, ℕ, zero, suc, ◌+◌, ◌<◌, ◌&&◌, List, [], ◌∷◌, Option, Some, None, length, refl, ap, sym, ◌∙◌, map, arith, subst}
use Rattle.std.specs.Prelude.{nat_le}
use Rattle.std.specs.List.{list_all}
use Rattle.std.proofs.lemmas.List.{length-map}
use Rattle.jade_base.specs.declared.place.Pos.{Pos}
use Rattle.jade_lexer.specs.Lexemes.{TokenAt, TokenList}
use Rattle.jade_alphabet.specs.declared.TheConstants.{EXPRESSION_LIMIT}
use Rattle.jade_syntax.specs.declared.shapes.place.BlockKind.TheVariants.{Main}
use Rattle.jade_syntax.specs.declared.tree.Program.{Program}
use Rattle.jade_parser.specs.Spelled.{Token, Fixed, Called, Counted, Unknown, Part, Parts, Agrees, KeptAt, pos_in, is_valid, tokens_of}
use Rattle.jade_parser.specs.Kinds.{token_bytes}
use Rattle.jade_parser.specs.Programs.{program_parts}
use Rattle.jade_parser.specs.Grammar.{IsReading, bytes_of}
use Rattle.replaced_trees.specs.Parts.{token_replaced, parts_replaced, kept_replaced}
use Rattle.replaced_trees.specs.MovedTree.{tree_moved, token_moved, tokens_moved}
use Rattle.replaced_trees.proofs.MovedStatements.{program_spelt, body_stands}

module _ (home : Pos → Pos) where
  token_stays : (t : Token) → token_replaced (λ x. x) home t ≡ t
  token_stays (Fixed s) = refl
  token_stays (Called n) = refl
  token_stays (Counted v) = refl
  token_stays Unknown = refl

  bytes_stay : (ps : Parts) → bytes_of (parts_replaced (λ x. x) home ps) ≡ bytes_of ps
  bytes_stay [] = refl
  bytes_stay (p ∷ ps) = λ i. token_bytes (token_stays p.token i) ∷ bytes_stay ps i

  all_valid : (ps : Parts) → list_all (λ (p : Part). is_valid p.token) (parts_replaced (λ x. x) home ps) ≡ list_all (λ (p : Part). is_valid p.token) ps
  all_valid [] = refl
  all_valid (p ∷ ps) = λ i. is_valid (token_stays p.token i) && all_valid ps i

  all_short : (ps : Parts)
      → list_all (λ (p : Part). nat_le p.nth EXPRESSION_LIMIT) (parts_replaced (λ x. x) home ps) ≡ list_all (λ (p : Part). nat_le p.nth EXPRESSION_LIMIT) ps
  all_short [] = refl
  all_short (p ∷ ps) = ap (λ b. nat_le p.nth EXPRESSION_LIMIT && b) (all_short ps)

  abbrev bytes_in : List TokenAt → List (List ℕ)
  bytes_in ts = map (λ (t : TokenAt). t.bytes) ts

  abbrev places_in : List TokenAt → List Pos
  places_in ts = map (λ (t : TokenAt). t.pos) ts

  texts_stay : (ts : List TokenAt) → bytes_in (map (token_moved home) ts) ≡ bytes_in ts
  texts_stay [] = refl
  texts_stay (t ∷ ts) = ap (λ (l : List (List ℕ)). t.bytes ∷ l) (texts_stay ts)

  place_moves : (ts : List TokenAt) (k : ℕ) → k < length ts → home (pos_in (places_in ts) k) ≡ pos_in (places_in (map (token_moved home) ts)) k
  place_moves [] k h = absurd (omega (arith, h))
  place_moves (t ∷ ts) zero h = refl
  place_moves (t ∷ ts) (suc k) h = place_moves ts k (omega (arith, h))

  kept_moves : (o : Option Pos) (p q : Pos) → home p ≡ q → KeptAt o p → KeptAt (kept_replaced (λ x. x) home o) q
  kept_moves None p q e h = tt
  kept_moves (Some r) p q e h = ap home h ∙ e

  agrees_moves : (ts : List TokenAt) (n : ℕ) (ps : Parts) → n + length ps ≡ length ts → Agrees (places_in ts) n ps
      → Agrees (places_in (map (token_moved home) ts)) n (parts_replaced (λ x. x) home ps)
  agrees_moves ts n [] e h = tt
  agrees_moves ts n (p ∷ ps) e h = (
    kept_moves p.at (pos_in (places_in ts) n) (pos_in (places_in (map (token_moved home) ts)) n) (place_moves ts n (omega (arith, e))) h.0,
    agrees_moves ts (n + 1) ps (omega (arith, e)) h.1,
  )

  as_many : (ps : Parts) (ts : List TokenAt) → bytes_of ps ≡ bytes_in ts → 0 + length ps ≡ length ts
  as_many ps ts e =
      let a : length (bytes_of ps) ≡ length (bytes_in ts) = ap length e in
      let b = length-map (tokens_of ps) token_bytes in let c = length-map ps (λ (p : Part). p.token) in
      let d = length-map ts (λ (t : TokenAt). t.bytes) in omega (arith, a, b, c, d)

  pub reading_moves : (l : TokenList) (p : Program) → IsReading l p → IsReading (tokens_moved home l) (tree_moved home p)
  reading_moves l p r = record {
    spelled = ap bytes_of (program_spelt home p) ∙ bytes_stay (program_parts p) ∙ r.spelled ∙ sym (texts_stay l.lexemes);
    placed = subst (λ (ps : Parts). Agrees (places_in (map (token_moved home) l.lexemes)) 0 ps) (sym (program_spelt home p))
        (agrees_moves l.lexemes 0 (program_parts p) (as_many (program_parts p) l.lexemes r.spelled) r.placed);
    sound = record {
      proper = record { is = record { is = body_stands home Main p.main ∙ r.sound.proper.is.is } };
      valid = record {
        is = ap (list_all (λ (q : Part). is_valid q.token)) (program_spelt home p) ∙ all_valid (program_parts p) ∙ r.sound.valid.is;
      };
    };
    short = record {
      is = ap (list_all (λ (q : Part). nat_le q.nth EXPRESSION_LIMIT)) (program_spelt home p) ∙ all_short (program_parts p) ∙ r.short.is;
    };
  }
