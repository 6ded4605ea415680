-- Where calls and their arguments stand in a text.
use Rattle.std.proofs.Common.{◌≡◌, ℕ, suc, ◌+◌, ◌-◌, Bool, true, false, nat_eq, List, [], ◌∷◌, ◌++◌, length, map, drop, refl, sym, ap, ◌∙◌, arith}
use Rattle.std.specs.Prelude.{if◌then◌else◌}
use Rattle.std.proofs.lemmas.List.{append_assoc, length-append}
use Rattle.std.proofs.lemmas.Bool.{eq-eqb, eqb-true}
use Rattle.jade_base.specs.declared.place.Pos.{Pos}
use Rattle.jade_lexer.specs.Lexemes.{TokenAt}
use Rattle.jade_syntax.specs.declared.tree.Expr.{Expr}
use Rattle.jade_syntax.specs.declared.tree.Statement.{Statement}
use Rattle.jade_syntax.specs.Abstract.{Name}
use Rattle.jade_syntax.specs.Image.{expression}
use Rattle.jade_parser.specs.declared.Sign.TheVariants.{LeftParen, RightParen, Semicolon}
use Rattle.jade_parser.specs.Spelled.{Part, Parts, tokens_of, fixed, outer}
use Rattle.jade_parser.specs.Statements.{statement_parts}
use Rattle.proc_expand.specs.declared.sign.Bracket.TheVariants.{Round}
use Rattle.proc_expand.specs.declared.sign.Sign.{Sign}
use Rattle.proc_expand.specs.declared.sign.Sign.TheVariants as mark
use Rattle.proc_expand.specs.declared.sign.End.TheVariants.{Closed}
use Rattle.proc_expand.specs.Words.{signs, before, bytes_at, closing_from, is_after}
use Rattle.proc_expand.specs.Refusals.{call_end, commas_from, commas}
use Rattle.proc_expand.specs.Written.{MadeToken, Written, CallWriter, pos_at, closed_at, from, spans, arguments}
use Rattle.proc_laws.specs.Expansion.{Made, argument_names}
use Rattle.proc_laws.specs.SourceTree.{Piece}
use Rattle.proc_laws.specs.SourceReading.{more_arguments, argument_parts, takes}
use Rattle.proc_laws.specs.ExpandedTree.{CallTrees}
use Rattle.proc_laws.proofs.SignsOfTokens.{token_sign, parts_signs}
use Rattle.proc_laws.proofs.PlacesInText.{after, places, after_both, after_is, places_from, plus_one, Reads, left, right, sign_at, signs_from}
use Rattle.proc_laws.proofs.InnerTokens.{outer_some}
use Rattle.proc_laws.proofs.LevelParts.{past, closes_after, outer_quiet, signs_both, even_arguments}
use Rattle.proc_laws.proofs.WrittenParts.{Spells, called_names, called_parts, outer_names}

-- ---- arguments

-- each argument that is written is spelled by its expression
pub data AllSpell : List (List MadeToken) → List Expr → Type 0 where
  none : AllSpell [] []
  one : (a : List MadeToken) (more : List (List MadeToken)) (e : Expr) (es : List Expr) → Spells a (outer e) → AllSpell more es
      → AllSpell (a ∷ more) (e ∷ es)

-- what is written is a tree's
pub record IsWritten (w : Written) (t : Made Statement) : Type 0 where
  pub spells : Spells w.tokens (statement_parts t.made)
  pub next : w.next ≡ t.next

abbrev pub more_places : ℕ → List Expr → List (List ℕ)
more_places k [] = []
more_places k (e ∷ es) = places (suc k) (outer e) ∷ more_places (after (suc k) (outer e)) es

abbrev pub argument_places : ℕ → List Expr → List (List ℕ)
argument_places k [] = []
argument_places k (e ∷ es) = places k (outer e) ∷ more_places (after k (outer e)) es

abbrev more_commas : ℕ → List Expr → List ℕ
more_commas k [] = []
more_commas k (e ∷ es) = k ∷ more_commas (after (suc k) (outer e)) es

pub past_after : (k : ℕ) (ps : Parts) → past k (parts_signs ps) ≡ after k ps
past_after k [] = refl
past_after k (p ∷ ps) = ap (λ (i : ℕ). past i (parts_signs ps)) (plus_one k) ∙ past_after (suc k) ps

arguments_called : (es : List Expr) → called_names (tokens_of (more_arguments es)) ≡ argument_names (map expression es)
arguments_called [] = refl
arguments_called (e ∷ es) = called_parts (outer e) (more_arguments es) ∙ (λ i. outer_names e i ++ arguments_called es i)

pub all_called : (es : List Expr) → called_names (tokens_of (argument_parts es)) ≡ argument_names (map expression es)
all_called [] = refl
all_called (e ∷ es) = called_parts (outer e) (more_arguments es) ∙ (λ i. outer_names e i ++ arguments_called es i)

commas_are : (k : ℕ) (es : List Expr) (vs : List Sign)
    → commas_from [] k (parts_signs (more_arguments es) ++ mark.Closes Round ∷ vs) ≡ more_commas k es
commas_are k [] vs = refl
commas_are k (e ∷ es) vs =
    let rest : List Sign = mark.Closes Round ∷ vs in
    ap (λ (l : List ℕ). k ∷ l)
    (ap (λ (l : List Sign). commas_from [] (k + 1) (l ++ rest)) (signs_both (outer e) (more_arguments es))
    ∙ ap (commas_from [] (k + 1)) (append_assoc (parts_signs (outer e)) (parts_signs (more_arguments es)) rest)
    ∙ (outer_quiet e).go [] (k + 1) (parts_signs (more_arguments es) ++ rest)
    ∙ ap (λ (i : ℕ). commas_from [] (past i (parts_signs (outer e))) (parts_signs (more_arguments es) ++ rest)) (plus_one k)
    ∙ ap (λ (i : ℕ). commas_from [] i (parts_signs (more_arguments es) ++ rest)) (past_after (suc k) (outer e))
    ∙ commas_are (after (suc k) (outer e)) es vs)

module _ (ts : List TokenAt) (end : Pos) where
  pub span_is : (k : ℕ) (ps : Parts) → from ts end k (after k ps - k) ≡ places k ps
  span_is k ps =
      let l = after_is k ps in
      let n : after k ps - k ≡ length ps = omega (arith, l) in
      ap (from ts end k) n ∙ sym (places_from ts end k ps)

  spans_are : (k : ℕ) (e : Expr) (es : List Expr)
      → spans ts end k (more_commas (after k (outer e)) es) (after k (outer e ++ more_arguments es)) ≡ places k (outer e) ∷ more_places (after k (outer e)) es
  spans_are k e [] =
      ap (λ (i : ℕ). from ts end k (i - k) ∷ []) (after_both k (outer e) []) ∙ ap (λ (l : List ℕ). l ∷ []) (span_is k (outer e))
  spans_are k e (f ∷ es) =
      let c : ℕ = after k (outer e) in
      ap (λ (i : ℕ). from ts end k (c - k) ∷ spans ts end (suc c) (more_commas (after (suc c) (outer f)) es) i)
      (after_both k (outer e) (more_arguments (f ∷ es)))
      ∙ (λ i. span_is k (outer e) i ∷ spans_are (suc c) f es i)

  -- the arguments of a call whose brackets are closed so, and whose commas are these
  arguments_are : (k : ℕ) (es : List Expr) → call_end (signs ts) k ≡ Closed (after (suc (suc k)) (argument_parts es))
      → commas (signs ts) k ≡ commas_from [] (suc (suc k)) (parts_signs (argument_parts es) ++ mark.Closes Round ∷ drop (suc (after (suc (suc k)) (argument_parts es))) (signs ts))
      → arguments ts end k ≡ argument_places (suc (suc k)) es
  arguments_are k [] h g =
      let t : nat_eq (suc (suc k) + 0) (k + 2) ≡ true = eq-eqb (suc (suc k) + 0) (k + 2) (omega arith) in
      ap (λ b. if nat_eq (if b then 0 else suc (length (commas (signs ts) k))) 0 then []
      else spans ts end (k + 2) (commas (signs ts) k) (closed_at ts end (call_end (signs ts) k)))
      (ap (λ e. is_after 0 e (k + 2)) h ∙ t)
  arguments_are k (e ∷ es) h g =
      let l = after_is (suc (suc k)) (argument_parts (e ∷ es)) in
      let m = length-append (outer e) (more_arguments es) in
      let s = outer_some e in
      let t : is_after 0 (call_end (signs ts) k) (k + 2) ≡ false =
      ap (λ (x : _). is_after 0 x (k + 2)) h ∙ differ (after (suc (suc k)) (argument_parts (e ∷ es)) + 0) (k + 2) (λ q. omega (arith, l, m, s, q)) in
      let c : commas (signs ts) k ≡ more_commas (after (suc (suc k)) (outer e)) es =
      g ∙ first_commas (suc (suc k)) e es _ in
      ap (λ b. if nat_eq (if b then 0 else suc (length (commas (signs ts) k))) 0 then []
      else spans ts end (k + 2) (commas (signs ts) k) (closed_at ts end (call_end (signs ts) k))) t
      ∙ ap (λ b. if b then [] else spans ts end (k + 2) (commas (signs ts) k) (closed_at ts end (call_end (signs ts) k)))
      (differ (suc (length (commas (signs ts) k))) 0 (λ q. omega (arith, q)))
      ∙ (λ i. spans ts end (two k i) (c i) (closed_at ts end (h i)))
      ∙ spans_are (suc (suc k)) e es
    where
      two : (n : ℕ) → n + 2 ≡ suc (suc n)
      two n = omega arith

      differ : (a b : ℕ) → (a ≡ b → ⊥) → nat_eq a b ≡ false
      differ a b f = by (nat_eq a b) refl
        where
          by : (t : Bool) → nat_eq a b ≡ t → t ≡ false
          by true q = absurd (f (eqb-true a b q))
          by false q = refl

      first_commas : (j : ℕ) (e : Expr) (es : List Expr) (vs : List Sign)
          → commas_from [] j (parts_signs (outer e ++ more_arguments es) ++ mark.Closes Round ∷ vs) ≡ more_commas (after j (outer e)) es
      first_commas j e es vs =
          ap (λ (u : List Sign). commas_from [] j (u ++ mark.Closes Round ∷ vs)) (signs_both (outer e) (more_arguments es))
          ∙ ap (commas_from [] j) (append_assoc (parts_signs (outer e)) (parts_signs (more_arguments es)) (mark.Closes Round ∷ vs))
          ∙ (outer_quiet e).go [] j (parts_signs (more_arguments es) ++ mark.Closes Round ∷ vs)
          ∙ ap (λ (i : ℕ). commas_from [] i (parts_signs (more_arguments es) ++ mark.Closes Round ∷ vs)) (past_after j (outer e))
          ∙ commas_are (after j (outer e)) es vs

  -- ---- where a call stands

  abbrev pub call_tail : List Expr → Parts
  call_tail es = argument_parts es ++ fixed RightParen ∷ fixed Semicolon ∷ []

  -- the signs after the opening bracket
  tail_signs : (k : ℕ) (es : List Expr) → Reads ts end k (call_tail es)
      → drop k (signs ts) ≡ parts_signs (argument_parts es) ++ mark.Closes Round ∷ drop (suc (after k (argument_parts es))) (signs ts)
  tail_signs k es r =
      signs_from ts end k (argument_parts es) (left ts end k (argument_parts es) (fixed RightParen ∷ fixed Semicolon ∷ []) r)
      ∙ ap (λ (l : List Sign). parts_signs (argument_parts es) ++ l)
      (signs_from ts end (after k (argument_parts es)) (fixed RightParen ∷ [])
      ((right ts end k (argument_parts es) (fixed RightParen ∷ fixed Semicolon ∷ []) r).0, tt))

  pub closed_call : (k : ℕ) (es : List Expr) → Reads ts end (suc k) (fixed LeftParen ∷ call_tail es)
      → call_end (signs ts) k ≡ Closed (after (suc (suc k)) (argument_parts es))
  closed_call k es r =
      ap (λ (i : ℕ). closing_from [] i (drop i (signs ts))) (plus_one k)
      ∙ ap (closing_from [] (suc k)) (signs_from ts end (suc k) (fixed LeftParen ∷ []) (r.0, tt))
      ∙ ap (λ (i : ℕ). closing_from (Round ∷ []) i (drop (suc (suc k)) (signs ts))) (plus_one (suc k))
      ∙ ap (closing_from (Round ∷ []) (suc (suc k))) (tail_signs (suc (suc k)) es r.1)
      ∙ closes_after (parts_signs (argument_parts es)) (even_arguments es).level Round (suc (suc k)) (drop (suc (after (suc (suc k)) (argument_parts es))) (signs ts))
      ∙ ap Closed (past_after (suc (suc k)) (argument_parts es))

  pub call_arguments : (k : ℕ) (es : List Expr) → Reads ts end (suc k) (fixed LeftParen ∷ call_tail es)
      → arguments ts end k ≡ argument_places (suc (suc k)) es
  call_arguments k es r =
      arguments_are k es (closed_call k es r)
      (ap (λ (i : ℕ). commas_from [] i (drop i (signs ts))) two ∙ ap (commas_from [] (suc (suc k))) (tail_signs (suc (suc k)) es r.1))
    where
      two : k + 2 ≡ suc (suc k)
      two = omega arith

  -- what is written for each call of a name that pieces make known is a tree's
  pub record CallsWritten (calls : CallWriter ts end) (makes : CallTrees) (pieces : List Piece) : Type 0 where
    pub by : (k : ℕ) (x : Name) (p : Pos) (args : List Expr) (made : List (List MadeToken)) (n : ℕ) → bytes_at ts k ≡ x → p ≡ pos_at ts end ts k
        → takes pieces x (length args) ≡ true → AllSpell made args → IsWritten (calls k made n) (makes x p args n)

  -- the sign before what comes after some parts and one more
  pub before_last : (k : ℕ) (a : Parts) (p : Part) → Reads ts end k (a ++ p ∷ []) → before (signs ts) (after k (a ++ p ∷ [])) ≡ token_sign p.token
  before_last k a p r = ap (before (signs ts)) (after_both k a (p ∷ [])) ∙ sign_at ts end (after k a) p (right ts end k a (p ∷ []) r).0
