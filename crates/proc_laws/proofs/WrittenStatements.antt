-- What is written for a statement of a source is its tree with the names replaced, whatever is written for calls.
use Rattle.std.proofs.Common.{◌≡◌, ℕ, zero, suc, ◌+◌, ◌-◌, true, false, ◌&&◌, List, [], ◌∷◌, ◌++◌, Option, Some, None, length, map, refl, sym, ap, ◌∙◌, subst, arith}
use Rattle.std.specs.Prelude.{not}
use Rattle.std.specs.List.{flat_map}
use Rattle.std.proofs.lemmas.List.{append_assoc, append-nil, length-append}
use Rattle.std.proofs.lemmas.List.{length-map}
use Rattle.std.proofs.lemmas.Bool.{and_parts}
use Rattle.jade_base.specs.declared.place.Pos.{Pos}
use Rattle.jade_lexer.specs.Lexemes.{TokenAt}
use Rattle.jade_syntax.specs.declared.tree.CellRef.{CellRef, out-CellRef}
use Rattle.jade_syntax.specs.declared.tree.DeclareWord.{DeclareWord}
use Rattle.jade_syntax.specs.declared.tree.DeclareWord.TheVariants.{Rd, Wr, RdWr, DfRd, DfWr, DfRdWr, Cm, NoRd, NoWr, NoRdWr}
use Rattle.jade_syntax.specs.declared.tree.Expr.{Expr}
use Rattle.jade_syntax.specs.declared.tree.Named.{Named}
use Rattle.jade_syntax.specs.declared.tree.ObjectRef.{ObjectRef}
use Rattle.jade_syntax.specs.declared.tree.Statement.TheOpen.{Statement-F}
use Rattle.jade_syntax.specs.declared.tree.Statement.TheVariants as statement
use Rattle.jade_syntax.specs.declared.tree.Statement.TheVariants.{outs-Local, outs-Assign, outs-Store, outs-If, outs-For, outs-Withonly, outs-With, outs-Declare}
use Rattle.jade_syntax.specs.declared.tree.ValueKind.{ValueKind}
use Rattle.jade_syntax.specs.declared.tree.ValueKind.TheVariants.{Int, Bool as BoolKind}
use Rattle.jade_syntax.specs.Abstract.{Name}
use Rattle.jade_syntax.specs.Image.{expression, reference, object}
use Rattle.jade_parser.specs.declared.Sign.TheVariants.{LeftBracket, LeftParen, RightParen, LeftBrace, RightBrace, Becomes, Semicolon, Comma, DotDot}
use Rattle.jade_parser.specs.declared.Sign.TheVariants.{IfWord, ElseWord, ForWord, InWord, WithonlyWord, WithWord, DoWord, ContWord}
use Rattle.jade_parser.specs.Spelled.{Fixed, Called, Part, Parts, tokens_of, fixed, marked, plain, bracketed, outer}
use Rattle.jade_parser.specs.Statements.{kind_word, declare_word, outer_index, object_parts, target_parts, braced, name_parts, statement_parts}
use Rattle.proc_expand.specs.declared.sign.Bracket.TheVariants.{Round}
use Rattle.proc_expand.specs.declared.sign.Sign.TheVariants as mark
use Rattle.proc_expand.specs.Words.{signs, at, before, is_called, is_proc, opens_round, ends_statement}
use Rattle.proc_expand.specs.Refusals.{is_call, call_end}
use Rattle.proc_expand.specs.Written.{Written, CallWriter, closed_at, write_places, write_one, token_at, arguments}
use Rattle.proc_laws.specs.Expansion.{names_in, place_names, argument_names, action_names, block_names}
use Rattle.proc_laws.specs.SourceTree as source
use Rattle.proc_laws.specs.SourceTree.{Spoken, Spokens, Piece, spoken_action, spoken_actions}
use Rattle.proc_laws.specs.SourceReading.{more_arguments, argument_parts, spoken_parts, block_of, takes, calls_fit, all_fit}
use Rattle.proc_laws.specs.ExpandedTree.{expr_renamed, cell_renamed, object_renamed, named_renamed, CallTrees, tree, trees}
use Rattle.proc_laws.proofs.SignsOfTokens.{token_sign}
use Rattle.proc_laws.proofs.PlacesInText.{after, places, after_is, plus_one, Sound, Reads, left, right, sign_at}
use Rattle.proc_laws.proofs.LevelParts.{calm_both, calm_next}
use Rattle.proc_laws.proofs.LevelParts.{calm_outer, calm_square, calm_index, calm_names, calm_arguments}
use Rattle.proc_laws.proofs.WrittenParts.{Spells, Keeps, called_names, called_parts, no_proc}
use Rattle.proc_laws.proofs.WrittenParts.{no_call_sign, no_call_next, no_call_after, NoCalls, proc_before, quiet_names, calm_no_calls}
use Rattle.proc_laws.proofs.WrittenParts.{quiet_spells, onto, Writes, nothing_written, both, seen_as, quiet, sign_written, token_written, outer_written, call_names}
use Rattle.proc_laws.proofs.RenamedParts.{made_is, object_is, target_is, names_are, object_names, target_names, list_names}
use Rattle.jade_parser.specs.declared.Sign as lexicon
use Rattle.replaced_trees.proofs.SpelledTerms.{outer_spelled}
use Rattle.proc_laws.proofs.InnerTokens.{cell_names}
use Rattle.proc_laws.proofs.WrittenParts.{fixed_plain, no_calls_both}
use Rattle.proc_laws.proofs.CallPlaces.{AllSpell, none, one, IsWritten, CallsWritten, more_places, argument_places, all_called, call_tail, closed_call, call_arguments, before_last}

-- the names of statements, otherwise bracketed
grouped : (x y z : List Name) → (((x ++ y) ++ []) ++ z) ++ [] ≡ x ++ (y ++ z)
grouped x y z = append-nil (((x ++ y) ++ []) ++ z) ∙ ap (λ (l : List Name). l ++ z) (append-nil (x ++ y)) ∙ append_assoc x y z

ranged : (x y z : List Name) → ((x ++ []) ++ y) ++ z ≡ x ++ (y ++ z)
ranged x y z = ap (λ (l : List Name). (l ++ y) ++ z) (append-nil x) ∙ append_assoc x y z

handed : (x y z : List Name) → ((((x ++ []) ++ []) ++ y) ++ []) ++ z ≡ x ++ (y ++ z)
handed x y z =
    ap (λ (l : List Name). l ++ z) (append-nil (((x ++ []) ++ []) ++ y)) ∙ ap (λ (l : List Name). (l ++ y) ++ z) (append-nil (x ++ []) ∙ append-nil x)
    ∙ append_assoc x y z

module _ (ts : List TokenAt) (end : Pos) (follows : (k : ℕ) → is_call (signs ts) k ≡ true → ends_statement (before (signs ts) k) ≡ true)
    (to : Name → Name) (keeps : Keeps to) (calls : CallWriter ts end) (makes : CallTrees) (pieces : List Piece)
    (called : CallsWritten ts end calls makes pieces) where
  abbrev W : ℕ → Parts → Parts → List Name → ℕ → ℕ → Type 0
  W k a c xs n m = Writes ts end to keeps calls k a c xs n m

  pub join : {k : ℕ} {a b c d : Parts} {xs ys : List Name} {n m o : ℕ} → Writes ts end to keeps calls k a c xs n m
      → Writes ts end to keeps calls (after k a) b d ys m o → Writes ts end to keeps calls k (a ++ b) (c ++ d) (xs ++ ys) n o
  join f g = both ts end to keeps calls f g

  as_seen : {k : ℕ} {a c d : Parts} {xs ys : List Name} {n m : ℕ} → c ≡ d → xs ≡ ys → Writes ts end to keeps calls k a c xs n m
      → Writes ts end to keeps calls k a d ys n m
  as_seen e f w = seen_as ts end to keeps calls e f w

  -- ---- words, names and expressions

  pub word : (k n : ℕ) (s : lexicon.Sign) → Sound ts end k (fixed s) → W k (fixed s ∷ []) (fixed s ∷ []) [] n n
  word k n s h = sign_written ts end to keeps calls k n (fixed s) (fixed_plain s) h

  marked_word : (k n : ℕ) (s : lexicon.Sign) (p : Pos) → Sound ts end k (marked (Fixed s) p) → W k (marked (Fixed s) p ∷ []) (marked (Fixed s) p ∷ []) [] n n
  marked_word k n s p h = sign_written ts end to keeps calls k n (marked (Fixed s) p) (fixed_plain s) h

  name : (k n : ℕ) (x : Name) (p : Pos) → is_call (signs ts) k ≡ false → Sound ts end k (marked (Called x) p)
      → W k (marked (Called x) p ∷ []) (marked (Called (to x)) p ∷ []) (x ∷ []) n n
  name k n x p c h = token_written ts end to keeps calls k n (marked (Called x) p) c h

  expr : (k n : ℕ) (e : Expr) → ends_statement (before (signs ts) k) ≡ false → Reads ts end k (outer e)
      → W k (outer e) (outer (expr_renamed to e)) (names_in (expression e)) n n
  expr k n e h r = outer_written ts end to keeps calls k n e r (calm_no_calls ts end follows k (outer e) r (calm_outer e).is h)

  -- what stands directly after a word that ends no statement
  after_word : (k : ℕ) (p : Part) → Sound ts end k p → ends_statement (token_sign p.token) ≡ false → ends_statement (at (signs ts) k) ≡ false
  after_word k p s h = ap ends_statement (sign_at ts end k p s) ∙ h

  value : (k n : ℕ) (e : Expr) → Reads ts end k (fixed Becomes ∷ (outer e ++ fixed Semicolon ∷ []))
      → W k (fixed Becomes ∷ (outer e ++ fixed Semicolon ∷ [])) (fixed Becomes ∷ (outer (expr_renamed to e) ++ fixed Semicolon ∷ []))
      (names_in (expression e)) n n
  value k n e r =
      as_seen refl (append-nil (names_in (expression e)))
      (join (word k n Becomes r.0)
      (join (expr (suc k) n e (after_word k (fixed Becomes) r.0 refl) (left ts end (suc k) (outer e) (fixed Semicolon ∷ []) r.1))
      (word (after (suc k) (outer e)) n Semicolon (right ts end (suc k) (outer e) (fixed Semicolon ∷ []) r.1).0)))

  kind_ends : (kind : ValueKind) → ends_statement (token_sign (kind_word kind)) ≡ false
  kind_ends Int = refl
  kind_ends BoolKind = refl

  kind_written : (k n : ℕ) (kind : ValueKind) → Sound ts end k (plain (kind_word kind)) → W k (plain (kind_word kind) ∷ []) (plain (kind_word kind) ∷ []) [] n n
  kind_written k n Int h = word k n _ h
  kind_written k n BoolKind h = word k n _ h

  how_written : (k n : ℕ) (how : DeclareWord) (p : Pos) → Sound ts end k (marked (declare_word how) p)
      → W k (marked (declare_word how) p ∷ []) (marked (declare_word how) p ∷ []) [] n n
  how_written k n Rd p h = marked_word k n _ p h
  how_written k n Wr p h = marked_word k n _ p h
  how_written k n RdWr p h = marked_word k n _ p h
  how_written k n DfRd p h = marked_word k n _ p h
  how_written k n DfWr p h = marked_word k n _ p h
  how_written k n DfRdWr p h = marked_word k n _ p h
  how_written k n Cm p h = marked_word k n _ p h
  how_written k n NoRd p h = marked_word k n _ p h
  how_written k n NoWr p h = marked_word k n _ p h
  how_written k n NoRdWr p h = marked_word k n _ p h

  bracket_next : (o : Option Expr) (e : Expr) (k : ℕ) → Reads ts end k (outer_index o ++ bracketed (outer e)) → opens_round (at (signs ts) k) ≡ false
  bracket_next None e k r = ap opens_round (sign_at ts end k (fixed LeftBracket) r.0)
  bracket_next (Some i) e k r = ap opens_round (sign_at ts end k (fixed LeftBracket) r.0)

  target : (k n : ℕ) (c : CellRef) → Reads ts end k (target_parts c)
      → W k (target_parts c) (target_parts (cell_renamed to c)) (cell_names (reference c)) n n
  target k n c r =
      let o = out-CellRef c in
      let rest : Parts = outer_index o.family ++ bracketed (outer o.cell) in
      as_seen (target_is to c) (target_names c)
      (quiet ts end to keeps calls k n (target_parts c) r (
        no_call_next ts end k (bracket_next o.family o.cell (suc k) r.1),
        calm_no_calls ts end follows (suc k) rest r.1 (calm_both (outer_index o.family) (bracketed (outer o.cell)) (calm_index o.family) (calm_square o.cell)).is
            (after_word k (marked (Called o.name) o.pos) r.0 refl),
      ))

  declared : (k n : ℕ) (o : ObjectRef) → ends_statement (before (signs ts) k) ≡ false → Reads ts end k (object_parts o)
      → W k (object_parts o) (object_parts (object_renamed to o)) (place_names (object o)) n n
  declared k n o h r =
      as_seen (object_is to o) (object_names o)
      (quiet ts end to keeps calls k n (object_parts o) r
      (calm_no_calls ts end follows k (object_parts o) r (calm_next (marked (Called o.name) o.pos) (outer_index o.member) refl (calm_index o.member)).is h))

  listed : (k n : ℕ) (ns : List Named) → ends_statement (before (signs ts) k) ≡ false → Reads ts end k (name_parts ns)
      → W k (name_parts ns) (name_parts (map (named_renamed to) ns)) (map (λ (x : Named). x.name) ns) n n
  listed k n ns h r =
      as_seen (names_are to ns) (list_names ns)
      (quiet ts end to keeps calls k n (name_parts ns) r (calm_no_calls ts end follows k (name_parts ns) r (calm_names ns).is h))

  -- a block, by its statements
  pub block : (k n m : ℕ) (b c : List Parts) (xs : List Name) → Reads ts end k (braced b)
      → W (suc k) (flat_map (λ (t : Parts). t) b) (flat_map (λ (t : Parts). t) c) xs n m → W k (braced b) (braced c) xs n m
  block k n m b c xs r w =
      as_seen refl (append-nil xs)
      (join (word k n LeftBrace r.0)
      (join w (word (after (suc k) (flat_map (λ (t : Parts). t) b)) m RightBrace
      (right ts end (suc k) (flat_map (λ (t : Parts). t) b) (fixed RightBrace ∷ []) r.1).0)))

  -- ---- calls

  spell_one : (k : ℕ) (e : Expr) → ends_statement (before (signs ts) k) ≡ false → Reads ts end k (outer e)
      → Spells (map (token_at ts end to) (places k (outer e))) (outer (expr_renamed to e))
  spell_one k e h r =
      subst (Spells (map (token_at ts end to) (places k (outer e)))) (sym (outer_spelled to (λ p. p) e))
      (quiet_spells ts end to keeps k (outer e) r (calm_no_calls ts end follows k (outer e) r (calm_outer e).is h))

  spell_more : (k : ℕ) (es : List Expr) → Reads ts end k (more_arguments es)
      → AllSpell (map (λ (ps : List ℕ). map (token_at ts end to) ps) (more_places k es)) (map (expr_renamed to) es)
  spell_more k [] r = none
  spell_more k (e ∷ es) r =
      one _ _ (expr_renamed to e) (map (expr_renamed to) es)
      (spell_one (suc k) e (after_word k (fixed Comma) r.0 refl) (left ts end (suc k) (outer e) (more_arguments es) r.1))
      (spell_more (after (suc k) (outer e)) es (right ts end (suc k) (outer e) (more_arguments es) r.1))

  spell_arguments : (k : ℕ) (es : List Expr) → ends_statement (before (signs ts) k) ≡ false → Reads ts end k (argument_parts es)
      → AllSpell (map (λ (ps : List ℕ). map (token_at ts end to) ps) (argument_places k es)) (map (expr_renamed to) es)
  spell_arguments k [] h r = none
  spell_arguments k (e ∷ es) h r =
      one _ _ (expr_renamed to e) (map (expr_renamed to) es) (spell_one k e h (left ts end k (outer e) (more_arguments es) r))
      (spell_more (after k (outer e)) es (right ts end k (outer e) (more_arguments es) r))

  pass_all : (us ks : List ℕ) (n : ℕ) → write_places ts end calls to (length us) (us ++ ks) n ≡ write_places ts end calls to 0 ks n
  pass_all [] ks n = refl
  pass_all (u ∷ us) ks n = pass_all us ks n

  places_many : (k : ℕ) (ps : Parts) → length (places k ps) ≡ length ps
  places_many k [] = refl
  places_many k (p ∷ ps) = ap suc (places_many (suc k) ps)

  call : (k n : ℕ) (x : Name) (p : Pos) (args : List Expr) → Reads ts end k (marked (Called x) p ∷ fixed LeftParen ∷ call_tail ts end args)
      → takes pieces x (length args) ≡ true → is_proc (before (signs ts) k) ≡ false
      → W k (marked (Called x) p ∷ fixed LeftParen ∷ call_tail ts end args) (statement_parts (makes x p (map (expr_renamed to) args) n).made)
      (argument_names (map expression args)) n (makes x p (map (expr_renamed to) args) n).next
  call k n x p args r f h =
      record {
        made = w.tokens;
        spells = isw.spells;
        by = λ ks.
            ap (λ b. write_one ts end b calls to k n
            (λ m. write_places ts end calls to (suc (closed_at ts end (call_end (signs ts) k) - k)) (places (suc k) tail ++ ks) m)
            (write_places ts end calls to zero (places (suc k) tail ++ ks))) is
            ∙ ap (λ (i : ℕ). onto w.tokens (write_places ts end calls to i (places (suc k) tail ++ ks) w.next)) many
            ∙ ap (onto w.tokens) (pass_all (places (suc k) tail) ks w.next)
            ∙ ap (λ (i : ℕ). onto w.tokens (write_places ts end calls to 0 ks i)) isw.next;
        names = call_names ts end k tail is ∙ quiet_names ts end (suc k) tail r.1 quiet_tail
            ∙ called_parts (argument_parts args) (fixed RightParen ∷ fixed Semicolon ∷ []) ∙ append-nil (called_names (tokens_of (argument_parts args)))
            ∙ all_called args;
      }
    where
      tail : Parts
      tail = fixed LeftParen ∷ call_tail ts end args

      j : ℕ
      j = after (suc (suc k)) (argument_parts args)

      first : at (signs ts) k ≡ mark.Called
      first = sign_at ts end k (marked (Called x) p) r.0

      second : at (signs ts) (k + 1) ≡ mark.Opens Round
      second = ap (at (signs ts)) (plus_one k) ∙ sign_at ts end (suc k) (fixed LeftParen) r.1.0

      is : is_call (signs ts) k ≡ true
      is = λ i. is_called (first i) && opens_round (second i) && not (h i)

      w : Written
      w = calls k (map (λ (ps : List ℕ). map (token_at ts end to) ps) (arguments ts end k)) n

      inside : Reads ts end (suc (suc k)) (argument_parts args)
      inside = left ts end (suc (suc k)) (argument_parts args) (fixed RightParen ∷ fixed Semicolon ∷ []) r.1.1

      ends : Reads ts end j (fixed RightParen ∷ fixed Semicolon ∷ [])
      ends = right ts end (suc (suc k)) (argument_parts args) (fixed RightParen ∷ fixed Semicolon ∷ []) r.1.1

      begun : ends_statement (at (signs ts) (suc k)) ≡ false
      begun = after_word (suc k) (fixed LeftParen) r.1.0 refl

      isw : IsWritten w (makes x p (map (expr_renamed to) args) n)
      isw = called.by k x p (map (expr_renamed to) args) (map (λ (ps : List ℕ). map (token_at ts end to) ps) (arguments ts end k)) n
          r.0.stand.bytes r.0.stand.kept (ap (takes pieces x) (length-map args (expr_renamed to)) ∙ f)
          (subst (λ (u : List (List ℕ)). AllSpell (map (λ (ps : List ℕ). map (token_at ts end to) ps) u) (map (expr_renamed to) args))
          (sym (call_arguments ts end k args r.1)) (spell_arguments (suc (suc k)) args begun inside))

      many : suc (closed_at ts end (call_end (signs ts) k) - k) ≡ length (places (suc k) tail)
      many =
          let e : closed_at ts end (call_end (signs ts) k) ≡ j = ap (closed_at ts end) (closed_call ts end k args r.1) in
          let a = after_is (suc (suc k)) (argument_parts args) in
          let b = places_many (suc k) tail in
          let l = length-append (argument_parts args) (fixed RightParen ∷ fixed Semicolon ∷ []) in
          omega (arith, e, a, b, l)

      quiet_tail : NoCalls ts end (suc k) tail
      quiet_tail = (
        no_call_sign ts end (suc k) (ap is_called (sign_at ts end (suc k) (fixed LeftParen) r.1.0)),
        no_calls_both ts end (suc (suc k)) (argument_parts args) (fixed RightParen ∷ fixed Semicolon ∷ [])
            (calm_no_calls ts end follows (suc (suc k)) (argument_parts args) inside (calm_arguments args).is begun) (
              no_call_sign ts end j (ap is_called (sign_at ts end j (fixed RightParen) ends.0)),
              (no_call_sign ts end (suc j) (ap is_called (sign_at ts end (suc j) (fixed Semicolon) ends.1.0)), tt),
            ),
      )

  -- ---- statements

  no_proc_after : (k : ℕ) (p : Part) → Sound ts end k p → is_proc (at (signs ts) k) ≡ false
  no_proc_after k p s = ap is_proc (sign_at ts end k p s) ∙ no_proc p.token

  mutual
    pub spoken : (a : Spoken) (k n : ℕ) → Reads ts end k (spoken_parts a) → calls_fit pieces a ≡ true → is_proc (before (signs ts) k) ≡ false
        → W k (spoken_parts a) (statement_parts (tree makes to a n).made) (action_names (spoken_action a)) n (tree makes to a n).next
    spoken (source.Local kind x p e) k n r f h =
        as_seen (sym (made_is (statement.Local kind (to x) p (expr_renamed to e)) (Statement-F.Local kind (to x) p (expr_renamed to e))
        (outs-Local kind (to x) p (expr_renamed to e)))) refl
        (join (kind_written k n kind r.0)
        (join (name (suc k) n x p (no_call_after ts end follows (suc k) (after_word k (plain (kind_word kind)) r.0 (kind_ends kind))) r.1.0)
        (value (suc (suc k)) n e r.1.1)))
    spoken (source.Assign x p e) k n r f h =
        as_seen (sym (made_is (statement.Assign (to x) p (expr_renamed to e)) (Statement-F.Assign (to x) p (expr_renamed to e))
        (outs-Assign (to x) p (expr_renamed to e)))) refl
        (join (name k n x p (no_call_next ts end k (ap opens_round (sign_at ts end (suc k) (fixed Becomes) r.1.0))) r.0)
        (value (suc k) n e r.1))
    spoken (source.Store c e) k n r f h =
        let a : Parts = target_parts c ++ fixed Becomes ∷ [] in
        let b : Parts = a ++ outer e in
        let rb = left ts end k b (fixed Semicolon ∷ []) r in
        let ra = left ts end k a (outer e) rb in
        as_seen (sym (made_is (statement.Store (cell_renamed to c) (expr_renamed to e)) (Statement-F.Store (cell_renamed to c) (expr_renamed to e))
        (outs-Store (cell_renamed to c) (expr_renamed to e))))
        (grouped (place_names (reference c).place) (names_in (reference c).cell) (names_in (expression e)))
        (join (join (join (target k n c (left ts end k (target_parts c) (fixed Becomes ∷ []) ra))
        (word (after k (target_parts c)) n Becomes (right ts end k (target_parts c) (fixed Becomes ∷ []) ra).0))
        (expr (after k a) n e (ap ends_statement (before_last ts end k (target_parts c) (fixed Becomes) ra)) (right ts end k a (outer e) rb)))
        (word (after k b) n Semicolon (right ts end k b (fixed Semicolon ∷ []) r).0))
    spoken (source.If e first) k n r f h =
        let a : Parts = outer e ++ braced (block_of first) in
        let ra = left ts end (suc k) a [] r.1 in
        let rb = right ts end (suc k) (outer e) (braced (block_of first)) ra in
        let i : ℕ = after (suc k) (outer e) in
        let b = trees makes to first n in
        as_seen (sym (made_is (statement.If (expr_renamed to e) b.made None) (Statement-F.If (expr_renamed to e) b.made None)
        (outs-If (expr_renamed to e) b.made None)))
        (append-nil (names_in (expression e) ++ block_names (spoken_actions first)))
        (join (word k n IfWord r.0)
        (join (join (expr (suc k) n e (after_word k (fixed IfWord) r.0 refl) (left ts end (suc k) (outer e) (braced (block_of first)) ra))
        (block i n b.next (block_of first) (map statement_parts b.made) (block_names (spoken_actions first)) rb
        (spokens first (suc i) n (left ts end (suc i) (flat_map (λ (t : Parts). t) (block_of first)) (fixed RightBrace ∷ []) rb.1) f (no_proc_after i (fixed LeftBrace) rb.0))))
        (nothing_written ts end to keeps calls (after (suc k) a) b.next)))
    spoken (source.IfElse e first other) k n r f h =
        let a : Parts = outer e ++ braced (block_of first) in
        let o : Parts = fixed ElseWord ∷ braced (block_of other) in
        let ra = left ts end (suc k) a o r.1 in
        let ro = right ts end (suc k) a o r.1 in
        let rb = right ts end (suc k) (outer e) (braced (block_of first)) ra in
        let i : ℕ = after (suc k) (outer e) in
        let j : ℕ = after (suc k) a in
        let b = trees makes to first n in
        let d = trees makes to other b.next in
        let g = and_parts (all_fit pieces first) (all_fit pieces other) f in
        as_seen (sym (made_is (statement.If (expr_renamed to e) b.made (Some d.made)) (Statement-F.If (expr_renamed to e) b.made (Some d.made))
        (outs-If (expr_renamed to e) b.made (Some d.made))))
        (append_assoc (names_in (expression e)) (block_names (spoken_actions first)) (block_names (spoken_actions other)))
        (join (word k n IfWord r.0)
        (join (join (expr (suc k) n e (after_word k (fixed IfWord) r.0 refl) (left ts end (suc k) (outer e) (braced (block_of first)) ra))
        (block i n b.next (block_of first) (map statement_parts b.made) (block_names (spoken_actions first)) rb
        (spokens first (suc i) n (left ts end (suc i) (flat_map (λ (t : Parts). t) (block_of first)) (fixed RightBrace ∷ []) rb.1) g.0 (no_proc_after i (fixed LeftBrace) rb.0))))
        (join (word j b.next ElseWord ro.0)
        (block (suc j) b.next d.next (block_of other) (map statement_parts d.made) (block_names (spoken_actions other)) ro.1
        (spokens other (suc (suc j)) b.next (left ts end (suc (suc j)) (flat_map (λ (t : Parts). t) (block_of other)) (fixed RightBrace ∷ []) ro.1.1) g.1
        (no_proc_after (suc j) (fixed LeftBrace) ro.1.0))))))
    spoken (source.For x p low high body) k n r f h =
        let a : Parts = outer low ++ fixed DotDot ∷ [] in
        let b : Parts = a ++ outer high in
        let i : ℕ = suc (suc (suc k)) in
        let rb = left ts end i b (braced (block_of body)) r.1.1.1 in
        let rc = right ts end i b (braced (block_of body)) r.1.1.1 in
        let ra = left ts end i a (outer high) rb in
        let j : ℕ = after i b in
        let d = trees makes to body n in
        as_seen (sym (made_is (statement.For (to x) p (expr_renamed to low) (expr_renamed to high) d.made)
        (Statement-F.For (to x) p (expr_renamed to low) (expr_renamed to high) d.made) (outs-For (to x) p (expr_renamed to low) (expr_renamed to high) d.made)))
        (ap (λ (l : List Name). x ∷ l) (ranged (names_in (expression low)) (names_in (expression high)) (block_names (spoken_actions body))))
        (join (word k n ForWord r.0)
        (join (name (suc k) n x p (no_call_after ts end follows (suc k) (after_word k (fixed ForWord) r.0 refl)) r.1.0)
        (join (word (suc (suc k)) n InWord r.1.1.0)
        (join (join (join (expr i n low (after_word (suc (suc k)) (fixed InWord) r.1.1.0 refl) (left ts end i (outer low) (fixed DotDot ∷ []) ra))
        (word (after i (outer low)) n DotDot (right ts end i (outer low) (fixed DotDot ∷ []) ra).0))
        (expr (after i a) n high (ap ends_statement (before_last ts end i (outer low) (fixed DotDot) ra)) (right ts end i a (outer high) rb)))
        (block j n d.next (block_of body) (map statement_parts d.made) (block_names (spoken_actions body)) rc
        (spokens body (suc j) n (left ts end (suc j) (flat_map (λ (t : Parts). t) (block_of body)) (fixed RightBrace ∷ []) rc.1) f (no_proc_after j (fixed LeftBrace) rc.0)))))))
    spoken (source.Withonly p section names body) k n r f h =
        let s : Parts = braced (block_of section) in
        let s1 : Parts = s ++ fixed DoWord ∷ [] in
        let s2 : Parts = s1 ++ fixed LeftParen ∷ [] in
        let s3 : Parts = s2 ++ name_parts names in
        let s4 : Parts = s3 ++ fixed RightParen ∷ [] in
        let i : ℕ = suc k in
        let r4 = left ts end i s4 (braced (block_of body)) r.1 in
        let rb = right ts end i s4 (braced (block_of body)) r.1 in
        let r3 = left ts end i s3 (fixed RightParen ∷ []) r4 in
        let r2 = left ts end i s2 (name_parts names) r3 in
        let r1 = left ts end i s1 (fixed LeftParen ∷ []) r2 in
        let r0 = left ts end i s (fixed DoWord ∷ []) r1 in
        let j : ℕ = after i s4 in
        let d = trees makes to section n in
        let b = trees makes to body d.next in
        let g = and_parts (all_fit pieces section) (all_fit pieces body) f in
        as_seen (sym (made_is (statement.Withonly p d.made (map (named_renamed to) names) b.made)
        (Statement-F.Withonly p d.made (map (named_renamed to) names) b.made) (outs-Withonly p d.made (map (named_renamed to) names) b.made)))
        (handed (block_names (spoken_actions section)) (map (λ (x : Named). x.name) names) (block_names (spoken_actions body)))
        (join (marked_word k n WithonlyWord p r.0)
        (join (join (join (join (join
        (block i n d.next (block_of section) (map statement_parts d.made) (block_names (spoken_actions section)) r0
        (spokens section (suc i) n (left ts end (suc i) (flat_map (λ (t : Parts). t) (block_of section)) (fixed RightBrace ∷ []) r0.1) g.0 (no_proc_after i (fixed LeftBrace) r0.0)))
        (word (after i s) d.next DoWord (right ts end i s (fixed DoWord ∷ []) r1).0))
        (word (after i s1) d.next LeftParen (right ts end i s1 (fixed LeftParen ∷ []) r2).0))
        (listed (after i s2) d.next names (ap ends_statement (before_last ts end i s1 (fixed LeftParen) r2)) (right ts end i s2 (name_parts names) r3)))
        (word (after i s3) d.next RightParen (right ts end i s3 (fixed RightParen ∷ []) r4).0))
        (block j d.next b.next (block_of body) (map statement_parts b.made) (block_names (spoken_actions body)) rb
        (spokens body (suc j) d.next (left ts end (suc j) (flat_map (λ (t : Parts). t) (block_of body)) (fixed RightBrace ∷ []) rb.1) g.1 (no_proc_after j (fixed LeftBrace) rb.0)))))
    spoken (source.With p section) k n r f h =
        let s : Parts = braced (block_of section) in
        let s1 : Parts = s ++ fixed ContWord ∷ [] in
        let i : ℕ = suc k in
        let r1 = left ts end i s1 (fixed Semicolon ∷ []) r.1 in
        let r0 = left ts end i s (fixed ContWord ∷ []) r1 in
        let d = trees makes to section n in
        as_seen (sym (made_is (statement.With p d.made) (Statement-F.With p d.made) (outs-With p d.made)))
        (append-nil (block_names (spoken_actions section) ++ []) ∙ append-nil (block_names (spoken_actions section)))
        (join (marked_word k n WithWord p r.0)
        (join (join
        (block i n d.next (block_of section) (map statement_parts d.made) (block_names (spoken_actions section)) r0
        (spokens section (suc i) n (left ts end (suc i) (flat_map (λ (t : Parts). t) (block_of section)) (fixed RightBrace ∷ []) r0.1) f (no_proc_after i (fixed LeftBrace) r0.0)))
        (word (after i s) d.next ContWord (right ts end i s (fixed ContWord ∷ []) r1).0))
        (word (after i s1) d.next Semicolon (right ts end i s1 (fixed Semicolon ∷ []) r.1).0)))
    spoken (source.Declare how p o) k n r f h =
        let a : Parts = object_parts o ++ fixed RightParen ∷ [] in
        let i : ℕ = suc (suc k) in
        let ra = left ts end i a (fixed Semicolon ∷ []) r.1.1 in
        as_seen (sym (made_is (statement.Declare how p (object_renamed to o)) (Statement-F.Declare how p (object_renamed to o))
        (outs-Declare how p (object_renamed to o))))
        (append-nil (place_names (object o) ++ []) ∙ append-nil (place_names (object o)))
        (join (how_written k n how p r.0)
        (join (word (suc k) n LeftParen r.1.0)
        (join (join (declared i n o (after_word (suc k) (fixed LeftParen) r.1.0 refl) (left ts end i (object_parts o) (fixed RightParen ∷ []) ra))
        (word (after i (object_parts o)) n RightParen (right ts end i (object_parts o) (fixed RightParen ∷ []) ra).0))
        (word (after i a) n Semicolon (right ts end i a (fixed Semicolon ∷ []) r.1.1).0))))
    spoken (source.Call x p args) k n r f h = call k n x p args r f h

    pub spokens : (b : Spokens) (k n : ℕ) → Reads ts end k (flat_map (λ (t : Parts). t) (block_of b)) → all_fit pieces b ≡ true
        → is_proc (before (signs ts) k) ≡ false
        → W k (flat_map (λ (t : Parts). t) (block_of b)) (flat_map (λ (t : Parts). t) (map statement_parts (trees makes to b n).made))
        (block_names (spoken_actions b)) n (trees makes to b n).next
    spokens source.Done k n r f h = nothing_written ts end to keeps calls k n
    spokens (source.Then a more) k n r f h =
        let g = and_parts (calls_fit pieces a) (all_fit pieces more) f in
        let rest : Parts = flat_map (λ (t : Parts). t) (block_of more) in
        let ra = left ts end k (spoken_parts a) rest r in
        join (spoken a k n ra g.0 h)
        (spokens more (after k (spoken_parts a)) (tree makes to a n).next (right ts end k (spoken_parts a) rest r) g.1 (proc_before ts end k (spoken_parts a) ra h))
