-- What is written for a call of a procedure of a source is the tree of the call.
use Rattle.std.proofs.Common.{◌≡◌, ℕ, suc, ◌+◌, ◌-◌, ◌*◌, Bool, true, false, nat_eq, List, [], ◌∷◌, ◌++◌, Option, Some, None, length, map, codes, refl, sym, ap, ◌∙◌, subst, arith}
use Rattle.std.specs.Prelude.{nat_le, if◌then◌else◌}
use Rattle.std.specs.List.{flat_map}
use Rattle.std.proofs.lemmas.List.{append_assoc, append-nil}
use Rattle.std.proofs.lemmas.Bool.{and_parts, eqb-true}
use Rattle.jade_alphabet.specs.declared.TheConstants.{WORD_LIMIT, EXPRESSION_LIMIT}
use Rattle.jade_base.specs.declared.place.Pos.{Pos}
use Rattle.jade_lexer.specs.Lexemes.{TokenAt}
use Rattle.jade_syntax.specs.declared.tree.Atom.{roll-Atom, fold-roll-Atom}
use Rattle.jade_syntax.specs.declared.tree.Atom.TheOpen.{Atom-F}
use Rattle.jade_syntax.specs.declared.tree.AndExpr.{roll-AndExpr}
use Rattle.jade_syntax.specs.declared.tree.Compare.{Compare, roll-Compare}
use Rattle.jade_syntax.specs.declared.tree.Expr.{Expr}
use Rattle.jade_syntax.specs.declared.tree.Product.{Product, roll-Product}
use Rattle.jade_syntax.specs.declared.tree.Statement.{Statement}
use Rattle.jade_syntax.specs.declared.tree.Statement.TheOpen.{Statement-F}
use Rattle.jade_syntax.specs.declared.tree.Statement.TheVariants as statement
use Rattle.jade_syntax.specs.declared.tree.Statement.TheVariants.{outs-Local, outs-If}
use Rattle.jade_syntax.specs.declared.tree.Sum.{Sum, roll-Sum}
use Rattle.jade_syntax.specs.declared.tree.ValueKind.{ValueKind}
use Rattle.jade_syntax.specs.declared.tree.ValueKind.TheVariants.{Int, Bool as BoolKind}
use Rattle.jade_syntax.specs.Abstract.{Name}
use Rattle.jade_syntax.specs.Names.{is_name}
use Rattle.jade_syntax.specs.Numbering.{same_name}
use Rattle.jade_parser.specs.declared.Sign.TheVariants.{LeftBrace, RightBrace, RightParen, Becomes, Semicolon, IfWord, TrueWord}
use Rattle.jade_parser.specs.Spelled as spelled
use Rattle.jade_parser.specs.Spelled.{Fixed, Called, Part, Parts, fixed, marked, plain, outer, numbered, is_valid, KeptAt, expr_parts, atom_parts}
use Rattle.jade_parser.specs.Kinds.{token_bytes}
use Rattle.jade_parser.specs.Statements.{kind_word, braced, statement_parts}
use Rattle.jade_parser.proofs.Spelling as spelling
use Rattle.jade_parser.proofs.Steps.{alone_made}
use Rattle.proc_expand.specs.declared.procedures.Procedure.{Procedure}
use Rattle.proc_expand.specs.Words.{signs, at, before, bytes_at, is_proc, ends_statement}
use Rattle.proc_expand.specs.Names.{is_among, place_among, first_places}
use Rattle.proc_expand.specs.Refusals.{is_call, param_place}
use Rattle.proc_expand.specs.Written.{MadeToken, Written, CallWriter, pos_at, from, made_at, given_at, write_places, write_call, and_writer, all_writers}
use Rattle.proc_expand.specs.Written.{items, text_names, fresh_name, replaced_at, replaced_by, param_places, body_places, names_at}
use Rattle.proc_laws.specs.Expansion.{Made, block_names, replaced}
use Rattle.proc_laws.specs.Source as abstract
use Rattle.proc_laws.specs.SourceTree.{HeadParam, Spokens, SpokenProcedure, Piece, AnItem, AProcedure, Unread, procedure, param, spoken_actions, spoken_procedures}
use Rattle.proc_laws.specs.SourceReading.{param_parts, more_params, title_parts, free_part, piece_parts, block_of, takes, all_fit, fits_after, piece_fits}
use Rattle.proc_laws.specs.ExpandedTree.{truth_at, CallTrees, trees, declared_at, call_tree, and_tree, all_trees}
use Rattle.jade_parser.specs.Programs.{item_parts}
use Rattle.proc_laws.proofs.PlacesInText.{after, places, plus_one, Sound, Stand, Lies, Reads, left, sign_at}
use Rattle.proc_laws.proofs.WrittenParts.{Spelt, Spells, spells_both, none, one, Keeps, Writes}
use Rattle.proc_laws.proofs.RenamedParts.{made_is}
use Rattle.proc_laws.proofs.CallPlaces as call
use Rattle.proc_laws.proofs.CallPlaces.{AllSpell, IsWritten, CallsWritten, span_is}
use Rattle.proc_laws.proofs.WrittenStatements.{spokens}
use Rattle.proc_laws.proofs.HeadsInText.{stop_of, procedure_of}
use Rattle.proc_laws.proofs.FreshNames.{fresh_is_name, fresh_is_word}
use Rattle.proc_laws.proofs.ProgramTokens.{is_token_of, word_token}
use Rattle.jade_lexer.specs.Alphabet.{is_token}

-- the parts of `true`
atom_spelled : (at : Pos) → atom_parts (roll-Atom (Atom-F.Truth true at)) ≡ marked (Fixed TrueWord) at ∷ []
atom_spelled at = fold-roll-Atom Parts Parts Parts Parts Parts Parts Parts Parts spelled.at_atom spelled.at_and spelled.at_cell spelled.at_compare
    spelled.at_expr spelled.at_product spelled.at_sum spelled.at_unary (Atom-F.Truth true at)

truth_spelled : (at : Pos) → expr_parts (truth_at at) ≡ marked (Fixed TrueWord) at ∷ []
truth_spelled at =
    spelling.expr_made (roll-AndExpr (record { first = relation; rest = [] })) [] ∙ append-nil _
    ∙ spelling.and_made relation [] ∙ append-nil _ ∙ alone_made sum ∙ append-nil _ ∙ spelling.sum_made product [] ∙ append-nil _
    ∙ spelling.product_made (record { signs = []; atom = roll-Atom (Atom-F.Truth true at) }) [] ∙ append-nil _
    ∙ spelling.unary_opens (record { signs = []; atom = roll-Atom (Atom-F.Truth true at) }) ∙ atom_spelled at
  where
    product : Product
    product = roll-Product (record { first = record { signs = []; atom = roll-Atom (Atom-F.Truth true at) }; rest = [] })

    sum : Sum
    sum = roll-Sum (record { first = product; rest = [] })

    relation : Compare
    relation = roll-Compare (record { left = sum; right = None })

-- the statements of a block, their parts one after another
abbrev run : List Statement → Parts
run b = flat_map (λ (t : Parts). t) (map statement_parts b)

kind_short : (kind : ValueKind) → is_valid (kind_word kind) ≡ true
kind_short Int = refl
kind_short BoolKind = refl

module _ (ts : List TokenAt) (end : Pos) where
  -- a word that is made for a call
  made_word : (k : ℕ) (t : spelled.Token) (o : Option Pos) (n : ℕ) → KeptAt o (pos_at ts end ts k) → is_valid t ≡ true → nat_le n EXPRESSION_LIMIT ≡ true
      → Spelt (made_at ts end k (token_bytes t)) (record { token = t; at = o; nth = n })
  made_word k t o n g v s = record { bytes = refl; kept = g; valid = λ h. v; short = s; token = is_token_of t v }

  -- ---- the names of parameters

  params_named : (k i j : ℕ) (p : HeadParam) (ps : List HeadParam) → j ≡ k + 3 + 3 * i → Reads ts end j (param_parts p ++ more_params ps)
      → map (bytes_at ts) (map (param_place k) (from ts end i (length (p ∷ ps)))) ≡ map (λ (q : HeadParam). q.name) (p ∷ ps)
  params_named k i j p [] e r =
      let s : param_place k i ≡ suc j = omega (arith, e) in ap (λ (m : ℕ). bytes_at ts m ∷ []) s ∙ ap (λ (x : Name). x ∷ []) r.1.0.stand.bytes
  params_named k i j p (q ∷ ps) e r =
      let s : param_place k i ≡ suc j = omega (arith, e) in
      let f : suc (suc (suc j)) ≡ k + 3 + 3 * suc i = omega (arith, e) in
      λ l. (ap (bytes_at ts) s ∙ r.1.0.stand.bytes) l ∷ params_named k (suc i) (suc (suc (suc j))) q ps f r.1.1.1 l

  all_named : (k : ℕ) (x : Name) (p : Pos) (params : List HeadParam) (body : Parts) → Reads ts end (suc k) (title_parts x p params)
      → map (bytes_at ts) (param_places ts end (procedure_of ts end k x p params body)) ≡ map (λ (q : HeadParam). q.name) params
  all_named k x p [] body r = refl
  all_named k x p (q ∷ params) body r =
      let e : suc (suc (suc k)) ≡ k + 3 + 3 * 0 = omega arith in
      params_named k 0 (suc (suc (suc k))) q params e (left ts end (suc (suc (suc k))) (param_parts q ++ more_params params) (fixed RightParen ∷ []) r.1.1)

  module _ (to : Name → Name) (keeps : Keeps to) where
    -- ---- the parameters get the arguments' values

    one_given : (c j m : ℕ) (p : HeadParam) (at : Pos) (e : Expr) (a : List MadeToken) (more : List MadeToken) (rest : Parts) → m ≡ suc j
        → at ≡ pos_at ts end ts c → Sound ts end j (plain (kind_word p.kind)) → Sound ts end (suc j) (marked (Called p.name) p.at) → Spells a (outer e)
        → Spells more rest
        → Spells (made_at ts end c (bytes_at ts (m - 1)) ∷ made_at ts end c (to (bytes_at ts m)) ∷ made_at ts end c (codes "=")
        ∷ (a ++ made_at ts end c (codes ";") ∷ more)) (statement_parts (statement.Local p.kind (to p.name) at e) ++ rest)
    one_given c j m p at e a more rest s g k n sp h =
        let w : m - 1 ≡ j = omega (arith, s) in
        let x : to (bytes_at ts m) ≡ to p.name = ap (λ (i : ℕ). to (bytes_at ts i)) s ∙ ap to n.stand.bytes in
        subst (Spells _)
        (sym (ap (λ (l : Parts). l ++ rest) (made_is (statement.Local p.kind (to p.name) at e) (Statement-F.Local p.kind (to p.name) at e)
        (outs-Local p.kind (to p.name) at e))
        ∙ ap (λ (l : Parts). plain (kind_word p.kind) ∷ marked (Called (to p.name)) at ∷ fixed Becomes ∷ l)
        (append_assoc (outer e) (fixed Semicolon ∷ []) rest)))
        (one _ _ _ _ (record { bytes = ap (bytes_at ts) w ∙ k.stand.bytes; kept = tt; valid = λ q. kind_short p.kind; short = refl; token = ap is_token (ap (bytes_at ts) w ∙ k.stand.bytes) ∙ is_token_of (kind_word p.kind) (kind_short p.kind) })
        (one _ _ _ _ (record {
          bytes = x;
          kept = g;
          valid = λ q. keeps.name p.name n.valid (ap (λ (l : List ℕ). nat_le (length l) WORD_LIMIT) (sym x) ∙ q);
          short = refl;
          token = ap is_token x ∙ keeps.word p.name (is_token_of (Called p.name) n.valid);
        })
        (one _ _ _ _ (made_word c (Fixed Becomes) None 0 tt refl refl)
        (spells_both sp (one _ _ _ _ (made_word c (Fixed Semicolon) None 0 tt refl refl) h)))))

    given_more : (c k i j : ℕ) (p : HeadParam) (ps : List HeadParam) (at : Pos) (made : List (List MadeToken)) (es : List Expr) (body : List Statement)
        (rest : List MadeToken) → j ≡ k + 3 + 3 * i → at ≡ pos_at ts end ts c → Reads ts end j (param_parts p ++ more_params ps)
        → length (p ∷ ps) ≡ length es → AllSpell made es → Spells rest (run body)
        → Spells (given_at ts end c to (map (param_place k) (from ts end i (length (p ∷ ps)))) made ++ rest) (run (declared_at at to (p ∷ ps) es body))
    given_more c k i j p ps at made [] body rest s g r l a h = absurd (omega (arith, l))
    given_more c k i j p [] at made (e ∷ f ∷ es) body rest s g r l a h = absurd (omega (arith, l))
    given_more c k i j p [] at made (e ∷ []) body rest s g r l (call.one a more f es sp call.none) h =
        subst (λ (u : List MadeToken). Spells u (run (declared_at at to (p ∷ []) (e ∷ []) body)))
        (ap (λ (u : List MadeToken). made_at ts end c (bytes_at ts (param_place k i - 1)) ∷ made_at ts end c (to (bytes_at ts (param_place k i)))
        ∷ made_at ts end c (codes "=") ∷ u) (sym (append_assoc a (made_at ts end c (codes ";") ∷ []) rest)))
        (one_given c j (param_place k i) p at e a rest (run body) (omega (arith, s)) g r.0 r.1.0 sp h)
    given_more c k i j p (q ∷ ps) at made (e ∷ es) body rest s g r l (call.one a more f fs sp al) h =
        let t : suc (suc (suc j)) ≡ k + 3 + 3 * suc i = omega (arith, s) in
        let given = given_at ts end c to (map (param_place k) (from ts end (suc i) (length (q ∷ ps)))) more in
        subst (λ (u : List MadeToken). Spells u (run (declared_at at to (p ∷ q ∷ ps) (e ∷ es) body)))
        (ap (λ (u : List MadeToken). made_at ts end c (bytes_at ts (param_place k i - 1)) ∷ made_at ts end c (to (bytes_at ts (param_place k i)))
        ∷ made_at ts end c (codes "=") ∷ u) (sym (append_assoc a (made_at ts end c (codes ";") ∷ given) rest)))
        (one_given c j (param_place k i) p at e a (given ++ rest) (run (declared_at at to (q ∷ ps) es body)) (omega (arith, s)) g r.0 r.1.0 sp
        (given_more c k (suc i) (suc (suc (suc j))) q ps at more es body rest t g r.1.1.1 (omega (arith, l)) al h))

    given_all : (c k : ℕ) (x : Name) (p : Pos) (params : List HeadParam) (inside : Parts) (at : Pos) (made : List (List MadeToken)) (es : List Expr)
        (body : List Statement) (rest : List MadeToken) → at ≡ pos_at ts end ts c → Reads ts end (suc k) (title_parts x p params)
        → length params ≡ length es → AllSpell made es → Spells rest (run body)
        → Spells (given_at ts end c to (param_places ts end (procedure_of ts end k x p params inside)) made ++ rest) (run (declared_at at to params es body))
    given_all c k x p [] inside at made es body rest g r l a h = h
    given_all c k x p (q ∷ params) inside at made es body rest g r l a h =
        let e : suc (suc (suc k)) ≡ k + 3 + 3 * 0 = omega arith in
        given_more c k 0 (suc (suc (suc k))) q params at made es body rest e g
        (left ts end (suc (suc (suc k))) (param_parts q ++ more_params params) (fixed RightParen ∷ []) r.1.1) l a h

    -- the whole of what is written for a call
    whole_call : (c : ℕ) (at : Pos) (given inside : List MadeToken) (d : List Statement) → at ≡ pos_at ts end ts c → Spells (given ++ inside) (run d)
        → Spells (made_at ts end c (codes "if") ∷ made_at ts end c (codes "true") ∷ made_at ts end c (codes "{")
        ∷ ((given ++ inside) ++ made_at ts end c (codes "}") ∷ [])) (statement_parts (statement.If (truth_at at) d None))
    whole_call c at given inside d g h =
        subst (Spells _)
        (sym (made_is (statement.If (truth_at at) d None) (Statement-F.If (truth_at at) d None) (outs-If (truth_at at) d None)
        ∙ ap (λ (l : Parts). fixed IfWord ∷ l) (append-nil (outer (truth_at at) ++ braced (map statement_parts d))
        ∙ ap (λ (l : Parts). numbered 0 l ++ braced (map statement_parts d)) (truth_spelled at))))
        (one _ _ _ _ (made_word c (Fixed IfWord) None 0 tt refl refl)
        (one _ _ _ _ (made_word c (Fixed TrueWord) (Some at) 1 g refl refl)
        (one _ _ _ _ (made_word c (Fixed LeftBrace) None 0 tt refl refl)
        (spells_both h (one _ _ _ _ (made_word c (Fixed RightBrace) None 0 tt refl refl) none)))))

  -- ---- where pieces stand

  abbrev pub body_of : SpokenProcedure → Parts
  body_of p = flat_map (λ (t : Parts). t) (block_of p.body)

  abbrev pub PieceHere : ℕ → Piece → Type 0
  PieceHere k (AnItem i) = Reads ts end k (item_parts i)
  PieceHere k (AProcedure p) = Stand ts end k (free_part (codes "proc")) × Reads ts end (suc k) (title_parts p.name p.at p.params)
      × Reads ts end (stop_of ts end k p.name p.at p.params) (braced (block_of p.body))
  PieceHere k (Unread x p params body) = Stand ts end k (free_part (codes "proc")) × Reads ts end (suc k) (title_parts x p params)
      × Lies ts end (stop_of ts end k x p params) (fixed LeftBrace ∷ (map free_part body ++ fixed RightBrace ∷ []))

  abbrev pub PiecesHere : ℕ → List Piece → Type 0
  PiecesHere k [] = Unit {0}
  PiecesHere k (p ∷ ps) = PieceHere k p × PiecesHere (after k (piece_parts p)) ps

  -- the procedures of pieces that begin at a place
  abbrev pub procedures_at : ℕ → List Piece → List Procedure
  procedures_at k [] = []
  procedures_at k (AnItem i ∷ ps) = procedures_at (after k (item_parts i)) ps
  procedures_at k (AProcedure p ∷ ps) = procedure_of ts end k p.name p.at p.params (body_of p) ∷ procedures_at (after k (piece_parts (AProcedure p))) ps
  procedures_at k (Unread x p params body ∷ ps) =
      procedure_of ts end k x p params (map free_part body) ∷ procedures_at (after k (piece_parts (Unread x p params body))) ps

  -- a name that a call replaces is written as a name
  pub keeps_replaced : (names : List Name) (n : ℕ) → Keeps (replaced_by ts end names n)
  keeps_replaced names n = record {
    name = λ x h l. by x h (is_among (items ts end) x) l;
    word = λ x h. word_by x h (is_among (items ts end) x);
  }
    where
      by : (x : Name) → is_name x ≡ true → (b : Bool) → nat_le (length (if b then x else fresh_name (text_names ts end) (n + place_among names x))) WORD_LIMIT ≡ true
          → is_name (if b then x else fresh_name (text_names ts end) (n + place_among names x)) ≡ true
      by x h true l = h
      by x h false l = fresh_is_name (text_names ts end) (n + place_among names x) l

      word_by : (x : Name) → is_token x ≡ true → (b : Bool) → is_token (if b then x else fresh_name (text_names ts end) (n + place_among names x)) ≡ true
      word_by x h true = h
      word_by x h false =
          word_token (fresh_name (text_names ts end) (n + place_among names x)) (fresh_is_word (text_names ts end) (n + place_among names x))

  module _ (follows : (k : ℕ) → is_call (signs ts) k ≡ true → ends_statement (before (signs ts) k) ≡ true) (own : List Name) (same_items : items ts end ≡ own) where
    abbrev pub fresh : ℕ → Name
    fresh i = fresh_name (text_names ts end) i

    names_of_params : (ps : List HeadParam) → map (λ (q : HeadParam). q.name) ps ≡ map (λ (a : abstract.Param). a.name) (map param ps)
    names_of_params [] = refl
    names_of_params (p ∷ ps) = ap (λ (l : List Name). p.name ∷ l) (names_of_params ps)

    -- ---- a call of one procedure

    module _ (calls : CallWriter ts end) (makes : CallTrees) (pieces : List Piece) (called : CallsWritten ts end calls makes pieces) (k : ℕ)
        (p : SpokenProcedure) (here : PieceHere k (AProcedure p)) (fits : all_fit pieces p.body ≡ true) where
      call_spelled : (c : ℕ) (at : Pos) (made : List (List MadeToken)) (args : List Expr) (n : ℕ) → at ≡ pos_at ts end ts c → length p.params ≡ length args
          → AllSpell made args
          → IsWritten (write_call ts end calls (procedure_of ts end k p.name p.at p.params (body_of p)) c made n) (call_tree own fresh makes p at args n)
      call_spelled c at made args n g l a =
          let proc : Procedure = procedure_of ts end k p.name p.at p.params (body_of p) in
          let s : ℕ = suc (stop_of ts end k p.name p.at p.params) in
          let names : List Name = replaced_at ts end proc in
          let to : Name → Name = replaced_by ts end names n in
          let m : ℕ = n + length names in
          let t : Made (List Statement) = trees makes to p.body m in
          let w : Writes ts end to (keeps_replaced names n) calls s (body_of p) (run t.made) (block_names (spoken_actions p.body)) m t.next =
          spokens ts end follows to (keeps_replaced names n) calls makes pieces called p.body s m
          (left ts end s (body_of p) (fixed RightBrace ∷ []) here.2.1) fits
          (ap is_proc (sign_at ts end (stop_of ts end k p.name p.at p.params) (fixed LeftBrace) here.2.0)) in
          let inner : write_places ts end calls to 0 (body_places ts end proc) m ≡ record { tokens = w.made ++ []; next = t.next } =
          ap (λ (u : List ℕ). write_places ts end calls to 0 u m) (span_is ts end s (body_of p) ∙ sym (append-nil (places s (body_of p)))) ∙ w.by [] in
          let given : List MadeToken = given_at ts end c to (param_places ts end proc) made in
          let same : names ≡ replaced own fresh (procedure p) =
          λ i. first_places (same_items i) [] ((all_named k p.name p.at p.params (body_of p) here.1 ∙ names_of_params p.params) i
          ++ (ap (names_at ts end) (span_is ts end s (body_of p)) ∙ w.names) i) in
          let result : List Name → List Name → Made Statement = λ o ns. make makes p at args n o ns in
          subst (IsWritten (write_call ts end calls proc c made n)) (λ i. result (same_items i) (same i))
          (subst (λ (b : Written). IsWritten (record {
            tokens = made_at ts end c (codes "if") ∷ made_at ts end c (codes "true") ∷ made_at ts end c (codes "{")
                ∷ ((given ++ b.tokens) ++ made_at ts end c (codes "}") ∷ []);
            next = b.next;
          }) (result (items ts end) names)) (sym inner)
          (record {
            spells = whole_call to (keeps_replaced names n) c at given (w.made ++ []) (declared_at at to p.params args t.made) g
                (given_all to (keeps_replaced names n) c k p.name p.at p.params (body_of p) at made args t.made (w.made ++ []) g here.1 l a
                (subst (λ (u : List MadeToken). Spells u (run t.made)) (sym (append-nil w.made)) w.spells));
            next = refl;
          }))
        where
          make : CallTrees → SpokenProcedure → Pos → List Expr → ℕ → List Name → List Name → Made Statement
          make makes p at args n o ns =
              let to : Name → Name = λ x. if is_among o x then x else fresh (n + place_among ns x) in
              let b = trees makes to p.body (n + length ns) in
              record { made = statement.If (truth_at at) (declared_at at to p.params args b.made) None; next = b.next }

      -- one procedure more
      also_written : CallsWritten ts end (and_writer ts end calls (procedure_of ts end k p.name p.at p.params (body_of p))) (and_tree own fresh makes p)
          (AProcedure p ∷ pieces)
      also_written = record {
        by = λ c x at args made n b g t a.
            let e : same_name (bytes_at ts c) (bytes_at ts (k + 1)) ≡ same_name x p.name =
            λ i. same_name (b i) ((ap (bytes_at ts) (plus_one k) ∙ here.1.0.stand.bytes) i) in
            subst (λ (q : Bool). IsWritten (if q then write_call ts end calls (procedure_of ts end k p.name p.at p.params (body_of p)) c made n
            else calls c made n) (if same_name x p.name then call_tree own fresh makes p at args n else makes x at args n)) (sym e)
            (by c x at args made n b g a (same_name x p.name) t);
      }
        where
          by : (c : ℕ) (x : Name) (at : Pos) (args : List Expr) (made : List (List MadeToken)) (n : ℕ) → bytes_at ts c ≡ x → at ≡ pos_at ts end ts c
              → AllSpell made args → (q : Bool) → (if q then nat_eq (length p.params) (length args) else takes pieces x (length args)) ≡ true
              → IsWritten (if q then write_call ts end calls (procedure_of ts end k p.name p.at p.params (body_of p)) c made n else calls c made n)
              (if q then call_tree own fresh makes p at args n else makes x at args n)
          by c x at args made n b g a true t = call_spelled c at made args n g (eqb-true (length p.params) (length args) t) a
          by c x at args made n b g a false t = called.by c x at args made n b g t a

    -- one more that is not read
    unread_written : (calls : CallWriter ts end) (makes : CallTrees) (pieces : List Piece) → CallsWritten ts end calls makes pieces → (k : ℕ)
        (y : Name) (p : Pos) (params : List HeadParam) (body : List (List ℕ)) → PieceHere k (Unread y p params body)
        → CallsWritten ts end (and_writer ts end calls (procedure_of ts end k y p params (map free_part body))) makes (Unread y p params body ∷ pieces)
    unread_written calls makes pieces called k y p params body here = record {
      by = λ c x at args made n b g t a.
          let e : same_name (bytes_at ts c) (bytes_at ts (k + 1)) ≡ same_name x y =
          λ i. same_name (b i) ((ap (bytes_at ts) (plus_one k) ∙ here.1.0.stand.bytes) i) in
          subst (λ (q : Bool). IsWritten (if q then write_call ts end calls (procedure_of ts end k y p params (map free_part body)) c made n
          else calls c made n) (makes x at args n)) (sym e)
          (by c x at args made n b g a (same_name x y) t);
    }
      where
        by : (c : ℕ) (x : Name) (at : Pos) (args : List Expr) (made : List (List MadeToken)) (n : ℕ) → bytes_at ts c ≡ x → at ≡ pos_at ts end ts c
            → AllSpell made args → (q : Bool) → (if q then false else takes pieces x (length args)) ≡ true
            → IsWritten (if q then write_call ts end calls (procedure_of ts end k y p params (map free_part body)) c made n else calls c made n)
            (makes x at args n)
        by c x at args made n b g a true t = absurd (cc)
        by c x at args made n b g a false t = called.by c x at args made n b g t a

    -- ---- all pieces

    -- the procedures of pieces write what their trees say, and `main` fits after them
    pub record AllWritten (calls : CallWriter ts end) (makes : CallTrees) (k : ℕ) (ps : List Piece) (main : Spokens) : Type 0 where
      pub pieces : List Piece
      pub called : CallsWritten ts end (all_writers ts end calls (procedures_at k ps)) (all_trees own fresh makes (spoken_procedures ps)) pieces
      pub fits : all_fit pieces main ≡ true

    pub all_written : (calls : CallWriter ts end) (makes : CallTrees) (k : ℕ) (before ps : List Piece) (main : Spokens) → CallsWritten ts end calls makes before
        → PiecesHere k ps → fits_after before ps main ≡ true → AllWritten calls makes k ps main
    all_written calls makes k before [] main c h f = record { pieces = before; called = c; fits = f }
    all_written calls makes k before (AnItem i ∷ ps) main c h f =
        let r = all_written calls makes (after k (item_parts i)) (AnItem i ∷ before) ps main (record { by = c.by }) h.1 f in
        record { pieces = r.pieces; called = r.called; fits = r.fits }
    all_written calls makes k before (AProcedure p ∷ ps) main c h f =
        let g = and_parts (all_fit before p.body) (fits_after (AProcedure p ∷ before) ps main) f in
        let r = all_written (and_writer ts end calls (procedure_of ts end k p.name p.at p.params (body_of p))) (and_tree own fresh makes p)
        (after k (piece_parts (AProcedure p))) (AProcedure p ∷ before) ps main (also_written calls makes before c k p h.0 g.0) h.1 g.1 in
        record { pieces = r.pieces; called = r.called; fits = r.fits }
    all_written calls makes k before (Unread x p params body ∷ ps) main c h f =
        let g = and_parts (piece_fits before (Unread x p params body)) (fits_after (Unread x p params body ∷ before) ps main) f in
        let r = all_written (and_writer ts end calls (procedure_of ts end k x p params (map free_part body))) makes
        (after k (piece_parts (Unread x p params body))) (Unread x p params body ∷ before) ps main
        (unread_written calls makes before c k x p params body h.0) h.1 g.1 in
        record { pieces = r.pieces; called = r.called; fits = r.fits }
