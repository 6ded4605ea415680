-- A statement that spells what is written for some places gives the statement of the source that stands there.
use Rattle.std.proofs.Common.{◌≡◌, ℕ, suc, ◌+◌, Bool, true, false, List, [], ◌∷◌, ◌++◌, Option, Some, None, length, map, refl, sym, ap, ◌∙◌, subst}
use Rattle.std.specs.Prelude.{not}
use Rattle.std.specs.List.{flat_map, list_all}
use Rattle.std.proofs.lemmas.List.{append_assoc, append-nil}
use Rattle.jade_base.specs.declared.place.Pos.{Pos}
use Rattle.jade_lexer.specs.Lexemes.{TokenAt}
use Rattle.jade_syntax.specs.declared.tree.CellRef.{CellRef, out-CellRef}
use Rattle.jade_syntax.specs.declared.tree.DeclareWord.{DeclareWord}
use Rattle.jade_syntax.specs.declared.tree.DeclareWord.TheVariants.{Rd, Wr, RdWr, DfRd, DfWr, DfRdWr, Cm, NoRd, NoWr, NoRdWr}
use Rattle.jade_syntax.specs.declared.tree.Expr.{Expr}
use Rattle.jade_syntax.specs.declared.tree.Named.{Named}
use Rattle.jade_syntax.specs.declared.tree.ObjectRef.{ObjectRef}
use Rattle.jade_syntax.specs.declared.tree.Statement.{Statement, roll-Statement, fold-roll-Statement, map-Statement, ind-Statement}
use Rattle.jade_syntax.specs.declared.tree.Statement.TheOpen.{Statement-F}
use Rattle.jade_syntax.specs.declared.tree.ValueKind.{ValueKind}
use Rattle.jade_syntax.specs.declared.tree.ValueKind.TheVariants.{Int, Bool as BoolKind}
use Rattle.jade_syntax.specs.Abstract.{Name}
use Rattle.jade_parser.specs.declared.Sign as lexicon
use Rattle.jade_parser.specs.declared.Sign.TheVariants.{LeftParen, RightParen, LeftBrace, RightBrace, Becomes, Semicolon, DotDot}
use Rattle.jade_parser.specs.declared.Sign.TheVariants.{IfWord, ElseWord, ForWord, InWord, WithonlyWord, WithWord, DoWord, ContWord}
use Rattle.jade_parser.specs.Spelled.{Token, Fixed, Called, Part, Parts, fixed, marked, plain, bracketed, outer}
use Rattle.jade_parser.specs.Statements.{kind_word, declare_word, outer_index, object_parts, target_parts, braced, name_parts, else_parts, at_statement, statement_parts}
use Rattle.proc_expand.specs.declared.sign.Bracket.{Bracket}
use Rattle.proc_expand.specs.declared.sign.Bracket.TheVariants.{Round, Curly}
use Rattle.proc_expand.specs.Words.{signs, before, bytes_at, ends_statement}
use Rattle.proc_expand.specs.Refusals.{is_call}
use Rattle.proc_expand.specs.Written.{CallWriter, pos_at}
use Rattle.proc_laws.specs.SourceTree as source
use Rattle.proc_laws.specs.SourceTree.{Spoken, Spokens}
use Rattle.proc_laws.specs.SourceReading.{spoken_parts, block_of}
use Rattle.proc_laws.proofs.Basics.{by_case}
use Rattle.proc_laws.proofs.SignsOfTokens.{token_sign, parts_signs}
use Rattle.proc_laws.proofs.PlacesInText.{after, after_both, Reads}
use Rattle.proc_laws.proofs.LevelParts.{calm, calm_none, calm_both, calm_next, calm_outer, calm_square, calm_index, calm_names}
use Rattle.proc_laws.proofs.LevelParts.{Even, even_both, even_one, even_next, even_in, even_outer, even_names, even_braced, even_spoken, even_spokens}
use Rattle.proc_laws.proofs.Unrenaming.{Again, pair, ended, outer_again, object_again, target_again, names_again}
use Rattle.proc_laws.proofs.TokensAhead.{Says, anew_part, after_anew, reads_both, Context, ahead, Went, one_went, first_went, after_one, went_both, calm_went}
use Rattle.proc_laws.proofs.TokensAhead.{Nest, nest_on, nest_open, brace_there}

-- ---- what is told of each call of a statement

module _ (told : Name → ℕ → Type 0) where
  abbrev mutual
    pub calls_told : Spoken → Type 0
    calls_told (source.Local kind x at e) = Unit {0}
    calls_told (source.Assign x at e) = Unit {0}
    calls_told (source.Store c e) = Unit {0}
    calls_told (source.If e first) = all_told first
    calls_told (source.IfElse e first other) = all_told first × all_told other
    calls_told (source.For x at low high body) = all_told body
    calls_told (source.Withonly at section names body) = all_told section × all_told body
    calls_told (source.With at section) = all_told section
    calls_told (source.Declare how at o) = Unit {0}
    calls_told (source.Call x at args) = told x (length args)

    pub all_told : Spokens → Type 0
    all_told source.Done = Unit {0}
    all_told (source.Then a more) = calls_told a × all_told more

-- ---- words

kind_no_if : (k : ValueKind) → kind_word k ≡ Fixed IfWord → ⊥
kind_no_if Int e = absurd (cc)
kind_no_if BoolKind e = absurd (cc)

kind_calm : (k : ValueKind) → calm (token_sign (kind_word k)) ≡ true
kind_calm Int = refl
kind_calm BoolKind = refl

how_no_if : (w : DeclareWord) → declare_word w ≡ Fixed IfWord → ⊥
how_no_if Rd e = absurd (cc)
how_no_if Wr e = absurd (cc)
how_no_if RdWr e = absurd (cc)
how_no_if DfRd e = absurd (cc)
how_no_if DfWr e = absurd (cc)
how_no_if DfRdWr e = absurd (cc)
how_no_if Cm e = absurd (cc)
how_no_if NoRd e = absurd (cc)
how_no_if NoWr e = absurd (cc)
how_no_if NoRdWr e = absurd (cc)

how_calm : (w : DeclareWord) → calm (token_sign (declare_word w)) ≡ true
how_calm Rd = refl
how_calm Wr = refl
how_calm RdWr = refl
how_calm DfRd = refl
how_calm DfWr = refl
how_calm DfRdWr = refl
how_calm Cm = refl
how_calm NoRd = refl
how_calm NoWr = refl
how_calm NoRdWr = refl

grouped : (a b c d : Parts) → ((a ++ b) ++ c) ++ d ≡ a ++ (b ++ (c ++ d))
grouped a b c d = append_assoc (a ++ b) c d ∙ append_assoc a b (c ++ d)

handed : (a b c d e : Parts) → (((a ++ b) ++ c) ++ d) ++ e ≡ a ++ (b ++ (c ++ (d ++ e)))
handed a b c d e = append_assoc ((a ++ b) ++ c) d e ∙ grouped a b c (d ++ e)

calm_no : (a : Part) → calm (token_sign a.token) ≡ true → ends_statement (token_sign a.token) ≡ false
calm_no a h = by (ends_statement (token_sign a.token)) h
  where
    by : (b : Bool) → not b ≡ true → b ≡ false
    by true h = absurd (cc)
    by false h = refl

module _ (ts : List TokenAt) (end : Pos) (follows : (k : ℕ) → is_call (signs ts) k ≡ true → ends_statement (before (signs ts) k) ≡ true)
    (calls : List ℕ → CallWriter ts end) (facts : List ℕ → ℕ → Type 0) (told : List ℕ → Name → ℕ → Type 0) where
  module _ (x : Context ts end calls facts) where
    -- a tree stands at k, what is told of it holds, and then come other parts
    pub record Walked (k n : ℕ) (b : Parts) (T : Type 0) (parts : T → Parts) (fine : T → Type 0) : Type 0 where
      pub tree : T
      pub reads : Reads ts end k (parts tree)
      pub sound : fine tree
      pub togo : ℕ
      pub number : ℕ
      pub counts : after k (parts tree) + togo ≡ x.last
      pub rest : Says (ahead ts end follows calls facts x (after k (parts tree)) togo number) b

    from_went : (T : Type 0) (parts : T → Parts) (fine : T → Type 0) (k n : ℕ) (a b : Parts) → Went ts end follows calls facts x k n a b
        → (g : Again (bytes_at ts) (pos_at ts end ts) T parts k a) → fine g.tree → Walked k n b T parts fine
    from_went T parts fine k n a b w g f =
        let e : after k (parts g.tree) ≡ after k a = ap (after k) g.is ∙ after_anew ts end k k a in
        record {
          tree = g.tree;
          reads = subst (Reads ts end k) (sym g.is) w.reads;
          sound = f;
          togo = w.togo;
          number = n;
          counts = ap (λ (i : ℕ). i + w.togo) e ∙ w.counts;
          rest = subst (λ (i : ℕ). Says (ahead ts end follows calls facts x i w.togo n) b) (sym e) w.rest;
        }

    both : (T U V : Type 0) (f : T → Parts) (g : U → Parts) (h : V → Parts) (make : T → U → V) → ((t : T) (u : U) → h (make t u) ≡ f t ++ g u)
        → (C : T → Type 0) (D : U → Type 0) (E : V → Type 0) → ((t : T) (u : U) → C t → D u → E (make t u))
        → (k n : ℕ) (a b : Parts) (y : Walked k n a T f C) → Walked (after k (f y.tree)) y.number b U g D → Walked k n b V h E
    both T U V f g h make made C D E fine k n a b y z =
        let e : after k (h (make y.tree z.tree)) ≡ after (after k (f y.tree)) (g z.tree) =
        ap (after k) (made y.tree z.tree) ∙ after_both k (f y.tree) (g z.tree) in
        record {
          tree = make y.tree z.tree;
          reads = subst (Reads ts end k) (sym (made y.tree z.tree)) (reads_both ts end k (f y.tree) (g z.tree) y.reads z.reads);
          sound = fine y.tree z.tree y.sound z.sound;
          togo = z.togo;
          number = z.number;
          counts = ap (λ (i : ℕ). i + z.togo) e ∙ z.counts;
          rest = subst (λ (i : ℕ). Says (ahead ts end follows calls facts x i z.togo z.number) b) (sym e) z.rest;
        }

    -- a token with which no call begins, and parts after none of which a statement may stand
    then_calm : (k n : ℕ) (p : Part) (a b : Parts) → calm (token_sign p.token) ≡ true → list_all calm (parts_signs a) ≡ true
        → Went ts end follows calls facts x k n (p ∷ []) (a ++ b) → Went ts end follows calls facts x k n (p ∷ a) b
    then_calm k n p a b h g w =
        went_both ts end follows calls facts x k n (p ∷ []) a b w
        (calm_went ts end follows calls facts x (suc k) w.togo n a b w.counts g (after_one ts end follows calls facts x k p w.reads (calm_no p h)) w.rest)

    -- a statement that has no block
    simple : (k m n : ℕ) (p : Part) (a : Parts) (s : lexicon.Sign) (b : Parts) → k + m ≡ x.last → (p.token ≡ Fixed IfWord → ⊥)
        → calm (token_sign p.token) ≡ true → list_all calm (parts_signs a) ≡ true → (Fixed s ≡ Fixed IfWord → ⊥) → (Fixed s ≡ Fixed RightBrace → ⊥)
        → Says (ahead ts end follows calls facts x k m n) ((p ∷ (a ++ fixed s ∷ [])) ++ b) → Went ts end follows calls facts x k n (p ∷ (a ++ fixed s ∷ [])) b
    simple k m n p a s b f i h g j l t =
        let o = first_went ts end follows calls facts x k m n p ((a ++ fixed s ∷ []) ++ b) f i (λ e. absurd (no p e h)) t in
        let c = then_calm k n p a (fixed s ∷ b) h g (record {
          reads = o.reads;
          togo = o.togo;
          counts = o.counts;
          rest = subst (Says (ahead ts end follows calls facts x (suc k) o.togo n)) (append_assoc a (fixed s ∷ []) b) o.rest;
        }) in
        went_both ts end follows calls facts x k n (p ∷ a) (fixed s ∷ []) b c
        (first_went ts end follows calls facts x (after (suc k) a) c.togo n (fixed s) b c.counts j (λ e. absurd (l e)) c.rest)
      where
        no : (p : Part) → p.token ≡ Fixed RightBrace → calm (token_sign p.token) ≡ true → ⊥
        no p e h = let q : calm (token_sign p.token) ≡ false = ap (λ (u : Token). calm (token_sign u)) e in absurd (cc)

    -- a word or symbol
    word : (k m n : ℕ) (s : lexicon.Sign) (b : Parts) → k + m ≡ x.last → (Fixed s ≡ Fixed IfWord → ⊥) → (Fixed s ≡ Fixed RightBrace → ⊥)
        → Says (ahead ts end follows calls facts x k m n) (fixed s ∷ b) → Walked k n b (Unit {0}) (λ u. fixed s ∷ []) (λ u. Unit {0})
    word k m n s b f i h t =
        from_went (Unit {0}) (λ u. fixed s ∷ []) (λ u. Unit {0}) k n (fixed s ∷ []) b
        (first_went ts end follows calls facts x k m n (fixed s) b f i (λ e. absurd (h e)) t) (record { tree = tt; is = refl }) tt

    marked_word : (k m n : ℕ) (s : lexicon.Sign) (p : Pos) (b : Parts) → k + m ≡ x.last → (Fixed s ≡ Fixed IfWord → ⊥) → (Fixed s ≡ Fixed RightBrace → ⊥)
        → Says (ahead ts end follows calls facts x k m n) (marked (Fixed s) p ∷ b)
        → Walked k n b (Unit {0}) (λ u. marked (Fixed s) (pos_at ts end ts k) ∷ []) (λ u. Unit {0})
    marked_word k m n s p b f i h t =
        from_went (Unit {0}) (λ u. marked (Fixed s) (pos_at ts end ts k) ∷ []) (λ u. Unit {0}) k n (marked (Fixed s) p ∷ []) b
        (first_went ts end follows calls facts x k m n (marked (Fixed s) p) b f i (λ e. absurd (h e)) t) (record { tree = tt; is = refl }) tt

  -- ---- statements

  abbrev pub WalkedTo : Context ts end calls facts → ℕ → ℕ → Parts → Type 0
  WalkedTo x k n b = Walked x k n b Spoken spoken_parts (calls_told (told x.procs))

  abbrev pub Statements : Context ts end calls facts → ℕ → ℕ → Parts → Type 0
  Statements x k n b = Walked x k n b Spokens (λ t. flat_map (λ (p : Parts). p) (block_of t)) (all_told (told x.procs))

  abbrev pub Block : Context ts end calls facts → ℕ → ℕ → Parts → Type 0
  Block x k n b = Walked x k n b Spokens (λ t. braced (block_of t)) (all_told (told x.procs))

  -- wherever what is written is spelled by the statement, there is one of the source
  pub record Walks (s : Statement) : Type 0 where
    pub walk : (x : Context ts end calls facts) (k m n : ℕ) (b : Parts) (a : Bracket) (st : List Bracket) → k + m ≡ x.last → Nest ts end follows calls facts x (a ∷ st) k
        → Says (ahead ts end follows calls facts x k m n) (statement_parts s ++ b) → WalkedTo x k n b

  abbrev pub AllWalk : List Statement → Type 0
  AllWalk [] = Unit {0}
  AllWalk (s ∷ ss) = Walks s × AllWalk ss

  abbrev pub run : List Statement → Parts
  run ys = flat_map (λ (p : Parts). p) (map statement_parts ys)

  pub statements : (ys : List Statement) → AllWalk ys → (x : Context ts end calls facts) (k m n : ℕ) (b : Parts) (a : Bracket) (st : List Bracket) → k + m ≡ x.last
      → Nest ts end follows calls facts x (a ∷ st) k → Says (ahead ts end follows calls facts x k m n) (run ys ++ b) → Statements x k n b
  statements [] o x k m n b a st f h s = record { tree = source.Done; reads = tt; sound = tt; togo = m; number = n; counts = f; rest = s }
  statements (y ∷ ys) o x k m n b a st f h s =
      let r = o.0.walk x k m n (run ys ++ b) a st f h
      (subst (Says (ahead ts end follows calls facts x k m n)) (append_assoc (statement_parts y) (run ys) b) s) in
      let q = statements ys o.1 x (after k (spoken_parts r.tree)) r.togo r.number b a st r.counts
      (nest_on ts end follows calls facts x a st k (spoken_parts r.tree) h r.reads (even_spoken r.tree).level) r.rest in
      both x Spoken Spokens Spokens spoken_parts (λ t. flat_map (λ (p : Parts). p) (block_of t)) (λ t. flat_map (λ (p : Parts). p) (block_of t))
      source.Then (λ t u. refl) (calls_told (told x.procs)) (all_told (told x.procs)) (all_told (told x.procs)) (λ t u v w. (v, w)) k n (run ys ++ b) b r q

  pub block : (ys : List Statement) → AllWalk ys → (x : Context ts end calls facts) (k m n : ℕ) (b : Parts) (a : Bracket) (st : List Bracket) → k + m ≡ x.last
      → Nest ts end follows calls facts x (a ∷ st) k → Says (ahead ts end follows calls facts x k m n) (braced (map statement_parts ys) ++ b) → Block x k n b
  block ys w x k m n b a st f h s =
      let o = first_went ts end follows calls facts x k m n (fixed LeftBrace) ((run ys ++ fixed RightBrace ∷ []) ++ b) f (λ e. absurd (cc)) (λ e. absurd (cc)) s in
      let n1 = nest_open ts end follows calls facts x (a ∷ st) k h o.reads.0 in
      let r = statements ys w x (suc k) o.togo n (fixed RightBrace ∷ b) Curly (a ∷ st) o.counts n1
      (subst (Says (ahead ts end follows calls facts x (suc k) o.togo n)) (append_assoc (run ys) (fixed RightBrace ∷ []) b) o.rest) in
      let body : Parts = flat_map (λ (p : Parts). p) (block_of r.tree) in
      let n2 = nest_on ts end follows calls facts x Curly (a ∷ st) (suc k) body n1 r.reads (even_spokens r.tree).level in
      let q = first_went ts end follows calls facts x (after (suc k) body) r.togo r.number (fixed RightBrace) b r.counts (λ e. absurd (cc))
      (λ e. brace_there ts end follows calls facts x Curly a st (after (suc k) body) r.togo r.number b r.counts n2 r.rest) r.rest in
      let e : after (suc k) (body ++ fixed RightBrace ∷ []) ≡ suc (after (suc k) body) = after_both (suc k) body (fixed RightBrace ∷ []) in
      record {
        tree = r.tree;
        reads = (o.reads.0, reads_both ts end (suc k) body (fixed RightBrace ∷ []) r.reads q.reads);
        sound = r.sound;
        togo = q.togo;
        number = r.number;
        counts = ap (λ (i : ℕ). i + q.togo) e ∙ q.counts;
        rest = subst (λ (i : ℕ). Says (ahead ts end follows calls facts x i q.togo r.number) b) (sym e) q.rest;
      }

  -- ---- a tree with more after it

  as_tree : (x : Context ts end calls facts) (T V : Type 0) (f : T → Parts) (h : V → Parts) (make : T → V) → ((t : T) → h (make t) ≡ f t)
      → (C : T → Type 0) (E : V → Type 0) → ((t : T) → C t → E (make t)) → (k n : ℕ) (b : Parts) → Walked x k n b T f C → Walked x k n b V h E
  as_tree x T V f h make made C E fine k n b w = record {
    tree = make w.tree;
    reads = subst (Reads ts end k) (sym (made w.tree)) w.reads;
    sound = fine w.tree w.sound;
    togo = w.togo;
    number = w.number;
    counts = ap (λ (ps : Parts). after k ps + w.togo) (made w.tree) ∙ w.counts;
    rest = subst (λ (ps : Parts). Says (ahead ts end follows calls facts x (after k ps) w.togo w.number) b) (sym (made w.tree)) w.rest;
  }

  and_block : (ys : List Statement) → AllWalk ys → (x : Context ts end calls facts) (k n : ℕ) (b : Parts) (a : Bracket) (st : List Bracket)
      (T : Type 0) (f : T → Parts) (C : T → Type 0) → ((t : T) → Even (f t)) → Nest ts end follows calls facts x (a ∷ st) k
      → Walked x k n (braced (map statement_parts ys) ++ b) T f C
      → Walked x k n b (T × Spokens) (λ t. f t.0 ++ braced (block_of t.1)) (λ t. C t.0 × all_told (told x.procs) t.1)
  and_block ys o x k n b a st T f C even h w =
      both x T Spokens (T × Spokens) f (λ t. braced (block_of t)) (λ t. f t.0 ++ braced (block_of t.1)) (λ t u. (t, u)) (λ t u. refl)
      C (all_told (told x.procs)) (λ t. C t.0 × all_told (told x.procs) t.1) (λ t u v z. (v, z)) k n (braced (map statement_parts ys) ++ b) b w
      (block ys o x (after k (f w.tree)) w.togo w.number b a st w.counts
      (nest_on ts end follows calls facts x a st k (f w.tree) h w.reads (even w.tree).level) w.rest)

  and_word : (x : Context ts end calls facts) (k n : ℕ) (s : lexicon.Sign) (b : Parts) (T : Type 0) (f : T → Parts) (C : T → Type 0)
      → (Fixed s ≡ Fixed IfWord → ⊥) → (Fixed s ≡ Fixed RightBrace → ⊥)
      → Walked x k n (fixed s ∷ b) T f C → Walked x k n b T (λ t. f t ++ fixed s ∷ []) C
  and_word x k n s b T f C i j w =
      both x T (Unit {0}) T f (λ u. fixed s ∷ []) (λ t. f t ++ fixed s ∷ []) (λ t u. t) (λ t u. refl) C (λ u. Unit {0}) C (λ t u v z. v) k n (fixed s ∷ b) b w
      (word x (after k (f w.tree)) w.togo w.number s b w.counts i j w.rest)

  and_calm : (x : Context ts end calls facts) (k n : ℕ) (p : Part) (a b : Parts) (T U : Type 0) (f : T → Parts) (g : U → Parts) (C : T → Type 0)
      → (p.token ≡ Fixed IfWord → ⊥) → (p.token ≡ Fixed RightBrace → ⊥) → calm (token_sign p.token) ≡ true → list_all calm (parts_signs a) ≡ true
      → ((j : ℕ) → Again (bytes_at ts) (pos_at ts end ts) U g j (p ∷ a))
      → Walked x k n (p ∷ (a ++ b)) T f C → Walked x k n b (T × U) (λ t. f t.0 ++ g t.1) (λ t. C t.0)
  and_calm x k n p a b T U f g C i j c d u w =
      both x T U (T × U) f g (λ t. f t.0 ++ g t.1) (λ t v. (t, v)) (λ t v. refl) C (λ v. Unit {0}) (λ t. C t.0) (λ t v y z. y) k n (p ∷ (a ++ b)) b w
      (from_went x U g (λ v. Unit {0}) (after k (f w.tree)) w.number (p ∷ a) b
      (then_calm x (after k (f w.tree)) w.number p a b c d
      (first_went ts end follows calls facts x (after k (f w.tree)) w.togo w.number p (a ++ b) w.counts i (λ e. absurd (j e)) w.rest))
      (u (after k (f w.tree))) tt)

  -- ---- statements without blocks

  kind_stays : (k : ℕ) (kind : ValueKind) → anew_part ts end k (plain (kind_word kind)) ≡ plain (kind_word kind)
  kind_stays k Int = refl
  kind_stays k BoolKind = refl

  how_stays : (k : ℕ) (w : DeclareWord) (p : Pos) → anew_part ts end k (marked (declare_word w) p) ≡ marked (declare_word w) (pos_at ts end ts k)
  how_stays k Rd p = refl
  how_stays k Wr p = refl
  how_stays k RdWr p = refl
  how_stays k DfRd p = refl
  how_stays k DfWr p = refl
  how_stays k DfRdWr p = refl
  how_stays k Cm p = refl
  how_stays k NoRd p = refl
  how_stays k NoWr p = refl
  how_stays k NoRdWr p = refl

  value_again : (k : ℕ) (e : Expr) → Again (bytes_at ts) (pos_at ts end ts) Expr (λ t. outer t ++ fixed Semicolon ∷ []) k (outer e ++ fixed Semicolon ∷ [])
  value_again k e = ended (bytes_at ts) (pos_at ts end ts) outer k (fixed Semicolon) (outer e) (λ j. refl) (outer_again (bytes_at ts) (pos_at ts end ts) e k)

  local_again : (k : ℕ) (kind : ValueKind) (n : Name) (p : Pos) (e : Expr)
      → Again (bytes_at ts) (pos_at ts end ts) Spoken spoken_parts k (at_statement (Statement-F.Local kind n p e))
  local_again k kind n p e =
      let g = value_again (suc (suc (suc k))) e in
      record {
        tree = source.Local kind (bytes_at ts (suc k)) (pos_at ts end ts (suc k)) g.tree;
        is = λ i. sym (kind_stays k kind) i ∷ marked (Called (bytes_at ts (suc k))) (pos_at ts end ts (suc k)) ∷ fixed Becomes ∷ g.is i;
      }

  assign_again : (k : ℕ) (n : Name) (p : Pos) (e : Expr) → Again (bytes_at ts) (pos_at ts end ts) Spoken spoken_parts k (at_statement (Statement-F.Assign n p e))
  assign_again k n p e =
      let g = value_again (suc (suc k)) e in
      record {
        tree = source.Assign (bytes_at ts k) (pos_at ts end ts k) g.tree;
        is = λ i. marked (Called (bytes_at ts k)) (pos_at ts end ts k) ∷ fixed Becomes ∷ g.is i;
      }

  store_again : (k : ℕ) (c : CellRef) (e : Expr) → Again (bytes_at ts) (pos_at ts end ts) Spoken spoken_parts k (at_statement (Statement-F.Store c e))
  store_again k c e =
      let g = ended (bytes_at ts) (pos_at ts end ts) (λ (u : CellRef × Expr). (target_parts u.0 ++ fixed Becomes ∷ []) ++ outer u.1) k (fixed Semicolon)
      ((target_parts c ++ fixed Becomes ∷ []) ++ outer e) (λ j. refl)
      (pair (bytes_at ts) (pos_at ts end ts) (λ t. target_parts t ++ fixed Becomes ∷ []) outer
      (λ (u : CellRef × Expr). (target_parts u.0 ++ fixed Becomes ∷ []) ++ outer u.1) (λ t u. (t, u)) (λ t u. refl) k (target_parts c ++ fixed Becomes ∷ [])
      (outer e) (ended (bytes_at ts) (pos_at ts end ts) target_parts k (fixed Becomes) (target_parts c) (λ j. refl)
      (target_again (bytes_at ts) (pos_at ts end ts) c k))
      (outer_again (bytes_at ts) (pos_at ts end ts) e (after k (target_parts c ++ fixed Becomes ∷ [])))) in
      record { tree = source.Store g.tree.0 g.tree.1; is = g.is }

  declare_again : (k : ℕ) (w : DeclareWord) (p : Pos) (o : ObjectRef)
      → Again (bytes_at ts) (pos_at ts end ts) Spoken spoken_parts k (at_statement (Statement-F.Declare w p o))
  declare_again k w p o =
      let g = ended (bytes_at ts) (pos_at ts end ts) (λ t. object_parts t ++ fixed RightParen ∷ []) (suc (suc k)) (fixed Semicolon)
      (object_parts o ++ fixed RightParen ∷ []) (λ j. refl)
      (ended (bytes_at ts) (pos_at ts end ts) object_parts (suc (suc k)) (fixed RightParen) (object_parts o) (λ j. refl)
      (object_again (bytes_at ts) (pos_at ts end ts) o (suc (suc k)))) in
      record {
        tree = source.Declare w (pos_at ts end ts k) g.tree;
        is = λ i. sym (how_stays k w p) i ∷ fixed LeftParen ∷ g.is i;
      }

  local_walks : (kind : ValueKind) (y : Name) (p : Pos) (e : Expr) (x : Context ts end calls facts) (k m n : ℕ) (b : Parts) → k + m ≡ x.last
      → Says (ahead ts end follows calls facts x k m n) (at_statement (Statement-F.Local kind y p e) ++ b) → WalkedTo x k n b
  unfolding local_again
  local_walks kind y p e x k m n b f s =
      from_went x Spoken spoken_parts (calls_told (told x.procs)) k n (at_statement (Statement-F.Local kind y p e)) b
      (simple x k m n (plain (kind_word kind)) (marked (Called y) p ∷ fixed Becomes ∷ outer e) Semicolon b f (kind_no_if kind) (kind_calm kind)
      (calm_next (marked (Called y) p) (fixed Becomes ∷ outer e) refl (calm_next (fixed Becomes) (outer e) refl (calm_outer e))).is
      (λ q. absurd (cc)) (λ q. absurd (cc)) s)
      (local_again k kind y p e) tt

  assign_walks : (y : Name) (p : Pos) (e : Expr) (x : Context ts end calls facts) (k m n : ℕ) (b : Parts) → k + m ≡ x.last
      → Says (ahead ts end follows calls facts x k m n) (at_statement (Statement-F.Assign y p e) ++ b) → WalkedTo x k n b
  unfolding assign_again
  assign_walks y p e x k m n b f s =
      from_went x Spoken spoken_parts (calls_told (told x.procs)) k n (at_statement (Statement-F.Assign y p e)) b
      (simple x k m n (marked (Called y) p) (fixed Becomes ∷ outer e) Semicolon b f (λ q. absurd (cc)) refl
      (calm_next (fixed Becomes) (outer e) refl (calm_outer e)).is (λ q. absurd (cc)) (λ q. absurd (cc)) s)
      (assign_again k y p e) tt

  store_walks : (c : CellRef) (e : Expr) (x : Context ts end calls facts) (k m n : ℕ) (b : Parts) → k + m ≡ x.last
      → Says (ahead ts end follows calls facts x k m n) (at_statement (Statement-F.Store c e) ++ b) → WalkedTo x k n b
  unfolding store_again
  store_walks c e x k m n b f s =
      let o = out-CellRef c in
      let i : Parts = outer_index o.family ++ bracketed (outer o.cell) in
      from_went x Spoken spoken_parts (calls_told (told x.procs)) k n (at_statement (Statement-F.Store c e)) b
      (simple x k m n (marked (Called o.name) o.pos) ((i ++ fixed Becomes ∷ []) ++ outer e) Semicolon b f (λ q. absurd (cc)) refl
      (calm_both (i ++ fixed Becomes ∷ []) (outer e) (calm_both i (fixed Becomes ∷ [])
      (calm_both (outer_index o.family) (bracketed (outer o.cell)) (calm_index o.family) (calm_square o.cell))
      (calm_next (fixed Becomes) [] refl calm_none)) (calm_outer e)).is (λ q. absurd (cc)) (λ q. absurd (cc)) s)
      (store_again k c e) tt

  declare_walks : (w : DeclareWord) (p : Pos) (o : ObjectRef) (x : Context ts end calls facts) (k m n : ℕ) (b : Parts) → k + m ≡ x.last
      → Says (ahead ts end follows calls facts x k m n) (at_statement (Statement-F.Declare w p o) ++ b) → WalkedTo x k n b
  unfolding declare_again
  declare_walks w p o x k m n b f s =
      from_went x Spoken spoken_parts (calls_told (told x.procs)) k n (at_statement (Statement-F.Declare w p o)) b
      (simple x k m n (marked (declare_word w) p) (fixed LeftParen ∷ (object_parts o ++ fixed RightParen ∷ [])) Semicolon b f (how_no_if w) (how_calm w)
      (calm_next (fixed LeftParen) (object_parts o ++ fixed RightParen ∷ []) refl (calm_both (object_parts o) (fixed RightParen ∷ [])
      (calm_next (marked (Called o.name) o.pos) (outer_index o.member) refl (calm_index o.member)) (calm_next (fixed RightParen) [] refl calm_none))).is
      (λ q. absurd (cc)) (λ q. absurd (cc)) s)
      (declare_again k w p o) tt

  -- ---- statements with blocks

  if_head : (e : Expr) (x : Context ts end calls facts) (k m n : ℕ) (b : Parts) → k + m ≡ x.last → is_call (signs ts) k ≡ false
      → Says (ahead ts end follows calls facts x k m n) (fixed IfWord ∷ (outer e ++ b)) → Walked x k n b Expr (λ t. fixed IfWord ∷ outer t) (λ t. Unit {0})
  if_head e x k m n b f c s =
      let g = outer_again (bytes_at ts) (pos_at ts end ts) e (suc k) in
      from_went x Expr (λ t. fixed IfWord ∷ outer t) (λ t. Unit {0}) k n (fixed IfWord ∷ outer e) b
      (then_calm x k n (fixed IfWord) (outer e) b refl (calm_outer e).is
      (one_went ts end follows calls facts x k m n (fixed IfWord) (outer e ++ b) f c (λ q. absurd (cc)) s))
      (record { tree = g.tree; is = ap (λ (l : Parts). fixed IfWord ∷ l) g.is }) tt

  if_even : (t : Expr) → Even (fixed IfWord ∷ outer t)
  if_even t = even_next (fixed IfWord) (outer t) refl (even_outer t)

  if_walks : (e : Expr) (ys : List Statement) → AllWalk ys → (x : Context ts end calls facts) (k m n : ℕ) (b : Parts) (a : Bracket) (st : List Bracket)
      → k + m ≡ x.last → Nest ts end follows calls facts x (a ∷ st) k → is_call (signs ts) k ≡ false
      → Says (ahead ts end follows calls facts x k m n) ((fixed IfWord ∷ ((outer e ++ braced (map statement_parts ys)) ++ [])) ++ b) → WalkedTo x k n b
  if_walks e ys o x k m n b a st f h c s =
      as_tree x (Expr × Spokens) Spoken (λ t. (fixed IfWord ∷ outer t.0) ++ braced (block_of t.1)) spoken_parts (λ t. source.If t.0 t.1)
      (λ t. ap (λ (l : Parts). fixed IfWord ∷ l) (append-nil (outer t.0 ++ braced (block_of t.1))))
      (λ t. Unit {0} × all_told (told x.procs) t.1) (calls_told (told x.procs)) (λ t v. v.1) k n b
      (and_block ys o x k n b a st Expr (λ t. fixed IfWord ∷ outer t) (λ t. Unit {0}) if_even h
      (if_head e x k m n (braced (map statement_parts ys) ++ b) f c
      (subst (λ (l : Parts). Says (ahead ts end follows calls facts x k m n) (fixed IfWord ∷ l)) (grouped (outer e) (braced (map statement_parts ys)) [] b) s)))

  if_else_walks : (e : Expr) (ys zs : List Statement) → AllWalk ys → AllWalk zs → (x : Context ts end calls facts) (k m n : ℕ) (b : Parts) (a : Bracket)
      (st : List Bracket) → k + m ≡ x.last → Nest ts end follows calls facts x (a ∷ st) k → is_call (signs ts) k ≡ false
      → Says (ahead ts end follows calls facts x k m n)
      ((fixed IfWord ∷ ((outer e ++ braced (map statement_parts ys)) ++ (fixed ElseWord ∷ braced (map statement_parts zs)))) ++ b) → WalkedTo x k n b
  if_else_walks e ys zs o u x k m n b a st f h c s =
      let first : Parts = braced (map statement_parts ys) in
      let other : Parts = braced (map statement_parts zs) in
      as_tree x ((Expr × Spokens) × Spokens) Spoken
      (λ t. (((fixed IfWord ∷ outer t.0.0) ++ braced (block_of t.0.1)) ++ fixed ElseWord ∷ []) ++ braced (block_of t.1)) spoken_parts
      (λ t. source.IfElse t.0.0 t.0.1 t.1)
      (λ t. sym (append_assoc ((fixed IfWord ∷ outer t.0.0) ++ braced (block_of t.0.1)) (fixed ElseWord ∷ []) (braced (block_of t.1))))
      (λ t. (Unit {0} × all_told (told x.procs) t.0.1) × all_told (told x.procs) t.1) (calls_told (told x.procs)) (λ t v. (v.0.1, v.1)) k n b
      (and_block zs u x k n b a st (Expr × Spokens) (λ t. ((fixed IfWord ∷ outer t.0) ++ braced (block_of t.1)) ++ fixed ElseWord ∷ [])
      (λ t. Unit {0} × all_told (told x.procs) t.1)
      (λ t. even_both ((fixed IfWord ∷ outer t.0) ++ braced (block_of t.1)) (fixed ElseWord ∷ [])
      (even_both (fixed IfWord ∷ outer t.0) (braced (block_of t.1)) (if_even t.0) (even_braced (block_of t.1) (even_spokens t.1))) (even_one (fixed ElseWord) refl)) h
      (and_word x k n ElseWord (other ++ b) (Expr × Spokens) (λ t. (fixed IfWord ∷ outer t.0) ++ braced (block_of t.1))
      (λ t. Unit {0} × all_told (told x.procs) t.1) (λ q. absurd (cc)) (λ q. absurd (cc))
      (and_block ys o x k n (fixed ElseWord ∷ (other ++ b)) a st Expr (λ t. fixed IfWord ∷ outer t) (λ t. Unit {0}) if_even h
      (if_head e x k m n (first ++ (fixed ElseWord ∷ (other ++ b))) f c
      (subst (λ (l : Parts). Says (ahead ts end follows calls facts x k m n) (fixed IfWord ∷ l)) (grouped (outer e) first (fixed ElseWord ∷ other) b) s)))))

  for_again : (j : ℕ) (y : Name) (p : Pos) (l g : Expr) → Again (bytes_at ts) (pos_at ts end ts) (Expr × Expr)
      (λ t. fixed ForWord ∷ marked (Called (bytes_at ts (suc j))) (pos_at ts end ts (suc j)) ∷ fixed InWord ∷ ((outer t.0 ++ fixed DotDot ∷ []) ++ outer t.1)) j
      (fixed ForWord ∷ marked (Called y) p ∷ fixed InWord ∷ ((outer l ++ fixed DotDot ∷ []) ++ outer g))
  for_again j y p l g =
      let r = pair (bytes_at ts) (pos_at ts end ts) (λ t. outer t ++ fixed DotDot ∷ []) outer
      (λ (u : Expr × Expr). (outer u.0 ++ fixed DotDot ∷ []) ++ outer u.1) (λ t u. (t, u)) (λ t u. refl) (suc (suc (suc j)))
      (outer l ++ fixed DotDot ∷ []) (outer g)
      (ended (bytes_at ts) (pos_at ts end ts) outer (suc (suc (suc j))) (fixed DotDot) (outer l) (λ i. refl)
      (outer_again (bytes_at ts) (pos_at ts end ts) l (suc (suc (suc j)))))
      (outer_again (bytes_at ts) (pos_at ts end ts) g (after (suc (suc (suc j))) (outer l ++ fixed DotDot ∷ []))) in
      record {
        tree = r.tree;
        is = λ i. fixed ForWord ∷ marked (Called (bytes_at ts (suc j))) (pos_at ts end ts (suc j)) ∷ fixed InWord ∷ r.is i;
      }

  for_even : (y : Name) (p : Pos) (l g : Expr) → Even (fixed ForWord ∷ marked (Called y) p ∷ fixed InWord ∷ ((outer l ++ fixed DotDot ∷ []) ++ outer g))
  for_even y p l g =
      even_next (fixed ForWord) _ refl (even_next (marked (Called y) p) _ refl (even_next (fixed InWord) _ refl
      (even_both (outer l ++ fixed DotDot ∷ []) (outer g) (even_both (outer l) (fixed DotDot ∷ []) (even_outer l) (even_one (fixed DotDot) refl)) (even_outer g))))

  for_walks : (y : Name) (p : Pos) (l g : Expr) (ys : List Statement) → AllWalk ys → (x : Context ts end calls facts) (k m n : ℕ) (b : Parts) (a : Bracket)
      (st : List Bracket) → k + m ≡ x.last → Nest ts end follows calls facts x (a ∷ st) k
      → Says (ahead ts end follows calls facts x k m n) (at_statement (Statement-F.For y p l g (map statement_parts ys)) ++ b) → WalkedTo x k n b
  for_walks y p l g ys o x k m n b a st f h s =
      let limits : Parts = (outer l ++ fixed DotDot ∷ []) ++ outer g in
      let head : Parts = marked (Called y) p ∷ fixed InWord ∷ limits in
      let body : Parts = braced (map statement_parts ys) in
      as_tree x ((Expr × Expr) × Spokens) Spoken
      (λ t. (fixed ForWord ∷ marked (Called (bytes_at ts (suc k))) (pos_at ts end ts (suc k)) ∷ fixed InWord ∷ ((outer t.0.0 ++ fixed DotDot ∷ []) ++ outer t.0.1))
      ++ braced (block_of t.1)) spoken_parts (λ t. source.For (bytes_at ts (suc k)) (pos_at ts end ts (suc k)) t.0.0 t.0.1 t.1) (λ t. refl)
      (λ t. Unit {0} × all_told (told x.procs) t.1) (calls_told (told x.procs)) (λ t v. v.1) k n b
      (and_block ys o x k n b a st (Expr × Expr)
      (λ t. fixed ForWord ∷ marked (Called (bytes_at ts (suc k))) (pos_at ts end ts (suc k)) ∷ fixed InWord ∷ ((outer t.0 ++ fixed DotDot ∷ []) ++ outer t.1))
      (λ t. Unit {0}) (λ t. for_even (bytes_at ts (suc k)) (pos_at ts end ts (suc k)) t.0 t.1) h
      (from_went x (Expr × Expr)
      (λ t. fixed ForWord ∷ marked (Called (bytes_at ts (suc k))) (pos_at ts end ts (suc k)) ∷ fixed InWord ∷ ((outer t.0 ++ fixed DotDot ∷ []) ++ outer t.1))
      (λ t. Unit {0}) k n (fixed ForWord ∷ head) (body ++ b)
      (then_calm x k n (fixed ForWord) head (body ++ b) refl
      (calm_next (marked (Called y) p) (fixed InWord ∷ limits) refl (calm_next (fixed InWord) limits refl
      (calm_both (outer l ++ fixed DotDot ∷ []) (outer g) (calm_both (outer l) (fixed DotDot ∷ []) (calm_outer l) (calm_next (fixed DotDot) [] refl calm_none))
      (calm_outer g)))).is
      (first_went ts end follows calls facts x k m n (fixed ForWord) (head ++ (body ++ b)) f (λ q. absurd (cc)) (λ q. absurd (cc))
      (subst (λ (u : Parts). Says (ahead ts end follows calls facts x k m n) (fixed ForWord ∷ u)) (append_assoc head body b) s)))
      (for_again k y p l g) tt))

  list_again : (ns : List Named) (j : ℕ) → Again (bytes_at ts) (pos_at ts end ts) (List Named)
      (λ t. fixed DoWord ∷ fixed LeftParen ∷ (name_parts t ++ fixed RightParen ∷ [])) j (fixed DoWord ∷ fixed LeftParen ∷ (name_parts ns ++ fixed RightParen ∷ []))
  list_again ns j =
      let r = ended (bytes_at ts) (pos_at ts end ts) name_parts (suc (suc j)) (fixed RightParen) (name_parts ns) (λ i. refl)
      (names_again (bytes_at ts) (pos_at ts end ts) ns (suc (suc j))) in
      record { tree = r.tree; is = λ i. fixed DoWord ∷ fixed LeftParen ∷ r.is i }

  word_even : (s : lexicon.Sign) (p : Pos) → s ≡ WithonlyWord → Even (marked (Fixed s) p ∷ [])
  word_even s p e = subst (λ (w : lexicon.Sign). Even (marked (Fixed w) p ∷ [])) (sym e) (even_one (marked (Fixed WithonlyWord) p) refl)

  list_even : (ns : List Named) → Even (fixed DoWord ∷ fixed LeftParen ∷ (name_parts ns ++ fixed RightParen ∷ []))
  list_even ns = even_next (fixed DoWord) _ refl (even_in Round (fixed LeftParen) (fixed RightParen) (name_parts ns) refl refl (even_names ns))

  withonly_walks : (p : Pos) (ys : List Statement) (ns : List Named) (zs : List Statement) → AllWalk ys → AllWalk zs → (x : Context ts end calls facts) (k m n : ℕ)
      (b : Parts) (a : Bracket) (st : List Bracket) → k + m ≡ x.last → Nest ts end follows calls facts x (a ∷ st) k
      → Says (ahead ts end follows calls facts x k m n) (at_statement (Statement-F.Withonly p (map statement_parts ys) ns (map statement_parts zs)) ++ b) → WalkedTo x k n b
  withonly_walks p ys ns zs o u x k m n b a st f h s =
      let section : Parts = braced (map statement_parts ys) in
      let body : Parts = braced (map statement_parts zs) in
      let list : Parts = fixed LeftParen ∷ (name_parts ns ++ fixed RightParen ∷ []) in
      as_tree x (((Unit {0} × Spokens) × List Named) × Spokens) Spoken
      (λ t. (((marked (Fixed WithonlyWord) (pos_at ts end ts k) ∷ []) ++ braced (block_of t.0.0.1))
      ++ (fixed DoWord ∷ fixed LeftParen ∷ (name_parts t.0.1 ++ fixed RightParen ∷ []))) ++ braced (block_of t.1)) spoken_parts
      (λ t. source.Withonly (pos_at ts end ts k) t.0.0.1 t.0.1 t.1)
      (λ t. ap (λ (l : Parts). l ++ braced (block_of t.1))
      (handed (marked (Fixed WithonlyWord) (pos_at ts end ts k) ∷ braced (block_of t.0.0.1)) (fixed DoWord ∷ []) (fixed LeftParen ∷ []) (name_parts t.0.1)
      (fixed RightParen ∷ [])))
      (λ t. (Unit {0} × all_told (told x.procs) t.0.0.1) × all_told (told x.procs) t.1) (calls_told (told x.procs)) (λ t v. (v.0.1, v.1)) k n b
      (and_block zs u x k n b a st ((Unit {0} × Spokens) × List Named)
      (λ t. ((marked (Fixed WithonlyWord) (pos_at ts end ts k) ∷ []) ++ braced (block_of t.0.1))
      ++ (fixed DoWord ∷ fixed LeftParen ∷ (name_parts t.1 ++ fixed RightParen ∷ []))) (λ t. Unit {0} × all_told (told x.procs) t.0.1)
      (λ t. even_both ((marked (Fixed WithonlyWord) (pos_at ts end ts k) ∷ []) ++ braced (block_of t.0.1)) _
      (even_both (marked (Fixed WithonlyWord) (pos_at ts end ts k) ∷ []) (braced (block_of t.0.1)) (word_even WithonlyWord (pos_at ts end ts k) refl)
      (even_braced (block_of t.0.1) (even_spokens t.0.1))) (list_even t.1)) h
      (and_calm x k n (fixed DoWord) list (body ++ b) (Unit {0} × Spokens) (List Named)
      (λ t. (marked (Fixed WithonlyWord) (pos_at ts end ts k) ∷ []) ++ braced (block_of t.1))
      (λ t. fixed DoWord ∷ fixed LeftParen ∷ (name_parts t ++ fixed RightParen ∷ [])) (λ t. Unit {0} × all_told (told x.procs) t.1)
      (λ q. absurd (cc)) (λ q. absurd (cc)) refl
      (calm_next (fixed LeftParen) (name_parts ns ++ fixed RightParen ∷ []) refl
      (calm_both (name_parts ns) (fixed RightParen ∷ []) (calm_names ns) (calm_next (fixed RightParen) [] refl calm_none))).is
      (list_again ns)
      (and_block ys o x k n (fixed DoWord ∷ (list ++ (body ++ b))) a st (Unit {0}) (λ t. marked (Fixed WithonlyWord) (pos_at ts end ts k) ∷ []) (λ t. Unit {0})
      (λ t. word_even WithonlyWord (pos_at ts end ts k) refl) h
      (marked_word x k m n WithonlyWord p (section ++ (fixed DoWord ∷ (list ++ (body ++ b)))) f (λ q. absurd (cc)) (λ q. absurd (cc))
      (subst (λ (l : Parts). Says (ahead ts end follows calls facts x k m n) (marked (Fixed WithonlyWord) p ∷ l))
      (append_assoc ((((section ++ fixed DoWord ∷ []) ++ fixed LeftParen ∷ []) ++ name_parts ns) ++ fixed RightParen ∷ []) body b
      ∙ ap (λ (l : Parts). l ++ (body ++ b)) (handed section (fixed DoWord ∷ []) (fixed LeftParen ∷ []) (name_parts ns) (fixed RightParen ∷ []))
      ∙ append_assoc section (fixed DoWord ∷ list) (body ++ b)) s)))))

  with_walks : (p : Pos) (ys : List Statement) → AllWalk ys → (x : Context ts end calls facts) (k m n : ℕ) (b : Parts) (a : Bracket) (st : List Bracket)
      → k + m ≡ x.last → Nest ts end follows calls facts x (a ∷ st) k
      → Says (ahead ts end follows calls facts x k m n) (at_statement (Statement-F.With p (map statement_parts ys)) ++ b) → WalkedTo x k n b
  with_walks p ys o x k m n b a st f h s =
      let section : Parts = braced (map statement_parts ys) in
      as_tree x (Unit {0} × Spokens) Spoken
      (λ t. (((marked (Fixed WithWord) (pos_at ts end ts k) ∷ []) ++ braced (block_of t.1)) ++ fixed ContWord ∷ []) ++ fixed Semicolon ∷ []) spoken_parts
      (λ t. source.With (pos_at ts end ts k) t.1) (λ t. refl) (λ t. Unit {0} × all_told (told x.procs) t.1) (calls_told (told x.procs)) (λ t v. v.1) k n b
      (and_word x k n Semicolon b (Unit {0} × Spokens) (λ t. ((marked (Fixed WithWord) (pos_at ts end ts k) ∷ []) ++ braced (block_of t.1)) ++ fixed ContWord ∷ [])
      (λ t. Unit {0} × all_told (told x.procs) t.1) (λ q. absurd (cc)) (λ q. absurd (cc))
      (and_word x k n ContWord (fixed Semicolon ∷ b) (Unit {0} × Spokens) (λ t. (marked (Fixed WithWord) (pos_at ts end ts k) ∷ []) ++ braced (block_of t.1))
      (λ t. Unit {0} × all_told (told x.procs) t.1) (λ q. absurd (cc)) (λ q. absurd (cc))
      (and_block ys o x k n (fixed ContWord ∷ fixed Semicolon ∷ b) a st (Unit {0}) (λ t. marked (Fixed WithWord) (pos_at ts end ts k) ∷ []) (λ t. Unit {0})
      (λ t. even_one (marked (Fixed WithWord) (pos_at ts end ts k)) refl) h
      (marked_word x k m n WithWord p (section ++ (fixed ContWord ∷ fixed Semicolon ∷ b)) f (λ q. absurd (cc)) (λ q. absurd (cc))
      (subst (λ (l : Parts). Says (ahead ts end follows calls facts x k m n) (marked (Fixed WithWord) p ∷ l))
      (grouped section (fixed ContWord ∷ []) (fixed Semicolon ∷ []) b) s)))))

  -- ---- all statements

  -- a call that is written stands where an `if` is read
  abbrev pub Calling : Type 0
  Calling = (e : Expr) (ys : List Statement) (other : Option (List Parts)) → AllWalk ys → (x : Context ts end calls facts) (k m n : ℕ) (b : Parts) (a : Bracket)
      (st : List Bracket) → k + m ≡ x.last → Nest ts end follows calls facts x (a ∷ st) k → is_call (signs ts) k ≡ true
      → Says (ahead ts end follows calls facts x k m n) ((fixed IfWord ∷ ((outer e ++ braced (map statement_parts ys)) ++ else_parts other)) ++ b) → WalkedTo x k n b

  module _ (calling : Calling) where
    module _ {S : Type 0} (val : S → Statement) (ok : (y : S) → Walks (val y)) where
      all_walk : (ys : List S) → AllWalk (map val ys)
      all_walk [] = tt
      all_walk (y ∷ ys) = (ok y, all_walk ys)

      layer : (y : Statement-F S) (x : Context ts end calls facts) (k m n : ℕ) (b : Parts) (a : Bracket) (st : List Bracket) → k + m ≡ x.last
          → Nest ts end follows calls facts x (a ∷ st) k
          → Says (ahead ts end follows calls facts x k m n)
          (at_statement (map-Statement Statement Parts statement_parts (map-Statement S Statement val y)) ++ b) → WalkedTo x k n b
      layer (Statement-F.Local kind y p e) x k m n b a st f h s = local_walks kind y p e x k m n b f s
      layer (Statement-F.Assign y p e) x k m n b a st f h s = assign_walks y p e x k m n b f s
      layer (Statement-F.Store c e) x k m n b a st f h s = store_walks c e x k m n b f s
      layer (Statement-F.If e ys None) x k m n b a st f h s =
          by_case (is_call (signs ts) k) (λ c. calling e (map val ys) None (all_walk ys) x k m n b a st f h c s)
          (λ c. if_walks e (map val ys) (all_walk ys) x k m n b a st f h c s)
      layer (Statement-F.If e ys (Some zs)) x k m n b a st f h s =
          by_case (is_call (signs ts) k)
          (λ c. calling e (map val ys) (Some (map statement_parts (map val zs))) (all_walk ys) x k m n b a st f h c s)
          (λ c. if_else_walks e (map val ys) (map val zs) (all_walk ys) (all_walk zs) x k m n b a st f h c s)
      layer (Statement-F.For y p l g ys) x k m n b a st f h s = for_walks y p l g (map val ys) (all_walk ys) x k m n b a st f h s
      layer (Statement-F.Withonly p ys ns zs) x k m n b a st f h s =
          withonly_walks p (map val ys) ns (map val zs) (all_walk ys) (all_walk zs) x k m n b a st f h s
      layer (Statement-F.With p ys) x k m n b a st f h s = with_walks p (map val ys) (all_walk ys) x k m n b a st f h s
      layer (Statement-F.Declare w p o) x k m n b a st f h s = declare_walks w p o x k m n b f s

      rolled : (y : Statement-F S) → Walks (roll-Statement (map-Statement S Statement val y))
      rolled y = record {
        walk = λ x k m n b a st f h s. layer y x k m n b a st f h
            (subst (λ (ps : Parts). Says (ahead ts end follows calls facts x k m n) (ps ++ b))
            (fold-roll-Statement Parts at_statement (map-Statement S Statement val y)) s);
      }

    pub statement_walks : (s : Statement) → Walks s
    statement_walks s = ind-Statement Walks (λ x y k. rw (← k) (rolled (λ z. z.0) (λ z. z.1) y)) s

    pub all_statements_walk : (ss : List Statement) → AllWalk ss
    all_statements_walk [] = tt
    all_statements_walk (s ∷ ss) = (statement_walks s, all_statements_walk ss)
