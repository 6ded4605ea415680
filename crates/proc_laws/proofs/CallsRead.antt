-- What is written for a call, and the statement that spells it.
use Rattle.std.proofs.Common.{◌≡◌, ℕ, suc, ◌+◌, ◌<◌, ◌≤◌, Bool, true, false, List, [], ◌∷◌, ◌++◌, length, map, refl, sym, ap, ◌∙◌, subst, arith}
use Rattle.std.specs.Prelude.{if◌then◌else◌}
use Rattle.std.specs.List.{flat_map, list_all}
use Rattle.std.proofs.lemmas.List.{append_assoc}
use Rattle.std.proofs.lemmas.Bool.{and_parts}
use Rattle.jade_base.specs.declared.place.Pos.{Pos}
use Rattle.jade_lexer.specs.Lexemes.{TokenAt}
use Rattle.jade_syntax.specs.declared.tree.DeclareWord.{DeclareWord}
use Rattle.jade_syntax.specs.declared.tree.DeclareWord.TheVariants.{Rd, Wr, RdWr, DfRd, DfWr, DfRdWr, Cm, NoRd, NoWr, NoRdWr}
use Rattle.jade_syntax.specs.declared.tree.Expr.{Expr}
use Rattle.jade_syntax.specs.declared.tree.Statement.{Statement, out-Statement, map-Statement}
use Rattle.jade_syntax.specs.declared.tree.Statement.TheOpen.{Statement-F}
use Rattle.jade_syntax.specs.declared.tree.ValueKind.{ValueKind}
use Rattle.jade_syntax.specs.Abstract.{Name}
use Rattle.jade_syntax.specs.Numbering.{same_name}
use Rattle.jade_parser.specs.declared.Sign.TheVariants.{RightBrace, Semicolon, IfWord}
use Rattle.jade_parser.specs.Spelled.{Fixed, Part, Parts, fixed, outer}
use Rattle.jade_parser.specs.Statements.{braced, declare_word, at_statement, statement_parts}
use Rattle.proc_expand.specs.declared.sign.Bracket.TheVariants.{Curly}
use Rattle.proc_expand.specs.declared.sign.Sign.{Sign}
use Rattle.proc_expand.specs.declared.sign.Sign.TheVariants as mark
use Rattle.proc_expand.specs.declared.sign.End.TheVariants.{Closed}
use Rattle.proc_expand.specs.Words.{sign_of, signs, at, bytes_at, closes_round, closing}
use Rattle.proc_expand.specs.Refusals.{is_call, call_end, count, head, body_end, procedure}
use Rattle.proc_expand.specs.Written.{MadeToken, CallWriter, write_call, and_writer, no_writer}
use Rattle.proc_laws.specs.SourceTree.{Spokens}
use Rattle.proc_laws.specs.SourceReading.{block_of}
use Rattle.proc_laws.proofs.Basics.{no_both}
use Rattle.proc_laws.proofs.SignsOfTokens.{token_sign, parts_signs, sign_is}
use Rattle.proc_laws.proofs.PlacesInText.{after, Reads}
use Rattle.proc_laws.proofs.InnerTokens.{outer_some}
use Rattle.proc_laws.proofs.LevelParts.{calm, calm_outer}
use Rattle.proc_laws.proofs.RenamedParts.{made_is}
use Rattle.proc_laws.proofs.TokensAhead.{Said, Says, Opening}
use Rattle.proc_laws.proofs.Walking.{all_told}

-- ---- what a token that is said is

pub said_sign : (t : MadeToken) (p : Part) → Said t p → sign_of t.bytes ≡ token_sign p.token
said_sign t p h = ap sign_of h.bytes ∙ sign_is p.token h.valid

-- parts that begin with a token and end before a `{` that comes next are one part
pub lone : (ps qs : Parts) (t u : MadeToken) (us : List MadeToken) → 0 < length ps → list_all calm (parts_signs ps) ≡ true
    → sign_of u.bytes ≡ mark.Opens Curly → Says (t ∷ u ∷ us) (ps ++ qs) → Says (u ∷ us) qs
lone [] qs t u us l c h s = absurd (omega (arith, l))
lone (p ∷ []) qs t u us l c h s = s.1
lone (p ∷ q ∷ ps) qs t u us l c h s =
    let g = and_parts (calm (token_sign p.token)) (list_all calm (parts_signs (q ∷ ps))) c in
    let k = and_parts (calm (token_sign q.token)) (list_all calm (parts_signs ps)) g.1 in
    absurd (no_both (calm (token_sign q.token)) k.0 (ap calm (sym (said_sign u q s.1.0) ∙ h)))

-- what is written for a call and comes after it: a block, and what comes after that
pub call_block : (t u v : MadeToken) (us : List MadeToken) (e : Expr) (ys : List Statement) (other b : Parts) → sign_of v.bytes ≡ mark.Opens Curly
    → Says (t ∷ u ∷ v ∷ us) ((fixed IfWord ∷ ((outer e ++ braced (map statement_parts ys)) ++ other)) ++ b)
    → Says us (flat_map (λ (p : Parts). p) (map statement_parts ys) ++ (fixed RightBrace ∷ (other ++ b)))
call_block t u v us e ys other b h s =
    let run : Parts = flat_map (λ (p : Parts). p) (map statement_parts ys) in
    let r : Says (u ∷ v ∷ us) (outer e ++ (braced (map statement_parts ys) ++ (other ++ b))) =
    subst (Says (u ∷ v ∷ us))
    (append_assoc (outer e ++ braced (map statement_parts ys)) other b ∙ append_assoc (outer e) (braced (map statement_parts ys)) (other ++ b)) s.1 in
    let g = lone (outer e) (braced (map statement_parts ys) ++ (other ++ b)) u v us (outer_some e) (calm_outer e).is h r in
    subst (Says us) (append_assoc run (fixed RightBrace ∷ []) (other ++ b)) g.1

-- none of these tokens can be a `;`
abbrev pub NoEnd : List MadeToken → Type 0
NoEnd [] = Unit {0}
NoEnd (u ∷ a) = (Said u (fixed Semicolon) → ⊥) × NoEnd a

-- tokens before a `;` are those before the first `;` of the parts
pub until_semicolon : (a : List MadeToken) (ps : Parts) (t : MadeToken) (us : List MadeToken) (qs : Parts)
    → NoEnd a → list_all calm (parts_signs ps) ≡ true → sign_of t.bytes ≡ mark.Semicolon
    → Says (a ++ t ∷ us) (ps ++ fixed Semicolon ∷ qs) → Says a ps × Says us qs
until_semicolon [] [] t us qs n c h s = (tt, s.1)
until_semicolon [] (p ∷ ps) t us qs n c h s =
    let g = and_parts (calm (token_sign p.token)) (list_all calm (parts_signs ps)) c in
    absurd (no_both (calm (token_sign p.token)) g.0 (ap calm (sym (said_sign t p s.0) ∙ h)))
until_semicolon (u ∷ a) [] t us qs n c h s = absurd (n.0 s.0)
until_semicolon (u ∷ a) (p ∷ ps) t us qs n c h s =
    let k = and_parts (calm (token_sign p.token)) (list_all calm (parts_signs ps)) c in
    let r = until_semicolon a ps t us qs n.1 k.1 h s.1 in ((s.0, r.0), r.1)

-- ---- a statement that begins with the word of a kind

pub record Kinded (s : Statement) : Type 0 where
  pub kind : ValueKind
  pub name : Name
  pub at : Pos
  pub value : Expr
  pub is : statement_parts s ≡ at_statement (Statement-F.Local kind name at value)

how_sign : (w : DeclareWord) → token_sign (declare_word w) ≡ mark.Other
how_sign Rd = refl
how_sign Wr = refl
how_sign RdWr = refl
how_sign DfRd = refl
how_sign DfWr = refl
how_sign DfRdWr = refl
how_sign Cm = refl
how_sign NoRd = refl
how_sign NoWr = refl
how_sign NoRdWr = refl

not_kind : {A : Type 0} (m : Sign) → m ≡ mark.Other → m ≡ mark.Kind → A
not_kind m h g = let q : mark.Other ≡ mark.Kind = sym h ∙ g in absurd (cc)

kinded_by : (s : Statement) (f : Statement-F Statement) → out-Statement s ≡ f → (t : MadeToken) (us : List MadeToken) (c : Parts)
    → sign_of t.bytes ≡ mark.Kind → Says (t ∷ us) (at_statement (map-Statement Statement Parts statement_parts f) ++ c) → Kinded s
kinded_by s (Statement-F.Local kind x at e) o t us c h g =
    record { kind = kind; name = x; at = at; value = e; is = made_is s (Statement-F.Local kind x at e) o }
kinded_by s (Statement-F.Assign x at e) o t us c h g = absurd (let q : mark.Called ≡ mark.Kind = sym (said_sign t _ g.0) ∙ h in cc)
kinded_by s (Statement-F.Store r e) o t us c h g = absurd (let q : mark.Called ≡ mark.Kind = sym (said_sign t _ g.0) ∙ h in cc)
kinded_by s (Statement-F.If e ys other) o t us c h g = not_kind (token_sign (Fixed IfWord)) refl (sym (said_sign t (fixed IfWord) g.0) ∙ h)
kinded_by s (Statement-F.For x at l u ys) o t us c h g = not_kind _ refl (sym (said_sign t _ g.0) ∙ h)
kinded_by s (Statement-F.Withonly at ys ns zs) o t us c h g = not_kind _ refl (sym (said_sign t _ g.0) ∙ h)
kinded_by s (Statement-F.With at ys) o t us c h g = not_kind _ refl (sym (said_sign t _ g.0) ∙ h)
kinded_by s (Statement-F.Declare w at r) o t us c h g = not_kind (token_sign (declare_word w)) (how_sign w) (sym (said_sign t _ g.0) ∙ h)

pub kinded : (s : Statement) (t : MadeToken) (us : List MadeToken) (c : Parts) → sign_of t.bytes ≡ mark.Kind → Says (t ∷ us) (statement_parts s ++ c) → Kinded s
kinded s t us c h g =
    kinded_by s (out-Statement s) refl t us c h (subst (λ (ps : Parts). Says (t ∷ us) (ps ++ c)) (made_is s (out-Statement s) refl) g)

-- a parameter that gets the value of an argument
pub record Given (ys : List Statement) (a us : List MadeToken) (c : Parts) : Type 0 where
  pub first : Statement
  pub more : List Statement
  pub is : ys ≡ first ∷ more
  pub value : Expr
  pub said : Says a (outer value)
  pub rest : Says us (flat_map (λ (p : Parts). p) (map statement_parts more) ++ c)

pub given_one : (ys : List Statement) (t u v w : MadeToken) (a us : List MadeToken) (c : Parts) → sign_of t.bytes ≡ mark.Kind → sign_of w.bytes ≡ mark.Semicolon
    → NoEnd a
    → Says (t ∷ u ∷ v ∷ (a ++ w ∷ us)) (flat_map (λ (p : Parts). p) (map statement_parts ys) ++ fixed RightBrace ∷ c) → Given ys a us (fixed RightBrace ∷ c)
given_one [] t u v w a us c h k n s =
    absurd (let q : mark.Closes Curly ≡ mark.Kind = sym (said_sign t (fixed RightBrace) s.0) ∙ h in cc)
given_one (y ∷ ys) t u v w a us c h k n s =
    let run : Parts = flat_map (λ (p : Parts). p) (map statement_parts ys) in
    let all : List MadeToken = t ∷ u ∷ v ∷ (a ++ w ∷ us) in
    let r : Says all (statement_parts y ++ (run ++ fixed RightBrace ∷ c)) =
    subst (Says all) (append_assoc (statement_parts y) run (fixed RightBrace ∷ c)) s in
    let d = kinded y t (u ∷ v ∷ (a ++ w ∷ us)) (run ++ fixed RightBrace ∷ c) h r in
    let g : Says all (at_statement (Statement-F.Local d.kind d.name d.at d.value) ++ (run ++ fixed RightBrace ∷ c)) =
    subst (λ (ps : Parts). Says all (ps ++ (run ++ fixed RightBrace ∷ c))) d.is r in
    let z = until_semicolon a (outer d.value) w us (run ++ fixed RightBrace ∷ c) n (calm_outer d.value).is k
    (subst (Says (a ++ w ∷ us)) (append_assoc (outer d.value) (fixed Semicolon ∷ []) (run ++ fixed RightBrace ∷ c)) g.1.1.1) in
    record { first = y; more = ys; is = refl; value = d.value; said = z.0; rest = z.1 }

-- ---- procedures, the newest first

abbrev pub Either : Bool → Type 0 → Type 0 → Type 0
Either true A B = A
Either false A B = B

module _ (ts : List TokenAt) (end : Pos) where
  abbrev pub writers : List ℕ → CallWriter ts end
  writers [] = no_writer ts end
  writers (p ∷ ps) = and_writer ts end (writers ps) (procedure (signs ts) p)

  -- a procedure whose body reads, where `before` tells of calls of those before it
  pub record Here (p : ℕ) (before : Name → ℕ → Type 0) (n : ℕ) : Type 0 where
    pub many : n ≡ (head (signs ts) p).params
    pub body : Spokens
    pub reads : Reads ts end (suc (head (signs ts) p).stop) (flat_map (λ (t : Parts). t) (block_of body))
    pub ends : body_end (signs ts) p ≡ Closed (after (suc (head (signs ts) p).stop) (flat_map (λ (t : Parts). t) (block_of body)))
    pub calls : all_told before body

  -- the last procedure of a name reads, and takes so many arguments
  abbrev pub told : List ℕ → Name → ℕ → Type 0
  told [] x n = ⊥
  told (p ∷ ps) x n = Either (same_name x (bytes_at ts (p + 1))) (Here p (told ps) n) (told ps x n)

  -- the last procedure of the name of a call is there, and takes its arguments
  abbrev pub Resolved : List ℕ → ℕ → Type 0
  Resolved [] k = ⊥
  Resolved (p ∷ ps) k = Either (same_name (bytes_at ts k) (bytes_at ts (p + 1))) (count (signs ts) k ≡ (head (signs ts) p).params) (Resolved ps k)

  -- a procedure after others: all of its head fits, and its body is closed; each call before that is of one of these
  pub record Sure (ps : List ℕ) (p : ℕ) : Type 0 where
    pub fits : (head (signs ts) p).fits ≡ true
    pub last : ℕ
    pub closed : closing (signs ts) (head (signs ts) p).stop ≡ Closed last
    pub opens : at (signs ts) (head (signs ts) p).stop ≡ mark.Opens Curly
    pub within : last ≤ length ts
    pub calls : (k : ℕ) → k < last → is_call (signs ts) k ≡ true → Resolved ps k

  abbrev pub Chain : List ℕ → Type 0
  Chain [] = Unit {0}
  Chain (p ∷ ps) = Sure ps p × Chain ps

  -- what is known of a call of a text that is not refused: its brackets are closed, a `;` comes next and then no `else`, and no `;` is within
  pub record CallSound (k : ℕ) : Type 0 where
    pub last : ℕ
    pub closed : call_end (signs ts) k ≡ Closed last
    pub bracket : closes_round (at (signs ts) last) ≡ true
    pub below : suc last < length ts
    pub ends : at (signs ts) (suc last) ≡ mark.Semicolon
    pub no_else : at (signs ts) (suc (suc last)) ≡ mark.Else → ⊥
    pub quiet : (j : ℕ) → suc (suc k) ≤ j → j < last → at (signs ts) j ≡ mark.Semicolon → ⊥
    pub room : suc k < last

  -- what is known of the calls before a place: each is sound, and is of one of these procedures
  pub record Facts (procs : List ℕ) (last : ℕ) : Type 0 where
    pub chain : Chain procs
    pub sound : (k : ℕ) → is_call (signs ts) k ≡ true → CallSound k
    pub calls : (k : ℕ) → k < last → is_call (signs ts) k ≡ true → Resolved procs k

  pub record Found (procs : List ℕ) (k : ℕ) : Type 0 where
    pub place : ℕ
    pub before : List ℕ
    pub sure : Sure before place
    pub chain : Chain before
    pub counts : count (signs ts) k ≡ (head (signs ts) place).params
    pub writes : (args : List (List MadeToken)) (n : ℕ)
        → writers procs k args n ≡ write_call ts end (writers before) (procedure (signs ts) place) k args n
    pub tells : (n : ℕ) → Here place (told before) n → told procs (bytes_at ts k) n

  pub found : (procs : List ℕ) (k : ℕ) → Chain procs → Resolved procs k → Found procs k
  found [] k c r = absurd r
  found (p ∷ ps) k c r = by (same_name (bytes_at ts k) (bytes_at ts (p + 1))) refl r (λ g. found ps k c.1 g)
    where
      by : (t : Bool) → same_name (bytes_at ts k) (bytes_at ts (p + 1)) ≡ t → Either t (count (signs ts) k ≡ (head (signs ts) p).params) (Resolved ps k)
          → (Resolved ps k → Found ps k) → Found (p ∷ ps) k
      by true e g go = record {
        place = p;
        before = ps;
        sure = c.0;
        chain = c.1;
        counts = g;
        writes = λ args n. ap (λ b. if b then write_call ts end (writers ps) (procedure (signs ts) p) k args n else writers ps k args n) e;
        tells = λ n h. subst (λ b. Either b (Here p (told ps) n) (told ps (bytes_at ts k) n)) (sym e) h;
      }
      by false e g go =
          let f = go g in
          record {
            place = f.place;
            before = f.before;
            sure = f.sure;
            chain = f.chain;
            counts = f.counts;
            writes = λ args n. ap (λ b. if b then write_call ts end (writers ps) (procedure (signs ts) p) k args n else writers ps k args n) e ∙ f.writes args n;
            tells = λ n h. subst (λ b. Either b (Here p (told ps) n) (told ps (bytes_at ts k) n)) (sym e) (f.tells n h);
          }

  -- it is written so that it begins with `if`
  pub opening : (procs : List ℕ) (k : ℕ) → Found procs k → (args : List (List MadeToken)) (n : ℕ) → Opening ts end k (writers procs k args n).tokens
  opening procs k f args n = record { more = _; is = ap (λ w. w.tokens) (f.writes args n) }
