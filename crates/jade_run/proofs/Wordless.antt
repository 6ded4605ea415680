-- A text in which no `c` stands before an `m` is one of a program without the word `cm`, and one in which no `p` stands before an `r` has no procedures.
use Rattle.std.proofs.Common.{◌≡◌, ℕ, ◌≤◌, Bool, true, false, ◌&&◌, ◌||◌, not, List, [], ◌∷◌, ◌++◌, Some, None, map, refl, sym, ap, ◌∙◌, subst, arith, rules}
use Rattle.std.specs.Prelude.{◌==◌, codes, nat_eq}
use Rattle.std.proofs.lemmas.Bool.{eqb-true}
use Rattle.std.specs.List.{list_all, flat_map}
use Rattle.std.specs.Char.{is_ascii_digit}
use Rattle.std.specs.Fmt.{decimal}
use Rattle.std.proofs.lemmas.Fmt.{digits_decimal}
use Rattle.std.proofs.lemmas.Bool.Decides.{nat_tests}
use Rattle.std.proofs.lemmas.Str.Parse.{IsNumeralModel, numerals_by_fold}
use Rattle.jade_gen.specs.Drill.{drill_text, drill_tail}
use Rattle.jade_lexer.specs.Alphabet.{value_after}
use Rattle.jade_base.specs.declared.place.Pos.{Pos}
use Rattle.jade_lexer.specs.Lexemes.{TokenAt, TokenList}
use Rattle.jade_lexer.specs.Cut.{Cut, nothing, blank, token, IsCut}
use Rattle.jade_lexer.specs.Reading.{reading, Whole}
use Rattle.jade_syntax.specs.declared.tree.DeclareWord.{DeclareWord}
use Rattle.jade_syntax.specs.declared.tree.DeclareWord.TheVariants.{Rd, Wr, RdWr, DfRd, DfWr, DfRdWr, Cm, NoRd, NoWr, NoRdWr}
use Rattle.jade_syntax.specs.declared.tree.Expr.{Expr}
use Rattle.jade_syntax.specs.declared.tree.Named.{Named}
use Rattle.jade_syntax.specs.declared.tree.ObjectRef.{ObjectRef}
use Rattle.jade_syntax.specs.declared.tree.Program.{Program}
use Rattle.jade_syntax.specs.declared.tree.Statement.{Statement, map-Statement, fold-roll-Statement, ind-Statement}
use Rattle.jade_syntax.specs.declared.tree.Statement.TheOpen.{Statement-F}
use Rattle.jade_syntax.specs.Abstract.{Action}
use Rattle.jade_syntax.specs.Forms as general
use Rattle.jade_syntax.specs.Image.{forms, statement_forms, actions, action, block, program}
use Rattle.jade_parser.specs.declared.Sign.TheVariants.{LeftParen, RightParen, RightBrace, IfWord, DoWord, DotDot}
use Rattle.jade_parser.specs.declared.Sign.TheVariants.{ForWord, InWord, WithonlyWord, WithWord, ContWord, Semicolon}
use Rattle.jade_parser.specs.Spelled.{Part, Parts, Fixed, Called, fixed, marked, outer}
use Rattle.jade_parser.specs.Kinds.{token_bytes}
use Rattle.jade_parser.specs.Statements.{braced, name_parts, else_parts, at_statement, statement_parts, block_parts}
use Rattle.jade_parser.specs.Programs.{head_parts, program_parts}
use Rattle.jade_parser.specs.Grammar.{bytes_of}
use Rattle.jade_syntax.specs.Numbering.{same_name}
use Rattle.jade_reading.specs.Reading.{ReadsAs}
use Rattle.proc_expand.specs.Words.{has_proc}
use Rattle.jade_run.specs.Answered.{IsRead}
use Rattle.jade_run.specs.Standing.{StandsFor, itself, expansion}
use Rattle.jade_meaning.specs.Uncommuting.{is_cm, has_cm, any_cm, uses_cm}

both_true : (a b : Bool) → (a && b) ≡ true → (a ≡ true) × (b ≡ true)
both_true true b h = (refl, h)
both_true false b h = absurd (cc)

neither : (a b : Bool) → (a || b) ≡ false → (a ≡ false) × (b ≡ false)
neither true b h = absurd (cc)
neither false b h = (refl, h)

or_none : (a b : Bool) → a ≡ false → b ≡ false → (a || b) ≡ false
or_none a b p q = rw (p, q) refl

and_both : (a b : Bool) → a ≡ true → b ≡ true → (a && b) ≡ true
and_both a b p q = rw (p, q) refl

-- ---- the bytes

abbrev begins : (byte : ℕ) → List ℕ → Bool
begins c [] = false
begins c (b ∷ bytes) = b == c

-- somewhere one byte stands behind another
abbrev pair : (first second : ℕ) → List ℕ → Bool
pair a c [] = false
pair a c (b ∷ bytes) = (b == a && begins c bytes) || pair a c bytes

-- somewhere an `m` stands behind a `c`
abbrev joins : List ℕ → Bool
joins bytes = pair 99 109 bytes

abbrev is_word : List ℕ → Bool
is_word [] = false
is_word (b ∷ []) = false
is_word (b ∷ c ∷ []) = b == 99 && c == 109
is_word (b ∷ c ∷ d ∷ bytes) = false

abbrev other : List ℕ → Bool
other bytes = not (is_word bytes)

later : (a c : ℕ) (front after : List ℕ) → pair a c (front ++ after) ≡ false → pair a c after ≡ false
later a c [] after h = h
later a c (b ∷ front) after h = later a c front after (neither (b == a && begins c (front ++ after)) (pair a c (front ++ after)) h).1

not_word : (x after : List ℕ) → joins (x ++ after) ≡ false → other x ≡ true
not_word [] after h = refl
not_word (b ∷ []) after h = refl
not_word (b ∷ c ∷ []) after h = ap not (neither (b == 99 && c == 109) (joins (c ∷ after)) h).0
not_word (b ∷ c ∷ d ∷ x) after h = refl

none_cut : {end : Pos} {spot : _} {bytes : List ℕ} {ts : List TokenAt} → Cut end spot bytes ts → joins bytes ≡ false
    → list_all other (map (λ (t : TokenAt). t.bytes) ts) ≡ true
none_cut (nothing e) h = refl
none_cut (blank front after e b rest) h = none_cut rest (later 99 109 front after (subst (λ l. joins l ≡ false) e h))
none_cut (token {t = t} {tokens = more} after e p q l s rest) h =
    let k : joins (t.bytes ++ after) ≡ false = subst (λ x. joins x ≡ false) e h in
    and_both (other t.bytes) (list_all other (map (λ (x : TokenAt). x.bytes) more)) (not_word t.bytes after k) (none_cut rest (later 99 109 t.bytes after k))

-- ---- the parts

abbrev clean : Parts → Bool
clean ps = list_all other (map (λ (p : Part). token_bytes p.token) ps)

split : (a b : Parts) → clean (a ++ b) ≡ true → (clean a ≡ true) × (clean b ≡ true)
split [] b h = (refl, h)
split (p ∷ a) b h =
    let q = both_true (other (token_bytes p.token)) (clean (a ++ b)) h in
    let r = split a b q.1 in
    (and_both (other (token_bytes p.token)) (clean a) q.0 r.0, r.1)

bytes_are : (ps : Parts) → list_all other (bytes_of ps) ≡ clean ps
bytes_are [] = refl
bytes_are (p ∷ ps) = ap (λ b. other (token_bytes p.token) && b) (bytes_are ps)

declares : (w : DeclareWord) (p : Pos) (o : ObjectRef) → clean (at_statement (Statement-F.Declare w p o)) ≡ true → is_cm w ≡ false
declares Rd p o h = refl
declares Wr p o h = refl
declares RdWr p o h = refl
declares DfRd p o h = refl
declares DfWr p o h = refl
declares DfRdWr p o h = refl
declares Cm p o h = absurd (cc)
declares NoRd p o h = refl
declares NoWr p o h = refl
declares NoRdWr p o h = refl

map_map : {A B C : Type 0} (g : B → C) (f : A → B) (l : List A) → map g (map f l) ≡ map (λ x. g (f x)) l
map_map g f [] = refl
map_map g f (x ∷ xs) = ap (λ k. g (f x) ∷ k) (map_map g f xs)

module _ {S : Type 0} (val : S → Statement) (ok : (s : S) → clean (statement_parts (val s)) ≡ true → has_cm (action (val s)) ≡ false) where
  abbrev tok : S → Parts
  tok s = statement_parts (val s)

  abbrev act : S → Action
  act s = action (val s)

  each : (xs : List S) (rest : Parts) → clean (flat_map (λ t. t) (map tok xs) ++ rest) ≡ true → any_cm (actions (map act xs)) ≡ false
  each [] rest h = refl
  each (x ∷ xs) rest h =
      let all = (split (tok x ++ flat_map (λ t. t) (map tok xs)) rest h).0 in
      let two = split (tok x) (flat_map (λ t. t) (map tok xs)) all in
      or_none (has_cm (act x)) (any_cm (actions (map act xs))) (ok x two.0)
      (each xs [] (subst (λ l. clean l ≡ true) (nil (flat_map (λ t. t) (map tok xs))) two.1))
    where
      nil : (l : Parts) → l ≡ l ++ []
      nil [] = refl
      nil (p ∷ l) = ap (λ k. p ∷ k) (nil l)

  blocks : (xs : List S) → clean (braced (map tok xs)) ≡ true → any_cm (actions (map act xs)) ≡ false
  blocks xs h = each xs (fixed RightBrace ∷ []) h

  if_alone : (e : Expr) (xs : List S) → clean (at_statement (Statement-F.If e (map tok xs) None)) ≡ true → any_cm (actions (map act xs)) ≡ false
  if_alone e xs h =
      let a = split (fixed IfWord ∷ [] ++ outer e ++ braced (map tok xs)) [] h in
      blocks xs (split (fixed IfWord ∷ [] ++ outer e) (braced (map tok xs)) a.0).1

  if_else : (e : Expr) (xs ys : List S) → clean (at_statement (Statement-F.If e (map tok xs) (Some (map tok ys)))) ≡ true
      → (any_cm (actions (map act xs)) || any_cm (actions (map act ys))) ≡ false
  if_else e xs ys h =
      let a = split (fixed IfWord ∷ [] ++ outer e ++ braced (map tok xs)) (else_parts (Some (map tok ys))) h in
      or_none (any_cm (actions (map act xs))) (any_cm (actions (map act ys)))
      (blocks xs (split (fixed IfWord ∷ [] ++ outer e) (braced (map tok xs)) a.0).1) (blocks ys a.1)

  for_in : (n : List ℕ) (p : Pos) (l k : Expr) (xs : List S) → clean (at_statement (Statement-F.For n p l k (map tok xs))) ≡ true
      → any_cm (actions (map act xs)) ≡ false
  for_in n p l k xs h =
      blocks xs (split (fixed ForWord ∷ marked (Called n) p ∷ fixed InWord ∷ [] ++ outer l ++ fixed DotDot ∷ [] ++ outer k) (braced (map tok xs)) h).1

  withonly_in : (p : Pos) (ss : List S) (ns : List Named) (xs : List S) → clean (at_statement (Statement-F.Withonly p (map tok ss) ns (map tok xs))) ≡ true
      → (any_cm (actions (map act ss)) || any_cm (actions (map act xs))) ≡ false
  withonly_in p ss ns xs h =
      let w : Parts = marked (Fixed WithonlyWord) p ∷ [] in
      let sec : Parts = braced (map tok ss) in
      let a = split (w ++ sec ++ fixed DoWord ∷ [] ++ fixed LeftParen ∷ [] ++ name_parts ns ++ fixed RightParen ∷ []) (braced (map tok xs)) h in
      let b = split (w ++ sec ++ fixed DoWord ∷ [] ++ fixed LeftParen ∷ [] ++ name_parts ns) (fixed RightParen ∷ []) a.0 in
      let c = split (w ++ sec ++ fixed DoWord ∷ [] ++ fixed LeftParen ∷ []) (name_parts ns) b.0 in
      let d = split (w ++ sec ++ fixed DoWord ∷ []) (fixed LeftParen ∷ []) c.0 in
      let e = split (w ++ sec) (fixed DoWord ∷ []) d.0 in
      or_none (any_cm (actions (map act ss))) (any_cm (actions (map act xs))) (blocks ss (split w sec e.0).1) (blocks xs a.1)

  with_in : (p : Pos) (ss : List S) → clean (at_statement (Statement-F.With p (map tok ss))) ≡ true → any_cm (actions (map act ss)) ≡ false
  with_in p ss h =
      let w : Parts = marked (Fixed WithWord) p ∷ [] in
      let sec : Parts = braced (map tok ss) in
      let a = split (w ++ sec ++ fixed ContWord ∷ []) (fixed Semicolon ∷ []) h in
      let b = split (w ++ sec) (fixed ContWord ∷ []) a.0 in
      blocks ss (split w sec b.0).1

  layer : (y : Statement-F S) → clean (at_statement (map-Statement Statement Parts statement_parts (map-Statement S Statement val y))) ≡ true
      → has_cm (general.at_statement forms statement_forms (map-Statement Statement Action action (map-Statement S Statement val y))) ≡ false
  layer (Statement-F.Local k n p x) = λ h. refl
  layer (Statement-F.Assign n p x) = λ h. refl
  layer (Statement-F.Store t x) = λ h. refl
  layer (Statement-F.If x then None) = simp map_map (if_alone x then)
  layer (Statement-F.If x then (Some o)) = simp map_map (if_else x then o)
  layer (Statement-F.For n p l h b) = simp map_map (for_in n p l h b)
  layer (Statement-F.Withonly p ss ns b) = simp map_map (withonly_in p ss ns b)
  layer (Statement-F.With p ss) = simp map_map (with_in p ss)
  layer (Statement-F.Declare w p o) = declares w p o

clean_statement : (s : Statement) → clean (statement_parts s) ≡ true → has_cm (action s) ≡ false
clean_statement s = ind-Statement (λ s. clean (statement_parts s) ≡ true → has_cm (action s) ≡ false)
    (λ x y k. rw (← k) (rw (fold-roll-Statement Parts at_statement, fold-roll-Statement Action (general.at_statement forms statement_forms))
    (layer (λ z. z.0) (λ z. z.1) y))) s

clean_all : (ss : List Statement) (rest : Parts) → clean (flat_map statement_parts ss ++ rest) ≡ true → any_cm (block ss) ≡ false
clean_all [] rest h = refl
clean_all (s ∷ ss) rest h =
    let all = (split (statement_parts s ++ flat_map statement_parts ss) rest h).0 in
    let two = split (statement_parts s) (flat_map statement_parts ss) all in
    or_none (has_cm (action s)) (any_cm (block ss)) (clean_statement s two.0)
    (clean_all ss [] (subst (λ l. clean l ≡ true) (nil (flat_map statement_parts ss)) two.1))
  where
    nil : (l : Parts) → l ≡ l ++ []
    nil [] = refl
    nil (p ∷ l) = ap (λ k. p ∷ k) (nil l)

clean_program : (p : Program) → clean (program_parts p) ≡ true → uses_cm (program p) ≡ false
clean_program p h = clean_all p.main (fixed RightBrace ∷ []) (split (head_parts p.items) (block_parts p.main) h).1

-- the law of readings, as far as it is needed
abbrev pub CutsText : Type 0
CutsText = (text : List ℕ) (tokens : TokenList) → reading text ≡ Whole tokens → IsCut text tokens

-- a text in which no `m` stands behind a `c` reads as no program with the word
wordless : CutsText → (bytes : List ℕ) (tree : Program) → joins bytes ≡ false → ReadsAs bytes tree → uses_cm (program tree) ≡ false
wordless cuts bytes tree h r =
    let none = none_cut (cuts bytes r.tokens r.whole) h in
    clean_program tree (sym (bytes_are (program_parts tree)) ∙ ap (list_all other) r.read.spelled ∙ none)

-- ---- the drill text

own : IsNumeralModel (λ ds. list_all is_ascii_digit ds ≡ true) (value_after 0)
own = numerals_by_fold _ (search rules) value_after (search rules)

digit_not_c : (b : ℕ) → is_ascii_digit b ≡ true → (b == 99) ≡ false
digit_not_c b h = grind (arith, nat_tests)

digit_not_p : (b : ℕ) → is_ascii_digit b ≡ true → (b == 112) ≡ false
digit_not_p b h = grind (arith, nat_tests)

past_digits : (a c : ℕ) (xs ys : List ℕ) → ((b : ℕ) → is_ascii_digit b ≡ true → (b == a) ≡ false) → list_all is_ascii_digit xs ≡ true
    → pair a c (xs ++ ys) ≡ pair a c ys
past_digits a c [] ys other h = refl
past_digits a c (b ∷ xs) ys other h =
    let q = both_true (is_ascii_digit b) (list_all is_ascii_digit xs) h in
    ap (λ t. (t && begins c (xs ++ ys)) || pair a c (xs ++ ys)) (other b q.0) ∙ past_digits a c xs ys other q.1

-- in the drill text no `m` stands behind a `c`
drill_joins : (tasks : ℕ) → tasks ≤ 10000 → joins (drill_text tasks) ≡ false
drill_joins tasks h =
    let head : joins (drill_text tasks) ≡ joins (decimal tasks ++ drill_tail) = refl in
    let tail : joins drill_tail ≡ false = refl in
    head ∙ past_digits 99 109 (decimal tasks) drill_tail digit_not_c (digits_decimal own tasks (omega arith)) ∙ tail

-- nor an `r` behind a `p`
drill_parts : (tasks : ℕ) → tasks ≤ 10000 → pair 112 114 (drill_text tasks) ≡ false
drill_parts tasks h =
    let head : pair 112 114 (drill_text tasks) ≡ pair 112 114 (decimal tasks ++ drill_tail) = refl in
    let tail : pair 112 114 drill_tail ≡ false = refl in
    head ∙ past_digits 112 114 (decimal tasks) drill_tail digit_not_p (digits_decimal own tasks (omega arith)) ∙ tail

-- ---- procedures

abbrev is_proc_word : List ℕ → Bool
is_proc_word bytes = same_name bytes (codes "proc")

same_name_is : (x y : List ℕ) → same_name x y ≡ true → x ≡ y
same_name_is [] [] h = refl
same_name_is [] (y ∷ ys) h = absurd (cc)
same_name_is (x ∷ xs) [] h = absurd (cc)
same_name_is (x ∷ xs) (y ∷ ys) h =
    let both = both_true (nat_eq x y) (same_name xs ys) h in
    let first : x ≡ y = eqb-true x y both.0 in
    ap (λ z. z ∷ xs) first ∙ ap (λ zs. y ∷ zs) (same_name_is xs ys both.1)

not_proc : (x after : List ℕ) → pair 112 114 (x ++ after) ≡ false → is_proc_word x ≡ false
not_proc x after h = by_cases (is_proc_word x) refl where
  joined : x ≡ codes "proc" → pair 112 114 (x ++ after) ≡ true
  joined e = ap (λ y. pair 112 114 (y ++ after)) e

  by_cases : (b : Bool) → is_proc_word x ≡ b → b ≡ false
  by_cases false e = refl
  by_cases true e = let yes = joined (same_name_is x (codes "proc") e) in absurd (cc)

none_proc : {end : Pos} {spot : _} {bytes : List ℕ} {ts : List TokenAt} → Cut end spot bytes ts → pair 112 114 bytes ≡ false → has_proc ts ≡ false
none_proc (nothing e) h = refl
none_proc (blank front after e b rest) h = none_proc rest (later 112 114 front after (subst (λ l. pair 112 114 l ≡ false) e h))
none_proc (token {t = t} {tokens = more} after e p q l s rest) h =
    let k : pair 112 114 (t.bytes ++ after) ≡ false = subst (λ x. pair 112 114 x ≡ false) e h in
    or_none (is_proc_word t.bytes) (has_proc more) (not_proc t.bytes after k) (none_proc rest (later 112 114 t.bytes after k))

-- a text in which no `r` stands behind a `p` is read as it stands
stands_itself : CutsText → (bytes text : List ℕ) (home : Pos → Pos) → pair 112 114 bytes ≡ false → StandsFor bytes text home → text ≡ bytes
stands_itself cuts bytes text home h (itself ts r n a b) = a
stands_itself cuts bytes text home h (expansion ts r n e o a b) = let none = none_proc (cuts bytes ts r) h in absurd (cc)

pub drill_plain : CutsText → (tasks : ℕ) (tree : Program) (home : Pos → Pos) → tasks ≤ 10000 → IsRead (drill_text tasks) tree home
    → uses_cm (program tree) ≡ false
drill_plain cuts tasks tree home le r =
    let same = stands_itself cuts (drill_text tasks) r.text home (drill_parts tasks le) r.stands in
    wordless cuts (drill_text tasks) tree (drill_joins tasks le) (subst (λ t. ReadsAs t tree) same r.reads)
