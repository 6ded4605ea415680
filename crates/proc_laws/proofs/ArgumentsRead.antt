-- The arguments of a call that are spelled by expressions where they are written are expressions in the text.
use Rattle.std.proofs.Common.{◌≡◌, ℕ, zero, suc, ◌+◌, ◌-◌, ◌<◌, ◌≤◌, Bool, true, false, List, [], ◌∷◌, ◌++◌, length, map, drop, codes, refl, sym, ap, ◌∙◌, subst, arith}
use Rattle.std.specs.Prelude.{not, if◌then◌else◌, ◌||◌}
use Rattle.std.specs.List.{flat_map, list_all}
use Rattle.std.proofs.lemmas.List.{append_assoc, append-nil}
use Rattle.std.proofs.lemmas.Bool.{and_parts}
use Rattle.jade_base.specs.declared.place.Pos.{Pos}
use Rattle.jade_lexer.specs.Lexemes.{TokenAt}
use Rattle.jade_syntax.specs.declared.tree.Expr.{Expr}
use Rattle.jade_syntax.specs.declared.tree.Statement.{Statement}
use Rattle.jade_syntax.specs.Abstract.{Name}
use Rattle.jade_syntax.specs.Names.{is_name}
use Rattle.jade_syntax.specs.Numbering.{same_name}
use Rattle.jade_parser.specs.declared.Sign.TheVariants.{RightBrace, Semicolon, Comma}
use Rattle.jade_parser.specs.Spelled.{Fixed, Called, Parts, fixed, plain, outer}
use Rattle.jade_parser.specs.Statements.{statement_parts}
use Rattle.proc_expand.specs.declared.sign.Bracket.{Bracket}
use Rattle.proc_expand.specs.declared.sign.Bracket.TheVariants.{Round, Square, Curly}
use Rattle.proc_expand.specs.declared.sign.Sign.{Sign}
use Rattle.proc_expand.specs.declared.sign.Sign.TheVariants as mark
use Rattle.proc_expand.specs.declared.sign.End.TheVariants.{Closed, Wrong}
use Rattle.proc_expand.specs.Words.{sign_of, signs, at, before, bytes_at, is_called, is_comma, is_semicolon, opens_round, closes_round, ends_statement, same_bracket}
use Rattle.proc_expand.specs.Words.{closing_from, closed_by}
use Rattle.proc_expand.specs.Refusals.{is_call, commas_from}
use Rattle.proc_expand.specs.Written.{MadeToken, pos_at, from, spans, token_at, is_variable, made_at, given_at}
use Rattle.proc_laws.specs.SourceReading.{more_arguments}
use Rattle.proc_laws.proofs.Basics.{by_case, no_both, same_from}
use Rattle.proc_laws.proofs.SignsOfTokens.{token_sign, parts_signs}
use Rattle.proc_laws.proofs.PlacesInText.{after, after_both, plus_one, Sound, Reads, stand_sign, sign_at}
use Rattle.proc_laws.proofs.HeadsInText.{next_sign}
use Rattle.proc_laws.proofs.LevelParts.{calm, calm_outer}
use Rattle.proc_laws.proofs.WrittenParts.{Keeps, no_call_after}
use Rattle.proc_laws.proofs.Unrenaming.{outer_again}
use Rattle.proc_laws.proofs.TokensAhead.{left1, left2, left3, left4, left5, left6, left7, left8, left9, left10, left11, left12, left13}
use Rattle.proc_laws.proofs.TokensAhead.{Said, Says, closing_low, anew, anew_part, same_sign, after_anew, reads_both, called_is_name, name_said, sound_at}
use Rattle.proc_laws.proofs.CallsRead.{NoEnd, given_one}

-- ---- what some bytes are whose sign is that of a symbol

pub held : (is : Sign → Bool) (b : Bool) (s r : Sign) → is r ≡ false → is (if b then s else r) ≡ true → b ≡ true
held is true s r h g = refl
held is false s r h g = no_both (is r) g h

pub skipped : (is : Sign → Bool) (b : Bool) (s r : Sign) → is s ≡ false → is (if b then s else r) ≡ true → is r ≡ true
skipped is true s r h g = no_both (is s) g h
skipped is false s r h g = g

pub neither : (is : Sign → Bool) (b : Bool) (s r : Sign) → is s ≡ false → is r ≡ false → is (if b then s else r) ≡ false
neither is true s r h g = h
neither is false s r h g = g

-- what is neither `;` nor `,` nor a round bracket
no_symbol : (is : Sign → Bool) (x : List ℕ) → is (mark.Opens Square) ≡ false → is (mark.Closes Square) ≡ false → is (mark.Opens Curly) ≡ false
    → is (mark.Closes Curly) ≡ false → is mark.Proc ≡ false → is mark.Main ≡ false → is mark.Else ≡ false → is mark.Kind ≡ false → is mark.ItemWord ≡ false
    → is mark.Called ≡ false → is mark.Other ≡ false → is (left4 x) ≡ false
no_symbol is x a b c d e f g h i j k =
    neither is (same_name x (codes "[")) (mark.Opens Square) (left5 x) a (neither is (same_name x (codes "]")) (mark.Closes Square) (left6 x) b
    (neither is (same_name x (codes "{")) (mark.Opens Curly) (left7 x) c (neither is (same_name x (codes "}")) (mark.Closes Curly) (left8 x) d
    (neither is (same_name x (codes "proc")) mark.Proc (left9 x) e (neither is (same_name x (codes "main")) mark.Main (left10 x) f
    (neither is (same_name x (codes "else")) mark.Else (left11 x) g
    (neither is (same_name x (codes "int") || same_name x (codes "bool")) mark.Kind (left12 x) h
    (neither is (same_name x (codes "input") || same_name x (codes "object") || same_name x (codes "objects")) mark.ItemWord (left13 x) i
    (neither is (is_name x) mark.Called mark.Other j k)))))))))

pub comma_is : (x : List ℕ) → is_comma (sign_of x) ≡ true → x ≡ codes ","
comma_is x h =
    same_from x (codes ",")
    (held is_comma (same_name x (codes ",")) mark.Comma (left2 x)
    (neither is_comma (same_name x (codes "(")) (mark.Opens Round) (left3 x) refl (neither is_comma (same_name x (codes ")")) (mark.Closes Round) (left4 x) refl
    (no_symbol is_comma x refl refl refl refl refl refl refl refl refl refl refl)))
    (skipped is_comma (same_name x (codes ";")) mark.Semicolon (left1 x) refl h))

pub semicolon_is : (x : List ℕ) → is_semicolon (sign_of x) ≡ true → x ≡ codes ";"
semicolon_is x h =
    same_from x (codes ";")
    (held is_semicolon (same_name x (codes ";")) mark.Semicolon (left1 x)
    (neither is_semicolon (same_name x (codes ",")) mark.Comma (left2 x) refl
    (neither is_semicolon (same_name x (codes "(")) (mark.Opens Round) (left3 x) refl
    (neither is_semicolon (same_name x (codes ")")) (mark.Closes Round) (left4 x) refl
    (no_symbol is_semicolon x refl refl refl refl refl refl refl refl refl refl refl)))) h)

pub opening_is : (x : List ℕ) → opens_round (sign_of x) ≡ true → x ≡ codes "("
opening_is x h =
    same_from x (codes "(")
    (held opens_round (same_name x (codes "(")) (mark.Opens Round) (left3 x)
    (neither opens_round (same_name x (codes ")")) (mark.Closes Round) (left4 x) refl
    (no_symbol opens_round x refl refl refl refl refl refl refl refl refl refl refl))
    (skipped opens_round (same_name x (codes ",")) mark.Comma (left2 x) refl (skipped opens_round (same_name x (codes ";")) mark.Semicolon (left1 x) refl h)))

pub closing_is : (x : List ℕ) → closes_round (sign_of x) ≡ true → x ≡ codes ")"
closing_is x h =
    same_from x (codes ")")
    (held closes_round (same_name x (codes ")")) (mark.Closes Round) (left4 x)
    (no_symbol closes_round x refl refl refl refl refl refl refl refl refl refl refl)
    (skipped closes_round (same_name x (codes "(")) (mark.Opens Round) (left3 x) refl (skipped closes_round (same_name x (codes ",")) mark.Comma (left2 x) refl
    (skipped closes_round (same_name x (codes ";")) mark.Semicolon (left1 x) refl h))))

-- ---- arguments that are spelled by expressions

abbrev pub AllSaid : List (List MadeToken) → List Expr → Type 0
AllSaid [] [] = Unit {0}
AllSaid [] (e ∷ es) = ⊥
AllSaid (a ∷ rest) [] = ⊥
AllSaid (a ∷ rest) (e ∷ es) = Says a (outer e) × AllSaid rest es

abbrev pub AllNoEnd : List (List MadeToken) → Type 0
AllNoEnd [] = Unit {0}
AllNoEnd (a ∷ rest) = NoEnd a × AllNoEnd rest

-- ---- brackets

module _ (ts : List TokenAt) (end : Pos) where
  closed_under : (b : Bracket) (a : Bracket) (st opened : List Bracket) (k j : ℕ) (us : List Sign) → us ≡ drop (suc k) (signs ts)
      → ((more : List Bracket) → closing_from more (k + 1) us ≡ Closed j → closing_from (more ++ a ∷ st) (k + 1) us ≡ closing_from (a ∷ st) (suc j) (drop (suc j) (signs ts)))
      → closed_by b k opened (λ more. closing_from more (k + 1) us) ≡ Closed j
      → closed_by b k (opened ++ a ∷ st) (λ more. closing_from more (k + 1) us) ≡ closing_from (a ∷ st) (suc j) (drop (suc j) (signs ts))
  closed_under b a st [] k j us d f h = absurd (cc)
  closed_under b a st (c ∷ []) k j us d f h = by (same_bracket c b) h
    where
      by : (t : Bool) → (if t then Closed k else Wrong k) ≡ Closed j
          → (if t then closing_from (a ∷ st) (k + 1) us else Wrong k) ≡ closing_from (a ∷ st) (suc j) (drop (suc j) (signs ts))
      by true g =
          let q : k ≡ j = cc in
          ap (λ (i : ℕ). closing_from (a ∷ st) i us) (plus_one k) ∙ ap (closing_from (a ∷ st) (suc k)) d
          ∙ ap (λ (i : ℕ). closing_from (a ∷ st) (suc i) (drop (suc i) (signs ts))) q
      by false g = absurd (cc)
  closed_under b a st (c ∷ e ∷ opened) k j us d f h = by (same_bracket c b) h
    where
      by : (t : Bool) → (if t then closing_from (e ∷ opened) (k + 1) us else Wrong k) ≡ Closed j
          → (if t then closing_from (e ∷ (opened ++ a ∷ st)) (k + 1) us else Wrong k) ≡ closing_from (a ∷ st) (suc j) (drop (suc j) (signs ts))
      by true g = f (e ∷ opened) g
      by false g = absurd (cc)

  -- brackets that are closed among others: those are as before after them
  pub closed_among : (us : List Sign) (opened : List Bracket) (a : Bracket) (st : List Bracket) (k j : ℕ) → drop k (signs ts) ≡ us
      → closing_from opened k us ≡ Closed j → closing_from (opened ++ a ∷ st) k us ≡ closing_from (a ∷ st) (suc j) (drop (suc j) (signs ts))
  closed_among [] opened a st k j d h = absurd (cc)
  closed_among (mark.Opens b ∷ us) opened a st k j d h =
      closed_among us (b ∷ opened) a st (k + 1) j (ap (λ (i : ℕ). drop i (signs ts)) (plus_one k) ∙ (next_sign ts end k (mark.Opens b) us d).1) h
  closed_among (mark.Closes b ∷ us) opened a st k j d h =
      closed_under b a st opened k j us (sym (next_sign ts end k (mark.Closes b) us d).1)
      (λ more g. closed_among us more a st (k + 1) j (ap (λ (i : ℕ). drop i (signs ts)) (plus_one k) ∙ (next_sign ts end k (mark.Closes b) us d).1) g) h
  closed_among (s ∷ us) opened a st k j d h =
      closed_among us opened a st (k + 1) j (ap (λ (i : ℕ). drop i (signs ts)) (plus_one k) ∙ (next_sign ts end k s us d).1) h

  -- ---- commas

  -- commas at these places, between two
  abbrev pub Listed : ℕ → List ℕ → ℕ → Type 0
  Listed first [] last = first ≤ last
  Listed first (c ∷ cs) last = (first ≤ c) × (c < last) × (at (signs ts) c ≡ mark.Comma) × Listed (suc c) cs last

  -- ---- arguments

  module _ (to : Name → Name) (keeps : Keeps to) where
    -- a token that is written as `;` is one
    pub semicolon_here : (k : ℕ) → k < length ts → Said (token_at ts end to k) (fixed Semicolon) → at (signs ts) k ≡ mark.Semicolon
    semicolon_here k l h =
        let s : at (signs ts) k ≡ sign_of (bytes_at ts k) =
        stand_sign ts end k (plain (Called (bytes_at ts k))) (record { below = l; bytes = refl; kept = tt; short = refl }) in
        by_case (is_variable ts end k)
        (λ v. absurd (let q : mark.Semicolon ≡ mark.Called = name_said ts end to keeps (bytes_at ts k) (Fixed Semicolon)
        (called_is_name (bytes_at ts k) (ap is_called (sym s) ∙ (and_parts (is_called (at (signs ts) k)) (not (is_call (signs ts) k)) v).0))
        (sym (ap (λ b. if b then to (bytes_at ts k) else bytes_at ts k) v) ∙ h.bytes) refl in cc))
        (λ v. s ∙ ap sign_of (sym (ap (λ b. if b then to (bytes_at ts k) else bytes_at ts k) v) ∙ h.bytes))

    pub no_end : (i len : ℕ) → i + len ≤ length ts → ((j : ℕ) → i ≤ j → j < i + len → at (signs ts) j ≡ mark.Semicolon → ⊥)
        → NoEnd (map (token_at ts end to) (from ts end i len))
    no_end i zero l f = tt
    no_end i (suc len) l f =
        (λ s. f i (omega arith) (omega arith) (semicolon_here i (omega (arith, l)) s), no_end (suc i) len (omega (arith, l)) (λ j g h. f j (omega (arith, g)) (omega (arith, h))))

    module _ (follows : (k : ℕ) → is_call (signs ts) k ≡ true → ends_statement (before (signs ts) k) ≡ true) where
      calm_end : (a : Bool) → not a ≡ true → a ≡ false
      calm_end true h = absurd (cc)
      calm_end false h = refl

      -- tokens that are written for places in order, each by itself
      pub said_places : (i len : ℕ) (ps : Parts) → i + len ≤ length ts → ends_statement (before (signs ts) i) ≡ false → list_all calm (parts_signs ps) ≡ true
          → Says (map (token_at ts end to) (from ts end i len)) ps → Reads ts end i (anew ts end i ps) × (after i ps ≡ i + len)
      said_places i zero [] l e c s = (tt, omega arith)
      said_places i zero (p ∷ ps) l e c s = absurd s
      said_places i (suc len) [] l e c s = absurd s
      said_places i (suc len) (p ∷ ps) l e c s =
          let g = and_parts (calm (token_sign p.token)) (list_all calm (parts_signs ps)) c in
          let r = sound_at ts end to keeps i p.token p.at p.nth (omega (arith, l)) (no_call_after ts end follows i e) s.0 in
          let q = said_places (suc i) len ps (omega (arith, l))
          (ap ends_statement (sign_at ts end i (anew_part ts end i p) r ∙ same_sign ts end i p.token) ∙ calm_end (ends_statement (token_sign p.token)) g.0) g.1 s.1 in
          let w = q.1 in ((r, q.0), omega (arith, w))

      -- an argument, and each with the comma before it
      pub record Arguments (first last n : ℕ) : Type 0 where
        pub head : Expr
        pub more : List Expr
        pub reads : Reads ts end first (outer head ++ more_arguments more)
        pub ends : after first (outer head ++ more_arguments more) ≡ last
        pub many : suc (length more) ≡ n

      pub record OneRead (i len : ℕ) : Type 0 where
        pub value : Expr
        pub reads : Reads ts end i (outer value)
        pub ends : after i (outer value) ≡ i + len

      one_read : (i len : ℕ) (e : Expr) → i + len ≤ length ts → ends_statement (before (signs ts) i) ≡ false
          → Says (map (token_at ts end to) (from ts end i len)) (outer e) → OneRead i len
      one_read i len e l h s =
          let r = said_places i len (outer e) l h (calm_outer e).is s in
          let g = outer_again (bytes_at ts) (pos_at ts end ts) e i in
          record { value = g.tree; reads = subst (Reads ts end i) (sym g.is) r.0; ends = ap (after i) g.is ∙ after_anew ts end i i (outer e) ∙ r.1 }

      comma_here : (c : ℕ) → c < length ts → at (signs ts) c ≡ mark.Comma → Sound ts end c (fixed Comma)
      comma_here c l h =
          let s : at (signs ts) c ≡ sign_of (bytes_at ts c) =
          stand_sign ts end c (plain (Called (bytes_at ts c))) (record { below = l; bytes = refl; kept = tt; short = refl }) in
          record { stand = record { below = l; bytes = comma_is (bytes_at ts c) (ap is_comma (sym s ∙ h)); kept = tt; short = refl }; valid = refl }

      pub arguments_read : (first : ℕ) (cs : List ℕ) (last : ℕ) (es : List Expr) → Listed first cs last → last < length ts
          → ends_statement (before (signs ts) first) ≡ false → AllSaid (map (λ (ks : List ℕ). map (token_at ts end to) ks) (spans ts end first cs last)) es
          → Arguments first last (length es)
      arguments_read first [] last [] l u h s = absurd s
      arguments_read first [] last (e ∷ []) l u h s =
          let o = one_read first (last - first) e (omega (arith, l, u)) h s.0 in
          let n : first + (last - first) ≡ last = omega (arith, l) in
          record {
            head = o.value;
            more = [];
            reads = subst (Reads ts end first) (sym (append-nil (outer o.value))) o.reads;
            ends = ap (after first) (append-nil (outer o.value)) ∙ o.ends ∙ n;
            many = refl;
          }
      arguments_read first [] last (e ∷ f ∷ es) l u h s = absurd s.1
      arguments_read first (c ∷ cs) last [] l u h s = absurd s
      arguments_read first (c ∷ cs) last (e ∷ es) l u h s =
          let m = l.0 in let n = l.1 in
          let o = one_read first (c - first) e (omega (arith, m, n, u)) h s.0 in
          let r = arguments_read (suc c) cs last es l.3 u (ap ends_statement l.2) s.1 in
          let rest : Parts = outer r.head ++ more_arguments r.more in
          let g : first + (c - first) ≡ c = omega (arith, m) in
          let q : after first (outer o.value) ≡ c = o.ends ∙ g in
          record {
            head = o.value;
            more = r.head ∷ r.more;
            reads = reads_both ts end first (outer o.value) (fixed Comma ∷ rest) o.reads
                (subst (λ (i : ℕ). Reads ts end i (fixed Comma ∷ rest)) (sym q) (comma_here c (omega (arith, n, u)) l.2, r.reads));
            ends = after_both first (outer o.value) (fixed Comma ∷ rest) ∙ ap (λ (i : ℕ). after (suc i) rest) q ∙ r.ends;
            many = ap suc r.many;
          }

  -- ---- the commas of a call

  listed_under : (b : Bracket) (opened : List Bracket) (k first j : ℕ) (us : List Sign) → first ≤ k
      → ((more : List Bracket) → closing_from (more ++ Round ∷ []) (k + 1) us ≡ Closed j → Listed first (commas_from more (k + 1) us) j)
      → closed_by b k (opened ++ Round ∷ []) (λ more. closing_from more (k + 1) us) ≡ Closed j
      → Listed first (commas_from opened k (mark.Closes b ∷ us)) j
  listed_under b [] k first j us l f h = by (same_bracket Round b) h
    where
      by : (t : Bool) → (if t then Closed k else Wrong k) ≡ Closed j → first ≤ j
      by true g = let q : k ≡ j = cc in omega (arith, q, l)
      by false g = absurd (cc)
  listed_under b (a ∷ []) k first j us l f h = by (same_bracket a b) h
    where
      by : (t : Bool) → (if t then closing_from (Round ∷ []) (k + 1) us else Wrong k) ≡ Closed j
          → Listed first (if t then commas_from [] (k + 1) us else []) j
      by true g = f [] g
      by false g = absurd (cc)
  listed_under b (a ∷ c ∷ opened) k first j us l f h = by (same_bracket a b) h
    where
      by : (t : Bool) → (if t then closing_from (c ∷ (opened ++ Round ∷ [])) (k + 1) us else Wrong k) ≡ Closed j
          → Listed first (if t then commas_from (c ∷ opened) (k + 1) us else []) j
      by true g = f (c ∷ opened) g
      by false g = absurd (cc)

  pub listed : (us : List Sign) (opened : List Bracket) (k first j : ℕ) → drop k (signs ts) ≡ us → first ≤ k
      → closing_from (opened ++ Round ∷ []) k us ≡ Closed j → Listed first (commas_from opened k us) j
  listed [] opened k first j d l h = absurd (cc)
  listed (mark.Opens b ∷ us) opened k first j d l h =
      listed us (b ∷ opened) (k + 1) first j (ap (λ (i : ℕ). drop i (signs ts)) (plus_one k) ∙ (next_sign ts end k (mark.Opens b) us d).1) (omega (arith, l)) h
  listed (mark.Closes b ∷ us) opened k first j d l h =
      listed_under b opened k first j us l
      (λ more g. listed us more (k + 1) first j (ap (λ (i : ℕ). drop i (signs ts)) (plus_one k) ∙ (next_sign ts end k (mark.Closes b) us d).1) (omega (arith, l)) g) h
  listed (mark.Comma ∷ us) [] k first j d l h =
      let n = next_sign ts end k mark.Comma us d in
      let w = closing_low (Round ∷ []) (k + 1) j us h in
      (l, omega (arith, w), n.0, listed us [] (k + 1) (suc k) j (ap (λ (i : ℕ). drop i (signs ts)) (plus_one k) ∙ n.1) (omega arith) h)
  listed (s ∷ us) [] k first j d l h =
      listed us [] (k + 1) first j (ap (λ (i : ℕ). drop i (signs ts)) (plus_one k) ∙ (next_sign ts end k s us d).1) (omega (arith, l)) h
  listed (s ∷ us) (a ∷ opened) k first j d l h =
      listed us (a ∷ opened) (k + 1) first j (ap (λ (i : ℕ). drop i (signs ts)) (plus_one k) ∙ (next_sign ts end k s us d).1) (omega (arith, l)) h

  -- ---- all parameters that get values

  -- words of kinds stand before these places
  abbrev pub AfterKinds : List ℕ → Type 0
  AfterKinds [] = Unit {0}
  AfterKinds (j ∷ js) = (sign_of (bytes_at ts (j - 1)) ≡ mark.Kind) × AfterKinds js

  pub record AllGiven (Q : List Statement → Type 0) (args : List (List MadeToken)) (us : List MadeToken) (c : Parts) : Type 0 where
    pub values : List Expr
    pub said : AllSaid args values
    pub many : length values ≡ length args
    pub more : List Statement
    pub kept : Q more
    pub rest : Says us (flat_map (λ (p : Parts). p) (map statement_parts more) ++ fixed RightBrace ∷ c)

  pub given_all : (Q : List Statement → Type 0) → ((s : Statement) (ss : List Statement) → Q (s ∷ ss) → Q ss) → (k : ℕ) (to : Name → Name) (params : List ℕ)
      (args : List (List MadeToken)) (ys : List Statement) (us : List MadeToken) (c : Parts) → length params ≡ length args → AfterKinds params → AllNoEnd args
      → Q ys → Says (given_at ts end k to params args ++ us) (flat_map (λ (p : Parts). p) (map statement_parts ys) ++ fixed RightBrace ∷ c)
      → AllGiven Q args us c
  given_all Q tail k to [] [] ys us c l a n q s = record { values = []; said = tt; many = refl; more = ys; kept = q; rest = s }
  given_all Q tail k to [] (x ∷ args) ys us c l a n q s = absurd (omega (arith, l))
  given_all Q tail k to (j ∷ params) [] ys us c l a n q s = absurd (omega (arith, l))
  given_all Q tail k to (j ∷ params) (x ∷ args) ys us c l a n q s =
      let later : List MadeToken = given_at ts end k to params args in
      let g = given_one ys (made_at ts end k (bytes_at ts (j - 1))) (made_at ts end k (to (bytes_at ts j))) (made_at ts end k (codes "="))
      (made_at ts end k (codes ";")) x (later ++ us) c a.0 refl n.0
      (subst (λ (ts2 : List MadeToken). Says (made_at ts end k (bytes_at ts (j - 1)) ∷ made_at ts end k (to (bytes_at ts j)) ∷ made_at ts end k (codes "=") ∷ ts2)
      (flat_map (λ (p : Parts). p) (map statement_parts ys) ++ fixed RightBrace ∷ c)) (append_assoc x (made_at ts end k (codes ";") ∷ later) us) s) in
      let r = given_all Q tail k to params args g.more us c (omega (arith, l)) a.1 n.1 (tail g.first g.more (subst Q g.is q)) g.rest in
      record { values = g.value ∷ r.values; said = (g.said, r.said); many = ap suc r.many; more = r.more; kept = r.kept; rest = r.rest }
