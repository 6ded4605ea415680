-- The heads and bodies of procedures of a text whose heads fit and whose bodies are closed.
use Rattle.std.proofs.Common.{◌≡◌, ℕ, zero, suc, ◌+◌, ◌-◌, ◌<◌, ◌≤◌, Bool, true, false, List, [], ◌∷◌, ◌++◌, length, map, drop, codes, refl, sym, ap, ◌∙◌, subst, arith}
use Rattle.std.specs.Prelude.{◌||◌, nat_le, if◌then◌else◌}
use Rattle.std.proofs.lemmas.List.{length-map, length-append}
use Rattle.std.proofs.lemmas.Bool.{eq-eqb, leb-true, le-leb}
use Rattle.jade_base.specs.declared.place.Pos.{Pos}
use Rattle.jade_lexer.specs.Lexemes.{TokenAt}
use Rattle.jade_syntax.specs.declared.tree.ValueKind.{ValueKind}
use Rattle.jade_syntax.specs.declared.tree.ValueKind.TheVariants.{Int, Bool as BoolKind}
use Rattle.jade_syntax.specs.Names.{is_name}
use Rattle.jade_syntax.specs.Numbering.{same_name}
use Rattle.jade_parser.specs.declared.Sign as lexicon
use Rattle.jade_parser.specs.declared.Sign.TheVariants.{LeftParen, RightParen, LeftBrace, RightBrace, Comma}
use Rattle.jade_parser.specs.Spelled.{Called, Parts, fixed, marked, plain, is_valid}
use Rattle.jade_parser.specs.Kinds.{sign_bytes, token_bytes}
use Rattle.jade_parser.specs.Statements.{kind_word}
use Rattle.proc_expand.specs.declared.sign.Bracket.{Bracket}
use Rattle.proc_expand.specs.declared.sign.Bracket.TheVariants.{Round, Square, Curly}
use Rattle.proc_expand.specs.declared.sign.Sign.{Sign}
use Rattle.proc_expand.specs.declared.sign.Sign.TheVariants as mark
use Rattle.proc_expand.specs.declared.sign.End.{End}
use Rattle.proc_expand.specs.declared.sign.End.TheVariants.{Closed, Wrong}
use Rattle.proc_expand.specs.declared.procedures.Head.{Head}
use Rattle.proc_expand.specs.Words.{sign_of, signs, at, bytes_at, is_called, is_comma, is_kind, is_proc, opens_round, closes_round, opens_curly, same_bracket}
use Rattle.proc_expand.specs.Words.{closing, closing_from, closed_by, is_after}
use Rattle.proc_expand.specs.Refusals.{head, head_from, params_of, params_from}
use Rattle.proc_expand.specs.Written.{pos_at, from}
use Rattle.proc_laws.specs.SourceTree.{HeadParam}
use Rattle.proc_laws.specs.SourceReading.{more_params, params_parts, title_parts, free_part, ends_there}
use Rattle.proc_laws.proofs.Basics.{same_from}
use Rattle.proc_laws.proofs.PlacesInText.{after, after_is, plus_one, Sound, Lies, Reads, stand_sign, drop_sign}
use Rattle.proc_laws.proofs.HeadsInText.{lies_signs, free_bytes, free_many, next_sign}
use Rattle.proc_laws.proofs.TokensAhead.{left1, left2, left3, left4, left5, left6, left7, left8, left9, left10, left11, left12, left13, closing_low, called_is_name}
use Rattle.proc_laws.proofs.ArgumentsRead.{comma_is, opening_is, closing_is, held, skipped, neither}
use Rattle.proc_laws.proofs.WrittenTree.{past_end}

-- ---- what some bytes are whose sign is that of a word or a brace

abbrev closes_curly : Sign → Bool
closes_curly (mark.Closes Curly) = true
closes_curly s = false

-- what is neither a semicolon nor a comma nor a round or square bracket
past_symbols : (is : Sign → Bool) (x : List ℕ) → is mark.Semicolon ≡ false → is mark.Comma ≡ false → is (mark.Opens Round) ≡ false
    → is (mark.Closes Round) ≡ false → is (mark.Opens Square) ≡ false → is (mark.Closes Square) ≡ false → is (sign_of x) ≡ true → is (left6 x) ≡ true
past_symbols is x a b c d e f h =
    skipped is (same_name x (codes "]")) (mark.Closes Square) (left6 x) f (skipped is (same_name x (codes "[")) (mark.Opens Square) (left5 x) e
    (skipped is (same_name x (codes ")")) (mark.Closes Round) (left4 x) d (skipped is (same_name x (codes "(")) (mark.Opens Round) (left3 x) c
    (skipped is (same_name x (codes ",")) mark.Comma (left2 x) b (skipped is (same_name x (codes ";")) mark.Semicolon (left1 x) a h)))))

-- what is no later word than one of a kind
no_kind : (is : Sign → Bool) (x : List ℕ) → is mark.ItemWord ≡ false → is mark.Called ≡ false → is mark.Other ≡ false → is (left12 x) ≡ false
no_kind is x a b c =
    neither is (same_name x (codes "input") || same_name x (codes "object") || same_name x (codes "objects")) mark.ItemWord (left13 x) a
    (neither is (is_name x) mark.Called mark.Other b c)

no_word : (is : Sign → Bool) (x : List ℕ) → is mark.Main ≡ false → is mark.Else ≡ false → is mark.Kind ≡ false → is mark.ItemWord ≡ false
    → is mark.Called ≡ false → is mark.Other ≡ false → is (left9 x) ≡ false
no_word is x a b c d e f =
    neither is (same_name x (codes "main")) mark.Main (left10 x) a (neither is (same_name x (codes "else")) mark.Else (left11 x) b
    (neither is (same_name x (codes "int") || same_name x (codes "bool")) mark.Kind (left12 x) c (no_kind is x d e f)))

pub proc_is : (x : List ℕ) → is_proc (sign_of x) ≡ true → x ≡ codes "proc"
proc_is x h =
    same_from x (codes "proc")
    (held is_proc (same_name x (codes "proc")) mark.Proc (left9 x) (no_word is_proc x refl refl refl refl refl refl)
    (skipped is_proc (same_name x (codes "}")) (mark.Closes Curly) (left8 x) refl
    (skipped is_proc (same_name x (codes "{")) (mark.Opens Curly) (left7 x) refl
    (past_symbols is_proc x refl refl refl refl refl refl h))))

pub brace_is : (x : List ℕ) → opens_curly (sign_of x) ≡ true → x ≡ codes "{"
brace_is x h =
    same_from x (codes "{")
    (held opens_curly (same_name x (codes "{")) (mark.Opens Curly) (left7 x)
    (neither opens_curly (same_name x (codes "}")) (mark.Closes Curly) (left8 x) refl
    (neither opens_curly (same_name x (codes "proc")) mark.Proc (left9 x) refl (no_word opens_curly x refl refl refl refl refl refl)))
    (past_symbols opens_curly x refl refl refl refl refl refl h))

pub close_is : (x : List ℕ) → sign_of x ≡ mark.Closes Curly → x ≡ codes "}"
close_is x h =
    same_from x (codes "}")
    (held closes_curly (same_name x (codes "}")) (mark.Closes Curly) (left8 x)
    (neither closes_curly (same_name x (codes "proc")) mark.Proc (left9 x) refl (no_word closes_curly x refl refl refl refl refl refl))
    (skipped closes_curly (same_name x (codes "{")) (mark.Opens Curly) (left7 x) refl
    (past_symbols closes_curly x refl refl refl refl refl refl (ap closes_curly h))))

-- a word of a kind, by its bytes
pub record KindOf (x : List ℕ) : Type 0 where
  pub kind : ValueKind
  pub is : x ≡ token_bytes (kind_word kind)

either_kind : (x : List ℕ) (a b : Bool) → same_name x (codes "int") ≡ a → same_name x (codes "bool") ≡ b → (a || b) ≡ true → KindOf x
either_kind x true b e f h = record { kind = Int; is = same_from x (codes "int") e }
either_kind x false true e f h = record { kind = BoolKind; is = same_from x (codes "bool") f }
either_kind x false false e f h = absurd (cc)

pub kind_of : (x : List ℕ) → sign_of x ≡ mark.Kind → KindOf x
kind_of x h =
    either_kind x (same_name x (codes "int")) (same_name x (codes "bool")) refl refl
    (held is_kind (same_name x (codes "int") || same_name x (codes "bool")) mark.Kind (left12 x) (no_kind is_kind x refl refl refl)
    (skipped is_kind (same_name x (codes "else")) mark.Else (left11 x) refl (skipped is_kind (same_name x (codes "main")) mark.Main (left10 x) refl
    (skipped is_kind (same_name x (codes "proc")) mark.Proc (left9 x) refl
    (skipped is_kind (same_name x (codes "}")) (mark.Closes Curly) (left8 x) refl
    (skipped is_kind (same_name x (codes "{")) (mark.Opens Curly) (left7 x) refl
    (past_symbols is_kind x refl refl refl refl refl refl (ap is_kind h))))))))

-- ---- brackets

same_bracket_is : (a b : Bracket) → same_bracket a b ≡ true → a ≡ b
same_bracket_is Round Round h = refl
same_bracket_is Square Square h = refl
same_bracket_is Curly Curly h = refl
same_bracket_is a b h = absurd (cc)

-- signs that close what was open, where more may come, close it without that
cut_by : (us vs : List Sign) (b a : Bracket) (st : List Bracket) (k j d e : ℕ) → k ≡ e + d
    → ((c : Bracket) (more : List Bracket) → closing_from (c ∷ more) (k + 1) (us ++ vs) ≡ Closed (j + d) → closing_from (c ∷ more) (e + 1) us ≡ Closed j)
    → closed_by b k (a ∷ st) (λ more. closing_from more (k + 1) (us ++ vs)) ≡ Closed (j + d)
    → closed_by b e (a ∷ st) (λ more. closing_from more (e + 1) us) ≡ Closed j
cut_by us vs b a [] k j d e s go h = by (same_bracket a b) h
  where
    by : (t : Bool) → (if t then Closed k else Wrong k) ≡ Closed (j + d) → (if t then Closed e else Wrong e) ≡ Closed j
    by true g = let q : k ≡ j + d = cc in ap Closed (omega (arith, s, q))
    by false g = absurd (cc)
cut_by us vs b a (c ∷ st) k j d e s go h = by (same_bracket a b) h
  where
    by : (t : Bool) → (if t then closing_from (c ∷ st) (k + 1) (us ++ vs) else Wrong k) ≡ Closed (j + d)
        → (if t then closing_from (c ∷ st) (e + 1) us else Wrong e) ≡ Closed j
    by true g = go c st g
    by false g = absurd (cc)

cut : (us vs : List Sign) (a : Bracket) (st : List Bracket) (k j d e : ℕ) → k ≡ e + d → j < e + length us
    → closing_from (a ∷ st) k (us ++ vs) ≡ Closed (j + d) → closing_from (a ∷ st) e us ≡ Closed j
cut [] vs a st k j d e s l h = absurd (let w = closing_low (a ∷ st) k (j + d) vs h in omega (arith, s, l, w))
cut (mark.Opens b ∷ us) vs a st k j d e s l h = cut us vs b (a ∷ st) (k + 1) j d (e + 1) (omega (arith, s)) (omega (arith, l)) h
cut (mark.Closes b ∷ us) vs a st k j d e s l h =
    cut_by us vs b a st k j d e s (λ c more g. cut us vs c more (k + 1) j d (e + 1) (omega (arith, s)) (omega (arith, l)) g) h
cut (m ∷ us) vs a st k j d e s l h = cut us vs a st (k + 1) j d (e + 1) (omega (arith, s)) (omega (arith, l)) h

-- a place is one of a list where something stands there
below_drop : (ss : List Sign) (k : ℕ) (s : Sign) (us : List Sign) → drop k ss ≡ s ∷ us → k < length ss
below_drop [] zero s us h = absurd (cc)
below_drop [] (suc k) s us h = absurd (cc)
below_drop (t ∷ ss) zero s us h = omega arith
below_drop (t ∷ ss) (suc k) s us h = let l = below_drop ss k s us h in omega (arith, l)

module _ (ts : List TokenAt) (end : Pos) where
  -- the last of the brackets that are open is closed by one of its kind
  ends_under : (us : List Sign) (b a : Bracket) (opened : List Bracket) (k j : ℕ) → at (signs ts) k ≡ mark.Closes b
      → ((more : List Bracket) → closing_from (more ++ a ∷ []) (k + 1) us ≡ Closed j → at (signs ts) j ≡ mark.Closes a)
      → closed_by b k (opened ++ a ∷ []) (λ more. closing_from more (k + 1) us) ≡ Closed j → at (signs ts) j ≡ mark.Closes a
  ends_under us b a [] k j s go h = by (same_bracket a b) refl h
    where
      by : (t : Bool) → same_bracket a b ≡ t → (if t then Closed k else Wrong k) ≡ Closed j → at (signs ts) j ≡ mark.Closes a
      by true e g = let q : k ≡ j = cc in ap (at (signs ts)) (sym q) ∙ s ∙ ap mark.Closes (sym (same_bracket_is a b e))
      by false e g = absurd (cc)
  ends_under us b a (c ∷ []) k j s go h = by (same_bracket c b) h
    where
      by : (t : Bool) → (if t then closing_from (a ∷ []) (k + 1) us else Wrong k) ≡ Closed j → at (signs ts) j ≡ mark.Closes a
      by true g = go [] g
      by false g = absurd (cc)
  ends_under us b a (c ∷ d ∷ opened) k j s go h = by (same_bracket c b) h
    where
      by : (t : Bool) → (if t then closing_from (d ∷ (opened ++ a ∷ [])) (k + 1) us else Wrong k) ≡ Closed j → at (signs ts) j ≡ mark.Closes a
      by true g = go (d ∷ opened) g
      by false g = absurd (cc)

  pub ends_with : (us : List Sign) (opened : List Bracket) (a : Bracket) (k j : ℕ) → drop k (signs ts) ≡ us → closing_from (opened ++ a ∷ []) k us ≡ Closed j
      → at (signs ts) j ≡ mark.Closes a
  ends_with [] opened a k j d h = absurd (cc)
  ends_with (mark.Opens b ∷ us) opened a k j d h =
      ends_with us (b ∷ opened) a (k + 1) j (ap (λ (i : ℕ). drop i (signs ts)) (plus_one k) ∙ (next_sign ts end k (mark.Opens b) us d).1) h
  ends_with (mark.Closes b ∷ us) opened a k j d h =
      let n = next_sign ts end k (mark.Closes b) us d in
      ends_under us b a opened k j n.0 (λ more g. ends_with us more a (k + 1) j (ap (λ (i : ℕ). drop i (signs ts)) (plus_one k) ∙ n.1) g) h
  ends_with (s ∷ us) opened a k j d h =
      ends_with us opened a (k + 1) j (ap (λ (i : ℕ). drop i (signs ts)) (plus_one k) ∙ (next_sign ts end k s us d).1) h

  -- ---- one token

  -- a sign stands at a place
  record SignAt (k : ℕ) (s : Sign) : Type 0 where
    below : k < length ts
    is : sign_of (bytes_at ts k) ≡ s

  sign_drop : (k : ℕ) (s : Sign) (us : List Sign) → drop k (signs ts) ≡ s ∷ us → SignAt k s × (drop (suc k) (signs ts) ≡ us)
  sign_drop k s us d =
      let l = below_drop (signs ts) k s us d in
      let m = length-map ts (λ (t : TokenAt). sign_of t.bytes) in
      let n = next_sign ts end k s us d in
      let b : k < length ts = omega (arith, l, m) in (
        record { below = b; is = sym (stand_sign ts end k (plain (Called (bytes_at ts k))) (record { below = b; bytes = refl; kept = tt; short = refl })) ∙ n.0 },
        n.1,
      )

  word_sound : (k : ℕ) (s : lexicon.Sign) → k < length ts → bytes_at ts k ≡ sign_bytes s → Sound ts end k (fixed s)
  word_sound k s l h = record { stand = record { below = l; bytes = h; kept = tt; short = refl }; valid = refl }

  name_sound : (k : ℕ) → SignAt k mark.Called → Sound ts end k (marked (Called (bytes_at ts k)) (pos_at ts end ts k))
  name_sound k h = record {
    stand = record { below = h.below; bytes = refl; kept = refl; short = refl };
    valid = called_is_name (bytes_at ts k) (ap is_called h.is);
  }

  kind_sound : (k : ℕ) (h : SignAt k mark.Kind) → Sound ts end k (plain (kind_word (kind_of (bytes_at ts k) h.is).kind))
  kind_sound k h = by (kind_of (bytes_at ts k) h.is)
    where
      by : (r : KindOf (bytes_at ts k)) → Sound ts end k (plain (kind_word r.kind))
      by r = record { stand = record { below = h.below; bytes = r.is; kept = tt; short = refl }; valid = valid r.kind }
        where
          valid : (kind : ValueKind) → is_valid (kind_word kind) ≡ true
          valid Int = refl
          valid BoolKind = refl

  round_open : (k : ℕ) → SignAt k (mark.Opens Round) → Sound ts end k (fixed LeftParen)
  round_open k h = word_sound k LeftParen h.below (opening_is (bytes_at ts k) (ap opens_round h.is))

  round_close : (k : ℕ) → SignAt k (mark.Closes Round) → Sound ts end k (fixed RightParen)
  round_close k h = word_sound k RightParen h.below (closing_is (bytes_at ts k) (ap closes_round h.is))

  comma_at : (k : ℕ) → SignAt k mark.Comma → Sound ts end k (fixed Comma)
  comma_at k h = word_sound k Comma h.below (comma_is (bytes_at ts k) (ap is_comma h.is))

  curly_at : (k : ℕ) → SignAt k (mark.Opens Curly) → Sound ts end k (fixed LeftBrace)
  curly_at k h = word_sound k LeftBrace h.below (brace_is (bytes_at ts k) (ap opens_curly h.is))

  -- ---- heads

  -- parameters from a place on, a `)` and a `{`
  record ParamsRead (k : ℕ) (h : Head) : Type 0 where
    first : HeadParam
    more : List HeadParam
    reads : Reads ts end k (plain (kind_word first.kind) ∷ marked (Called first.name) first.at ∷ (more_params more ++ fixed RightParen ∷ []))
    ends : after k (plain (kind_word first.kind) ∷ marked (Called first.name) first.at ∷ (more_params more ++ fixed RightParen ∷ [])) ≡ h.stop
    many : suc (length more) ≡ h.params
    brace : Sound ts end h.stop (fixed LeftBrace)

  abbrev one_param : (k : ℕ) → SignAt k mark.Kind → HeadParam
  one_param k h = record { kind = (kind_of (bytes_at ts k) h.is).kind; name = bytes_at ts (suc k); at = pos_at ts end ts (suc k) }

  three : (k : ℕ) → k + 3 ≡ suc (suc (suc k))
  three k = omega arith

  params_read : (us : List Sign) (k : ℕ) → drop k (signs ts) ≡ us → (params_from k us).fits ≡ true → ParamsRead k (params_from k us)
  params_read (mark.Kind ∷ mark.Called ∷ mark.Comma ∷ us) k d f =
      let a = sign_drop k mark.Kind (mark.Called ∷ mark.Comma ∷ us) d in
      let b = sign_drop (suc k) mark.Called (mark.Comma ∷ us) a.1 in
      let c = sign_drop (suc (suc k)) mark.Comma us b.1 in
      let r = params_read us (k + 3) (ap (λ (i : ℕ). drop i (signs ts)) (three k) ∙ c.1) f in
      let rest : Parts = plain (kind_word r.first.kind) ∷ marked (Called r.first.name) r.first.at ∷ (more_params r.more ++ fixed RightParen ∷ []) in
      let m = r.many in
      record {
        first = one_param k a.0;
        more = r.first ∷ r.more;
        reads = (kind_sound k a.0, (name_sound (suc k) b.0, (comma_at (suc (suc k)) c.0, subst (λ (i : ℕ). Reads ts end i rest) (three k) r.reads)));
        ends = ap (λ (i : ℕ). after i rest) (sym (three k)) ∙ r.ends;
        many = omega (arith, m);
        brace = r.brace;
      }
  params_read (mark.Kind ∷ mark.Called ∷ mark.Closes Round ∷ mark.Opens Curly ∷ us) k d f =
      let a = sign_drop k mark.Kind (mark.Called ∷ mark.Closes Round ∷ mark.Opens Curly ∷ us) d in
      let b = sign_drop (suc k) mark.Called (mark.Closes Round ∷ mark.Opens Curly ∷ us) a.1 in
      let c = sign_drop (suc (suc k)) (mark.Closes Round) (mark.Opens Curly ∷ us) b.1 in
      let e = sign_drop (suc (suc (suc k))) (mark.Opens Curly) us c.1 in
      record {
        first = one_param k a.0;
        more = [];
        reads = (kind_sound k a.0, (name_sound (suc k) b.0, (round_close (suc (suc k)) c.0, tt)));
        ends = sym (three k);
        many = refl;
        brace = subst (λ (i : ℕ). Sound ts end i (fixed LeftBrace)) (sym (three k)) (curly_at (suc (suc (suc k))) e.0);
      }
  params_read us k d f = absurd (cc)

  -- the name of a procedure, its parameters in brackets, and a `{`
  pub record TitleRead (k : ℕ) (h : Head) : Type 0 where
    pub params : List HeadParam
    pub reads : Reads ts end k (title_parts (bytes_at ts k) (pos_at ts end ts k) params)
    pub ends : after k (title_parts (bytes_at ts k) (pos_at ts end ts k) params) ≡ h.stop
    pub many : length params ≡ h.params
    pub brace : Sound ts end h.stop (fixed LeftBrace)

  -- what comes after the `(`
  record TailRead (k : ℕ) (h : Head) : Type 0 where
    params : List HeadParam
    reads : Reads ts end k (params_parts params ++ fixed RightParen ∷ [])
    ends : after k (params_parts params ++ fixed RightParen ∷ []) ≡ h.stop
    many : length params ≡ h.params
    brace : Sound ts end h.stop (fixed LeftBrace)

  tail_by : (k : ℕ) (h : Head) → ParamsRead k h → TailRead k h
  tail_by k h r = record { params = r.first ∷ r.more; reads = r.reads; ends = r.ends; many = r.many; brace = r.brace }

  tail_read : (us : List Sign) (k : ℕ) → drop k (signs ts) ≡ us → (params_of k us).fits ≡ true → TailRead k (params_of k us)
  tail_read (mark.Closes Round ∷ mark.Opens Curly ∷ us) k d f =
      let a = sign_drop k (mark.Closes Round) (mark.Opens Curly ∷ us) d in
      let b = sign_drop (suc k) (mark.Opens Curly) us a.1 in
      record {
        params = [];
        reads = (round_close k a.0, tt);
        ends = sym (plus_one k);
        many = refl;
        brace = subst (λ (i : ℕ). Sound ts end i (fixed LeftBrace)) (sym (plus_one k)) (curly_at (suc k) b.0);
      }
  tail_read (mark.Kind ∷ us) k d f = tail_by k (params_from k (mark.Kind ∷ us)) (params_read (mark.Kind ∷ us) k d f)
  tail_read us k d f = absurd (cc)

  two : (k : ℕ) → k + 2 ≡ suc (suc k)
  two k = omega arith

  title_read : (us : List Sign) (k : ℕ) → drop k (signs ts) ≡ us → (head_from k us).fits ≡ true → TitleRead k (head_from k us)
  title_read (mark.Called ∷ mark.Opens Round ∷ us) k d f =
      let a = sign_drop k mark.Called (mark.Opens Round ∷ us) d in
      let b = sign_drop (suc k) (mark.Opens Round) us a.1 in
      let r = tail_read us (k + 2) (ap (λ (i : ℕ). drop i (signs ts)) (two k) ∙ b.1) f in
      let rest : Parts = params_parts r.params ++ fixed RightParen ∷ [] in
      record {
        params = r.params;
        reads = (name_sound k a.0, (round_open (suc k) b.0, subst (λ (i : ℕ). Reads ts end i rest) (two k) r.reads));
        ends = ap (λ (i : ℕ). after i rest) (sym (two k)) ∙ r.ends;
        many = r.many;
        brace = r.brace;
      }
  title_read us k d f = absurd (cc)

  -- the head of a procedure that begins at a place, where it fits
  pub head_read : (p : ℕ) → (head (signs ts) p).fits ≡ true → TitleRead (suc p) (head (signs ts) p)
  head_read p f =
      let e : head (signs ts) p ≡ head_from (suc p) (drop (suc p) (signs ts)) = ap (λ (i : ℕ). head_from i (drop i (signs ts))) (plus_one p) in
      subst (TitleRead (suc p)) (sym e) (title_read (drop (suc p) (signs ts)) (suc p) refl (ap (λ (h : Head). h.fits) (sym e) ∙ f))

  -- ---- bodies

  free_lies : (n k : ℕ) (rest : Parts) → k + n ≤ length ts → Lies ts end (k + n) rest → Lies ts end k (map free_part (map (bytes_at ts) (from ts end k n)) ++ rest)
  free_lies zero k rest l h = subst (λ (i : ℕ). Lies ts end i rest) (let e : k + 0 ≡ k = omega arith in e) h
  free_lies (suc n) k rest l h =
      let e : k + suc n ≡ suc k + n = omega arith in (
        record { below = omega (arith, l); bytes = refl; kept = tt; short = refl },
        free_lies n (suc k) rest (omega (arith, l)) (subst (λ (i : ℕ). Lies ts end i rest) e h),
      )

  free_count : (n k : ℕ) → length (map (bytes_at ts) (from ts end k n)) ≡ n
  free_count zero k = refl
  free_count (suc n) k = ap suc (free_count n (suc k))

  -- a body from its `{` to its `}`
  pub record BodyLies (k last : ℕ) : Type 0 where
    pub body : List (List ℕ)
    pub lies : Lies ts end k (fixed LeftBrace ∷ (map free_part body ++ fixed RightBrace ∷ []))
    pub ends : after (suc k) (map free_part body) ≡ last
    pub there : ends_there body ≡ true

  closes_there : (e : End) (n : ℕ) → e ≡ Closed n → is_after 0 e n ≡ true
  closes_there e n h = ap (λ x. is_after 0 x n) h ∙ (let q : n + 0 ≡ n = omega arith in eq-eqb (n + 0) n q)

  pub body_lies : (k last : ℕ) → Sound ts end k (fixed LeftBrace) → closing (signs ts) k ≡ Closed last → BodyLies k last
  body_lies k last o c =
      let d = drop_sign ts end k (fixed LeftBrace) o.stand ∙ ap (λ (m : Sign). m ∷ drop (suc k) (signs ts)) (stand_sign ts end k (fixed LeftBrace) o.stand) in
      let h : closing_from (Curly ∷ []) (suc k) (drop (suc k) (signs ts)) ≡ Closed last =
      ap (λ (i : ℕ). closing_from (Curly ∷ []) i (drop (suc k) (signs ts))) (sym (plus_one k)) ∙ ap (closing_from [] k) (sym d) ∙ c in
      let low = closing_low (Curly ∷ []) (suc k) last (drop (suc k) (signs ts)) h in
      let s = ends_with (drop (suc k) (signs ts)) [] Curly (suc k) last refl h in
      let n : ℕ = last - suc k in
      let e : suc k + n ≡ last = omega (arith, low) in
      let body : List (List ℕ) = map (bytes_at ts) (from ts end (suc k) n) in
      let b = below_sign last s in
      let close : Lies ts end last (fixed RightBrace ∷ []) = (record { below = b; bytes = close_is (bytes_at ts last) (sign_bytes_at last b ∙ s); kept = tt; short = refl }, tt) in
      let l : Lies ts end k (fixed LeftBrace ∷ (map free_part body ++ fixed RightBrace ∷ [])) =
      (o.stand, free_lies n (suc k) (fixed RightBrace ∷ []) (omega (arith, e, b)) (subst (λ (i : ℕ). Lies ts end i (fixed RightBrace ∷ [])) (sym e) close)) in
      let many = free_count n (suc k) in
      let many2 = free_many ts end body in
      let g = after_is (suc k) (map free_part body) in
      let us : List Sign = map sign_of (body ++ codes "}" ∷ []) in
      let vs : List Sign = drop (after (suc k) (map free_part body ++ fixed RightBrace ∷ [])) (signs ts) in
      let lu = length-map (body ++ codes "}" ∷ []) sign_of in
      let lb = length-append body (codes "}" ∷ []) in
      let all : drop (suc k) (signs ts) ≡ us ++ vs =
      lies_signs ts end (suc k) (map free_part body ++ fixed RightBrace ∷ []) l.1 ∙ ap (λ (x : List (List ℕ)). map sign_of x ++ vs) (free_bytes ts end body) in
      let z : closing_from (Curly ∷ []) 1 us ≡ Closed (length body + 1) =
      cut us vs Curly [] (suc k) (length body + 1) k 1 (omega arith) (omega (arith, lu, lb))
      (ap (closing_from (Curly ∷ []) (suc k)) (sym all) ∙ h ∙ ap Closed (omega (arith, e, many))) in
      record { body = body; lies = l; ends = omega (arith, g, many, many2, e); there = closes_there (closing (mark.Opens Curly ∷ us) 0) (length body + 1) z }
    where
      sign_bytes_at : (j : ℕ) → j < length ts → sign_of (bytes_at ts j) ≡ at (signs ts) j
      sign_bytes_at j l = sym (stand_sign ts end j (plain (Called (bytes_at ts j))) (record { below = l; bytes = refl; kept = tt; short = refl }))

      below_sign : (j : ℕ) → at (signs ts) j ≡ mark.Closes Curly → j < length ts
      below_sign j h = by (nat_le (length ts) j) refl
        where
          by : (t : Bool) → nat_le (length ts) j ≡ t → j < length ts
          by true q =
              let m = leb-true (length ts) j q in
              let l = length-map ts (λ (t : TokenAt). sign_of t.bytes) in
              absurd (let o : at (signs ts) j ≡ mark.Other = past_end (signs ts) j (omega (arith, m, l)) in cc)
          by false q = let m : length ts ≤ j → ⊥ = λ u. absurd (let v = le-leb (length ts) j u in cc) in omega (arith, m)
