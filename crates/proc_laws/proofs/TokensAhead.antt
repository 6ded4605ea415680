-- What is written from a place on is spelled by parts: those that are no call's stand there, with the names and places of the text.
use Rattle.std.proofs.Common.{◌≡◌, ℕ, zero, suc, ◌+◌, ◌-◌, ◌<◌, ◌≤◌, Bool, true, false, List, [], ◌∷◌, ◌++◌, Option, Some, None, length, map, drop, codes, refl, sym, ap, ◌∙◌, subst, arith}
use Rattle.std.specs.Prelude.{not, nat_le, ◌||◌, if◌then◌else◌}
use Rattle.std.specs.List.{list_all}
use Rattle.std.proofs.lemmas.List.{append_assoc}
use Rattle.std.proofs.lemmas.Bool.{and_parts}
use Rattle.jade_alphabet.specs.declared.TheConstants.{WORD_LIMIT, EXPRESSION_LIMIT}
use Rattle.jade_base.specs.declared.place.Pos.{Pos}
use Rattle.jade_lexer.specs.Lexemes.{TokenAt}
use Rattle.jade_syntax.specs.Abstract.{Name}
use Rattle.jade_syntax.specs.Names.{is_name}
use Rattle.jade_syntax.specs.Numbering.{same_name}
use Rattle.jade_parser.specs.declared.Sign.TheVariants.{IfWord, LeftBrace, RightBrace}
use Rattle.jade_parser.specs.Spelled.{Token, Fixed, Called, Counted, Unknown, Part, Parts, is_valid, KeptAt, fixed, plain}
use Rattle.jade_parser.specs.Kinds.{token_bytes, token_of_bytes}
use Rattle.jade_parser.proofs.Known.{back}
use Rattle.proc_expand.specs.declared.sign.Bracket.{Bracket}
use Rattle.proc_expand.specs.declared.sign.Bracket.TheVariants.{Round, Square, Curly}
use Rattle.proc_expand.specs.declared.sign.Sign.{Sign}
use Rattle.proc_expand.specs.declared.sign.Sign.TheVariants as mark
use Rattle.proc_expand.specs.declared.sign.End.{End}
use Rattle.proc_expand.specs.declared.sign.End.TheVariants.{Closed, Wrong}
use Rattle.proc_expand.specs.Words.{sign_of, signs, at, before, bytes_at, is_called, ends_statement, same_bracket, closing_from, closed_by}
use Rattle.proc_expand.specs.Refusals.{is_call, call_end}
use Rattle.proc_expand.specs.Written.{MadeToken, CallWriter, pos_at, from, closed_at, arguments, token_at, is_variable, made_at, write_one, write_places}
use Rattle.proc_laws.proofs.Basics.{by_case, no_both}
use Rattle.proc_laws.proofs.SignsOfTokens.{token_sign, parts_signs, sign_is}
use Rattle.proc_laws.proofs.PlacesInText.{after, plus_one, Sound, Reads, stand_sign, sign_at, signs_from}
use Rattle.proc_laws.proofs.LevelParts.{Level, calm}
use Rattle.proc_laws.proofs.CallPlaces.{past_after}
use Rattle.proc_laws.proofs.WrittenParts.{Keeps, fixed_plain, no_call_after}
use Rattle.proc_laws.proofs.WrittenMeaning.{token_short}
use Rattle.proc_laws.proofs.Unrenaming.{again, again_token, again_at, again_part}

-- ---- a token whose sign is that of a name is a name

passed : (b : Bool) (s r : Sign) → is_called s ≡ false → is_called (if b then s else r) ≡ true → is_called r ≡ true
passed true s r h g = no_both (is_called s) g h
passed false s r h g = g

chosen : (b : Bool) → is_called (if b then mark.Called else mark.Other) ≡ true → b ≡ true
chosen true h = refl
chosen false h = absurd (cc)

abbrev pub left13 : List ℕ → Sign
left13 x = if is_name x then mark.Called else mark.Other

abbrev pub left12 : List ℕ → Sign
left12 x = if same_name x (codes "input") || same_name x (codes "object") || same_name x (codes "objects") then mark.ItemWord else left13 x

abbrev pub left11 : List ℕ → Sign
left11 x = if same_name x (codes "int") || same_name x (codes "bool") then mark.Kind else left12 x

abbrev pub left10 : List ℕ → Sign
left10 x = if same_name x (codes "else") then mark.Else else left11 x

abbrev pub left9 : List ℕ → Sign
left9 x = if same_name x (codes "main") then mark.Main else left10 x

abbrev pub left8 : List ℕ → Sign
left8 x = if same_name x (codes "proc") then mark.Proc else left9 x

abbrev pub left7 : List ℕ → Sign
left7 x = if same_name x (codes "}") then mark.Closes Curly else left8 x

abbrev pub left6 : List ℕ → Sign
left6 x = if same_name x (codes "{") then mark.Opens Curly else left7 x

abbrev pub left5 : List ℕ → Sign
left5 x = if same_name x (codes "]") then mark.Closes Square else left6 x

abbrev pub left4 : List ℕ → Sign
left4 x = if same_name x (codes "[") then mark.Opens Square else left5 x

abbrev pub left3 : List ℕ → Sign
left3 x = if same_name x (codes ")") then mark.Closes Round else left4 x

abbrev pub left2 : List ℕ → Sign
left2 x = if same_name x (codes "(") then mark.Opens Round else left3 x

abbrev pub left1 : List ℕ → Sign
left1 x = if same_name x (codes ",") then mark.Comma else left2 x

pub called_is_name : (x : List ℕ) → is_called (sign_of x) ≡ true → is_name x ≡ true
called_is_name x h =
    chosen (is_name x)
    (passed (same_name x (codes "input") || same_name x (codes "object") || same_name x (codes "objects")) mark.ItemWord (left13 x) refl (passed (same_name x (codes "int") || same_name x (codes "bool")) mark.Kind (left12 x) refl (passed (same_name x (codes "else")) mark.Else (left11 x) refl (passed (same_name x (codes "main")) mark.Main (left10 x) refl (passed (same_name x (codes "proc")) mark.Proc (left9 x) refl (passed (same_name x (codes "}")) (mark.Closes Curly) (left8 x) refl (passed (same_name x (codes "{")) (mark.Opens Curly) (left7 x) refl (passed (same_name x (codes "]")) (mark.Closes Square) (left6 x) refl (passed (same_name x (codes "[")) (mark.Opens Square) (left5 x) refl (passed (same_name x (codes ")")) (mark.Closes Round) (left4 x) refl (passed (same_name x (codes "(")) (mark.Opens Round) (left3 x) refl (passed (same_name x (codes ",")) mark.Comma (left2 x) refl (passed (same_name x (codes ";")) mark.Semicolon (left1 x) refl h)))))))))))))

-- ---- tokens that are spelled by parts

pub record Said (t : MadeToken) (p : Part) : Type 0 where
  pub bytes : t.bytes ≡ token_bytes p.token
  pub valid : is_valid p.token ≡ true
  pub short : nat_le p.nth EXPRESSION_LIMIT ≡ true

abbrev pub Says : List MadeToken → Parts → Type 0
Says [] [] = Unit {0}
Says [] (p ∷ ps) = ⊥
Says (t ∷ us) [] = ⊥
Says (t ∷ us) (p ∷ ps) = Said t p × Says us ps

-- bytes say which token it is
pub token_is : (t : Token) (x : List ℕ) → is_valid t ≡ true → x ≡ token_bytes t → token_of_bytes x ≡ t
token_is t x v h = ap token_of_bytes h ∙ back t v

-- ---- brackets

closing_step : (b : Bracket) (k j : ℕ) (opened : List Bracket) (go : List Bracket → End)
    → ((more : List Bracket) → go more ≡ Closed j → k + 1 + length more ≤ j + 1) → closed_by b k opened go ≡ Closed j → k + length opened ≤ j + 1
closing_step b k j [] go f h = absurd (cc)
closing_step b k j (a ∷ []) go f h = by (same_bracket a b) h
  where
    by : (t : Bool) → (if t then Closed k else Wrong k) ≡ Closed j → k + 1 ≤ j + 1
    by true g = let q : k ≡ j = cc in omega (arith, q)
    by false g = absurd (cc)
closing_step b k j (a ∷ c ∷ opened) go f h = by (same_bracket a b) h
  where
    by : (t : Bool) → (if t then go (c ∷ opened) else Wrong k) ≡ Closed j → k + length (a ∷ c ∷ opened) ≤ j + 1
    by true g = let l = f (c ∷ opened) g in omega (arith, l)
    by false g = absurd (cc)

-- so many brackets need so many places to be closed
pub closing_low : (opened : List Bracket) (k j : ℕ) (us : List Sign) → closing_from opened k us ≡ Closed j → k + length opened ≤ j + 1
closing_low opened k j [] h = absurd (cc)
closing_low opened k j (mark.Opens b ∷ us) h = let l = closing_low (b ∷ opened) (k + 1) j us h in omega (arith, l)
closing_low opened k j (mark.Closes b ∷ us) h =
    closing_step b k j opened (λ more. closing_from more (k + 1) us) (λ more g. closing_low more (k + 1) j us g) h
closing_low opened k j (s ∷ us) h = let l = closing_low opened (k + 1) j us h in omega (arith, l)

module _ (ts : List TokenAt) (end : Pos) where
  -- parts with the names and places of the text
  abbrev pub anew : ℕ → Parts → Parts
  anew k ps = again (bytes_at ts) (pos_at ts end ts) k ps

  abbrev pub anew_part : ℕ → Part → Part
  anew_part k p = again_part (bytes_at ts) (pos_at ts end ts) k p

  pub same_sign : (k : ℕ) (t : Token) → token_sign (again_token (bytes_at ts) (pos_at ts end ts) k t) ≡ token_sign t
  same_sign k (Fixed s) = refl
  same_sign k (Called x) = refl
  same_sign k (Counted v) = refl
  same_sign k Unknown = refl

  pub same_signs : (k : ℕ) (ps : Parts) → parts_signs (anew k ps) ≡ parts_signs ps
  same_signs k [] = refl
  same_signs k (p ∷ ps) = λ i. same_sign k p.token i ∷ same_signs (suc k) ps i

  pub after_anew : (j k : ℕ) (ps : Parts) → after j (anew k ps) ≡ after j ps
  after_anew j k [] = refl
  after_anew j k (p ∷ ps) = after_anew (suc j) (suc k) ps

  pub reads_both : (k : ℕ) (a b : Parts) → Reads ts end k a → Reads ts end (after k a) b → Reads ts end k (a ++ b)
  reads_both k [] b h g = g
  reads_both k (p ∷ a) b h g = (h.0, reads_both (suc k) a b h.1 g)

  kept_anew : (k : ℕ) (o : Option Pos) → KeptAt (again_at (bytes_at ts) (pos_at ts end ts) k o) (pos_at ts end ts k)
  kept_anew k None = tt
  kept_anew k (Some q) = refl

  module _ (to : Name → Name) (keeps : Keeps to) where
    -- a name that is replaced is written as a name
    pub name_said : (x : Name) (t : Token) → is_name x ≡ true → to x ≡ token_bytes t → is_valid t ≡ true → token_sign t ≡ mark.Called
    name_said x t h e v =
        let n = keeps.name x h (ap (λ (l : List ℕ). nat_le (length l) WORD_LIMIT) e ∙ token_short t v) in
        sym (sign_is t v) ∙ ap sign_of (sym e) ∙ sign_is (Called (to x)) n

    pub sound_at : (k : ℕ) (t : Token) (o : Option Pos) (n : ℕ) → k < length ts → is_call (signs ts) k ≡ false
        → Said (token_at ts end to k) (record { token = t; at = o; nth = n }) → Sound ts end k (anew_part k (record { token = t; at = o; nth = n }))
    sound_at k t o n l c h = by t h
      where
        sign_here : at (signs ts) k ≡ sign_of (bytes_at ts k)
        sign_here = stand_sign ts end k (plain (Called (bytes_at ts k))) (record { below = l; bytes = refl; kept = tt; short = refl })

        variable : is_variable ts end k ≡ true → is_name (bytes_at ts k) ≡ true
        variable v = called_is_name (bytes_at ts k) (ap is_called (sym sign_here) ∙ (and_parts (is_called (at (signs ts) k)) (not (is_call (signs ts) k)) v).0)

        renamed : is_variable ts end k ≡ true → (token_at ts end to k).bytes ≡ to (bytes_at ts k)
        renamed v = ap (λ b. if b then to (bytes_at ts k) else bytes_at ts k) v

        same : is_variable ts end k ≡ false → (token_at ts end to k).bytes ≡ bytes_at ts k
        same v = ap (λ b. if b then to (bytes_at ts k) else bytes_at ts k) v

        -- a token that is no name is written as it is
        as_it_is : (t : Token) → is_called (token_sign t) ≡ false → Said (token_at ts end to k) (record { token = t; at = o; nth = n }) → bytes_at ts k ≡ token_bytes t
        as_it_is t p g = by_case (is_variable ts end k)
            (λ v. no_both (is_called (token_sign t)) (ap is_called (name_said (bytes_at ts k) t (variable v) (sym (renamed v) ∙ g.bytes) g.valid)) p)
            (λ v. sym (same v) ∙ g.bytes)

        by : (t : Token) → Said (token_at ts end to k) (record { token = t; at = o; nth = n }) → Sound ts end k (anew_part k (record { token = t; at = o; nth = n }))
        by (Fixed s) g = record { stand = record { below = l; bytes = as_it_is (Fixed s) (fixed_plain s) g; kept = kept_anew k o; short = g.short }; valid = refl }
        by (Called x) g = record {
          stand = record { below = l; bytes = refl; kept = kept_anew k o; short = g.short };
          valid = by_case (is_variable ts end k) variable (λ v. ap is_name (sym (same v) ∙ g.bytes) ∙ g.valid);
        }
        by (Counted v) g = record {
          stand = record { below = l; bytes = as_it_is (Counted v) refl g; kept = kept_anew k o; short = g.short };
          valid = g.valid;
        }
        by Unknown g = absurd (let v = g.valid in cc)

  -- what begins so
  pub record Opening (k : ℕ) (us : List MadeToken) : Type 0 where
    pub more : List MadeToken
    pub is : us ≡ made_at ts end k (codes "if") ∷ more

  -- where tokens are written: up to a place, after which others come that begin with a `}`, if there are any; each call there begins with `if`
  pub record Context (calls : List ℕ → CallWriter ts end) (facts : List ℕ → ℕ → Type 0) : Type 0 where
    pub to : Name → Name
    pub keeps : Keeps to
    pub procs : List ℕ
    pub last : ℕ
    pub within : last ≤ length ts
    pub sure : facts procs last
    pub tail : List MadeToken
    pub stop : (p : Part) (b : Parts) → Says tail (p ∷ b) → p.token ≡ Fixed RightBrace
    pub opens : (k : ℕ) → k < last → is_call (signs ts) k ≡ true → (args : List (List MadeToken)) (n : ℕ) → Opening k (calls procs k args n).tokens

  module _ (follows : (k : ℕ) → is_call (signs ts) k ≡ true → ends_statement (before (signs ts) k) ≡ true)
      (calls : List ℕ → CallWriter ts end) (facts : List ℕ → ℕ → Type 0) (x : Context calls facts) where
    -- what is written for m places from k on, with the number n, and what comes then
    abbrev pub ahead : (k m n : ℕ) → List MadeToken
    ahead k m n = (write_places ts end (calls x.procs) x.to 0 (from ts end k m) n).tokens ++ x.tail

    -- these parts stand at k, and then come those
    pub record Went (k n : ℕ) (a b : Parts) : Type 0 where
      pub reads : Reads ts end k (anew k a)
      pub togo : ℕ
      pub counts : after k a + togo ≡ x.last
      pub rest : Says (ahead (after k a) togo n) b

    pub one_went : (k m n : ℕ) (p : Part) (b : Parts) → k + m ≡ x.last → is_call (signs ts) k ≡ false → (p.token ≡ Fixed RightBrace → 0 < m)
        → Says (ahead k m n) (p ∷ b) → Went k n (p ∷ []) b
    one_went k zero n p b f c h s = absurd (let z = h (x.stop p b s) in omega (arith, z))
    one_went k (suc m) n p b f c h s =
        let w = x.within in
        let g : Says (token_at ts end x.to k ∷ ahead (suc k) m n) (p ∷ b) =
        subst (λ t. Says ((write_one ts end t (calls x.procs) x.to k n
        (λ i. write_places ts end (calls x.procs) x.to (suc (closed_at ts end (call_end (signs ts) k) - k)) (from ts end (suc k) m) i)
        (write_places ts end (calls x.procs) x.to zero (from ts end (suc k) m))).tokens ++ x.tail) (p ∷ b)) c s in
        record {
          reads = (sound_at x.to x.keeps k p.token p.at p.nth (omega (arith, f, w)) c g.0, tt);
          togo = m;
          counts = omega (arith, f);
          rest = g.1;
        }

    -- no call begins with this
    pub first_went : (k m n : ℕ) (p : Part) (b : Parts) → k + m ≡ x.last → (p.token ≡ Fixed IfWord → ⊥) → (p.token ≡ Fixed RightBrace → 0 < m)
        → Says (ahead k m n) (p ∷ b) → Went k n (p ∷ []) b
    first_went k zero n p b f i h s = absurd (let z = h (x.stop p b s) in omega (arith, z))
    first_went k (suc m) n p b f i h s =
        one_went k (suc m) n p b f (by_case (is_call (signs ts) k) (λ c. absurd (i (opened c))) (λ c. c)) h s
      where
        opened : is_call (signs ts) k ≡ true → p.token ≡ Fixed IfWord
        opened c =
            let args = map (λ ps. map (token_at ts end x.to) ps) (arguments ts end k) in
            let o = x.opens k (omega (arith, f)) c args n in
            let a = write_places ts end (calls x.procs) x.to (suc (closed_at ts end (call_end (signs ts) k) - k)) (from ts end (suc k) m) (calls x.procs k args n).next in
            let g : Says ((calls x.procs k args n).tokens ++ (a.tokens ++ x.tail)) (p ∷ b) =
            subst (λ (us : List MadeToken). Says us (p ∷ b)) (append_assoc (calls x.procs k args n).tokens a.tokens x.tail)
            (subst (λ t. Says ((write_one ts end t (calls x.procs) x.to k n
            (λ j. write_places ts end (calls x.procs) x.to (suc (closed_at ts end (call_end (signs ts) k) - k)) (from ts end (suc k) m) j)
            (write_places ts end (calls x.procs) x.to zero (from ts end (suc k) m))).tokens ++ x.tail) (p ∷ b)) c s) in
            let q : Said (made_at ts end k (codes "if")) p =
            (subst (λ (us : List MadeToken). Says (us ++ (a.tokens ++ x.tail)) (p ∷ b)) o.is g).0 in
            sym (token_is p.token (codes "if") q.valid q.bytes)

    not_calm : (t : Token) → calm (token_sign t) ≡ true → t ≡ Fixed RightBrace → ⊥
    not_calm t h e = no_both (calm (token_sign t)) h (ap (λ (u : Token). calm (token_sign u)) e)

    calm_end : (a : Bool) → not a ≡ true → a ≡ false
    calm_end true h = absurd (cc)
    calm_end false h = refl

    -- what stands directly after a token
    pub after_one : (k : ℕ) (p : Part) → Reads ts end k (anew k (p ∷ [])) → ends_statement (token_sign p.token) ≡ false
        → ends_statement (before (signs ts) (suc k)) ≡ false
    after_one k p r h = ap ends_statement (sign_at ts end k (anew_part k p) r.0 ∙ same_sign k p.token) ∙ h

    pub went_both : (k n : ℕ) (a b c : Parts) → Went k n a (b ++ c) → Went (after k a) n b c → Went k n (a ++ b) c
    went_both k n a b c f g = record {
      reads = subst (Reads ts end k) (sym (both k a b)) (reads_both k (anew k a) (anew (after k a) b) f.reads
          (subst (λ (i : ℕ). Reads ts end i (anew (after k a) b)) (sym (after_anew k k a)) g.reads));
      togo = g.togo;
      counts = ap (λ (i : ℕ). i + g.togo) (after_two k a b) ∙ g.counts;
      rest = subst (λ (i : ℕ). Says (ahead i g.togo n) c) (sym (after_two k a b)) g.rest;
    }
      where
        both : (k : ℕ) (a b : Parts) → anew k (a ++ b) ≡ anew k a ++ anew (after k a) b
        both k [] b = refl
        both k (p ∷ a) b = ap (λ (l : Parts). anew_part k p ∷ l) (both (suc k) a b)

        after_two : (k : ℕ) (a b : Parts) → after k (a ++ b) ≡ after (after k a) b
        after_two k [] b = refl
        after_two k (p ∷ a) b = after_two (suc k) a b

    -- parts after none of which a statement may stand
    pub calm_went : (k m n : ℕ) (a b : Parts) → k + m ≡ x.last → list_all calm (parts_signs a) ≡ true
        → ends_statement (before (signs ts) k) ≡ false → Says (ahead k m n) (a ++ b) → Went k n a b
    calm_went k m n [] b f h e s = record { reads = tt; togo = m; counts = f; rest = s }
    calm_went k m n (p ∷ a) b f h e s =
        let g = and_parts (calm (token_sign p.token)) (list_all calm (parts_signs a)) h in
        let o = one_went k m n p (a ++ b) f (no_call_after ts end follows k e) (λ q. absurd (not_calm p.token g.0 q)) s in
        let r = calm_went (suc k) o.togo n a b o.counts g.1 (after_one k p o.reads (calm_end (ends_statement (token_sign p.token)) g.0)) o.rest in
        record { reads = (o.reads.0, r.reads); togo = r.togo; counts = r.counts; rest = r.rest }

    -- ---- what is open

    -- these brackets are open at a place: the first opened of them is closed where the places end, unless that is the end of the text
    pub data Nest (st : List Bracket) (k : ℕ) : Type 0 where
      whole : x.tail ≡ [] → x.last ≡ length ts → Nest st k
      inside : closing_from st k (drop k (signs ts)) ≡ Closed x.last → Nest st k

    pub nest_on : (a : Bracket) (st : List Bracket) (k : ℕ) (ps : Parts) → Nest (a ∷ st) k → Reads ts end k ps → Level (parts_signs ps) → Nest (a ∷ st) (after k ps)
    nest_on a st k ps (whole h e) r l = whole h e
    nest_on a st k ps (inside h) r l =
        inside (ap (λ (i : ℕ). closing_from (a ∷ st) i (drop (after k ps) (signs ts))) (sym (past_after k ps))
        ∙ sym (l.go a st k (drop (after k ps) (signs ts))) ∙ ap (closing_from (a ∷ st) k) (sym (signs_from ts end k ps r)) ∙ h)

    pub nest_open : (st : List Bracket) (k : ℕ) → Nest st k → Sound ts end k (fixed LeftBrace) → Nest (Curly ∷ st) (suc k)
    nest_open st k (whole h e) r = whole h e
    nest_open st k (inside h) r =
        inside (ap (λ (i : ℕ). closing_from (Curly ∷ st) i (drop (suc k) (signs ts))) (sym (plus_one k))
        ∙ sym (ap (closing_from st k) (signs_from ts end k (fixed LeftBrace ∷ []) (r, tt))) ∙ h)

    pub brace_there : (a b : Bracket) (st : List Bracket) (k m n : ℕ) (ps : Parts) → k + m ≡ x.last → Nest (a ∷ b ∷ st) k
        → Says (ahead k m n) (fixed RightBrace ∷ ps) → 0 < m
    brace_there a b st k zero n ps f (whole h e) s = absurd (subst (λ (us : List MadeToken). Says us (fixed RightBrace ∷ ps)) h s)
    brace_there a b st k (suc m) n ps f (whole h e) s = omega arith
    brace_there a b st k m n ps f (inside h) s = let l = closing_low (a ∷ b ∷ st) k x.last (drop k (signs ts)) h in omega (arith, l, f)
