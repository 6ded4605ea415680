-- What is written for parts that stand in a text.
use Rattle.std.proofs.Common.{◌≡◌, ℕ, zero, suc, ◌+◌, ◌-◌, Bool, true, false, ◌&&◌, List, [], ◌∷◌, ◌++◌, Option, Some, None, length, map, cond, refl, sym, ap, ◌∙◌, subst}
use Rattle.std.specs.Prelude.{not, nat_le, if◌then◌else◌}
use Rattle.std.specs.List.{list_all, filter}
use Rattle.std.proofs.lemmas.List.{map-append, append_assoc, append-nil}
use Rattle.std.proofs.lemmas.List.Elements.{filter-append}
use Rattle.std.proofs.lemmas.Bool.{and_parts}
use Rattle.jade_alphabet.specs.declared.TheConstants.{WORD_LIMIT, EXPRESSION_LIMIT}
use Rattle.jade_base.specs.declared.place.Pos.{Pos}
use Rattle.jade_lexer.specs.Alphabet.{is_token}
use Rattle.jade_lexer.specs.Lexemes.{TokenAt}
use Rattle.jade_syntax.specs.declared.tree.Expr.{Expr}
use Rattle.jade_syntax.specs.Abstract.{Name}
use Rattle.jade_syntax.specs.Names.{is_name}
use Rattle.jade_syntax.specs.Image.{expression}
use Rattle.jade_parser.specs.declared.Sign as lexicon
use Rattle.jade_parser.specs.declared.Sign.TheVariants.{InputWord}
use Rattle.jade_parser.specs.Spelled.{Token, Tokens, Fixed, Called, Counted, Unknown, Part, Parts, tokens_of, is_valid, KeptAt, outer}
use Rattle.jade_parser.specs.Kinds.{token_bytes, sign_bytes}
use Rattle.proc_expand.specs.declared.sign.Sign.TheVariants as mark
use Rattle.proc_expand.specs.Words.{sign_of, signs, at, before, bytes_at, is_called, is_proc, opens_round, ends_statement}
use Rattle.proc_expand.specs.Refusals.{is_call, call_end}
use Rattle.proc_expand.specs.Written.{MadeToken, Written, CallWriter, pos_at, closed_at, write_places, write_one, token_at, is_variable, names_at}
use Rattle.replaced_trees.specs.Parts.{part_replaced, parts_replaced}
use Rattle.replaced_trees.proofs.SpelledTerms.{outer_spelled}
use Rattle.proc_laws.specs.Expansion.{names_in}
use Rattle.proc_laws.specs.ExpandedTree.{expr_renamed}
use Rattle.proc_laws.proofs.Basics.{by_case, no_both}
use Rattle.proc_laws.proofs.ProgramTokens.{is_token_of}
use Rattle.proc_laws.proofs.SignsOfTokens.{token_sign, parts_signs}
use Rattle.proc_laws.proofs.PlacesInText.{after, places, places_both, plus_one, Sound, Reads, sign_at}
use Rattle.proc_laws.proofs.InnerTokens as inner
use Rattle.proc_laws.proofs.InnerTokens.{Inner, outer_within}
use Rattle.proc_laws.proofs.LevelParts.{calm, outer_quiet}

-- ---- what is written is spelled by parts

-- a token that is written is that of a part
pub record Spelt (t : MadeToken) (p : Part) : Type 0 where
  pub bytes : t.bytes ≡ token_bytes p.token
  pub kept : KeptAt p.at t.origin
  pub valid : nat_le (length t.bytes) WORD_LIMIT ≡ true → is_valid p.token ≡ true
  pub short : nat_le p.nth EXPRESSION_LIMIT ≡ true
  pub token : is_token t.bytes ≡ true

pub data Spells : List MadeToken → Parts → Type 0 where
  none : Spells [] []
  one : (t : MadeToken) (us : List MadeToken) (p : Part) (ps : Parts) → Spelt t p → Spells us ps → Spells (t ∷ us) (p ∷ ps)

pub spells_both : {a b : List MadeToken} {c d : Parts} → Spells a c → Spells b d → Spells (a ++ b) (c ++ d)
spells_both none k = k
spells_both {b = b} {d = d} (one t us p ps h r) k = one t (us ++ b) p (ps ++ d) h (spells_both r k)

-- tokens in front of what is written
abbrev pub onto : List MadeToken → Written → Written
onto made w = record { tokens = made ++ w.tokens; next = w.next }

-- a name is replaced by a name, unless that is too long
pub record Keeps (to : Name → Name) : Type 0 where
  pub name : (x : Name) → is_name x ≡ true → nat_le (length (to x)) WORD_LIMIT ≡ true → is_name (to x) ≡ true
  pub word : (x : Name) → is_token x ≡ true → is_token (to x) ≡ true

-- a part whose name is replaced, where it stands
abbrev pub renamed_part : (Name → Name) → Part → Part
renamed_part to p = part_replaced to (λ at. at) p

abbrev pub renamed_parts : (Name → Name) → Parts → Parts
renamed_parts to ps = parts_replaced to (λ at. at) ps

-- the names of some tokens
abbrev pub called_name : Token → List Name
called_name (Fixed s) = []
called_name (Called x) = x ∷ []
called_name (Counted v) = []
called_name Unknown = []

abbrev pub called_names : Tokens → List Name
called_names [] = []
called_names (t ∷ ts) = called_name t ++ called_names ts

called_both : (a b : Tokens) → called_names (a ++ b) ≡ called_names a ++ called_names b
called_both [] b = refl
called_both (t ∷ a) b =
    ap (λ (l : List Name). called_name t ++ l) (called_both a b) ∙ sym (append_assoc (called_name t) (called_names a) (called_names b))

inner_names : {t : Tokens} {x : List Name} → Inner t x → called_names t ≡ x
inner_names inner.nothing = refl
inner_names (inner.joined a b x y h g) = called_both a b ∙ (λ i. inner_names h i ++ inner_names g i)
inner_names (inner.name x) = refl
inner_names (inner.number v) = refl
inner_names (inner.sign s e) = refl
inner_names (inner.round a x h) = called_both a _ ∙ append-nil (called_names a) ∙ inner_names h
inner_names (inner.square a x h) = called_both a _ ∙ append-nil (called_names a) ∙ inner_names h

pub outer_names : (e : Expr) → called_names (tokens_of (outer e)) ≡ names_in (expression e)
outer_names e = inner_names (outer_within e).inner

pub called_parts : (a b : Parts) → called_names (tokens_of (a ++ b)) ≡ called_names (tokens_of a) ++ called_names (tokens_of b)
called_parts a b = ap called_names (map-append (λ (p : Part). p.token) a b) ∙ called_both (tokens_of a) (tokens_of b)

-- a word or symbol is no name, and not `proc`
pub fixed_plain : (s : lexicon.Sign) → is_called (sign_of (sign_bytes s)) ≡ false
fixed_plain InputWord = refl
fixed_plain s = refl

fixed_no_proc : (s : lexicon.Sign) → is_proc (sign_of (sign_bytes s)) ≡ false
fixed_no_proc InputWord = refl
fixed_no_proc s = refl

pub no_proc : (t : Token) → is_proc (token_sign t) ≡ false
no_proc (Fixed s) = fixed_no_proc s
no_proc (Called x) = refl
no_proc (Counted v) = refl
no_proc Unknown = refl

module _ (ts : List TokenAt) (end : Pos) where
  -- ---- places of no call

  pub no_call_sign : (k : ℕ) → is_called (at (signs ts) k) ≡ false → is_call (signs ts) k ≡ false
  no_call_sign k h = ap (λ t. t && opens_round (at (signs ts) (k + 1)) && not (is_proc (before (signs ts) k))) h

  and_third : (a b c : Bool) → b ≡ false → (a && b && c) ≡ false
  and_third true b c h = ap (λ t. t && c) h
  and_third false b c h = refl

  pub no_call_next : (k : ℕ) → opens_round (at (signs ts) (suc k)) ≡ false → is_call (signs ts) k ≡ false
  no_call_next k h =
      and_third (is_called (at (signs ts) k)) (opens_round (at (signs ts) (k + 1))) (not (is_proc (before (signs ts) k)))
      (ap (λ (i : ℕ). opens_round (at (signs ts) i)) (plus_one k) ∙ h)

  abbrev pub NoCalls : ℕ → Parts → Type 0
  NoCalls k [] = Unit {0}
  NoCalls k (p ∷ ps) = (is_call (signs ts) k ≡ false) × NoCalls (suc k) ps

  pub no_calls_left : (k : ℕ) (a b : Parts) → NoCalls k (a ++ b) → NoCalls k a
  no_calls_left k [] b h = tt
  no_calls_left k (p ∷ a) b h = (h.0, no_calls_left (suc k) a b h.1)

  pub no_calls_both : (k : ℕ) (a b : Parts) → NoCalls k a → NoCalls (after k a) b → NoCalls k (a ++ b)
  no_calls_both k [] b h g = g
  no_calls_both k (p ∷ a) b h g = (h.0, no_calls_both (suc k) a b h.1 g)

  -- the sign before what comes after some parts is that of the last of them
  pub proc_before : (k : ℕ) (ps : Parts) → Reads ts end k ps → is_proc (before (signs ts) k) ≡ false
      → is_proc (before (signs ts) (after k ps)) ≡ false
  proc_before k [] r h = h
  proc_before k (p ∷ ps) r h = proc_before (suc k) ps r.1 (ap is_proc (sign_at ts end k p r.0) ∙ no_proc p.token)

  -- ---- tokens that are no calls

  names_both : (a b : List ℕ) → names_at ts end (a ++ b) ≡ names_at ts end a ++ names_at ts end b
  names_both a b = ap (map (bytes_at ts)) (filter-append (is_variable ts end) a b) ∙ map-append (bytes_at ts) _ _

  variable_name : (k : ℕ) (x : Name) → at (signs ts) k ≡ mark.Called → is_call (signs ts) k ≡ false → is_variable ts end k ≡ true
  variable_name k x h g = λ i. is_called (h i) && not (g i)

  not_variable : (k : ℕ) → is_called (at (signs ts) k) ≡ false → is_variable ts end k ≡ false
  not_variable k h = ap (λ t. t && not (is_call (signs ts) k)) h

  call_not_variable : (k : ℕ) → is_call (signs ts) k ≡ true → is_variable ts end k ≡ false
  call_not_variable k h = by (is_called (at (signs ts) k)) (is_call (signs ts) k) h
    where
      by : (a b : Bool) → b ≡ true → (a && not b) ≡ false
      by a true h = and_false a
        where
          and_false : (a : Bool) → (a && false) ≡ false
          and_false true = refl
          and_false false = refl
      by a false h = absurd (cc)

  name_alone : (k : ℕ) (b : Bool) → is_variable ts end k ≡ b → names_at ts end (k ∷ []) ≡ (if b then bytes_at ts k ∷ [] else [])
  name_alone k b h = ap (λ t. map (bytes_at ts) (cond t (k ∷ []) [])) h ∙ by b
    where
      by : (b : Bool) → map (bytes_at ts) (cond b (k ∷ []) []) ≡ (if b then bytes_at ts k ∷ [] else [])
      by true = refl
      by false = refl

  -- the names of one place
  alone : (k : ℕ) (t : Token) → at (signs ts) k ≡ token_sign t → bytes_at ts k ≡ token_bytes t → is_valid t ≡ true → is_call (signs ts) k ≡ false
      → names_at ts end (k ∷ []) ≡ called_name t
  alone k (Fixed s) h b v c = name_alone k false (not_variable k (ap is_called h ∙ fixed_plain s))
  alone k (Called x) h b v c = name_alone k true (variable_name k x h c) ∙ ap (λ (y : Name). y ∷ []) b
  alone k (Counted n) h b v c = name_alone k false (not_variable k (ap is_called h))
  alone k Unknown h b v c = name_alone k false (not_variable k (ap is_called h))

  pub quiet_names : (k : ℕ) (ps : Parts) → Reads ts end k ps → NoCalls k ps → names_at ts end (places k ps) ≡ called_names (tokens_of ps)
  quiet_names k [] r c = refl
  quiet_names k (p ∷ ps) r c =
      names_both (k ∷ []) (places (suc k) ps)
      ∙ (λ i. alone k p.token (sign_at ts end k p r.0) r.0.stand.bytes r.0.valid c.0 i ++ quiet_names (suc k) ps r.1 c.1 i)

  -- between brackets and operators there are no calls, where none but those directly after a statement's end are
  module _ (follows : (k : ℕ) → is_call (signs ts) k ≡ true → ends_statement (before (signs ts) k) ≡ true) where
    pub no_call_after : (k : ℕ) → ends_statement (before (signs ts) k) ≡ false → is_call (signs ts) k ≡ false
    no_call_after k h = by_case (is_call (signs ts) k) (λ c. no_both (ends_statement (before (signs ts) k)) (follows k c) h) (λ c. c)

    calm_end : (a : Bool) → not a ≡ true → a ≡ false
    calm_end true h = absurd (cc)
    calm_end false h = refl

    pub calm_no_calls : (k : ℕ) (ps : Parts) → Reads ts end k ps → list_all calm (parts_signs ps) ≡ true
        → ends_statement (before (signs ts) k) ≡ false → NoCalls k ps
    calm_no_calls k [] r c h = tt
    calm_no_calls k (p ∷ ps) r c h =
        let b = and_parts (calm (token_sign p.token)) (list_all calm (parts_signs ps)) c in
        let e : ends_statement (at (signs ts) k) ≡ false =
        ap ends_statement (sign_at ts end k p r.0) ∙ calm_end (ends_statement (token_sign p.token)) b.0 in
        (no_call_after k h, calm_no_calls (suc k) ps r.1 b.1 e)

    pub outer_no_calls : (k : ℕ) (e : Expr) → Reads ts end k (outer e) → ends_statement (before (signs ts) k) ≡ false → NoCalls k (outer e)
    outer_no_calls k e r h = calm_no_calls k (outer e) r (outer_quiet e).all_calm h

  module _ (to : Name → Name) (keeps : Keeps to) where
    same_kept : (o : Option Pos) (t : Token) (n k : ℕ) → KeptAt o (pos_at ts end ts k)
        → KeptAt (renamed_part to (record { token = t; at = o; nth = n })).at (pos_at ts end ts k)
    same_kept None t n k g = g
    same_kept (Some q) t n k g = g

    plain_bytes : (k : ℕ) (t : Token) → at (signs ts) k ≡ token_sign t → is_called (token_sign t) ≡ false → (token_at ts end to k).bytes ≡ bytes_at ts k
    plain_bytes k t h c = ap (λ v. if v then to (bytes_at ts k) else bytes_at ts k) (not_variable k (ap is_called h ∙ c))

    name_bytes : (k : ℕ) (x : Name) → at (signs ts) k ≡ mark.Called → is_call (signs ts) k ≡ false → (token_at ts end to k).bytes ≡ to (bytes_at ts k)
    name_bytes k x h c = ap (λ v. if v then to (bytes_at ts k) else bytes_at ts k) (variable_name k x h c)

    -- a token that is written for one that is no call
    spelt_at : (k : ℕ) (t : Token) (o : Option Pos) (n : ℕ) → Sound ts end k (record { token = t; at = o; nth = n }) → is_call (signs ts) k ≡ false
        → Spelt (token_at ts end to k) (renamed_part to (record { token = t; at = o; nth = n }))
    spelt_at k (Fixed s) o n h c = record {
      bytes = plain_bytes k (Fixed s) (sign_at ts end k (record { token = Fixed s; at = o; nth = n }) h) (fixed_plain s) ∙ h.stand.bytes;
      kept = same_kept o (Fixed s) n k h.stand.kept;
      valid = λ g. refl;
      short = h.stand.short;
      token = ap is_token (plain_bytes k (Fixed s) (sign_at ts end k (record { token = Fixed s; at = o; nth = n }) h) (fixed_plain s) ∙ h.stand.bytes)
          ∙ is_token_of (Fixed s) refl;
    }
    spelt_at k (Called x) o n h c =
        let e : (token_at ts end to k).bytes ≡ to x =
        name_bytes k x (sign_at ts end k (record { token = Called x; at = o; nth = n }) h) c ∙ ap to h.stand.bytes in
        record {
          bytes = e;
          kept = same_kept o (Called x) n k h.stand.kept;
          valid = λ g. keeps.name x h.valid (ap (λ (l : List ℕ). nat_le (length l) WORD_LIMIT) (sym e) ∙ g);
          short = h.stand.short;
          token = ap is_token e ∙ keeps.word x (is_token_of (Called x) h.valid);
        }
    spelt_at k (Counted v) o n h c = record {
      bytes = plain_bytes k (Counted v) (sign_at ts end k (record { token = Counted v; at = o; nth = n }) h) refl ∙ h.stand.bytes;
      kept = same_kept o (Counted v) n k h.stand.kept;
      valid = λ g. h.valid;
      short = h.stand.short;
      token = ap is_token (plain_bytes k (Counted v) (sign_at ts end k (record { token = Counted v; at = o; nth = n }) h) refl ∙ h.stand.bytes)
          ∙ is_token_of (Counted v) h.valid;
    }
    spelt_at k Unknown o n h c = absurd (let v = h.valid in cc)

    -- tokens that are written so
    pub quiet_spells : (k : ℕ) (ps : Parts) → Reads ts end k ps → NoCalls k ps → Spells (map (token_at ts end to) (places k ps)) (renamed_parts to ps)
    quiet_spells k [] r c = none
    quiet_spells k (p ∷ ps) r c =
        one (token_at ts end to k) (map (token_at ts end to) (places (suc k) ps)) (renamed_part to p) (renamed_parts to ps)
        (spelt_at k p.token p.at p.nth r.0 c.0) (quiet_spells (suc k) ps r.1 c.1)

    -- ---- parts that are written one after another

    module _ (calls : CallWriter ts end) where
      -- parts that stand at k, with these names, are written as others, and the numbers go from n to m
      pub record Writes (k : ℕ) (src out : Parts) (xs : List Name) (n m : ℕ) : Type 0 where
        pub made : List MadeToken
        pub spells : Spells made out
        pub by : (ks : List ℕ) → write_places ts end calls to 0 (places k src ++ ks) n ≡ onto made (write_places ts end calls to 0 ks m)
        pub names : names_at ts end (places k src) ≡ xs

      pub nothing_written : (k n : ℕ) → Writes k [] [] [] n n
      nothing_written k n = record { made = []; spells = none; by = λ ks. refl; names = refl }

      pub both : {k : ℕ} {a b c d : Parts} {xs ys : List Name} {n m o : ℕ} → Writes k a c xs n m → Writes (after k a) b d ys m o
          → Writes k (a ++ b) (c ++ d) (xs ++ ys) n o
      both {k} {a} {b} {c} {d} {xs} {ys} {n} {m} {o} f g = record {
        made = f.made ++ g.made;
        spells = spells_both f.spells g.spells;
        by = λ ks.
            ap (λ (l : List ℕ). write_places ts end calls to 0 (l ++ ks) n) (places_both k a b)
            ∙ ap (λ (l : List ℕ). write_places ts end calls to 0 l n) (append_assoc (places k a) (places (after k a) b) ks)
            ∙ f.by (places (after k a) b ++ ks) ∙ ap (onto f.made) (g.by ks)
            ∙ (λ i. record {
              tokens = sym (append_assoc f.made g.made (write_places ts end calls to 0 ks o).tokens) i;
              next = (write_places ts end calls to 0 ks o).next;
            });
        names = ap (names_at ts end) (places_both k a b) ∙ names_both (places k a) (places (after k a) b) ∙ (λ i. f.names i ++ g.names i);
      }

      pub seen_as : {k : ℕ} {a c d : Parts} {xs ys : List Name} {n m : ℕ} → c ≡ d → xs ≡ ys → Writes k a c xs n m → Writes k a d ys n m
      seen_as {k} {a} {c} {d} {xs} {ys} {n} {m} e f w = record { made = w.made; spells = subst (Spells w.made) e w.spells; by = w.by; names = w.names ∙ f }

      quiet_by : (k n : ℕ) (ps : Parts) (ks : List ℕ) → NoCalls k ps
          → write_places ts end calls to 0 (places k ps ++ ks) n ≡ onto (map (token_at ts end to) (places k ps)) (write_places ts end calls to 0 ks n)
      quiet_by k n [] ks c = refl
      quiet_by k n (p ∷ ps) ks c =
          ap (λ b. write_one ts end b calls to k n
          (λ m. write_places ts end calls to (suc (closed_at ts end (call_end (signs ts) k) - k)) (places (suc k) ps ++ ks) m)
          (write_places ts end calls to zero (places (suc k) ps ++ ks))) c.0
          ∙ ap (onto (token_at ts end to k ∷ [])) (quiet_by (suc k) n ps ks c.1)

      pub quiet : (k n : ℕ) (ps : Parts) → Reads ts end k ps → NoCalls k ps → Writes k ps (renamed_parts to ps) (called_names (tokens_of ps)) n n
      quiet k n ps r c = record {
        made = map (token_at ts end to) (places k ps);
        spells = quiet_spells k ps r c;
        by = λ ks. quiet_by k n ps ks c;
        names = quiet_names k ps r c;
      }

      -- a word or symbol
      pub sign_written : (k n : ℕ) (p : Part) → is_called (token_sign p.token) ≡ false → Sound ts end k p
          → Writes k (p ∷ []) (renamed_part to p ∷ []) (called_name p.token ++ []) n n
      sign_written k n p c h =
          quiet k n (p ∷ []) (h, tt) (no_call_sign k (ap is_called (sign_at ts end k p h) ∙ c), tt)

      pub token_written : (k n : ℕ) (p : Part) → is_call (signs ts) k ≡ false → Sound ts end k p
          → Writes k (p ∷ []) (renamed_part to p ∷ []) (called_name p.token ++ []) n n
      token_written k n p c h = quiet k n (p ∷ []) (h, tt) (c, tt)

      -- an expression
      pub outer_written : (k n : ℕ) (e : Expr) → Reads ts end k (outer e) → NoCalls k (outer e)
          → Writes k (outer e) (outer (expr_renamed to e)) (names_in (expression e)) n n
      outer_written k n e r c = seen_as (sym (outer_spelled to (λ at. at) e)) (outer_names e) (quiet k n (outer e) r c)

  -- the names of a call's places are those after its own
  pub call_names : (k : ℕ) (ps : Parts) → is_call (signs ts) k ≡ true → names_at ts end (k ∷ places (suc k) ps) ≡ names_at ts end (places (suc k) ps)
  call_names k ps h = ap (λ t. map (bytes_at ts) (cond t (k ∷ filter (is_variable ts end) (places (suc k) ps)) (filter (is_variable ts end) (places (suc k) ps)))) (call_not_variable k h)
