-- Where the heads and bodies of procedures stand in a text.
use Rattle.std.proofs.Common.{◌≡◌, ℕ, zero, suc, ◌+◌, ◌<◌, ◌≤◌, Bool, true, false, nat_eq, List, [], ◌∷◌, ◌++◌, length, map, drop, codes, refl, sym, ap, ◌∙◌, subst, arith}
use Rattle.std.specs.Prelude.{if◌then◌else◌}
use Rattle.std.specs.List.{flat_map}
use Rattle.std.proofs.lemmas.List.{append_assoc}
use Rattle.std.proofs.lemmas.Bool.{eq-eqb, eqb-true}
use Rattle.jade_base.specs.declared.place.Pos.{Pos}
use Rattle.jade_lexer.specs.Lexemes.{TokenAt}
use Rattle.jade_syntax.specs.declared.tree.ValueKind.{ValueKind}
use Rattle.jade_syntax.specs.declared.tree.ValueKind.TheVariants.{Int, Bool as BoolKind}
use Rattle.jade_syntax.specs.Abstract.{Name}
use Rattle.jade_parser.specs.declared.Sign.TheVariants.{RightParen, LeftBrace, RightBrace}
use Rattle.jade_parser.specs.Spelled.{Parts, fixed}
use Rattle.jade_parser.specs.Statements.{kind_word, braced}
use Rattle.jade_parser.specs.Grammar.{bytes_of}
use Rattle.jade_parser.specs.Kinds.{token_bytes}
use Rattle.proc_expand.specs.declared.sign.Bracket.{Bracket}
use Rattle.proc_expand.specs.declared.sign.Bracket.TheVariants.{Round, Curly}
use Rattle.proc_expand.specs.declared.sign.Sign.{Sign}
use Rattle.proc_expand.specs.declared.sign.Sign.TheVariants as mark
use Rattle.proc_expand.specs.declared.sign.End.{End}
use Rattle.proc_expand.specs.declared.sign.End.TheVariants.{Closed, Wrong, Never}
use Rattle.proc_expand.specs.declared.procedures.Head.{Head}
use Rattle.proc_expand.specs.declared.procedures.Procedure.{Procedure}
use Rattle.proc_expand.specs.Words.{sign_of, signs, at, same_bracket, open_after, open_before, closing, closing_from, closed_by, is_after}
use Rattle.proc_expand.specs.Refusals.{head, head_from, params_of, params_from, procedure}
use Rattle.proc_laws.specs.SourceTree.{HeadParam, Spokens}
use Rattle.proc_laws.specs.SourceReading.{param_parts, more_params, title_parts, free_part, block_of, ends_there}
use Rattle.proc_laws.proofs.SignsOfTokens.{token_sign, parts_signs}
use Rattle.proc_laws.proofs.PlacesInText.{after, after_is, plus_one, Stand, Lies, Reads, left, right, stand_sign, drop_sign, signs_from}
use Rattle.proc_laws.proofs.LevelParts.{past, closes_after, signs_both, even_spokens}
use Rattle.proc_laws.proofs.CallPlaces.{past_after}

-- ---- heads

pub kind_sign : (kind : ValueKind) → token_sign (kind_word kind) ≡ mark.Kind
kind_sign Int = refl
kind_sign BoolKind = refl

abbrev fitting : ℕ → ℕ → Head
fitting n stop = record { params = n; fits = true; stop = stop }

params_are : (k : ℕ) (p : HeadParam) (ps : List HeadParam) (vs : List Sign)
    → params_from k (parts_signs (param_parts p ++ more_params ps) ++ mark.Closes Round ∷ mark.Opens Curly ∷ vs)
    ≡ fitting (length (p ∷ ps)) (past k (parts_signs (param_parts p ++ more_params ps)) + 1)
params_are k p [] vs =
    ap (λ (s : Sign). params_from k (s ∷ mark.Called ∷ mark.Closes Round ∷ mark.Opens Curly ∷ vs)) (kind_sign p.kind)
    ∙ ap (fitting 1) (three k)
  where
    three : (k : ℕ) → k + 3 ≡ ((k + 1) + 1) + 1
    three k = omega arith
params_are k p (q ∷ ps) vs =
    ap (λ (s : Sign). params_from k (s ∷ mark.Called ∷ mark.Comma ∷ (parts_signs (param_parts q ++ more_params ps) ++ mark.Closes Round ∷ mark.Opens Curly ∷ vs)))
    (kind_sign p.kind)
    ∙ ap (λ (h : Head). record { params = 1 + h.params; fits = h.fits; stop = h.stop }) (params_are (k + 3) q ps vs)
    ∙ (λ i. fitting (one (length ps) i) (past (three k i) (parts_signs (param_parts q ++ more_params ps)) + 1))
  where
    three : (k : ℕ) → k + 3 ≡ ((k + 1) + 1) + 1
    three k = omega arith

    one : (n : ℕ) → 1 + suc n ≡ suc (suc n)
    one n = omega arith

title_is : (k : ℕ) (x : Name) (at : Pos) (params : List HeadParam) (vs : List Sign)
    → head_from k (parts_signs (title_parts x at params) ++ mark.Opens Curly ∷ vs) ≡ fitting (length params) (past k (parts_signs (title_parts x at params)))
title_is k x at [] vs = ap (fitting 0) (three k)
  where
    three : (k : ℕ) → k + 2 + 1 ≡ ((k + 1) + 1) + 1
    three k = omega arith
title_is k x at (p ∷ ps) vs =
    ap (λ (l : List Sign). params_of (k + 2) l) (signs_out (param_parts p ++ more_params ps))
    ∙ first (k + 2) p.kind (mark.Called ∷ (parts_signs (more_params ps) ++ mark.Closes Round ∷ mark.Opens Curly ∷ vs))
    ∙ params_are (k + 2) p ps vs
    ∙ ap (fitting (length (p ∷ ps)))
    (ap (λ (i : ℕ). past i (parts_signs (param_parts p ++ more_params ps)) + 1) (two k) ∙ sym (last ((k + 1) + 1) (param_parts p ++ more_params ps)))
  where
    two : (k : ℕ) → k + 2 ≡ (k + 1) + 1
    two k = omega arith

    signs_out : (a : Parts) → parts_signs (a ++ fixed RightParen ∷ []) ++ mark.Opens Curly ∷ vs ≡ parts_signs a ++ mark.Closes Round ∷ mark.Opens Curly ∷ vs
    signs_out a =
        ap (λ (l : List Sign). l ++ mark.Opens Curly ∷ vs) (signs_both a (fixed RightParen ∷ []))
        ∙ append_assoc (parts_signs a) (mark.Closes Round ∷ []) (mark.Opens Curly ∷ vs)

    first : (k : ℕ) (kind : ValueKind) (us : List Sign) → params_of k (token_sign (kind_word kind) ∷ us) ≡ params_from k (token_sign (kind_word kind) ∷ us)
    first k Int us = refl
    first k BoolKind us = refl

    last : (k : ℕ) (a : Parts) → past k (parts_signs (a ++ fixed RightParen ∷ [])) ≡ past k (parts_signs a) + 1
    last k [] = refl
    last k (p ∷ a) = last (k + 1) a

-- ---- brackets

-- what is closed in some signs is closed where they stand in others
shifted_by : (us vs : List Sign) (b : Bracket) (st : List Bracket) (k j d e : ℕ) → e ≡ k + d
    → ((more : List Bracket) → closing_from more (k + 1) us ≡ Closed j → closing_from more (e + 1) (us ++ vs) ≡ Closed (j + d))
    → closed_by b k st (λ more. closing_from more (k + 1) us) ≡ Closed j → closed_by b e st (λ more. closing_from more (e + 1) (us ++ vs)) ≡ Closed (j + d)
shifted_by us vs b [] k j d e s go h = absurd (cc)
shifted_by us vs b (a ∷ []) k j d e s go h = by (same_bracket a b) h
  where
    by : (t : Bool) → (if t then Closed k else Wrong k) ≡ Closed j → (if t then Closed e else Wrong e) ≡ Closed (j + d)
    by true g = let q : k ≡ j = cc in ap Closed (omega (arith, s, q))
    by false g = absurd (cc)
shifted_by us vs b (a ∷ c ∷ st) k j d e s go h = by (same_bracket a b) h
  where
    by : (t : Bool) → (if t then closing_from (c ∷ st) (k + 1) us else Wrong k) ≡ Closed j
        → (if t then closing_from (c ∷ st) (e + 1) (us ++ vs) else Wrong e) ≡ Closed (j + d)
    by true g = go (c ∷ st) g
    by false g = absurd (cc)

shifted : (us vs : List Sign) (st : List Bracket) (k j d e : ℕ) → e ≡ k + d → closing_from st k us ≡ Closed j → closing_from st e (us ++ vs) ≡ Closed (j + d)
shifted [] vs st k j d e s h = absurd (cc)
shifted (mark.Opens b ∷ us) vs st k j d e s h = shifted us vs (b ∷ st) (k + 1) j d (e + 1) (omega (arith, s)) h
shifted (mark.Closes b ∷ us) vs st k j d e s h =
    shifted_by us vs b st k j d e s (λ more g. shifted us vs more (k + 1) j d (e + 1) (omega (arith, s)) g) h
shifted (m ∷ us) vs st k j d e s h = shifted us vs st (k + 1) j d (e + 1) (omega (arith, s)) h

module _ (ts : List TokenAt) (end : Pos) where
  -- ---- a procedure that begins at a place, with a body of some parts

  abbrev pub stop_of : ℕ → Name → Pos → List HeadParam → ℕ
  stop_of k x p params = after (suc k) (title_parts x p params)

  abbrev pub procedure_of : ℕ → Name → Pos → List HeadParam → Parts → Procedure
  procedure_of k x p params body = record {
    place = k;
    head = record { params = length params; fits = true; stop = stop_of k x p params };
    end = Closed (after (suc (stop_of k x p params)) body);
  }

  -- what stands after the word `proc`
  abbrev pub rest_of : Name → Pos → List HeadParam → Parts → Parts
  rest_of x p params body = title_parts x p params ++ fixed LeftBrace ∷ (body ++ fixed RightBrace ∷ [])

  head_here : (k : ℕ) (x : Name) (p : Pos) (params : List HeadParam) → Reads ts end (suc k) (title_parts x p params)
      → Stand ts end (stop_of k x p params) (fixed LeftBrace)
      → head (signs ts) k ≡ record { params = length params; fits = true; stop = stop_of k x p params }
  head_here k x p params r s =
      ap (λ (i : ℕ). head_from i (drop i (signs ts))) (plus_one k)
      ∙ ap (head_from (suc k)) (signs_from ts end (suc k) (title_parts x p params) r
      ∙ ap (λ (l : List Sign). parts_signs (title_parts x p params) ++ l)
      (drop_sign ts end (stop_of k x p params) (fixed LeftBrace) s ∙ ap (λ (m : Sign). m ∷ drop (suc (stop_of k x p params)) (signs ts))
      (stand_sign ts end (stop_of k x p params) (fixed LeftBrace) s)))
      ∙ title_is (suc k) x p params (drop (suc (stop_of k x p params)) (signs ts))
      ∙ ap (fitting (length params)) (past_after (suc k) (title_parts x p params))

  pub procedure_here : (k : ℕ) (x : Name) (p : Pos) (params : List HeadParam) (body : Parts) → Reads ts end (suc k) (title_parts x p params)
      → Stand ts end (stop_of k x p params) (fixed LeftBrace)
      → closing (signs ts) (stop_of k x p params) ≡ Closed (after (suc (stop_of k x p params)) body)
      → procedure (signs ts) k ≡ procedure_of k x p params body
  procedure_here k x p params body r s c =
      let h = head_here k x p params r s in
      λ i. record { place = k; head = h i; end = (ap (λ (q : Head). if q.fits then closing (signs ts) q.stop else Never) h ∙ c) i }

  -- a body of statements is closed after them
  pub closed_body : (k : ℕ) (b : Spokens) → Reads ts end k (braced (block_of b))
      → closing (signs ts) k ≡ Closed (after (suc k) (flat_map (λ (t : Parts). t) (block_of b)))
  closed_body k b r =
      let body : Parts = flat_map (λ (t : Parts). t) (block_of b) in
      ap (closing_from [] k) (signs_from ts end k (fixed LeftBrace ∷ []) (r.0, tt))
      ∙ ap (λ (i : ℕ). closing_from (Curly ∷ []) i (drop (suc k) (signs ts))) (plus_one k)
      ∙ ap (closing_from (Curly ∷ []) (suc k)) (signs_from ts end (suc k) body (left ts end (suc k) body (fixed RightBrace ∷ []) r.1)
      ∙ ap (λ (l : List Sign). parts_signs body ++ l)
      (signs_from ts end (after (suc k) body) (fixed RightBrace ∷ []) ((right ts end (suc k) body (fixed RightBrace ∷ []) r.1).0, tt)))
      ∙ closes_after (parts_signs body) (even_spokens b).level Curly (suc k) (drop (suc (after (suc k) body)) (signs ts))
      ∙ ap Closed (past_after (suc k) body)

  -- the signs of parts that need stand in no program
  pub lies_signs : (k : ℕ) (ps : Parts) → Lies ts end k ps → drop k (signs ts) ≡ map sign_of (bytes_of ps) ++ drop (after k ps) (signs ts)
  lies_signs k [] h = refl
  lies_signs k (p ∷ ps) h =
      drop_sign ts end k p h.0 ∙ ap (λ (s : Sign). s ∷ drop (suc k) (signs ts)) (stand_sign ts end k p h.0)
      ∙ ap (λ (l : List Sign). sign_of (token_bytes p.token) ∷ l) (lies_signs (suc k) ps h.1)

  pub free_bytes : (body : List (List ℕ)) → bytes_of (map free_part body ++ fixed RightBrace ∷ []) ≡ body ++ codes "}" ∷ []
  free_bytes [] = refl
  free_bytes (b ∷ body) = ap (λ (l : List (List ℕ)). b ∷ l) (free_bytes body)

  pub free_many : (body : List (List ℕ)) → length (map free_part body) ≡ length body
  free_many [] = refl
  free_many (b ∷ body) = ap suc (free_many body)

  closed_there : (e : End) (n : ℕ) → is_after 0 e n ≡ true → e ≡ Closed n
  closed_there (Closed j) n h = ap Closed (let q = eqb-true (j + 0) n h in omega (arith, q))
  closed_there (Wrong j) n h = absurd (cc)
  closed_there Never n h = absurd (cc)

  -- a body that is not read is closed where it says
  pub closed_free : (k : ℕ) (body : List (List ℕ)) → Lies ts end k (fixed LeftBrace ∷ (map free_part body ++ fixed RightBrace ∷ [])) → ends_there body ≡ true
      → closing (signs ts) k ≡ Closed (after (suc k) (map free_part body))
  closed_free k body h e =
      let us : List Sign = map sign_of (codes "{" ∷ (body ++ codes "}" ∷ [])) in
      let vs : List Sign = drop (after (suc k) (map free_part body ++ fixed RightBrace ∷ [])) (signs ts) in
      let l = after_is (suc k) (map free_part body) in
      let m = free_many body in
      ap (closing_from [] k) (lies_signs k (fixed LeftBrace ∷ (map free_part body ++ fixed RightBrace ∷ [])) h
      ∙ ap (λ (b : List (List ℕ)). map sign_of (codes "{" ∷ b) ++ vs) (free_bytes body))
      ∙ shifted us vs [] 0 (length body + 1) k k (omega arith) (closed_there (closing us 0) (length body + 1) e)
      ∙ ap Closed (omega (arith, l, m))

  -- ---- within the brackets of a body something is open

  pub record Deep (k j : ℕ) : Type 0 where
    pub above : (e : ℕ) → k ≤ e → e ≤ j → 0 < open_before (signs ts) e
    pub then_none : open_before (signs ts) (suc j) ≡ 0
    pub up : k ≤ j

  pub next_sign : (k : ℕ) (s : Sign) (us : List Sign) → drop k (signs ts) ≡ s ∷ us → (at (signs ts) k ≡ s) × (drop (suc k) (signs ts) ≡ us)
  next_sign k s us h = by (signs ts) k h
    where
      by : (ss : List Sign) (k : ℕ) → drop k ss ≡ s ∷ us → (at ss k ≡ s) × (drop (suc k) ss ≡ us)
      by [] zero h = absurd (cc)
      by [] (suc k) h = absurd (cc)
      by (t ∷ ss) zero h = (ap (head_or t) h, ap (drop 1) h)
        where
          head_or : Sign → List Sign → Sign
          head_or d [] = d
          head_or d (m ∷ ms) = m
      by (t ∷ ss) (suc k) h = by ss k h

  one_more : (k j : ℕ) → 0 < open_before (signs ts) k → Deep (suc k) j → Deep k j
  one_more k j o d = record {
    above = λ e l m. by e (nat_eq k e) refl l m;
    then_none = d.then_none;
    up = let u = d.up in omega (arith, u);
  }
    where
      by : (e : ℕ) (t : Bool) → nat_eq k e ≡ t → k ≤ e → e ≤ j → 0 < open_before (signs ts) e
      by e true q l m = subst (λ (i : ℕ). 0 < open_before (signs ts) i) (eqb-true k e q) o
      by e false q l m =
          let f : k ≡ e → ⊥ = λ g. absurd (let y = eq-eqb k e g in cc) in d.above e (omega (arith, l, f)) m

  deep_by : (us : List Sign) (b a : Bracket) (st : List Bracket) (k j : ℕ) → open_before (signs ts) k ≡ length (a ∷ st) → at (signs ts) k ≡ mark.Closes b
      → ((c : Bracket) (more : List Bracket) → open_before (signs ts) (suc k) ≡ length (c ∷ more) → closing_from (c ∷ more) (suc k) us ≡ Closed j → Deep (suc k) j)
      → closed_by b k (a ∷ st) (λ more. closing_from more (k + 1) us) ≡ Closed j → Deep k j
  deep_by us b a [] k j o s go h = by (same_bracket a b) h
    where
      by : (t : Bool) → (if t then Closed k else Wrong k) ≡ Closed j → Deep k j
      by true g =
          let q : k ≡ j = cc in
          let z : open_before (signs ts) (suc k) ≡ 0 = ap (λ m. open_after m (open_before (signs ts) k)) s ∙ (omega (arith, o)) in
          record {
            above = λ e l m. let x : k ≡ e = omega (arith, q, l, m) in subst (λ (i : ℕ). 0 < open_before (signs ts) i) x (omega (arith, o));
            then_none = ap (λ (i : ℕ). open_before (signs ts) (suc i)) (sym q) ∙ z;
            up = omega (arith, q);
          }
      by false g = absurd (cc)
  deep_by us b a (c ∷ st) k j o s go h = by (same_bracket a b) h
    where
      by : (t : Bool) → (if t then closing_from (c ∷ st) (k + 1) us else Wrong k) ≡ Closed j → Deep k j
      by true g =
          one_more k j (omega (arith, o))
          (go c st (ap (λ m. open_after m (open_before (signs ts) k)) s ∙ (omega (arith, o)))
          (ap (λ (i : ℕ). closing_from (c ∷ st) i us) (sym (plus_one k)) ∙ g))
      by false g = absurd (cc)

  deep : (us : List Sign) (a : Bracket) (st : List Bracket) (k j : ℕ) → drop k (signs ts) ≡ us → open_before (signs ts) k ≡ length (a ∷ st)
      → closing_from (a ∷ st) k us ≡ Closed j → Deep k j
  deep [] a st k j h o c = absurd (cc)
  deep (mark.Opens b ∷ us) a st k j h o c =
      let n = next_sign k (mark.Opens b) us h in
      one_more k j (omega (arith, o))
      (deep us b (a ∷ st) (suc k) j n.1 (ap (λ m. open_after m (open_before (signs ts) k)) n.0 ∙ ap suc o)
      (ap (λ (i : ℕ). closing_from (b ∷ a ∷ st) i us) (sym (plus_one k)) ∙ c))
  deep (mark.Closes b ∷ us) a st k j h o c =
      let n = next_sign k (mark.Closes b) us h in
      deep_by us b a st k j o n.0 (λ d more q g. deep us d more (suc k) j n.1 q g) c
  deep (s ∷ us) a st k j h o c =
      let n = next_sign k s us h in
      one_more k j (omega (arith, o))
      (deep us a st (suc k) j n.1 (ap (λ m. open_after m (open_before (signs ts) k)) n.0 ∙ o)
      (ap (λ (i : ℕ). closing_from (a ∷ st) i us) (sym (plus_one k)) ∙ c))

  -- of a bracket that opens where none is open
  pub deep_body : (k j : ℕ) → Stand ts end k (fixed LeftBrace) → open_before (signs ts) k ≡ 0 → closing (signs ts) k ≡ Closed j → Deep (suc k) j
  deep_body k j s o c =
      let m = stand_sign ts end k (fixed LeftBrace) s in
      deep (drop (suc k) (signs ts)) Curly [] (suc k) j refl (ap (λ y. open_after y (open_before (signs ts) k)) m ∙ ap suc o)
      (ap (λ (i : ℕ). closing_from (Curly ∷ []) i (drop (suc k) (signs ts))) (sym (plus_one k))
      ∙ sym (ap (closing_from [] k) (drop_sign ts end k (fixed LeftBrace) s ∙ ap (λ (y : Sign). y ∷ drop (suc k) (signs ts)) m)) ∙ c)
