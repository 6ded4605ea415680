-- What is written for a text, read from its first token on: the items and procedures that stand in the text before `main`, and `main`.
use Rattle.std.proofs.Common.{◌≡◌, ℕ, zero, suc, ◌+◌, ◌-◌, ◌<◌, ◌≤◌, Bool, true, false, ◌&&◌, ◌||◌, nat_eq, List, [], ◌∷◌, ◌++◌, length, map, cond, codes, refl, sym, ap, ◌∙◌, subst, arith}
use Rattle.std.specs.Prelude.{not, nat_le, if◌then◌else◌}
use Rattle.std.specs.List.{flat_map, list_all, list_any, filter}
use Rattle.std.proofs.lemmas.List.{map-append, append_assoc}
use Rattle.std.proofs.lemmas.Bool.{and_parts, eq-eqb, eqb-true, leb-true}
use Rattle.jade_base.specs.declared.place.Pos.{Pos}
use Rattle.jade_lexer.specs.Lexemes.{TokenAt}
use Rattle.jade_syntax.specs.declared.tree.Item.{Item}
use Rattle.jade_syntax.specs.declared.tree.Item.TheVariants.{Input, Single, Family}
use Rattle.jade_parser.specs.declared.Sign.TheVariants.{MainWord, LeftBrace, RightBrace, Semicolon, IfWord}
use Rattle.jade_parser.specs.declared.Sign.TheVariants.{InputWord, ObjectWord, ObjectsWord, Colon, LeftBracket, RightBracket}
use Rattle.jade_parser.specs.Spelled.{Token, Fixed, Called, Part, Parts, fixed, marked, number_part}
use Rattle.jade_parser.specs.Programs.{item_parts}
use Rattle.proc_expand.specs.declared.sign.Sign.TheVariants as mark
use Rattle.proc_expand.specs.declared.sign.End.TheVariants.{Closed, Never}
use Rattle.proc_expand.specs.declared.procedures.Procedure.{Procedure}
use Rattle.proc_expand.specs.Words.{signs, at, before, bytes_at, is_main, is_proc, ends_item, open_before, closing, those, one_if, some}
use Rattle.proc_expand.specs.Refusals.{begins, is_outer_main, procedure, head, body_end, is_call, call_end}
use Rattle.proc_expand.specs.Written.{MadeToken, Written, CallWriter, pos_at, from, closed_at, in_procedure, arguments, token_at, made_at, write_one, write_places}
use Rattle.proc_laws.specs.SourceTree.{HeadParam}
use Rattle.proc_laws.specs.SourceReading.{title_parts, free_part, ends_there}
use Rattle.proc_laws.proofs.Basics.{by_case, no_both}
use Rattle.proc_laws.proofs.SignsOfTokens.{token_sign}
use Rattle.proc_laws.proofs.PlacesInText.{after, after_is, after_both, Stand, Sound, Lies, Reads, lies_right, sign_at, stand_sign}
use Rattle.proc_laws.proofs.WrittenParts.{Keeps}
use Rattle.proc_laws.proofs.HeadsInText.{stop_of}
use Rattle.proc_laws.proofs.PiecesInText.{any_both, some_none, or_none, and_false, up, Open, opened, item_open, proc_open, where_is, reads_no_begin, no_begin, no_begin_deep}
use Rattle.proc_laws.proofs.Unrenaming.{Again}
use Rattle.proc_laws.proofs.TokensAhead.{Said, Says, token_is, anew, anew_part, after_anew, same_sign, reads_both, sound_at}
use Rattle.proc_laws.proofs.CallsRead.{writers, Sure, Facts, found, opening}
use Rattle.proc_laws.proofs.Begun.{newest, begun, begun_on, sure_at}
use Rattle.proc_laws.proofs.HeadsRead.{proc_is, TitleRead, head_read, body_lies}

-- ---- truth values and places

none_of_three : (a b c : Bool) → (a ≡ true → b ≡ true → c ≡ true → ⊥) → (a && (b && c)) ≡ false
none_of_three false b c f = refl
none_of_three true false c f = refl
none_of_three true true false f = refl
none_of_three true true true f = absurd (f refl refl refl)

or_last : (a : Bool) → (a || true) ≡ true
or_last true = refl
or_last false = refl

or_no : (a : Bool) → (a || false) ≡ a
or_no true = refl
or_no false = refl

some_one : (n : ℕ) (is : ℕ → Bool) (k : ℕ) → k < n → is k ≡ true → some n is ≡ true
some_one zero is k l h = absurd (omega (arith, l))
some_one (suc n) is k l h = by (nat_eq k n) refl (λ g. some_one n is k g h)
  where
    by : (t : Bool) → nat_eq k n ≡ t → (k < n → some n is ≡ true) → (some n is || is n) ≡ true
    by true q go = ap (λ t. some n is || t) (ap is (sym (eqb-true k n q)) ∙ h) ∙ or_last (some n is)
    by false q go =
        let f : k ≡ n → ⊥ = λ u. absurd (let y = eq-eqb k n u in cc) in
        ap (λ t. t || is n) (go (omega (arith, l, f)))

not_zero : (k : ℕ) → nat_eq (suc k) 0 ≡ false
not_zero k = by_case (nat_eq (suc k) 0) (λ e. absurd (let q = eqb-true (suc k) 0 e in omega (arith, q))) (λ e. e)

-- the keyword of `if`
abbrev no_if : Token → Bool
no_if (Fixed IfWord) = false
no_if t = true

-- no call is written so that it begins with this, and no item may stand after it
abbrev inner_part : Part → Bool
inner_part p = no_if p.token && not (ends_item (token_sign p.token))

no_if_is : (t : Token) → no_if t ≡ true → t ≡ Fixed IfWord → ⊥
no_if_is t h e = no_both (no_if t) h (ap no_if e)

not_is : (a : Bool) → not a ≡ true → a ≡ false
not_is true h = absurd (cc)
not_is false h = refl

-- ---- items: what stands before their `;`

abbrev item_init : Item → Parts
item_init (Input x p) = fixed InputWord ∷ marked (Called x) p ∷ []
item_init (Single x p size) = fixed ObjectWord ∷ marked (Called x) p ∷ fixed Colon ∷ number_part size ∷ []
item_init (Family x p count size) =
    fixed ObjectsWord ∷ marked (Called x) p ∷ fixed LeftBracket ∷ number_part count ∷ fixed RightBracket ∷ fixed Colon ∷ number_part size ∷ []

item_is : (i : Item) → item_parts i ≡ item_init i ++ fixed Semicolon ∷ []
item_is (Input x p) = refl
item_is (Single x p size) = refl
item_is (Family x p count size) = refl

item_inner : (i : Item) → list_all inner_part (item_init i) ≡ true
item_inner (Input x p) = refl
item_inner (Single x p size) = refl
item_inner (Family x p count size) = refl

item_some : (i : Item) (k : ℕ) → k < after k (item_parts i)
item_some (Input x p) k = omega arith
item_some (Single x p size) k = omega arith
item_some (Family x p count size) k = omega arith

item_again : (name : ℕ → List ℕ) (home : ℕ → Pos) (i : Item) (k : ℕ) → Again name home Item item_parts k (item_parts i)
item_again name home (Input x p) k = record { tree = Input (name (suc k)) (home (suc k)); is = refl }
item_again name home (Single x p size) k = record {
  tree = Single (name (suc k)) (home (suc k)) (record { value = size.value; pos = home (suc (suc (suc k))) });
  is = refl;
}
item_again name home (Family x p count size) k = record {
  tree = Family (name (suc k)) (home (suc k)) (record { value = count.value; pos = home (suc (suc (suc k))) })
      (record { value = size.value; pos = home (suc (suc (suc (suc (suc (suc k)))))) });
  is = refl;
}

-- something is left where `main` is still to come
not_none : (items : List Item) (b : Parts) → Says [] (flat_map item_parts items ++ fixed MainWord ∷ b) → ⊥
not_none [] b s = s
not_none (Input x p ∷ items) b s = s
not_none (Single x p size ∷ items) b s = s
not_none (Family x p count size ∷ items) b s = s

module _ (ts : List TokenAt) (end : Pos) where
  -- ---- which places lie in procedures

  in_before : (n j : ℕ) → list_any (λ (p : Procedure). nat_le p.place j && nat_le j (closed_at ts end p.end)) (map (procedure (signs ts)) (those n (begins (signs ts))))
      ≡ some n (λ p. begins (signs ts) p && (nat_le p j && nat_le j (closed_at ts end (body_end (signs ts) p))))
  in_before zero j = refl
  in_before (suc n) j =
      ap (list_any (λ (p : Procedure). nat_le p.place j && nat_le j (closed_at ts end p.end)))
      (map-append (procedure (signs ts)) (those n (begins (signs ts))) (one_if (begins (signs ts) n) n))
      ∙ any_both (λ (p : Procedure). nat_le p.place j && nat_le j (closed_at ts end p.end)) (map (procedure (signs ts)) (those n (begins (signs ts))))
      (map (procedure (signs ts)) (one_if (begins (signs ts) n) n))
      ∙ (λ i. in_before n j i || last n j (begins (signs ts) n) i)
    where
      last : (n j : ℕ) (t : Bool) → list_any (λ (p : Procedure). nat_le p.place j && nat_le j (closed_at ts end p.end)) (map (procedure (signs ts)) (one_if t n))
          ≡ (t && (nat_le n j && nat_le j (closed_at ts end (body_end (signs ts) n))))
      last n j true = or_no (nat_le n j && nat_le j (closed_at ts end (body_end (signs ts) n)))
      last n j false = refl

  -- the procedures that begin before a place end before it
  pub record Past (k : ℕ) : Type 0 where
    pub ends : (p : ℕ) → p < k → begins (signs ts) p ≡ true → closed_at ts end (body_end (signs ts) p) < k

  past_on : (k j : ℕ) → Past k → k ≤ j → ((i : ℕ) → k ≤ i → i < j → begins (signs ts) i ≡ false) → Past j
  past_on k j past l h = record { ends = λ p m b. by p m b (nat_le k p) refl }
    where
      by : (p : ℕ) → p < j → begins (signs ts) p ≡ true → (t : Bool) → nat_le k p ≡ t → closed_at ts end (body_end (signs ts) p) < j
      by p m b true q = no_both (begins (signs ts) p) b (h p (leb-true k p q) m)
      by p m b false q =
          let f : k ≤ p → ⊥ = λ u. absurd (let v = up k p u in cc) in
          let e = past.ends p (omega (arith, f)) b in omega (arith, e, l)

  out : (k : ℕ) → Past k → begins (signs ts) k ≡ false → in_procedure ts end k ≡ false
  out k past h =
      in_before (length ts) k
      ∙ some_none (length ts) (λ p. begins (signs ts) p && (nat_le p k && nat_le k (closed_at ts end (body_end (signs ts) p)))) (λ p l.
      none_of_three (begins (signs ts) p) (nat_le p k) (nat_le k (closed_at ts end (body_end (signs ts) p))) (λ b c d. absurd (no p b (leb-true p k c)
      (leb-true k (closed_at ts end (body_end (signs ts) p)) d) (nat_eq p k) refl)))
    where
      no : (p : ℕ) → begins (signs ts) p ≡ true → p ≤ k → k ≤ closed_at ts end (body_end (signs ts) p) → (t : Bool) → nat_eq p k ≡ t → ⊥
      no p b c d true q = no_both (begins (signs ts) p) b (ap (begins (signs ts)) (eqb-true p k q) ∙ h)
      no p b c d false q =
          let f : p ≡ k → ⊥ = λ u. absurd (let y = eq-eqb p k u in cc) in
          let e = past.ends p (omega (arith, c, f)) b in absurd (omega (arith, d, e))

  within : (p j : ℕ) → p < length ts → begins (signs ts) p ≡ true → p ≤ j → j ≤ closed_at ts end (body_end (signs ts) p) → in_procedure ts end j ≡ true
  within p j l b c d =
      in_before (length ts) j
      ∙ some_one (length ts) (λ q. begins (signs ts) q && (nat_le q j && nat_le j (closed_at ts end (body_end (signs ts) q)))) p l
      (λ i. b i && (up p j c i && up j (closed_at ts end (body_end (signs ts) p)) d i))

  -- the places of m from k on that lie in no procedure
  abbrev pub outside : (k m : ℕ) → List ℕ
  outside k m = filter (λ j. not (in_procedure ts end j)) (from ts end k m)

  outside_one : (k m : ℕ) → in_procedure ts end k ≡ false → outside k (suc m) ≡ k ∷ outside (suc k) m
  outside_one k m h = ap (λ t. cond (not t) (k ∷ outside (suc k) m) (outside (suc k) m)) h

  outside_all : (m k : ℕ) → ((j : ℕ) → k ≤ j → in_procedure ts end j ≡ false) → outside k m ≡ from ts end k m
  outside_all zero k h = refl
  outside_all (suc m) k h =
      outside_one k m (h k (omega arith)) ∙ ap (λ (l : List ℕ). k ∷ l) (outside_all m (suc k) (λ j l. h j (omega (arith, l))))

  outside_none : (n m k : ℕ) → ((j : ℕ) → k ≤ j → j < k + n → in_procedure ts end j ≡ true) → outside k (n + m) ≡ outside (k + n) m
  outside_none zero m k h = let e : k ≡ k + 0 = omega arith in let f : 0 + m ≡ m = omega arith in ap (outside k) f ∙ ap (λ (i : ℕ). outside i m) e
  outside_none (suc n) m k h =
      let f : suc n + m ≡ suc (n + m) = omega arith in let e : suc k + n ≡ k + suc n = omega arith in
      ap (outside k) f
      ∙ ap (λ t. cond (not t) (k ∷ outside (suc k) (n + m)) (outside (suc k) (n + m))) (h k (omega arith) (omega arith))
      ∙ outside_none n m (suc k) (λ j l u. h j (omega (arith, l)) (omega (arith, u))) ∙ ap (λ (i : ℕ). outside i m) e

  no_begin_next : (k : ℕ) → ends_item (at (signs ts) k) ≡ false → begins (signs ts) (suc k) ≡ false
  no_begin_next k h =
      ap (λ t. nat_eq (open_before (signs ts) (suc k)) 0 && not (some (suc k) (is_outer_main (signs ts))) && (is_proc (at (signs ts) (suc k)) && t))
      (or_none (nat_eq (suc k) 0) (ends_item (before (signs ts) (suc k))) (not_zero k) h)
      ∙ ap (λ t. nat_eq (open_before (signs ts) (suc k)) 0 && not (some (suc k) (is_outer_main (signs ts))) && t) (and_false (is_proc (at (signs ts) (suc k))))
      ∙ and_false (nat_eq (open_before (signs ts) (suc k)) 0 && not (some (suc k) (is_outer_main (signs ts))))

  -- ---- procedures

  abbrev pub stop_at : ℕ → List HeadParam → ℕ
  stop_at k params = stop_of ts end k (bytes_at ts (suc k)) (pos_at ts end ts (suc k)) params

  abbrev pub last_at : ℕ → List HeadParam → List (List ℕ) → ℕ
  last_at k params body = after (suc (stop_at k params)) (map free_part body)

  -- a procedure stands at a place, with this body
  pub record ProcHere (k : ℕ) : Type 0 where
    pub params : List HeadParam
    pub many : length params ≡ (head (signs ts) k).params
    pub word : Stand ts end k (free_part (codes "proc"))
    pub title : Reads ts end (suc k) (title_parts (bytes_at ts (suc k)) (pos_at ts end ts (suc k)) params)
    pub stop : stop_at k params ≡ (head (signs ts) k).stop
    pub brace : Sound ts end (stop_at k params) (fixed LeftBrace)
    pub body : List (List ℕ)
    pub lies : Lies ts end (stop_at k params) (fixed LeftBrace ∷ (map free_part body ++ fixed RightBrace ∷ []))
    pub there : ends_there body ≡ true
    pub closes : closing (signs ts) (stop_at k params) ≡ Closed (last_at k params body)
    pub closed : body_end (signs ts) k ≡ Closed (last_at k params body)

  begins_proc : (a b c d : Bool) → (a && b && (c && d)) ≡ true → c ≡ true
  begins_proc true true true d h = refl
  begins_proc true true false d h = absurd (cc)
  begins_proc true false c d h = absurd (cc)
  begins_proc false b c d h = absurd (cc)

  proc_here : (k : ℕ) (ps : List ℕ) → k < length ts → begins (signs ts) k ≡ true → Sure ts end ps k → ProcHere k
  proc_here k ps l b s = by (head_read ts end k s.fits)
    where
      by : TitleRead ts end (suc k) (head (signs ts) k) → ProcHere k
      by t =
          let brace : Sound ts end (stop_at k t.params) (fixed LeftBrace) = subst (λ (i : ℕ). Sound ts end i (fixed LeftBrace)) (sym t.ends) t.brace in
          let closes : closing (signs ts) (stop_at k t.params) ≡ Closed s.last = ap (closing (signs ts)) t.ends ∙ s.closed in
          let d = body_lies ts end (stop_at k t.params) s.last brace closes in
          record {
            params = t.params;
            many = t.many;
            word = record {
              below = l;
              bytes = proc_is (bytes_at ts k) (ap is_proc (sym (stand_sign ts end k (free_part (bytes_at ts k)) (record { below = l; bytes = refl; kept = tt; short = refl })))
                  ∙ begins_proc (nat_eq (open_before (signs ts) k) 0) (not (some k (is_outer_main (signs ts)))) (is_proc (at (signs ts) k))
                  (nat_eq k 0 || ends_item (before (signs ts) k)) b);
              kept = tt;
              short = refl;
            };
            title = t.reads;
            stop = t.ends;
            brace = brace;
            body = d.body;
            lies = d.lies;
            there = d.there;
            closes = closes ∙ ap Closed (sym d.ends);
            closed = ap (λ (f : Bool). if f then closing (signs ts) (head (signs ts) k).stop else Never) s.fits ∙ s.closed ∙ ap Closed (sym d.ends);
          }

  -- what stands in a text before a place: items, and procedures that begin at these places, the newest first
  pub data Track : ℕ → List ℕ → Type 0 where
    at_start : Track 0 []
    on_item : (k : ℕ) (ps : List ℕ) → Track k ps → (i : Item) → Reads ts end k (item_parts i) → Track (after k (item_parts i)) ps
    on_proc : (k : ℕ) (ps : List ℕ) → Track k ps → (h : ProcHere k) → Track (suc (last_at k h.params h.body)) (k ∷ ps)

  -- after a procedure
  record ProcDone (k : ℕ) (h : ProcHere k) : Type 0 where
    below : last_at k h.params h.body < length ts
    above : k < last_at k h.params h.body
    clear : Open ts end (suc (last_at k h.params h.body))
    quiet : (j : ℕ) → suc k ≤ j → j < suc (last_at k h.params h.body) → begins (signs ts) j ≡ false

  proc_done : (k : ℕ) → Open ts end k → (h : ProcHere k) → ProcDone k h
  proc_done k o h =
      let x = bytes_at ts (suc k) in let p = pos_at ts end ts (suc k) in
      let body : Parts = map free_part h.body in
      let close = lies_right ts end (suc (stop_at k h.params)) body (fixed RightBrace ∷ []) h.lies.1 in
      let a = after_is (suc k) (title_parts x p h.params) in let b = after_is (suc (stop_at k h.params)) body in
      record {
        below = close.0.below;
        above = omega (arith, a, b);
        clear = proc_open ts end k x p h.params body o h.word h.title h.brace.stand close.0 h.closes;
        quiet = where_is ts end k x p h.params body o h.word h.title h.brace.stand close.0 h.closes (λ (i : ℕ). begins (signs ts) i ≡ false)
            (reads_no_begin ts end (suc k) (title_parts x p h.params) h.title)
            (no_begin ts end (stop_at k h.params) (ap is_proc (stand_sign ts end (stop_at k h.params) (fixed LeftBrace) h.brace.stand)))
            (no_begin_deep ts end);
      }

  keeps_all : Keeps (λ x. x)
  keeps_all = record { name = λ x h l. h; word = λ x h. h }

  module _ (facts : Facts ts end (begun (signs ts) (length ts)) (length ts)) where
    abbrev writer : CallWriter ts end
    writer = writers ts end (begun (signs ts) (length ts))

    -- what is written for m places from k on, without those in procedures, where no call is written before
    abbrev pub written : (k m : ℕ) → List MadeToken
    written k m = (write_places ts end writer (λ x. x) 0 (outside k m) 0).tokens

    -- ---- one token

    record Stepped (k m : ℕ) (p : Part) (b : Parts) : Type 0 where
      togo : ℕ
      counts : m ≡ suc togo
      sound : Sound ts end k (anew_part ts end k p)
      sign : at (signs ts) k ≡ token_sign p.token
      rest : Says (written (suc k) togo) b

    step : (k m : ℕ) (p : Part) (b : Parts) → k + m ≡ length ts → in_procedure ts end k ≡ false → (p.token ≡ Fixed IfWord → ⊥)
        → Says (written k m) (p ∷ b) → Stepped k m p b
    step k zero p b f o i s = absurd s
    step k (suc m) p b f o i s =
        by_case (is_call (signs ts) k) (λ c. absurd (i (opened c))) (λ c.
        let g : Says (token_at ts end (λ x. x) k ∷ written (suc k) m) (p ∷ b) = subst (λ t. Says (one t).tokens (p ∷ b)) c here in
        let r = sound_at ts end (λ x. x) keeps_all k p.token p.at p.nth (omega (arith, f)) c g.0 in
        record {
          togo = m;
          counts = refl;
          sound = r;
          sign = sign_at ts end k (anew_part ts end k p) r ∙ same_sign ts end k p.token;
          rest = g.1;
        })
      where
        one : Bool → Written
        one t = write_one ts end t writer (λ x. x) k 0
            (λ i. write_places ts end writer (λ x. x) (suc (closed_at ts end (call_end (signs ts) k) - k)) (outside (suc k) m) i)
            (write_places ts end writer (λ x. x) zero (outside (suc k) m))

        here : Says (one (is_call (signs ts) k)).tokens (p ∷ b)
        here = subst (λ (l : List ℕ). Says (write_places ts end writer (λ x. x) 0 l 0).tokens (p ∷ b)) (outside_one k m o) s

        opened : is_call (signs ts) k ≡ true → p.token ≡ Fixed IfWord
        opened c =
            let args = map (λ ps. map (token_at ts end (λ x. x)) ps) (arguments ts end k) in
            let u = opening ts end (begun (signs ts) (length ts)) k
            (found ts end (begun (signs ts) (length ts)) k facts.chain (facts.calls k (omega (arith, f)) c)) args 0 in
            let more = write_places ts end writer (λ x. x) (suc (closed_at ts end (call_end (signs ts) k) - k)) (outside (suc k) m) (writer k args 0).next in
            let g : Says ((writer k args 0).tokens ++ more.tokens) (p ∷ b) = subst (λ t. Says (one t).tokens (p ∷ b)) c here in
            let q : Said (made_at ts end k (codes "if")) p = (subst (λ (us : List MadeToken). Says (us ++ more.tokens) (p ∷ b)) u.is g).0 in
            sym (token_is p.token (codes "if") q.valid q.bytes)

    -- ---- items

    record Ran (k : ℕ) (ps b : Parts) : Type 0 where
      reads : Reads ts end k (anew ts end k ps)
      togo : ℕ
      counts : after k ps + togo ≡ length ts
      rest : Says (written (after k ps) togo) b
      quiet : (j : ℕ) → k ≤ j → j < suc (after k ps) → begins (signs ts) j ≡ false

    one_or : (k j : ℕ) (Q : ℕ → Type 0) → k ≤ j → Q k → (suc k ≤ j → Q j) → Q j
    one_or k j Q l h g = by (nat_eq k j) refl
      where
        by : (t : Bool) → nat_eq k j ≡ t → Q j
        by true q = subst Q (eqb-true k j q) h
        by false q = let f : k ≡ j → ⊥ = λ e. absurd (let y = eq-eqb k j e in cc) in g (omega (arith, l, f))

    run : (k m : ℕ) (ps b : Parts) → k + m ≡ length ts → Past k → begins (signs ts) k ≡ false → list_all inner_part ps ≡ true
        → Says (written k m) (ps ++ b) → Ran k ps b
    run k m [] b f past h i s = record {
      reads = tt;
      togo = m;
      counts = f;
      rest = s;
      quiet = λ j l u. let e : k ≡ j = omega (arith, l, u) in ap (begins (signs ts)) (sym e) ∙ h;
    }
    run k m (p ∷ ps) b f past h i s =
        let g = and_parts (inner_part p) (list_all inner_part ps) i in
        let w = and_parts (no_if p.token) (not (ends_item (token_sign p.token))) g.0 in
        let o = step k m p (ps ++ b) f (out k past h) (no_if_is p.token w.0) s in
        let n = no_begin_next k (ap ends_item o.sign ∙ not_is (ends_item (token_sign p.token)) w.1) in
        let c = o.counts in
        let r = run (suc k) o.togo ps b (omega (arith, f, c)) (past_on k (suc k) past (omega arith) (λ j l u.
        let e : k ≡ j = omega (arith, l, u) in ap (begins (signs ts)) (sym e) ∙ h)) n g.1 o.rest in
        record {
          reads = (o.sound, r.reads);
          togo = r.togo;
          counts = r.counts;
          rest = r.rest;
          quiet = λ j l u. one_or k j (λ (e : ℕ). begins (signs ts) e ≡ false) l h (λ q. r.quiet j q u);
        }

    record ItemRead (k : ℕ) (b : Parts) : Type 0 where
      item : Item
      reads : Reads ts end k (item_parts item)
      togo : ℕ
      counts : after k (item_parts item) + togo ≡ length ts
      rest : Says (written (after k (item_parts item)) togo) b
      quiet : (j : ℕ) → k ≤ j → j < after k (item_parts item) → begins (signs ts) j ≡ false

    item_read : (k m : ℕ) (i : Item) (b : Parts) → k + m ≡ length ts → Past k → begins (signs ts) k ≡ false → Says (written k m) (item_parts i ++ b)
        → ItemRead k b
    item_read k m i b f past h s =
        let a : Parts = item_init i in
        let r = run k m a (fixed Semicolon ∷ b) f past h (item_inner i)
        (subst (Says (written k m)) (ap (λ (l : Parts). l ++ b) (item_is i) ∙ append_assoc a (fixed Semicolon ∷ []) b) s) in
        let n : ℕ = after k a in
        let l = after_is k a in
        let o = step n r.togo (fixed Semicolon) b r.counts
        (out n (past_on k n past (omega (arith, l)) (λ j u v. r.quiet j u (omega (arith, v)))) (r.quiet n (omega (arith, l)) (omega arith)))
        (λ q. absurd (cc)) r.rest in
        let g = item_again (bytes_at ts) (pos_at ts end ts) i k in
        let e : after k (item_parts g.tree) ≡ suc n = ap (after k) g.is ∙ after_anew ts end k k (item_parts i) ∙ ap (after k) (item_is i) ∙ after_both k a (fixed Semicolon ∷ []) in
        let c = r.counts in let d = o.counts in
        record {
          item = g.tree;
          reads = subst (Reads ts end k) (sym g.is) (subst (λ (l : Parts). Reads ts end k (anew ts end k l)) (sym (item_is i))
              (subst (Reads ts end k) (sym (anew_both k a (fixed Semicolon ∷ []))) (reads_both ts end k (anew ts end k a) (fixed Semicolon ∷ []) r.reads
              (subst (λ (j : ℕ). Reads ts end j (fixed Semicolon ∷ [])) (sym (after_anew ts end k k a)) (o.sound, tt)))));
          togo = o.togo;
          counts = omega (arith, e, c, d);
          rest = subst (λ (j : ℕ). Says (written j o.togo) b) (sym e) o.rest;
          quiet = λ j u v. r.quiet j u (omega (arith, v, e));
        }
      where
        anew_both : (k : ℕ) (a b : Parts) → anew ts end k (a ++ b) ≡ anew ts end k a ++ anew ts end (after k a) b
        anew_both k [] b = refl
        anew_both k (p ∷ a) b = ap (λ (l : Parts). anew_part ts end k p ∷ l) (anew_both (suc k) a b)

    -- ---- all that stands before `main`, and `main`

    pub record Reached (b : Parts) : Type 0 where
      pub place : ℕ
      pub track : Track place (begun (signs ts) (length ts))
      pub togo : ℕ
      pub counts : suc place + togo ≡ length ts
      pub word : Sound ts end place (fixed MainWord)
      pub rest : Says (write_places ts end writer (λ x. x) 0 (from ts end (suc place) togo) 0).tokens b

    main_reached : (k m : ℕ) (b : Parts) → k + m ≡ length ts → Open ts end k → Past k → begins (signs ts) k ≡ false → Track k (begun (signs ts) k)
        → Says (written k m) (fixed MainWord ∷ b) → Reached b
    main_reached k m b f o past h t s =
        let r = step k m (fixed MainWord) b f (out k past h) (λ q. absurd (cc)) s in
        let c = r.counts in
        let quiet : (j : ℕ) → k ≤ j → begins (signs ts) j ≡ false =
        λ j l. one_or k j (λ (e : ℕ). begins (signs ts) e ≡ false) l h (λ u. no_more k j r.sign o.depth u) in
        record {
          place = k;
          track = subst (Track k) (sym (begun_on (signs ts) k m (λ j l u. quiet j l)) ∙ ap (begun (signs ts)) f) t;
          togo = r.togo;
          counts = omega (arith, f, c);
          word = r.sound;
          rest = subst (λ (l : List ℕ). Says (write_places ts end writer (λ x. x) 0 l 0).tokens b)
              (outside_all r.togo (suc k) (λ j l. out j (past_on k j past (omega (arith, l)) (λ i u v. quiet i u)) (quiet j (omega (arith, l))))) r.rest;
        }
      where
        no_more : (k j : ℕ) → at (signs ts) k ≡ mark.Main → open_before (signs ts) k ≡ 0 → suc k ≤ j → begins (signs ts) j ≡ false
        no_more k j s d l =
            ap (λ t. nat_eq (open_before (signs ts) j) 0 && not t && (is_proc (at (signs ts) j) && (nat_eq j 0 || ends_item (before (signs ts) j))))
            (some_one j (is_outer_main (signs ts)) k (omega (arith, l)) (λ i. is_main (s i) && nat_eq (d i) 0))
            ∙ ap (λ t. t && (is_proc (at (signs ts) j) && (nat_eq j 0 || ends_item (before (signs ts) j)))) (and_false (nat_eq (open_before (signs ts) j) 0))

    -- past a procedure
    record Onward (m : ℕ) (ps : Parts) : Type 0 where
      place : ℕ
      togo : ℕ
      less : togo < m
      counts : place + togo ≡ length ts
      clear : Open ts end place
      past : Past place
      track : Track place (begun (signs ts) place)
      rest : Says (written place togo) ps

    past_proc : (k last : ℕ) → Past k → closed_at ts end (body_end (signs ts) k) ≡ last → k < last
        → ((j : ℕ) → suc k ≤ j → j < suc last → begins (signs ts) j ≡ false) → Past (suc last)
    past_proc k last past e a quiet = record { ends = λ p l b. by p l b (nat_le k p) refl }
      where
        by : (p : ℕ) → p < suc last → begins (signs ts) p ≡ true → (t : Bool) → nat_le k p ≡ t → closed_at ts end (body_end (signs ts) p) < suc last
        by p l b true q =
            one_or k p (λ (i : ℕ). closed_at ts end (body_end (signs ts) i) < suc last) (leb-true k p q) (omega (arith, e))
            (λ u. no_both (begins (signs ts) p) b (quiet p u l))
        by p l b false q =
            let f : k ≤ p → ⊥ = λ u. absurd (let v = up k p u in cc) in
            let z = past.ends p (omega (arith, f)) b in omega (arith, z, a)

    onward : (k m : ℕ) (ps : Parts) → k + m ≡ length ts → 0 < m → Open ts end k → Past k → Track k (begun (signs ts) k) → begins (signs ts) k ≡ true
        → Says (written k m) ps → Onward m ps
    onward k m ps f z o past t c s =
        let h = proc_here k (begun (signs ts) k) (omega (arith, f, z)) c (sure_at ts end (length ts) k facts.chain (omega (arith, f, z)) c) in
        let d = proc_done k o h in
        let last : ℕ = last_at k h.params h.body in
        let below = d.below in let above = d.above in
        let e : (suc last - k) + (length ts - suc last) ≡ m = omega (arith, f, below, above) in
        let g : k + (suc last - k) ≡ suc last = omega (arith, above) in
        let n : suc k + (last - k) ≡ suc last = omega (arith, above) in
        let ends : closed_at ts end (body_end (signs ts) k) ≡ last = ap (closed_at ts end) h.closed in
        record {
          place = suc last;
          togo = length ts - suc last;
          less = omega (arith, f, below, above);
          counts = omega (arith, below);
          clear = d.clear;
          past = past_proc k last past ends above d.quiet;
          track = subst (Track (suc last)) (sym (ap (begun (signs ts)) (sym n)
              ∙ begun_on (signs ts) (suc k) (last - k) (λ j l v. d.quiet j l (omega (arith, v, n)))
              ∙ ap (λ b. newest b k (begun (signs ts) k)) c)) (on_proc k (begun (signs ts) k) t h);
          rest = subst (λ (l : List ℕ). Says (write_places ts end writer (λ x. x) 0 l 0).tokens ps)
              (ap (outside k) (sym e)
              ∙ outside_none (suc last - k) (length ts - suc last) k (λ j l v. within k j (omega (arith, f, z)) c l (omega (arith, v, g, ends)))
              ∙ ap (λ (i : ℕ). outside i (length ts - suc last)) g) s;
        }

    some_left : (k m : ℕ) (items : List Item) (b : Parts) → Says (written k m) (flat_map item_parts items ++ fixed MainWord ∷ b) → 0 < m
    some_left k zero items b s = absurd (not_none items b s)
    some_left k (suc m) items b s = omega arith

    pub walk : (fuel k m : ℕ) (items : List Item) (b : Parts) → m ≤ fuel → k + m ≡ length ts → Open ts end k → Past k → Track k (begun (signs ts) k)
        → Says (written k m) (flat_map item_parts items ++ fixed MainWord ∷ b) → Reached b
    walk zero k m items b u f o past t s = absurd (let l = some_left k m items b s in omega (arith, u, l))
    walk (suc fuel) k m [] b u f o past t s =
        let l = some_left k m [] b s in
        by_case (begins (signs ts) k)
        (λ c.
        let r = onward k m (fixed MainWord ∷ b) f l o past t c s in
        let q = r.less in
        walk fuel r.place r.togo [] b (omega (arith, u, q)) r.counts r.clear r.past r.track r.rest)
        (λ c. main_reached k m b f o past c t s)
    walk (suc fuel) k m (i ∷ items) b u f o past t s =
        let l = some_left k m (i ∷ items) b s in
        by_case (begins (signs ts) k)
        (λ c.
        let r = onward k m (flat_map item_parts (i ∷ items) ++ fixed MainWord ∷ b) f l o past t c s in
        let q = r.less in
        walk fuel r.place r.togo (i ∷ items) b (omega (arith, u, q)) r.counts r.clear r.past r.track r.rest)
        (λ c.
        let r = item_read k m i (flat_map item_parts items ++ fixed MainWord ∷ b) f past c
        (subst (Says (written k m)) (append_assoc (item_parts i) (flat_map item_parts items) (fixed MainWord ∷ b)) s) in
        let n : ℕ = after k (item_parts r.item) in
        let a = item_some r.item k in let d = r.counts in
        let e : k + (n - k) ≡ n = omega (arith, a) in
        walk fuel n r.togo items b (omega (arith, u, f, a, d)) r.counts (item_open ts end r.item k o r.reads)
        (past_on k n past (omega (arith, a)) r.quiet)
        (subst (Track n) (sym (ap (begun (signs ts)) (sym e) ∙ begun_on (signs ts) k (n - k) (λ j p v. r.quiet j p (omega (arith, v, e)))))
        (on_item k (begun (signs ts) k) t r.item r.reads))
        r.rest)

    -- the whole of what is written
    pub text_reached : (items : List Item) (b : Parts) → Says (written 0 (length ts)) (flat_map item_parts items ++ fixed MainWord ∷ b) → Reached b
    text_reached items b s =
        walk (length ts) 0 (length ts) items b (omega arith) (omega arith) (opened ts end) (record { ends = λ p l c. absurd (omega (arith, l)) }) at_start s
