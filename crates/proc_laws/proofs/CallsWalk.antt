-- A statement that spells what is written for a call gives the call that stands in the text, and what its procedure's body reads as.
use Rattle.std.proofs.Common.{◌≡◌, ℕ, zero, suc, ◌+◌, ◌-◌, ◌*◌, ◌<◌, ◌≤◌, Bool, true, false, nat_eq, List, [], ◌∷◌, ◌++◌, Option, Some, None, length, map, drop, codes, refl, sym, ap, ◌∙◌, subst, arith}
use Rattle.std.specs.Prelude.{if◌then◌else◌}
use Rattle.std.specs.List.{flat_map}
use Rattle.std.proofs.lemmas.List.{append_assoc, append-nil, length-map}
use Rattle.jade_base.specs.declared.place.Pos.{Pos}
use Rattle.jade_lexer.specs.Lexemes.{TokenAt}
use Rattle.jade_syntax.specs.declared.tree.Statement.{Statement}
use Rattle.jade_syntax.specs.Abstract.{Name}
use Rattle.jade_parser.specs.declared.Sign.TheVariants.{RightBrace, IfWord, ElseWord}
use Rattle.jade_parser.specs.Spelled.{Parts, fixed, outer}
use Rattle.jade_parser.specs.Statements.{braced, else_parts, statement_parts}
use Rattle.proc_expand.specs.declared.sign.Bracket.{Bracket}
use Rattle.proc_expand.specs.declared.sign.Bracket.TheVariants.{Round, Curly}
use Rattle.proc_expand.specs.declared.sign.Sign.{Sign}
use Rattle.proc_expand.specs.declared.sign.Sign.TheVariants as mark
use Rattle.proc_expand.specs.declared.sign.End.TheVariants.{Closed, Never}
use Rattle.proc_expand.specs.Words.{sign_of, signs, at, before, bytes_at, is_called, ends_statement, closing, closing_from, is_after}
use Rattle.proc_expand.specs.Refusals.{head, head_from, params_of, params_from, after_params, body_end, procedure, param_place, is_call, call_end, commas, count}
use Rattle.proc_expand.specs.Written.{MadeToken, Written, CallWriter, pos_at, from, closed_at, spans, arguments, token_at, made_at, given_at, write_one, write_places, write_call, replaced_at, replaced_by, param_places, body_places}
use Rattle.proc_expand.proofs.WholeHeads.{nth_drop}
use Rattle.proc_laws.specs.SourceTree as source
use Rattle.proc_laws.specs.SourceTree.{Spokens}
use Rattle.proc_laws.specs.SourceReading.{block_of}
use Rattle.proc_laws.proofs.PlacesInText.{after, plus_one, Reads, sign_at, signs_from}
use Rattle.proc_laws.proofs.LevelParts.{even_spokens}
use Rattle.proc_laws.proofs.WrittenParts.{Keeps}
use Rattle.proc_laws.proofs.WrittenCalls.{keeps_replaced}
use Rattle.proc_laws.proofs.TokensAhead.{Says, token_is, closing_low, Context, ahead, first_went, Nest, whole, inside, nest_on}
use Rattle.proc_laws.proofs.Walking.{all_told, WalkedTo, AllWalk, run, statements, block, Calling, all_statements_walk}
use Rattle.proc_laws.proofs.CallsRead.{call_block, writers, Here, told, Sure, Chain, CallSound, Facts, found, opening}
use Rattle.proc_laws.proofs.ArgumentsRead.{AllNoEnd, no_end, closed_among, Listed, AfterKinds, given_all}
use Rattle.proc_laws.proofs.CallsStand.{never, name_here, open_signs, open_closed, commas_listed, CallRead, call_read}

-- ---- the kinds of parameters

no_params : (us : List Sign) (k : ℕ) → (after_params k us).params ≡ 0
no_params (mark.Opens Curly ∷ us) k = refl
no_params us k = refl

no_kind : {A : Type 0} (us : List Sign) (k i : ℕ) → i < (after_params k us).params → A
no_kind us k i l = let e = no_params us k in absurd (omega (arith, l, e))

kinds_from : (us : List Sign) (k i : ℕ) → (params_from k us).fits ≡ true → i < (params_from k us).params → at us (3 * i) ≡ mark.Kind
kinds_from (mark.Kind ∷ mark.Called ∷ mark.Comma ∷ us) k zero f l = refl
kinds_from (mark.Kind ∷ mark.Called ∷ mark.Comma ∷ us) k (suc i) f l =
    let e : 3 * suc i ≡ suc (suc (suc (3 * i))) = omega arith in
    ap (at (mark.Kind ∷ mark.Called ∷ mark.Comma ∷ us)) e ∙ kinds_from us (k + 3) i f (omega (arith, l))
kinds_from (mark.Kind ∷ mark.Called ∷ mark.Closes Round ∷ us) k zero f l = refl
kinds_from (mark.Kind ∷ mark.Called ∷ mark.Closes Round ∷ us) k (suc i) f l = no_kind us (k + 3) i (omega (arith, l))
kinds_from us k i f l = absurd (cc)

kinds_of : (us : List Sign) (k i : ℕ) → (params_of k us).fits ≡ true → i < (params_of k us).params → at us (3 * i) ≡ mark.Kind
kinds_of (mark.Closes Round ∷ us) k i f l = no_kind us (k + 1) i l
kinds_of us k i f l = kinds_from us k i f l

-- of a head that fits the kind of each parameter stands there
kinds_head : (us : List Sign) (k i : ℕ) → (head_from k us).fits ≡ true → i < (head_from k us).params → at us (2 + 3 * i) ≡ mark.Kind
kinds_head (mark.Called ∷ mark.Opens Round ∷ us) k i f l =
    let e : 2 + 3 * i ≡ suc (suc (3 * i)) = omega arith in
    ap (at (mark.Called ∷ mark.Opens Round ∷ us)) e ∙ kinds_of us (k + 2) i f l
kinds_head us k i f l = absurd (cc)

pub upto : (n : ℕ) → n ≤ n
upto n = omega arith

pub called_is : (s : Sign) → is_called s ≡ true → s ≡ mark.Called
called_is mark.Called h = refl
called_is s h = absurd (cc)

-- the sign at a place is that of the bytes there
pub sign_always : (us : List TokenAt) (k : ℕ) → at (signs us) k ≡ sign_of (bytes_at us k)
sign_always [] k = refl
sign_always (t ∷ us) zero = refl
sign_always (t ∷ us) (suc k) = sign_always us k

-- what stands at a place, and what after it
pub sign_here : (ss : List Sign) (k : ℕ) (s : Sign) → at ss k ≡ s → (s ≡ mark.Other → ⊥) → drop k ss ≡ s ∷ drop (suc k) ss
sign_here [] k s h n = absurd (n (sym h))
sign_here (t ∷ ss) zero s h n = ap (λ (u : Sign). u ∷ ss) h
sign_here (t ∷ ss) (suc k) s h n = sign_here ss k s h n

module _ (ts : List TokenAt) (end : Pos) where
  -- ---- the parameters of a procedure whose head fits

  after_kinds : (p i n m : ℕ) → i + n ≤ m → ((j : ℕ) → j < m → sign_of (bytes_at ts (param_place p j - 1)) ≡ mark.Kind)
      → AfterKinds ts end (map (param_place p) (from ts end i n))
  after_kinds p i zero m l f = tt
  after_kinds p i (suc n) m l f = (f i (omega (arith, l)), after_kinds p (suc i) n m (omega (arith, l)) f)

  kind_there : (p : ℕ) → (head (signs ts) p).fits ≡ true → (j : ℕ) → j < (head (signs ts) p).params
      → sign_of (bytes_at ts (param_place p j - 1)) ≡ mark.Kind
  kind_there p f j l =
      let e : param_place p j - 1 ≡ p + 1 + (2 + 3 * j) = omega arith in
      ap (λ (i : ℕ). sign_of (bytes_at ts i)) e ∙ sym (sign_always ts (p + 1 + (2 + 3 * j))) ∙ sym (nth_drop (signs ts) (p + 1) (2 + 3 * j))
      ∙ kinds_head (drop (p + 1) (signs ts)) (p + 1) j f l

  params_kinds : (p : ℕ) → (head (signs ts) p).fits ≡ true → AfterKinds ts end (param_places ts end (procedure (signs ts) p))
  params_kinds p f = after_kinds p 0 (head (signs ts) p).params (head (signs ts) p).params (omega arith) (kind_there p f)

  from_many : (i n : ℕ) → length (from ts end i n) ≡ n
  from_many i zero = refl
  from_many i (suc n) = ap suc (from_many (suc i) n)

  params_many : (p : ℕ) → length (param_places ts end (procedure (signs ts) p)) ≡ (head (signs ts) p).params
  params_many p = length-map (from ts end 0 (head (signs ts) p).params) (param_place p) ∙ from_many 0 (head (signs ts) p).params

  -- ---- the arguments of a call

  spans_many : (first : ℕ) (cs : List ℕ) (last : ℕ) → length (spans ts end first cs last) ≡ suc (length cs)
  spans_many first [] last = refl
  spans_many first (c ∷ cs) last = ap suc (spans_many (suc c) cs last)

  arguments_many : (k : ℕ) → length (arguments ts end k) ≡ count (signs ts) k
  arguments_many k = by (is_after 0 (call_end (signs ts) k) (k + 2))
    where
      by : (t : Bool) → length (if nat_eq (if t then 0 else suc (length (commas (signs ts) k))) 0 then []
          else spans ts end (k + 2) (commas (signs ts) k) (closed_at ts end (call_end (signs ts) k))) ≡ (if t then 0 else suc (length (commas (signs ts) k)))
      by true = refl
      by false =
          ap (λ b. length (if b then [] else spans ts end (k + 2) (commas (signs ts) k) (closed_at ts end (call_end (signs ts) k))))
          (never (length (commas (signs ts) k)))
          ∙ spans_many (k + 2) (commas (signs ts) k) (closed_at ts end (call_end (signs ts) k))

  -- tokens at places, each as it is written
  abbrev each : (Name → Name) → List (List ℕ) → List (List MadeToken)
  each to kss = map (λ (ks : List ℕ). map (token_at ts end to) ks) kss

  -- what is written of the arguments of a call
  abbrev pub given : (Name → Name) → ℕ → List (List MadeToken)
  given to k = each to (arguments ts end k)

  given_many : (to : Name → Name) (k : ℕ) → length (given to k) ≡ count (signs ts) k
  given_many to k = length-map (arguments ts end k) (λ (ks : List ℕ). map (token_at ts end to) ks) ∙ arguments_many k

  spans_no_end : (to : Name → Name) (keeps : Keeps to) (first : ℕ) (cs : List ℕ) (last : ℕ) → Listed ts end first cs last → last ≤ length ts
      → ((j : ℕ) → first ≤ j → j < last → at (signs ts) j ≡ mark.Semicolon → ⊥)
      → AllNoEnd (each to (spans ts end first cs last))
  spans_no_end to keeps first [] last l u f =
      (no_end ts end to keeps first (last - first) (omega (arith, l, u)) (λ j g h. f j g (omega (arith, h))), tt)
  spans_no_end to keeps first (c ∷ cs) last l u f =
      let m = l.0 in let n = l.1 in (
        no_end ts end to keeps first (c - first) (omega (arith, m, n, u)) (λ j g h. f j g (omega (arith, h, m, n))),
        spans_no_end to keeps (suc c) cs last l.3 u (λ j g h. f j (omega (arith, g, m)) h),
      )

  given_no_end : (to : Name → Name) (keeps : Keeps to) (k : ℕ) (c : CallSound ts end k) → is_call (signs ts) k ≡ true → AllNoEnd (given to k)
  given_no_end to keeps k c h = by (is_after 0 (call_end (signs ts) k) (k + 2))
    where
      cs : List ℕ
      cs = commas (signs ts) k

      last : ℕ
      last = closed_at ts end (call_end (signs ts) k)

      by : (t : Bool) → AllNoEnd (each to (if nat_eq (if t then 0 else suc (length cs)) 0 then [] else spans ts end (k + 2) cs last))
      by true = tt
      by false =
          let two : suc (suc k) ≡ k + 2 = omega arith in
          let b = c.below in
          subst (λ t. AllNoEnd (each to (if t then [] else spans ts end (k + 2) cs last))) (sym (never (length cs)))
          (subst (λ (i : ℕ). AllNoEnd (each to (spans ts end i cs last))) two
          (subst (λ (i : ℕ). AllNoEnd (each to (spans ts end (suc (suc k)) cs i))) (sym (ap (closed_at ts end) c.closed))
          (spans_no_end to keeps (suc (suc k)) cs c.last (commas_listed ts end k c h) (omega (arith, b)) c.quiet)))

  -- ---- places that are passed write nothing

  passed_on : (calls : CallWriter ts end) (to : Name → Name) (passed k m j t n : ℕ) → k + passed ≡ j → passed + t ≡ m
      → write_places ts end calls to passed (from ts end k m) n ≡ write_places ts end calls to 0 (from ts end j t) n
  passed_on calls to zero k m j t n e f =
      let g : k ≡ j = omega (arith, e) in let h : m ≡ t = omega (arith, f) in λ i. write_places ts end calls to 0 (from ts end (g i) (h i)) n
  passed_on calls to (suc passed) k zero j t n e f = absurd (omega (arith, f))
  passed_on calls to (suc passed) k (suc m) j t n e f = passed_on calls to passed (suc k) m j t n (omega (arith, e)) (omega (arith, f))

  module _ (follows : (k : ℕ) → is_call (signs ts) k ≡ true → ends_statement (before (signs ts) k) ≡ true) where
    -- ---- the body of the procedure

    -- the names that a call of a procedure replaces
    abbrev pub own_names : ℕ → List Name
    own_names p = replaced_at ts end (procedure (signs ts) p)

    -- where the body of a procedure is written for a call at k, and then come others
    abbrev body_text : (p : ℕ) (ps : List ℕ) → Sure ts end ps p → Chain ts end ps → ((k : ℕ) → is_call (signs ts) k ≡ true → CallSound ts end k)
        → (k n : ℕ) → List MadeToken → Context ts end (writers ts end) (Facts ts end)
    body_text p ps s chain sound k n more = record {
      to = replaced_by ts end (own_names p) n;
      keeps = keeps_replaced ts end (own_names p) n;
      procs = ps;
      last = s.last;
      within = s.within;
      sure = record { chain = chain; sound = sound; calls = s.calls };
      tail = made_at ts end k (codes "}") ∷ more;
      stop = λ q b g. sym (token_is q.token (codes "}") g.0.valid g.0.bytes);
      opens = λ i l c args m. opening ts end ps i (found ts end ps i chain (s.calls i l c)) args m;
    }

    body_opened : (p : ℕ) (ps : List ℕ) (s : Sure ts end ps p)
        → closing_from (Curly ∷ []) (suc (head (signs ts) p).stop) (drop (suc (head (signs ts) p).stop) (signs ts)) ≡ Closed s.last
    body_opened p ps s =
        let k = (head (signs ts) p).stop in
        ap (λ (i : ℕ). closing_from (Curly ∷ []) i (drop (suc k) (signs ts))) (sym (plus_one k))
        ∙ sym (ap (closing_from [] k) (sign_here (signs ts) k (mark.Opens Curly) s.opens (λ e. absurd (cc)))) ∙ s.closed

    body_ends : (p : ℕ) (ps : List ℕ) (s : Sure ts end ps p) → body_end (signs ts) p ≡ Closed s.last
    body_ends p ps s = ap (λ b. if b then closing (signs ts) (head (signs ts) p).stop else Never) s.fits ∙ s.closed

    -- the `}` that is spelled after a body is the one that closes it
    at_brace : (x : Context ts end (writers ts end) (Facts ts end)) (k : ℕ) (more : List MadeToken) (j t n : ℕ) (c : Parts)
        → x.tail ≡ made_at ts end k (codes "}") ∷ more → j + t ≡ x.last
        → Nest ts end follows (writers ts end) (Facts ts end) x (Curly ∷ []) j
        → Says (ahead ts end follows (writers ts end) (Facts ts end) x j t n) (fixed RightBrace ∷ c) → (j ≡ x.last) × Says more c
    at_brace x k more j zero n c e f h s = (omega (arith, f), (subst (λ (us : List MadeToken). Says us (fixed RightBrace ∷ c)) e s).1)
    at_brace x k more j (suc t) n c e f (whole g u) s = absurd (let q = sym g ∙ e in cc)
    at_brace x k more j (suc t) n c e f (inside g) s =
        let o = first_went ts end follows (writers ts end) (Facts ts end) x j (suc t) n (fixed RightBrace) c f (λ q. absurd (cc)) (λ q. omega arith) s in
        let d = ap (closing_from (Curly ∷ []) j) (signs_from ts end j (fixed RightBrace ∷ []) o.reads) in
        absurd (let q : j ≡ x.last = closed_same (sym d ∙ g) in omega (arith, f, q))
      where
        closed_same : {i k : ℕ} → Closed i ≡ Closed k → i ≡ k
        closed_same q = cc

    record BodyRead (p : ℕ) (ps : List ℕ) (more : List MadeToken) (c : Parts) : Type 0 where
      here : (n : ℕ) → n ≡ (head (signs ts) p).params → Here ts end p (told ts end ps) n
      rest : Says more c

    body_read : (p : ℕ) (ps : List ℕ) (s : Sure ts end ps p) (chain : Chain ts end ps) (sound : (k : ℕ) → is_call (signs ts) k ≡ true → CallSound ts end k)
        (k n m : ℕ) (more : List MadeToken) (ys : List Statement) → AllWalk ts end follows (writers ts end) (Facts ts end) (told ts end) ys → (c : Parts)
        → Says ((write_places ts end (writers ts end ps) (replaced_by ts end (own_names p) n) 0 (body_places ts end (procedure (signs ts) p)) m).tokens
        ++ made_at ts end k (codes "}") ∷ more) (flat_map (λ (t : Parts). t) (map statement_parts ys) ++ fixed RightBrace ∷ c) → BodyRead p ps more c
    body_read p ps s chain sound k n m more ys o c g =
        let x = body_text p ps s chain sound k n more in
        let stop = (head (signs ts) p).stop in
        let h = body_opened p ps s in
        let low = closing_low (Curly ∷ []) (suc stop) s.last (drop (suc stop) (signs ts)) h in
        let e : closed_at ts end (body_end (signs ts) p) ≡ s.last = ap (closed_at ts end) (body_ends p ps s) in
        let many : ℕ = closed_at ts end (body_end (signs ts) p) - suc stop in
        let w = statements ts end follows (writers ts end) (Facts ts end) (told ts end) ys o x (suc stop) many m (fixed RightBrace ∷ c) Curly [] (omega (arith, e, low)) (inside h) g in
        let body : Parts = flat_map (λ (t : Parts). t) (block_of w.tree) in
        let z = at_brace x k more (after (suc stop) body) w.togo w.number c refl w.counts
        (nest_on ts end follows (writers ts end) (Facts ts end) x Curly [] (suc stop) body (inside h) w.reads (even_spokens w.tree).level) w.rest in
        record {
          here = λ i q. record {
            many = q;
            body = w.tree;
            reads = w.reads;
            ends = body_ends p ps s ∙ ap Closed (sym z.0);
            calls = w.sound;
          };
          rest = z.1;
        }

    -- ---- what is written for a call

    module _ (x : Context ts end (writers ts end) (Facts ts end)) where
      -- so many places after its name belong to it
      abbrev rest_of : ℕ → ℕ
      rest_of k = suc (closed_at ts end (call_end (signs ts) k) - k)

      -- what is written after it
      abbrev later : (k m n : ℕ) → List MadeToken
      later k m n = (write_places ts end (writers ts end x.procs) x.to (rest_of k) (from ts end (suc k) m) n).tokens ++ x.tail

      call_split : (k m n : ℕ) (ps : Parts) (w : Written) → is_call (signs ts) k ≡ true → writers ts end x.procs k (given x.to k) n ≡ w
          → Says (ahead ts end follows (writers ts end) (Facts ts end) x k (suc m) n) ps → Says (w.tokens ++ later k m w.next) ps
      call_split k m n ps w c e s =
          let calls = writers ts end x.procs in
          let all : Written → List MadeToken = λ v. v.tokens ++ later k m v.next in
          subst (λ (v : Written). Says (all v) ps) e
          (subst (λ (us : List MadeToken). Says us ps)
          (append_assoc (calls k (given x.to k) n).tokens
          (write_places ts end calls x.to (rest_of k) (from ts end (suc k) m) (calls k (given x.to k) n).next).tokens x.tail)
          (subst (λ t. Says ((write_one ts end t calls x.to k n
          (λ i. write_places ts end calls x.to (rest_of k) (from ts end (suc k) m) i)
          (write_places ts end calls x.to zero (from ts end (suc k) m))).tokens ++ x.tail) ps) c s))

      -- the brackets of a call are closed, and its `;` stands, before the places end
      call_apart : (k : ℕ) (d : CallSound ts end k) → is_call (signs ts) k ≡ true → (a : Bracket) (st : List Bracket)
          → Nest ts end follows (writers ts end) (Facts ts end) x (a ∷ st) k → suc (suc d.last) ≤ x.last
      call_apart k d c a st (whole g u) = let b = d.below in omega (arith, b, u)
      call_apart k d c a st (inside g) =
          let j = d.last in
          let one = sign_here (signs ts) k mark.Called (called_is (at (signs ts) k) (name_here ts end k c)) (λ e. absurd (cc)) in
          let two = ap (closing_from (a ∷ st) k) (one ∙ ap (λ (us : List Sign). mark.Called ∷ us) (open_signs ts end k d c)) in
          let at_two : k + 1 + 1 ≡ suc (suc k) = omega arith in
          let three = closed_among ts end (drop (suc (suc k)) (signs ts)) (Round ∷ []) a st (suc (suc k)) j refl (open_closed ts end k d c) in
          let four = ap (closing_from (a ∷ st) (suc j)) (sign_here (signs ts) (suc j) mark.Semicolon d.ends (λ e. absurd (cc))) in
          let all : closing_from (a ∷ st) (suc j + 1) (drop (suc (suc j)) (signs ts)) ≡ Closed x.last =
          sym four ∙ sym three ∙ ap (λ (i : ℕ). closing_from (Round ∷ a ∷ st) i (drop (suc (suc k)) (signs ts))) (sym at_two) ∙ sym two ∙ g in
          let low = closing_low (a ∷ st) (suc j + 1) x.last (drop (suc (suc j)) (signs ts)) all in
          omega (arith, low)

      -- it is what is written from behind the `;` on
      later_is : (k m n : ℕ) (d : CallSound ts end k) → k + suc m ≡ x.last → suc (suc d.last) ≤ x.last
          → later k m n ≡ ahead ts end follows (writers ts end) (Facts ts end) x (suc (suc d.last)) (x.last - suc (suc d.last)) n
      later_is k m n d f l =
          let e : closed_at ts end (call_end (signs ts) k) ≡ d.last = ap (closed_at ts end) d.closed in
          let o = d.room in
          ap (λ (v : Written). v.tokens ++ x.tail)
          (passed_on (writers ts end x.procs) x.to (rest_of k) (suc k) m (suc (suc d.last)) (x.last - suc (suc d.last)) n
          (omega (arith, e, o)) (omega (arith, e, o, l, f)))

      -- no `else` comes then
      call_walked : (k m n i : ℕ) (other : Option (List Parts)) (b : Parts) (d : CallSound ts end k) (r : CallRead ts end k d.last i)
          → told ts end x.procs (bytes_at ts k) (length r.values) → k + suc m ≡ x.last → suc (suc d.last) ≤ x.last → (u v : ℕ)
          → Says (later k m u) (else_parts other ++ b) → WalkedTo ts end follows (writers ts end) (Facts ts end) (told ts end) x k v b
      call_walked k m n i None b d r t f l u v s = record {
        tree = source.Call (bytes_at ts k) (pos_at ts end ts k) r.values;
        reads = r.reads;
        sound = t;
        togo = x.last - suc (suc d.last);
        number = u;
        counts = ap (λ (q : ℕ). q + (x.last - suc (suc d.last))) r.ends ∙ (omega (arith, l));
        rest = subst (λ (q : ℕ). Says (ahead ts end follows (writers ts end) (Facts ts end) x q (x.last - suc (suc d.last)) u) b) (sym r.ends)
            (subst (λ (us : List MadeToken). Says us b) (later_is k m u d f l) s);
      }
      call_walked k m n i (Some zs) b d r t f l u v s =
          let j = suc (suc d.last) in
          let o = first_went ts end follows (writers ts end) (Facts ts end) x j (x.last - j) u (fixed ElseWord) (braced zs ++ b) (omega (arith, l))
          (λ q. absurd (cc)) (λ q. absurd (cc)) (subst (λ (us : List MadeToken). Says us (fixed ElseWord ∷ (braced zs ++ b))) (later_is k m u d f l) s) in
          absurd (d.no_else (sign_at ts end j (fixed ElseWord) o.reads.0))

    pub calling : Calling ts end follows (writers ts end) (Facts ts end) (told ts end)
    calling e ys other o x k zero n b a st f h c s =
        absurd (let q = x.stop (fixed IfWord) (((outer e ++ braced (map statement_parts ys)) ++ else_parts other) ++ b) s in cc)
    calling e ys other o x k (suc m) n b a st f h c s =
        let d = x.sure.sound k c in
        let fd = found ts end x.procs k x.sure.chain (x.sure.calls k (omega (arith, f)) c) in
        let p = fd.place in
        let proc = procedure (signs ts) p in
        let args = given x.to k in
        let made = made_at ts end k in
        let to = replaced_by ts end (own_names p) n in
        let inner = write_places ts end (writers ts end fd.before) to 0 (body_places ts end proc) (n + length (own_names p)) in
        let params = given_at ts end k to (param_places ts end proc) args in
        let more = later x k m inner.next in
        let w = write_call ts end (writers ts end fd.before) proc k args n in
        let s1 = call_split x k m n ((fixed IfWord ∷ ((outer e ++ braced (map statement_parts ys)) ++ else_parts other)) ++ b) w c (fd.writes args n) s in
        let s2 = call_block (made (codes "if")) (made (codes "true")) (made (codes "{")) (((params ++ inner.tokens) ++ made (codes "}") ∷ []) ++ more) e ys
        (else_parts other) b refl s1 in
        let block : Parts = run ts end follows (writers ts end) (Facts ts end) (told ts end) ys in
        let s3 = subst (λ (us : List MadeToken). Says us (block ++ (fixed RightBrace ∷ (else_parts other ++ b))))
        (append_assoc (params ++ inner.tokens) (made (codes "}") ∷ []) more ∙ append_assoc params inner.tokens (made (codes "}") ∷ more)) s2 in
        let g = given_all ts end (AllWalk ts end follows (writers ts end) (Facts ts end) (told ts end)) (λ t u q. q.1) k to (param_places ts end proc) args ys
        (inner.tokens ++ made (codes "}") ∷ more) (else_parts other ++ b) (params_many p ∙ sym fd.counts ∙ sym (given_many x.to k))
        (params_kinds p fd.sure.fits) (given_no_end x.to x.keeps k d c) o s3 in
        let r = body_read p fd.before fd.sure fd.chain x.sure.sound k n (n + length (own_names p)) more g.more g.kept (else_parts other ++ b) g.rest in
        let v = call_read ts end x.to x.keeps follows k d c g.values g.said in
        let t = fd.tells (length v.values) (r.here (length v.values) (v.many ∙ g.many ∙ given_many x.to k ∙ fd.counts)) in
        call_walked x k m n (length g.values) other b d v t f (call_apart x k d c a st h) inner.next n r.rest

    -- ---- the whole text

    pub all_walk : (ss : List Statement) → AllWalk ts end follows (writers ts end) (Facts ts end) (told ts end) ss
    all_walk ss = all_statements_walk ts end follows (writers ts end) (Facts ts end) (told ts end) calling ss

    -- where all that is left of the text is written
    abbrev pub whole_text : (procs : List ℕ) → Facts ts end procs (length ts) → Context ts end (writers ts end) (Facts ts end)
    whole_text procs sure = record {
      to = λ x. x;
      keeps = record { name = λ x h l. h; word = λ x h. h };
      procs = procs;
      last = length ts;
      within = upto (length ts);
      sure = sure;
      tail = [];
      stop = λ p b s. absurd s;
      opens = λ i l c args m. opening ts end procs i (found ts end procs i sure.chain (sure.calls i l c)) args m;
    }

    -- a block stands at k, and ends the text
    pub record MainRead (procs : List ℕ) (k : ℕ) : Type 0 where
      pub main : Spokens
      pub reads : Reads ts end k (braced (block_of main))
      pub ends : after k (braced (block_of main)) ≡ length ts
      pub sound : all_told (told ts end procs) main

    pub main_read : (procs : List ℕ) (sure : Facts ts end procs (length ts)) (k m n : ℕ) (ys : List Statement) → k + m ≡ length ts
        → Says (ahead ts end follows (writers ts end) (Facts ts end) (whole_text procs sure) k m n) (braced (map statement_parts ys)) → MainRead procs k
    main_read procs sure k m n ys f s =
        let x = whole_text procs sure in
        let r = block ts end follows (writers ts end) (Facts ts end) (told ts end) ys (all_walk ys) x k m n [] Curly [] f (whole refl refl)
        (subst (Says (ahead ts end follows (writers ts end) (Facts ts end) x k m n)) (sym (append-nil (braced (map statement_parts ys)))) s) in
        let e = after k (braced (block_of r.tree)) in
        let z : r.togo ≡ 0 = nothing e r.togo r.number r.counts r.rest in
        let c = r.counts in
        record { main = r.tree; reads = r.reads; ends = omega (arith, z, c); sound = r.sound }
      where
        nothing : (j t n : ℕ) → j + t ≡ length ts → Says (ahead ts end follows (writers ts end) (Facts ts end) (whole_text procs sure) j t n) [] → t ≡ 0
        nothing j zero n c h = refl
        nothing j (suc t) n c h = by (is_call (signs ts) j) refl
          where
            by : (q : Bool) → is_call (signs ts) j ≡ q → suc t ≡ 0
            by true q =
                let args = given (λ x. x) j in
                let o = opening ts end procs j (found ts end procs j sure.chain (sure.calls j (omega (arith, c)) q)) args n in
                let g = call_split (whole_text procs sure) j t n [] (writers ts end procs j args n) q refl h in
                absurd (subst (λ (us : List MadeToken). Says (us ++ later (whole_text procs sure) j t (writers ts end procs j args n).next) []) o.is g)
            by false q =
                absurd (subst (λ u. Says ((write_one ts end u (writers ts end procs) (λ x. x) j n
                (λ i. write_places ts end (writers ts end procs) (λ x. x) (suc (closed_at ts end (call_end (signs ts) j) - j)) (from ts end (suc j) t) i)
                (write_places ts end (writers ts end procs) (λ x. x) zero (from ts end (suc j) t))).tokens ++ []) []) q h)
