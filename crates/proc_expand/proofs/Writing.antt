-- What each turn of writing leaves.
use Rattle.std.proofs.Common.{◌≡◌, ℕ, zero, suc, ◌+◌, ◌-◌, ◌*◌, ◌<◌, ◌≤◌, ◌≢◌, Bool, true, false, List, [], ◌∷◌, ◌++◌, length, drop, nat_eq, Option, Some, None, refl, sym, ap, ◌∙◌, subst, arith}
use Rattle.std.specs.Prelude.{map, codes, not, reverse, slice_index_or, if◌then◌else◌}
use Rattle.std.specs.List.{All, filter}
use Rattle.std.proofs.lemmas.List.{append_assoc, length-append, length-map, drop-drop, drop_all, reverse-append}
use Rattle.std.proofs.lemmas.List.Elements.{All-append}
use Rattle.std.proofs.Math.Seq.{drop-cons, get_or-append_seam}
use Rattle.std.proofs.Math.ListN.{get_or-append}
use Rattle.jade_base.specs.declared.place.Pos.{Pos}
use Rattle.jade_lexer.specs.Lexemes.{TokenAt}
use Rattle.jade_syntax.specs.Abstract.{Name}
use Rattle.proc_expand.specs.declared.sign.Bracket.TheVariants.{Round}
use Rattle.proc_expand.specs.declared.sign.Sign.{Sign}
use Rattle.proc_expand.specs.declared.sign.End.TheVariants.{Closed}
use Rattle.proc_expand.specs.declared.procedures.Procedure.{Procedure}
use Rattle.proc_expand.specs.declared.frame.Call.{Call}
use Rattle.proc_expand.specs.declared.frame.Frame.{Frame}
use Rattle.proc_expand.specs.declared.pen.Pen.{Pen}
use Rattle.proc_expand.specs.declared.source.Source.{Source}
use Rattle.proc_expand.specs.Words.{signs, sign_of, at, bytes_at, is_comma, closing, closing_from, is_after, end_place}
use Rattle.proc_expand.specs.steps.Brackets.{next_place, after_sign}
use Rattle.proc_expand.specs.Names.{is_among, first_places}
use Rattle.proc_expand.specs.Refusals.{begins, head, body_end, procedure, param_place, is_call, call_end, commas, count, meant, is_none, refusal}
use Rattle.proc_expand.specs.steps.Looking.{procedure_of}
use Rattle.proc_expand.specs.Written.{MadeToken, items, text_names, in_procedure, closed_at, replaced_at, replaced_by, names_at, param_places, body_places, is_variable, from, spans, arguments, given_at, made_at, token_at, expansion}
use Rattle.proc_expand.specs.steps.Frames.{newest_named, names_in, writer_in, places_left, end_of, left}
use Rattle.proc_expand.specs.steps.Sheets.{spaced_out}
use Rattle.proc_expand.specs.steps.Pens.{written, IsPen, Wrote, IsTooLong}
use Rattle.proc_expand.specs.steps.Sources.{IsSource, IsOpen, IsInside, StandsIn, StandIn, commas_after, InBrackets, EndsArgument, param_token, given_one, given_from, given_all, start_tokens, IsBody, IsFrame, IsNext, IsWriting, whole, GoesOn, IsWholeTooLong, RunsOn}
use Rattle.proc_expand.proofs.First.{plus_one, by_case, eq_true, eq_false}
use Rattle.proc_expand.proofs.Nested.{closed_within, closed_in, closing_opens, step_inside}
use Rattle.proc_expand.proofs.Heads.{comma_is}
use Rattle.proc_expand.proofs.CallFacts.{call_within, call_opens, rest_next}
use Rattle.proc_expand.proofs.Outside.{those_below}
use Rattle.proc_expand.proofs.OpenBodies.{those_few}
use Rattle.proc_expand.proofs.Wholes.{stop_of, end_of_body, body_in, params_long, counted, is_meant, IsMeant, meant_is, newest, apart, encloses}
use Rattle.proc_expand.proofs.StackOfFrames.{left_done, left_token, left_call, left_all}
use Rattle.proc_expand.proofs.PenFacts.{long_both, few_written, grows, count_grows}

-- ---- places in a row

module _ (ts : List TokenAt) (end : Pos) where
  pub from_drop : (i k n : ℕ) → drop i (from ts end k n) ≡ from ts end (k + i) (n - i)
  from_drop zero k n =
      let e : k ≡ k + 0 = omega arith in let f : n ≡ n - 0 = omega arith in
      ap (λ j. from ts end j n) e ∙ ap (from ts end (k + 0)) f
  from_drop (suc i) k zero = let e : 0 ≡ 0 - suc i = omega arith in ap (from ts end (k + suc i)) e
  from_drop (suc i) k (suc n) =
      let e : suc k + i ≡ k + suc i = omega arith in let f : n - i ≡ suc n - suc i = omega arith in
      from_drop i (suc k) n ∙ ap (λ j. from ts end j (n - i)) e ∙ ap (from ts end (k + suc i)) f

  pub from_first : (k stop : ℕ) → k < stop → from ts end k (stop - k) ≡ k ∷ from ts end (k + 1) (stop - (k + 1))
  from_first k stop l =
      let e : stop - k ≡ suc (stop - (k + 1)) = omega (arith, l) in
      ap (from ts end k) e ∙ ap (λ j. k ∷ from ts end j (stop - (k + 1))) (sym (plus_one k))

  pub from_none : (k n : ℕ) → n ≡ 0 → from ts end k n ≡ []
  from_none k n e = ap (from ts end k) e

  from_count : (k n : ℕ) → length (from ts end k n) ≡ n
  from_count k zero = refl
  from_count k (suc n) = ap suc (from_count (suc k) n)

  pub left_after : (outer : List ℕ) (call : Option Call) (next stop i : ℕ)
      → places_left ts end outer call (next + i) stop ≡ drop i (places_left ts end outer call next stop)
  left_after outer None next stop i = sym (drop-drop i next outer)
  left_after outer (Some c) next stop i =
      let e : stop - (next + i) ≡ (stop - next) - i = omega arith in
      ap (from ts end (next + i)) e ∙ sym (from_drop i next (stop - next))

  -- ---- how many names a call replaces

  first_few : (own seen xs : List Name) → length (first_places own seen xs) ≤ length xs
  first_few own seen [] = omega arith
  first_few own seen (x ∷ xs) = by (is_among own x) (is_among seen x) (first_few own seen xs) (first_few own (x ∷ seen) xs)
    where
      by : (a b : Bool) → length (first_places own seen xs) ≤ length xs → length (first_places own (x ∷ seen) xs) ≤ length xs
          → length (if a then first_places own seen xs else (if b then first_places own seen xs else x ∷ first_places own (x ∷ seen) xs)) ≤ suc (length xs)
      by true b h g = omega (arith, h)
      by false true h g = omega (arith, h)
      by false false h g = omega (arith, g)

  filter_few : (p : ℕ → Bool) (ks : List ℕ) → length (filter p ks) ≤ length ks
  filter_few p [] = omega arith
  filter_few p (k ∷ ks) = by (p k) (filter_few p ks)
    where
      by : (b : Bool) → length (filter p ks) ≤ length ks → length (if b then k ∷ filter p ks else filter p ks) ≤ suc (length ks)
      by true h = omega (arith, h)
      by false h = omega (arith, h)

  module _ (s : Source) (is : IsSource ts end s) where
    pub replaced_few : (d : ℕ) → d < length ts → begins (signs ts) d ≡ true → length (replaced_at ts end (procedure (signs ts) d)) ≤ 1048576
    replaced_few d l b =
        let p = procedure (signs ts) d in
        let a = first_few (items ts end) [] (map (bytes_at ts) (param_places ts end p) ++ names_at ts end (body_places ts end p)) in
        let e = length-append (map (bytes_at ts) (param_places ts end p)) (names_at ts end (body_places ts end p)) in
        let f = length-map (param_places ts end p) (bytes_at ts) in let g = length-map (from ts end 0 (head (signs ts) d).params) (param_place d) in
        let h = from_count 0 (head (signs ts) d).params in
        let i = length-map (filter (is_variable ts end) (body_places ts end p)) (bytes_at ts) in
        let j = filter_few (is_variable ts end) (body_places ts end p) in
        let k = from_count (suc (stop_of ts end is.accepted d)) (end_of_body ts end is.accepted d - suc (stop_of ts end is.accepted d)) in
        let m = params_long ts end is.accepted d l b in let n = body_in ts end is.accepted d l b in let q = is.few in
        omega (arith, a, e, f, g, h, i, j, k, m, n, q)

    -- ---- places of open bodies

    pub next_in : (f : Frame) (d : ℕ) → IsFrame ts end s.outer.items f → f.next < f.stop → (k : ℕ)
        → (f.call ≡ None → k ≡ slice_index_or s.outer.items f.next d) → ((c : Call) → f.call ≡ Some c → k ≡ f.next) → IsNext ts end s.outer.items f k
    next_in f d h l k outside inside = by f.call refl
      where
        by : (call : Option Call) → f.call ≡ call → IsNext ts end s.outer.items f k
        by None e = record {
          stands = record {
            within = let w = those_below (length ts) (λ k. not (in_procedure ts end k)) f.next d
                (subst (λ u. f.next < length u) is.outer (let o = h.outside e in omega (arith, l, o))) in
                let o = ap (λ u. slice_index_or u f.next d) is.outer in let g = outside e in omega (arith, w, o, g);
            inside = λ c g. absurd (let z = sym e ∙ g in cc);
          };
          next = ap (λ c. places_left ts end s.outer.items c f.next f.stop) e
              ∙ drop-cons s.outer.items f.next d (let o = h.outside e in omega (arith, l, o))
              ∙ ap (λ i. slice_index_or s.outer.items f.next d ∷ drop i s.outer.items) (sym (plus_one f.next))
              ∙ ap (λ i. i ∷ drop (f.next + 1) s.outer.items) (sym (outside e))
              ∙ ap (λ c. k ∷ places_left ts end s.outer.items c (f.next + 1) f.stop) (sym e);
          here = λ c g. absurd (let z = sym e ∙ g in cc);
        }
        by (Some c) e = record {
          stands = record {
            within = let o = (h.inside c e).opened in let b = body_in ts end is.accepted c.procedure o.within o.begun in
                let t = (h.inside c e).stops in let g = inside c e in omega (arith, b, t, g, l);
            inside = λ a g. inside_of a (let z : c ≡ a = cc in z);
          };
          next = ap (λ c. places_left ts end s.outer.items c f.next f.stop) e ∙ from_first f.next f.stop l
              ∙ ap (λ i. i ∷ from ts end (f.next + 1) (f.stop - (f.next + 1))) (sym (inside c e))
              ∙ ap (λ c. k ∷ places_left ts end s.outer.items c (f.next + 1) f.stop) (sym e);
          here = λ a g. inside a g;
        }
          where
            inside_of : (a : Call) → c ≡ a → IsInside ts end a k
            inside_of a z = subst (λ a. IsInside ts end a k) z (record {
              opened = (h.inside c e).opened;
              start = let t = (h.inside c e).start in let g = inside c e in omega (arith, t, g);
              stop = let t = (h.inside c e).stops in let g = inside c e in omega (arith, t, g, l);
            })

    -- the brackets of a call in a body are closed in it
    pub arguments_in : (call : Option Call) (k close : ℕ) → StandsIn ts end call k → is_call (signs ts) k ≡ true → call_end (signs ts) k ≡ Closed close
        → StandIn ts end call k close
    arguments_in call k close h t e = record {
      each = λ j a b. record {
        within = let w = within in omega (arith, w, b);
        inside = λ c g. record {
          opened = (h.inside c g).opened;
          start = let u = (h.inside c g).start in omega (arith, u, a);
          stop = let u = enclosed c (h.inside c g) in omega (arith, u, b);
        };
      };
    }
      where
        as_many : length (signs ts) ≡ length ts
        as_many = length-map ts (λ (t : TokenAt). sign_of t.bytes)

        within : close < length ts
        within = let c = closed_in (signs ts) (k + 1) close (call_within (signs ts) k t) e in let a = as_many in omega (arith, c, a)

        enclosed : (c : Call) → IsInside ts end c k → close < closed_at ts end (body_end (signs ts) c.procedure)
        enclosed c q =
            let o = q.opened in let a = q.start in let b = q.stop in
            encloses ts end is.accepted c.procedure o.within o.begun (k + 1) close Round (call_within (signs ts) k t) (call_opens (signs ts) k t) e
            (omega (arith, a)) (omega (arith, b))

-- ---- arguments

module _ (ss : List Sign) (start close : ℕ) where
  pub ends_none : start ≤ close → commas_after ss start ≡ [] → EndsArgument ss start close close
  ends_none l h = record {
    down = l;
    up = omega arith;
    last = λ e. refl;
    comma = λ c cs e. absurd (let z = sym h ∙ e in cc);
    next = λ c cs e. absurd (let z = sym h ∙ e in cc);
    on = λ c cs e. absurd (let z = sym h ∙ e in cc);
  }

  comma_next : (k : ℕ) → is_comma (at ss k) ≡ true → next_place ss k ≡ Some (k + 1)
  comma_next k h = ap (λ u. after_sign u k (closing ss k)) (comma_is (at ss k) h)

  pub comma_rest : (k : ℕ) → k < length ss → is_comma (at ss k) ≡ true → commas_after ss k ≡ k ∷ commas_after ss (k + 1)
  comma_rest k l h =
      rest_next ss k (k + 1) l (comma_next k h) ∙ ap (λ t. if t then k ∷ commas_after ss (k + 1) else commas_after ss (k + 1)) h

  pub other_rest : (k next : ℕ) → k < length ss → is_comma (at ss k) ≡ false → next_place ss k ≡ Some next → commas_after ss k ≡ commas_after ss next
  other_rest k next l h e = rest_next ss k next l e ∙ ap (λ t. if t then k ∷ commas_after ss next else commas_after ss next) h

  pub ends_comma : (k : ℕ) → start ≤ k → k < length ss → is_comma (at ss k) ≡ true → commas_after ss k ≡ commas_after ss start → InBrackets ss k close
      → EndsArgument ss start close k
  ends_comma k d l h same inside =
      let r = sym same ∙ comma_rest k l h in
      record {
        down = d;
        up = let w = closed_within (drop k ss) (Round ∷ []) k close inside.closed in w.0;
        last = λ e. absurd (let z = sym r ∙ e in cc);
        comma = λ c cs e. (let z = sym r ∙ e in cc);
        next = λ c cs e. (let z = sym r ∙ e in cc);
        on = λ c cs e. record { closed = step_inside ss k (k + 1) Round l (comma_next k h) ∙ inside.closed };
      }

module _ (ts : List TokenAt) (end : Pos) (around : Option Call) (c : Call) where
  abbrev tok : ℕ → MadeToken
  tok = token_at ts end (names_in ts end around)

  abbrev to : Name → Name
  to = replaced_by ts end (replaced_at ts end (procedure (signs ts) c.procedure)) c.base

  abbrev given : List ℕ → List (List ℕ) → List MadeToken
  given is rest = given_at ts end c.place to (map (param_place c.procedure) is) (map (λ ps. map tok ps) rest)

  one_given : (i start stop : ℕ) (is ks : List ℕ) (rest : List (List ℕ)) → ks ≡ from ts end start (stop - start)
      → given (i ∷ is) (ks ∷ rest) ≡ given_one ts end around c i start stop ++ given is rest
  one_given i start stop is ks rest e =
      ap (λ us. front ++ (map tok us ++ (last ++ given is rest))) e
      ∙ ap (λ v. front ++ v) (sym (append_assoc (map tok (from ts end start (stop - start))) last (given is rest)))
    where
      front : List MadeToken
      front = made_at ts end c.place (bytes_at ts (param_place c.procedure i - 1)) ∷ param_token ts end c i ∷ made_at ts end c.place (codes "=") ∷ []

      last : List MadeToken
      last = made_at ts end c.place (codes ";") ∷ []

  abbrev ss : List Sign
  ss = signs ts

  pub given_step : (params i start stop close : ℕ) → i < params → length (commas_after ss start) + suc i ≡ params → EndsArgument ss start close stop
      → given_from ts end around c params i start close
      ≡ given_one ts end around c i start stop ++ given_from ts end around c params (i + 1) (stop + 1) close
  given_step params i start stop close l n h =
      ap (λ is. given is (spans ts end start (commas_after ss start) close)) (from_first ts end i params l)
      ∙ by (commas_after ss start) refl n
    where
      none_left : 0 + suc i ≡ params → params - (i + 1) ≡ 0
      none_left g = omega (arith, g)

      by : (cs : List ℕ) → commas_after ss start ≡ cs → length cs + suc i ≡ params
          → given (i ∷ from ts end (i + 1) (params - (i + 1))) (spans ts end start cs close)
          ≡ given_one ts end around c i start stop ++ given_from ts end around c params (i + 1) (stop + 1) close
      by [] e g =
          one_given i start stop (from ts end (i + 1) (params - (i + 1))) (from ts end start (close - start)) []
          (ap (λ j. from ts end start (j - start)) (sym (h.last e)))
          ∙ ap (λ u. given_one ts end around c i start stop ++ u)
          (ap (λ is. given is []) (from_none ts end (i + 1) (params - (i + 1)) (none_left g))
          ∙ sym (ap (λ is. given is (spans ts end (stop + 1) (commas_after ss (stop + 1)) close)) (from_none ts end (i + 1) (params - (i + 1)) (none_left g))))
      by (d ∷ cs) e g =
          one_given i start stop (from ts end (i + 1) (params - (i + 1))) (from ts end start (d - start)) (spans ts end (suc d) cs close)
          (ap (λ j. from ts end start (j - start)) (sym (h.comma d cs e)))
          ∙ ap (λ u. given_one ts end around c i start stop ++ given (from ts end (i + 1) (params - (i + 1))) u)
          (ap (λ us. spans ts end (suc d) us close) (sym (h.next d cs e))
          ∙ (let z : suc d ≡ stop + 1 = (let w = h.comma d cs e in omega (arith, w)) in
          ap (λ j. spans ts end j (commas_after ss (stop + 1)) close) z))

  -- no parameter is left
  pub given_none : (params i start close : ℕ) → params ≤ i → given_from ts end around c params i start close ≡ []
  given_none params i start close l =
      ap (λ is. given is (spans ts end start (commas_after ss start) close)) (from_none ts end i (params - i) (omega (arith, l)))

  -- the next argument, if another parameter is left
  pub count_step : (params i start stop close : ℕ) → length (commas_after ss start) + suc i ≡ params → EndsArgument ss start close stop → i + 1 < params
      → (length (commas_after ss (stop + 1)) + suc (i + 1) ≡ params) × InBrackets ss (stop + 1) close
  count_step params i start stop close n h l = by (commas_after ss start) refl n
    where
      by : (cs : List ℕ) → commas_after ss start ≡ cs → length cs + suc i ≡ params
          → (length (commas_after ss (stop + 1)) + suc (i + 1) ≡ params) × InBrackets ss (stop + 1) close
      by [] e g = absurd (omega (arith, g, l))
      by (d ∷ cs) e g = ((let z = ap length (h.next d cs e) in omega (arith, z, g)), h.on d cs e)

  -- ---- all arguments of a call

  module _ (close : ℕ) (t : is_call ss c.place ≡ true) (e : call_end ss c.place ≡ Closed close)
      (n : count ss c.place ≡ (head ss c.procedure).params) where
    pub in_call : InBrackets ss (c.place + 2) close
    in_call = record {
      closed = (let z : c.place + 2 ≡ c.place + 1 + 1 = omega arith in ap (λ i. closing_from (Round ∷ []) i (drop i ss)) z)
          ∙ sym (closing_opens ss (c.place + 1) Round (call_within ss c.place t) (call_opens ss c.place t)) ∙ e;
    }

    pub commas_counted : 0 < (head ss c.procedure).params → length (commas_after ss (c.place + 2)) + suc 0 ≡ (head ss c.procedure).params
    commas_counted l = by (is_after 0 (call_end ss c.place) (c.place + 2)) n
      where
        by : (b : Bool) → (if b then 0 else suc (length (commas ss c.place))) ≡ (head ss c.procedure).params
            → length (commas_after ss (c.place + 2)) + suc 0 ≡ (head ss c.procedure).params
        by true h = absurd (omega (arith, h, l))
        by false h = omega (arith, h)

    pub given_whole : (params : ℕ) → params ≡ (head ss c.procedure).params
        → given_from ts end around c params 0 (c.place + 2) close ≡ given_all ts end around c
    given_whole zero h =
        ap (λ is. given is (arguments ts end c.place)) (ap (from ts end 0) h)
    given_whole (suc m) h =
        ap (λ is. given is (spans ts end (c.place + 2) (commas ss c.place) close)) (ap (from ts end 0) (let z : suc m - 0 ≡ (head ss c.procedure).params = omega (arith, h) in z))
        ∙ ap (λ j. given (from ts end 0 (head ss c.procedure).params) (spans ts end (c.place + 2) (commas ss c.place) j)) (ap (end_place (length ts)) (sym e))
        ∙ ap (λ b. given (from ts end 0 (head ss c.procedure).params)
        (if b then [] else spans ts end (c.place + 2) (commas ss c.place) (closed_at ts end (call_end ss c.place)))) (sym many)
      where
        many : nat_eq (count ss c.place) 0 ≡ false
        many = by_case (nat_eq (count ss c.place) 0) (λ b. absurd (let z = eq_true (count ss c.place) 0 b in omega (arith, z, n, h))) (λ b. b)

-- ---- the procedure that a call means

module _ (ts : List TokenAt) where
  pub callee_meant : (q : Procedure) (a : Option ℕ) → Some q ≡ procedure_of (signs ts) a → a ≡ Some q.place
  callee_meant q None h = absurd (cc)
  callee_meant q (Some d) h = let e : q ≡ procedure (signs ts) d = cc in ap (λ (r : Procedure). Some r.place) (sym e)

  pub callee_is : (q : Procedure) (a : Option ℕ) → Some q ≡ procedure_of (signs ts) a → q ≡ procedure (signs ts) q.place
  callee_is q None h = absurd (cc)
  callee_is q (Some d) h =
      let e : q ≡ procedure (signs ts) d = cc in e ∙ ap (λ (r : Procedure). procedure (signs ts) r.place) (sym e)

pub no_callee : (ts : List TokenAt) (end : Pos) (ok : refusal ts ≡ None) (k : ℕ) (l : k < length ts) → is_call (signs ts) k ≡ true
    → None ≡ procedure_of (signs ts) (meant ts k) → ⊥
no_callee ts end ok k l c h = by (meant ts k) (is_meant ts end ok k l c) h
  where
    by : (a : Option ℕ) → is_none a ≡ false → None ≡ procedure_of (signs ts) a → ⊥
    by None e g = absurd (cc)
    by (Some d) e g = absurd (cc)

-- ---- turns

all_front : (P : Frame → Type 0) (fs : List Frame) (f : Frame) → All P (fs ++ f ∷ []) → All P fs
all_front P fs f h = λ k d l. subst P (get_or-append fs (f ∷ []) d k l) (h k d (let a = length-append fs (f ∷ []) in omega (arith, a, l)))

all_back : (P : Frame → Type 0) (fs : List Frame) (f : Frame) → All P (fs ++ f ∷ []) → P f
all_back P fs f h = subst P (get_or-append_seam fs f [] f) (h (length fs) f (let a = length-append fs (f ∷ []) in omega (arith, a)))

pub reverse_more : (fs : List Frame) (f : Frame) → reverse (fs ++ f ∷ []) ≡ f ∷ reverse fs
reverse_more fs f = reverse-append fs (f ∷ [])

module _ (ts : List TokenAt) (end : Pos) (s : Source) (is : IsSource ts end s) where
  abbrev outer : List ℕ
  outer = s.outer.items

  -- some are written, and some bodies stand where one stood
  pub goes_on : (p q : Pen) (fs hs : List Frame) (f : Frame) (gs : List Frame) (us : List MadeToken) (n m : ℕ)
      → IsWriting ts end outer p (fs ++ f ∷ []) n → Wrote (text_names ts end) us p q
      → left ts end outer (f ∷ reverse fs) n ≡ us ++ left ts end outer (reverse hs) m → hs ≡ fs ++ gs
      → All (IsFrame ts end outer) gs → m ≤ length (written q) * 1048576 → length gs < 1 + 2 * length us
      → GoesOn ts end outer p (fs ++ f ∷ []) n q hs m
  goes_on p q fs hs f gs us n m h w e a frames few more =
      record {
        writing = record {
          pen = w.pen;
          frames = subst (All (IsFrame ts end outer)) (sym a) (All-append (IsFrame ts end outer) fs gs (all_front (IsFrame ts end outer) fs f h.frames) frames);
          few = few;
        };
        same = ap (λ x. x ++ left ts end outer (reverse hs) m) w.tokens ∙ append_assoc (written p) us (left ts end outer (reverse hs) m)
            ∙ ap (λ x. written p ++ x) (sym e) ∙ ap (λ r. written p ++ left ts end outer r n) (sym (reverse_more fs f));
        less = let g = grows (text_names ts end) us p q h.pen w in let l = w.pen in let k = l.sheet in let b = k.few in
            let c = ap length a in let d = length-append fs gs in let i = length-append fs (f ∷ []) in omega (arith, g, b, c, d, i, more);
      }

  -- the whole would be too long
  pub whole_long : (p : Pen) (fs : List Frame) (f : Frame) (us more : List MadeToken) (n : ℕ)
      → left ts end outer (f ∷ reverse fs) n ≡ us ++ more → IsTooLong p us → IsWholeTooLong ts end outer p (fs ++ f ∷ []) n
  whole_long p fs f us more n e h = record {
    long = subst (λ x. 1048576 < length (spaced_out x))
        (append_assoc (written p) us more ∙ ap (λ x. written p ++ x) (sym e) ∙ ap (λ r. written p ++ left ts end outer r n) (sym (reverse_more fs f)))
        (let a = h.long in let b = long_both (written p ++ us) more in omega (arith, a, b));
  }

  -- ---- what stands on the stack

  pub last_frame : (fs : List Frame) (f : Frame) → All (IsFrame ts end outer) (fs ++ f ∷ []) → IsFrame ts end outer f
  last_frame fs f h = all_back (IsFrame ts end outer) fs f h

  pub no_frame : All (IsFrame ts end outer) []
  no_frame = λ k d l. absurd (omega (arith, l))

  pub one_frame : (f : Frame) → IsFrame ts end outer f → All (IsFrame ts end outer) (f ∷ [])
  one_frame f q = λ k d l. subst (IsFrame ts end outer) (let z : k ≡ 0 = omega (arith, l) in ap (λ i. slice_index_or (f ∷ []) i d) (sym z)) q

  -- nothing is left
  pub done : (f : Frame) (fs : List Frame) (n : ℕ) → IsFrame ts end outer f → f.stop ≤ f.next
      → left ts end outer (f ∷ reverse fs) n ≡ end_of ts end f.call ++ left ts end outer (reverse fs) n
  done f fs n h l = left_done ts end outer f (reverse fs) n (by f.call refl)
    where
      by : (call : Option Call) → f.call ≡ call → places_left ts end outer f.call f.next f.stop ≡ []
      by None e = ap (λ c. places_left ts end outer c f.next f.stop) e ∙ drop_all f.next outer (let o = h.outside e in omega (arith, o, l))
      by (Some c) e = ap (λ c. places_left ts end outer c f.next f.stop) e ∙ from_none ts end f.next (f.stop - f.next) (omega (arith, l))

  -- what is left of a body further on
  pub frame_on : (f g : Frame) → IsFrame ts end outer f → g.call ≡ f.call → g.stop ≡ f.stop → f.next ≤ g.next → IsFrame ts end outer g
  frame_on f g h c e l = record {
    outside = λ z. e ∙ h.outside (sym c ∙ z);
    inside = λ b z. (let i = h.inside b (sym c ∙ z) in record {
      opened = i.opened;
      start = let t = i.start in omega (arith, t, l);
      stops = e ∙ i.stops;
    });
  }

  -- a token
  pub one_token : (f g : Frame) (fs : List Frame) (k n : ℕ) → IsNext ts end outer f k → is_call (signs ts) k ≡ false → g.call ≡ f.call
      → g.next ≡ f.next + 1 → g.stop ≡ f.stop
      → left ts end outer (f ∷ fs) n ≡ (token_at ts end (names_in ts end f.call) k ∷ []) ++ left ts end outer (g ∷ fs) n
  one_token f g fs k n h t c e u =
      left_token ts end outer f g fs k (places_left ts end outer f.call (f.next + 1) f.stop) n h.next t c
      (ap (λ i. places_left ts end outer f.call i g.stop) e ∙ ap (places_left ts end outer f.call (f.next + 1)) u)

  -- ---- tokens in a row

  pub run_start : (p : Pen) (f : Frame) → IsPen (text_names ts end) p → IsFrame ts end outer f → RunsOn ts end outer p f p f
  run_start p f h i = record { pen = h; frame = i; same = λ fs n. refl; longer = omega arith; more = omega arith }

  module _ (p q : Pen) (f g : Frame) (k : ℕ) (h : RunsOn ts end outer p f q g) (i : IsNext ts end outer g k) (t : is_call (signs ts) k ≡ false) where
    abbrev here : List MadeToken
    here = token_at ts end (names_in ts end g.call) k ∷ []

    abbrev after : Frame
    after = record { next = g.next + 1; stop = g.stop; call = g.call }

    pub run_step : (r : Pen) → Wrote (text_names ts end) here q r → RunsOn ts end outer p f r after
    run_step r w = record {
      pen = w.pen;
      frame = frame_on g after h.frame refl refl (omega arith);
      same = λ fs n.
          ap (λ x. x ++ left ts end outer (after ∷ fs) n) w.tokens ∙ append_assoc (written q) here (left ts end outer (after ∷ fs) n)
          ∙ ap (λ x. written q ++ x) (sym (one_token g after fs k n i t refl refl refl)) ∙ h.same fs n;
      longer = let a = h.longer in let b = grows (text_names ts end) here q r h.pen w in omega (arith, a, b);
      more = let a = h.more in let b = count_grows (text_names ts end) here q r w in omega (arith, a, b);
    }

    pub run_long : IsTooLong q here → (fs : List Frame) (n : ℕ) → IsWholeTooLong ts end outer p (fs ++ f ∷ []) n
    run_long l fs n = record {
      long = let a = whole_long q fs g here (left ts end outer (after ∷ reverse fs) n) n (one_token g after (reverse fs) k n i t refl refl refl) l in
          subst (λ x. 1048576 < length (spaced_out x))
          (ap (λ r. written q ++ left ts end outer r n) (reverse_more fs g) ∙ h.same (reverse fs) n
          ∙ ap (λ r. written p ++ left ts end outer r n) (sym (reverse_more fs f))) a.long;
    }

  -- after more tokens in a row
  pub runs_on : (p q r : Pen) (es fs hs : List Frame) (g h : Frame) (n m : ℕ) → GoesOn ts end outer p es n q (fs ++ g ∷ []) m
      → RunsOn ts end outer q g r h → hs ≡ fs ++ h ∷ [] → All (IsFrame ts end outer) fs → GoesOn ts end outer p es n r hs m
  runs_on p q r es fs hs g h n m a b e all = record {
    writing = record {
      pen = b.pen;
      frames = subst (All (IsFrame ts end outer)) (sym e) (All-append (IsFrame ts end outer) fs (h ∷ []) all (one_frame h b.frame));
      few = let w = a.writing in let i = w.few in let j = b.more in omega (arith, i, j);
    };
    same = ap (λ x. written r ++ left ts end outer x m) (ap reverse e ∙ reverse_more fs h) ∙ b.same (reverse fs) m
        ∙ ap (λ x. written q ++ left ts end outer x m) (sym (reverse_more fs g)) ∙ a.same;
    less = let i = a.less in let j = b.longer in let k = ap length e in let l = length-append fs (h ∷ []) in let m = length-append fs (g ∷ []) in
        omega (arith, i, j, k, l, m);
  }

  pub run_too_long : (p q : Pen) (es fs : List Frame) (g : Frame) (n m : ℕ) → GoesOn ts end outer p es n q (fs ++ g ∷ []) m
      → IsWholeTooLong ts end outer q (fs ++ g ∷ []) m → IsWholeTooLong ts end outer p es n
  run_too_long p q es fs g n m a b = record { long = subst (λ x. 1048576 < length (spaced_out x)) a.same b.long }

  pub all_but_last : (fs : List Frame) (f : Frame) → All (IsFrame ts end outer) (fs ++ f ∷ []) → All (IsFrame ts end outer) fs
  all_but_last fs f h = all_front (IsFrame ts end outer) fs f h

  -- a call
  module _ (f g b : Frame) (fs : List Frame) (k n d close : ℕ) (h : IsNext ts end outer f k) (t : is_call (signs ts) k ≡ true)
      (e : call_end (signs ts) k ≡ Closed close) (m : meant ts k ≡ Some d) where
    abbrev call : Call
    call = record { procedure = d; place = k; base = n }

    found : IsMeant ts end is.accepted k (let s = h.stands in s.within) t d
    found = meant_is ts end is.accepted k (let s = h.stands in s.within) t d m

    pub is_begun : begins (signs ts) d ≡ true
    is_begun = let q = found in q.begun

    pub is_within : d < length ts
    is_within = let q = found in q.within

    -- it begins before the body that it is called in
    sooner : (c : Call) → f.call ≡ Some c → d < c.procedure
    sooner c z =
        let s = h.stands in let i = s.inside c z in let o = i.opened in let q = found in
        by_case (nat_eq d c.procedure)
        (λ y. absurd (let w = eq_true d c.procedure y in let a = ap (end_of_body ts end is.accepted) w in let r = q.ended in let v = i.stop in omega (arith, a, r, v)))
        (λ y. let w = eq_false d c.procedure y in
        by_lt (λ v. absurd (let r = q.ended in let u = body_in ts end is.accepted d q.within q.begun in let x = i.stop in
        let p = params_long ts end is.accepted d q.within q.begun in
        let z = sym q.begun ∙ apart ts end is.accepted c.procedure o.within o.begun d v (omega (arith, r, u, x, p)) in cc)) w)
      where
        by_lt : ((c.procedure < d) → ⊥) → (d ≢ c.procedure) → d < c.procedure
        by_lt v w = omega (arith, v, w)

    newest_in : (q : ℕ) → d < q → q ≤ length ts → newest_named ts end q (bytes_at ts k) ≡ Some d
    newest_in q l a = newest ts end is.accepted k (let s = h.stands in s.within) t d q found l a

    pub call_opened : g.call ≡ f.call → g.next ≡ f.next + (close - k) + 2 → g.stop ≡ f.stop → b.call ≡ Some call
        → b.next ≡ (head (signs ts) d).stop + 1 → b.stop ≡ closed_at ts end (body_end (signs ts) d)
        → left ts end outer (f ∷ fs) n
        ≡ (start_tokens ts end k ++ given_all ts end f.call call) ++ left ts end outer (b ∷ g ∷ fs) (n + length (replaced_at ts end (procedure (signs ts) d)))
    call_opened c u v is_d w x = by f.call refl
      where
        places : places_left ts end outer f.call g.next g.stop
            ≡ drop (suc (closed_at ts end (call_end (signs ts) k) - k)) (places_left ts end outer f.call (f.next + 1) f.stop)
        places =
            let z : g.next ≡ f.next + 1 + suc (close - k) = omega (arith, u) in
            ap (λ i. places_left ts end outer f.call i g.stop) z ∙ ap (places_left ts end outer f.call (f.next + 1 + suc (close - k))) v
            ∙ left_after ts end outer f.call (f.next + 1) f.stop (suc (close - k))
            ∙ ap (λ i. drop (suc (i - k)) (places_left ts end outer f.call (f.next + 1) f.stop)) (ap (end_place (length ts)) (sym e))

        body : from ts end b.next (b.stop - b.next) ≡ body_places ts end (procedure (signs ts) d)
        body = ap (λ i. from ts end i (b.stop - i)) (w ∙ plus_one (head (signs ts) d).stop)
            ∙ ap (λ i. from ts end (suc (head (signs ts) d).stop) (i - suc (head (signs ts) d).stop)) x

        by : (a : Option Call) → f.call ≡ a → left ts end outer (f ∷ fs) n
            ≡ (start_tokens ts end k ++ given_all ts end f.call call)
            ++ left ts end outer (b ∷ g ∷ fs) (n + length (replaced_at ts end (procedure (signs ts) d)))
        by None z =
            left_call ts end outer f g fs k (places_left ts end outer f.call (f.next + 1) f.stop) n (length ts) d h.next t
            (ap (writer_in ts end) z) (newest_in (length ts) is_within (omega arith)) c places b is_d body
        by (Some a) z =
            left_call ts end outer f g fs k (places_left ts end outer f.call (f.next + 1) f.stop) n a.procedure d h.next t
            (ap (writer_in ts end) z)
            (newest_in a.procedure (sooner a z) (let s = h.stands in let i = s.inside a z in let o = i.opened in let y = o.within in omega (arith, y)))
            c places b is_d body

    -- its names have numbers that do not overflow
    pub is_open : (p q : Pen) (r : List Frame) → IsWriting ts end outer p r n → Wrote (text_names ts end) (start_tokens ts end k) p q → IsOpen ts end call
    is_open p q r a w = record {
      within = is_within;
      begun = is_begun;
      few = let x = a.few in let y = count_grows (text_names ts end) (start_tokens ts end k) p q w in let z = few_written (text_names ts end) q w.pen in
          let v = replaced_few ts end s is d is_within is_begun in omega (arith, x, y, z, v);
    }

    pub body_frame : IsOpen ts end call → b.call ≡ Some call → b.next ≡ (head (signs ts) d).stop + 1 → b.stop ≡ closed_at ts end (body_end (signs ts) d)
        → IsFrame ts end outer b
    body_frame o a u v = record {
      outside = λ z. absurd (let y = sym a ∙ z in cc);
      inside = λ c z. subst (λ i. IsBody ts end i b.next b.stop) (let y : call ≡ c = cc in y)
          (record { opened = o; start = omega (arith, u); stops = v });
    }

  -- a frame ends within the text
  pub frame_small : (f : Frame) → IsFrame ts end outer f → f.stop ≤ 1048576
  frame_small f h = by f.call refl
    where
      by : (call : Option Call) → f.call ≡ call → f.stop ≤ 1048576
      by None e =
          let o = h.outside e in let a = ap length is.outer in let b = those_few (length ts) (λ k. not (in_procedure ts end k)) in let c = is.few in
          omega (arith, o, a, b, c)
      by (Some c) e =
          let i = h.inside c e in let o = i.opened in let b = body_in ts end is.accepted c.procedure o.within o.begun in let t = i.stops in let d = is.few in
          omega (arith, b, t, d)

  -- what is on the stack after a call
  two_more : (fs hs : List Frame) (g b : Frame) → hs ≡ (fs ++ g ∷ []) ++ b ∷ [] → (hs ≡ fs ++ (g ∷ b ∷ [])) × (reverse hs ≡ b ∷ g ∷ reverse fs)
  two_more fs hs g b e =
      (e ∙ append_assoc fs (g ∷ []) (b ∷ []), ap reverse e ∙ reverse_more (fs ++ g ∷ []) b ∙ ap (λ r. b ∷ r) (reverse_more fs g))

  pub goes_call : (p q : Pen) (fs hs : List Frame) (f g b : Frame) (k n d close m : ℕ) → IsWriting ts end outer p (fs ++ f ∷ []) n
      → (h : IsNext ts end outer f k) (t : is_call (signs ts) k ≡ true) (e : call_end (signs ts) k ≡ Closed close) (means : meant ts k ≡ Some d)
      → g.call ≡ f.call → g.next ≡ f.next + (close - k) + 2 → g.stop ≡ f.stop
      → b.call ≡ Some (record { procedure = d; place = k; base = n }) → b.next ≡ (head (signs ts) d).stop + 1
      → b.stop ≡ closed_at ts end (body_end (signs ts) d) → hs ≡ (fs ++ g ∷ []) ++ b ∷ []
      → m ≡ n + length (replaced_at ts end (procedure (signs ts) d)) → IsOpen ts end (record { procedure = d; place = k; base = n })
      → Wrote (text_names ts end) (start_tokens ts end k ++ given_all ts end f.call (record { procedure = d; place = k; base = n })) p q
      → GoesOn ts end outer p (fs ++ f ∷ []) n q hs m
  goes_call p q fs hs f g b k n d close m w h t e means u v x y z r a c o wrote =
      let us = start_tokens ts end k ++ given_all ts end f.call (record { procedure = d; place = k; base = n }) in
      let two = two_more fs hs g b a in
      let l = length-append (start_tokens ts end k) (given_all ts end f.call (record { procedure = d; place = k; base = n })) in
      goes_on p q fs hs f (g ∷ b ∷ []) us n m w wrote
      (call_opened f g b (reverse fs) k n d close h t e means u v x y z r
      ∙ ap (λ i. us ++ left ts end outer (b ∷ g ∷ reverse fs) i) (sym c)
      ∙ ap (λ i. us ++ left ts end outer i m) (sym two.1))
      two.0
      (All-append (IsFrame ts end outer) (g ∷ []) (b ∷ []) (one_frame g (frame_on f g (last_frame fs f w.frames) u x (omega (arith, v))))
      (one_frame b (body_frame f g b (reverse fs) k n d close h t e means o y z r)))
      (let i = w.few in let j = count_grows (text_names ts end) us p q wrote in
      let v = replaced_few ts end s is d (is_within f g b (reverse fs) k n d close h t e means) (is_begun f g b (reverse fs) k n d close h t e means) in
      omega (arith, i, j, l, v, c))
      (omega (arith, l))

  -- ---- a call that comes next

  module _ (p : Pen) (fs : List Frame) (f : Frame) (k n d close : ℕ) (w : IsWriting ts end outer p (fs ++ f ∷ []) n) (h : IsNext ts end outer f k)
      (t : is_call (signs ts) k ≡ true) (e : call_end (signs ts) k ≡ Closed close) (means : meant ts k ≡ Some d) where
    abbrev the_call : Call
    the_call = record { procedure = d; place = k; base = n }

    abbrev pub whole_call : List MadeToken
    whole_call = start_tokens ts end k ++ given_all ts end f.call the_call

    -- the body of its procedure
    abbrev the_body : Frame
    the_body = record { next = (head (signs ts) d).stop + 1; stop = closed_at ts end (body_end (signs ts) d); call = Some the_call }

    -- what is left around it
    abbrev the_rest : Frame
    the_rest = record { next = f.next + (close - k) + 2; stop = f.stop; call = f.call }

    pub callee_begun : begins (signs ts) d ≡ true
    callee_begun = is_begun f the_rest the_body (reverse fs) k n d close h t e means

    pub callee_within : d < length ts
    callee_within = is_within f the_rest the_body (reverse fs) k n d close h t e means

    pub callee_open : (q : Pen) → Wrote (text_names ts end) (start_tokens ts end k) p q → IsOpen ts end the_call
    callee_open q wrote = is_open f the_rest the_body (reverse fs) k n d close h t e means p q (fs ++ f ∷ []) w wrote

    pub callee_counted : count (signs ts) k ≡ (head (signs ts) d).params
    callee_counted = counted ts end is.accepted k (let s = h.stands in s.within) t d means

    pub arguments_stand : StandIn ts end f.call k close
    arguments_stand = arguments_in ts end s is f.call k close h.stands t e

    pub close_up : (k < close) × (close < length ts)
    close_up = let c = closed_in (signs ts) (k + 1) close (call_within (signs ts) k t) e in
        let a = length-map ts (λ (t : TokenAt). sign_of t.bytes) in (omega (arith, c), omega (arith, c, a))

    pub count_at : slice_index_or s.marks.counts.items d 0 ≡ length (replaced_at ts end (procedure (signs ts) d))
    count_at = let m = is.marks in let a = m.all in a.count d callee_within callee_begun

    pub counts_long : length s.marks.counts.items ≡ length ts
    counts_long = let m = is.marks in let a = m.all in a.counted

    pub given_small : n + length (replaced_at ts end (procedure (signs ts) d)) ≤ 1099512676352
    given_small = let a = w.few in let b = few_written (text_names ts end) p w.pen in let c = replaced_few ts end s is d callee_within callee_begun in
        omega (arith, a, b, c)

    -- the whole would be too long
    pub call_long : IsTooLong p whole_call → IsWholeTooLong ts end outer p (fs ++ f ∷ []) n
    call_long g = whole_long p fs f whole_call
        (left ts end outer (the_body ∷ the_rest ∷ reverse fs) (n + length (replaced_at ts end (procedure (signs ts) d)))) n
        (call_opened f the_rest the_body (reverse fs) k n d close h t e means refl refl refl refl refl refl) g

  -- ---- all of it

  pub starts : (p : Pen) (hs : List Frame) (f : Frame) → IsPen (text_names ts end) p → written p ≡ [] → hs ≡ f ∷ [] → f.next ≡ 0 → f.stop ≡ length outer
      → f.call ≡ None → IsWriting ts end outer p hs 0 × (whole ts end outer p hs 0 ≡ expansion ts end)
  starts p hs f h none e u v c = (
    record {
      pen = h;
      frames = subst (All (IsFrame ts end outer)) (sym e) (one_frame f (record {
        outside = λ z. v;
        inside = λ b z. absurd (let y = sym c ∙ z in cc);
      }));
      few = omega arith;
    },
    ap (λ x. x ++ left ts end outer (reverse hs) 0) none ∙ ap (λ r. left ts end outer (reverse r) 0) e
        ∙ left_all ts end outer f is.outer u c,
  )
