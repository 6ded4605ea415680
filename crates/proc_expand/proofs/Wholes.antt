-- A text without refusal: its procedures are whole and apart, and its calls mean them.
use Rattle.std.proofs.Common.{◌≡◌, ℕ, zero, suc, ◌+◌, ◌-◌, ◌*◌, ◌<◌, ◌≤◌, Bool, true, false, not, ◌&&◌, ◌||◌, List, [], ◌∷◌, length, drop, Option, Some, None, nat_eq, nat_lt, refl, sym, ap, ◌∙◌, subst, arith}
use Rattle.std.specs.Prelude.{if◌then◌else◌}
use Rattle.std.proofs.lemmas.List.{length-map}
use Rattle.jade_base.specs.declared.place.Pos.{Pos}
use Rattle.jade_lexer.specs.Lexemes.{TokenAt}
use Rattle.jade_syntax.specs.Numbering.{same_name}
use Rattle.name_scope.proofs.Kept.{same_from}
use Rattle.proc_expand.specs.declared.sign.Bracket.{Bracket}
use Rattle.proc_expand.specs.declared.sign.Bracket.TheVariants.{Curly}
use Rattle.proc_expand.specs.declared.sign.Sign.{Sign}
use Rattle.proc_expand.specs.declared.sign.Sign.TheVariants.{Opens}
use Rattle.proc_expand.specs.declared.sign.End.{End}
use Rattle.proc_expand.specs.declared.sign.End.TheVariants.{Closed, Wrong, Never}
use Rattle.proc_expand.specs.declared.refusal.Reason.{Reason}
use Rattle.proc_expand.specs.declared.refusal.Reason.TheVariants.{Shape, Unknown, Count, Twice}
use Rattle.proc_expand.specs.declared.refusal.Refusal.{Refusal}
use Rattle.proc_expand.specs.Words.{signs, sign_of, at, before, bytes_at, some, first, or_here, open_before, is_proc, is_called, is_comma, is_semicolon, is_else, is_after, ends_item, opens_curly, closing, is_closed, closes_before, fails_at, end_place}
use Rattle.proc_expand.specs.Refusals.{begins, is_outer_main, head, body_end, proc_fails, is_call, call_end, call_fails, ends_empty, ending_fails, count, is_shape, misplaced, within, is_named, if_before, meant, is_none, is_unknown, counts_other, is_count, repeats_name, repeats_param, is_twice, reason, or_reason, first_reason, refusal}
use Rattle.proc_expand.specs.steps.Frames.{newest_named}
use Rattle.proc_expand.proofs.First.{by_case, eq_true, eq_false, eq_same, lt_true, lt_false, first_below, both_left, both_right, both_true}
use Rattle.proc_expand.proofs.Nested.{closed_within, closed_in, closing_opens}
use Rattle.proc_expand.proofs.Heads.{curly_is, lies_within}
use Rattle.proc_expand.proofs.Depths.{head_ok, within_brackets, closed_inside}
use Rattle.proc_expand.proofs.WholeHeads.{nth_drop, head_up, head_long, head_named, head_opens}
use Rattle.proc_expand.proofs.Outside.{end_up}

none_of : (a b : Bool) → (a || b) ≡ false → (a ≡ false) × (b ≡ false)
none_of true b h = absurd (cc)
none_of false b h = (refl, h)

pub some_none : (n : ℕ) (p : ℕ → Bool) (k : ℕ) → some n p ≡ false → k < n → p k ≡ false
some_none zero p k h l = absurd (omega (arith, l))
some_none (suc n) p k h l =
    let b = none_of (some n p) (p n) h in
    by_case (nat_eq k n) (λ e. ap p (eq_true k n e) ∙ b.1) (λ e. let d = eq_false k n e in some_none n p k b.0 (omega (arith, l, d)))

if_true : (a b : Bool) → a ≡ true → (a && b) ≡ false → b ≡ false
if_true true b e h = h
if_true false b e h = absurd (cc)

-- ---- no reason at any place

no_reason : (n : ℕ) (why : ℕ → Option Reason) (k : ℕ) → first_reason n why ≡ None → k < n → why k ≡ None
no_reason zero why k h l = absurd (omega (arith, l))
no_reason (suc n) why k h l =
    let b = both (first_reason n why) (why n) h in
    by_case (nat_eq k n) (λ e. ap why (eq_true k n e) ∙ b.1) (λ e. let d = eq_false k n e in no_reason n why k b.0 (omega (arith, l, d)))
  where
    both : (a : Option Refusal) (w : Option Reason) → or_reason a w n ≡ None → (a ≡ None) × (w ≡ None)
    both (Some r) w h = absurd (cc)
    both None (Some v) h = absurd (cc)
    both None None h = (refl, refl)

record NoReason (s u c t : Bool) : Type 0 where
  shape : s ≡ false
  unknown : u ≡ false
  count : c ≡ false
  twice : t ≡ false

none_holds : (s u c t : Bool)
    → (if s then Some Shape else (if u then Some Unknown else (if c then Some Count else (if t then Some Twice else None)))) ≡ None → NoReason s u c t
none_holds true u c t h = absurd (cc)
none_holds false true c t h = absurd (cc)
none_holds false false true t h = absurd (cc)
none_holds false false false true h = absurd (cc)
none_holds false false false false h = record { shape = refl; unknown = refl; count = refl; twice = refl }

closed_if : (n : ℕ) (e : End) → end_place n e ≤ n → ((k : ℕ) → k ≤ n → fails_at n e k ≡ false) → e ≡ Closed (end_place n e)
closed_if n (Closed j) l h = refl
closed_if n (Wrong j) l h = absurd (let a = sym (eq_same j) ∙ h j l in cc)
closed_if n Never l h = absurd (let a = sym (eq_same n) ∙ h n (omega arith) in cc)

hold : (n : ℕ) (p : ℕ → Bool) (j : ℕ) → first n p ≡ Some j → p j ≡ true
hold zero p j e = absurd (cc)
hold (suc n) p j e = by (first n p) (p n) refl refl e (hold n p j)
  where
    by : (a : Option ℕ) (x : Bool) → first n p ≡ a → p n ≡ x → or_here a x n ≡ Some j → (first n p ≡ Some j → p j ≡ true) → p j ≡ true
    by (Some i) x f y g go = go (f ∙ g)
    by None true f y g go = let s : n ≡ j = cc in ap p (sym s) ∙ y
    by None false f y g go = absurd (cc)

pub some_at : (n : ℕ) (p : ℕ → Bool) (k : ℕ) → k < n → p k ≡ true → some n p ≡ true
some_at n p k l h = by_case (some n p) (λ e. e) (λ e. absurd (let f = sym h ∙ some_none n p k e l in cc))

module _ (ts : List TokenAt) (pos : Pos) (ok : refusal ts ≡ None) where
  abbrev ss : List Sign
  ss = signs ts

  as_many : length (signs ts) ≡ length ts
  as_many = length-map ts (λ (t : TokenAt). sign_of t.bytes)

  abbrev pub stop_of : ℕ → ℕ
  stop_of p = (head (signs ts) p).stop

  abbrev pub end_of_body : ℕ → ℕ
  end_of_body p = end_place (length ts) (body_end (signs ts) p)

  abbrev pub end_of_call : ℕ → ℕ
  end_of_call k = end_place (length ts) (call_end (signs ts) k)

  nothing : (k : ℕ) → k ≤ length ts → NoReason (is_shape (signs ts) k) (is_unknown ts k) (is_count ts k) (is_twice ts k)
  nothing k l = none_holds (is_shape (signs ts) k) (is_unknown ts k) (is_count ts k) (is_twice ts k)
      (no_reason (suc (length ts)) (reason ts) k ok (omega (arith, l)))

  -- no `;` stands within the brackets of a call before it
  pub not_within : (j : ℕ) → j ≤ length ts → within (signs ts) j ≡ false
  not_within j m =
      let a = none_of (some (length (signs ts)) (λ p. begins (signs ts) p && proc_fails (signs ts) p j))
      (misplaced (signs ts) j || (within (signs ts) j || some (length (signs ts)) (λ c. is_call (signs ts) c && call_fails (signs ts) c j)))
      (nothing j m).shape in
      let b = none_of (misplaced (signs ts) j)
      (within (signs ts) j || some (length (signs ts)) (λ c. is_call (signs ts) c && call_fails (signs ts) c j)) a.1 in
      (none_of (within (signs ts) j) (some (length (signs ts)) (λ c. is_call (signs ts) c && call_fails (signs ts) c j)) b.1).0

  -- ---- procedures

  module _ (p : ℕ) (l : p < length ts) (b : begins (signs ts) p ≡ true) where
    inside : p < length (signs ts)
    inside = let a = as_many in omega (arith, a, l)

    not_failing : (k : ℕ) → k ≤ length ts → proc_fails (signs ts) p k ≡ false
    not_failing k m =
        let s = (none_of (some (length (signs ts)) (λ p. begins (signs ts) p && proc_fails (signs ts) p k))
        (misplaced (signs ts) k || (within (signs ts) k || some (length (signs ts)) (λ c. is_call (signs ts) c && call_fails (signs ts) c k)))
        (nothing k m).shape).0 in
        if_true (begins (signs ts) p) (proc_fails (signs ts) p k) b
        (some_none (length (signs ts)) (λ p. begins (signs ts) p && proc_fails (signs ts) p k) p s inside)

    pub fits : (head (signs ts) p).fits ≡ true
    fits = by_case (head (signs ts) p).fits (λ e. e) (λ e. absurd (stuck e))
      where
        stuck : (head (signs ts) p).fits ≡ false → ⊥
        stuck e =
            let up = head_up (signs ts) p inside in let a = as_many in
            let f = sym (ap (λ (t : Bool). if t then fails_at (length (signs ts)) (body_end (signs ts) p) (stop_of p) else nat_eq (stop_of p) (stop_of p)) e)
            ∙ not_failing (stop_of p) (omega (arith, up, a)) in
            let g = sym (eq_same (stop_of p)) ∙ f in cc

    is_body : body_end (signs ts) p ≡ closing (signs ts) (stop_of p)
    is_body = ap (λ (t : Bool). if t then closing (signs ts) (stop_of p) else Never) fits

    pub body_closed : body_end (signs ts) p ≡ Closed (end_of_body p)
    body_closed =
        closed_if (length ts) (body_end (signs ts) p)
        (let u = end_up (signs ts) (stop_of p) (body_end (signs ts) p) (sym is_body) in
        subst (λ n. end_place n (body_end (signs ts) p) ≤ n) as_many u)
        (λ k m. ap (λ n. fails_at n (body_end (signs ts) p) k) (sym as_many)
        ∙ ap (λ (t : Bool). if t then fails_at (length (signs ts)) (body_end (signs ts) p) k else nat_eq (stop_of p) k) (sym fits) ∙ not_failing k m)

    pub stop_opens : opens_curly (at (signs ts) (stop_of p)) ≡ true
    stop_opens = head_opens (signs ts) p inside fits

    stop_in : stop_of p < length (signs ts)
    stop_in = lies_within (signs ts) (stop_of p) opens_curly refl stop_opens

    pub closes : closing (signs ts) (stop_of p) ≡ Closed (end_of_body p)
    closes = sym is_body ∙ body_closed

    pub body_in : (stop_of p < end_of_body p) × (end_of_body p < length ts)
    body_in =
        let c = closed_in (signs ts) (stop_of p) (end_of_body p) stop_in closes in
        let d = closed_within (drop (stop_of p + 1) (signs ts)) (Curly ∷ []) (stop_of p + 1) (end_of_body p)
        (sym (closing_opens (signs ts) (stop_of p) Curly stop_in (curly_is (at (signs ts) (stop_of p)) stop_opens)) ∙ closes) in
        let a = as_many in (omega (arith, d), omega (arith, c, a))

    pub stop_within : stop_of p < length ts
    stop_within = let s = stop_in in let a = as_many in omega (arith, s, a)

    pub params_long : p + 1 + 3 * (head (signs ts) p).params ≤ stop_of p
    params_long = head_long (signs ts) p inside

    pub is_called_so : is_called (at (signs ts) (p + 1)) ≡ true
    is_called_so = head_named (signs ts) p inside fits

    -- what opens in its body is closed before it
    pub encloses : (i j : ℕ) (a : Bracket) → i < length (signs ts) → at (signs ts) i ≡ Opens a → closing (signs ts) i ≡ Closed j → stop_of p < i → i ≤ end_of_body p
        → j < end_of_body p
    encloses i j a m g f n w =
        closed_inside (signs ts) (stop_of p) i j (end_of_body p) a Curly stop_in (curly_is (at (signs ts) (stop_of p)) stop_opens) closes m g f n w

    -- no other begins before its end
    pub apart : (q : ℕ) → p < q → q ≤ end_of_body p → begins (signs ts) q ≡ false
    apart q m n =
        by_case (nat_lt (stop_of p) q)
        (λ e. inside_it (let o = within_brackets (signs ts) (stop_of p) (end_of_body p) q Curly stop_in (curly_is (at (signs ts) (stop_of p)) stop_opens) closes (lt_true (stop_of p) q e) n in o))
        (λ e. by_case (nat_eq q (stop_of p)) (λ f. other (ap (λ i. is_proc (at (signs ts) i)) (eq_true q (stop_of p) f) ∙ curly (at (signs ts) (stop_of p)) stop_opens))
        (λ f. other (let g = lt_false (stop_of p) q e in let d = eq_false q (stop_of p) f in head_sign (omega (arith, g, d)))))
      where
        curly : (s : Sign) → opens_curly s ≡ true → is_proc s ≡ false
        curly s h = ap is_proc (curly_is s h)

        none_after : (a b : Bool) → ((a && b) && false) ≡ false
        none_after true true = refl
        none_after true false = refl
        none_after false b = refl

        other : is_proc (at (signs ts) q) ≡ false → begins (signs ts) q ≡ false
        other h =
            ap (λ t. nat_eq (open_before (signs ts) q) 0 && not (some q (is_outer_main (signs ts))) && (t && (nat_eq q 0 || ends_item (before (signs ts) q)))) h
            ∙ none_after (nat_eq (open_before (signs ts) q) 0) (not (some q (is_outer_main (signs ts))))

        inside_it : 0 < open_before (signs ts) q → begins (signs ts) q ≡ false
        inside_it h =
            ap (λ t. t && not (some q (is_outer_main (signs ts))) && (is_proc (at (signs ts) q) && (nat_eq q 0 || ends_item (before (signs ts) q))))
            (by_case (nat_eq (open_before (signs ts) q) 0) (λ e. absurd (let z = eq_true (open_before (signs ts) q) 0 e in omega (arith, z, h))) (λ e. e))

        head_sign : q < stop_of p → is_proc (at (signs ts) q) ≡ false
        head_sign g =
            let e : q ≡ p + 1 + (q - (p + 1)) = omega (arith, m) in
            ap (λ i. is_proc (at (signs ts) i)) e ∙ ap is_proc (sym (nth_drop (signs ts) (p + 1) (q - (p + 1))))
            ∙ head_ok (drop (p + 1) (signs ts)) (p + 1) (q - (p + 1)) fits (omega (arith, g, e))

  -- ---- calls

  module _ (k : ℕ) (l : k < length ts) (c : is_call (signs ts) k ≡ true) where
    pub call_not_failing : (j : ℕ) → j ≤ length ts → call_fails (signs ts) k j ≡ false
    call_not_failing j m =
        let a = none_of (some (length (signs ts)) (λ p. begins (signs ts) p && proc_fails (signs ts) p j))
        (misplaced (signs ts) j || (within (signs ts) j || some (length (signs ts)) (λ c. is_call (signs ts) c && call_fails (signs ts) c j)))
        (nothing j m).shape in
        let b = none_of (misplaced (signs ts) j)
        (within (signs ts) j || some (length (signs ts)) (λ c. is_call (signs ts) c && call_fails (signs ts) c j)) a.1 in
        let d = none_of (within (signs ts) j) (some (length (signs ts)) (λ c. is_call (signs ts) c && call_fails (signs ts) c j)) b.1 in
        if_true (is_call (signs ts) k) (call_fails (signs ts) k j) c
        (some_none (length (signs ts)) (λ c. is_call (signs ts) c && call_fails (signs ts) c j) k d.1 (let e = as_many in omega (arith, e, l)))

    last_of_three : (x y z w : Bool) → (x || (y || (z || w))) ≡ false → w ≡ false
    last_of_three true y z w h = absurd (cc)
    last_of_three false true z w h = absurd (cc)
    last_of_three false false true w h = absurd (cc)
    last_of_three false false false w h = h

    pub call_closed : call_end (signs ts) k ≡ Closed (end_of_call k)
    call_closed =
        closed_if (length ts) (call_end (signs ts) k)
        (let u = end_up (signs ts) (k + 1) (call_end (signs ts) k) refl in subst (λ n. end_place n (call_end (signs ts) k) ≤ n) as_many u)
        (λ j m. ap (λ n. fails_at n (call_end (signs ts) k) j) (sym as_many) ∙ fails j m)
      where
        fails : (j : ℕ) → j ≤ length ts → fails_at (length (signs ts)) (call_end (signs ts) k) j ≡ false
        fails j m = last_of_three
            (is_after 0 (call_end (signs ts) k) j && is_comma (before (signs ts) j))
            (is_after 1 (call_end (signs ts) k) j && not (is_semicolon (at (signs ts) j)))
            (is_after 2 (call_end (signs ts) k) j && (is_semicolon (before (signs ts) j) && is_else (at (signs ts) j)))
            (fails_at (length (signs ts)) (call_end (signs ts) k) j)
            (none_of (ends_empty (signs ts) k j) (ending_fails (signs ts) (call_end (signs ts) k) j) (call_not_failing j m)).1

    pub is_meant : is_none (meant ts k) ≡ false
    is_meant = if_true (is_call (signs ts) k) (is_none (meant ts k)) c (nothing k (omega (arith, l))).unknown

    pub counted : (d : ℕ) → meant ts k ≡ Some d → count (signs ts) k ≡ (head (signs ts) d).params
    counted d e =
        eq_true (count (signs ts) k) (head (signs ts) d).params (so (nat_eq (count (signs ts) k) (head (signs ts) d).params)
        (ap (counts_other (signs ts) k) (sym e) ∙ third (is_call (signs ts) k) (is_closed (call_end (signs ts) k)) (counts_other (signs ts) k (meant ts k)) c
        (ap is_closed call_closed) (nothing k (omega (arith, l))).count))
      where
        so : (t : Bool) → not t ≡ false → t ≡ true
        so true h = refl
        so false h = absurd (cc)

        third : (x y z : Bool) → x ≡ true → y ≡ true → ((x && y) && z) ≡ false → z ≡ false
        third true true z f g h = h
        third true false z f g h = absurd (cc)
        third false y z f g h = absurd (cc)

    -- the procedure that it means
    pub record IsMeant (d : ℕ) : Type 0 where
      pub found : meant ts k ≡ Some d
      pub within : d < length ts
      pub begun : begins (signs ts) d ≡ true
      pub same : same_name (bytes_at ts k) (bytes_at ts (d + 1)) ≡ true
      pub ended : end_of_body d < k

    pub meant_is : (d : ℕ) → meant ts k ≡ Some d → IsMeant d
    meant_is d e =
        let a = before_it (first (length ts) (is_named ts (bytes_at ts k))) e in
        let n = first_holds (length ts) (is_named ts (bytes_at ts k)) d a.0 in
        let m = first_in (length ts) (is_named ts (bytes_at ts k)) d a.0 in
        let b = both_left (begins (signs ts) d) (is_called (at (signs ts) (d + 1))) (both_left (begins (signs ts) d && is_called (at (signs ts) (d + 1))) (same_name (bytes_at ts k) (bytes_at ts (d + 1))) n) in
        record {
          found = e;
          within = m;
          begun = b;
          same = both_right (begins (signs ts) d && is_called (at (signs ts) (d + 1))) (same_name (bytes_at ts k) (bytes_at ts (d + 1))) n;
          ended = lt_true (end_of_body d) k (ap (λ e. closes_before e k) (sym (body_closed d m b)) ∙ a.1);
        }
      where
        before_it : (a : Option ℕ) → if_before (signs ts) k a ≡ Some d → (a ≡ Some d) × (closes_before (body_end (signs ts) d) k ≡ true)
        before_it None h = absurd (cc)
        before_it (Some p) h = by (closes_before (body_end (signs ts) p) k) refl h
          where
            by : (t : Bool) → closes_before (body_end (signs ts) p) k ≡ t → (if t then Some p else None) ≡ Some d
                → (Some p ≡ Some d) × (closes_before (body_end (signs ts) d) k ≡ true)
            by true f g = (g, ap (λ i. closes_before (body_end (signs ts) i) k) (sym (let s : p ≡ d = cc in s)) ∙ f)
            by false f g = absurd (cc)

        first_holds : (n : ℕ) (p : ℕ → Bool) (j : ℕ) → first n p ≡ Some j → p j ≡ true
        first_holds n p j h = hold n p j h

        first_in : (n : ℕ) (p : ℕ → Bool) (j : ℕ) → first n p ≡ Some j → j < n
        first_in n p j h = first_below n p j h

    -- no other of its name begins after it
    pub other : (d q : ℕ) → IsMeant d → d < q → q < length ts → (begins (signs ts) q && same_name (bytes_at ts k) (bytes_at ts (q + 1))) ≡ false
    other d q h m n = by_case (begins (signs ts) q && same_name (bytes_at ts k) (bytes_at ts (q + 1))) (λ e. absurd (stuck e)) (λ e. e)
      where
        stuck : (begins (signs ts) q && same_name (bytes_at ts k) (bytes_at ts (q + 1))) ≡ true → ⊥
        stuck e =
            let b = both_left (begins (signs ts) q) (same_name (bytes_at ts k) (bytes_at ts (q + 1))) e in
            let s = both_right (begins (signs ts) q) (same_name (bytes_at ts k) (bytes_at ts (q + 1))) e in
            let x = bytes_at ts (q + 1) in
            let same : bytes_at ts k ≡ x = same_from (bytes_at ts k) x s in
            let named : is_named ts x d ≡ true =
            both_true (begins (signs ts) d && is_called (at (signs ts) (d + 1))) (same_name x (bytes_at ts (d + 1)))
            (both_true (begins (signs ts) d) (is_called (at (signs ts) (d + 1))) h.begun (is_called_so d h.within h.begun))
            (ap (λ y. same_name y (bytes_at ts (d + 1))) (sym same) ∙ h.same) in
            let repeats : repeats_name ts q (q + 1) ≡ true =
            both_true (nat_eq (q + 1) (q + 1) && is_called (at (signs ts) (q + 1))) (some q (is_named ts x))
            (both_true (nat_eq (q + 1) (q + 1)) (is_called (at (signs ts) (q + 1))) (eq_same (q + 1)) (is_called_so q n b))
            (some_at q (is_named ts x) d m named) in
            let not_twice = some_none (length ts) (λ p. begins (signs ts) p && (repeats_name ts p (q + 1) || repeats_param ts p (head (signs ts) p).params (q + 1))) q
            (nothing (q + 1) (omega (arith, n))).twice n in
            let c = if_true (begins (signs ts) q) (repeats_name ts q (q + 1) || repeats_param ts q (head (signs ts) q).params (q + 1)) b not_twice in
            let f = (none_of (repeats_name ts q (q + 1)) (repeats_param ts q (head (signs ts) q).params (q + 1)) c).0 in
            let g = sym repeats ∙ f in cc

    -- it is the newest of its name before any later place
    pub newest : (d q : ℕ) → IsMeant d → d < q → q ≤ length ts → newest_named ts pos q (bytes_at ts k) ≡ Some d
    newest d zero h m n = absurd (omega (arith, m))
    newest d (suc q) h m n =
        by_case (nat_eq d q)
        (λ e. let is = eq_true d q e in
        ap (λ t. if t then Some q else newest_named ts pos q (bytes_at ts k))
        (both_true (begins (signs ts) q) (same_name (bytes_at ts k) (bytes_at ts (q + 1))) (ap (begins (signs ts)) (sym is) ∙ h.begun)
        (ap (λ i. same_name (bytes_at ts k) (bytes_at ts (i + 1))) (sym is) ∙ h.same)) ∙ ap Some (sym is))
        (λ e. let f = eq_false d q e in let less : d < q = omega (arith, m, f) in
        ap (λ t. if t then Some q else newest_named ts pos q (bytes_at ts k)) (other d q h less (omega (arith, n)))
        ∙ newest d q h less (omega (arith, n)))
