-- What is known of the procedures and calls of a text that is not refused.
use Rattle.std.proofs.Common.{◌≡◌, ℕ, zero, suc, ◌+◌, ◌<◌, ◌≤◌, Bool, true, false, ◌&&◌, ◌||◌, nat_eq, nat_lt, List, [], ◌∷◌, Option, Some, None, length, drop, refl, sym, ap, ◌∙◌, subst, arith}
use Rattle.std.specs.Prelude.{not}
use Rattle.std.proofs.lemmas.Bool.{eq-eqb, eqb-true, ltb-true, lt-ltb}
use Rattle.jade_base.specs.declared.place.Pos.{Pos}
use Rattle.jade_lexer.specs.Lexemes.{TokenAt}
use Rattle.jade_syntax.specs.Numbering.{same_name}
use Rattle.proc_expand.specs.declared.sign.Bracket.TheVariants.{Round, Curly}
use Rattle.proc_expand.specs.declared.sign.Sign.{Sign}
use Rattle.proc_expand.specs.declared.sign.Sign.TheVariants as mark
use Rattle.proc_expand.specs.declared.sign.End.{End}
use Rattle.proc_expand.specs.declared.sign.End.TheVariants.{Closed}
use Rattle.proc_expand.specs.Words.{signs, at, before, bytes_at, some, is_comma, is_semicolon, is_else, opens_curly, closes_round, closing_from, is_after, fails_at, end_place}
use Rattle.proc_expand.specs.Refusals.{begins, head, is_call, call_end, ends_empty, ending_fails, count, meant, is_none, within, refusal}
use Rattle.proc_expand.proofs.Wholes as wholes
use Rattle.proc_expand.proofs.Wholes.{some_at, IsMeant}
use Rattle.proc_laws.proofs.Basics.{by_case, no_both}
use Rattle.proc_laws.proofs.PlacesInText.{plus_one}
use Rattle.proc_laws.proofs.TokensAhead.{closing_low}
use Rattle.proc_laws.proofs.CallsRead.{Either, Resolved, Sure, Chain, CallSound, Facts}
use Rattle.proc_laws.proofs.CallsStand.{opens_is, name_here, opens_here}
use Rattle.proc_laws.proofs.CallsWalk.{called_is, sign_here}
use Rattle.proc_laws.proofs.HeadsRead.{ends_with}
use Rattle.proc_laws.proofs.Begun.{newest, begun}

-- ---- signs

-- where some sign stands there is a token
pub there : (us : List TokenAt) (k : ℕ) (s : Sign) → at (signs us) k ≡ s → (s ≡ mark.Other → ⊥) → k < length us
there [] k s h n = absurd (n (sym h))
there (t ∷ us) zero s h n = omega arith
there (t ∷ us) (suc k) s h n = let l = there us k s h n in omega (arith, l)

lt_false : (a b : ℕ) → nat_lt a b ≡ false → b ≤ a
lt_false a b e = let f : a < b → ⊥ = λ q. absurd (no_both (nat_lt a b) (lt-ltb a b q) e) in omega (arith, f)

curly_is : (s : Sign) → opens_curly s ≡ true → s ≡ mark.Opens Curly
curly_is (mark.Opens Curly) h = refl
curly_is s h = absurd (cc)

end_is : (s : Sign) → is_semicolon s ≡ true → s ≡ mark.Semicolon
end_is mark.Semicolon h = refl
end_is s h = absurd (cc)

module _ (ts : List TokenAt) (end : Pos) (ok : refusal ts ≡ None) where
  -- ---- calls

  call_there : (k : ℕ) → is_call (signs ts) k ≡ true → k < length ts
  call_there k c = there ts k mark.Called (called_is (at (signs ts) k) (name_here ts end k c)) (λ e. absurd (cc))

  abbrev last_of : ℕ → ℕ
  last_of k = wholes.end_of_call ts end ok k

  closed_so : (k : ℕ) → is_call (signs ts) k ≡ true → call_end (signs ts) k ≡ Closed (last_of k)
  closed_so k c = wholes.call_closed ts end ok k (call_there k c) c

  closed_from : (k : ℕ) → is_call (signs ts) k ≡ true → closing_from (Round ∷ []) (suc k + 1) (drop (suc (suc k)) (signs ts)) ≡ Closed (last_of k)
  closed_from k c =
      let o = opens_is (at (signs ts) (suc k)) (opens_here ts end k c) in
      sym (ap (closing_from [] (suc k)) (sign_here (signs ts) (suc k) (mark.Opens Round) o (λ e. absurd (cc))))
      ∙ ap (λ (i : ℕ). closing_from [] i (drop i (signs ts))) (sym (plus_one k)) ∙ closed_so k c

  last_closes : (k : ℕ) → is_call (signs ts) k ≡ true → at (signs ts) (last_of k) ≡ mark.Closes Round
  last_closes k c =
      let e : suc k + 1 ≡ suc (suc k) = plus_one (suc k) in
      ends_with ts end (drop (suc (suc k)) (signs ts)) [] Round (suc k + 1) (last_of k) (ap (λ (i : ℕ). drop i (signs ts)) e) (closed_from k c)

  last_in : (k : ℕ) → is_call (signs ts) k ≡ true → last_of k < length ts
  last_in k c = there ts (last_of k) (mark.Closes Round) (last_closes k c) (λ e. absurd (cc))

  -- the four ways in which a call ends badly
  record NoFailure (a b d e : Bool) : Type 0 where
    second : b ≡ false
    third : d ≡ false

  no_failure : (z a b d e : Bool) → (z || (a || (b || (d || e)))) ≡ false → NoFailure a b d e
  no_failure true a b d e h = absurd (cc)
  no_failure false true b d e h = absurd (cc)
  no_failure false false true d e h = absurd (cc)
  no_failure false false false true e h = absurd (cc)
  no_failure false false false false e h = record { second = refl; third = refl }

  fails_not : (k j : ℕ) → is_call (signs ts) k ≡ true → j ≤ length ts → NoFailure
      (is_after 0 (Closed (last_of k)) j && is_comma (before (signs ts) j))
      (is_after 1 (Closed (last_of k)) j && not (is_semicolon (at (signs ts) j)))
      (is_after 2 (Closed (last_of k)) j && (is_semicolon (before (signs ts) j) && is_else (at (signs ts) j)))
      (fails_at (length (signs ts)) (Closed (last_of k)) j)
  fails_not k j c l =
      no_failure (ends_empty (signs ts) k j)
      (is_after 0 (Closed (last_of k)) j && is_comma (before (signs ts) j))
      (is_after 1 (Closed (last_of k)) j && not (is_semicolon (at (signs ts) j)))
      (is_after 2 (Closed (last_of k)) j && (is_semicolon (before (signs ts) j) && is_else (at (signs ts) j)))
      (fails_at (length (signs ts)) (Closed (last_of k)) j)
      (ap (λ (e : End). ends_empty (signs ts) k j || ending_fails (signs ts) e j) (sym (closed_so k c))
      ∙ wholes.call_not_failing ts end ok k (call_there k c) c j l)

  then_so : (a b : Bool) → a ≡ true → (a && not b) ≡ false → b ≡ true
  then_so true true h g = refl
  then_so true false h g = absurd (cc)
  then_so false b h g = absurd (cc)

  none_then : (a b c : Bool) → a ≡ true → b ≡ true → c ≡ true → (a && (b && c)) ≡ false → ⊥
  none_then true true true h g i e = absurd (cc)
  none_then a b false h g i e = absurd (cc)
  none_then a false c h g i e = absurd (cc)
  none_then false b c h g i e = absurd (cc)

  last_ends : (k : ℕ) → is_call (signs ts) k ≡ true → at (signs ts) (suc (last_of k)) ≡ mark.Semicolon
  last_ends k c =
      let l = last_in k c in
      end_is (at (signs ts) (suc (last_of k)))
      (then_so (nat_eq (last_of k + 1) (suc (last_of k))) (is_semicolon (at (signs ts) (suc (last_of k))))
      (eq-eqb (last_of k + 1) (suc (last_of k)) (plus_one (last_of k)))
      (fails_not k (suc (last_of k)) c (omega (arith, l))).second)

  no_else_then : (k : ℕ) → is_call (signs ts) k ≡ true → at (signs ts) (suc (suc (last_of k))) ≡ mark.Else → ⊥
  no_else_then k c h =
      let j = suc (suc (last_of k)) in
      let l = there ts j mark.Else h (λ e. absurd (cc)) in
      let two : last_of k + 2 ≡ j = omega arith in
      none_then (nat_eq (last_of k + 2) j) (is_semicolon (at (signs ts) (suc (last_of k)))) (is_else (at (signs ts) j)) (eq-eqb (last_of k + 2) j two)
      (ap is_semicolon (last_ends k c)) (ap is_else h) (fails_not k j c (omega (arith, l))).third

  quiet_in : (k j : ℕ) → is_call (signs ts) k ≡ true → suc (suc k) ≤ j → j < last_of k → at (signs ts) j ≡ mark.Semicolon → ⊥
  quiet_in k j c l u h =
      let m = last_in k c in
      let reach : ℕ → Bool = λ i. is_call (signs ts) i && nat_lt j (end_place (length (signs ts)) (call_end (signs ts) i)) in
      let far : nat_lt j (end_place (length (signs ts)) (call_end (signs ts) k)) ≡ true =
      ap (λ (e : End). nat_lt j (end_place (length (signs ts)) e)) (closed_so k c) ∙ lt-ltb j (last_of k) u in
      let this : reach k ≡ true = (λ i. c i && far i) in
      let some_call : some j reach ≡ true = some_at j reach k (omega (arith, l)) this in
      let not_so : within (signs ts) j ≡ false = wholes.not_within ts end ok j (omega (arith, u, m)) in
      let is_so : within (signs ts) j ≡ true = (λ i. is_semicolon (h i) && some_call i) in
      no_both (within (signs ts) j) is_so not_so

  pub call_sound : (k : ℕ) → is_call (signs ts) k ≡ true → CallSound ts end k
  call_sound k c = record {
    last = last_of k;
    closed = closed_so k c;
    bracket = ap closes_round (last_closes k c);
    below = there ts (suc (last_of k)) mark.Semicolon (last_ends k c) (λ e. absurd (cc));
    ends = last_ends k c;
    no_else = no_else_then k c;
    quiet = λ j l u h. quiet_in k j c l u h;
    room = let l = closing_low (Round ∷ []) (suc k + 1) (last_of k) (drop (suc (suc k)) (signs ts)) (closed_from k c) in omega (arith, l);
  }

  -- ---- what calls mean

  -- it is the last procedure of its name that begins before a place
  resolved : (n k d : ℕ) (l : k < length ts) (c : is_call (signs ts) k ≡ true) → IsMeant ts end ok k l c d → d < n → n ≤ length ts
      → Resolved ts end (begun (signs ts) n) k
  resolved zero k d l c h m u = absurd (omega (arith, m))
  resolved (suc q) k d l c h m u =
      by_case (nat_eq d q) (λ e. here (eqb-true d q e))
      (λ e. let f = differs e in below (omega (arith, m, f)) (resolved q k d l c h (omega (arith, m, f)) (omega (arith, u))))
    where
      differs : nat_eq d q ≡ false → d ≡ q → ⊥
      differs e f = no_both (nat_eq d q) (eq-eqb d q f) e

      here : d ≡ q → Resolved ts end (newest (begins (signs ts) q) q (begun (signs ts) q)) k
      here e =
          subst (λ b. Resolved ts end (newest b q (begun (signs ts) q)) k) (sym (ap (begins (signs ts)) (sym e) ∙ h.begun))
          (subst (λ b. Either b (count (signs ts) k ≡ (head (signs ts) q).params) (Resolved ts end (begun (signs ts) q) k))
          (sym (ap (λ (i : ℕ). same_name (bytes_at ts k) (bytes_at ts (i + 1))) (sym e) ∙ h.same))
          (wholes.counted ts end ok k l c d h.found ∙ ap (λ (i : ℕ). (head (signs ts) i).params) e))

      below : d < q → Resolved ts end (begun (signs ts) q) k → Resolved ts end (newest (begins (signs ts) q) q (begun (signs ts) q)) k
      below less rest = by (begins (signs ts) q) (wholes.other ts end ok k l c d q h less (omega (arith, u)))
        where
          by : (b : Bool) → (b && same_name (bytes_at ts k) (bytes_at ts (q + 1))) ≡ false → Resolved ts end (newest b q (begun (signs ts) q)) k
          by true e = subst (λ t. Either t (count (signs ts) k ≡ (head (signs ts) q).params) (Resolved ts end (begun (signs ts) q) k)) (sym e) rest
          by false e = rest

  meant_by : {A : Type 0} (o : Option ℕ) → is_none o ≡ false → ((d : ℕ) → o ≡ Some d → A) → A
  meant_by None h f = absurd (cc)
  meant_by (Some d) h f = f d refl

  resolved_before : (n k : ℕ) (l : k < length ts) (c : is_call (signs ts) k ≡ true) → n ≤ length ts → ((d : ℕ) → IsMeant ts end ok k l c d → d < n)
      → Resolved ts end (begun (signs ts) n) k
  resolved_before n k l c u f =
      meant_by (meant ts k) (wholes.is_meant ts end ok k l c)
      (λ d e. let h = wholes.meant_is ts end ok k l c d e in resolved n k d l c h (f d h) u)

  -- what a call before the end of a procedure means begins before that
  before_it : (p k d : ℕ) (m : p < length ts) (b : begins (signs ts) p ≡ true) (l : k < length ts) (c : is_call (signs ts) k ≡ true)
      → k < wholes.end_of_body ts end ok p → IsMeant ts end ok k l c d → d < p
  before_it p k d m b l c u h =
      by_case (nat_lt d p) (λ e. ltb-true d p e)
      (λ e. absurd (by_case (nat_eq p d) (λ f. same (eqb-true p d f)) (λ f. after_it (let g = lt_false d p e in let i = differs f in omega (arith, g, i)))))
    where
      differs : nat_eq p d ≡ false → p ≡ d → ⊥
      differs e f = no_both (nat_eq p d) (eq-eqb p d f) e

      same : p ≡ d → ⊥
      same e =
          let q : wholes.end_of_body ts end ok p < k = subst (λ (i : ℕ). wholes.end_of_body ts end ok i < k) (sym e) h.ended in omega (arith, q, u)

      after_it : p < d → ⊥
      after_it less =
          by_case (nat_lt (wholes.end_of_body ts end ok p) d)
          (λ e. let f = ltb-true (wholes.end_of_body ts end ok p) d e in let g = wholes.params_long ts end ok d h.within h.begun in
          let i = (wholes.body_in ts end ok d h.within h.begun).0 in let j = h.ended in omega (arith, f, g, i, j, u))
          (λ e. no_both (begins (signs ts) d) h.begun (wholes.apart ts end ok p m b d less (lt_false (wholes.end_of_body ts end ok p) d e)))

  -- a procedure, and those that begin before it
  pub sure_of : (p : ℕ) → p < length ts → begins (signs ts) p ≡ true → Sure ts end (begun (signs ts) p) p
  sure_of p l b = record {
    fits = wholes.fits ts end ok p l b;
    last = wholes.end_of_body ts end ok p;
    closed = wholes.closes ts end ok p l b;
    opens = curly_is (at (signs ts) (head (signs ts) p).stop) (wholes.stop_opens ts end ok p l b);
    within = let w = (wholes.body_in ts end ok p l b).1 in omega (arith, w);
    calls = λ k m c. resolved_before p k (call_there k c) c (omega (arith, l)) (λ d h. before_it p k d l b (call_there k c) c m h);
  }

  pub chain_of : (n : ℕ) → n ≤ length ts → Chain ts end (begun (signs ts) n)
  chain_of zero l = tt
  chain_of (suc q) l = by (begins (signs ts) q) refl (chain_of q (omega (arith, l)))
    where
      by : (b : Bool) → begins (signs ts) q ≡ b → Chain ts end (begun (signs ts) q) → Chain ts end (newest b q (begun (signs ts) q))
      by true e before = (sure_of q (omega (arith, l)) e, before)
      by false e before = before

  -- all procedures of the text, and all calls
  pub all_facts : Facts ts end (begun (signs ts) (length ts)) (length ts)
  all_facts = record {
    chain = chain_of (length ts) (omega arith);
    sound = call_sound;
    calls = λ k m c. resolved_before (length ts) k m c (omega arith) (λ d h. h.within);
  }
