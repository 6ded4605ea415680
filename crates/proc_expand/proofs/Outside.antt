-- Places outside of procedures.
use Rattle.std.proofs.Common.{◌≡◌, ℕ, zero, suc, ◌+◌, ◌<◌, ◌≤◌, ◌≢◌, Bool, true, false, not, ◌&&◌, ◌||◌, List, [], ◌∷◌, ◌++◌, length, drop, nat_lt, nat_eq, refl, sym, ap, ◌∙◌, subst, arith}
use Rattle.std.specs.Prelude.{map, nat_le, slice_index_or, if◌then◌else◌}
use Rattle.std.specs.List.{list_any, filter}
use Rattle.std.proofs.lemmas.List.{length-map, map-append, length-append, length-drop}
use Rattle.std.proofs.lemmas.List.Folds.{list_any-append}
use Rattle.std.proofs.lemmas.List.Elements.{filter-append}
use Rattle.std.proofs.Math.Seq.{get_or-append_seam}
use Rattle.std.proofs.Math.ListN.{get_or-append}
use Rattle.std.proofs.lemmas.Bool.{le-leb, lt-leb, leb-true}
use Rattle.jade_base.specs.declared.place.Pos.{Pos}
use Rattle.jade_lexer.specs.Lexemes.{TokenAt}
use Rattle.proc_expand.specs.declared.scan.Scan.{Scan}
use Rattle.proc_expand.specs.declared.procedures.Procedure.{Procedure}
use Rattle.proc_expand.specs.declared.sign.Sign.{Sign}
use Rattle.proc_expand.specs.declared.sign.End.{End}
use Rattle.proc_expand.specs.declared.sign.End.TheVariants.{Closed, Wrong, Never}
use Rattle.proc_expand.specs.Words.{signs, sign_of, those, one_if, some, end_place, closing}
use Rattle.proc_expand.specs.Refusals.{begins, procedure, body_end, head}
use Rattle.proc_expand.specs.steps.Looking.{IsScan}
use Rattle.proc_expand.specs.Written.{in_procedure}
use Rattle.proc_expand.specs.steps.Outside.{Reaches}
use Rattle.proc_expand.proofs.First.{plus_one, by_case, eq_true, eq_false, lt_true, lt_is, lt_false}
use Rattle.proc_expand.proofs.Nested.{closed_within, wrong_within}
use Rattle.proc_expand.proofs.KnownNames.{as_long}

or_none : (a : Bool) → (a || false) ≡ a
or_none true = refl
or_none false = refl

any_those : (f : Procedure → Bool) (g : ℕ → Procedure) (q : ℕ → Bool) (n : ℕ) → list_any f (map g (those n q)) ≡ some n (λ k. q k && f (g k))
any_those f g q zero = refl
any_those f g q (suc n) =
    ap (list_any f) (map-append g (those n q) (one_if (q n) n)) ∙ list_any-append f (map g (those n q)) (map g (one_if (q n) n))
    ∙ ap (λ b. b || list_any f (map g (one_if (q n) n))) (any_those f g q n) ∙ ap (λ b. some n (λ k. q k && f (g k)) || b) (by (q n))
  where
    by : (b : Bool) → list_any f (map g (one_if b n)) ≡ (b && f (g n))
    by true = or_none (f (g n))
    by false = refl

some_same : (n : ℕ) (p q : ℕ → Bool) → ((k : ℕ) → k < n → p k ≡ q k) → some n p ≡ some n q
some_same zero p q h = refl
some_same (suc n) p q h =
    ap (λ b. b || p n) (some_same n p q (λ k l. h k (omega (arith, l)))) ∙ ap (λ b. some n q || b) (h n (omega arith))

-- none after a place has it
some_up : (n k : ℕ) (p : ℕ → Bool) → k < n → ((j : ℕ) → k < j → p j ≡ false) → some n p ≡ some (suc k) p
some_up zero k p l h = absurd (omega (arith, l))
some_up (suc n) k p l h =
    by_case (nat_eq k n) (λ e. ap (λ i. some (suc i) p) (sym (eq_true k n e)))
    (λ e. let d = eq_false k n e in let m : k < n = omega (arith, l, d) in
    ap (λ b. some n p || b) (h n m) ∙ or_none (some n p) ∙ some_up n k p m h)

-- ---- where bodies end

pub end_up : (ss : List Sign) (k : ℕ) (e : End) → closing ss k ≡ e → end_place (length ss) e ≤ length ss
end_up ss k (Closed j) h = let w = closed_within (drop k ss) [] k j h in let d = length-drop k ss in omega (arith, w, d)
end_up ss k (Wrong j) h = let w = wrong_within (drop k ss) [] k j h in let d = length-drop k ss in omega (arith, w, d)
end_up ss k Never h = omega arith

pub body_up : (ss : List Sign) (p : ℕ) → end_place (length ss) (body_end ss p) ≤ length ss
body_up ss p = by (head ss p).fits
  where
    by : (b : Bool) → end_place (length ss) (if b then closing ss (head ss p).stop else Never) ≤ length ss
    by true = end_up ss (head ss p).stop (closing ss (head ss p).stop) refl
    by false = omega arith

module _ (ts : List TokenAt) where
  abbrev pub last_of : ℕ → ℕ
  last_of p = end_place (length ts) (body_end (signs ts) p)

  -- ---- how far procedures reach

  pub reach_same : (n r : ℕ) → begins (signs ts) n ≡ false → Reaches ts n r → Reaches ts (n + 1) r
  reach_same n r b h = record {
    so_far = λ j.
        ap (λ i. some i (λ p. begins (signs ts) p && nat_le j (last_of p))) (plus_one n)
        ∙ ap (λ t. some n (λ p. begins (signs ts) p && nat_le j (last_of p)) || (t && nat_le j (last_of n))) b
        ∙ or_none (some n (λ p. begins (signs ts) p && nat_le j (last_of p))) ∙ h.so_far j;
  }

  either : (j r e now : ℕ) → r ≤ now → e + 1 ≤ now → (now ≢ r → now ≡ e + 1) → (nat_lt j r || nat_le j e) ≡ nat_lt j now
  either j r e now a b c = by (nat_lt j r) (nat_le j e) refl refl
    where
      by : (x y : Bool) → nat_lt j r ≡ x → nat_le j e ≡ y → (x || y) ≡ nat_lt j now
      by true y f g = sym (lt_is j now (let l = lt_true j r f in omega (arith, l, a)))
      by false true f g = sym (lt_is j now (let l = leb-true j e g in omega (arith, l, b)))
      by false false f g = sym (by_case (nat_lt j now) (λ h. absurd (no h)) (λ h. h))
        where
          no : nat_lt j now ≡ true → ⊥
          no h = let l = lt_true j now h in let m = lt_false j r f in
              let k : j < e + 1 → ⊥ = λ q. absurd (let z = sym g ∙ le-leb j e (omega (arith, q)) in cc) in
              let d : now ≢ r = λ q. omega (arith, q, l, m) in let w = c d in omega (arith, w, l, k)

  pub reach_on : (n r now : ℕ) → begins (signs ts) n ≡ true → r ≤ now → last_of n + 1 ≤ now → (now ≢ r → now ≡ last_of n + 1) → Reaches ts n r
      → Reaches ts (n + 1) now
  reach_on n r now t a b c h = record {
    so_far = λ j.
        ap (λ i. some i (λ p. begins (signs ts) p && nat_le j (last_of p))) (plus_one n)
        ∙ ap (λ u. some n (λ p. begins (signs ts) p && nat_le j (last_of p)) || (u && nat_le j (last_of n))) t
        ∙ ap (λ u. u || nat_le j (last_of n)) (h.so_far j) ∙ either j r (last_of n) now a b c;
  }

  pub in_reach : (end : Pos) (k r : ℕ) → k < length ts → Reaches ts (k + 1) r → in_procedure ts end k ≡ nat_lt k r
  in_reach end k r l h =
      any_those (λ (p : Procedure). nat_le p.place k && nat_le k (end_place (length ts) p.end)) (procedure (signs ts)) (begins (signs ts)) (length ts)
      ∙ some_up (length ts) k (λ p. begins (signs ts) p && (nat_le p k && nat_le k (last_of p))) l
      (λ j g. ap (λ b. begins (signs ts) j && (b && nat_le k (last_of j))) (lt-leb j k g) ∙ nothing (begins (signs ts) j))
      ∙ some_same (suc k) (λ p. begins (signs ts) p && (nat_le p k && nat_le k (last_of p))) (λ p. begins (signs ts) p && nat_le k (last_of p))
      (λ j g. ap (λ b. begins (signs ts) j && (b && nat_le k (last_of j))) (le-leb j k (omega (arith, g))))
      ∙ ap (λ i. some i (λ p. begins (signs ts) p && nat_le k (last_of p))) (sym (plus_one k)) ∙ h.so_far k
    where
      nothing : (b : Bool) → (b && false) ≡ false
      nothing true = refl
      nothing false = refl

  pub outer_more : (end : Pos) (k r : ℕ) → k < length ts → Reaches ts (k + 1) r
      → those k (λ i. not (in_procedure ts end i)) ++ one_if (not (nat_lt k r)) k ≡ those (k + 1) (λ i. not (in_procedure ts end i))
  outer_more end k r l h =
      ap (λ b. those k (λ i. not (in_procedure ts end i)) ++ one_if (not b) k) (sym (in_reach end k r l h))
      ∙ ap (λ i. those i (λ i. not (in_procedure ts end i))) (sym (plus_one k))

-- ---- places with two properties

pub those_filter : (n : ℕ) (p q : ℕ → Bool) → filter p (those n q) ≡ those n (λ k. p k && q k)
those_filter zero p q = refl
those_filter (suc n) p q =
    filter-append p (those n q) (one_if (q n) n)
    ∙ ap (λ u. u ++ filter p (one_if (q n) n)) (those_filter n p q) ∙ ap (λ u. those n (λ k. p k && q k) ++ u) (by (q n) (p n) refl)
  where
    by : (b a : Bool) → p n ≡ a → filter p (one_if b n) ≡ one_if (p n && b) n
    by true true e = ap (λ t. if t then n ∷ [] else []) e ∙ ap (λ t. one_if (t && true) n) (sym e)
    by true false e = ap (λ t. if t then n ∷ [] else []) e ∙ ap (λ t. one_if (t && true) n) (sym e)
    by false true e = ap (λ t. one_if (t && false) n) (sym e)
    by false false e = ap (λ t. one_if (t && false) n) (sym e)

pub those_below : (n : ℕ) (q : ℕ → Bool) (i d : ℕ) → i < length (those n q) → slice_index_or (those n q) i d < n
those_below zero q i d l = absurd (omega (arith, l))
those_below (suc n) q i d l =
    by_case (nat_lt i (length (those n q)))
    (λ e. let m = lt_true i (length (those n q)) e in let h = those_below n q i d m in
    let s = get_or-append (those n q) (one_if (q n) n) d i m in omega (arith, h, s))
    (λ e. let m = lt_false i (length (those n q)) e in last (q n) m l)
  where
    last : (b : Bool) → length (those n q) ≤ i → i < length (those n q ++ one_if b n) → slice_index_or (those n q ++ one_if b n) i d < suc n
    last true m g =
        let a = length-append (those n q) (n ∷ []) in let e : i ≡ length (those n q) = omega (arith, m, g, a) in
        let s = ap (λ j. slice_index_or (those n q ++ n ∷ []) j d) e ∙ get_or-append_seam (those n q) n [] d in omega (arith, s)
    last false m g = absurd (let a = length-append (those n q) [] in omega (arith, a, m, g))

pub end_is : (ts : List TokenAt) (s : Scan) → IsScan ts s → (us vs : List Sign) (p : ℕ) (q : Procedure) (e : ℕ) → us ≡ s.signs.items → vs ≡ s.signs.items
    → q ≡ procedure vs p → e ≡ end_place (length us) q.end → e ≡ last_of ts p
end_is ts s is us vs p q e u v g h =
    h ∙ ap (λ n. end_place n q.end) (ap length u ∙ as_long ts s is) ∙ ap (λ (r : Procedure). end_place (length ts) r.end) g
    ∙ ap (λ w. end_place (length ts) (body_end w p)) (v ∙ is.read)

pub last_up : (ts : List TokenAt) (p : ℕ) → last_of ts p ≤ length ts
last_up ts p =
    subst (λ n. end_place n (body_end (signs ts) p) ≤ n) (length-map ts (λ (t : TokenAt). sign_of t.bytes)) (body_up (signs ts) p)

pub outer_below : (ts : List TokenAt) (end : Pos) (ss : List Sign) (ks : List ℕ) (i d : ℕ) → ss ≡ signs ts
    → ks ≡ those (length ts) (λ k. not (in_procedure ts end k)) → i < length ks → slice_index_or ks i d < length ss
outer_below ts end ss ks i d e h l =
    let b = those_below (length ts) (λ k. not (in_procedure ts end k)) i d (subst (λ u. i < length u) h l) in
    let n = ap length e ∙ length-map ts (λ (t : TokenAt). sign_of t.bytes) in
    let s = ap (λ u. slice_index_or u i d) h in omega (arith, b, n, s)
