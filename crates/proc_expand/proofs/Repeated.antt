-- Names that repeat, and the first place at which one does.
use Rattle.std.proofs.Common.{◌≡◌, ℕ, zero, suc, ◌+◌, ◌*◌, ◌<◌, ◌≤◌, Bool, true, false, cond, ◌&&◌, ◌||◌, List, ◌∷◌, length, Option, Some, None, nat_eq, nat_lt, refl, sym, ap, ◌∙◌, arith}
use Rattle.std.specs.Prelude.{if◌then◌else◌}
use Rattle.std.specs.Map.{lookup}
use Rattle.std.specs.Option.{is_some}
use Rattle.jade_lexer.specs.Lexemes.{TokenAt}
use Rattle.jade_syntax.specs.Abstract.{Name}
use Rattle.jade_syntax.specs.Numbering.{same_name}
use Rattle.proc_expand.specs.declared.procedures.Procedure.{Procedure}
use Rattle.proc_expand.specs.Words.{signs, at, bytes_at, is_called, first, some, or_here}
use Rattle.proc_expand.specs.steps.Looking.{earliest}
use Rattle.proc_expand.specs.Refusals.{begins, head, is_named, param_place, repeats_param, repeats_name}
use Rattle.proc_expand.specs.steps.Looking.{procedure_of}
use Rattle.proc_expand.proofs.First.{plus_one, by_case, eq_true, eq_false, lt_is, lt_not, first_same, first_none, first_one, first_below, first_either, first_some, earliest_none}

-- ---- some place before another has a property

abbrev pub comes_before : Option ℕ → ℕ → Bool
comes_before None p = false
comes_before (Some j) p = nat_lt j p

first_so : (p : ℕ) (f : ℕ → Bool) → some p f ≡ comes_before (first p f) p
first_so zero f = refl
first_so (suc p) f = by (first p f) (f p) (first_so p f) (first_below p f)
  where
    by : (a : Option ℕ) (t : Bool) → some p f ≡ comes_before a p → ((j : ℕ) → a ≡ Some j → j < p) → (some p f || t) ≡ comes_before (or_here a t p) (suc p)
    by (Some j) t e l =
        let b = l j refl in
        ap (λ u. u || t) (e ∙ lt_is j p b) ∙ sym (lt_is j (suc p) (omega (arith, b)))
    by None true e l = ap (λ u. u || true) e ∙ sym (lt_is p (suc p) (omega arith))
    by None false e l = ap (λ u. u || false) e

later : (n p : ℕ) (f : ℕ → Bool) → p ≤ n → comes_before (first (suc n) f) p ≡ comes_before (first n f) p
later n p f l = by (first n f) (f n)
  where
    by : (a : Option ℕ) (t : Bool) → comes_before (or_here a t n) p ≡ comes_before a p
    by (Some j) t = refl
    by None true = lt_not n p l
    by None false = refl

pub some_first : (n p : ℕ) (f : ℕ → Bool) → p ≤ n → some p f ≡ comes_before (first n f) p
some_first zero p f l = let e : p ≡ 0 = omega (arith, l) in ap (λ i. some i f) e ∙ ap (comes_before None) (sym e)
some_first (suc n) p f l =
    by_case (nat_eq p (suc n)) (λ e. let is : p ≡ suc n = eq_true p (suc n) e in first_so p f ∙ ap (λ i. comes_before (first i f) p) is)
    (λ e. let d = eq_false p (suc n) e in let m : p ≤ n = omega (arith, l, d) in some_first n p f m ∙ sym (later n p f m))

-- ---- names of procedures

module _ (ts : List TokenAt) (p : ℕ) where
  abbrev named_before : ℕ → Bool
  named_before k = some p (is_named ts (bytes_at ts k))

  sides : (b e c s : Bool) → (b && (e && c && s)) ≡ (e && (b && c && s))
  sides true true c s = refl
  sides true false c s = refl
  sides false true c s = refl
  sides false false c s = refl

  name_here : p < length ts
      → first (suc (length ts)) (λ k. begins (signs ts) p && repeats_name ts p k)
      ≡ (if begins (signs ts) p && is_called (at (signs ts) (p + 1)) && named_before (p + 1) then Some (p + 1) else None)
  name_here l =
      let m = suc (length ts) in
      let b = begins (signs ts) p in
      let q : ℕ → Bool = λ k. b && is_called (at (signs ts) k) && named_before k in
      first_same m (λ k. b && repeats_name ts p k) (λ k. nat_eq (p + 1) k && q k)
      (λ k below. sides b (nat_eq (p + 1) k) (is_called (at (signs ts) k)) (named_before k))
      ∙ first_one (p + 1) m q (λ e. omega (arith, l))

  pub no_name : p < length ts → (begins (signs ts) p && is_called (at (signs ts) (p + 1))) ≡ false
      → None ≡ first (suc (length ts)) (λ k. begins (signs ts) p && repeats_name ts p k)
  no_name l h = sym (name_here l ∙ ap (λ t. if t && named_before (p + 1) then Some (p + 1) else None) h)

  abbrev pub repeated : Option Procedure → Option ℕ
  repeated None = None
  repeated (Some q) = if nat_lt q.place p then Some (p + 1) else None

  by_place : (a : Option ℕ) → repeated (procedure_of (signs ts) a) ≡ (if comes_before a p then Some (p + 1) else None)
  by_place None = refl
  by_place (Some j) = refl

  pub name_repeats : p < length ts → (begins (signs ts) p && is_called (at (signs ts) (p + 1))) ≡ true → (found : Option Procedure)
      → found ≡ procedure_of (signs ts) (first (length ts) (is_named ts (bytes_at ts (p + 1))))
      → repeated found ≡ first (suc (length ts)) (λ k. begins (signs ts) p && repeats_name ts p k)
  name_repeats l h found e =
      ap repeated e ∙ by_place (first (length ts) (is_named ts (bytes_at ts (p + 1))))
      ∙ ap (λ t. if t then Some (p + 1) else None) (sym (some_first (length ts) p (is_named ts (bytes_at ts (p + 1))) (omega (arith, l))))
      ∙ ap (λ t. if t && named_before (p + 1) then Some (p + 1) else None) (sym h) ∙ sym (name_here l)

  -- ---- parameters

  abbrev pub param_name : ℕ → Name
  param_name i = bytes_at ts (param_place p i)

  -- a name is that of one of so many parameters
  abbrev pub is_param : ℕ → Name → Bool
  is_param n x = some n (λ j. same_name x (param_name j))

  abbrev pub first_param : ℕ → Option ℕ
  first_param n = first (suc (length ts)) (repeats_param ts p n)

  pub no_params : first_param 0 ≡ None
  no_params = first_none (suc (length ts)) (repeats_param ts p 0) (λ k l. refl)

  one_param : (i : ℕ) → param_place p i ≤ length ts
      → first_param (i + 1) ≡ earliest (first_param i) (if is_param i (param_name i) then Some (param_place p i) else None)
  one_param i l =
      let m = suc (length ts) in
      let q : ℕ → Bool = λ k. is_param i (bytes_at ts k) in
      first_some m i (λ i k. nat_eq (param_place p i) k && is_param i (bytes_at ts k))
      ∙ ap (earliest (first_param i)) (first_one (param_place p i) m q (λ e. omega (arith, l)))

  pub param_passed : (i : ℕ) → param_place p i ≤ length ts → is_param i (param_name i) ≡ false → first_param i ≡ None → first_param (i + 1) ≡ None
  param_passed i l h e = one_param i l ∙ ap (λ t. earliest (first_param i) (if t then Some (param_place p i) else None)) h ∙ earliest_none (first_param i) ∙ e

  param_found : (i : ℕ) → param_place p i ≤ length ts → is_param i (param_name i) ≡ true → first_param i ≡ None
      → first_param (i + 1) ≡ Some (param_place p i)
  param_found i l h e = one_param i l ∙ ap (λ t. earliest (first_param i) (if t then Some (param_place p i) else None)) h ∙ ap (λ a. earliest a (Some (param_place p i))) e

  -- those after it change nothing
  keeps : (i n : ℕ) → i ≤ n → (b : Bool) → earliest (Some (param_place p i)) (if b then Some (param_place p n) else None) ≡ Some (param_place p i)
  keeps i n l true = ap (λ t. Some (if t then param_place p n else param_place p i)) (lt_not (param_place p n) (param_place p i) (omega (arith, l)))
  keeps i n l false = refl

  one_after : (i n : ℕ) → i < n → p + 1 + 3 * suc n ≤ length ts → Some (param_place p i) ≡ first_param n → Some (param_place p i) ≡ first_param (suc n)
  one_after i n before within e =
      sym (ap first_param (sym (plus_one n)) ∙ one_param n (omega (arith, within))
      ∙ ap (λ a. earliest a (if is_param n (param_name n) then Some (param_place p n) else None)) (sym e)
      ∙ keeps i n (omega (arith, before)) (is_param n (param_name n)))

  pub param_repeats : (i n : ℕ) → i < n → p + 1 + 3 * n ≤ length ts → is_param i (param_name i) ≡ true → first_param i ≡ None
      → Some (param_place p i) ≡ first_param n
  param_repeats i zero l within h e = absurd (omega (arith, l))
  param_repeats i (suc n) l within h e =
      by_case (nat_eq i n)
      (λ t. sym (param_found i (omega (arith, l, within)) h e) ∙ ap first_param (plus_one i ∙ ap suc (eq_true i n t)))
      (λ f. let d = eq_false i n f in let before : i < n = omega (arith, l, d) in
      one_after i n before within (param_repeats i n before (omega (arith, within)) h e))

  -- the names that were seen
  abbrev pub Seen : List (Name × ℕ) → ℕ → Type 0
  Seen seen n = (x : Name) → is_some (lookup (same_name x) seen) ≡ is_param n x

  pub seen_more : (seen : List (Name × ℕ)) (n : ℕ) (y : Name) (v : ℕ) → y ≡ param_name n → Seen seen n → Seen ((y, v) ∷ seen) (n + 1)
  seen_more seen n y v e h x =
      by (same_name x y) (some n (λ j. same_name x (param_name j))) (h x)
      ∙ ap (λ z. some n (λ j. same_name x (param_name j)) || same_name x z) e
      ∙ ap (λ i. some i (λ j. same_name x (param_name j))) (sym (plus_one n))
    where
      last : (b : Bool) → true ≡ (b || true)
      last true = refl
      last false = refl

      no_last : (b : Bool) → b ≡ (b || false)
      no_last true = refl
      no_last false = refl

      by : (t b : Bool) → is_some (lookup (same_name x) seen) ≡ b → is_some (cond t (Some v) (lookup (same_name x) seen)) ≡ (b || t)
      by true b g = last b
      by false b g = g ∙ no_last b

-- ---- both

pub either_repeats : (n : ℕ) (b : Bool) (f g : ℕ → Bool)
    → first n (λ k. b && (f k || g k)) ≡ earliest (first n (λ k. b && f k)) (first n (λ k. b && g k))
either_repeats n true f g = first_either n f g
either_repeats n false f g =
    first_none n (λ k. false) (λ k l. refl) ∙ ap (λ a. earliest a None) (sym (first_none n (λ k. false) (λ k l. refl)))
    ∙ ap (earliest (first n (λ k. false))) (sym (first_none n (λ k. false) (λ k l. refl)))

-- ---- all procedures in order

module _ (ts : List TokenAt) where
  abbrev repeats : (p k : ℕ) → Bool
  repeats p k = begins (signs ts) p && (repeats_name ts p k || repeats_param ts p (head (signs ts) p).params k)

  -- the first place at which one of those that begin before n repeats a name
  abbrev pub twice_before : ℕ → Option ℕ
  twice_before n = first (suc (length ts)) (λ k. some n (λ p. repeats p k))

  pub none_twice : None ≡ twice_before 0
  none_twice = sym (first_none (suc (length ts)) (λ k. some 0 (λ p. repeats p k)) (λ k l. refl))

  pub twice_more : (n : ℕ) (found name param : Option ℕ) → found ≡ twice_before n
      → name ≡ first (suc (length ts)) (λ k. begins (signs ts) n && repeats_name ts n k)
      → param ≡ first (suc (length ts)) (λ k. begins (signs ts) n && repeats_param ts n (head (signs ts) n).params k)
      → earliest found (earliest name param) ≡ twice_before (n + 1)
  twice_more n found name param e f g =
      let m = suc (length ts) in
      ap (λ a. earliest a (earliest name param)) e ∙ ap (λ a. earliest (twice_before n) (earliest a param)) f
      ∙ ap (λ a. earliest (twice_before n) (earliest (first m (λ k. begins (signs ts) n && repeats_name ts n k)) a)) g
      ∙ ap (earliest (twice_before n)) (sym (either_repeats m (begins (signs ts) n) (repeats_name ts n) (repeats_param ts n (head (signs ts) n).params)))
      ∙ sym (first_some m n repeats)

-- ---- with a test before it

pub none_if : (n : ℕ) (b : Bool) (q : ℕ → Bool) → b ≡ false → None ≡ first n (λ k. b && q k)
none_if n b q h = sym (ap (λ t. first n (λ k. t && q k)) h ∙ first_none n (λ k. false) (λ k l. refl))

pub all_if : (n : ℕ) (b : Bool) (q : ℕ → Bool) → b ≡ true → first n q ≡ first n (λ k. b && q k)
all_if n b q h = ap (λ t. first n (λ k. t && q k)) (sym h)
