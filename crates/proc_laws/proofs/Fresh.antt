-- The names that calls make: each another, and none of the text's.
use Rattle.std.proofs.Common.{◌≡◌, ℕ, zero, suc, ◌+◌, ◌-◌, ◌*◌, ◌/◌, ◌%◌, ◌<◌, ◌≤◌, ◌==◌, Bool, true, false, List, [], ◌∷◌, length, drop, refl, sym, ap, ◌∙◌, subst, arith}
use Rattle.std.specs.Prelude.{if◌then◌else◌}
use Rattle.std.specs.Fmt.{digits_onto, digit_glyph}
use Rattle.jade_syntax.specs.Abstract.{Name}
use Rattle.jade_syntax.specs.Numbering.{same_name}
use Rattle.proc_expand.specs.Names.{is_among}
use Rattle.proc_expand.specs.Written.{numbered_name, next_free, free_number, fresh_name}
use Rattle.proc_laws.proofs.Basics.{same_from, not_same}

-- ---- numerals

abbrev value_after : ℕ → List ℕ → ℕ
value_after v [] = v
value_after v (c ∷ cs) = value_after (v * 10 + (c - 48)) cs

numeral_value : (k n : ℕ) (acc : List ℕ) → n < k → value_after 0 (digits_onto k 10 false n acc) ≡ value_after n acc
numeral_value zero n acc h = absurd (omega (arith, h))
numeral_value (suc k) n acc h = by (n / 10 == 0) refl (λ g. numeral_value k (n / 10) (digit_glyph false (n % 10) ∷ acc) g)
  where
    glyph : (d : ℕ) → d < 10 → digit_glyph false d - 48 ≡ d
    glyph d g = grind (arith, g)

    by : (b : Bool) → (n / 10 == 0) ≡ b
        → (n / 10 < k → value_after 0 (digits_onto k 10 false (n / 10) (digit_glyph false (n % 10) ∷ acc)) ≡ value_after (n / 10) (digit_glyph false (n % 10) ∷ acc))
        → value_after 0 (if b then digit_glyph false (n % 10) ∷ acc else digits_onto k 10 false (n / 10) (digit_glyph false (n % 10) ∷ acc))
        ≡ value_after n acc
    by true e ih = ap (λ v. value_after v acc) (let z : n / 10 ≡ 0 = grind (arith, e) in omega (arith, z, glyph (n % 10) (omega arith)))
    by false e ih = let z : (n / 10 ≡ 0) → ⊥ = (λ q. grind (arith, e, q)) in ih (omega (arith, z, h)) ∙ ap (λ v. value_after v acc) (omega (arith, glyph (n % 10) (omega arith)))

pub numbered_one : (m n : ℕ) → numbered_name m ≡ numbered_name n → m ≡ n
numbered_one m n e =
    sym (numeral_value (suc m) m [] (omega arith)) ∙ ap (λ x. value_after 0 (drop 1 x)) e ∙ numeral_value (suc n) n [] (omega arith)

-- ---- the next free number

pub next_least : (tries : ℕ) (names : List Name) (n : ℕ) → n ≤ next_free tries names n
next_least zero names n = omega arith
next_least (suc tries) names n = by (is_among names (numbered_name n)) (next_least tries names (suc n))
  where
    by : (b : Bool) → suc n ≤ next_free tries names (suc n) → n ≤ (if b then next_free tries names (suc n) else n)
    by true h = omega (arith, h)
    by false h = omega arith

-- without a name
abbrev without : Name → List Name → List Name
without x [] = []
without x (y ∷ ys) = if same_name x y then without x ys else y ∷ without x ys

without_most : (x : Name) (ys : List Name) → length (without x ys) ≤ length ys
without_most x [] = omega arith
without_most x (y ∷ ys) = by (same_name x y) (without_most x ys)
  where
    by : (b : Bool) → length (without x ys) ≤ length ys → length (if b then without x ys else y ∷ without x ys) ≤ suc (length ys)
    by true h = omega (arith, h)
    by false h = omega (arith, h)

without_less : (x : Name) (ys : List Name) → is_among ys x ≡ true → length (without x ys) < length ys
without_less x [] h = absurd (cc)
without_less x (y ∷ ys) h = by (same_name x y) (without_less x ys) h
  where
    by : (b : Bool) → (is_among ys x ≡ true → length (without x ys) < length ys) → (if b then true else is_among ys x) ≡ true
        → length (if b then without x ys else y ∷ without x ys) < suc (length ys)
    by true k h = omega (arith, without_most x ys)
    by false k h = let g = k h in omega (arith, g)

without_other : (x z : Name) → same_name z x ≡ false → (ys : List Name) → is_among (without x ys) z ≡ is_among ys z
without_other x z h [] = refl
without_other x z h (y ∷ ys) = by (same_name x y) refl (without_other x z h ys)
  where
    by : (b : Bool) → same_name x y ≡ b → is_among (without x ys) z ≡ is_among ys z
        → is_among (if b then without x ys else y ∷ without x ys) z ≡ (if same_name z y then true else is_among ys z)
    by true e k = k ∙ sym (ap (λ t. if t then true else is_among ys z) (ap (same_name z) (sym (same_from x y e)) ∙ h))
    by false e k = ap (λ u. if same_name z y then true else u) k

numbered_apart : (m n : ℕ) → n < m → same_name (numbered_name m) (numbered_name n) ≡ false
numbered_apart m n h = not_same (numbered_name m) (numbered_name n) (λ e. omega (arith, h, numbered_one m n e))

-- from a larger number on the name makes no difference
next_without : (tries : ℕ) (names : List Name) (k n : ℕ) → k < n → next_free tries (without (numbered_name k) names) n ≡ next_free tries names n
next_without zero names k n h = refl
next_without (suc tries) names k n h =
    ap (λ t. if t then next_free tries (without (numbered_name k) names) (suc n) else n)
    (without_other (numbered_name k) (numbered_name n) (numbered_apart n k h) names)
    ∙ ap (λ u. if is_among names (numbered_name n) then u else n) (next_without tries names k (suc n) (omega (arith, h)))

pub next_is_free : (tries : ℕ) (names : List Name) (n : ℕ) → length names ≤ tries → is_among names (numbered_name (next_free tries names n)) ≡ false
next_is_free zero [] n h = refl
next_is_free zero (y ∷ ys) n h = absurd (omega (arith, h))
next_is_free (suc tries) names n h = by (is_among names (numbered_name n)) refl (next_is_free tries (without (numbered_name n) names) (suc n))
  where
    by : (b : Bool) → is_among names (numbered_name n) ≡ b
        → (length (without (numbered_name n) names) ≤ tries
        → is_among (without (numbered_name n) names) (numbered_name (next_free tries (without (numbered_name n) names) (suc n))) ≡ false)
        → is_among names (numbered_name (if b then next_free tries names (suc n) else n)) ≡ false
    by true e ih =
        let m = next_free tries names (suc n) in
        let up = next_least tries names (suc n) in
        sym (without_other (numbered_name n) (numbered_name m) (numbered_apart m n (omega (arith, up))) names)
        ∙ ap (λ i. is_among (without (numbered_name n) names) (numbered_name i)) (sym (next_without tries names n (suc n) (omega arith)))
        ∙ ih (let u = without_less (numbered_name n) names e in omega (arith, u, h))
    by false e ih = e

pub fresh_is_free : (names : List Name) (i : ℕ) → is_among names (fresh_name names i) ≡ false
fresh_is_free names zero = next_is_free (length names) names 0 (omega arith)
fresh_is_free names (suc i) = next_is_free (length names) names (suc (free_number names i)) (omega arith)

free_more : (names : List Name) (i : ℕ) → free_number names i < free_number names (suc i)
free_more names i = let h = next_least (length names) names (suc (free_number names i)) in omega (arith, h)

free_up : (names : List Name) (i k : ℕ) → free_number names i < free_number names (suc (i + k))
free_up names i zero = subst (λ j. free_number names i < free_number names (suc j)) (omega arith) (free_more names i)
free_up names i (suc k) =
    let a = free_up names i k in let b = free_more names (suc (i + k)) in
    let P : ℕ → Type 0 = λ j. free_number names i < free_number names (suc j) in
    let e : suc (i + k) ≡ i + suc k = omega arith in
    let c : free_number names i < free_number names (suc (suc (i + k))) = omega (arith, a, b) in subst P e c

free_below : (names : List Name) (i j : ℕ) → i < j → free_number names i < free_number names j
free_below names i j h =
    let P : ℕ → Type 0 = λ k. free_number names i < free_number names k in
    let e : suc (i + (j - suc i)) ≡ j = omega (arith, h) in subst P e (free_up names i (j - suc i))

pub fresh_one : (names : List Name) (i j : ℕ) → same_name (fresh_name names i) (fresh_name names j) ≡ true → i ≡ j
fresh_one names i j h =
    let e = numbered_one (free_number names i) (free_number names j) (same_from (fresh_name names i) (fresh_name names j) h) in
    let less : i < j → ⊥ = λ l. let u = free_below names i j l in omega (arith, u, e) in
    let more : j < i → ⊥ = λ l. let u = free_below names j i l in omega (arith, u, e) in
    grind (arith, less, more)
