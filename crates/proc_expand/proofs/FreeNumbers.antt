-- Free numbers, and the digits of their names.
use Rattle.std.proofs.Common.{◌≡◌, ℕ, zero, suc, ◌+◌, ◌*◌, ◌/◌, ◌%◌, ◌^◌, ◌<◌, ◌≤◌, ◌==◌, Bool, true, false, cond, List, [], ◌∷◌, ◌++◌, length, refl, sym, ap, ◌∙◌, subst, arith}
use Rattle.std.specs.Prelude.{slice_index_or, nat_eq, if◌then◌else◌}
use Rattle.std.proofs.lemmas.Fmt.{length-decimal-le}
use Rattle.std.specs.Fmt.{digits_onto, digits, decimal, digit_glyph}
use Rattle.jade_syntax.specs.Abstract.{Name}
use Rattle.proc_expand.specs.Names.{is_among}
use Rattle.proc_expand.specs.Written.{numeral, numbered_name, next_free, free_number}
use Rattle.proc_expand.specs.steps.Replaced.{AreFree}
use Rattle.std.proofs.lemmas.List.{length-append}
use Rattle.std.proofs.Math.Seq.{get_or-append_seam}
use Rattle.std.proofs.Math.ListN.{get_or-append}
use Rattle.proc_expand.proofs.First.{by_case, eq_true, eq_false}

-- the digits of a number do not depend on how many may be written, where these are enough
enough : (j k n : ℕ) (acc : List ℕ) → n < 10 ^ j → n < 10 ^ k → digits_onto (suc j) 10 false n acc ≡ digits_onto (suc k) 10 false n acc
enough zero zero n acc g h = refl
enough zero (suc k) n acc g h =
    let z : n ≡ 0 = omega (arith, g) in
    subst (λ m. digits_onto 1 10 false m acc ≡ digits_onto (suc (suc k)) 10 false m acc) (sym z) refl
enough (suc j) zero n acc g h =
    let z : n ≡ 0 = omega (arith, h) in
    subst (λ m. digits_onto (suc (suc j)) 10 false m acc ≡ digits_onto 1 10 false m acc) (sym z) refl
enough (suc j) (suc k) n acc g h =
    ap (cond (n / 10 == 0) (digit_glyph false (n % 10) ∷ acc)) (enough j k (n / 10) (digit_glyph false (n % 10) ∷ acc) (tenth n j g) (tenth n k h))
  where
    tenth : (n k : ℕ) → n < 10 ^ suc k → n / 10 < 10 ^ k
    tenth n k h = omega (arith, h)

small : (n : ℕ) → n < 10 ^ n
small zero = omega arith
small (suc n) = let h = small n in omega (arith, h)

pub is_numeral : (n : ℕ) → n < 2 ^ 64 → decimal n ≡ numeral n
unfolding digits
is_numeral n h = enough 63 n n [] (let big : 2 ^ 64 < 10 ^ 63 = omega arith in omega (arith, h, big)) (small n)

-- ---- numbers that are tried

pub next_most : (tries n : ℕ) (names : List Name) → next_free tries names n ≤ n + tries
next_most zero n names = omega arith
next_most (suc tries) n names = by (is_among names (numbered_name n)) (next_most tries (suc n) names)
  where
    by : (b : Bool) → next_free tries names (suc n) ≤ suc n + tries → (if b then next_free tries names (suc n) else n) ≤ n + suc tries
    by true h = omega (arith, h)
    by false h = omega arith

pub free_most : (names : List Name) (i : ℕ) → free_number names i + 1 ≤ (i + 1) * (length names + 1)
free_most names zero = let h = next_most (length names) 0 names in omega (arith, h)
free_most names (suc i) =
    let h = next_most (length names) (suc (free_number names i)) names in let g = free_most names i in
    let e : (suc i + 1) * (length names + 1) ≡ (i + 1) * (length names + 1) + (length names + 1) = grind arith in
    omega (arith, h, g, e)

-- ---- the free numbers that are known

pub none_free : (names : List Name) → AreFree names []
none_free names = record { each = λ i h. absurd (omega (arith, h)) }

pub free_more : (names : List Name) (numbers : List ℕ) (n : ℕ) → AreFree names numbers → n ≡ free_number names (length numbers)
    → AreFree names (numbers ++ n ∷ [])
free_more names numbers n f e = record {
  each = λ i h.
      by_case (nat_eq i (length numbers))
      (λ t. let here = eq_true i (length numbers) t in
      ap (λ j. slice_index_or (numbers ++ n ∷ []) j 0) here ∙ get_or-append_seam numbers n [] 0 ∙ e ∙ ap (free_number names) (sym here))
      (λ t. let other = eq_false i (length numbers) t in
      let less : i < length numbers = (let l = length-append numbers (n ∷ []) in omega (arith, h, other, l)) in
      get_or-append numbers (n ∷ []) 0 i less ∙ f.each i less);
}

pub short : (n : ℕ) → n < 2 ^ 64 → length (decimal n) ≤ 20
short n h = length-decimal-le 20 n (omega arith) (let big : 2 ^ 64 < 10 ^ 20 = omega arith in omega (arith, h, big)) h

pub free_fits : (names : List Name) (numbers : List ℕ) (i l : ℕ) → length numbers ≡ suc i → l ≡ length names → AreFree names numbers
    → (length numbers + 1) * (l + 1) < 2 ^ 63 → slice_index_or numbers i 0 + 1 + l < 2 ^ 63
free_fits names numbers i l h e f few =
    let m = free_most names i in let g = f.each i (omega (arith, h)) in
    let s : (suc i + 1) * (length names + 1) ≡ (i + 1) * (length names + 1) + (length names + 1) = grind arith in
    let t : (suc i + 1) * (length names + 1) < 2 ^ 63 = subst (λ n. (n + 1) * (length names + 1) < 2 ^ 63) h
    (subst (λ n. (length numbers + 1) * (n + 1) < 2 ^ 63) e few) in
    omega (arith, m, g, s, t, e)
