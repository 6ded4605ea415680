-- An extent tells of parts: how many they are, and whether each of them passes a test.
use Rattle.std.proofs.Common.{◌≡◌, ℕ, suc, ◌+◌, ◌≤◌, Bool, true, false, ◌&&◌, nat_le, List, [], ◌∷◌, ◌++◌}
use Rattle.std.proofs.Common.{⊎_elim, refl, ap, sym, ◌∙◌, map, length, arith, length-append}
use Rattle.std.specs.List.{flat_map, list_all}
use Rattle.std.proofs.lemmas.Bool.{cases_lt}
use Rattle.std.proofs.lemmas.Bool.Decides.{nat_tests}
use Rattle.std.proofs.lemmas.List.Folds.{list_all-append}
use Rattle.jade_base.specs.declared.place.Pos.{Pos}
use Rattle.jade_syntax.specs.declared.shapes.extent.Extent.{Extent}
use Rattle.jade_syntax.specs.declared.tree.Number.{Number}
use Rattle.jade_syntax.specs.Names.{is_name}
use Rattle.jade_syntax.specs.Shapes.{nothing, signs, name_extent, number_extent, is_natural, ◌⊕◌, all_of, in_brackets}
use Rattle.jade_parser.specs.Spelled.{Called, Part, Parts, marked, number_part, numbered, is_valid}

-- a part whose token may stand in a program
abbrev pub valid : Part → Bool
valid p = is_valid p.token

-- and that is none past the 256th of its outermost expression
abbrev pub good : Part → Bool
good p = nat_le p.nth 256 && is_valid p.token

-- an extent counts these parts, and is sound exactly where each passes a test
pub record Tells (q : Part → Bool) (e : Extent) (ps : Parts) : Type 0 where
  pub sound : e.sound ≡ list_all q ps
  pub tokens : e.tokens ≡ length ps

pub both_same : (a b c d : Bool) → a ≡ b → c ≡ d → (a && c) ≡ (b && d)
both_same a b c d e f = ap (λ k. k && c) e ∙ ap (λ k. b && k) f

pub tells_none : {q : Part → Bool} → Tells q nothing []
tells_none = record { sound = refl; tokens = refl }

pub tells_sign : {q : Part → Bool} (p : Part) → q p ≡ true → Tells q (signs 1) (p ∷ [])
tells_sign {q} p h = record { sound = sym (ap (λ b. b && true) h); tokens = refl }

pub tells_on : {q : Part → Bool} {a b : Extent} {ps qs : Parts} → Tells q a ps → Tells q b qs → Tells q (a ⊕ b) (ps ++ qs)
tells_on {q} {a} {b} {ps} {qs} g h = record {
  sound = both_same a.sound (list_all q ps) b.sound (list_all q qs) g.sound h.sound ∙ sym (list_all-append q ps qs);
  tokens = omega (arith, g.tokens, h.tokens, length-append ps qs);
}

-- a sign before other parts
pub tells_first : {q : Part → Bool} {e : Extent} {ps : Parts} (p : Part) → q p ≡ true → Tells q e ps → Tells q (signs 1 ⊕ e) (p ∷ ps)
tells_first p h t = tells_on (tells_sign p h) t

and_true : (b : Bool) → (b && true) ≡ b
and_true true = refl
and_true false = refl

pub tells_brackets : {q : Part → Bool} {e : Extent} {ps : Parts} (p r : Part) → q p ≡ true → q r ≡ true → Tells q e ps
    → Tells q (in_brackets e) (p ∷ (ps ++ r ∷ []))
tells_brackets {q} {e} {ps} p r h k t = record {
  sound = t.sound ∙ sym (and_true (list_all q ps)) ∙ ap (λ b. list_all q ps && (b && true)) (sym k) ∙ sym (list_all-append q ps (r ∷ []))
      ∙ ap (λ b. b && list_all q (ps ++ r ∷ [])) (sym h);
  tokens = omega (arith, t.tokens, length-append ps (r ∷ []));
}

pub tells_all : {q : Part → Bool} {A : Type 0} (f : A → Extent) (g : A → Parts) → ((x : A) → Tells q (f x) (g x)) → (xs : List A)
    → Tells q (all_of (map f xs)) (flat_map g xs)
tells_all f g h [] = tells_none
tells_all f g h (x ∷ xs) = tells_on (h x) (tells_all f g h xs)

-- an extent of as many tokens, that is sound in the same case
pub tells_same : {q : Part → Bool} {e : Extent} {ps : Parts} (d : Extent) → d.sound ≡ e.sound → d.tokens ≡ e.tokens → Tells q e ps → Tells q d ps
tells_same d s n t = record { sound = s ∙ t.sound; tokens = n ∙ t.tokens }

-- a name
pub valid_name : (n : List ℕ) (p : Pos) → Tells valid (name_extent n) (marked (Called n) p ∷ [])
valid_name n p = record { sound = sym (and_true (is_name n)); tokens = refl }

pub good_name : (n : List ℕ) (p : Pos) → Tells good (name_extent n) (marked (Called n) p ∷ [])
good_name n p = record { sound = sym (and_true (is_name n)); tokens = refl }

-- a number
pub valid_number : (n : Number) → Tells valid (number_extent n) (number_part n ∷ [])
valid_number n = record { sound = sym (and_true (is_natural n.value)); tokens = refl }

pub good_number : (n : Number) → Tells good (number_extent n) (number_part n ∷ [])
good_number n = record { sound = sym (and_true (is_natural n.value)); tokens = refl }

few : (n : ℕ) → n ≤ 256 → nat_le n 256 ≡ true
few n le = grind (arith, nat_tests)

many : (n : ℕ) → 256 ≤ n → nat_le (n + 1) 256 ≡ false
many n le = grind (arith, nat_tests)

false_left : (a b c : Bool) → a ≡ false → ((a && b) && c) ≡ false
false_left a b c e = ap (λ k. (k && b) && c) e

false_right : (a b : Bool) → b ≡ false → (a && b) ≡ false
false_right true b e = e
false_right false b e = refl

regrouped : (a b c d : Bool) → a ≡ true → ((a && b) && (c && d)) ≡ ((b && c) && d)
regrouped true true c d e = refl
regrouped true false c d e = refl
regrouped false b c d e = absurd (cc)

pub length_numbered : (n : ℕ) (ps : Parts) → length (numbered n ps) ≡ length ps
length_numbered n [] = refl
length_numbered n (p ∷ ps) = ap suc (length_numbered (n + 1) ps)

-- the parts of an outermost expression of which n stand before are good where they are valid and the last is at most the 256th
good_numbered : (n : ℕ) (ps : Parts) → n ≤ 256 → list_all good (numbered n ps) ≡ (list_all valid ps && nat_le (n + length ps) 256)
good_numbered n [] le = sym (few (n + 0) (omega (arith, le)))
good_numbered n (p ∷ ps) le =
    ⊎_elim
    (λ lt.
    let e : n + 1 + length ps ≡ n + suc (length ps) = omega arith in
    ap (λ b. (nat_le (n + 1) 256 && valid p) && b) (good_numbered (n + 1) ps (omega (arith, lt)) ∙ ap (λ k. list_all valid ps && nat_le k 256) e)
    ∙ regrouped (nat_le (n + 1) 256) (valid p) (list_all valid ps) (nat_le (n + suc (length ps)) 256) (few (n + 1) (omega (arith, lt))))
    (λ ge.
    let e : n + length ps + 1 ≡ n + suc (length ps) = omega arith in
    false_left (nat_le (n + 1) 256) (valid p) (list_all good (numbered (n + 1) ps)) (many n ge)
    ∙ sym (false_right (list_all valid (p ∷ ps)) (nat_le (n + suc (length ps)) 256)
    (ap (λ k. nat_le k 256) (sym e) ∙ many (n + length ps) (omega (arith, ge)))))
    (cases_lt n 256)

pub good_outer : (ps : Parts) → list_all good (numbered 0 ps) ≡ (list_all valid ps && nat_le (length ps) 256)
good_outer ps = let e : 0 + length ps ≡ length ps = omega arith in good_numbered 0 ps (omega arith) ∙ ap (λ k. list_all valid ps && nat_le k 256) e
