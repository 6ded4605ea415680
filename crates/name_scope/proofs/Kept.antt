-- The newest entries of names, as entries come and end.
use Rattle.std.proofs.Common.{◌≡◌, ℕ, suc, ◌-◌, ◌<◌, ◌≤◌, List, [], ◌∷◌, ◌++◌, Bool, true, false, cond, ◌&&◌, Bor, length, get_or, map, drop, Option, Some}
use Rattle.std.proofs.Common.{None, nat_eq, refl, ap, sym, ◌∙◌, arith}
use Rattle.std.specs.Prelude.{reverse, slice_get, if◌then◌else◌}
use Rattle.std.specs.Cmp.Lexicographic.{pointwise, bytes_decides, texts_ties}
use Rattle.std.specs.Map.{lookup}
use Rattle.std.proofs.lemmas.Cmp.{nat_list_eq_equiv}
use Rattle.std.proofs.lemmas.List.{reverse-append, reverse-reverse, length-reverse}
use Rattle.std.proofs.lemmas.Option.{get_or_from_slice_get}
use Rattle.jade_syntax.specs.Abstract.{Name}
use Rattle.jade_syntax.specs.Numbering.{same_name}
use Rattle.jade_syntax.proofs.Limits.{get_front, get_back}
use Rattle.name_scope.specs.declared.scope.Entry.{Entry}
use Rattle.name_scope.specs.Entries.{named, newest_place, joined, is_named, IsKept}

pub same_bytes : (x y : Name) → same_name x y ≡ pointwise nat_eq x y
same_bytes [] [] = refl
same_bytes [] (b ∷ y) = refl
same_bytes (a ∷ x) [] = refl
same_bytes (a ∷ x) (b ∷ y) = ap (λ t. nat_eq a b && t) (same_bytes x y)

pub same_from : (x y : Name) → same_name x y ≡ true → x ≡ y
same_from x y h = (bytes_decides x y).0 (sym (same_bytes x y) ∙ h)

pub same_turned : (x y : Name) → same_name x y ≡ pointwise nat_eq y x
same_turned x y = same_bytes x y ∙ nat_list_eq_equiv.symm x y

pub same_self : (x : Name) → same_name x x ≡ true
same_self x = same_bytes x x ∙ (bytes_decides x x).1 refl

abbrev Key : Type 0
Key = Bor (List ℕ)

-- a key has the bytes of another where their names are the same
pub named_turned : (x k : Key) → same_name x.now k.now ≡ is_named k.now x
named_turned x k = same_turned x.now k.now ∙ texts_ties k.now x.now

abbrev pub kept_at : Key → List (Key × Option ℕ) → Option (Option ℕ)
kept_at x places = lookup (is_named x.now) places

module _ {V : Type 0} where
  pub last_first : (es : List (Entry V)) (e : Entry V) → reverse (es ++ e ∷ []) ≡ e ∷ reverse es
  last_first es e = reverse-append es (e ∷ [])

  pub first_last : (e : Entry V) (es : List (Entry V)) → reverse (e ∷ es) ≡ reverse es ++ e ∷ []
  first_last e es = reverse-append (e ∷ []) es

  -- one more entry
  pub kept_more : (es : List (Entry V)) (e : Entry V) (n : ℕ) {places more : List (Key × Option ℕ)} → n ≡ length es → e.hidden
      ≡ joined (kept_at e.name places)
      → ((x : Key) → kept_at x more ≡ cond (is_named e.name.now x) (Some (Some n)) (kept_at x places)) → IsKept es places
      → IsKept (e ∷ es) more
  kept_more es e n {places} {more} last hides u h =
      record { at = λ x. ap joined (u x) ∙ by_test x (same_name x.now e.name.now) (named_turned x e.name); hide = (hides ∙ h.at e.name, h.hide) }
    where
      by_test : (x : Key) (b : Bool) → b ≡ is_named e.name.now x
          → joined (cond (is_named e.name.now x) (Some (Some n)) (kept_at x places)) ≡ (if b then Some (length es) else newest_place x.now es)
      by_test x true g = ap (λ t. joined (cond t (Some (Some n)) (kept_at x places))) (sym g) ∙ ap Some last
      by_test x false g = ap (λ t. joined (cond t (Some (Some n)) (kept_at x places))) (sym g) ∙ h.at x

  -- the newest entry ends
  pub kept_less : (es : List (Entry V)) (e : Entry V) {places more : List (Key × Option ℕ)}
      → ((x : Key) → kept_at x more ≡ cond (is_named e.name.now x) (Some e.hidden) (kept_at x places)) → IsKept (e ∷ es) places
      → IsKept es more
  kept_less es e {places} {more} u h = record { at = λ x. ap joined (u x) ∙ by_test x (same_name x.now e.name.now) refl (h.at x); hide = h.hide.1 } where
    by_test : (x : Key) (b : Bool) → same_name x.now e.name.now ≡ b → joined (kept_at x places) ≡ (if b then Some (length es) else newest_place x.now es)
        → joined (cond (is_named e.name.now x) (Some e.hidden) (kept_at x places)) ≡ newest_place x.now es
    by_test x true g k =
        ap (λ t. joined (cond t (Some e.hidden) (kept_at x places))) (sym (named_turned x e.name) ∙ g) ∙ h.hide.0
        ∙ ap (λ y. newest_place y es) (sym (same_from x.now e.name.now g))
    by_test x false g k = ap (λ t. joined (cond t (Some e.hidden) (kept_at x places))) (sym (named_turned x e.name) ∙ g) ∙ k

  -- the name of the newest entry is kept
  pub newest_kept : (es : List (Entry V)) (e : Entry V) {places : List (Key × Option ℕ)} → IsKept (e ∷ es) places → kept_at e.name places ≡ None → ⊥
  newest_kept es e h none =
      let there : newest_place e.name.now (e ∷ es) ≡ Some (length es) =
      ap (λ b. if b then Some (length es) else newest_place e.name.now es) (same_self e.name.now) in
      let nowhere : None ≡ Some (length es) = ap joined (sym none) ∙ h.at e.name ∙ there in
      absurd (cc)

  -- the entry of a name that counts
  pub record Found (x : Name) (newest_first : List (Entry V)) (j : ℕ) : Type 0 where
    pub entry : Entry V
    pub within : j < length newest_first
    pub there : slice_get (reverse newest_first) j ≡ Some entry
    pub is : lookup (same_name x) (map named newest_first) ≡ Some entry.value

  pub found : (x : Name) (es : List (Entry V)) (j : ℕ) → newest_place x es ≡ Some j → Found x es j
  found x [] j h = absurd (cc)
  found x (e ∷ es) j h = by_test (found x es j) (same_name x e.name.now) refl h where
    -- an older entry
    older : Found x es j → same_name x e.name.now ≡ false → Found x (e ∷ es) j
    older f g =
        let lt : j < length (reverse es) = omega (arith, length-reverse es, f.within) in
        record {
          entry = f.entry;
          within = omega (arith, f.within);
          there = ap (λ ys. slice_get ys j) (first_last e es) ∙ get_front (reverse es) (e ∷ []) j lt ∙ f.there;
          is = ap (λ b. cond b (Some e.value) (lookup (same_name x) (map named es))) g ∙ f.is;
        }

    by_test : (newest_place x es ≡ Some j → Found x es j) → (b : Bool) → same_name x e.name.now ≡ b
        → (if b then Some (length es) else newest_place x es) ≡ Some j → Found x (e ∷ es) j
    by_test rest true g k =
        let here : length es ≡ j = cc in
        let le : length (reverse es) ≤ j = omega (arith, length-reverse es, here) in
        let none : j - length (reverse es) ≡ 0 = omega (arith, length-reverse es, here) in
        record {
          entry = e;
          within = omega (arith, here);
          there = ap (λ ys. slice_get ys j) (first_last e es) ∙ get_back (reverse es) (e ∷ []) j le ∙ ap (slice_get (e ∷ [])) none;
          is = ap (λ b. cond b (Some e.value) (lookup (same_name x) (map named es))) g;
        }
    by_test rest false g k = older (rest k) g

  pub not_found : (x : Name) (es : List (Entry V)) → newest_place x es ≡ None → lookup (same_name x) (map named es) ≡ None
  not_found x [] h = refl
  not_found x (e ∷ es) h = by_test (not_found x es) (same_name x e.name.now) h where
    by_test : (newest_place x es ≡ None → lookup (same_name x) (map named es) ≡ None) → (b : Bool)
        → (if b then Some (length es) else newest_place x es) ≡ None → cond b (Some e.value) (lookup (same_name x) (map named es)) ≡ None
    by_test rest true k = absurd (cc)
    by_test rest false k = rest k

  -- the value at the place of a name is that of the newest entry of the name
  pub value_there : (items : List (Entry V)) (x : Name) (j : ℕ) (p : Entry V) → newest_place x (reverse items) ≡ Some j → p ≡ get_or items j p
      → Some p.value ≡ lookup (same_name x) (map named (reverse items))
  value_there items x j p h g =
      let f = found x (reverse items) j h in
      let at : slice_get items j ≡ Some f.entry = ap (λ ys. slice_get ys j) (sym (reverse-reverse items)) ∙ f.there in
      ap (λ (e : Entry V). Some e.value) (g ∙ get_or_from_slice_get items j f.entry p at) ∙ sym f.is

-- one taken away, and then the others
pub dropped_more : {A : Type 0} (xs : List A) (len : ℕ) → len < length xs → drop (length (drop 1 xs) - len) (drop 1 xs) ≡ drop (length xs - len) xs
dropped_more [] len lt = absurd (omega arith)
dropped_more (x ∷ xs) len lt = let e : suc (length xs) - len ≡ suc (length xs - len) = omega arith in ap (λ n. drop n (x ∷ xs)) (sym e)
