-- Lists of names, as they grow by one.
use Rattle.std.proofs.Common.{◌≡◌, ℕ, zero, suc, ◌+◌, ◌<◌, ◌≤◌, Bool, true, false, cond, ◌||◌, List, [], ◌∷◌, ◌++◌, ◌-◌, ◌≢◌, length, slice_set, take, get_or, not, Option, Some, None, refl, sym, ap, ◌∙◌, subst, arith}
use Rattle.std.specs.Prelude.{map, slice_index_or, ◌&&◌, if◌then◌else◌}
use Rattle.std.specs.Map.{lookup}
use Rattle.std.specs.List.{filter}
use Rattle.std.proofs.lemmas.List.{take_more, map-append, append_assoc, length-append, append-nil, get_or-set_same, get_or-set_other}
use Rattle.std.proofs.lemmas.List.Elements.{filter-append}
use Rattle.jade_base.specs.declared.place.Pos.{Pos}
use Rattle.jade_lexer.specs.Lexemes.{TokenAt}
use Rattle.jade_syntax.specs.Abstract.{Name}
use Rattle.jade_syntax.specs.Numbering.{same_name}
use Rattle.name_scope.proofs.Kept.{same_from, same_self}
use Rattle.proc_expand.specs.declared.sign.Sign.{Sign}
use Rattle.proc_expand.specs.Words.{signs, at, bytes_at, those, one_if, is_called, is_item_word}
use Rattle.proc_expand.specs.Names.{is_among, first_places, place_among}
use Rattle.proc_expand.specs.Refusals.{param_place}
use Rattle.proc_expand.specs.Written.{items as item_names, from, is_variable, names_at, in_procedure}
use Rattle.proc_expand.specs.steps.Replaced.{names_of, with_name, with_names, found_among, AreNumbered, IsNumber, IsMark}
use Rattle.proc_expand.proofs.First.{plus_one}
use Rattle.proc_expand.proofs.Outside.{those_filter}

-- ---- one name more

pub among_more : (xs : List Name) (y x : Name) → is_among (xs ++ y ∷ []) x ≡ (is_among xs x || same_name x y)
among_more [] y x = by (same_name x y)
  where
    by : (b : Bool) → (if b then true else false) ≡ (false || b)
    by true = refl
    by false = refl
among_more (z ∷ xs) y x = by (same_name x z) (among_more xs y x)
  where
    by : (b : Bool) → is_among (xs ++ y ∷ []) x ≡ (is_among xs x || same_name x y)
        → (if b then true else is_among (xs ++ y ∷ []) x) ≡ ((if b then true else is_among xs x) || same_name x y)
    by true h = refl
    by false h = h

pub place_kept : (xs : List Name) (y x : Name) → is_among xs x ≡ true → place_among (xs ++ y ∷ []) x ≡ place_among xs x
place_kept [] y x h = absurd (cc)
place_kept (z ∷ xs) y x h = by (same_name x z) (place_kept xs y x) h
  where
    by : (b : Bool) → (is_among xs x ≡ true → place_among (xs ++ y ∷ []) x ≡ place_among xs x) → (if b then true else is_among xs x) ≡ true
        → (if b then 0 else suc (place_among (xs ++ y ∷ []) x)) ≡ (if b then 0 else suc (place_among xs x))
    by true k g = refl
    by false k g = ap suc (k g)

pub place_last : (xs : List Name) (y : Name) → is_among xs y ≡ false → place_among (xs ++ y ∷ []) y ≡ length xs
place_last [] y h = ap (λ b. if b then 0 else suc 0) (same_self y)
place_last (z ∷ xs) y h = by (same_name y z) (place_last xs y) h
  where
    by : (b : Bool) → (is_among xs y ≡ false → place_among (xs ++ y ∷ []) y ≡ length xs) → (if b then true else is_among xs y) ≡ false
        → (if b then 0 else suc (place_among (xs ++ y ∷ []) y)) ≡ suc (length xs)
    by true k g = absurd (cc)
    by false k g = ap suc (k g)

pub names_count : (es : List (Name × ℕ)) → length (names_of es) ≡ length es
names_count [] = refl
names_count (e ∷ es) = length-append (names_of es) (e.0 ∷ []) ∙ (let h = names_count es in omega (arith, h))

-- something was found
abbrev pub has : Option ℕ → Bool
has None = false
has (Some n) = true

pub looked_up : (es : List (Name × ℕ)) (x : Name) → has (lookup (same_name x) es) ≡ is_among (names_of es) x
looked_up [] x = refl
looked_up (e ∷ es) x = by (same_name x e.0) (looked_up es x) ∙ sym (among_more (names_of es) e.0 x)
  where
    by : (b : Bool) → has (lookup (same_name x) es) ≡ is_among (names_of es) x
        → has (cond b (Some e.1) (lookup (same_name x) es)) ≡ (is_among (names_of es) x || b)
    by true k = sym (or_true (is_among (names_of es) x))
      where
        or_true : (a : Bool) → (a || true) ≡ true
        or_true true = refl
        or_true false = refl
    by false k = k ∙ sym (or_false (is_among (names_of es) x))
      where
        or_false : (a : Bool) → (a || false) ≡ a
        or_false true = refl
        or_false false = refl

pub not_there : (es : List (Name × ℕ)) (x : Name) → None ≡ lookup (same_name x) es → is_among (names_of es) x ≡ false
not_there es x h = sym (looked_up es x) ∙ ap has (sym h)

pub there : (es : List (Name × ℕ)) (x : Name) (n : ℕ) → Some n ≡ lookup (same_name x) es → is_among (names_of es) x ≡ true
there es x n h = sym (looked_up es x) ∙ ap has (sym h)

found_last : (xs : List Name) (y x : Name) → is_among xs y ≡ false → same_name x y ≡ true → Some (length xs) ≡ found_among (xs ++ y ∷ []) x
found_last xs y x n e =
    let s = same_from x y e in
    let here : is_among (xs ++ y ∷ []) x ≡ true = among_more xs y x ∙ ap (λ b. is_among xs x || b) e ∙ or_true (is_among xs x) in
    ap Some (sym (ap (place_among (xs ++ y ∷ [])) s ∙ place_last xs y n))
    ∙ ap (λ b. if b then Some (place_among (xs ++ y ∷ []) x) else None) (sym here)
  where
    or_true : (a : Bool) → (a || true) ≡ true
    or_true true = refl
    or_true false = refl

found_other : (xs : List Name) (y x : Name) → same_name x y ≡ false → found_among xs x ≡ found_among (xs ++ y ∷ []) x
found_other xs y x e = by (is_among xs x) refl
  where
    or_false : (a : Bool) → (a || false) ≡ a
    or_false true = refl
    or_false false = refl

    same : is_among (xs ++ y ∷ []) x ≡ is_among xs x
    same = among_more xs y x ∙ ap (λ b. is_among xs x || b) e ∙ or_false (is_among xs x)

    by : (b : Bool) → is_among xs x ≡ b → found_among xs x ≡ found_among (xs ++ y ∷ []) x
    by true h = ap (λ b. if b then Some (place_among xs x) else None) h ∙ ap Some (sym (place_kept xs y x h))
        ∙ ap (λ b. if b then Some (place_among (xs ++ y ∷ []) x) else None) (sym (same ∙ h))
    by false h = ap (λ b. if b then Some (place_among xs x) else None) h
        ∙ ap (λ b. if b then Some (place_among (xs ++ y ∷ []) x) else None) (sym (same ∙ h))

pub none_numbered : (es : List (Name × ℕ)) → es ≡ [] → AreNumbered es
none_numbered es h = subst AreNumbered (sym h) (record { found = λ x. refl })

-- a new name gets the next number
pub numbered_more : (es : List (Name × ℕ)) (y : Name) (n : ℕ) → n ≡ length es → is_among (names_of es) y ≡ false → AreNumbered es
    → AreNumbered ((y, n) ∷ es)
numbered_more es y n count is_new h = record { found = λ x. by x (same_name x y) refl }
  where
    by : (x : Name) (b : Bool) → same_name x y ≡ b → cond (same_name x y) (Some n) (lookup (same_name x) es) ≡ found_among (names_of es ++ y ∷ []) x
    by x true e = ap (λ t. cond t (Some n) (lookup (same_name x) es)) e ∙ ap Some (count ∙ sym (names_count es))
        ∙ found_last (names_of es) y x is_new e
    by x false e = ap (λ t. cond t (Some n) (lookup (same_name x) es)) e ∙ h.found x ∙ found_other (names_of es) y x e

-- ---- names that are met

or_left : (a b : Bool) → a ≡ true → (a || b) ≡ true
or_left a b h = ap (λ t. t || b) h

or_right : (a b : Bool) → b ≡ true → (a || b) ≡ true
or_right true b h = refl
or_right false b h = h

pub is_number : (items names : List Name) (x : Name) (n : ℕ) → is_among items x ≡ false → is_among names x ≡ true → n ≡ place_among names x
    → IsNumber items names x (Some n)
is_number items names x n h g e = record {
  met = or_right (is_among items x) (is_among names x) g;
  value = ap Some e ∙ ap (λ b. if b then None else Some (place_among names x)) (sym h);
}

pub new_number : (items : List Name) (es : List (Name × ℕ)) (x : Name) (n : ℕ) → is_among items x ≡ false → n ≡ length es
    → is_among (names_of es) x ≡ false → IsNumber items (names_of es ++ x ∷ []) x (Some n)
new_number items es x n h count g =
    is_number items (names_of es ++ x ∷ []) x n h
    (among_more (names_of es) x x ∙ or_right (is_among (names_of es) x) (same_name x x) (same_self x))
    (count ∙ sym (names_count es) ∙ sym (place_last (names_of es) x g))

-- numbers stay as more names are met
number_kept : (items names : List Name) (y x : Name) (m : Option ℕ) → IsNumber items names x m → IsNumber items (names ++ y ∷ []) x m
number_kept items names y x m h = by (is_among items x) refl
  where
    by : (b : Bool) → is_among items x ≡ b → IsNumber items (names ++ y ∷ []) x m
    by true e = record {
      met = or_left (is_among items x) (is_among (names ++ y ∷ []) x) e;
      value = h.value ∙ ap (λ b. if b then None else Some (place_among names x)) e
          ∙ ap (λ b. if b then None else Some (place_among (names ++ y ∷ []) x)) (sym e);
    }
    by false e =
        let here : is_among names x ≡ true = sym (ap (λ a. a || is_among names x) e) ∙ h.met in
        record {
          met = or_right (is_among items x) (is_among (names ++ y ∷ []) x)
              (among_more names y x ∙ or_left (is_among names x) (same_name x y) here);
          value = h.value ∙ ap (λ n. if is_among items x then None else Some n) (sym (place_kept names y x here));
        }

pub number_stays : (items names : List Name) (y x : Name) (m : Option ℕ) → IsNumber items names x m → IsNumber items (with_name items names y) x m
number_stays items names y x m h = by (is_among items y || is_among names y)
  where
    by : (b : Bool) → IsNumber items (if b then names else names ++ y ∷ []) x m
    by true = h
    by false = number_kept items names y x m h

pub numbers_stay : (items names ys : List Name) (x : Name) (m : Option ℕ) → IsNumber items names x m → IsNumber items (with_names items names ys) x m
numbers_stay items names [] x m h = h
numbers_stay items names (y ∷ ys) x m h = numbers_stay items (with_name items names y) ys x m (number_stays items names y x m h)

pub met_more : (items names xs ys : List Name) → with_names items names (xs ++ ys) ≡ with_names items (with_names items names xs) ys
met_more items names [] ys = refl
met_more items names (x ∷ xs) ys = met_more items (with_name items names x) xs ys

-- they are the names at their first places
pub are_first : (items names seen xs : List Name) → ((z : Name) → is_among seen z ≡ is_among names z)
    → with_names items names xs ≡ names ++ first_places items seen xs
are_first items names seen [] h = sym (append-nil names)
are_first items names seen (x ∷ xs) h = by (is_among items x) (is_among names x) refl (are_first items names seen xs h)
    (are_first items (names ++ x ∷ []) (x ∷ seen) xs (λ z. more z (same_name z x)))
  where
    more : (z : Name) (b : Bool) → (if same_name z x then true else is_among seen z) ≡ is_among (names ++ x ∷ []) z
    more z b = step (same_name z x) ∙ sym (among_more names x z)
      where
        step : (b : Bool) → (if b then true else is_among seen z) ≡ (is_among names z || b)
        step true = sym (or_right (is_among names z) true refl)
        step false = h z ∙ or_none (is_among names z)
          where
            or_none : (a : Bool) → a ≡ (a || false)
            or_none true = refl
            or_none false = refl

    by : (a b : Bool) → is_among names x ≡ b → with_names items names xs ≡ names ++ first_places items seen xs
        → with_names items (names ++ x ∷ []) xs ≡ (names ++ x ∷ []) ++ first_places items (x ∷ seen) xs
        → with_names items (if a || b then names else names ++ x ∷ []) xs
        ≡ names ++ (if a then first_places items seen xs
        else (if is_among seen x then first_places items seen xs else x ∷ first_places items (x ∷ seen) xs))
    by true b e k l = k
    by false true e k l =
        k ∙ ap (λ t. names ++ (if t then first_places items seen xs else x ∷ first_places items (x ∷ seen) xs)) (sym (h x ∙ e))
    by false false e k l =
        l ∙ append_assoc names (x ∷ []) (first_places items (x ∷ seen) xs)
        ∙ ap (λ t. names ++ (if t then first_places items seen xs else x ∷ first_places items (x ∷ seen) xs)) (sym (h x ∙ e))

-- ---- places in a row

pub from_more : (ts : List TokenAt) (end : Pos) (k n : ℕ) → from ts end k (suc n) ≡ from ts end k n ++ (k + n) ∷ []
from_more ts end k zero = ap (λ i. i ∷ []) (omega arith)
from_more ts end k (suc n) = ap (λ u. k ∷ u) (from_more ts end (suc k) n ∙ ap (λ i. from ts end (suc k) n ++ i ∷ []) (omega arith))

pub params_more : (ts : List TokenAt) (end : Pos) (p n : ℕ)
    → map (bytes_at ts) (map (param_place p) (from ts end 0 (suc n)))
    ≡ map (bytes_at ts) (map (param_place p) (from ts end 0 n)) ++ bytes_at ts (param_place p n) ∷ []
params_more ts end p n =
    ap (λ u. map (bytes_at ts) (map (param_place p) u)) (from_more ts end 0 n)
    ∙ ap (map (bytes_at ts)) (map-append (param_place p) (from ts end 0 n) ((0 + n) ∷ []))
    ∙ map-append (bytes_at ts) (map (param_place p) (from ts end 0 n)) (param_place p (0 + n) ∷ [])
    ∙ ap (λ i. map (bytes_at ts) (map (param_place p) (from ts end 0 n)) ++ bytes_at ts (param_place p i) ∷ []) (omega arith)

pub names_both : (ts : List TokenAt) (end : Pos) (ks js : List ℕ) → names_at ts end (ks ++ js) ≡ names_at ts end ks ++ names_at ts end js
names_both ts end ks js =
    ap (map (bytes_at ts)) (filter-append (is_variable ts end) ks js)
    ∙ map-append (bytes_at ts) (filter (is_variable ts end) ks) (filter (is_variable ts end) js)

-- ---- the names of items and of the text

-- those of some places that stand directly after a word of items
abbrev pub stands : List Sign → ℕ → Bool
stands ss k = is_item_word (at ss k) && is_called (at ss (suc k))

abbrev pub items_among : List TokenAt → List Sign → List ℕ → List Name
items_among ts ss ks = map (λ k. bytes_at ts (suc k)) (filter (stands ss) ks)

pub no_item : (ts : List TokenAt) (es : List (Name × ℕ)) (ss : List Sign) (k : ℕ) → (is_item_word (at ss k) && is_called (at ss (k + 1))) ≡ false
    → names_of es ≡ names_of es ++ map (λ k. bytes_at ts (suc k)) (one_if (is_item_word (at ss k) && is_called (at ss (suc k))) k)
no_item ts es ss k h =
    sym (append-nil (names_of es))
    ∙ ap (λ t. names_of es ++ map (λ k. bytes_at ts (suc k)) (one_if t k)) (sym h)
    ∙ ap (λ i. names_of es ++ map (λ k. bytes_at ts (suc k)) (one_if (is_item_word (at ss k) && is_called (at ss i)) k)) (plus_one k)

pub item_added : (ts : List TokenAt) (es more : List (Name × ℕ)) (x : Name) (v : ℕ) (ss : List Sign) (k : ℕ) → more ≡ (x, v) ∷ es → x ≡ bytes_at ts (k + 1)
    → (is_item_word (at ss k) && is_called (at ss (k + 1))) ≡ true
    → names_of more ≡ names_of es ++ map (λ k. bytes_at ts (suc k)) (one_if (is_item_word (at ss k) && is_called (at ss (suc k))) k)
item_added ts es more x v ss k h e t =
    ap names_of h ∙ ap (λ y. names_of es ++ y ∷ []) (e ∙ ap (bytes_at ts) (plus_one k))
    ∙ ap (λ u. names_of es ++ map (λ k. bytes_at ts (suc k)) (one_if u k)) (sym t)
    ∙ ap (λ i. names_of es ++ map (λ k. bytes_at ts (suc k)) (one_if (is_item_word (at ss k) && is_called (at ss i)) k)) (plus_one k)

pub items_more : (ts : List TokenAt) (ss : List Sign) (ks : List ℕ) (i d : ℕ) → i < length ks
    → items_among ts ss (take i ks) ++ map (λ k. bytes_at ts (suc k)) (one_if (stands ss (get_or ks i d)) (get_or ks i d))
    ≡ items_among ts ss (take (i + 1) ks)
items_more ts ss ks i d l =
    ap (λ u. items_among ts ss (take i ks) ++ map (λ k. bytes_at ts (suc k)) u) (by (stands ss (get_or ks i d)) refl)
    ∙ sym (map-append (λ k. bytes_at ts (suc k)) (filter (stands ss) (take i ks)) (filter (stands ss) (get_or ks i d ∷ [])))
    ∙ ap (map (λ k. bytes_at ts (suc k))) (sym (filter-append (stands ss) (take i ks) (get_or ks i d ∷ [])))
    ∙ ap (items_among ts ss) (sym (take_more ks i d l))
  where
    by : (b : Bool) → stands ss (get_or ks i d) ≡ b → one_if b (get_or ks i d) ≡ filter (stands ss) (get_or ks i d ∷ [])
    by true e = ap (λ t. if t then get_or ks i d ∷ [] else []) (sym e)
    by false e = ap (λ t. if t then get_or ks i d ∷ [] else []) (sym e)

pub all_items : (ts : List TokenAt) (end : Pos) (ss : List Sign) (ks : List ℕ) → ss ≡ signs ts
    → ks ≡ those (length ts) (λ k. not (in_procedure ts end k)) → items_among ts ss ks ≡ item_names ts end
all_items ts end ss ks e h =
    ap (λ u. items_among ts u ks) e ∙ ap (items_among ts (signs ts)) h
    ∙ ap (map (λ k. bytes_at ts (suc k))) (those_filter (length ts) (stands (signs ts)) (λ k. not (in_procedure ts end k)))

-- ---- marks that are set

pub set_number : (own names : List Name) (ms : List (Option ℕ)) (x y : Name) (k j : ℕ) (m : Option ℕ) → k < length ms → IsNumber own names y m → x ≡ y
    → j ≡ k → IsNumber own names x (slice_index_or (slice_set ms k m) j None)
set_number own names ms x y k j m l h e s =
    subst (IsNumber own names x) (sym (ap (λ i. slice_index_or (slice_set ms k m) i None) s ∙ get_or-set_same ms k m None l))
    (subst (λ z. IsNumber own names z m) (sym e) h)

pub other_number : (own names : List Name) (ms : List (Option ℕ)) (x : Name) (k j : ℕ) (m : Option ℕ) → j ≢ k
    → IsNumber own names x (slice_index_or ms j None) → IsNumber own names x (slice_index_or (slice_set ms k m) j None)
other_number own names ms x k j m f h = subst (IsNumber own names x) (sym (get_or-set_other ms k j m None f)) h

pub set_mark : (ts : List TokenAt) (end : Pos) (own names : List Name) (ms : List (Option ℕ)) (k j : ℕ) (m : Option ℕ) → k < length ms
    → IsMark ts end own names k m → j ≡ k → IsMark ts end own names j (slice_index_or (slice_set ms k m) j None)
set_mark ts end own names ms k j m l h s =
    subst (λ i. IsMark ts end own names i (slice_index_or (slice_set ms k m) i None)) (sym s)
    (subst (IsMark ts end own names k) (sym (get_or-set_same ms k m None l)) h)

pub other_mark : (ts : List TokenAt) (end : Pos) (own names : List Name) (ms : List (Option ℕ)) (k j : ℕ) (m : Option ℕ) → j ≢ k
    → IsMark ts end own names j (slice_index_or ms j None) → IsMark ts end own names j (slice_index_or (slice_set ms k m) j None)
other_mark ts end own names ms k j m f h = subst (IsMark ts end own names j) (sym (get_or-set_other ms k j m None f)) h

pub mark_stays : (ts : List TokenAt) (end : Pos) (own names ys : List Name) (k : ℕ) (m : Option ℕ) → IsMark ts end own names k m
    → IsMark ts end own (with_names own names ys) k m
mark_stays ts end own names ys k m h = record { variable = λ v. numbers_stay own names ys (bytes_at ts k) m (h.variable v); other = h.other }

pub from_step : (ts : List TokenAt) (end : Pos) (start k : ℕ) → start ≤ k → from ts end start (k - start) ++ k ∷ [] ≡ from ts end start (k + 1 - start)
from_step ts end start k h =
    let a : k ≡ start + (k - start) = omega (arith, h) in
    let b : suc (k - start) ≡ k + 1 - start = omega (arith, h) in
    ap (λ i. from ts end start (k - start) ++ i ∷ []) a ∙ sym (from_more ts end start (k - start)) ∙ ap (from ts end start) b

pub params_step : (ts : List TokenAt) (end : Pos) (own old now more : List Name) (p i : ℕ) (x : Name)
    → now ≡ with_names own old (map (bytes_at ts) (map (param_place p) (from ts end 0 i))) → more ≡ with_name own now x
    → x ≡ bytes_at ts (param_place p i) → more ≡ with_names own old (map (bytes_at ts) (map (param_place p) (from ts end 0 (i + 1))))
params_step ts end own old now more p i x h g e =
    let xs = map (bytes_at ts) (map (param_place p) (from ts end 0 i)) in
    g ∙ ap (with_name own now) e ∙ ap (λ u. with_name own u (bytes_at ts (param_place p i))) h
    ∙ sym (met_more own old xs (bytes_at ts (param_place p i) ∷ [])) ∙ ap (with_names own old) (sym (params_more ts end p i))
    ∙ ap (λ n. with_names own old (map (bytes_at ts) (map (param_place p) (from ts end 0 n)))) (sym (plus_one i))

pub body_step : (ts : List TokenAt) (end : Pos) (own old now more : List Name) (start k : ℕ) → start ≤ k
    → now ≡ with_names own old (names_at ts end (from ts end start (k - start))) → more ≡ with_names own now (names_at ts end (k ∷ []))
    → more ≡ with_names own old (names_at ts end (from ts end start (k + 1 - start)))
body_step ts end own old now more start k l h g =
    let ks = from ts end start (k - start) in
    g ∙ ap (λ u. with_names own u (names_at ts end (k ∷ []))) h ∙ sym (met_more own old (names_at ts end ks) (names_at ts end (k ∷ [])))
    ∙ ap (with_names own old) (sym (names_both ts end ks (k ∷ [])) ∙ ap (names_at ts end) (from_step ts end start k l))
