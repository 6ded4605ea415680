-- The objects that the names of objects stand for are there.
use Rattle.std.proofs.Common.{◌≡◌, ℕ, zero, suc, ◌+◌, ◌<◌, ◌≤◌, List, [], ◌∷◌, ◌++◌, length, Bool, true, false, ◌&&◌, Some}
use Rattle.std.proofs.Common.{refl, sym, ap, ap₂, ◌∙◌, subst, arith, append_assoc, length-append}
use Rattle.std.specs.Prelude.{ℤ, pos, negsuc, slice_get, nat_lt, nat_le, nat_eq, replicate, if◌then◌else◌}
use Rattle.std.specs.List.{list_all}
use Rattle.std.proofs.lemmas.Bool.{lt-ltb, le-leb, leb-true, eq-eqb, and_from, and_parts, or_left, or_right}
use Rattle.std.proofs.lemmas.Option.{none-some, same_Some}
use Rattle.jade_syntax.specs.declared.tree.Item.{Item}
use Rattle.jade_syntax.specs.declared.tree.Item.TheVariants as item
use Rattle.jade_syntax.specs.Abstract.{Name}
use Rattle.jade_syntax.specs.Numbering.{same_name}
use Rattle.jade_syntax.specs.Objects.{amount, sizes}
use Rattle.jade_syntax.specs.Limits.{is_amount, is_within}
use Rattle.jade_syntax.specs.StaticFaults.{Meaning, Input, Holds, Turns, Single, Family, Names, known, found, item_names}
use Rattle.jade_meaning.specs.declared.resolve.Range.{Range}
use Rattle.jade_meaning.specs.Course.{range_from}
use Rattle.task_code.specs.Rules.{is_size, have_size, is_some_size}

-- what stands for objects
abbrev pub IsObject : Meaning → Type 0
IsObject Input = ⊥
IsObject (Holds k) = ⊥
IsObject Turns = ⊥
IsObject Single = Unit {0}
IsObject Family = Unit {0}

-- there is an object, and all have the size
record Sized (sizes : List ℕ) (r : Range) : Type 0 where
  pub some : 0 < r.count
  pub each : have_size sizes r.first r.count r.size ≡ true

-- what the rules ask of objects
pub record There (sizes : List ℕ) (r : Range) : Type 0 where
  pub family : (nat_lt 0 r.count && nat_le (r.first + r.count) (length sizes)) ≡ true
  pub members : (nat_lt 0 r.count && have_size sizes r.first r.count r.size) ≡ true
  pub single : is_size r.size (slice_get sizes r.first) ≡ true
  pub first : nat_lt r.first (length sizes) ≡ true
  pub size : is_some_size sizes r.size ≡ true

is_size_there : (sizes : List ℕ) (k size : ℕ) → is_size size (slice_get sizes k) ≡ true → (k < length sizes) × (is_some_size sizes size ≡ true)
is_size_there [] k size h = absurd (cc)
is_size_there (n ∷ sizes) zero size h = (omega arith, or_left (nat_eq n size) (is_some_size sizes size) h)
is_size_there (n ∷ sizes) (suc k) size h =
    let rest = is_size_there sizes k size h in (omega (arith, rest.0), or_right (nat_eq n size) (is_some_size sizes size) rest.1)

within : (sizes : List ℕ) (first count size : ℕ) → first < length sizes → have_size sizes first count size ≡ true → first + count ≤ length sizes
within sizes first zero size lt h = omega (arith, lt)
within sizes first (suc zero) size lt h = omega (arith, lt)
within sizes first (suc (suc count)) size lt h =
    let rest = (and_parts (is_size size (slice_get sizes first)) (have_size sizes (suc first) (suc count) size) h).1 in
    let next = (and_parts (is_size size (slice_get sizes (suc first))) (have_size sizes (suc (suc first)) count size) rest).0 in
    let more = within sizes (suc first) (suc count) size (is_size_there sizes (suc first) size next).0 rest in
    omega (arith, more)

there : (sizes : List ℕ) (r : Range) → Sized sizes r → There sizes r
there sizes r s = by_case r.count refl
  where
    by_case : (count : ℕ) → r.count ≡ count → There sizes r
    by_case zero e = absurd (let some = s.some in omega (arith, e, some))
    by_case (suc count) e =
        let each : have_size sizes r.first (suc count) r.size ≡ true = ap (λ n. have_size sizes r.first n r.size) (sym e) ∙ s.each in
        let single = (and_parts (is_size r.size (slice_get sizes r.first)) (have_size sizes (suc r.first) count r.size) each).0 in
        let first = is_size_there sizes r.first r.size single in
        let some = lt-ltb 0 r.count s.some in
        record {
          family = and_from (nat_lt 0 r.count) _ some (le-leb (r.first + r.count) (length sizes) (within sizes r.first r.count r.size first.0 s.each));
          members = and_from (nat_lt 0 r.count) _ some s.each;
          single = single;
          first = lt-ltb r.first (length sizes) first.0;
          size = first.1;
        }

is_some : (most : ℕ) (z : ℤ) → is_amount most z ≡ true → 0 < amount z
is_some most (pos n) h = leb-true 1 n (and_parts (nat_le 1 n) (nat_le n most) h).0
is_some most (negsuc n) h = absurd (cc)

at_seam : (before : List ℕ) (n : ℕ) (rest : List ℕ) → slice_get (before ++ n ∷ rest) (length before) ≡ Some n
at_seam [] n rest = refl
at_seam (x ∷ before) n rest = at_seam before n rest

longer : (before : List ℕ) (n : ℕ) → length (before ++ n ∷ []) ≡ suc (length before)
longer before n = omega (arith, length-append before (n ∷ []))

many : (c n : ℕ) → length (replicate c n) ≡ c
many zero n = refl
many (suc c) n = ap suc (many c n)

-- so many objects of a size
all_sized : (count size : ℕ) (before rest : List ℕ) → have_size (before ++ (replicate count size ++ rest)) (length before) count size ≡ true
all_sized zero size before rest = refl
all_sized (suc count) size before rest =
    let all : List ℕ = before ++ (size ∷ (replicate count size ++ rest)) in
    let more = all_sized count size (before ++ size ∷ []) rest in
    let same : have_size all (suc (length before)) count size ≡ true =
    ap₂ (λ l k. have_size l k count size) (sym (append_assoc before (size ∷ []) (replicate count size ++ rest))) (sym (longer before size)) ∙ more in
    and_from (is_size size (slice_get all (length before))) (have_size all (suc (length before)) count size)
    (ap (is_size size) (at_seam before size (replicate count size ++ rest)) ∙ eq-eqb size size refl) same

-- the objects of a name of items that are declared after others
declared : (items : List Item) (before : List ℕ) (x : Name) (m : Meaning) → list_all is_within items ≡ true → found x (item_names items) ≡ Some m
    → IsObject m → Sized (before ++ sizes items) (range_from (length before) x items)
declared [] before x m w f o = absurd (none-some m f)
declared (item.Input y at ∷ items) before x m w f o = by_case (same_name x y) f (λ g. declared items before x m w g o)
  where
    by_case : (t : Bool) → (if t then Some Input else found x (item_names items)) ≡ Some m
        → (found x (item_names items) ≡ Some m → Sized (before ++ sizes items) (range_from (length before) x items))
        → Sized (before ++ sizes items) (range_from (length before) x items)
    by_case true g more = absurd (subst IsObject (sym (same_Some Input m g)) o)
    by_case false g more = more g
declared (item.Single y at size ∷ items) before x m w f o =
    by_case (same_name x y) f
    (λ g. declared items (before ++ amount size.value ∷ []) x m (and_parts (is_within (item.Single y at size)) (list_all is_within items) w).1 g o)
  where
    n : ℕ
    n = amount size.value

    by_case : (t : Bool) → (if t then Some Single else found x (item_names items)) ≡ Some m
        → (found x (item_names items) ≡ Some m → Sized ((before ++ n ∷ []) ++ sizes items) (range_from (length (before ++ n ∷ [])) x items))
        → Sized (before ++ (n ∷ sizes items)) (if t then record { first = length before; count = 1; size = n } else range_from (suc (length before)) x items)
    by_case true g more = record { some = omega arith; each = all_sized 1 n before (sizes items) }
    by_case false g more =
        subst (λ l. Sized l (range_from (suc (length before)) x items)) (append_assoc before (n ∷ []) (sizes items))
        (subst (λ k. Sized ((before ++ n ∷ []) ++ sizes items) (range_from k x items)) (longer before n) (more g))
declared (item.Family y at count size ∷ items) before x m w f o =
    by_case (same_name x y) f
    (λ g. declared items (before ++ replicate (amount count.value) (amount size.value)) x m
    (and_parts (is_within (item.Family y at count size)) (list_all is_within items) w).1 g o)
  where
    n : ℕ
    n = amount size.value

    c : ℕ
    c = amount count.value

    by_case : (t : Bool) → (if t then Some Family else found x (item_names items)) ≡ Some m
        → (found x (item_names items) ≡ Some m → Sized ((before ++ replicate c n) ++ sizes items) (range_from (length (before ++ replicate c n)) x items))
        → Sized (before ++ (replicate c n ++ sizes items))
        (if t then record { first = length before; count = c; size = n } else range_from (length before + c) x items)
    by_case true g more =
        let own = (and_parts (is_within (item.Family y at count size)) (list_all is_within items) w).0 in
        record {
          some = is_some 4096 count.value (and_parts (is_amount 4096 count.value) (is_amount 65536 size.value) own).0;
          each = all_sized c n before (sizes items);
        }
    by_case false g more =
        let long : length (before ++ replicate c n) ≡ length before + c = length-append before (replicate c n) ∙ ap (λ k. length before + k) (many c n) in
        subst (λ l. Sized l (range_from (length before + c) x items)) (append_assoc before (replicate c n) (sizes items))
        (subst (λ k. Sized ((before ++ replicate c n) ++ sizes items) (range_from k x items)) long (more g))

-- what is known of names: those of objects stand for objects that are there
pub record Knows (items : List Item) (names : Names) : Type 0 where
  pub object : (x : Name) (m : Meaning) → found x names ≡ Some m → IsObject m → There (sizes items) (range_from 0 x items)

pub knows_items : (items : List Item) → list_all is_within items ≡ true → Knows items (item_names items)
knows_items items w = record { object = λ x m f o. there (sizes items) (range_from 0 x items) (declared items [] x m w f o) }

-- one more name, of no object
pub knows_more : (items : List Item) (y : Name) (m : Meaning) (names : Names) → (IsObject m → ⊥) → Knows items names → Knows items (known y m ∷ names)
knows_more items y m names no_object k = record { object = λ x n f o. by_case x n (same_name x y) f o }
  where
    by_case : (x : Name) (n : Meaning) (t : Bool) → (if t then Some m else found x names) ≡ Some n → IsObject n → There (sizes items) (range_from 0 x items)
    by_case x n true f o = absurd (no_object (subst IsObject (sym (same_Some m n f)) o))
    by_case x n false f o = k.object x n f o
