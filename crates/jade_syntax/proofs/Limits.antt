-- What the limits of a program give, item by item.
use Rattle.std.proofs.Common.{
  ◌≡◌,
  ℕ,
  ◌+◌,
  ◌-◌,
  ◌<◌,
  ◌≤◌,
  Bool,
  true,
  false,
  ◌&&◌,
  List,
  [],
  ◌∷◌,
  ◌++◌,
  length,
  drop,
  sum,
  Some,
  zero,
  suc,
  refl,
  ap,
  sym,
  ◌∙◌,
  arith,
  add-one,
  add-zero,
  zero-add,
  drop-cons,
  length-append,
  append_assoc,
  replicate,
  subst,
}
use Rattle.std.specs.List.{list_all, slice_get}
use Rattle.std.proofs.lemmas.Bool.{leb-true}
use Rattle.std.proofs.lemmas.Option.{slice_get_within, get_or_from_slice_get}
use Rattle.std.proofs.lemmas.List.{drop_all, length-replicate}
use Rattle.jade_base.specs.declared.place.Pos.{Pos}
use Rattle.jade_syntax.specs.declared.tree.Number.{Number}
use Rattle.jade_syntax.specs.declared.tree.Item.{Item}
use Rattle.jade_syntax.specs.declared.tree.Item.TheVariants.{Input, Single, Family}
use Rattle.jade_syntax.specs.Objects.{input_names, sizes, labels, amount, Label, member_labels, IsPlace}
use Rattle.jade_syntax.specs.Limits.{is_within, within_limits}

-- the items from a place on are the one there and those after it
pub drop_item : {A : Type 0} (xs : List A) (i : ℕ) (x : A) → slice_get xs i ≡ Some x → drop i xs ≡ x ∷ drop (i + 1) xs
drop_item xs i x h =
    let lt = slice_get_within xs i x h in
    rw (drop-cons xs i x lt, get_or_from_slice_get xs i x x h, add-one i) refl

pub record Limits (items : List Item) : Type 0 where
  pub each : list_all is_within items ≡ true
  pub inputs : length (input_names items) ≤ 64
  pub objects : length (sizes items) ≤ 4096
  pub cells : sum (sizes items) ≤ 1048576

-- both tests of a conjunction hold
pub both : (a b : Bool) → (a && b) ≡ true → (a ≡ true) × (b ≡ true)
both true true h = (refl, refl)
both true false h = cc
both false b h = cc

pub limits : (items : List Item) → within_limits items ≡ true → Limits items
limits items h =
    let p = both _ _ h in let q = both _ _ p.0 in let r = both _ _ p.1 in
    record { each = q.0; inputs = leb-true _ _ q.1; objects = leb-true _ _ r.0; cells = leb-true _ _ r.1 }

-- an item among others is within its limits
pub each_within : (items : List Item) (i : ℕ) (x : Item) → list_all is_within items ≡ true → slice_get items i ≡ Some x → is_within x ≡ true
each_within [] i x h e = cc
each_within (y ∷ items) zero x h e = let f : y ≡ x = cc in ap is_within (sym f) ∙ (both _ _ h).0
each_within (y ∷ items) (suc i) x h e = each_within items i x (both _ _ h).1 e

pub item_within : (items : List Item) (i : ℕ) (x : Item) → within_limits items ≡ true → slice_get items i ≡ Some x → is_within x ≡ true
item_within items i x h e = each_within items i x (limits items h).each e

pub inputs_first : (x : Item) (xs : List Item) → input_names (x ∷ xs) ≡ input_names (x ∷ []) ++ input_names xs
inputs_first (Input x at) xs = refl
inputs_first (Single x at size) xs = refl
inputs_first (Family x at count size) xs = refl

pub sizes_first : (x : Item) (xs : List Item) → sizes (x ∷ xs) ≡ sizes (x ∷ []) ++ sizes xs
sizes_first (Input x at) xs = refl
sizes_first (Single x at size) xs = refl
sizes_first (Family x at count size) xs = sym (append_assoc (replicate (amount count.value) (amount size.value)) [] (sizes xs))

pub labels_first : (x : Item) (xs : List Item) → labels (x ∷ xs) ≡ labels (x ∷ []) ++ labels xs
labels_first (Input x at) xs = refl
labels_first (Single x at size) xs = refl
labels_first (Family x at count size) xs = sym (append_assoc (member_labels x 0 (amount count.value)) [] (labels xs))

-- counting what is declared, one item more
pub inputs_step : (items : List Item) (i n m : ℕ) (x : Item) → slice_get items i ≡ Some x → n + length (input_names (drop i items)) ≡ m
    → (n + length (input_names (x ∷ []))) + length (input_names (drop (i + 1) items)) ≡ m
inputs_step items i n m x e h =
    let d = drop_item items i x e in
    let f : length (input_names (drop i items)) ≡ length (input_names (x ∷ [])) + length (input_names (drop (i + 1) items)) =
    ap (λ xs. length (input_names xs)) d ∙ ap length (inputs_first x (drop (i + 1) items))
    ∙ length-append (input_names (x ∷ [])) (input_names (drop (i + 1) items)) in
    omega arith

pub objects_step : (items : List Item) (i n m : ℕ) (x : Item) → slice_get items i ≡ Some x → n + length (sizes (drop i items)) ≡ m
    → (n + length (sizes (x ∷ []))) + length (sizes (drop (i + 1) items)) ≡ m
objects_step items i n m x e h =
    let d = drop_item items i x e in
    let f : length (sizes (drop i items)) ≡ length (sizes (x ∷ [])) + length (sizes (drop (i + 1) items)) =
    ap (λ xs. length (sizes xs)) d ∙ ap length (sizes_first x (drop (i + 1) items)) ∙ length-append (sizes (x ∷ [])) (sizes (drop (i + 1) items)) in
    omega arith

-- what stands at a place of two lists
pub get_front : {A : Type 0} (xs ys : List A) (k : ℕ) → k < length xs → slice_get (xs ++ ys) k ≡ slice_get xs k
get_front [] ys k h = absurd (omega arith)
get_front (x ∷ xs) ys zero h = refl
get_front (x ∷ xs) ys (suc k) h = let h' : k < length xs = omega arith in get_front xs ys k h'

pub get_back : {A : Type 0} (xs ys : List A) (k : ℕ) → length xs ≤ k → slice_get (xs ++ ys) k ≡ slice_get ys (k - length xs)
get_back [] ys k h = ap (slice_get ys) (omega arith)
get_back (x ∷ xs) ys zero h = absurd (omega arith)
get_back (x ∷ xs) ys (suc k) h =
    let h' : length xs ≤ k = omega arith in
    let e : suc k - length (x ∷ xs) ≡ k - length xs = omega arith in rw e (get_back xs ys k h')

pub members_counted : (x : List ℕ) (i n : ℕ) → length (member_labels x i n) ≡ n
members_counted x i zero = refl
members_counted x i (suc n) = ap suc (members_counted x (suc i) n)

pub member_at : (x : List ℕ) (i n k : ℕ) → k < n → slice_get (member_labels x i n) k ≡ Some (record { name = x; member = Some (i + k) })
member_at x i zero k h = absurd (omega arith)
member_at x i (suc n) zero h = rw (add-zero i) refl
member_at x i (suc n) (suc k) h =
    let h' : k < n = omega arith in
    let e : suc i + k ≡ i + suc k = omega arith in
    member_at x (suc i) n k h' ∙ ap (λ j. Some (record { name = x; member = Some j })) e

pub same_counted : {A : Type 0} (n k : ℕ) (x : A) → k < n → slice_get (replicate n x) k ≡ Some x
same_counted zero k x h = absurd (omega arith)
same_counted (suc n) zero x h = refl
same_counted (suc n) (suc k) x h = let h' : k < n = omega arith in same_counted n k x h'

pub labels_counted : (xs : List Item) → length (labels xs) ≡ length (sizes xs)
labels_counted [] = refl
labels_counted (Input x at ∷ xs) = labels_counted xs
labels_counted (Single x at size ∷ xs) = ap suc (labels_counted xs)
labels_counted (Family x at count size ∷ xs) =
    length-append (member_labels x 0 (amount count.value)) (labels xs)
    ∙ ap (λ n. n + length (labels xs)) (members_counted x 0 (amount count.value))
    ∙ ap (λ n. amount count.value + n) (labels_counted xs)
    ∙ sym (length-append (replicate (amount count.value) (amount size.value)) (sizes xs)
    ∙ ap (λ n. n + length (sizes xs)) (length-replicate (amount count.value) (amount size.value)))

-- an object is so many objects after the items before a place
pub record Left (items : List Item) (object i left : ℕ) : Type 0 where
  pub within : left < length (sizes (drop i items))
  pub size : slice_get (sizes items) object ≡ slice_get (sizes (drop i items)) left
  pub label : slice_get (labels items) object ≡ slice_get (labels (drop i items)) left

pub left_none : (items : List Item) (object : ℕ) → object < length (sizes items) → Left items object 0 object
left_none items object h = record { within = h; size = refl; label = refl }

pub left_more : (items : List Item) (object i left n : ℕ) (x : Item) → slice_get items i ≡ Some x → n ≡ length (sizes (x ∷ [])) → n ≤ left
    → Left items object i left → Left items object (i + 1) (left - n)
left_more items object i left n x e en le h =
    let d = drop_item items i x e in
    let rest : List Item = drop (i + 1) items in
    let s : sizes (drop i items) ≡ sizes (x ∷ []) ++ sizes rest = ap sizes d ∙ sizes_first x rest in
    let l : labels (drop i items) ≡ labels (x ∷ []) ++ labels rest = ap labels d ∙ labels_first x rest in
    let c = ap length s ∙ length-append (sizes (x ∷ [])) (sizes rest) in
    let w = h.within in
    let k : length (labels (x ∷ [])) ≡ n = labels_counted (x ∷ []) ∙ sym en in
    let le' : length (sizes (x ∷ [])) ≤ left = omega arith in
    let le'' : length (labels (x ∷ [])) ≤ left = omega arith in
    record {
      within = omega arith;
      size = h.size ∙ ap (λ t. slice_get t left) s ∙ get_back (sizes (x ∷ [])) (sizes rest) left le' ∙ ap (λ m. slice_get (sizes rest) (left - m)) (sym en);
      label = h.label ∙ ap (λ t. slice_get t left) l ∙ get_back (labels (x ∷ [])) (labels rest) left le'' ∙ ap (λ m. slice_get (labels rest) (left - m)) k;
    }

pub left_here : (items : List Item) (object i left n : ℕ) (x : Item) → slice_get items i ≡ Some x → n ≡ length (sizes (x ∷ [])) → left < n
    → Left items object i left → IsPlace items object i left
left_here items object i left n x e en lt h =
    let d = drop_item items i x e in
    let rest : List Item = drop (i + 1) items in
    let s : sizes (drop i items) ≡ sizes (x ∷ []) ++ sizes rest = ap sizes d ∙ sizes_first x rest in
    let l : labels (drop i items) ≡ labels (x ∷ []) ++ labels rest = ap labels d ∙ labels_first x rest in
    let lt' : left < length (sizes (x ∷ [])) = omega arith in
    let lt'' : left < length (labels (x ∷ [])) = omega (arith, labels_counted (x ∷ [])) in
    let as_x : (y : Item) → slice_get items i ≡ Some y → x ≡ y = λ y f. cc in
    let P : Item → Type 0 = λ y. left < length (sizes (y ∷ [])) in
    record {
      within = slice_get_within items i x e;
      member_within = λ y f. subst P (as_x y f) lt';
      size = λ y f. h.size ∙ ap (λ t. slice_get t left) s ∙ get_front (sizes (x ∷ [])) (sizes rest) left lt'
          ∙ ap (λ z. slice_get (sizes (z ∷ [])) left) (as_x y f);
      label = λ y f. h.label ∙ ap (λ t. slice_get t left) l ∙ get_front (labels (x ∷ [])) (labels rest) left lt''
          ∙ ap (λ z. slice_get (labels (z ∷ [])) left) (as_x y f);
    }

pub left_nowhere : (items : List Item) (object i left : ℕ) → length items ≤ i → Left items object i left → ⊥
left_nowhere items object i left le h =
    let e : drop i items ≡ [] = drop_all i items le in
    let w : left < length (sizes (drop i items)) = h.within in
    let z = ap (λ xs. length (sizes xs)) e in omega arith

-- what a member of a family is called
pub family_label : (y : Item) (x : List ℕ) (at : Pos) (count size : Number) (k : ℕ) → y ≡ Family x at count size → k < length (labels (y ∷ []))
    → slice_get (labels (y ∷ [])) k ≡ Some (record { name = x; member = Some k })
family_label y x at count size k e h =
    let ms : List Label = member_labels x 0 (amount count.value) in
    let h' : k < length (ms ++ []) = (let P : Item → Type 0 = λ z. k < length (labels (z ∷ [])) in subst P e h) in
    let n : length (ms ++ []) ≡ amount count.value = length-append ms [] ∙ omega (arith, members_counted x 0 (amount count.value)) in
    let lt : k < amount count.value = omega arith in
    let lt' : k < length ms = omega (arith, members_counted x 0 (amount count.value)) in
    ap (λ z. slice_get (labels (z ∷ [])) k) e ∙ get_front ms [] k lt' ∙ member_at x 0 (amount count.value) k lt
    ∙ ap (λ j. Some (record { name = x; member = Some j })) (zero-add k)
