-- The objects that a name stands for, found by going through the items.
use Rattle.std.proofs.Common.{◌≡◌, ℕ, suc, ◌+◌, ◌≤◌, true, false, List, ◌∷◌, ◌++◌, ap, sym, ◌∙◌, drop, Some, length, replicate, arith, add-one}
use Rattle.std.specs.Prelude.{slice_get, if◌then◌else◌}
use Rattle.std.proofs.lemmas.List.{length-append, length-replicate}
use Rattle.jade_base.specs.declared.place.Pos.{Pos}
use Rattle.jade_syntax.specs.declared.tree.Item.{Item}
use Rattle.jade_syntax.specs.declared.tree.Item.TheVariants.{Input, Single, Family}
use Rattle.jade_syntax.specs.declared.tree.Number.{Number}
use Rattle.jade_syntax.specs.Abstract.{Name}
use Rattle.jade_syntax.specs.Numbering.{same_name}
use Rattle.jade_syntax.specs.Objects.{amount, sizes}
use Rattle.jade_meaning.specs.declared.resolve.Range.{Range}
use Rattle.jade_meaning.specs.Course.{range_from}
use Rattle.jade_syntax.proofs.Limits.{drop_item}

-- the items before a place have other names, and declare the objects before o
pub record Passed (x : Name) (items : List Item) (o i : ℕ) : Type 0 where
  pub same : range_from 0 x items ≡ range_from o x (drop i items)
  pub counted : o + length (sizes (drop i items)) ≡ length (sizes items)

-- the items before a place declare o objects
pub record Counted (items : List Item) (o i : ℕ) : Type 0 where
  pub counted : o + length (sizes (drop i items)) ≡ length (sizes items)

module _ (items : List Item) (o i : ℕ) (item : Item) (at_i : slice_get items i ≡ Some item) (h : Counted items o i) where
  sizes_from : (k : Item) → item ≡ k → sizes (drop i items) ≡ sizes (k ∷ drop (i + 1) items)
  sizes_from k e = ap sizes (drop_item items i item at_i ∙ ap (λ y. y ∷ drop (i + 1) items) e)

  pub input_counted : (y : Name) (at : Pos) (p : ℕ) → item ≡ Input y at → p ≡ o → Counted items p (i + 1)
  input_counted y at p e f =
      let d : sizes (drop i items) ≡ sizes (drop (i + 1) items) = sizes_from (Input y at) e in
      record { counted = omega (arith, ap length d, h.counted, f) }

  pub single_counted : (y : Name) (at : Pos) (size : Number) (p : ℕ) → item ≡ Single y at size → p ≡ o + 1 → Counted items p (i + 1)
  single_counted y at size p e f =
      let d : sizes (drop i items) ≡ amount size.value ∷ sizes (drop (i + 1) items) = sizes_from (Single y at size) e in
      record { counted = omega (arith, ap length d, h.counted, f) }

  pub family_counted : (y : Name) (at : Pos) (count size : Number) (m p : ℕ) → item ≡ Family y at count size → m ≡ amount count.value → p ≡ o + m
      → Counted items p (i + 1)
  family_counted y at count size m p e g f =
      let front = replicate (amount count.value) (amount size.value) in
      let d : sizes (drop i items) ≡ front ++ sizes (drop (i + 1) items) = sizes_from (Family y at count size) e in
      let many : length (front ++ sizes (drop (i + 1) items)) ≡ length front + length (sizes (drop (i + 1) items)) =
      length-append front (sizes (drop (i + 1) items)) in
      let n : length front ≡ amount count.value = length-replicate (amount count.value) (amount size.value) in
      record { counted = omega (arith, ap length d, h.counted, many, n, f, g) }

  pub family_fits : (y : Name) (at : Pos) (count size : Number) (m : ℕ) → item ≡ Family y at count size → m ≡ amount count.value → o + m ≤ length (sizes items)
  family_fits y at count size m e g =
      let front = replicate (amount count.value) (amount size.value) in
      let d : sizes (drop i items) ≡ front ++ sizes (drop (i + 1) items) = sizes_from (Family y at count size) e in
      let many : length (front ++ sizes (drop (i + 1) items)) ≡ length front + length (sizes (drop (i + 1) items)) =
      length-append front (sizes (drop (i + 1) items)) in
      let n : length front ≡ amount count.value = length-replicate (amount count.value) (amount size.value) in
      omega (arith, ap length d, h.counted, many, n, g)

  pub single_fits : (y : Name) (at : Pos) (size : Number) → item ≡ Single y at size → o + 1 ≤ length (sizes items)
  single_fits y at size e =
      let d : sizes (drop i items) ≡ amount size.value ∷ sizes (drop (i + 1) items) = sizes_from (Single y at size) e in
      omega (arith, ap length d, h.counted)

module _ (x : Name) (items : List Item) (o i : ℕ) (item : Item) (at_i : slice_get items i ≡ Some item) where
  opened : (k : Item) → item ≡ k → drop i items ≡ k ∷ drop (i + 1) items
  opened k e = drop_item items i item at_i ∙ ap (λ y. y ∷ drop (i + 1) items) e

  pub single_here : (y : Name) (at : Pos) (size : Number) (n : ℕ) → item ≡ Single y at size → same_name x y ≡ true → n ≡ amount size.value
      → range_from 0 x items ≡ range_from o x (drop i items) → record { first = o; count = 1; size = n } ≡ range_from 0 x items
  single_here y at size n e s f h =
      let found : Range = record { first = o; count = 1; size = amount size.value } in
      ap (λ k. record { first = o; count = 1; size = k }) f
      ∙ sym (h ∙ ap (range_from o x) (opened (Single y at size) e) ∙ ap (λ b. if b then found else range_from (suc o) x (drop (i + 1) items)) s)

  pub family_here : (y : Name) (at : Pos) (count size : Number) (m n : ℕ) → item ≡ Family y at count size → same_name x y ≡ true → m ≡ amount count.value
      → n ≡ amount size.value → range_from 0 x items ≡ range_from o x (drop i items) → record { first = o; count = m; size = n } ≡ range_from 0 x items
  family_here y at count size m n e s g f h =
      let found : Range = record { first = o; count = amount count.value; size = amount size.value } in
      ap (λ k. record { first = o; count = k; size = n }) g ∙ ap (λ k. record { first = o; count = amount count.value; size = k }) f
      ∙ sym (h ∙ ap (range_from o x) (opened (Family y at count size) e)
      ∙ ap (λ b. if b then found else range_from (o + amount count.value) x (drop (i + 1) items)) s)

  pub single_within : (y : Name) (at : Pos) (size : Number) → item ≡ Single y at size → Passed x items o i → o + 1 ≤ length (sizes items)
  single_within y at size e h =
      let d : sizes (drop i items) ≡ amount size.value ∷ sizes (drop (i + 1) items) = ap sizes (opened (Single y at size) e) in
      omega (arith, ap length d, h.counted)

  pub family_within : (y : Name) (at : Pos) (count size : Number) (m : ℕ) → item ≡ Family y at count size → m ≡ amount count.value → Passed x items o i
      → o + m ≤ length (sizes items)
  family_within y at count size m e f h =
      let k = amount count.value in
      let front = replicate k (amount size.value) in
      let d : sizes (drop i items) ≡ front ++ sizes (drop (i + 1) items) = ap sizes (opened (Family y at count size) e) in
      let many : length (front ++ sizes (drop (i + 1) items)) ≡ length front + length (sizes (drop (i + 1) items)) =
      length-append front (sizes (drop (i + 1) items)) in
      let n : length front ≡ k = length-replicate k (amount size.value) in
      omega (arith, ap length d, h.counted, many, n, f)

  pub input_past : (y : Name) (at : Pos) (p : ℕ) → item ≡ Input y at → p ≡ o → Passed x items o i → Passed x items p (i + 1)
  input_past y at p e f h = record {
    same = h.same ∙ ap (range_from o x) (opened (Input y at) e) ∙ ap (λ k. range_from k x (drop (i + 1) items)) (sym f);
    counted = ap (λ k. k + length (sizes (drop (i + 1) items))) f ∙ ap (λ l. o + length (sizes l)) (sym (opened (Input y at) e)) ∙ h.counted;
  }

  pub single_past : (y : Name) (at : Pos) (size : Number) (p : ℕ) → item ≡ Single y at size → same_name x y ≡ false → p ≡ o + 1 → Passed x items o i
      → Passed x items p (i + 1)
  single_past y at size p e s f h =
      let found : Range = record { first = o; count = 1; size = amount size.value } in
      let n = length (sizes (drop (i + 1) items)) in
      let more : (o + 1) + n ≡ o + suc n = omega arith in
      record {
        same = h.same ∙ ap (range_from o x) (opened (Single y at size) e) ∙ ap (λ b. if b then found else range_from (suc o) x (drop (i + 1) items)) s
            ∙ ap (λ k. range_from k x (drop (i + 1) items)) (sym (add-one o) ∙ sym f);
        counted = ap (λ k. k + n) f ∙ more ∙ ap (λ l. o + length (sizes l)) (sym (opened (Single y at size) e)) ∙ h.counted;
      }

  pub family_past : (y : Name) (at : Pos) (count size : Number) (m p : ℕ) → item ≡ Family y at count size → same_name x y ≡ false → m ≡ amount count.value
      → p ≡ o + m → Passed x items o i → Passed x items p (i + 1)
  family_past y at count size m p e s g f h =
      let found : Range = record { first = o; count = amount count.value; size = amount size.value } in
      let rest = sizes (drop (i + 1) items) in
      let k = amount count.value in
      let many : length (replicate k (amount size.value) ++ rest) ≡ k + length rest = length-append (replicate k (amount size.value)) rest
      ∙ ap (λ t. t + length rest) (length-replicate k (amount size.value)) in
      let more : (o + k) + length rest ≡ o + (k + length rest) = omega arith in
      record {
        same = h.same ∙ ap (range_from o x) (opened (Family y at count size) e) ∙ ap (λ b. if b then found else range_from (o + k) x (drop (i + 1) items)) s
            ∙ ap (λ t. range_from t x (drop (i + 1) items)) (ap (λ t. o + t) (sym g) ∙ sym f);
        counted = ap (λ t. t + length rest) (f ∙ ap (λ t. o + t) g) ∙ more ∙ ap (λ t. o + t) (sym many)
            ∙ ap (λ l. o + length (sizes l)) (sym (opened (Family y at count size) e)) ∙ h.counted;
      }
