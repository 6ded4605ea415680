-- The lines of objects, one more at a time.
use Rattle.std.proofs.Common.{
  ◌≡◌,
  ℕ,
  ◌+◌,
  ◌≤◌,
  ◌⊎◌,
  inl,
  inr,
  List,
  [],
  ◌∷◌,
  ◌++◌,
  length,
  take,
  replicate,
  Some,
  refl,
  ap,
  sym,
  ◌∙◌,
  arith,
  zero,
  suc,
  append_assoc,
  append-nil,
  length-append,
  ℤ,
  add-one,
}
use Rattle.std.specs.List.{slice_get}
use Rattle.jade_syntax.specs.declared.tree.Item.{Item}
use Rattle.jade_syntax.specs.declared.tree.Item.TheVariants as item
use Rattle.jade_syntax.specs.Abstract.{Name}
use Rattle.jade_syntax.specs.Objects.{Label, labels, member_labels, sizes, amount}
use Rattle.jade_run.specs.Texts.{object_text, objects_text}

length-member_labels : (x : Name) (i n : ℕ) → length (member_labels x i n) ≡ n
length-member_labels x i zero = refl
length-member_labels x i (suc n) = ap suc (length-member_labels x (suc i) n)

length_replicate : (n x : ℕ) → length (replicate n x) ≡ n
length_replicate zero x = refl
length_replicate (suc n) x = ap suc (length_replicate n x)

-- each object has a label
pub length-labels : (items : List Item) → length (labels items) ≡ length (sizes items)
length-labels [] = refl
length-labels (item.Input x at ∷ items) = length-labels items
length-labels (item.Single x at size ∷ items) = ap suc (length-labels items)
length-labels (item.Family x at count size ∷ items) =
    let l = length-append (member_labels x 0 (amount count.value)) (labels items) in
    let r = length-append (replicate (amount count.value) (amount size.value)) (sizes items) in
    let a = length-member_labels x 0 (amount count.value) in
    let b = length_replicate (amount count.value) (amount size.value) in
    let h = length-labels items in
    omega arith

-- one object more
pub lines_more : (ls : List Label) (cs : List (List ℤ)) (i : ℕ) (l : Label) (c : List ℤ) → slice_get ls i ≡ Some l → slice_get cs i ≡ Some c →
    objects_text (take (i + 1) ls) (take (i + 1) cs) ≡ objects_text (take i ls) (take i cs) ++ object_text l c
lines_more [] cs i l c h k = cc
lines_more (x ∷ ls) [] i l c h k = cc
lines_more (x ∷ ls) (y ∷ cs) zero l c h k =
    let p : x ≡ l = cc in let q : y ≡ c = cc in
    append-nil (object_text x y) ∙ ap (λ z. object_text z y) p ∙ ap (λ z. object_text l z) q
lines_more (x ∷ ls) (y ∷ cs) (suc i) l c h k =
    rw (add-one (suc i)) (ap (λ t. object_text x y ++ t) (sym (ap (λ n. objects_text (take n ls) (take n cs)) (add-one i)) ∙ lines_more ls cs i l c h k) ∙ sym
    (append_assoc (object_text x y) (objects_text (take i ls) (take i cs)) (object_text l c)))

less : (a b n : ℕ) → (suc a ≤ suc n) ⊎ (suc b ≤ suc n) → (a ≤ n) ⊎ (b ≤ n)
less a b n h = elim h [ inl p ↦ inl (omega arith) | inr q ↦ inr (omega arith) ]

-- all objects
pub lines_all : (ls : List Label) (cs : List (List ℤ)) (n : ℕ) → (length ls ≤ n) ⊎ (length cs ≤ n) → objects_text (take n ls) (take n cs) ≡ objects_text ls cs
lines_all [] cs zero h = refl
lines_all [] cs (suc n) h = refl
lines_all (x ∷ ls) [] zero h = refl
lines_all (x ∷ ls) [] (suc n) h = refl
lines_all (x ∷ ls) (y ∷ cs) zero h = elim h [ inl p ↦ absurd (omega arith) | inr q ↦ absurd (omega arith) ]
lines_all (x ∷ ls) (y ∷ cs) (suc n) h = ap (λ t. object_text x y ++ t) (lines_all ls cs n (less _ _ _ h))

-- a text to which the line of one object more was added
pub text_lines_more : (ls : List Label) (cs : List (List ℤ)) (i : ℕ) (l : Label) (c : List ℤ) (t0 t1 : List ℕ) → slice_get ls i ≡ Some l →
    slice_get cs i ≡ Some c → t0 ≡ objects_text (take i ls) (take i cs) → t1 ≡ t0 ++ object_text l c → t1 ≡ objects_text (take (i + 1) ls) (take (i + 1) cs)
text_lines_more ls cs i l c t0 t1 h k e f = f ∙ ap (λ t. t ++ object_text l c) e ∙ sym (lines_more ls cs i l c h k)
