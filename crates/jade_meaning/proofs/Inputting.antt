-- Inputs as variables, made from the last item on.
use Rattle.std.proofs.Common.{◌≡◌, ℕ, ◌+◌, ◌<◌, ◌≤◌, List, [], ◌∷◌, ◌++◌, refl, ap, sym, ◌∙◌, take, drop, Some, length, arith, add-one}
use Rattle.std.specs.Prelude.{ℤ, pos, slice_get, slice_index_or}
use Rattle.std.proofs.lemmas.List.{take_more, length-append, drop_all, take_all}
use Rattle.std.proofs.lemmas.Option.{slice_get_within, get_or_from_slice_get}
use Rattle.std.proofs.Math.Seq.{drop-cons}
use Rattle.jade_base.specs.declared.place.Pos.{Pos}
use Rattle.jade_syntax.specs.declared.tree.Item.{Item}
use Rattle.jade_syntax.specs.declared.tree.Item.TheVariants.{Input, Single, Family}
use Rattle.jade_syntax.specs.declared.tree.Number.{Number}
use Rattle.jade_syntax.specs.Abstract.{Name}
use Rattle.jade_syntax.specs.Objects.{input_names}
use Rattle.jade_meaning.specs.declared.values.Value.TheVariants.{IntOf}
use Rattle.jade_meaning.specs.Course.{Environment, inputs}
use Rattle.jade_syntax.proofs.Limits.{drop_item}

-- the items from a place on are variables, and so many numbers are left for those before it
pub record Made (items : List Item) (numbers : List ℤ) (i n : ℕ) (scope : Environment) : Type 0 where
  pub same : scope ≡ inputs (drop i items) (drop n numbers)
  pub counted : n ≡ length (input_names (take i items))
  pub within : i ≤ length items
  pub enough : n ≤ length numbers

names_both : (xs ys : List Item) → input_names (xs ++ ys) ≡ input_names xs ++ input_names ys
names_both [] ys = refl
names_both (Input x at ∷ xs) ys = ap (λ z. x ∷ z) (names_both xs ys)
names_both (Single x at size ∷ xs) ys = names_both xs ys
names_both (Family x at count size ∷ xs) ys = names_both xs ys

pub none_made : (items : List Item) (numbers : List ℤ) → length numbers ≡ length (input_names items) → Made items numbers (length items) (length numbers) []
none_made items numbers h =
    let i : drop (length items) items ≡ [] = drop_all (length items) items (omega arith) in
    let n : drop (length numbers) numbers ≡ [] = drop_all (length numbers) numbers (omega arith) in
    record {
      same = ap (λ x. inputs x []) (sym i) ∙ ap (inputs (drop (length items) items)) (sym n);
      counted = h ∙ ap (λ x. length (input_names x)) (sym (take_all (length items) items (omega arith)));
      within = omega arith;
      enough = omega arith;
    }

module _ (items : List Item) (numbers : List ℤ) (i j n : ℕ) (scope : Environment) (item : Item) (next : i + 1 ≡ j) (at_i : slice_get items i ≡ Some item)
    (h : Made items numbers j n scope) where
  counted_at : (k : Item) → item ≡ k → n ≡ length (input_names (take i items)) + length (input_names (k ∷ []))
  counted_at k e =
      let lt = slice_get_within items i item at_i in
      h.counted
      ∙ ap (λ t. length (input_names (take t items))) (sym next)
      ∙ ap (λ xs. length (input_names xs)) (take_more items i item lt)
      ∙ ap (λ x. length (input_names (take i items ++ x ∷ []))) (get_or_from_slice_get items i item item at_i ∙ e)
      ∙ ap length (names_both (take i items) (k ∷ []))
      ∙ length-append (input_names (take i items)) (input_names (k ∷ []))

  rest_is : (k : Item) → item ≡ k → drop i items ≡ k ∷ drop j items
  rest_is k e = drop_item items i item at_i ∙ ap (λ x. x ∷ drop (i + 1) items) e ∙ ap (λ t. k ∷ drop t items) next

  pub input_left : (y : Name) (at : Pos) → item ≡ Input y at → 0 < n
  input_left y at e = omega (arith, counted_at (Input y at) e)

  pub input_made : (y : Name) (at : Pos) (m : ℕ) (new : Environment) → item ≡ Input y at → m + 1 ≡ n
      → new ≡ record { name = y; value = IntOf (slice_index_or numbers m (pos 0)) } ∷ scope → Made items numbers i m new
  input_made y at m new e f k =
      let z = slice_index_or numbers m (pos 0) in
      let lt : m < length numbers = omega (arith, f, h.enough) in
      let front : drop m numbers ≡ z ∷ drop n numbers = drop-cons numbers m (pos 0) lt ∙ ap (λ t. z ∷ drop t numbers) (sym (add-one m) ∙ f) in
      record {
        same = k ∙ ap (λ s. record { name = y; value = IntOf z } ∷ s) h.same ∙ ap (inputs (Input y at ∷ drop j items)) (sym front)
            ∙ ap (λ x. inputs x (drop m numbers)) (sym (rest_is (Input y at) e));
        counted = omega (arith, counted_at (Input y at) e, f);
        within = omega (arith, next, h.within);
        enough = omega (arith, f, h.enough);
      }

  pub single_passed : (y : Name) (at : Pos) (size : Number) → item ≡ Single y at size → Made items numbers i n scope
  single_passed y at size e = record {
    same = h.same ∙ ap (λ x. inputs x (drop n numbers)) (sym (rest_is (Single y at size) e));
    counted = omega (arith, counted_at (Single y at size) e);
    within = omega (arith, next, h.within);
    enough = h.enough;
  }

  pub family_passed : (y : Name) (at : Pos) (count size : Number) → item ≡ Family y at count size → Made items numbers i n scope
  family_passed y at count size e = record {
    same = h.same ∙ ap (λ x. inputs x (drop n numbers)) (sym (rest_is (Family y at count size) e));
    counted = omega (arith, counted_at (Family y at count size) e);
    within = omega (arith, next, h.within);
    enough = h.enough;
  }
