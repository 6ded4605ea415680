-- Measures of parts, put together.
use Rattle.std.proofs.Common.{◌≡◌, ℕ, ◌+◌, ◌≤◌, true, ◌&&◌, max, List, [], ◌∷◌, ◌++◌, map, length, take, Some, ap, sym, ◌∙◌, arith}
use Rattle.std.specs.List.{slice_get}
use Rattle.std.proofs.lemmas.List.{take_all, take_more}
use Rattle.std.proofs.lemmas.Option.{slice_get_within, get_or_from_slice_get}
use Rattle.jade_syntax.specs.declared.shapes.extent.Extent.{Extent}
use Rattle.jade_syntax.specs.Shapes.{nothing, ◌⊕◌, all_of}
use Rattle.jade_syntax.specs.Measured.{capped, Measures, Joins}

-- nothing more
join_nothing : (a : Extent) → a ⊕ nothing ≡ a
join_nothing a = let s : (a.sound && true) ≡ a.sound = grind arith in let t : a.tokens + 0 ≡ a.tokens = omega arith in let d : max a.depth 0 ≡ a.depth =
    omega arith in
    (λ i. record { sound = s i; tokens = t i; depth = d i })

nothing_join : (a : Extent) → nothing ⊕ a ≡ a
nothing_join a = let t : 0 + a.tokens ≡ a.tokens = omega arith in let d : max 0 a.depth ≡ a.depth = omega arith in
    (λ i. record { sound = a.sound; tokens = t i; depth = d i })

join_assoc : (a b c : Extent) → (a ⊕ b) ⊕ c ≡ a ⊕ (b ⊕ c)
join_assoc a b c = let s : (a.sound && b.sound && c.sound) ≡ (a.sound && (b.sound && c.sound)) = grind arith in
    let t : a.tokens + b.tokens + c.tokens ≡ a.tokens + (b.tokens + c.tokens) = omega arith in
    let d : max (max a.depth b.depth) c.depth ≡ max a.depth (max b.depth c.depth) = omega arith in
    (λ i. record { sound = s i; tokens = t i; depth = d i })

all_both : {A : Type 0} (f : A → Extent) (xs : List A) (y : A) → all_of (map f (xs ++ y ∷ [])) ≡ all_of (map f xs) ⊕ f y
all_both f [] y = join_nothing (f y) ∙ sym (nothing_join (f y))
all_both f (x ∷ xs) y = ap (λ e. f x ⊕ e) (all_both f xs y) ∙ sym (join_assoc (f x) (all_of (map f xs)) (f y))

all_more : {A : Type 0} (f : A → Extent) (xs : List A) (i : ℕ) (x : A) → slice_get xs i ≡ Some x → all_of (map f (take (i + 1) xs)) ≡ all_of (map f (take i xs))
    ⊕ f x
all_more f xs i x h =
    let lt = slice_get_within xs i x h in
    rw (take_more xs i x lt, get_or_from_slice_get xs i x x h) (all_both f (take i xs) x)

-- the measure of one part and then of those of a list
pub record Chained {A : Type 0} (f : A → Extent) (first : Extent) (xs : List A) (m : Extent) : Type 0 where
  pub by : Measures m (first ⊕ all_of (map f xs))

pub begins : {A : Type 0} (f : A → Extent) (first m : Extent) → Measures m first → Chained f first [] m
begins f first m p = record { by = record { by = p.by ∙ ap capped (sym (join_nothing first)) } }

pub more : {A : Type 0} {first link m next : Extent} (f : A → Extent) (xs : List A) (i : ℕ) (x : A) → slice_get xs i ≡ Some x → Chained f first (take i xs) m
    → Measures link (f x) → Joins m link next → Chained f first (take (i + 1) xs) next
more {A} {first} f xs i x h p q j =
    record {
      by = record {
        by = (j.of p.by q).by
            ∙ ap capped (join_assoc first (all_of (map f (take i xs))) (f x) ∙ ap (λ e. first ⊕ e) (sym (all_more f xs i x h)));
      };
    }

pub ends : {A : Type 0} {first m : Extent} (f : A → Extent) (xs : List A) (n : ℕ) → length xs ≤ n → Chained f first (take n xs) m
    → Measures m (first ⊕ all_of (map f xs))
ends {A} {first} f xs n le p = record { by = p.by.by ∙ ap (λ ys. capped (first ⊕ all_of (map f ys))) (take_all n xs le) }

-- the same of a list alone
pub all_end : {A : Type 0} {m : Extent} (f : A → Extent) (xs : List A) (n : ℕ) → length xs ≤ n → Chained f nothing (take n xs) m
    → Measures m (all_of (map f xs))
all_end f xs n le p = record { by = (ends f xs n le p).by ∙ ap capped (nothing_join (all_of (map f xs))) }
