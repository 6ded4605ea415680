-- Stands that are put last, one part after another.
use Rattle.std.proofs.Common.{◌≡◌, ℕ, ◌+◌, ◌≤◌, List, [], ◌∷◌, ◌++◌, map, Some, refl, ap, sym, ◌∙◌, take, length, append_assoc, append-nil}
use Rattle.std.specs.List.{flat_map, slice_get}
use Rattle.std.proofs.lemmas.List.{take_all, take_more}
use Rattle.std.proofs.lemmas.List.Concat.{flat_map-append}
use Rattle.std.proofs.lemmas.Option.{slice_get_within, get_or_from_slice_get}
use Rattle.jade_syntax.specs.declared.stands.Stand.{Stand}
use Rattle.jade_syntax.specs.declared.tree.Named.{Named}
use Rattle.jade_syntax.specs.Numbering.{Scope, stand_of, name_stands}
use Rattle.jade_types.specs.steps.Bodies.{Puts}

pub nothing : (o : List Stand) → Puts o o []
nothing o = record { by = sym (append-nil o) }

pub after : {o0 o1 o2 a b : List Stand} → Puts o0 o1 a → Puts o1 o2 b → Puts o0 o2 (a ++ b)
after {o0} {o1} {o2} {a} {b} p q = record { by = q.by ∙ ap (λ o. o ++ b) p.by ∙ append_assoc o0 a b }

-- the same stands told otherwise
pub told : {o0 o1 a b : List Stand} → a ≡ b → Puts o0 o1 a → Puts o0 o1 b
told {o0} e p = record { by = p.by ∙ ap (λ x. o0 ++ x) e }

flat_more : {A : Type 0} (f : A → List Stand) (xs : List A) (i : ℕ) (x : A) → slice_get xs i ≡ Some x → flat_map f (take (i + 1) xs)
    ≡ flat_map f (take i xs) ++ f x
flat_more f xs i x h =
    let lt = slice_get_within xs i x h in
    rw (take_more xs i x lt, get_or_from_slice_get xs i x x h, flat_map-append f (take i xs) (x ∷ [])) (simp append-nil)

-- one more of several
pub more : {A : Type 0} {o0 o1 o2 : List Stand} (f : A → List Stand) (xs : List A) (i : ℕ) (x : A) → slice_get xs i ≡ Some x
    → Puts o0 o1 (flat_map f (take i xs)) → Puts o1 o2 (f x) → Puts o0 o2 (flat_map f (take (i + 1) xs))
more f xs i x e p q = told (sym (flat_more f xs i x e)) (after p q)

pub all : {A : Type 0} {o0 o1 : List Stand} (f : A → List Stand) (xs : List A) (n : ℕ) → length xs ≤ n → Puts o0 o1 (flat_map f (take n xs))
    → Puts o0 o1 (flat_map f xs)
all f xs n le p = told (ap (flat_map f) (take_all n xs le)) p

-- the names of a `do` list
abbrev pub mentioned : Scope → Named → List Stand
mentioned scope n = stand_of n.name scope ∷ []

pub names_open : (scope : Scope) (names : List Named) → name_stands scope (map (λ n. n.name) names) ≡ flat_map (mentioned scope) names
names_open scope [] = refl
names_open scope (n ∷ names) = ap (λ s. stand_of n.name scope ∷ s) (names_open scope names)
