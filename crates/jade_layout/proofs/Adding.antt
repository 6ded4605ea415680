-- Tokens laid out one after another.
use Rattle.std.proofs.Common.{◌≡◌, ℕ, zero, suc, ◌+◌, ◌≤◌, List, [], ◌∷◌, ◌++◌, Some, refl, ap, ◌∙◌, take, length, arith, append_assoc, append-nil, codes}
use Rattle.std.specs.List.{flat_map, slice_get}
use Rattle.std.proofs.lemmas.List.{take_all, take_more}
use Rattle.std.proofs.lemmas.List.Concat.{flat_map-append}
use Rattle.std.proofs.lemmas.Option.{slice_get_within, get_or_from_slice_get}
use Rattle.jade_syntax.specs.declared.tree.Named.{Named}
use Rattle.jade_syntax.specs.declared.tree.Statement.{Statement}
use Rattle.jade_layout.specs.Spelling.{Token, Tokens, statement_tokens, name_tokens}
use Rattle.jade_layout.specs.Layout.{layout, follows, indent}
use Rattle.jade_layout.specs.Printed.{Printed, blank, with_token, with_tokens, Adds}

with_both : (p : Printed) (a b : Tokens) → with_tokens p (a ++ b) ≡ with_tokens (with_tokens p a) b
with_both p [] b = refl
with_both p (t ∷ a) b = with_both (with_token p t) a b

pub after : {o0 o1 o2 : Printed} {a b : Tokens} → Adds o0 o1 a → Adds o1 o2 b → Adds o0 o2 (a ++ b)
after {o0} {o1} {o2} {a} {b} p q = record { by = rw (q.by, p.by, with_both o0 a b) refl }

pub nothing : (o : Printed) → Adds o o []
nothing o = record { by = refl }

flat_more : {A B : Type 0} (f : A → List B) (xs : List A) (i : ℕ) (x : A) → slice_get xs i ≡ Some x → flat_map f (take (i + 1) xs) ≡ flat_map f (take i xs)
    ++ f x
flat_more f xs i x h =
    let lt = slice_get_within xs i x h in
    rw (take_more xs i x lt, get_or_from_slice_get xs i x x h, flat_map-append f (take i xs) (x ∷ [])) (simp append-nil)

-- one more of several
pub more : {A : Type 0} (f : A → Tokens) (o0 o1 o2 : Printed) (xs : List A) (i : ℕ) (x : A) → slice_get xs i ≡ Some x → Adds o0 o1 (flat_map f (take i xs))
    → Adds o1 o2 (f x) → Adds o0 o2 (flat_map f (take (i + 1) xs))
more f o0 o1 o2 xs i x e p q = rw (flat_more f xs i x e) (after p q)

pub all : {A : Type 0} (f : A → Tokens) (o0 o1 : Printed) (xs : List A) (n : ℕ) → length xs ≤ n → Adds o0 o1 (flat_map f (take n xs))
    → Adds o0 o1 (flat_map f xs)
all f o0 o1 xs n le p = record { by = rw (p.by, take_all n xs le) refl }

-- the arm of one kind of statement
pub arm : (s s' : Statement) (ts : Tokens) (o0 o : Printed) → s ≡ s' → statement_tokens s' ≡ ts → Adds o0 o ts → Adds o0 o (statement_tokens s)
arm s s' ts o0 o e k h = rw (e, k) h

-- a value that is stored
pub stored : {o0 o1 o2 : Printed} (target value : Tokens) → Adds o0 o1 target → Adds o1 o2 (codes "=" ∷ [] ++ value ++ codes ";" ∷ [])
    → Adds o0 o2 (target ++ codes "=" ∷ [] ++ value ++ codes ";" ∷ [])
stored {o0} {o1} {o2} target value p q =
    let e : target ++ (codes "=" ∷ [] ++ value ++ codes ";" ∷ []) ≡ target ++ codes "=" ∷ [] ++ value ++ codes ";" ∷ [] = simp append_assoc in
    record { by = (after p q).by ∙ ap (with_tokens o0) e }

-- the names of a `do` list after the section
pub handed : {o0 o1 o2 : Printed} (section names : Tokens) → Adds o0 o1 section → Adds o1 o2 (codes "do" ∷ codes "(" ∷ [] ++ names ++ codes ")" ∷ [])
    → Adds o0 o2 (section ++ codes "do" ∷ [] ++ codes "(" ∷ [] ++ names ++ codes ")" ∷ [])
handed {o0} {o1} {o2} section names p q =
    let e : section ++ (codes "do" ∷ codes "(" ∷ [] ++ names ++ codes ")" ∷ []) ≡ section ++ codes "do" ∷ [] ++ codes "(" ∷ [] ++ names ++ codes ")" ∷ [] =
    simp append_assoc in
    record { by = (after p q).by ∙ ap (with_tokens o0) e }

names_more : (ns : List Named) (i : ℕ) (n : Named) → 1 ≤ i → slice_get ns i ≡ Some n → name_tokens (take (i + 1) ns) ≡ name_tokens (take i ns)
    ++ (codes "," ∷ n.name ∷ [])
names_more [] i n le e = cc
names_more (m ∷ ns) zero n le e = absurd (omega arith)
names_more (m ∷ ns) (suc i) n le e = let w : suc i + 1 ≡ suc (i + 1) = omega arith in
    rw w (ap (λ t. m.name ∷ t) (flat_more (λ (x : Named). codes "," ∷ x.name ∷ []) ns i n e))

pub more_names : (o0 o1 o2 o3 : Printed) (ns : List Named) (i : ℕ) (n : Named) → 1 ≤ i → slice_get ns i ≡ Some n → Adds o0 o1 (name_tokens (take i ns))
    → Adds o1 o2 (codes "," ∷ []) → Adds o2 o3 (n.name ∷ []) → Adds o0 o3 (name_tokens (take (i + 1) ns))
more_names o0 o1 o2 o3 ns i n le e p q r = rw (names_more ns i n le e) (after p (after q r))

-- what is written and what follows are the text before and what follows there
goes_on : (p : Printed) (ts : Tokens) → (with_tokens p ts).text ++ 10 ∷ [] ≡ p.text ++ follows p.last p.sign p.depth ts
goes_on p [] = refl
goes_on p (t ∷ ts) = goes_on (with_token p t) ts ∙ simp append_assoc

begins : (a b : Tokens) (t : Token) → (with_tokens blank (a ++ t ∷ b)).text ++ 10 ∷ [] ≡ layout (a ++ t ∷ b)
begins [] b t = goes_on (with_token blank t) b
begins (s ∷ a) b t = goes_on (with_token blank s) (a ++ t ∷ b)

-- a text of one token at least, ended by a line feed, is their layout
pub laid_out : (o : Printed) (a b : Tokens) (t : Token) (text : List ℕ) → Adds blank o (a ++ t ∷ [] ++ b) → text ≡ o.text ++ 10 ∷ [] → text
    ≡ layout (a ++ t ∷ [] ++ b)
laid_out o a b t text p e = rw (e, p.by) (rw (append_assoc a (t ∷ []) b) (begins a b t))

indent_more : (n : ℕ) → indent (n + 1) ≡ indent n ++ codes "    "
indent_more zero = refl
indent_more (suc n) = let e : suc n + 1 ≡ suc (n + 1) = omega arith in rw e (ap (λ t. codes "    " ++ t) (indent_more n))

-- one more level of an indent
pub indents : (before now next : List ℕ) (n : ℕ) → now ≡ before ++ 10 ∷ indent n → next ≡ now ++ codes "    " → next ≡ before ++ 10 ∷ indent (n + 1)
indents before now next n p q = rw (q, p, indent_more n) (simp append_assoc)
