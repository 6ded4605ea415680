-- Names, lists of names and environments.
use Rattle.std.proofs.Common.{◌≡◌, ℕ, zero, suc, ◌-◌, ◌<◌, Bool, true, false, List, [], ◌∷◌, ◌++◌, length, drop, refl, sym, ap, ◌∙◌, arith, rules}
use Rattle.std.specs.Prelude.{not, pos, IsTrue, if◌then◌else◌}
use Rattle.std.proofs.lemmas.Slice.Eq.{compares_Decides, IsBytesEq}
use Rattle.std.proofs.lemmas.List.{length-append, drop-append-le}
use Rattle.jade_syntax.specs.Abstract.{Name}
use Rattle.jade_syntax.specs.Numbering.{same_name}
use Rattle.jade_meaning.specs.declared.values.Value.{Value}
use Rattle.jade_meaning.specs.declared.values.Value.TheVariants.{IntOf}
use Rattle.jade_meaning.specs.Course.{Environment, value_of, assigned}
use Rattle.proc_laws.specs.Expansion.{Each}
use Rattle.proc_expand.specs.Names.{is_among, place_among}

pub by_case : {A : Type 0} (b : Bool) → (b ≡ true → A) → (b ≡ false → A) → A
by_case true f g = f refl
by_case false f g = g refl

pub no_both : {A : Type 0} (b : Bool) → b ≡ true → b ≡ false → A
no_both b h k = absurd (cc)

pub same_either : (a b : Bool) → (a ≡ true → b ≡ true) → (b ≡ true → a ≡ true) → a ≡ b
same_either true b f g = sym (f refl)
same_either false true f g = g refl
same_either false false f g = refl

-- ---- names

bytes_like : IsBytesEq same_name
bytes_like = search rules

pub same_from : (x y : Name) → same_name x y ≡ true → x ≡ y
same_from x y h = (compares_Decides same_name bytes_like x y).0 h

pub same_self : (x : Name) → same_name x x ≡ true
same_self x = (compares_Decides same_name bytes_like x x).1 refl

pub not_same : (x y : Name) → (x ≡ y → ⊥) → same_name x y ≡ false
not_same x y h = by_case (same_name x y) (λ e. absurd (h (same_from x y e))) (λ e. e)

-- ---- lists of names

pub each_left : (is : Name → Bool) (xs ys : List Name) → Each is (xs ++ ys) → Each is xs
each_left is [] ys h = tt
each_left is (x ∷ xs) ys h = (h.0, each_left is xs ys h.1)

pub each_right : (is : Name → Bool) (xs ys : List Name) → Each is (xs ++ ys) → Each is ys
each_right is [] ys h = h
each_right is (x ∷ xs) ys h = each_right is xs ys h.1

pub among_here : (b : Bool) (m : Bool) → b ≡ true → (if b then true else m) ≡ true
among_here true m h = refl
among_here false m h = absurd (cc)

pub among_more : (b : Bool) (m : Bool) → m ≡ true → (if b then true else m) ≡ true
among_more true m h = refl
among_more false m h = h

-- a name of a list is among it
pub each_among : (xs : List Name) (is : Name → Bool) → ((x : Name) → is_among xs x ≡ true → is x ≡ true) → Each is xs
each_among [] is f = tt
each_among (x ∷ xs) is f = (
  f x (among_here (same_name x x) (is_among xs x) (same_self x)),
  each_among xs is (λ y h. f y (among_more (same_name y x) (is_among xs y) h)),
)

pub place_below : (ns : List Name) (x : Name) → is_among ns x ≡ true → place_among ns x < length ns
place_below [] x h = absurd (cc)
place_below (y ∷ ys) x h = by (same_name x y) (place_below ys x) h
  where
    by : (b : Bool) → (is_among ys x ≡ true → place_among ys x < length ys) → (if b then true else is_among ys x) ≡ true
        → (if b then 0 else suc (place_among ys x)) < suc (length ys)
    by true f g = omega arith
    by false f g = let k = f g in omega arith

pub place_one : (ns : List Name) (x y : Name) → is_among ns x ≡ true → place_among ns x ≡ place_among ns y → x ≡ y
place_one [] x y h e = absurd (cc)
place_one (z ∷ zs) x y h e = by (place_one zs x y) (same_name x z) (same_name y z) refl refl h e
  where
    by : (is_among zs x ≡ true → place_among zs x ≡ place_among zs y → x ≡ y) → (a b : Bool) → same_name x z ≡ a → same_name y z ≡ b → (if a then true else is_among zs x) ≡ true
        → (if a then 0 else suc (place_among zs x)) ≡ (if b then 0 else suc (place_among zs y)) → x ≡ y
    by k true true p q h e = same_from x z p ∙ sym (same_from y z q)
    by k true false p q h e = absurd (omega (arith, e))
    by k false true p q h e = absurd (omega (arith, e))
    by k false false p q h e = k h (omega (arith, e))

-- ---- environments

-- the names of the variables in scope
abbrev pub bound : Environment → List Name
bound [] = []
bound (b ∷ env) = b.name ∷ bound env

-- a name differs from each of some
abbrev pub Apart : Name → List Name → Type 0
Apart x xs = Each (λ y. not (same_name x y)) xs

-- variables with other names
abbrev pub moved : (Name → Name) → Environment → Environment
moved to [] = []
moved to (b ∷ env) = record { name = to b.name; value = b.value } ∷ moved to env

pub length_moved : (to : Name → Name) (env : Environment) → length (moved to env) ≡ length env
length_moved to [] = refl
length_moved to (b ∷ env) = ap suc (length_moved to env)

pub drop_moved : (to : Name → Name) (n : ℕ) (env : Environment) → drop n (moved to env) ≡ moved to (drop n env)
drop_moved to zero env = refl
drop_moved to (suc n) [] = refl
drop_moved to (suc n) (b ∷ env) = drop_moved to n env

pub not_true : (b : Bool) → IsTrue (not b) → b ≡ false
not_true true h = absurd (cc)
not_true false h = refl

pub past : (x : Name) (ls env : Environment) → Apart x (bound ls) → value_of x (ls ++ env) ≡ value_of x env
past x [] env h = refl
past x (b ∷ ls) env h =
    ap (λ t. if t then b.value else value_of x (ls ++ env)) (not_true (same_name x b.name) h.0) ∙ past x ls env h.1

pub absent : (x : Name) (env : Environment) → Apart x (bound env) → value_of x env ≡ IntOf (pos 0)
absent x [] h = refl
absent x (b ∷ env) h =
    ap (λ t. if t then b.value else value_of x env) (not_true (same_name x b.name) h.0) ∙ absent x env h.1

pub unassigned : (x : Name) (v : Value) (env : Environment) → Apart x (bound env) → assigned x v env ≡ env
unassigned x v [] h = refl
unassigned x v (b ∷ env) h =
    ap (λ t. if t then record b { value = v } ∷ env else b ∷ assigned x v env) (not_true (same_name x b.name) h.0)
    ∙ ap (λ k. b ∷ k) (unassigned x v env h.1)

pub assigned_within : (x : Name) (v : Value) (ls env : Environment) → Apart x (bound env) → assigned x v (ls ++ env) ≡ assigned x v ls ++ env
assigned_within x v [] env h = unassigned x v env h
assigned_within x v (b ∷ ls) env h = by (assigned_within x v ls env h) (same_name x b.name)
  where
    by : assigned x v (ls ++ env) ≡ assigned x v ls ++ env → (t : Bool) → (if t then record b { value = v } ∷ (ls ++ env) else b ∷ assigned x v (ls ++ env))
        ≡ (if t then record b { value = v } ∷ ls else b ∷ assigned x v ls) ++ env
    by k true = refl
    by k false = ap (λ u. b ∷ u) k

-- variables in front are dropped, and what is behind them stays
pub drop_front : (ls ks env : Environment) → drop (length (ls ++ env) - length (ks ++ env)) (ls ++ env) ≡ drop (length ls - length ks) ls ++ env
drop_front ls ks env =
    let a = length-append ls env in let b = length-append ks env in
    let e : length (ls ++ env) - length (ks ++ env) ≡ length ls - length ks = omega (arith, a, b) in
    ap (λ k. drop k (ls ++ env)) e ∙ drop-append-le (length ls - length ks) ls env (omega arith)
