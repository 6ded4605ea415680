-- Events are a set: two proofs that they are the same are the same proof, which a fact in a type wants.
use Rattle.std.specs.Prelude.{◌≡◌, ℕ, List, [], ◌∷◌, Option, ℤ, refl}
use Rattle.std.specs.Coded.{Coded-set, coded_ℕ, coded_ℤ, coded_list, coded_option, ×_prop, Π_prop, Unit-prop}
use mathlib.Core.HLevel.{collapsible→set, ⊥_prop, ×₃_prop}
use mathlib.Core.Path.{ap, ap₂, subst, fun_ext, ◌∙◌}
use mathlib.Core.Sum.{⊎_set}
use Rattle.jade_base.specs.declared.report.Blame.{Blame}
use Rattle.jade_base.specs.declared.rights.Mode.{Mode}
use Rattle.jade_base.specs.declared.rights.Rights.{Rights}
use Rattle.jade_base.specs.contracts.report.Blame as blame
use Rattle.jade_base.specs.contracts.rights.Rights as rights
use Rattle.jade_base.specs.contracts.rights.Mode as mode
use Rattle.jade_meaning.specs.Specification.{Specification}
use Rattle.jade_meaning.specs.Course.{Course, Reads, Writes, Steps, Creates, Changes, Ends}
use Rattle.jade_meaning.specs.Talk.{Event, Task}

-- a type with a relation that each is in with itself, which is a proposition and makes two the same
rel_set : {A : Type 0} (R : A → A → Type 0) → ((x y : A) → IsProp (R x y)) → ((x : A) → R x x) → ((x y : A) → R x y → x ≡ y) → IsSet A
rel_set R prop self same = collapsible→set (λ x y p. same x y (subst (R x) p (self x)))
    (λ x y p q. ap (same x y) (prop x y (subst (R x) p (self x)) (subst (R x) q (self x))))

-- lists of a set
abbrev SameList : {A : Type 0} → List A → List A → Type 0
SameList [] [] = Unit {0}
SameList (x ∷ xs) (y ∷ ys) = (x ≡ y) × SameList xs ys
SameList [] (y ∷ ys) = ⊥
SameList (x ∷ xs) [] = ⊥

list_prop : {A : Type 0} → IsSet A → (xs ys : List A) → IsProp (SameList xs ys)
list_prop s [] [] = Unit-prop
list_prop s (x ∷ xs) (y ∷ ys) = ×_prop (s x y) (list_prop s xs ys)
list_prop s [] (y ∷ ys) = ⊥_prop
list_prop s (x ∷ xs) [] = ⊥_prop

list_self : {A : Type 0} (xs : List A) → SameList xs xs
list_self [] = tt
list_self (x ∷ xs) = (refl, list_self xs)

list_same : {A : Type 0} (xs ys : List A) → SameList xs ys → xs ≡ ys
list_same [] [] e = refl
list_same (x ∷ xs) (y ∷ ys) e = ap₂ (λ z zs. z ∷ zs) e.0 (list_same xs ys e.1)
list_same [] (y ∷ ys) e = absurd e
list_same (x ∷ xs) [] e = absurd e

pub list_set : {A : Type 0} → IsSet A → IsSet (List A)
list_set s = rel_set SameList (list_prop s) list_self list_same

ℕ_is_set : IsSet ℕ
ℕ_is_set = Coded-set coded_ℕ

ℤ_is_set : IsSet ℤ
ℤ_is_set = Coded-set coded_ℤ

spec_set : IsSet Specification
spec_set = Coded-set (coded_list rights.the_row.coded)

rights_set : IsSet Rights
rights_set = Coded-set rights.the_row.coded

mode_set : IsSet Mode
mode_set = Coded-set mode.the_row.coded

blame_set : IsSet (Option Blame)
blame_set = Coded-set (coded_option blame.the_row.coded)

-- the same course
abbrev SameCourse : Course → Course → Type 0
SameCourse (Reads o c f) (Reads o1 c1 f1) = (o ≡ o1) × (c ≡ c1) × ((v : ℤ) → SameCourse (f v) (f1 v))
SameCourse (Reads o c f) (Writes o1 c1 v1 a1) = ⊥
SameCourse (Reads o c f) (Steps a1) = ⊥
SameCourse (Reads o c f) (Creates s1 b1 a1) = ⊥
SameCourse (Reads o c f) (Changes s1 a1) = ⊥
SameCourse (Reads o c f) (Ends e1) = ⊥
SameCourse (Writes o c v a) (Reads o1 c1 f1) = ⊥
SameCourse (Writes o c v a) (Writes o1 c1 v1 a1) = (o ≡ o1) × (c ≡ c1) × ((v ≡ v1) × SameCourse a a1)
SameCourse (Writes o c v a) (Steps a1) = ⊥
SameCourse (Writes o c v a) (Creates s1 b1 a1) = ⊥
SameCourse (Writes o c v a) (Changes s1 a1) = ⊥
SameCourse (Writes o c v a) (Ends e1) = ⊥
SameCourse (Steps a) (Reads o1 c1 f1) = ⊥
SameCourse (Steps a) (Writes o1 c1 v1 a1) = ⊥
SameCourse (Steps a) (Steps a1) = SameCourse a a1
SameCourse (Steps a) (Creates s1 b1 a1) = ⊥
SameCourse (Steps a) (Changes s1 a1) = ⊥
SameCourse (Steps a) (Ends e1) = ⊥
SameCourse (Creates s b a) (Reads o1 c1 f1) = ⊥
SameCourse (Creates s b a) (Writes o1 c1 v1 a1) = ⊥
SameCourse (Creates s b a) (Steps a1) = ⊥
SameCourse (Creates s b a) (Creates s1 b1 a1) = (s ≡ s1) × SameCourse b b1 × SameCourse a a1
SameCourse (Creates s b a) (Changes s1 a1) = ⊥
SameCourse (Creates s b a) (Ends e1) = ⊥
SameCourse (Changes s a) (Reads o1 c1 f1) = ⊥
SameCourse (Changes s a) (Writes o1 c1 v1 a1) = ⊥
SameCourse (Changes s a) (Steps a1) = ⊥
SameCourse (Changes s a) (Creates s1 b1 a1) = ⊥
SameCourse (Changes s a) (Changes s1 a1) = (s ≡ s1) × SameCourse a a1
SameCourse (Changes s a) (Ends e1) = ⊥
SameCourse (Ends e) (Reads o1 c1 f1) = ⊥
SameCourse (Ends e) (Writes o1 c1 v1 a1) = ⊥
SameCourse (Ends e) (Steps a1) = ⊥
SameCourse (Ends e) (Creates s1 b1 a1) = ⊥
SameCourse (Ends e) (Changes s1 a1) = ⊥
SameCourse (Ends e) (Ends e1) = e ≡ e1

course_prop : (x y : Course) → IsProp (SameCourse x y)
course_prop (Reads o c f) (Reads o1 c1 f1) = ×₃_prop (ℕ_is_set o o1) (ℕ_is_set c c1) (Π_prop (λ v. course_prop (f v) (f1 v)))
course_prop (Reads o c f) (Writes o1 c1 v1 a1) = ⊥_prop
course_prop (Reads o c f) (Steps a1) = ⊥_prop
course_prop (Reads o c f) (Creates s1 b1 a1) = ⊥_prop
course_prop (Reads o c f) (Changes s1 a1) = ⊥_prop
course_prop (Reads o c f) (Ends e1) = ⊥_prop
course_prop (Writes o c v a) (Reads o1 c1 f1) = ⊥_prop
course_prop (Writes o c v a) (Writes o1 c1 v1 a1) = ×₃_prop (ℕ_is_set o o1) (ℕ_is_set c c1) (×_prop (ℤ_is_set v v1) (course_prop a a1))
course_prop (Writes o c v a) (Steps a1) = ⊥_prop
course_prop (Writes o c v a) (Creates s1 b1 a1) = ⊥_prop
course_prop (Writes o c v a) (Changes s1 a1) = ⊥_prop
course_prop (Writes o c v a) (Ends e1) = ⊥_prop
course_prop (Steps a) (Reads o1 c1 f1) = ⊥_prop
course_prop (Steps a) (Writes o1 c1 v1 a1) = ⊥_prop
course_prop (Steps a) (Steps a1) = course_prop a a1
course_prop (Steps a) (Creates s1 b1 a1) = ⊥_prop
course_prop (Steps a) (Changes s1 a1) = ⊥_prop
course_prop (Steps a) (Ends e1) = ⊥_prop
course_prop (Creates s b a) (Reads o1 c1 f1) = ⊥_prop
course_prop (Creates s b a) (Writes o1 c1 v1 a1) = ⊥_prop
course_prop (Creates s b a) (Steps a1) = ⊥_prop
course_prop (Creates s b a) (Creates s1 b1 a1) = ×₃_prop (spec_set s s1) (course_prop b b1) (course_prop a a1)
course_prop (Creates s b a) (Changes s1 a1) = ⊥_prop
course_prop (Creates s b a) (Ends e1) = ⊥_prop
course_prop (Changes s a) (Reads o1 c1 f1) = ⊥_prop
course_prop (Changes s a) (Writes o1 c1 v1 a1) = ⊥_prop
course_prop (Changes s a) (Steps a1) = ⊥_prop
course_prop (Changes s a) (Creates s1 b1 a1) = ⊥_prop
course_prop (Changes s a) (Changes s1 a1) = ×_prop (spec_set s s1) (course_prop a a1)
course_prop (Changes s a) (Ends e1) = ⊥_prop
course_prop (Ends e) (Reads o1 c1 f1) = ⊥_prop
course_prop (Ends e) (Writes o1 c1 v1 a1) = ⊥_prop
course_prop (Ends e) (Steps a1) = ⊥_prop
course_prop (Ends e) (Creates s1 b1 a1) = ⊥_prop
course_prop (Ends e) (Changes s1 a1) = ⊥_prop
course_prop (Ends e) (Ends e1) = blame_set e e1

course_self : (x : Course) → SameCourse x x
course_self (Reads o c f) = (refl, refl, λ v. course_self (f v))
course_self (Writes o c v a) = (refl, refl, (refl, course_self a))
course_self (Steps a) = course_self a
course_self (Creates s b a) = (refl, course_self b, course_self a)
course_self (Changes s a) = (refl, course_self a)
course_self (Ends e) = refl

course_same : (x y : Course) → SameCourse x y → x ≡ y
course_same (Reads o c f) (Reads o1 c1 f1) h =
    ap (λ x. Reads x c f) h.0 ∙ ap (λ x. Reads o1 x f) h.1 ∙ ap (λ x. Reads o1 c1 x) (fun_ext (λ v. course_same (f v) (f1 v) (h.2 v)))
course_same (Reads o c f) (Writes o1 c1 v1 a1) h = absurd h
course_same (Reads o c f) (Steps a1) h = absurd h
course_same (Reads o c f) (Creates s1 b1 a1) h = absurd h
course_same (Reads o c f) (Changes s1 a1) h = absurd h
course_same (Reads o c f) (Ends e1) h = absurd h
course_same (Writes o c v a) (Reads o1 c1 f1) h = absurd h
course_same (Writes o c v a) (Writes o1 c1 v1 a1) h =
    ap (λ x. Writes x c v a) h.0 ∙ ap (λ x. Writes o1 x v a) h.1 ∙ ap (λ x. Writes o1 c1 x a) h.2.0
    ∙ ap (λ x. Writes o1 c1 v1 x) (course_same a a1 h.2.1)
course_same (Writes o c v a) (Steps a1) h = absurd h
course_same (Writes o c v a) (Creates s1 b1 a1) h = absurd h
course_same (Writes o c v a) (Changes s1 a1) h = absurd h
course_same (Writes o c v a) (Ends e1) h = absurd h
course_same (Steps a) (Reads o1 c1 f1) h = absurd h
course_same (Steps a) (Writes o1 c1 v1 a1) h = absurd h
course_same (Steps a) (Steps a1) h = ap Steps (course_same a a1 h)
course_same (Steps a) (Creates s1 b1 a1) h = absurd h
course_same (Steps a) (Changes s1 a1) h = absurd h
course_same (Steps a) (Ends e1) h = absurd h
course_same (Creates s b a) (Reads o1 c1 f1) h = absurd h
course_same (Creates s b a) (Writes o1 c1 v1 a1) h = absurd h
course_same (Creates s b a) (Steps a1) h = absurd h
course_same (Creates s b a) (Creates s1 b1 a1) h =
    ap (λ x. Creates x b a) h.0 ∙ ap (λ x. Creates s1 x a) (course_same b b1 h.1) ∙ ap (λ x. Creates s1 b1 x) (course_same a a1 h.2)
course_same (Creates s b a) (Changes s1 a1) h = absurd h
course_same (Creates s b a) (Ends e1) h = absurd h
course_same (Changes s a) (Reads o1 c1 f1) h = absurd h
course_same (Changes s a) (Writes o1 c1 v1 a1) h = absurd h
course_same (Changes s a) (Steps a1) h = absurd h
course_same (Changes s a) (Creates s1 b1 a1) h = absurd h
course_same (Changes s a) (Changes s1 a1) h = ap (λ x. Changes x a) h.0 ∙ ap (λ x. Changes s1 x) (course_same a a1 h.1)
course_same (Changes s a) (Ends e1) h = absurd h
course_same (Ends e) (Reads o1 c1 f1) h = absurd h
course_same (Ends e) (Writes o1 c1 v1 a1) h = absurd h
course_same (Ends e) (Steps a1) h = absurd h
course_same (Ends e) (Creates s1 b1 a1) h = absurd h
course_same (Ends e) (Changes s1 a1) h = absurd h
course_same (Ends e) (Ends e1) h = ap Ends h

course_set : IsSet Course
course_set = rel_set SameCourse course_prop course_self course_same

task_set : IsSet Task
task_set = hlevel (spec_set, course_set)

event_set : IsSet Event
event_set = hlevel (⊎_set, ℕ_is_set, ℤ_is_set, rights_set, mode_set, blame_set, task_set)

pub events_set : IsSet (List Event)
events_set = list_set event_set
