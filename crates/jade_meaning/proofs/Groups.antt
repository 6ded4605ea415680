-- Groups and their arrangement.
use Rattle.std.proofs.Common.{◌≡◌, ◌≢◌, ℕ, Bool, true, false, List, [], ◌∷◌, ◌++◌, refl, sym, ap, ◌∙◌, subst, ◌⊎◌, inl, inr}
use Rattle.std.specs.Prelude.{nat_eq, if◌then◌else◌}
use Rattle.std.proofs.lemmas.Bool.Decides.{eqb_tells}
use Rattle.jade_meaning.specs.Serial.{Path, same_path}
use Rattle.jade_meaning.specs.Turns.{Member, is_of, group, others, named, unnamed, arranged}
use Rattle.jade_meaning.specs.Laws.{Every}

pub every_append : {A : Type 0} (P : A → Type 0) (xs ys : List A) → Every P xs → Every P ys → Every P (xs ++ ys)
every_append P [] ys h g = g
every_append P (x ∷ xs) ys h g = (h.0, every_append P xs ys h.1 g)

pub every_front : {A : Type 0} (P : A → Type 0) (xs ys : List A) → Every P (xs ++ ys) → Every P xs
every_front P [] ys h = tt
every_front P (x ∷ xs) ys h = (h.0, every_front P xs ys h.1)

pub every_back : {A : Type 0} (P : A → Type 0) (xs ys : List A) → Every P (xs ++ ys) → Every P ys
every_back P [] ys h = h
every_back P (x ∷ xs) ys h = every_back P xs ys h.1

-- nobody of this path
abbrev pub Strange : Path → Member → Type 0
Strange p m = same_path m.path p ≡ false

pub named_none : (p : Path) (ms : List Member) → Every (Strange p) ms → named p ms ≡ []
named_none p [] h = refl
named_none p (m ∷ ms) h = ap (λ b. if b then m ∷ [] else named p ms) h.0 ∙ named_none p ms h.1

pub unnamed_none : (p : Path) (ms : List Member) → Every (Strange p) ms → unnamed p ms ≡ ms
unnamed_none p [] h = refl
unnamed_none p (m ∷ ms) h = ap (λ b. if b then ms else m ∷ unnamed p ms) h.0 ∙ ap (λ x. m ∷ x) (unnamed_none p ms h.1)

pub named_here : (p : Path) (a b : List Member) (m : Member) → Every (Strange p) a → same_path m.path p ≡ true → named p (a ++ (m ∷ b)) ≡ m ∷ []
named_here p [] b m h e = ap (λ x. if x then m ∷ [] else named p b) e
named_here p (q ∷ a) b m h e = ap (λ x. if x then q ∷ [] else named p (a ++ (m ∷ b))) h.0 ∙ named_here p a b m h.1 e

pub unnamed_here : (p : Path) (a b : List Member) (m : Member) → Every (Strange p) a → same_path m.path p ≡ true → unnamed p (a ++ (m ∷ b)) ≡ a ++ b
unnamed_here p [] b m h e = ap (λ x. if x then b else m ∷ unnamed p b) e
unnamed_here p (q ∷ a) b m h e = ap (λ x. if x then a ++ (m ∷ b) else q ∷ unnamed p (a ++ (m ∷ b))) h.0 ∙ ap (λ x. q ∷ x) (unnamed_here p a b m h.1 e)

pub arranged_first : (p : Path) (ts : List Path) (ms : List Member) → arranged (p ∷ ts) ms ≡ named p ms ++ arranged ts (unnamed p ms)
arranged_first p ts [] = refl
arranged_first p ts (m ∷ ms) = refl

-- a path that names nobody here changes nothing
pub arranged_skip : (p : Path) (ts : List Path) (ms : List Member) → Every (Strange p) ms → arranged (p ∷ ts) ms ≡ arranged ts ms
arranged_skip p ts ms h =
    arranged_first p ts ms ∙ ap (λ x. x ++ arranged ts (unnamed p ms)) (named_none p ms h) ∙ ap (arranged ts) (unnamed_none p ms h)

-- the member that is named first has the first turn
pub arranged_ahead : (p : Path) (ts : List Path) (a b : List Member) (m : Member) → Every (Strange p) a → same_path m.path p ≡ true → arranged (p ∷ ts) (a ++ (m ∷ b)) ≡ m ∷ arranged ts (a ++ b)
arranged_ahead p ts a b m h e =
    arranged_first p ts (a ++ (m ∷ b)) ∙ ap (λ x. x ++ arranged ts (unnamed p (a ++ (m ∷ b)))) (named_here p a b m h e) ∙ ap (λ x. m ∷ arranged ts x) (unnamed_here p a b m h e)

every_named : (P : Member → Type 0) (p : Path) (ms : List Member) → Every P ms → Every P (named p ms)
every_named P p [] h = tt
every_named P p (m ∷ ms) h = go (same_path m.path p) (every_named P p ms h.1)
  where
    go : (b : Bool) → Every P (named p ms) → Every P (if b then m ∷ [] else named p ms)
    go true r = (h.0, tt)
    go false r = r

every_unnamed : (P : Member → Type 0) (p : Path) (ms : List Member) → Every P ms → Every P (unnamed p ms)
every_unnamed P p [] h = tt
every_unnamed P p (m ∷ ms) h = go (same_path m.path p) (every_unnamed P p ms h.1)
  where
    go : (b : Bool) → Every P (unnamed p ms) → Every P (if b then ms else m ∷ unnamed p ms)
    go true r = h.1
    go false r = (h.0, r)

pub every_arranged : (P : Member → Type 0) (ts : List Path) (ms : List Member) → Every P ms → Every P (arranged ts ms)
every_arranged P ts [] h = tt
every_arranged P [] (m ∷ ms) h = h
every_arranged P (t ∷ ts) (m ∷ ms) h =
    every_append P (named t (m ∷ ms)) (arranged ts (unnamed t (m ∷ ms))) (every_named P t (m ∷ ms) h) (every_arranged P ts (unnamed t (m ∷ ms)) (every_unnamed P t (m ∷ ms) h))

-- groups
pub every_group : (P : Member → Type 0) (o : ℕ) (ms : List Member) → Every P ms → Every P (group o ms)
every_group P o [] h = tt
every_group P o (m ∷ ms) h = go (is_of o m) (every_group P o ms h.1)
  where
    go : (b : Bool) → Every P (group o ms) → Every P (if b then m ∷ group o ms else group o ms)
    go true r = (h.0, r)
    go false r = r

pub every_others : (P : Member → Type 0) (o : ℕ) (ms : List Member) → Every P ms → Every P (others o ms)
every_others P o [] h = tt
every_others P o (m ∷ ms) h = go (is_of o m) (every_others P o ms h.1)
  where
    go : (b : Bool) → Every P (others o ms) → Every P (if b then others o ms else m ∷ others o ms)
    go true r = r
    go false r = (h.0, r)

pub group_of : (o : ℕ) (ms : List Member) → Every (λ m. m.object ≡ o) (group o ms)
group_of o [] = tt
group_of o (m ∷ ms) = go (eqb_tells m.object o) (group_of o ms)
  where
    go : ((nat_eq m.object o ≡ true) × (m.object ≡ o)) ⊎ ((nat_eq m.object o ≡ false) × (m.object ≢ o)) → Every (λ m. m.object ≡ o) (group o ms) → Every (λ m. m.object ≡ o) (group o (m ∷ ms))
    go (inl e) r = subst (λ b. Every (λ m. m.object ≡ o) (if b then m ∷ group o ms else group o ms)) (sym e.0) (e.1, r)
    go (inr e) r = subst (λ b. Every (λ m. m.object ≡ o) (if b then m ∷ group o ms else group o ms)) (sym e.0) r

pub group_both : (o : ℕ) (a b : List Member) → group o (a ++ b) ≡ group o a ++ group o b
group_both o [] b = refl
group_both o (m ∷ a) b = go (is_of o m) (group_both o a b)
  where
    go : (x : Bool) → group o (a ++ b) ≡ group o a ++ group o b → (if x then m ∷ group o (a ++ b) else group o (a ++ b)) ≡ (if x then m ∷ group o a else group o a) ++ group o b
    go true r = ap (λ ms. m ∷ ms) r
    go false r = r
