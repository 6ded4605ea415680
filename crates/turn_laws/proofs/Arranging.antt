-- Arrangements of a group: what they name, and how many.
use Rattle.std.proofs.Common.{◌≡◌, suc, Bool, true, false, ◌&&◌, ◌||◌, List, [], ◌∷◌, ◌++◌, map, length, refl, sym, ap, ◌∙◌, subst, append-nil}
use Rattle.std.specs.Prelude.{if◌then◌else◌}
use Rattle.jade_meaning.specs.Serial.{Path, same_path}
use Rattle.jade_meaning.specs.Turns.{Member, unnamed, arranged}
use Rattle.jade_meaning.specs.Laws.{Every}
use Rattle.jade_meaning.proofs.Groups.{Strange, arranged_skip, arranged_ahead, unnamed_here}
use Rattle.jade_meaning.proofs.Filling.{Found, again, same_path_is, same_self}
use Rattle.turn_laws.specs.Spending.{is_named, arranges}

-- the paths of members
abbrev pub paths : List Member → List Path
paths ms = map (λ (m : Member). m.path) ms

and_left : (a b : Bool) → a && b ≡ true → a ≡ true
and_left true b h = refl
and_left false b h = h

and_right : (a b : Bool) → a && b ≡ true → b ≡ true
and_right true b h = h
and_right false b h = absurd (cc)

or_true : (b : Bool) → b || true ≡ true
or_true true = refl
or_true false = refl

-- whom a path names
found : (p : Path) (g : List Member) → is_named p g ≡ true → Found p g
found p [] h = absurd (cc)
found p (m ∷ g) h = go (same_path m.path p) refl (λ i. found p g i)
  where
    go : (b : Bool) → same_path m.path p ≡ b → (is_named p g ≡ true → Found p g) → Found p (m ∷ g)
    go true e k = record { front = []; here = m; back = g; is = refl; strange = tt; same = e }
    go false e k =
        let f = k (sym (ap (λ b. b || is_named p g) e) ∙ h) in
        record { front = m ∷ f.front; here = f.here; back = f.back; is = ap (λ x. m ∷ x) f.is; strange = (e, f.strange); same = f.same }

not_named : (p : Path) (g : List Member) → is_named p g ≡ false → Every (Strange p) g
not_named p [] h = tt
not_named p (m ∷ g) h = go (same_path m.path p) refl (λ i. not_named p g i)
  where
    go : (b : Bool) → same_path m.path p ≡ b → (is_named p g ≡ false → Every (Strange p) g) → Every (Strange p) (m ∷ g)
    go true e k = absurd (let z : true ≡ false = sym (ap (λ b. b || is_named p g) e) ∙ h in cc)
    go false e k = (e, k (sym (ap (λ b. b || is_named p g) e) ∙ h))

named_there : (p : Path) (a b : List Member) (m : Member) → same_path m.path p ≡ true → is_named p (a ++ (m ∷ b)) ≡ true
named_there p [] b m e = ap (λ x. x || is_named p b) e
named_there p (x ∷ a) b m e = ap (λ z. same_path x.path p || z) (named_there p a b m e) ∙ or_true (same_path x.path p)

one_more : (a b : List Member) (m : Member) → length (a ++ (m ∷ b)) ≡ suc (length (a ++ b))
one_more [] b m = refl
one_more (x ∷ a) b m = ap suc (one_more a b m)

-- the member that an arrangement names first, and those whom it leaves to the next paths
pub record Ahead (p : Path) (ps : List Path) (g : List Member) : Type 0 where
  pub here : Member
  pub rest : List Member
  pub path : here.path ≡ p
  pub order : (qs : List Path) → arranged (p ∷ qs) g ≡ here ∷ arranged qs rest
  pub count : length g ≡ suc (length rest)
  pub goes_on : arranges ps rest ≡ true

ahead : (p : Path) (ps : List Path) (g : List Member) → arranges (p ∷ ps) g ≡ true → Ahead p ps g
ahead p ps g h =
    let f = found p g (and_left (is_named p g) (arranges ps (unnamed p g)) h) in
    let left : unnamed p g ≡ f.front ++ f.back = ap (unnamed p) f.is ∙ unnamed_here p f.front f.back f.here f.strange f.same in
    record {
      here = f.here;
      rest = f.front ++ f.back;
      path = same_path_is f.here.path p f.same;
      order = λ qs. ap (arranged (p ∷ qs)) f.is ∙ arranged_ahead p qs f.front f.back f.here f.strange f.same;
      count = ap length f.is ∙ one_more f.front f.back f.here;
      goes_on = sym (ap (arranges ps) left) ∙ and_right (is_named p g) (arranges ps (unnamed p g)) h;
    }

-- it names members in its own order
pub in_order_named : (ps : List Path) (g : List Member) → arranges ps g ≡ true → paths (arranged ps g) ≡ ps
in_order_named [] [] h = refl
in_order_named [] (m ∷ g) h = absurd (cc)
in_order_named (p ∷ ps) g h =
    let a = ahead p ps g h in
    ap paths (a.order ps) ∙ ap (λ q. q ∷ paths (arranged ps a.rest)) a.path ∙ ap (λ qs. p ∷ qs) (in_order_named ps a.rest a.goes_on)

-- what follows it names nobody
pub enough : (ps rest : List Path) (g : List Member) → arranges ps g ≡ true → arranged (ps ++ rest) g ≡ arranged ps g
enough [] rest [] h = refl
enough [] rest (m ∷ g) h = absurd (cc)
enough (p ∷ ps) rest g h =
    let a = ahead p ps g h in
    a.order (ps ++ rest) ∙ ap (λ ms. a.here ∷ ms) (enough ps rest a.rest a.goes_on) ∙ sym (a.order ps)

-- it has as many paths as the group has members
pub as_many : (ps : List Path) (g : List Member) → arranges ps g ≡ true → length ps ≡ length g
as_many [] [] h = refl
as_many [] (m ∷ g) h = absurd (cc)
as_many (p ∷ ps) g h = let a = ahead p ps g h in ap suc (as_many ps a.rest a.goes_on) ∙ sym a.count

-- a group that is arranged by any paths is an arrangement
arranges_self : (g : List Member) → arranges (paths g) g ≡ true
arranges_self [] = refl
arranges_self (m ∷ g) =
    ap (λ b. (b || is_named m.path g) && arranges (paths g) (if b then g else m ∷ unnamed m.path g)) (same_self m.path) ∙ arranges_self g

pub arranges_arranged : (ps : List Path) (g : List Member) → arranges (paths (arranged ps g)) g ≡ true
arranges_arranged [] [] = refl
arranges_arranged (p ∷ ps) [] = refl
arranges_arranged [] (m ∷ g) = arranges_self (m ∷ g)
arranges_arranged (p ∷ ps) (m ∷ g) = go (is_named p (m ∷ g)) refl (λ x. arranges_arranged ps x)
  where
    go : (b : Bool) → is_named p (m ∷ g) ≡ b → ((x : List Member) → arranges (paths (arranged ps x)) x ≡ true)
        → arranges (paths (arranged (p ∷ ps) (m ∷ g))) (m ∷ g) ≡ true
    go false e k =
        subst (λ z. arranges (paths z) (m ∷ g) ≡ true) (sym (arranged_skip p ps (m ∷ g) (not_named p (m ∷ g) e))) (k (m ∷ g))
    go true e k =
        let f = found p (m ∷ g) e in
        let q = f.here.path in
        let whole = f.front ++ (f.here ∷ f.back) in
        let z = arranged ps (f.front ++ f.back) in
        let strange : Every (Strange q) f.front = subst (λ x. Every (Strange x) f.front) (sym (same_path_is q p f.same)) f.strange in
        let now : arranges (q ∷ paths z) whole ≡ true =
        ap (λ b. b && arranges (paths z) (unnamed q whole)) (named_there q f.front f.back f.here (same_self q))
        ∙ ap (arranges (paths z)) (unnamed_here q f.front f.back f.here strange (same_self q)) ∙ k (f.front ++ f.back) in
        let order : arranged (p ∷ ps) whole ≡ f.here ∷ z = arranged_ahead p ps f.front f.back f.here f.strange f.same in
        subst (λ w. arranges (paths (arranged (p ∷ ps) w)) w ≡ true) (sym f.is) (subst (λ x. arranges (paths x) whole ≡ true) (sym order) now)

-- and gives that order again
pub again_alone : (ps : List Path) (g : List Member) → arranged (paths (arranged ps g)) g ≡ arranged ps g
again_alone ps g = ap (λ x. arranged x g) (sym (append-nil (paths (arranged ps g)))) ∙ again ps g []
