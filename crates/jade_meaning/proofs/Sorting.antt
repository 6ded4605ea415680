-- Parts of which those of one task rise stand by ascending key once they are sorted.
use Rattle.std.proofs.Common.{◌≡◌, ◌≢◌, ℕ, zero, suc, ◌≤◌, ◌<◌, Bool, true, false, ◌&&◌, List, [], ◌∷◌, ◌++◌, refl, sym, ap, ◌∙◌, subst, Some, None, arith, ◌⊎◌, inl, inr}
use Rattle.std.specs.Prelude.{ℤ, nat_eq, nat_lt, if◌then◌else◌}
use Rattle.std.specs.List.{filter_map, cons_option}
use Rattle.std.proofs.lemmas.Bool.{ltb-true, ltb-false, eq-eqb, ne_eqb}
use Rattle.std.proofs.lemmas.Bool.Decides.{eqb_tells}
use Rattle.jade_base.specs.Places.{is_before}
use Rattle.jade_syntax.specs.Abstract.{AbstractProgram}
use Rattle.jade_meaning.specs.Serial.{Mark, Path, Deed, DidTurn, DidRead, DidWrite, DidCreate, DidEnd, same_path, marks_at, Part, part_of_deed, parts}
use Rattle.jade_meaning.specs.Answer.{key, filed, by_key, parts_by_key}
use Rattle.jade_meaning.specs.Laws.{Every}
use Rattle.jade_meaning.specs.Turns.{marks_by}
use Rattle.jade_meaning.proofs.Filling.{Off, From, Within}
use Rattle.jade_meaning.proofs.Pieces.{mark_off, mark_on}
use Rattle.jade_meaning.proofs.Stops.{KeysAscend, every_with, before_greater, before_not, equal_both}
use Rattle.jade_meaning.proofs.Telling.{Rise, whole, root}

-- the parts of the task at a path
abbrev pub parts_at : Path → List Part → List Part
parts_at q ps = filter_map (λ x. if same_path x.path q then Some x else None) ps

part_on : (q : Path) (x : Part) (ps : List Part) → same_path x.path q ≡ true → parts_at q (x ∷ ps) ≡ x ∷ parts_at q ps
part_on q x ps e = ap (λ b. cons_option (if b then Some x else None) (parts_at q ps)) e

part_off : (q : Path) (x : Part) (ps : List Part) → same_path x.path q ≡ false → parts_at q (x ∷ ps) ≡ parts_at q ps
part_off q x ps e = ap (λ b. cons_option (if b then Some x else None) (parts_at q ps)) e

part_here : (q : Path) (m : Mark) (d : Deed) (ps qs : List Part) → same_path m.path q ≡ true → ps ≡ parts_at q qs
    → cons_option (part_of_deed d m) ps ≡ parts_at q (cons_option (part_of_deed d m) qs)
part_here q m (DidTurn o) ps qs e h = h
part_here q m (DidRead o c v) ps qs e h = h
part_here q m (DidWrite o c v) ps qs e h = h
part_here q m (DidCreate t n) ps qs e h =
    let x : Part = record { path = m.path; children = m.children; steps = n; blame = None } in ap (λ l. x ∷ l) h ∙ sym (part_on q x qs e)
part_here q m (DidEnd b n) ps qs e h =
    let x : Part = record { path = m.path; children = m.children; steps = n; blame = b } in ap (λ l. x ∷ l) h ∙ sym (part_on q x qs e)

part_there : (q : Path) (m : Mark) (d : Deed) (ps qs : List Part) → same_path m.path q ≡ false → ps ≡ parts_at q qs
    → ps ≡ parts_at q (cons_option (part_of_deed d m) qs)
part_there q m (DidTurn o) ps qs e h = h
part_there q m (DidRead o c v) ps qs e h = h
part_there q m (DidWrite o c v) ps qs e h = h
part_there q m (DidCreate t n) ps qs e h =
    let x : Part = record { path = m.path; children = m.children; steps = n; blame = None } in h ∙ sym (part_off q x qs e)
part_there q m (DidEnd b n) ps qs e h =
    let x : Part = record { path = m.path; children = m.children; steps = n; blame = b } in h ∙ sym (part_off q x qs e)

pub parts_here : (q : Path) (ms : List Mark) → parts (marks_at q ms) ≡ parts_at q (parts ms)
parts_here q [] = refl
parts_here q (m ∷ ms) = go (same_path m.path q) refl (parts_here q ms)
  where
    go : (b : Bool) → same_path m.path q ≡ b → parts (marks_at q ms) ≡ parts_at q (parts ms) → parts (marks_at q (m ∷ ms)) ≡ parts_at q (parts (m ∷ ms))
    go true e h = ap parts (mark_on q m ms e) ∙ part_here q m m.deed (parts (marks_at q ms)) (parts ms) e h
    go false e h = ap parts (mark_off q m ms e) ∙ part_there q m m.deed (parts (marks_at q ms)) (parts ms) e h

-- rising numbers
rise_less : (j k : ℕ) (ps : List Part) → j ≤ k → Rise k ps → Rise j ps
rise_less j k [] le h = tt
rise_less j k (p ∷ ps) le h = (omega (arith, le, h.0), h.1)

rise_every : (j k : ℕ) (ps : List Part) → j ≤ k → Rise k ps → Every (λ y. j ≤ y.children) ps
rise_every j k [] le h = tt
rise_every j k (p ∷ ps) le h = (omega (arith, le, h.0), rise_every j (suc p.children) ps (omega (arith, le, h.0)) h.1)

every_at : (P : Part → Type 0) (q : Path) (ps : List Part) → Every P (parts_at q ps) → Every (λ y. same_path y.path q ≡ true → P y) ps
every_at P q [] h = tt
every_at P q (y ∷ ps) h = go (same_path y.path q) refl (every_at P q ps)
  where
    go : (b : Bool) → same_path y.path q ≡ b → (Every P (parts_at q ps) → Every (λ y. same_path y.path q ≡ true → P y) ps)
        → Every (λ y. same_path y.path q ≡ true → P y) (y ∷ ps)
    go true e f = let g : Every P (y ∷ parts_at q ps) = subst (Every P) (part_on q y ps e) h in (λ i. g.0, f g.1)
    go false e f =
        let g : Every P (parts_at q ps) = subst (Every P) (part_off q y ps e) h in
        (λ i. absurd (let z : false ≡ true = sym e ∙ i in cc), f g)

-- keys that differ
abbrev pub Differ : Part → Part → Type 0
Differ x y = same_path (key x) (key y) ≡ false

and_both : (a b : Bool) → a && b ≡ true → (a ≡ true) × (b ≡ true)
and_both true b h = (refl, h)
and_both false b h = absurd (cc)

same_longer : (p : Path) (c : ℕ) (j : ℕ) (q : Path) → same_path (p ++ c ∷ []) [] ≡ false
same_longer [] c j q = refl
same_longer (i ∷ p) c j q = refl

snoc_same : (p q : Path) (c d : ℕ) → same_path (p ++ c ∷ []) (q ++ d ∷ []) ≡ true → (same_path q p ≡ true) × (c ≡ d)
snoc_same [] [] c d h = (refl, eq_of (eqb_tells c d) (and_both (nat_eq c d) true h).0)
  where
    eq_of : ((nat_eq c d ≡ true) × (c ≡ d)) ⊎ ((nat_eq c d ≡ false) × (c ≢ d)) → nat_eq c d ≡ true → c ≡ d
    eq_of (inl e) h = e.1
    eq_of (inr e) h = absurd (let z : true ≡ false = sym h ∙ e.0 in cc)
snoc_same [] (j ∷ q) c d h = absurd (let z = (and_both (nat_eq c j) _ h).1 in none q z)
  where
    none : (q : Path) → same_path [] (q ++ d ∷ []) ≡ true → ⊥
    none [] z = cc
    none (k ∷ q) z = cc
snoc_same (i ∷ p) [] c d h = absurd (let z = (and_both (nat_eq i d) _ h).1 in none p z)
  where
    none : (p : Path) → same_path (p ++ c ∷ []) [] ≡ true → ⊥
    none [] z = cc
    none (k ∷ p) z = cc
snoc_same (i ∷ p) (j ∷ q) c d h =
    let z = and_both (nat_eq i j) _ h in
    let r = snoc_same p q c d z.1 in
    (go (eqb_tells i j) z.0 r.0, r.1)
  where
    go : ((nat_eq i j ≡ true) × (i ≡ j)) ⊎ ((nat_eq i j ≡ false) × (i ≢ j)) → nat_eq i j ≡ true → same_path q p ≡ true → nat_eq j i && same_path q p ≡ true
    go (inl e) h r = ap (λ b. b && same_path q p) (eq-eqb j i (sym e.1)) ∙ r
    go (inr e) h r = absurd (let z : true ≡ false = sym h ∙ e.0 in cc)

differ : (x y : Part) → (same_path y.path x.path ≡ true → suc x.children ≤ y.children) → Differ x y
differ x y f = go (same_path (key x) (key y)) refl
  where
    go : (b : Bool) → same_path (key x) (key y) ≡ b → same_path (key x) (key y) ≡ false
    go false e = e
    go true e =
        let s = snoc_same x.path y.path x.children y.children e in
        let lt : suc x.children ≤ y.children = f s.0 in
        let i : x.children ≡ y.children = s.1 in
        absurd (omega (arith, lt, i))

abbrev pub Apart : List Part → Type 0
Apart [] = Unit {0}
Apart (p ∷ ps) = Every (Differ p) ps × Apart ps

same_self : (p : Path) → same_path p p ≡ true
same_self [] = refl
same_self (i ∷ p) = ap (λ b. b && same_path p p) (eq-eqb i i refl) ∙ same_self p

pub apart : (ps : List Part) → ((q : Path) → Rise 0 (parts_at q ps)) → Apart ps
apart [] h = tt
apart (p ∷ ps) h =
    let own : Rise 0 (p ∷ parts_at p.path ps) = subst (Rise 0) (part_on p.path p ps (same_self p.path)) (h p.path) in (
      every_with (λ (y : Part). same_path y.path p.path ≡ true → suc p.children ≤ y.children) (Differ p) (λ y f. differ p y f) ps
          (every_at (λ y. suc p.children ≤ y.children) p.path ps (rise_every (suc p.children) (suc p.children) (parts_at p.path ps) (omega arith) own.1)),
      apart ps (λ q. tail q (same_path p.path q) refl),
    )
  where
    tail : (q : Path) (b : Bool) → same_path p.path q ≡ b → Rise 0 (parts_at q ps)
    tail q true e = rise_less 0 (suc p.children) (parts_at q ps) (omega arith) (subst (Rise 0) (part_on q p ps e) (h q)).1
    tail q false e = subst (Rise 0) (part_off q p ps e) (h q)

-- the order of keys is total and goes on
pub total : (p q : Path) → same_path p q ≡ false → is_before q p ≡ false → is_before p q ≡ true
total [] [] s h = absurd (cc)
total [] (j ∷ q) s h = refl
total (i ∷ p) [] s h = absurd (cc)
total (i ∷ p) (j ∷ q) s h = go (nat_lt i j) refl (eqb_tells i j) (total p q)
  where
    go : (b : Bool) → nat_lt i j ≡ b → ((nat_eq i j ≡ true) × (i ≡ j)) ⊎ ((nat_eq i j ≡ false) × (i ≢ j))
        → (same_path p q ≡ false → is_before q p ≡ false → is_before p q ≡ true) → is_before (i ∷ p) (j ∷ q) ≡ true
    go true e f k = before_greater i j p q (ltb-true i j e)
    go false e (inl f) k =
        equal_both i j p q f.1 ∙ k (sym (ap (λ b. b && same_path p q) f.0) ∙ s) (sym (equal_both j i q p (sym f.1)) ∙ h)
    go false e (inr f) k =
        let le : j ≤ i = ltb-false i j e in
        let ne : i ≢ j = f.1 in
        let lt : j < i = omega (arith, le, ne) in
        absurd (let z : true ≡ false = sym (before_greater j i q p lt) ∙ h in cc)

pub goes_on : (p q r : Path) → is_before p q ≡ true → is_before q r ≡ true → is_before p r ≡ true
goes_on [] [] r h g = g
goes_on [] (j ∷ q) [] h g = absurd (cc)
goes_on [] (j ∷ q) (k ∷ r) h g = refl
goes_on (i ∷ p) [] r h g = absurd (cc)
goes_on (i ∷ p) (j ∷ q) [] h g = absurd (cc)
goes_on (i ∷ p) (j ∷ q) (k ∷ r) h g = first (nat_lt i j) refl (eqb_tells i j) (goes_on p q r)
  where
    second : i ≡ j → (b : Bool) → nat_lt j k ≡ b → ((nat_eq j k ≡ true) × (j ≡ k)) ⊎ ((nat_eq j k ≡ false) × (j ≢ k))
        → (is_before p q ≡ true → is_before q r ≡ true → is_before p r ≡ true) → is_before (i ∷ p) (k ∷ r) ≡ true
    second e true f t n = let lt : j < k = ltb-true j k f in before_greater i k p r (omega (arith, e, lt))
    second e false f (inl t) n =
        equal_both i k p r (e ∙ t.1) ∙ n (sym (equal_both i j p q e) ∙ h) (sym (equal_both j k q r t.1) ∙ g)
    second e false f (inr t) n =
        let le : k ≤ j = ltb-false j k f in
        let ne : j ≢ k = t.1 in
        absurd (let z : true ≡ false = sym g ∙ before_not j k q r (omega (arith, le, ne)) in cc)

    less : i < j → (b : Bool) → nat_lt k j ≡ b → is_before (i ∷ p) (k ∷ r) ≡ true
    less lt true f = let l : k < j = ltb-true k j f in absurd (let z : true ≡ false = sym g ∙ before_not j k q r l in cc)
    less lt false f = let le : j ≤ k = ltb-false k j f in before_greater i k p r (omega (arith, lt, le))

    first : (b : Bool) → nat_lt i j ≡ b → ((nat_eq i j ≡ true) × (i ≡ j)) ⊎ ((nat_eq i j ≡ false) × (i ≢ j))
        → (is_before p q ≡ true → is_before q r ≡ true → is_before p r ≡ true) → is_before (i ∷ p) (k ∷ r) ≡ true
    first true e f n = less (ltb-true i j e) (nat_lt k j) refl
    first false e (inl f) n = second f.1 (nat_lt j k) refl (eqb_tells j k) n
    first false e (inr f) n =
        let le : j ≤ i = ltb-false i j e in
        let ne : i ≢ j = f.1 in
        absurd (let z : true ≡ false = sym h ∙ before_not i j p q (omega (arith, le, ne)) in cc)

-- sorting
every_filed : (P : Part → Type 0) (p : Part) (qs : List Part) → P p → Every P qs → Every P (filed p qs)
every_filed P p [] h g = (h, tt)
every_filed P p (q ∷ qs) h g = go (is_before (key q) (key p)) (every_filed P p qs h g.1)
  where
    go : (b : Bool) → Every P (filed p qs) → Every P (if b then q ∷ filed p qs else p ∷ (q ∷ qs))
    go true r = (g.0, r)
    go false r = (h, g)

pub every_by_key : (P : Part → Type 0) (ps : List Part) → Every P ps → Every P (by_key ps)
every_by_key P [] h = tt
every_by_key P (p ∷ ps) h = every_filed P p (by_key ps) h.0 (every_by_key P ps h.1)

filed_ascend : (p : Part) (qs : List Part) → Every (Differ p) qs → KeysAscend qs → KeysAscend (filed p qs)
filed_ascend p [] d h = (tt, tt)
filed_ascend p (q ∷ qs) d h = go (is_before (key q) (key p)) refl (filed_ascend p qs d.1 h.1)
  where
    go : (b : Bool) → is_before (key q) (key p) ≡ b → KeysAscend (filed p qs) → KeysAscend (if b then q ∷ filed p qs else p ∷ (q ∷ qs))
    go true e r = (every_filed (λ x. is_before (key q) (key x) ≡ true) p qs e h.0, r)
    go false e r =
        let before = total (key p) (key q) d.0 e in (
          (
            before,
            every_with (λ (x : Part). is_before (key q) (key x) ≡ true) (λ (x : Part). is_before (key p) (key x) ≡ true)
                (λ x f. goes_on (key p) (key q) (key x) before f) qs h.0,
          ),
          h,
        )

by_key_ascend : (ps : List Part) → Apart ps → KeysAscend (by_key ps)
by_key_ascend [] h = tt
by_key_ascend (p ∷ ps) h = filed_ascend p (by_key ps) (every_by_key (Differ p) ps h.0) (by_key_ascend ps h.1)

-- the parts of a run by turn lists
pub rises_everywhere : (ms : List Mark) → ((q : Path) → Within root 0 q → Rise 0 (parts (marks_at q ms))) → ((q : Path) → Off (Within root 0) q → marks_at q ms ≡ [])
    → (q : Path) → Rise 0 (parts (marks_at q ms))
rises_everywhere ms h g [] = subst (λ l. Rise 0 (parts l)) (sym (g [] (λ y i. ap (λ x. same_path x []) i.is))) tt
rises_everywhere ms h g (zero ∷ r) = h (0 ∷ r) (record { rest = r; is = refl; from = at r })
  where
    at : (r : Path) → From 0 r
    at [] = tt
    at (j ∷ r) = omega arith
rises_everywhere ms h g (suc j ∷ r) = subst (λ l. Rise 0 (parts l)) (sym (g (suc j ∷ r) (λ y i. ap (λ x. same_path x (suc j ∷ r)) i.is
    ∙ ap (λ b. b && same_path i.rest r) (ne_eqb 0 (suc j) (λ e. absurd (omega (arith, e))))))) tt

pub sorted_ascend : (p : AbstractProgram) (ns : List ℤ) (limit : ℕ) (T : ℕ → List Path) → KeysAscend (parts_by_key (marks_by p ns limit T))
sorted_ascend p ns limit T =
    let ms = marks_by p ns limit T in
    let h = whole p ns limit T in
    by_key_ascend (parts ms) (apart (parts ms) (λ q. subst (Rise 0) (parts_here q ms) (rises_everywhere ms h.rises h.elsewhere q)))
