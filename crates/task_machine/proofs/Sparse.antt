-- A specification by its objects, and the same object by object.
use Rattle.std.proofs.Common.{◌≡◌, ℕ, zero, suc, ◌+◌, ◌<◌, ◌≤◌, ◌⊎◌, inl, inr, List, [], ◌∷◌, map, length, Bool, true, false, eqb, cond, Some}
use Rattle.std.proofs.Common.{refl, sym, ap, ◌∙◌, subst, arith, ⊎_elim}
use Rattle.std.specs.Prelude.{slice_get, slice_set, replicate}
use Rattle.std.proofs.lemmas.Bool.{cases_eq, eq-eqb, ne_eqb, true≢false}
use Rattle.std.proofs.lemmas.Option.{none-some, same_Some}
use Rattle.jade_base.specs.declared.place.ObjectId.{ObjectId}
use Rattle.jade_base.specs.declared.rights.Rights.{Rights}
use Rattle.std.specs.Prelude.{◌||◌}
use Rattle.std.proofs.lemmas.Bool.{true≢false}
use Rattle.jade_base.specs.declared.rights.Right.{Right}
use Rattle.jade_base.specs.declared.rights.Right.TheVariants.{Absent, Deferred, Immediate}
use Rattle.jade_base.specs.Rights.{both_rights, no_rights, is_there, has_rights, join}
use Rattle.jade_base.specs.Specification.{AllAbove, IsAscending, rights_in, settled, kept, Specification as Sparse}
use Rattle.access_spec.specs.Copies.{copied, copied_in}
use Rattle.jade_meaning.specs.Specification.{Specification, numbers, rights_on}
use Rattle.jade_meaning.specs.Spread.{spread}
use Rattle.task_machine.specs.steps.Owning.{id, copy_spread, RightsBelow}

module _ (f : ℕ → Rights) where
  pub tab_at : (i n k : ℕ) → k < n → rights_on (map f (numbers i n)) k ≡ f (i + k)
  tab_at i zero k lt = absurd (omega (arith, lt))
  tab_at i (suc n) zero lt = let e : i ≡ i + 0 = omega arith in ap f e
  tab_at i (suc n) (suc k) lt = let e : suc i + k ≡ i + suc k = omega arith in tab_at (suc i) n k (omega (arith, lt)) ∙ ap f e

  pub tab_past : (i n k : ℕ) → n ≤ k → rights_on (map f (numbers i n)) k ≡ no_rights
  tab_past i zero k le = refl
  tab_past i (suc n) zero le = absurd (omega (arith, le))
  tab_past i (suc n) (suc k) le = tab_past (suc i) n k (omega (arith, le))

  pub tab_long : (i n : ℕ) → length (map f (numbers i n)) ≡ n
  tab_long i zero = refl
  tab_long i (suc n) = ap suc (tab_long (suc i) n)

pub tab_same : (f g : ℕ → Rights) (i n : ℕ) → ((k : ℕ) → f k ≡ g k) → map f (numbers i n) ≡ map g (numbers i n)
tab_same f g i zero h = refl
tab_same f g i (suc n) h = ap (λ x. x ∷ map f (numbers (suc i) n)) (h i) ∙ ap (λ l. g i ∷ l) (tab_same f g (suc i) n h)

-- other rights on one object
pub tab_set : (f g : ℕ → Rights) (i n o : ℕ) (x : Rights) → g (i + o) ≡ x → ((k : ℕ) → (k ≡ i + o → ⊥) → f k ≡ g k) → slice_set (map f (numbers i n)) o x
    ≡ map g (numbers i n)
tab_set f g i zero o x e h = refl
tab_set f g i (suc n) zero x e h =
    let z : i ≡ i + 0 = omega arith in
    ap (λ y. y ∷ map f (numbers (suc i) n)) (sym e ∙ ap g (sym z)) ∙ ap (λ l. g i ∷ l) (after (suc i) n (λ k far. h k (λ q. omega (arith, q, far))))
  where
    after : (j m : ℕ) → ((k : ℕ) → j ≤ k → f k ≡ g k) → map f (numbers j m) ≡ map g (numbers j m)
    after j zero s = refl
    after j (suc m) s = ap (λ y. y ∷ map f (numbers (suc j) m)) (s j (omega arith)) ∙ ap (λ l. g j ∷ l) (after (suc j) m (λ k le. s k (omega (arith, le))))
tab_set f g i (suc n) (suc o) x e h =
    let z : i + suc o ≡ suc i + o = omega arith in
    ap (λ y. y ∷ slice_set (map f (numbers (suc i) n)) o x) (h i (λ q. omega (arith, q)))
    ∙ ap (λ l. g i ∷ l) (tab_set f g (suc i) n o x (ap g (sym z) ∙ e) (λ k ne. h k (λ q. ne (q ∙ z))))

pub set_past : (xs : Specification) (o : ℕ) (x : Rights) → length xs ≤ o → slice_set xs o x ≡ xs
set_past [] o x le = refl
set_past (y ∷ xs) zero x le = absurd (omega (arith, le))
set_past (y ∷ xs) (suc o) x le = ap (λ l. y ∷ l) (set_past xs o x (omega (arith, le)))

-- there are rights only on the objects
pub within_objects : (f : Rights → Bool) → f no_rights ≡ false → (n : ℕ) (es : List (ObjectId × Rights)) (o : ℕ) → f (rights_on (spread n es) o) ≡ true → o < n
within_objects f none n es o h = ⊎_elim (λ lt. lt) (λ le. absurd (true≢false (sym h ∙ ap f (tab_past (λ i. rights_in es (id i)) 0 n o le)
    ∙ none))) (lt_or_le o n)
  where
    lt_or_le : (i m : ℕ) → (i < m) ⊎ (m ≤ i)
    lt_or_le i zero = inr (omega arith)
    lt_or_le zero (suc m) = inl (omega arith)
    lt_or_le (suc i) (suc m) = ⊎_elim (λ lt. inl (omega (arith, lt))) (λ le. inr (omega (arith, le))) (lt_or_le i m)

pub none_spread : (i n : ℕ) → map (λ o. no_rights) (numbers i n) ≡ replicate n no_rights
none_spread i zero = refl
none_spread i (suc n) = ap (λ l. no_rights ∷ l) (none_spread (suc i) n)

above-at : (n : ℕ) (es : List (ObjectId × Rights)) (k : ℕ) (e : ObjectId × Rights) → AllAbove n es → slice_get es k ≡ Some e → n < e.0.0
above-at n [] k e h g = absurd (none-some e g)
above-at n (x ∷ es) zero e h g = subst (λ y. n < y.0.0) (same_Some x e g) h.0
above-at n (x ∷ es) (suc k) e h g = above-at n es k e h.1 g

-- the entry at this place is the object's, and the first
pub rights_here : (es : List (ObjectId × Rights)) (k : ℕ) (e : ObjectId × Rights) (o : ObjectId) → IsAscending es → slice_get es k ≡ Some e → e.0.0 ≡ o.0 → e.1
    ≡ rights_in es o
rights_here [] k e o h g q = absurd (none-some e g)
rights_here (x ∷ es) zero e o h g q =
    let s = same_Some x e g in
    let z : x.0.0 ≡ o.0 = ap (λ y. y.0.0) s ∙ q in
    rw (eq-eqb x.0.0 o.0 z) (ap (λ y. y.1) (sym s))
rights_here (x ∷ es) (suc k) e o h g q =
    let far = above-at x.0.0 es k e h.1 g in
    rw (ne_eqb x.0.0 o.0 (λ z. omega (arith, far, q, z))) (rights_here es k e o h.2 g q)

pub settled_is : (es : List (ObjectId × Rights)) (o : ObjectId) → copied_in es (map (λ e. e.1) es) o ≡ rights_in es o
settled_is [] o = refl
settled_is (e ∷ es) o = ap (cond (eqb e.0.0 o.0) e.1) (settled_is es o)

-- a copy that was not changed
pub settled_copy : (n : ℕ) (es : List (ObjectId × Rights)) → copy_spread n (settled es) ≡ spread n es
settled_copy n es = tab_same (λ o. copied (settled es) (id o)) (λ o. rights_in es (id o)) 0 n (λ k. settled_is es (id k))

-- one declaration more
pub joined_spread : (n : ℕ) (old new : List (ObjectId × Rights)) (o : ObjectId) (r : Rights) → o.0 < n → rights_in new o ≡ join (rights_in old o) r
    → ((other : ObjectId) → (other ≡ o → ⊥) → rights_in new other ≡ rights_in old other)
    → spread n new ≡ slice_set (spread n old) o.0 (join (rights_on (spread n old) o.0) r)
joined_spread n old new o r lt here elsewhere =
    let f : ℕ → Rights = λ i. rights_in old (id i) in
    let g : ℕ → Rights = λ i. rights_in new (id i) in
    let z : 0 + o.0 ≡ o.0 = omega arith in
    let at : rights_on (spread n old) o.0 ≡ rights_in old o = tab_at f 0 n o.0 lt ∙ ap f z in
    sym (ap (λ a. slice_set (spread n old) o.0 (join a r)) at
    ∙ tab_set f g 0 n o.0 (join (rights_in old o) r) (ap g z ∙ here) (λ k ne. sym (elsewhere (id k) (λ q. ne (ap (λ (x : ObjectId). x.0) q ∙ sym z)))))

absent : (r : Right) → is_there r ≡ false → r ≡ Absent
absent Absent h = refl
absent Deferred h = absurd (true≢false h)
absent Immediate h = absurd (true≢false h)

neither : (a b : Bool) → (a || b) ≡ false → (a ≡ false) × (b ≡ false)
neither true b h = absurd (true≢false h)
neither false b h = (refl, h)

no_right_is : (a : Rights) → has_rights a ≡ false → a ≡ no_rights
no_right_is a h =
    let two = neither (is_there a.reads || is_there a.writes) (is_there a.commutes) h in
    let one = neither (is_there a.reads) (is_there a.writes) two.0 in
    ap (λ r. record { reads = r; writes = a.writes; commutes = a.commutes }) (absent a.reads one.0)
    ∙ ap (λ w. record { reads = Absent; writes = w; commutes = a.commutes }) (absent a.writes one.1)
    ∙ ap (λ c. record { reads = Absent; writes = Absent; commutes = c }) (absent a.commutes two.1)

copied_above : (es : List (ObjectId × Rights)) (ds : List Rights) (o : ObjectId) (n : ℕ) → o.0 ≤ n → AllAbove n es → copied_in es ds o ≡ no_rights
copied_above [] ds o n le h = refl
copied_above (e ∷ es) [] o n le h = refl
copied_above (e ∷ es) (d ∷ ds) o n le h = ap (λ b. cond b d (copied_in es ds o)) (ne_eqb e.0.0 o.0 (λ q. omega (arith, h.0, q, le)))
    ∙ copied_above es ds o n le h.1

kept_is : (es : List (ObjectId × Rights)) (ds : List Rights) (o : ObjectId) → IsAscending es → rights_in (kept es ds) o ≡ copied_in es ds o
kept_is [] ds o h = refl
kept_is (e ∷ es) [] o h = refl
kept_is (e ∷ es) (d ∷ ds) o h = go (has_rights d) refl (kept_is es ds o h.2)
  where
    same : (e.0.0 ≡ o.0) ⊎ (e.0.0 ≡ o.0 → ⊥) → has_rights d ≡ false → copied_in es ds o ≡ cond (eqb e.0.0 o.0) d (copied_in es ds o)
    same (inl q) none = copied_above es ds o e.0.0 (omega (arith, q)) h.1 ∙ sym (no_right_is d none)
        ∙ sym (ap (λ b. cond b d (copied_in es ds o)) (eq-eqb e.0.0 o.0 q))
    same (inr ne) none = sym (ap (λ b. cond b d (copied_in es ds o)) (ne_eqb e.0.0 o.0 ne))

    go : (t : Bool) → has_rights d ≡ t → rights_in (kept es ds) o ≡ copied_in es ds o → rights_in (cond t ((e.0, d) ∷ kept es ds) (kept es ds)) o
        ≡ cond (eqb e.0.0 o.0) d (copied_in es ds o)
    go true q more = ap (cond (eqb e.0.0 o.0) d) more
    go false q more = more ∙ same (cases_eq e.0.0 o.0) q

-- the copy as the specification
pub kept_spread : (n : ℕ) (s : Sparse) → IsAscending s.entries → spread n (kept s.entries s.draft) ≡ copy_spread n s
kept_spread n s h = tab_same (λ o. rights_in (kept s.entries s.draft) (id o)) (λ o. copied s (id o)) 0 n (λ k. kept_is s.entries s.draft (id k) h)

all_both : (f : ℕ → Rights) (i n : ℕ) → ((k : ℕ) → k < i + n → f k ≡ both_rights) → map f (numbers i n) ≡ replicate n both_rights
all_both f i zero h = refl
all_both f i (suc n) h = ap (λ x. x ∷ map f (numbers (suc i) n)) (h i (omega arith))
    ∙ ap (λ l. both_rights ∷ l) (all_both f (suc i) n (λ k lt. h k (omega (arith, lt))))

pub below_all : (n m : ℕ) (es : List (ObjectId × Rights)) → n ≤ m → RightsBelow m es → spread n es ≡ replicate n both_rights
below_all n m es le h = all_both (λ o. rights_in es (id o)) 0 n (λ k lt. h.below (id k) (omega (arith, lt, le)))
