-- What stands first among ascending entries, from an object on.
use Rattle.std.proofs.Common.{◌≡◌, ℕ, zero, suc, ◌+◌, ◌-◌, ◌<◌, ◌≤◌, ◌⊎◌, inl, inr, List, [], ◌∷◌, ◌++◌, length, Bool, true, false, Some}
use Rattle.std.proofs.Common.{refl, sym, ap, ◌∙◌, subst, arith, ⊎_elim}
use Rattle.std.specs.Prelude.{slice_get, ◌&&◌}
use Rattle.std.specs.List.{flat_map}
use Rattle.std.proofs.lemmas.Bool.{cases_eq, eq-eqb, ne_eqb, true≢false}
use Rattle.std.proofs.lemmas.Option.{none-some, same_Some}
use Rattle.jade_base.specs.declared.place.ObjectId.{ObjectId}
use Rattle.jade_base.specs.declared.rights.Rights.{Rights}
use Rattle.jade_base.specs.declared.rights.Right.{Right}
use Rattle.jade_base.specs.declared.rights.Right.TheVariants.{Absent, Deferred, Immediate}
use Rattle.jade_base.specs.Rights.{no_rights, has_rights, same_right, same_rights}
use Rattle.jade_base.specs.Specification.{Specification as Sparse, AllAbove, IsAscending, rights_in}
use Rattle.access_spec.specs.Copies.{IsSameBetween, copied_in}
use Rattle.jade_meaning.specs.Specification.{numbers}
use Rattle.task_machine.specs.steps.Finding.{AreBelow, AreFrom, AreSame, IsFreeBetween, IsNextChange, IsNextEntry, IsPlaceFrom}

pub get_within : (es : List (ObjectId × Rights)) (k : ℕ) (e : ObjectId × Rights) → slice_get es k ≡ Some e → k < length es
get_within [] k e h = absurd (none-some e h)
get_within (x ∷ es) zero e h = omega arith
get_within (x ∷ es) (suc k) e h = let lt = get_within es k e h in omega (arith, lt)

above_get : (n : ℕ) (es : List (ObjectId × Rights)) (k : ℕ) (e : ObjectId × Rights) → AllAbove n es → slice_get es k ≡ Some e → n < e.0.0
above_get n [] k e h g = absurd (none-some e g)
above_get n (x ∷ es) zero e h g = subst (λ y. n < y.0.0) (same_Some x e g) h.0
above_get n (x ∷ es) (suc k) e h g = above_get n es k e h.1 g

-- the objects of entries ascend with their places
pub get_ascend : (es : List (ObjectId × Rights)) (i j : ℕ) (d e : ObjectId × Rights) → IsAscending es → i < j → slice_get es i ≡ Some d
    → slice_get es j ≡ Some e → d.0.0 < e.0.0
get_ascend [] i j d e asc lt g h = absurd (none-some d g)
get_ascend (x ∷ es) zero zero d e asc lt g h = absurd (omega (arith, lt))
get_ascend (x ∷ es) zero (suc j) d e asc lt g h = subst (λ y. y.0.0 < e.0.0) (same_Some x d g) (above_get x.0.0 es j e asc.1 h)
get_ascend (x ∷ es) (suc i) zero d e asc lt g h = absurd (omega (arith, lt))
get_ascend (x ∷ es) (suc i) (suc j) d e asc lt g h = get_ascend es i j d e asc.2 (omega (arith, lt)) g h

-- an earlier place has no greater object, and the entry at a place is one
less_or_same : (i j : ℕ) → i < suc j → (i < j) ⊎ (i ≡ j)
less_or_same zero zero lt = inr refl
less_or_same zero (suc j) lt = inl (omega arith)
less_or_same (suc i) zero lt = absurd (omega (arith, lt))
less_or_same (suc i) (suc j) lt = ⊎_elim (λ l. inl (omega (arith, l))) (λ q. inr (ap suc q)) (less_or_same i j (omega (arith, lt)))

pub get_upto : (es : List (ObjectId × Rights)) (i j : ℕ) (d e : ObjectId × Rights) → IsAscending es → i < suc j → slice_get es i ≡ Some d
    → slice_get es j ≡ Some e → d.0.0 ≤ e.0.0
get_upto es i j d e asc lt g h = ⊎_elim (λ l. let a = get_ascend es i j d e asc l g h in omega (arith, a))
    (λ q. let same = ap (λ y. y.0.0) (same_Some d e (sym g ∙ ap (slice_get es) q ∙ h)) in omega (arith, same)) (less_or_same i j lt)

-- a half below, and a half from the object on
pub below_half : (from : ℕ) (es : List (ObjectId × Rights)) (m : ℕ) (e : ObjectId × Rights) → IsAscending es → slice_get es m ≡ Some e → e.0.0 < from
    → AreBelow from (m + 1) es
below_half from es m e asc h lt k d less g = let a = get_upto es k m d e asc (omega (arith, less)) g h in omega (arith, a, lt)

pub above_half : (from : ℕ) (es : List (ObjectId × Rights)) (m : ℕ) (e : ObjectId × Rights) → IsAscending es → slice_get es m ≡ Some e → from ≤ e.0.0
    → AreFrom from m es
above_half from es m e asc h le k d less g = let a = get_upto es m k e d asc (omega (arith, less)) h g in omega (arith, a, le)

-- an object of no entry has no rights
pub no_entry : (es : List (ObjectId × Rights)) (o : ObjectId) → ((k : ℕ) (e : ObjectId × Rights) → slice_get es k ≡ Some e → e.0.0 ≡ o.0 → ⊥)
    → rights_in es o ≡ no_rights
no_entry [] o h = refl
no_entry (e ∷ es) o h = rw (ne_eqb e.0.0 o.0 (h 0 e refl)) (no_entry es o (λ k d g. h (suc k) d g))

has_some : (es : List (ObjectId × Rights)) (k : ℕ) (e : ObjectId × Rights) → IsAscending es → slice_get es k ≡ Some e → has_rights e.1 ≡ true
has_some [] k e asc h = absurd (none-some e h)
has_some (x ∷ es) zero e asc h = subst (λ y. has_rights y.1 ≡ true) (same_Some x e h) asc.0
has_some (x ∷ es) (suc k) e asc h = has_some es k e asc.2 h

rights_get : (es : List (ObjectId × Rights)) (k : ℕ) (e : ObjectId × Rights) → IsAscending es → slice_get es k ≡ Some e → rights_in es e.0 ≡ e.1
rights_get [] k e asc h = absurd (none-some e h)
rights_get (x ∷ es) zero e asc h =
    let s = same_Some x e h in
    rw (eq-eqb x.0.0 e.0.0 (ap (λ y. y.0.0) s)) (ap (λ y. y.1) s)
rights_get (x ∷ es) (suc k) e asc h =
    let far = above_get x.0.0 es k e asc.1 h in
    rw (ne_eqb x.0.0 e.0.0 (λ q. omega (arith, far, q))) (rights_get es k e asc.2 h)

pub copied_get : (es : List (ObjectId × Rights)) (ds : List Rights) (k : ℕ) (e : ObjectId × Rights) (d : Rights) → IsAscending es → slice_get es k ≡ Some e
    → slice_get ds k ≡ Some d → copied_in es ds e.0 ≡ d
copied_get [] ds k e d asc h g = absurd (none-some e h)
copied_get (x ∷ es) [] k e d asc h g = absurd (none-some d g)
copied_get (x ∷ es) (y ∷ ds) zero e d asc h g =
    let s = same_Some x e h in
    rw (eq-eqb x.0.0 e.0.0 (ap (λ y. y.0.0) s)) (same_Some y d g)
copied_get (x ∷ es) (y ∷ ds) (suc k) e d asc h g =
    let far = above_get x.0.0 es k e asc.1 h in
    rw (ne_eqb x.0.0 e.0.0 (λ q. omega (arith, far, q))) (copied_get es ds k e d asc.2 h g)

-- where the entries of an object have the same rights in the copy, so has the object
copied_same : (es : List (ObjectId × Rights)) (ds : List Rights) (o : ObjectId) → length ds ≡ length es
    → ((k : ℕ) (e : ObjectId × Rights) (d : Rights) → slice_get es k ≡ Some e → slice_get ds k ≡ Some d → e.0.0 ≡ o.0 → e.1 ≡ d)
    → copied_in es ds o ≡ rights_in es o
copied_same [] ds o long h = refl
copied_same (e ∷ es) [] o long h = absurd (omega (arith, long))
copied_same (e ∷ es) (d ∷ ds) o long h =
    let more = copied_same es ds o (omega (arith, long)) (λ k x y g i. h (suc k) x y g i) in
    ⊎_elim (λ q. rw (eq-eqb e.0.0 o.0 q) (sym (h 0 e d refl refl q))) (λ ne. rw (ne_eqb e.0.0 o.0 ne) more) (cases_eq e.0.0 o.0)

-- the entry at the place is the first
pub first_entry : (es : List (ObjectId × Rights)) (from n place : ℕ) (e : ObjectId × Rights) → IsAscending es → IsPlaceFrom from place es
    → slice_get es place ≡ Some e → e.0.0 < n → IsNextEntry es from n e.0 e.1
first_entry es from n place e asc at h lt = record {
  reached = at.above place e (omega arith) h;
  within = lt;
  rights = rights_get es place e asc h;
  some = has_some es place e asc h;
  free = λ o le less. no_entry es o (λ k d g q. apart o k d le less g q (lt_or_le k place));
}
  where
    lt_or_le : (i m : ℕ) → (i < m) ⊎ (m ≤ i)
    lt_or_le i zero = inr (omega arith)
    lt_or_le zero (suc m) = inl (omega arith)
    lt_or_le (suc i) (suc m) = ⊎_elim (λ lt. inl (omega (arith, lt))) (λ le. inr (omega (arith, le))) (lt_or_le i m)

    apart : (o : ObjectId) (k : ℕ) (d : ObjectId × Rights) → from ≤ o.0 → o.0 < e.0.0 → slice_get es k ≡ Some d → d.0.0 ≡ o.0 → (k < place) ⊎ (place ≤ k) → ⊥
    apart o k d le less g q (inl l) = let a = at.below k d l g in absurd (omega (arith, a, le, q))
    apart o k d le less g q (inr l) = let a = get_upto es place k e d asc (omega (arith, l)) h g in absurd (omega (arith, a, less, q))

-- no object has an entry below that of the place
pub free_below : (es : List (ObjectId × Rights)) (from n place : ℕ) (e : ObjectId × Rights) → IsAscending es → IsPlaceFrom from place es
    → slice_get es place ≡ Some e → n ≤ e.0.0 → IsFreeBetween es from n
free_below es from n place e asc at h le o reached less =
    (first_entry es from (suc e.0.0) place e asc at h (omega arith)).free o reached (omega (arith, le, less))

-- past the last entry no object has one
pub free_past : (es : List (ObjectId × Rights)) (from n place : ℕ) → IsPlaceFrom from place es → length es ≤ place → IsFreeBetween es from n
free_past es from n place at le o reached less =
    no_entry es o (λ k d g q.
    let l = get_within es k d g in
    let a = at.below k d (omega (arith, l, le)) g in
    absurd (omega (arith, a, reached, q)))

-- the first change
between : (s : Sparse) (from to first place : ℕ) → length s.draft ≡ length s.entries → IsPlaceFrom from first s.entries → AreSame first place s
    → ((k : ℕ) (e : ObjectId × Rights) → slice_get s.entries k ≡ Some e → e.0.0 < to → k < place) → IsSameBetween s from to
between s from to first place long at same upto o reached less =
    copied_same s.entries s.draft o long (λ k e d g h q. go k e d g h q (lt_or_le k first))
  where
    lt_or_le : (i m : ℕ) → (i < m) ⊎ (m ≤ i)
    lt_or_le i zero = inr (omega arith)
    lt_or_le zero (suc m) = inl (omega arith)
    lt_or_le (suc i) (suc m) = ⊎_elim (λ lt. inl (omega (arith, lt))) (λ le. inr (omega (arith, le))) (lt_or_le i m)

    go : (k : ℕ) (e : ObjectId × Rights) (d : Rights) → slice_get s.entries k ≡ Some e → slice_get s.draft k ≡ Some d → e.0.0 ≡ o.0
        → (k < first) ⊎ (first ≤ k) → e.1 ≡ d
    go k e d g h q (inl l) = let a = at.below k e l g in absurd (omega (arith, a, reached, q))
    go k e d g h q (inr l) = same k e d l (upto k e g (omega (arith, less, q))) g h

below_place : (es : List (ObjectId × Rights)) (place : ℕ) (e : ObjectId × Rights) → IsAscending es → slice_get es place ≡ Some e → (k : ℕ)
    (d : ObjectId × Rights) → slice_get es k ≡ Some d → d.0.0 < e.0.0 → k < place
below_place es place e asc h k d g lt = go (lt_or_le k place)
  where
    lt_or_le : (i m : ℕ) → (i < m) ⊎ (m ≤ i)
    lt_or_le i zero = inr (omega arith)
    lt_or_le zero (suc m) = inl (omega arith)
    lt_or_le (suc i) (suc m) = ⊎_elim (λ lt. inl (omega (arith, lt))) (λ le. inr (omega (arith, le))) (lt_or_le i m)

    go : (k < place) ⊎ (place ≤ k) → k < place
    go (inl l) = l
    go (inr l) = let a = get_upto es place k e d asc (omega (arith, l)) h g in absurd (omega (arith, a, lt))

pub first_change : (s : Sparse) (from n first place : ℕ) (e : ObjectId × Rights) (d : Rights) → length s.draft ≡ length s.entries → IsAscending s.entries
    → IsPlaceFrom from first s.entries → AreSame first place s → first ≤ place → slice_get s.entries place ≡ Some e → slice_get s.draft place ≡ Some d
    → same_rights e.1 d ≡ false → e.0.0 < n → IsNextChange s from n e.0 d
first_change s from n first place e d long asc at same le h g differs lt = record {
  reached = at.above place e le h;
  within = lt;
  copy = copied_get s.entries s.draft place e d asc h g;
  differs = ap (λ r. same_rights r d) (rights_get s.entries place e asc h) ∙ differs;
  same = between s from e.0.0 first place long at same (below_place s.entries place e asc h);
}

pub same_below : (s : Sparse) (from n first place : ℕ) (e : ObjectId × Rights) → length s.draft ≡ length s.entries → IsAscending s.entries
    → IsPlaceFrom from first s.entries → AreSame first place s → slice_get s.entries place ≡ Some e → n ≤ e.0.0 → IsSameBetween s from n
same_below s from n first place e long asc at same h le =
    between s from n first place long at same (λ k d g lt. below_place s.entries place e asc h k d g (omega (arith, lt, le)))

pub same_past : (s : Sparse) (from n first place : ℕ) → length s.draft ≡ length s.entries → IsPlaceFrom from first s.entries → AreSame first place s
    → length s.entries ≤ place → IsSameBetween s from n
same_past s from n first place long at same le =
    between s from n first place long at same (λ k d g lt. let l = get_within s.entries k d g in omega (arith, l, le))

right_is : (a b : Right) → same_right a b ≡ true → a ≡ b
right_is Absent Absent h = refl
right_is Absent Deferred h = absurd (true≢false (sym h))
right_is Absent Immediate h = absurd (true≢false (sym h))
right_is Deferred Absent h = absurd (true≢false (sym h))
right_is Deferred Deferred h = refl
right_is Deferred Immediate h = absurd (true≢false (sym h))
right_is Immediate Absent h = absurd (true≢false (sym h))
right_is Immediate Deferred h = absurd (true≢false (sym h))
right_is Immediate Immediate h = refl

both : (a b : Bool) → (a && b) ≡ true → (a ≡ true) × (b ≡ true)
both true true h = (refl, refl)
both true false h = absurd (true≢false (sym h))
both false b h = absurd (true≢false (sym h))

rights_are : (a b : Rights) → same_rights a b ≡ true → a ≡ b
rights_are a b h =
    let k = both (same_right a.reads b.reads && same_right a.writes b.writes) (same_right a.commutes b.commutes) h in
    let l = both (same_right a.reads b.reads) (same_right a.writes b.writes) k.0 in
    ap (λ x. record { reads = x; writes = a.writes; commutes = a.commutes }) (right_is a.reads b.reads l.0)
    ∙ ap (λ x. record { reads = b.reads; writes = x; commutes = a.commutes }) (right_is a.writes b.writes l.1)
    ∙ ap (λ x. record { reads = b.reads; writes = b.writes; commutes = x }) (right_is a.commutes b.commutes k.1)

right_itself : (a : Right) → same_right a a ≡ true
right_itself Absent = refl
right_itself Deferred = refl
right_itself Immediate = refl

pub rights_itself : (a : Rights) → same_rights a a ≡ true
rights_itself a = rw (right_itself a.reads, right_itself a.writes, right_itself a.commutes)

-- one place more with the same rights
pub same_next : (s : Sparse) (first place : ℕ) (e : ObjectId × Rights) (d : Rights) → AreSame first place s → slice_get s.entries place ≡ Some e
    → slice_get s.draft place ≡ Some d → same_rights e.1 d ≡ true → AreSame first (place + 1) s
same_next s first place e d same h g are k x y le lt i j = ⊎_elim (λ l. same k x y le l i j)
    (λ q. ap (λ z. z.1) (same_Some x e (sym i ∙ ap (slice_get s.entries) q ∙ h)) ∙ rights_are e.1 d are
    ∙ sym (same_Some y d (sym j ∙ ap (slice_get s.draft) q ∙ g)))
    (less_or_same k place (omega (arith, lt)))

-- what is told of the objects from one on is told of the first that has something to tell, and of those after it
module _ {A : Type 0} (f : ℕ → List A) where
  pub tells_none : (i n : ℕ) → ((j : ℕ) → i ≤ j → j < i + n → f j ≡ []) → flat_map f (numbers i n) ≡ []
  tells_none i zero h = refl
  tells_none i (suc n) h = ap (λ l. l ++ flat_map f (numbers (suc i) n)) (h i (omega arith) (omega arith))
      ∙ tells_none (suc i) n (λ j le lt. h j (omega (arith, le)) (omega (arith, lt)))

  pub tells_first : (i n o : ℕ) → i ≤ o → o < i + n → ((j : ℕ) → i ≤ j → j < o → f j ≡ [])
      → flat_map f (numbers i n) ≡ f o ++ flat_map f (numbers (o + 1) ((i + n) - (o + 1)))
  tells_first i zero o le lt h = absurd (omega (arith, le, lt))
  tells_first i (suc n) o le lt h =
      ⊎_elim (λ l. later l (tells_first (suc i) n o (omega (arith, l)) (omega (arith, lt)) (λ j a b. h j (omega (arith, a)) b))) here
      (less_or_same i o (omega (arith, le)))
    where
      later : i < o → flat_map f (numbers (suc i) n) ≡ f o ++ flat_map f (numbers (o + 1) ((suc i + n) - (o + 1)))
          → flat_map f (numbers i (suc n)) ≡ f o ++ flat_map f (numbers (o + 1) ((i + suc n) - (o + 1)))
      later l more =
          let z : (suc i + n) - (o + 1) ≡ (i + suc n) - (o + 1) = omega arith in
          ap (λ l. l ++ flat_map f (numbers (suc i) n)) (h i (omega arith) l) ∙ more ∙ ap (λ m. f o ++ flat_map f (numbers (o + 1) m)) z

      here : i ≡ o → flat_map f (numbers i (suc n)) ≡ f o ++ flat_map f (numbers (o + 1) ((i + suc n) - (o + 1)))
      here q =
          let a : suc i ≡ o + 1 = omega (arith, q) in
          let b : n ≡ (i + suc n) - (o + 1) = omega (arith, q) in
          ap (λ k. f k ++ flat_map f (numbers (suc i) n)) q ∙ ap (λ k. f o ++ flat_map f (numbers k n)) a
          ∙ ap (λ m. f o ++ flat_map f (numbers (o + 1) m)) b
