-- What becomes of the entries of a specification when its draft is kept or dropped.
use Rattle.std.proofs.Common.{◌≡◌, ℕ, zero, suc, ◌<◌, ◌≤◌, true, false, cond, List, [], ◌∷◌, ◌++◌, length, get_or, set, take, drop, map}
use Rattle.std.proofs.Common.{refl, sym, ap, ◌∙◌, arith}
use Rattle.std.proofs.lemmas.List.{append-nil, take_all, drop_all, map-set}
use Rattle.std.specs.List.{filter}
use Rattle.jade_base.specs.declared.place.ObjectId.{ObjectId}
use Rattle.jade_base.specs.declared.rights.Rights.{Rights}
use Rattle.jade_base.specs.declared.spec.Entry.{Entry}
use Rattle.jade_base.specs.Rights.{has_rights}
use Rattle.jade_base.specs.Specification.{AllAbove, IsAscending, IsSettled, kept, settled, shown, shown_all, specification}

-- an entry whose draft says what it says
abbrev pub with_same_draft : Entry → Entry
with_same_draft e = record e { draft = e.rights }

-- an entry that says what its draft says
abbrev pub with_draft_kept : Entry → Entry
with_draft_kept e = record e { rights = e.draft }

shown-same : (xs : List Entry) → shown_all (map with_same_draft xs) ≡ shown_all xs
shown-same [] = refl
shown-same (x ∷ xs) = ap (λ t. shown x ∷ t) (shown-same xs)

drafts-same : (xs : List Entry) → map (λ e. e.draft) (map with_same_draft xs) ≡ map (λ e. e.1) (shown_all xs)
drafts-same [] = refl
drafts-same (x ∷ xs) = ap (λ t. x.rights ∷ t) (drafts-same xs)

-- entries with their drafts dropped
pub settled-same : (xs : List Entry) → specification (map with_same_draft xs) ≡ settled (shown_all xs)
settled-same xs = rw (shown-same xs, drafts-same xs)

AllAbove-kept : (n : ℕ) (es : List (ObjectId × Rights)) (ds : List Rights) → AllAbove n es → AllAbove n (kept es ds)
AllAbove-kept n [] ds a = tt
AllAbove-kept n (e ∷ es) [] a = tt
AllAbove-kept n (e ∷ es) (d ∷ ds) a =
    elim (has_rights d) as (λ b. AllAbove n (cond b ((e.0, d) ∷ kept es ds) (kept es ds))) [
      | true ↦ (a.0, AllAbove-kept n es ds a.1)
      | false ↦
          AllAbove-kept n es ds a.1
    ]

-- a draft that is kept has its entries in order
pub IsAscending-kept : (es : List (ObjectId × Rights)) (ds : List Rights) → IsAscending es → IsAscending (kept es ds)
IsAscending-kept [] ds h = tt
IsAscending-kept (e ∷ es) [] h = tt
IsAscending-kept (e ∷ es) (d ∷ ds) h =
    elim (has_rights d) as (λ b. has_rights d ≡ b → IsAscending (cond b ((e.0, d) ∷ kept es ds) (kept es ds))) [
      | true ↦ λ p. (p, AllAbove-kept e.0.0 es ds h.1, IsAscending-kept es ds h.2)
      | false ↦ λ p. IsAscending-kept es ds h.2
    ] refl

pub shown-kept : (xs : List Entry) → shown_all (filter (λ e. has_rights e.rights) (map with_draft_kept xs)) ≡ kept (shown_all xs) (map (λ e. e.draft) xs)
shown-kept [] = refl
shown-kept (x ∷ xs) =
    elim (has_rights x.draft) as (λ b. shown_all (cond b (with_draft_kept x ∷ filter (λ e. has_rights e.rights) (map with_draft_kept xs))
    (filter (λ e. has_rights e.rights) (map with_draft_kept xs))) ≡ cond b ((x.object, x.draft) ∷ kept (shown_all xs) (map (λ e. e.draft) xs))
    (kept (shown_all xs) (map (λ e. e.draft) xs))) [
      | true ↦ ap (λ t. (x.object, x.draft) ∷ t) (shown-kept xs)
      | false ↦ shown-kept xs
    ]

drafts-kept : (xs : List Entry) → map (λ e. e.draft) (filter (λ e. has_rights e.rights) (map with_draft_kept xs)) ≡ map (λ e. e.1)
    (kept (shown_all xs) (map (λ e. e.draft) xs))
drafts-kept [] = refl
drafts-kept (x ∷ xs) =
    elim (has_rights x.draft) as (λ b. map (λ e. e.draft) (cond b (with_draft_kept x ∷ filter (λ e. has_rights e.rights) (map with_draft_kept xs))
    (filter (λ e. has_rights e.rights) (map with_draft_kept xs))) ≡ map (λ e. e.1)
    (cond b ((x.object, x.draft) ∷ kept (shown_all xs) (map (λ e. e.draft) xs)) (kept (shown_all xs) (map (λ e. e.draft) xs)))) [
      | true ↦ ap (λ t. x.draft ∷ t) (drafts-kept xs)
      | false ↦ drafts-kept xs
    ]

-- entries with their drafts kept
pub settled-kept : (xs : List Entry) → specification (filter (λ e. has_rights e.rights) (map with_draft_kept xs)) ≡ settled
    (kept (shown_all xs) (map (λ e. e.draft) xs))
settled-kept xs = rw (shown-kept xs, drafts-kept xs)

shown-set : (xs : List Entry) (i : ℕ) (x : Entry) (r : Rights) → i < length xs → x ≡ get_or xs i x → shown_all (set xs i (record x { draft = r }))
    ≡ shown_all xs
shown-set [] i x r h q = absurd (omega arith)
shown-set (e ∷ es) zero x r h q = ap (λ t. shown t ∷ shown_all es) q
shown-set (e ∷ es) (suc i) x r h q = ap (λ t. shown e ∷ t) (shown-set es i x r (omega arith) q)

-- a write into the draft changes one item of it, and no entry
pub draft-set : (xs : List Entry) (i : ℕ) (x : Entry) (r : Rights) → i < length xs → x ≡ get_or xs i x → specification (set xs i (record x { draft = r }))
    ≡ record (specification xs) { draft = set (map (λ e. e.draft) xs) i r }
draft-set xs i x r h q = rw (shown-set xs i x r h q, map-set (λ e. e.draft) xs i (record x { draft = r }))

-- a loop that changes each item, at its end
pub changed-all : (f : Entry → Entry) (xs ys : List Entry) (i : ℕ) → ys ≡ map f (take i xs) ++ drop i xs → length xs ≤ i → ys ≡ map f xs
changed-all f xs ys i q h = q ∙ rw (take_all i xs h, drop_all i xs h) (append-nil (map f xs))

rights-shown : (xs : List Entry) → map (λ e. e.1) (shown_all xs) ≡ map (λ e. e.rights) xs
rights-shown [] = refl
rights-shown (x ∷ xs) = ap (λ t. x.rights ∷ t) (rights-shown xs)

-- entries whose drafts are their rights, seen as a specification
pub settled-is : (xs : List Entry) → IsSettled xs → specification xs ≡ settled (shown_all xs)
settled-is xs h = rw (rights-shown xs, h) refl

-- and such entries as one
pub is-settled : (xs : List Entry) (es : List (ObjectId × Rights)) → specification xs ≡ settled es → IsSettled xs
is-settled xs es h =
    let entries = ap (λ s. s.entries) h in
    ap (λ s. s.draft) h ∙ (ap (λ t. map (λ e. e.1) t) (sym entries) ∙ rights-shown xs)

-- a draft that says the same is kept with no change
kept_all : (es : List (ObjectId × Rights)) → IsAscending es → kept es (map (λ e. e.1) es) ≡ es
kept_all [] h = refl
kept_all (e ∷ es) h = rw h.0 (ap (λ t. e ∷ t) (kept_all es h.2))

pub kept-settled : (xs : List Entry) → IsAscending (shown_all xs) → IsSettled xs
    → specification xs ≡ settled (kept (shown_all xs) (map (λ e. e.draft) xs))
kept-settled xs up h =
    let same = ap (λ ds. kept (shown_all xs) ds) (h ∙ sym (rights-shown xs)) in
    settled-is xs h ∙ ap settled (sym (same ∙ kept_all (shown_all xs) up))
