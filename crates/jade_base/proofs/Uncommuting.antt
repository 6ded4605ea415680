-- Where no right to commute is, none comes of declarations without one and of drafts.
use Rattle.std.proofs.Common.{◌≡◌, ℕ, zero, suc, Bool, true, false, List, [], ◌∷◌, map, refl}
use Rattle.std.specs.Prelude.{◌==◌, nat_lt, slice_set, ◌||◌, if◌then◌else◌}
use Rattle.std.proofs.lemmas.Bool.{true≢false}
use Rattle.jade_base.specs.declared.place.ObjectId.{ObjectId}
use Rattle.jade_base.specs.declared.rights.Right.{Right}
use Rattle.jade_base.specs.declared.rights.Right.TheVariants.{Absent, Deferred, Immediate}
use Rattle.jade_base.specs.declared.rights.Rights.{Rights}
use Rattle.jade_base.specs.Rights.{has_rights, is_there, join, joined}
use Rattle.jade_base.specs.Specification.{joined_in, kept, settled, with_first, NoneCommutes, IsUncommuting}

abbrev Plain : List (ObjectId × Rights) → Type 0
Plain es = NoneCommutes (map (λ e. e.1) es)

none_joined : (a b : Right) → is_there a ≡ false → is_there b ≡ false → is_there (joined a b) ≡ false
none_joined Absent b h g = g
none_joined Deferred b h g = absurd (true≢false h)
none_joined Immediate b h g = absurd (true≢false h)

plain_first : (o : ObjectId) (r : Rights) (es : List (ObjectId × Rights)) → is_there r.commutes ≡ false → Plain es → Plain (with_first o r es)
plain_first o r es h p = go (has_rights r)
  where
    go : (b : Bool) → Plain (if b then (o, r) ∷ es else es)
    go true = (h, p)
    go false = p

plain_joined : (es : List (ObjectId × Rights)) (o : ObjectId) (r : Rights) → is_there r.commutes ≡ false → Plain es → Plain (joined_in es o r)
plain_joined [] o r h p = plain_first o r [] h p
plain_joined (e ∷ es) o r h p = go (nat_lt e.0.0 o.0) (e.0.0 == o.0) (plain_joined es o r h p.1)
  where
    go : (b c : Bool) → Plain (joined_in es o r)
        → Plain (if b then e ∷ joined_in es o r else (if c then (e.0, join e.1 r) ∷ es else with_first o r (e ∷ es)))
    go true c q = (p.0, q)
    go false true q = (none_joined e.1.commutes r.commutes p.0 h, p.1)
    go false false q = plain_first o r (e ∷ es) h p

plain_kept : (es : List (ObjectId × Rights)) (ds : List Rights) → NoneCommutes ds → Plain (kept es ds)
plain_kept [] ds h = tt
plain_kept (e ∷ es) [] h = tt
plain_kept (e ∷ es) (d ∷ ds) h = go (has_rights d) (plain_kept es ds h.1)
  where
    go : (b : Bool) → Plain (kept es ds) → Plain (if b then (e.0, d) ∷ kept es ds else kept es ds)
    go true q = (h.0, q)
    go false q = q

none_set : (ds : List Rights) (i : ℕ) (r : Rights) → is_there r.commutes ≡ false → NoneCommutes ds → NoneCommutes (slice_set ds i r)
none_set [] i r h p = p
none_set (d ∷ ds) zero r h p = (h, p.1)
none_set (d ∷ ds) (suc i) r h p = (p.0, none_set ds i r h p.1)

pub settled_plain : (es : List (ObjectId × Rights)) → Plain es → IsUncommuting (settled es)
settled_plain es h = record { rights = h; drafts = h }

pub joined_plain : (es : List (ObjectId × Rights)) (o : ObjectId) (r : Rights) → is_there r.commutes ≡ false → Plain es
    → IsUncommuting (settled (joined_in es o r))
joined_plain es o r h p = settled_plain (joined_in es o r) (plain_joined es o r h p)

pub kept_plain : (es : List (ObjectId × Rights)) (ds : List Rights) → NoneCommutes ds → IsUncommuting (settled (kept es ds))
kept_plain es ds h = settled_plain (kept es ds) (plain_kept es ds h)

pub set_plain : (es : List (ObjectId × Rights)) (ds : List Rights) (i : ℕ) (r : Rights) → is_there r.commutes ≡ false
    → IsUncommuting (record { entries = es; draft = ds }) → IsUncommuting (record { entries = es; draft = slice_set ds i r })
set_plain es ds i r h p = record { rights = p.rights; drafts = none_set ds i r h p.drafts }

pub left_false : (a b : Bool) → (a || b) ≡ false → a ≡ false
left_false true b h = h
left_false false b h = refl

pub right_false : (a b : Bool) → (a || b) ≡ false → b ≡ false
right_false true b h = absurd (true≢false h)
right_false false b h = h
