-- Lists with one in the middle.
use Rattle.std.proofs.Common.{◌≡◌, ◌≢◌, ℕ, Bool, true, false, ◌&&◌, ◌||◌, not, List, [], ◌∷◌, ◌++◌, refl, sym, ap, ◌∙◌, ◌⊎◌, inl, inr}
use Rattle.std.specs.Prelude.{nat_eq, is_some, if◌then◌else◌}
use Rattle.std.proofs.Math.Path.{fun_ext}
use Rattle.std.proofs.lemmas.Bool.Decides.{eqb_tells}
use Rattle.jade_base.specs.declared.rights.Mode.{Mode}
use Rattle.schedule_core.specs.Core.{Live, Bare, put, allows, all_allow, at_home, is_out, quiet}
use Rattle.schedule_core.specs.Sound.{only_commutes}
use Rattle.jade_base.specs.Rights.{is_there}
use Rattle.jade_base.specs.declared.rights.Mode.TheVariants.{Commuting}
use Rattle.jade_meaning.specs.Laws.{Every}
use Rattle.schedule_core.specs.Sound.{Pairs}

module _ {A : Type 0} where
  pub every_l : (P : A → Type 0) (b l : List A) (c : A) → Every P (b ++ (c ∷ l)) → Every P b
  every_l P [] l c h = tt
  every_l P (x ∷ b) l c h = (h.0, every_l P b l c h.1)

  pub every_m : (P : A → Type 0) (b l : List A) (c : A) → Every P (b ++ (c ∷ l)) → P c
  every_m P [] l c h = h.0
  every_m P (x ∷ b) l c h = every_m P b l c h.1

  pub every_r : (P : A → Type 0) (b l : List A) (c : A) → Every P (b ++ (c ∷ l)) → Every P l
  every_r P [] l c h = h.1
  every_r P (x ∷ b) l c h = every_r P b l c h.1

  pub every_j : (P : A → Type 0) (b l : List A) (c : A) → Every P b → P c → Every P l → Every P (b ++ (c ∷ l))
  every_j P [] l c h i j = (i, j)
  every_j P (x ∷ b) l c h i j = (h.0, every_j P b l c h.1 i j)

  -- everybody in both lists
  pub every_change : (P : A → Type 0) (b l : List A) (c d : A) → Every P (b ++ (c ∷ l)) → (P c → P d) → Every P (b ++ (d ∷ l))
  every_change P b l c d h f = every_j P b l d (every_l P b l c h) (f (every_m P b l c h)) (every_r P b l c h)

pub pairs_change : (R : Live Bare → Live Bare → Type 0) (b l : List (Live Bare)) (c d : Live Bare) → Pairs R (b ++ (c ∷ l)) → Every (λ s. R s c → R s d) b → Every (λ u. R c u → R d u) l → Pairs R (b ++ (d ∷ l))
pairs_change R [] l c d h f g = (go l h.0 g, h.1)
  where
    go : (us : List (Live Bare)) → Every (R c) us → Every (λ u. R c u → R d u) us → Every (R d) us
    go [] h g = tt
    go (u ∷ us) h g = (g.0 h.0, go us h.1 g.1)
pairs_change R (s ∷ b) l c d h f g = (every_change (R s) b l c d h.0 f.0, pairs_change R b l c d h.1 f.1 g)

module _ (R : Live Bare → Live Bare → Type 0) where
  pub pairs_bb : (b l : List (Live Bare)) (c : Live Bare) → Pairs R (b ++ (c ∷ l)) → Pairs R b
  pairs_bb [] l c h = tt
  pairs_bb (s ∷ b) l c h = (every_l (R s) b l c h.0, pairs_bb b l c h.1)

  pub pairs_b : (b l : List (Live Bare)) (c : Live Bare) → Pairs R (b ++ (c ∷ l)) → Every (λ s. R s c) b
  pairs_b [] l c h = tt
  pairs_b (s ∷ b) l c h = (every_m (R s) b l c h.0, pairs_b b l c h.1)

  pub pairs_l : (b l : List (Live Bare)) (c : Live Bare) → Pairs R (b ++ (c ∷ l)) → Every (R c) l
  pairs_l [] l c h = h.0
  pairs_l (s ∷ b) l c h = pairs_l b l c h.1

  pub pairs_ll : (b l : List (Live Bare)) (c : Live Bare) → Pairs R (b ++ (c ∷ l)) → Pairs R l
  pairs_ll [] l c h = h.1
  pairs_ll (s ∷ b) l c h = pairs_ll b l c h.1

pub and_l : (a b : Bool) → a && b ≡ true → a ≡ true
and_l true b h = refl
and_l false b h = h

pub and_r : (a b : Bool) → a && b ≡ true → b ≡ true
and_r true b h = h
and_r false b h = absurd (cc)

pub every_allows : (o : ℕ) (m : Mode) (us : List (Live Bare)) → all_allow o m us ≡ true → Every (λ s. allows o m s ≡ true) us
every_allows o m [] h = tt
every_allows o m (u ∷ us) h = (and_l _ _ h, every_allows o m us (and_r _ _ h))

not_true : (a : Bool) → not a ≡ true → a ≡ false
not_true true h = absurd (cc)
not_true false h = refl

-- who does not keep another from a hold for commuting has no rights, or is seen, or only commutes
pub commuting_allows : (o : ℕ) (s : Live Bare) → allows o Commuting s ≡ true → quiet o s || only_commutes o s ≡ true
commuting_allows o s h = go (is_there (s.rights o).reads) (is_there (s.rights o).writes) (is_there (s.rights o).commutes) (is_some (s.versions o)) h
  where
    go : (r w c v : Bool) → not (r || w) || (v && not (w || c)) ≡ true → (not (w || c) && (not r || v)) || (not r && not w) ≡ true
    go false false false v h = refl
    go false false true v h = refl
    go true false false true h = refl
    go true false false false h = absurd (cc)
    go true false true true h = absurd (cc)
    go true false true false h = absurd (cc)
    go r true c true h = absurd (let z : not (r || true) || false ≡ true = h in no r z)
      where
        no : (r : Bool) → not (r || true) || false ≡ true → ⊥
        no true z = absurd (cc)
        no false z = absurd (cc)
    go r true c false h = absurd (no r h)
      where
        no : (r : Bool) → not (r || true) || false ≡ true → ⊥
        no true z = absurd (cc)
        no false z = absurd (cc)

pub every_home : (o : ℕ) (us vs : List (Live Bare)) → at_home o (us ++ vs) ≡ true → Every (λ s. is_out (s.held o) ≡ false) us × Every (λ s. is_out (s.held o) ≡ false) vs
every_home o [] [] h = (tt, tt)
every_home o [] (v ∷ vs) h = (tt, (not_true (is_out (v.held o)) (and_l _ _ h), (every_home o [] vs (and_r _ _ h)).1))
every_home o (u ∷ us) vs h =
    let r = every_home o us vs (and_r _ _ h) in ((not_true (is_out (u.held o)) (and_l _ _ h), r.0), r.1)

pub put_here : {A : Type 0} (f : ℕ → A) (o : ℕ) (x : A) (i : ℕ) → i ≡ o → put f o x i ≡ x
put_here f o x i e = go (eqb_tells i o)
  where
    go : ((nat_eq i o ≡ true) × (i ≡ o)) ⊎ ((nat_eq i o ≡ false) × (i ≢ o)) → put f o x i ≡ x
    go (inl k) = ap (λ b. if b then x else f i) k.0
    go (inr k) = absurd (k.1 e)

pub put_there : {A : Type 0} (f : ℕ → A) (o : ℕ) (x : A) (i : ℕ) → i ≢ o → put f o x i ≡ f i
put_there f o x i e = go (eqb_tells i o)
  where
    go : ((nat_eq i o ≡ true) × (i ≡ o)) ⊎ ((nat_eq i o ≡ false) × (i ≢ o)) → put f o x i ≡ f i
    go (inl k) = absurd (e k.1)
    go (inr k) = ap (λ b. if b then x else f i) k.0

pub put_self : {A : Type 0} (f : ℕ → A) (o : ℕ) (x : A) → f o ≡ x → put f o x ≡ f
put_self f o x e = fun_ext (λ i. go i (eqb_tells i o))
  where
    go : (i : ℕ) → ((nat_eq i o ≡ true) × (i ≡ o)) ⊎ ((nat_eq i o ≡ false) × (i ≢ o)) → put f o x i ≡ f i
    go i (inl k) = ap (λ b. if b then x else f i) k.0 ∙ sym e ∙ ap f (sym k.1)
    go i (inr k) = ap (λ b. if b then x else f i) k.0
