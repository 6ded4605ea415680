-- A creation keeps a state sound.
use Rattle.std.proofs.Common.{◌≡◌, ℕ, suc, ◌≤◌, ◌<◌, Bool, true, false, not, ◌||◌, ◌&&◌, List, [], ◌∷◌, ◌++◌, length, refl, sym, ap, ◌∙◌, Option, Some, None, arith, append_assoc, inl}
use Rattle.std.specs.Prelude.{nat_lt, if◌then◌else◌, is_some}
use Rattle.std.proofs.lemmas.Bool.{ltb-true, ltb-false}
use Rattle.jade_base.specs.declared.rights.Rights.{Rights}
use Rattle.jade_meaning.specs.Specification.{Specification, rights_on, numbers, yields}
use Rattle.jade_base.specs.Rights.{is_there, has_rights}
use Rattle.jade_base.specs.declared.rights.Mode.{Mode}
use Rattle.jade_base.specs.declared.rights.Mode.TheVariants.{Reading, Writing, Commuting}
use Rattle.jade_meaning.specs.Course.{Course, Creates}
use Rattle.jade_meaning.specs.Talk.{Holds, start_holds}
use Rattle.jade_meaning.specs.Serial.{Mark, Path, Store, DidCreate}
use Rattle.jade_meaning.specs.Turns.{at_path}
use Rattle.schedule_core.specs.Core.{Cells, Live, Bare, changes, touches, writes_there, quiet, is_out, version_or}
use Rattle.jade_meaning.specs.Laws.{Every}
use Rattle.schedule_core.specs.Sound.{From, Within, Before, Apart, Fresh, only_commutes}
use Rattle.schedule_core.specs.Going.{Going}
use Rattle.schedule_core.proofs.Idle.{false_true}
use Rattle.schedule_core.proofs.Pairs.{every_m}
use Rattle.schedule_core.proofs.Frame.{plain_same}
use Rattle.schedule_core.proofs.Pend.{every_all}
use Rattle.schedule_core.proofs.Pend2.{only_less, or_cases}
use Rattle.schedule_core.proofs.Alone.{rights_past}
use Rattle.schedule_core.proofs.Opened.{fit_on}
use Rattle.schedule_core.proofs.Deeds.{every_in, Here, here_of, Leaves_sound, deed_goes, own_deeds}
use Rattle.schedule_core.proofs.Deeds2.{opened_length}
use Rattle.schedule_core.proofs.Enroll.{creates_now, kid, next, Parts, create_middle, p, ready, cover, or_l, none_has, child_calm, seen_calm, was_some, fit_kid}

cancel : (q a b : Path) → q ++ a ≡ q ++ b → a ≡ b
cancel [] a b e = e
cancel (x ∷ q) a b e = cancel q a b (cc)

in_child : (P : Path) (K : ℕ) (z : Path) → Within (P ++ K ∷ []) 0 z → Within P K z
in_child P K z w = record { rest = K ∷ w.rest; is = w.is ∙ append_assoc P (K ∷ []) w.rest; from = omega arith }

in_rest : (P : Path) (K : ℕ) (z : Path) → Within P (suc K) z → Within P K z
in_rest P K z w = record { rest = w.rest; is = w.is; from = go w.rest w.from }
  where
    go : (r : Path) → From (suc K) r → From K r
    go [] f = tt
    go (j ∷ r) f = omega arith

two_apart : (P : Path) (K : ℕ) (z : Path) → Within (P ++ K ∷ []) 0 z → Within P (suc K) z → ⊥
two_apart P K z a b = go b.rest b.from (cancel P (K ∷ a.rest) b.rest (sym (append_assoc P (K ∷ []) a.rest) ∙ sym a.is ∙ b.is))
  where
    go : (r : Path) → From (suc K) r → K ∷ a.rest ≡ r → ⊥
    go [] f e = absurd (cc)
    go (j ∷ r) f e = let i : K ≡ j = cc in absurd (omega arith)

module _ (t : ℕ → List Path) (size : ℕ) (serially : List Mark) (zero' : Store) (f : ℕ → Cells) (log : List Mark) (b l : List (Live Bare)) (P : Path) (K : ℕ) (R : ℕ → Rights) (H : ℕ → Option Mode) (V : ℕ → Option Cells) (S : Specification) (A : Holds) (N : ℕ) (child : Specification) (body on : Course) where
  abbrev C : Live Bare
  C = creates_now t size f b l P K R H V S A N child body on

  abbrev D : Live Bare
  D = kid t size f b l P K R H V S A N child body on

  abbrev E : Live Bare
  E = next t size f b l P K R H V S A N child body on

  module _ (h : Here size b C) where
    calm : (o : ℕ) → writes_there o C ≡ false → writes_there o D ≡ false
    calm = child_calm t size f b l P K R H V S A N child body on h

    seen : (o : ℕ) → is_some (V o) ≡ true → writes_there o D ≡ false
    seen = seen_calm t size f b l P K R H V S A N child body on h

    reads_less : (o : ℕ) → is_there (rights_on child o).reads ≡ true → is_there (R o).reads ≡ true
    reads_less o e = go (is_there (rights_on child o).reads) (is_there (R o).reads) (is_there (rights_on child o).writes) (is_there (R o).writes) (is_there (rights_on child o).commutes) (cover t size f b l P K R H V S A N child body on h o) e
      where
        go : (r r' w w' c : Bool) → (not r || r') && (not w || w') && (not c || (r' && w')) ≡ true → r ≡ true → r' ≡ true
        go true true w w' c h e = refl
        go true false true true c h e = absurd (cc)
        go true false true false c h e = absurd (cc)
        go true false false w' c h e = absurd (cc)
        go false r' w w' c h e = absurd (cc)

    quiet_kid : (o : ℕ) → quiet o C ≡ true → quiet o D ≡ true
    quiet_kid o q = go (writes_there o C) refl (is_there (rights_on child o).reads) refl q
      where
        go : (x : Bool) → writes_there o C ≡ x → (r : Bool) → is_there (rights_on child o).reads ≡ r → not x && (not (is_there (R o).reads) || is_some (V o)) ≡ true → quiet o D ≡ true
        go true e r i k = absurd (cc)
        go false e false i k =
            ap (λ z. not z && (not (is_there (rights_on child o).reads) || is_some (if touches (rights_on child o) then (if changes (R o) then None else V o) else None))) (calm o e) ∙ ap (λ z. not z || is_some (if touches (rights_on child o) then (if changes (R o) then None else V o) else None)) i
        go false e true i k =
            let v : is_some (V o) ≡ true = sym (ap (λ z. not z || is_some (V o)) (reads_less o i)) ∙ k in
            let has : touches (rights_on child o) ≡ true = ap (λ z. z || changes (rights_on child o)) i in
            ap (λ z. not z && (not (is_there (rights_on child o).reads) || is_some (if touches (rights_on child o) then (if changes (R o) then None else V o) else None))) (calm o e) ∙ ap (λ z. not z || is_some (if touches (rights_on child o) then (if changes (R o) then None else V o) else None)) i ∙ ap (λ z. is_some (if z then (if changes (R o) then None else V o) else None)) has ∙ ap (λ z. is_some (if z then None else V o)) e ∙ v

    only_kid : (o : ℕ) → only_commutes o C ≡ true → only_commutes o D ≡ true
    only_kid o q = only_less _ _ _ _ (writes_less o) (reads_less o) q
      where
        writes_less : (o : ℕ) → is_there (rights_on child o).writes ≡ true → is_there (R o).writes ≡ true
        writes_less o e = go (is_there (rights_on child o).reads) (is_there (R o).reads) (is_there (rights_on child o).writes) (is_there (R o).writes) (is_there (rights_on child o).commutes) (cover t size f b l P K R H V S A N child body on h o) e
          where
            go : (r r' w w' c : Bool) → (not r || r') && (not w || w') && (not c || (r' && w')) ≡ true → w ≡ true → w' ≡ true
            go r r' true true c h e = refl
            go true true true false c h e = absurd (cc)
            go true false true false c h e = absurd (cc)
            go false r' true false c h e = absurd (cc)
            go r r' false w' c h e = absurd (cc)

    -- where the task holds the content for writing or commuting, the child has nothing to do
    still : (o : ℕ) → is_out (H o) ≡ true → quiet o D ≡ true
    still o e = go (H o) e (ready t size f b l P K R H V S A N child body on h o)
      where
        none : has_rights (rights_on child o) ≡ false → quiet o D ≡ true
        none k =
            let r : is_there (rights_on child o).reads ≡ false = or_l t size f b l P K R H V S A N child body on h _ _ (or_l t size f b l P K R H V S A N child body on h _ _ k) in
            ap (λ z. not z && (not (is_there (rights_on child o).reads) || is_some (if touches (rights_on child o) then (if changes (R o) then None else V o) else None))) (none_has t size f b l P K R H V S A N child body on h (rights_on child o) k) ∙ ap (λ z. not z || is_some (if touches (rights_on child o) then (if changes (R o) then None else V o) else None)) r

        go : (m : Option Mode) → is_out m ≡ true → yields m (rights_on child o) ≡ false → quiet o D ≡ true
        go None e k = absurd (cc)
        go (Some Reading) e k = absurd (cc)
        go (Some Writing) e k = none k
        go (Some Commuting) e k = none k

    or_first : (x y : Bool) → x ≡ true → x || y ≡ true
    or_first x y i = ap (λ z. z || y) i

    parts : Parts t size f b l P K R H V S A N child body on
    parts = p t size f b l P K R H V S A N child body on h

    create_sound : ((x : ℕ) → Every (Fresh x (f x)) (b ++ (C ∷ l))) → Leaves_sound size b l f C (D ∷ (E ∷ []))
    create_sound fresh = record {
      small = (record { spec = let i = opened_length parts.inner (start_holds child) 0 in let j : length child ≡ length S = parts.sized in let k : length S ≤ size = h.small.spec in omega arith; rights = λ o e. rights o e }, (record { spec = let i = opened_length parts.rest A 0 in let k : length S ≤ size = h.small.spec in omega arith; rights = h.small.rights }, tt));
      fits = (fit_kid t size f b l P K R H V S A N child body on h, (fit_on P K R H V S A N (Creates child body on) h.fit on 0 (suc K) parts.rest h.fit.orderly.0.even.2, tt));
      apart_b = every_all (λ s. Apart s C → Every (Apart s) (D ∷ (E ∷ []))) (λ s k. (λ z x y. k z x (in_child P K z y), (λ z x y. k z x (in_rest P K z y), tt))) b;
      apart_l = every_all (λ u. Apart C u → Every (λ d. Apart d u) (D ∷ (E ∷ []))) (λ u k. (λ z x y. k z (in_child P K z x) y, (λ z x y. k z (in_rest P K z x) y, tt))) l;
      apart = ((λ z x y. two_apart P K z x y, tt), (tt, tt));
      before_b = λ x. every_all (λ s. Before x s C → Every (Before x s) (D ∷ (E ∷ []))) (λ s k. (
        record {
          writing = λ e. absurd (cc);
          reading = λ e. k.reading (was_some t size f b l P K R H V S A N child body on h x e);
          commuting = λ e. absurd (cc);
          one = λ e i. absurd (cc);
        },
        (record { writing = k.writing; reading = k.reading; commuting = k.commuting; one = k.one }, tt),
      )) b;
      before_l = λ x. every_all (λ u. Before x C u → Every (λ d. Before x d u) (D ∷ (E ∷ []))) (λ u k. (
        record {
          writing = λ e. quiet_kid x (k.writing e);
          reading = λ e. calm x (k.reading e);
          commuting = λ e. or_cases _ _ _ _ (quiet_kid x) (only_kid x) (k.commuting e);
          one = λ e i. absurd (cc);
        },
        (record { writing = k.writing; reading = k.reading; commuting = k.commuting; one = k.one }, tt),
      )) l;
      before = λ x. (
        (
          record {
            writing = λ e. still x (ap is_out e);
            reading = λ e. seen x e;
            commuting = λ e. or_first _ _ (still x (ap is_out e));
            one = λ e i. absurd (cc);
          },
          tt,
        ),
        (tt, tt),
      );
      fresh = λ x. every_in (Fresh x (f x)) b C (D ∷ (E ∷ [])) l (fresh x) (fresh_kid x, (every_m (Fresh x (f x)) b l C (fresh x), tt));
    }
      where
        rights : (o : ℕ) → has_rights (rights_on child o) ≡ true → o < size
        rights o e = go (nat_lt o (length child)) refl
          where
            go : (x : Bool) → nat_lt o (length child) ≡ x → o < size
            go true i =
                let lt : o < length child = ltb-true o (length child) i in let j : length child ≡ length S = parts.sized in let k : length S ≤ size = h.small.spec in omega arith
            go false i =
                false_true (has_rights (rights_on child o)) (ap has_rights (rights_past child o (ltb-false o (length child) i))) e

        fresh_kid : (x : ℕ) → Fresh x (f x) D
        fresh_kid x wr = go (V x) refl
          where
            by : (c d : Bool) (v : Option Cells) → v ≡ None → version_or (if c then (if d then None else v) else None) (f x) ≡ f x
            by true true v e = refl
            by true false v e = ap (λ z. version_or z (f x)) e
            by false d v e = refl

            go : (v : Option Cells) → V x ≡ v → version_or (if touches (rights_on child x) then (if changes (R x) then None else V x) else None) (f x) ≡ f x
            go None e = by (touches (rights_on child x)) (changes (R x)) (V x) e
            go (Some xs) e = false_true (writes_there x D) (seen x (ap is_some e)) wr

  pub create_goes : Going t size serially zero' (record { roll = b ++ (C ∷ l); contents = f; log = log }) → Going t size serially zero' (record { roll = b ++ ((D ∷ (E ∷ [])) ++ l); contents = f; log = log ++ at_path P K (DidCreate (record { spec = child; course = body }) N) ∷ [] })
  create_goes g =
      let h = here_of t size serially zero' f log b l C g in
      let m = at_path P K (DidCreate (record { spec = child; course = body }) N) in
      deed_goes t size serially zero' f f log (m ∷ []) b l C (D ∷ (E ∷ [])) g (create_sound h g.fresh) (plain_same t size f f (m ∷ []) b l (D ∷ (E ∷ [])) C refl (create_middle t size f b l P K R H V S A N child body on h (λ x. every_m (Fresh x (f x)) b l C (g.fresh x))) (own_deeds t size f b C h K (DidCreate (record { spec = child; course = body }) N)) (λ x. inl refl) log (numbers 0 size)) (λ x. refl)
