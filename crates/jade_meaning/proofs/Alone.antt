-- Where no commuting task is created, the meaning by turn lists is the serial run.
use Rattle.std.proofs.Common.{◌≡◌, ℕ, suc, List, [], ◌∷◌, ◌++◌, map, refl, sym, ap, ◌∙◌, None, append-nil, append_assoc}
use Rattle.std.specs.Prelude.{ℤ}
use Rattle.jade_meaning.specs.Specification.{Specification, commuting_on}
use Rattle.jade_meaning.specs.Course.{Course, Reads, Writes, Steps, Creates, Changes, Ends}
use Rattle.jade_meaning.specs.Serial.{Mark, Path, Store, Deed, DidRead, DidWrite, DidCreate, DidEnd, serial, own, under, after, done_to, cell, with_cell}
use Rattle.jade_meaning.specs.Turns.{World, Ran, run, settle_all, first, entered, below, at_path, made_touchable, touched_at_once}

abbrev pub Lone : Course → Type 0
Lone (Reads o c on) = (v : ℤ) → Lone (on v)
Lone (Writes o c v on) = Lone on
Lone (Steps on) = Lone on
Lone (Creates child body on) = (commuting_on child ≡ None) × (Lone body) × (Lone on)
Lone (Changes new on) = Lone on
Lone (Ends b) = Unit {0}

abbrev pub alone : Store → World
alone s = record { store = s; waiting = [] }

pub after_both : (a b : List Mark) (store : Store) → after (a ++ b) store ≡ after b (after a store)
after_both [] b store = refl
after_both (m ∷ a) b store = after_both a b (done_to m.deed store)

after_under : (k : ℕ) (ms : List Mark) (store : Store) → after (map (under k) ms) store ≡ after ms store
after_under k [] store = refl
after_under k (m ∷ ms) store = after_under k ms (done_to m.deed store)

below_under : (p : Path) (k : ℕ) (ms : List Mark) → map (below p) (map (under k) ms) ≡ map (below (p ++ k ∷ [])) ms
below_under p k [] = refl
below_under p k (m ∷ ms) =
    ap (λ (q : Path). record m { path = q } ∷ map (below p) (map (under k) ms)) (sym (append_assoc p (k ∷ []) m.path)) ∙ ap (λ ns. below (p ++ k ∷ []) m ∷ ns) (below_under p k ms)

map_both : (g : Mark → Mark) (xs ys : List Mark) → map g (xs ++ ys) ≡ map g xs ++ map g ys
map_both g [] ys = refl
map_both g (x ∷ xs) ys = ap (λ zs. g x ∷ zs) (map_both g xs ys)

own_at : (p : Path) (k : ℕ) (d : Deed) → at_path p k d ≡ below p (own k d)
own_at p k d = ap (λ (q : Path). at_path q k d) (sym (append-nil p))

-- what the serial run does is this run's
abbrev pub as_ran : Path → List Mark → Store → Ran
as_ran p ms store = record { marks = map (below p) ms; world = alone (after ms store) }

-- a creation, then the child's run, then the rest
pub child_is : (p : Path) (k n : ℕ) (child : Specification) (body on : Course) (s : Store) → first (at_path p k (DidCreate (record { spec = child; course = body }) n) ∷ map (below (p ++ k ∷ [])) (serial body 0 0 s)) (as_ran p (serial on (suc k) 0 (after (serial body 0 0 s) s)) (after (serial body 0 0 s) s)) ≡ as_ran p (serial (Creates child body on) k n s) s
child_is p k n child body on s =
    let d = DidCreate (record { spec = child; course = body }) n in
    let q = p ++ k ∷ [] in
    let ins = serial body 0 0 s in
    let rest = serial on (suc k) 0 (after ins s) in
    let marks : at_path p k d ∷ (map (below q) ins ++ map (below p) rest) ≡ map (below p) (own k d ∷ (map (under k) ins ++ rest)) = ap (λ m. m ∷ (map (below q) ins ++ map (below p) rest)) (own_at p k d) ∙ ap (λ ms. below p (own k d) ∷ ms) (ap (λ ms. ms ++ map (below p) rest) (sym (below_under p k ins)) ∙ sym (map_both (below p) (map (under k) ins) rest)) in
    let store : after rest (after ins s) ≡ after (map (under k) ins ++ rest) s = ap (after rest) (sym (after_under k ins s)) ∙ sym (after_both (map (under k) ins) rest s) in
    ap (λ ms. record { marks = ms; world = alone (after rest (after ins s)) }) marks ∙ ap (λ z. record { marks = map (below p) (own k d ∷ (map (under k) ins ++ rest)); world = alone z }) store

module _ (turns : ℕ → List Path) where
  pub none_settle : (os : List ℕ) (s : Store) → settle_all turns os (alone s) ≡ record { marks = []; world = alone s }
  none_settle [] s = refl
  none_settle (o ∷ os) s = ap (first []) (none_settle os s)

  pub same : (c : Course) → Lone c → (p : Path) (spec : Specification) (k n : ℕ) (s : Store) → run turns p spec c k n (alone s) ≡ as_ran p (serial c k n s) s
  same (Reads o c on) h p spec k n s =
      let d = DidRead o c (cell s o c) in
      ap (first (at_path p k d ∷ [])) (same (on (cell s o c)) (h _) p spec k n s) ∙ ap (λ m. first (m ∷ []) (as_ran p (serial (on (cell s o c)) k n s) s)) (own_at p k d)
  same (Writes o c v on) h p spec k n s =
      let d = DidWrite o c v in
      ap (first (at_path p k d ∷ [])) (same on h p spec k n (with_cell s o c v)) ∙ ap (λ m. first (m ∷ []) (as_ran p (serial on k n (with_cell s o c v)) (with_cell s o c v))) (own_at p k d)
  same (Steps on) h p spec k n s = same on h p spec k (suc n) s
  same (Changes new on) h p spec k n s =
      ap (λ (r : Ran). first r.marks (run turns p new on k n r.world)) (none_settle (made_touchable spec new) s) ∙ same on h p new k n s
  same (Ends b) h p spec k n s = ap (λ m. record { marks = m ∷ []; world = alone s }) (own_at p k (DidEnd b n))
  same (Creates child body on) h p spec k n s =
      let d = DidCreate (record { spec = child; course = body }) n in
      let q = p ++ k ∷ [] in
      let ins = serial body 0 0 s in
      let rest = serial on (suc k) 0 (after ins s) in
      let go = λ (r : Ran) (x : Ran). first (at_path p k d ∷ (r.marks ++ x.marks)) (run turns p spec on (suc k) 0 x.world) in
      let start : run turns p spec (Creates child body on) k n (alone s) ≡ go (record { marks = []; world = alone s }) (entered (commuting_on child) q child body (λ x. run turns q child body 0 0 x) (alone s)) = ap (λ (r : Ran). go r (entered (commuting_on child) q child body (λ x. run turns q child body 0 0 x) r.world)) (none_settle (touched_at_once child) s) in
      let plain : entered (commuting_on child) q child body (λ x. run turns q child body 0 0 x) (alone s) ≡ as_ran q ins s = ap (λ x. entered x q child body (λ x. run turns q child body 0 0 x) (alone s)) h.0 ∙ same body h.1 q child 0 0 s in
      start ∙ ap (go (record { marks = []; world = alone s })) plain ∙ ap (first (at_path p k d ∷ map (below q) ins)) (same on h.2 p spec (suc k) 0 (after ins s)) ∙ child_is p k n child body on s
