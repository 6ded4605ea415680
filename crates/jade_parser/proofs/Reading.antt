-- Reading one part after another.
use Rattle.std.proofs.Common.{◌≡◌, ℕ, suc, ◌+◌, ◌≤◌, List, [], ◌∷◌, ◌++◌, refl, ap, ◌∙◌, drop, length, arith}
use Rattle.std.proofs.Common.{length-append, length-drop, append_assoc, append-nil}
use Rattle.std.specs.List.{flat_map}
use Rattle.std.proofs.lemmas.List.{map-append, length-map}
use Rattle.std.proofs.lemmas.List.Folds.{list_all-append}
use Rattle.jade_base.specs.declared.place.Pos.{Pos}
use Rattle.std.proofs.lemmas.List.Concat.{flat_map-append}
use Rattle.jade_parser.specs.Spelled.{Part, Parts, tokens_of, is_valid, AllValid}
use Rattle.jade_parser.specs.steps.Machine.{Stack}
use Rattle.jade_parser.specs.declared.Seen.{Seen}
use Rattle.jade_parser.specs.declared.Stop.{Stop}
use Rattle.jade_parser.specs.declared.Stop.TheVariants.{Token as AtToken, Long, Memory}
use Rattle.jade_parser.specs.steps.Reads.{Reads, kinds, places, Passes, Whole, Refusal, OnToken}
use Rattle.jade_parser.specs.Spelled.{Agrees}

pub reads_none : (all : List Seen) (at : ℕ) → at ≤ length all → Reads all at at []
reads_none all at le = record { forward = omega arith; within = le; stands = refl; agrees = tt; valid = λ k. record { is = refl } }

pub agrees_on : (qs : List Pos) (at : ℕ) (s t : Parts) → Agrees qs at s → Agrees qs (at + length s) t → Agrees qs at (s ++ t)
agrees_on qs at [] t p q = let e : at + 0 ≡ at = omega arith in rw (← e) q
agrees_on qs at (x ∷ s) t p q = (p.0, (agrees_on qs (at + 1) s t p.1 (let e : at + 1 + length s ≡ at + suc (length s) = omega arith in rw e q)))

pub all_valid : (s t : Parts) → AllValid s → AllValid t → AllValid (s ++ t)
all_valid s t p q = record { is = rw (list_all-append (λ (x : Part). is_valid x.token) s t, p.is, q.is) refl }

-- how many parts are read
pub reads_length : {all : List Seen} {a b : ℕ} {s : Parts} → Reads all a b s → b ≡ a + length s
reads_length {all} {a} {b} {s} p =
    let n : length (kinds all) ≡ length all = length-map all _ in
    let m : length (tokens_of s) ≡ length s = length-map s _ in
    let w = p.within in
    let f = p.forward in
    let e : length (drop a (kinds all)) ≡ length (tokens_of s) + length (drop b (kinds all)) =
    ap length p.stands ∙ length-append (tokens_of s) (drop b (kinds all)) in
    omega (arith, e, length-drop a (kinds all), length-drop b (kinds all))

pub reads_on : {all : List Seen} {a b c : ℕ} {s t : Parts} → Reads all a b s → Reads all b c t → Reads all a c (s ++ t)
reads_on {all} {a} {b} {c} {s} {t} p q = record {
  forward = omega (arith, p.forward, q.forward);
  within = q.within;
  stands = p.stands ∙ rw (q.stands, map-append (λ (x : Part). x.token) s t) (simp append_assoc);
  agrees = agrees_on (places all) a s t p.agrees (rw (← reads_length p) q.agrees);
  valid = λ k. all_valid s t (p.valid k) (q.valid k);
}

pub passes_on : {all : List Seen} {a b c : ℕ} {xs ys zs : Stack} → Passes all a xs b ys → Passes all b ys c zs → Passes all a xs c zs
passes_on p q = record { by = λ st. p.by st ∙ q.by st }

pub whole_none : (all : List Seen) (at : ℕ) (xs : Stack) → at ≤ length all → Whole all at xs at xs []
whole_none all at xs le = record { reads = reads_none all at le; passes = record { by = λ st. refl } }

pub whole_on : {all : List Seen} {a b c : ℕ} {xs ys zs : Stack} {s t : Parts} → Whole all a xs b ys s → Whole all b ys c zs t
    → Whole all a xs c zs (s ++ t)
whole_on p q = record { reads = reads_on p.reads q.reads; passes = passes_on p.passes q.passes }

-- where nothing more comes at this level
pub whole_past : {all : List Seen} {a b : ℕ} {xs ys zs : Stack} {s : Parts} → Whole all a xs b ys s → Passes all b ys b zs → Whole all a xs b zs s
whole_past p q = record { reads = p.reads; passes = passes_on p.passes q }

-- what stands below stays below
pub whole_under : {all : List Seen} {a b : ℕ} {xs ys : Stack} {s : Parts} (zs : Stack) → Whole all a xs b ys s → Whole all a (xs ++ zs) b (ys ++ zs) s
whole_under {all} {a} {b} {xs} {ys} zs p =
    record { reads = p.reads; passes = record { by = λ st. rw (append_assoc xs zs st, append_assoc ys zs st) (p.passes.by (zs ++ st)) } }

pub refusal_under : {X : Type 0} {f : X → Parts} {all : List Seen} {a k : ℕ} {xs : Stack} (zs : Stack) → Refusal f all a xs k
    → Refusal f all a (xs ++ zs) k
refusal_under {X} {f} {all} {a} {k} {xs} zs p =
    record { stops = record { by = λ st. rw (append_assoc xs zs st) (p.stops.by (zs ++ st)) }; begun = p.begun }

-- one more part of a chain
pub whole_more : {A : Type 0} (f : A → Parts) {all : List Seen} {a b c : ℕ} {xs ys zs : Stack} (first : Parts) (done : List A) (y : A)
    → Whole all a xs b ys (first ++ flat_map f done) → Whole all b ys c zs (f y) → Whole all a xs c zs (first ++ flat_map f (done ++ y ∷ []))
whole_more f first done y p q = rw (flat_map-append f done (y ∷ []), append-nil, ← append_assoc) (whole_on p q)

-- after a part that was read, a part is refused
pub refused_on : {X Y : Type 0} (f : X → Parts) (g : Y → Parts) (all : List Seen) (a b : ℕ) (xs ys : Stack) (s : Parts) (make : Y → X) (z : Parts)
    → ((y : Y) → f (make y) ≡ s ++ (g y ++ z)) → AllValid z → Whole all a xs b ys s → (k : ℕ) → Refusal g all b ys k → Refusal f all a xs k
refused_on f g all a b xs ys s make z eq v w k r = record {
  stops = record { by = λ st. w.passes.by st ∙ r.stops.by st };
  begun = record {
    read = s ++ r.begun.read;
    more = r.begun.more ++ z;
    tree = make r.begun.tree;
    reads = reads_on w.reads r.begun.reads;
    by = eq r.begun.tree ∙ rw (r.begun.by) (simp append_assoc);
    valid = all_valid r.begun.more z r.begun.valid v;
  };
}

pub none_valid : AllValid []
none_valid = record { is = refl }

pub lift : (e : Stop) (P Q : ℕ → Type 0) → ((k : ℕ) → P k → Q k) → OnToken e P → OnToken e Q
lift (AtToken k) P Q h p = h k p
lift (Long k) P Q h p = p
lift Memory P Q h p = tt
