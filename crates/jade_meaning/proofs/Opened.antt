-- The events of a course are those that come once it is cut before its next deed.
use Rattle.std.proofs.Common.{◌≡◌, ℕ, suc, List, [], ◌∷◌, ◌++◌, refl, sym, ap, ◌∙◌, append_assoc}
use Rattle.std.specs.Prelude.{ℤ}
use Rattle.jade_meaning.specs.Specification.{Specification}
use Rattle.jade_meaning.specs.Course.{Course, Reads, Writes, Steps, Creates, Changes, Ends}
use Rattle.jade_meaning.specs.Talk.{Holds, events, changed, change_gives, shifts, change_takes}
use Rattle.jade_meaning.specs.Doing.{opened, from_deed, to_come}

pub opened_talk : (c : Course) (spec : Specification) (h : Holds) (n : ℕ) (vs : List ℤ) → events c spec h n vs ≡ to_come (opened c spec h n) vs
opened_talk (Reads o c on) spec h n [] = refl
opened_talk (Reads o c on) spec h n (v ∷ vs) = refl
opened_talk (Writes o c v on) spec h n vs = refl
opened_talk (Steps on) spec h n vs = opened_talk on spec h (suc n) vs
opened_talk (Creates child body on) spec h n vs = refl
opened_talk (Changes new on) spec h n vs =
    let d = opened on new (changed spec new h) n in
    let first = change_gives new h ++ shifts spec new ++ change_takes spec new h in
    ap (λ es. first ++ es) (opened_talk on new (changed spec new h) n vs) ∙ sym (append_assoc first d.pending (from_deed d.course d.spec d.plan d.steps vs))
opened_talk (Ends b) spec h n vs = refl
