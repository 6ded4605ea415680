-- Tasks with one parent, and what is left of steps after notes.
use Rattle.std.proofs.Common.{◌≡◌, ◌≢◌, ℕ, suc, ◌+◌, ◌-◌, Bool, true, false, List, [], ◌∷◌, ◌++◌, length, take, drop, refl, sym, ap, ◌∙◌, arith, Option, Some, None}
use Rattle.std.specs.Prelude.{is_some, nat_lt, if◌then◌else◌}
use Rattle.std.specs.List.{starts_with}
use Rattle.std.proofs.Common.{eqb}
use Rattle.std.proofs.Math.Seq.{take-append_seam}
use Rattle.std.proofs.lemmas.Bool.Decides.{Decides-eqb}
use Rattle.std.proofs.lemmas.Slice.Eq.{starts_is}
use Rattle.jade_base.specs.declared.report.Blame.{Blame}
use Rattle.task_roll.specs.declared.note.PartNote.{PartNote}
use Rattle.part_notes.specs.Families.{left_after, parent}

-- what stands before the last number is the parent's path
pub parent_is : (p rest : List ℕ) (x : ℕ) → p ≡ rest ++ x ∷ [] → length rest + 1 ≡ length p → parent p ≡ rest
parent_is p rest x is long = ap (λ q. take (length q - 1) q) is ∙ ap (λ n. take n (rest ++ x ∷ [])) count ∙ take-append_seam rest (x ∷ [])
  where
    count : length (rest ++ x ∷ []) - 1 ≡ length rest
    count = let e = ap length is in omega (arith, e, long)

-- so it is for a path that is one longer than this, and starts with it
pub parent_starts : (p rest : List ℕ) → length p ≡ length rest + 1 → starts_with eqb p rest ≡ true → parent p ≡ rest
parent_starts p rest long starts =
    ap (λ n. take n p) (omega (arith, long)) ∙ ap (λ q. take (length rest) q) ((starts_is Decides-eqb p rest true (sym starts)).0 refl)
    ∙ take-append_seam rest (drop (length rest) p)

-- notes behind others
pub left_past_all : (l : ℕ) (ms ns : List PartNote) (k : ℕ) → left_after l ms ≡ Some k → left_after l (ms ++ ns) ≡ left_after k ns
left_past_all l [] ns k e = ap (λ m. left_after m ns) (cc)
left_past_all l (m ∷ ms) ns k e = go m.blame (nat_lt l m.steps) (left_past_all (l - m.steps) ms ns k) e
  where
    go : (b : Option Blame) (t : Bool) → (left_after (l - m.steps) ms ≡ Some k → left_after (l - m.steps) (ms ++ ns) ≡ left_after k ns)
        → (if is_some b then None else if t then None else left_after (l - m.steps) ms) ≡ Some k
        → (if is_some b then None else if t then None else left_after (l - m.steps) (ms ++ ns)) ≡ left_after k ns
    go (Some b) t f e = absurd (cc)
    go None true f e = absurd (cc)
    go None false f e = f e

pub none_past_all : (l : ℕ) (ms ns : List PartNote) → left_after l ms ≡ None → left_after l (ms ++ ns) ≡ None
none_past_all l [] ns e = absurd (cc)
none_past_all l (m ∷ ms) ns e = go m.blame (nat_lt l m.steps) (none_past_all (l - m.steps) ms ns) e
  where
    go : (b : Option Blame) (t : Bool) → (left_after (l - m.steps) ms ≡ None → left_after (l - m.steps) (ms ++ ns) ≡ None)
        → (if is_some b then None else if t then None else left_after (l - m.steps) ms) ≡ None
        → (if is_some b then None else if t then None else left_after (l - m.steps) (ms ++ ns)) ≡ None
    go (Some b) t f e = refl
    go None true f e = refl
    go None false f e = f e
