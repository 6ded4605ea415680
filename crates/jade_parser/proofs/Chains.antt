-- A chain of one level.
use Rattle.std.proofs.Common.{◌≡◌, ℕ, ◌≤◌, List, [], ◌∷◌, ◌++◌, ◌∙◌, length, append_assoc}
use Rattle.std.specs.List.{flat_map}
use Rattle.std.proofs.lemmas.List.Concat.{flat_map-append}
use Rattle.jade_parser.specs.Spelled.{Part, Parts}
use Rattle.jade_parser.specs.steps.Machine.{Stack, Rest}
use Rattle.jade_parser.specs.declared.Seen.{Seen}
use Rattle.jade_parser.specs.declared.Stop.{Stop}
use Rattle.jade_parser.specs.steps.Reads.{Passes, Whole, Refusal, OnToken}
use Rattle.jade_parser.proofs.Reading.{whole_none, whole_on, whole_past, whole_under, whole_more, refusal_under, refused_on, lift, none_valid}

module _ {X Y P : Type 0} (f : X → Parts) (g : Y → Parts) (lo : Stack) (n : ℕ) (part : P → Parts) (make : Y → List P → X)
    (made : (y : Y) (ps : List P) → f (make y ps) ≡ g y ++ flat_map part ps) where
  abbrev xs : Stack
  xs = lo ++ Rest n ∷ []

  pub chain_first : (all : List Seen) (start : ℕ) (e : Stop) → start ≤ length all → OnToken e (Refusal g all start lo)
      → OnToken e (Refusal f all start (lo ++ Rest n ∷ []))
  chain_first all start e le o = lift e (Refusal g all start lo) (Refusal f all start xs)
      (λ k r. refused_on f g all start start xs xs [] (λ y. make y []) [] (λ y. made y []) none_valid (whole_none all start xs le) k
      (refusal_under (Rest n ∷ []) r)) o

  pub chain_more : (all : List Seen) (start at next : ℕ) (first : Y) (done : List P) (op : Part) (link : Y → P) (e : Stop)
      → ((y : Y) → part (link y) ≡ op ∷ g y)
      → Whole all start (lo ++ Rest n ∷ []) at (Rest n ∷ []) (g first ++ flat_map part done)
      → Whole all at (Rest n ∷ []) next (lo ++ Rest n ∷ []) (op ∷ [])
      → OnToken e (Refusal g all next lo) → OnToken e (Refusal f all start (lo ++ Rest n ∷ []))
  chain_more all start at next first done op link e linked w step o = lift e (Refusal g all next lo) (Refusal f all start xs)
      (λ k r. refused_on f g all start next xs xs ((g first ++ flat_map part done) ++ op ∷ []) (λ y. make first (done ++ link y ∷ [])) []
      (λ y. spelled_so y)
      none_valid (whole_on w step) k (refusal_under (Rest n ∷ []) r)) o
    where
      spelled_so : (y : Y) → f (make first (done ++ link y ∷ [])) ≡ ((g first ++ flat_map part done) ++ op ∷ []) ++ (g y ++ [])
      spelled_so y = made first (done ++ link y ∷ []) ∙ rw (flat_map-append part done (link y ∷ [])) (rw (linked y) (simp append_assoc))

  pub chain_kept : (all : List Seen) (start at next end : ℕ) (first : Y) (done : List P) (op : Part) (y : Y) (p : P) (new : List P) → part p ≡ op ∷ g y
      → new
      ≡ done ++ p ∷ []
      → Whole all start (lo ++ Rest n ∷ []) at (Rest n ∷ []) (g first ++ flat_map part done)
      → Whole all at (Rest n ∷ []) next (lo ++ Rest n ∷ []) (op ∷ [])
      → Whole all next lo end [] (g y) → Whole all start (lo ++ Rest n ∷ []) end (Rest n ∷ []) (g first ++ flat_map part new)
  chain_kept all start at next end first done op y p new linked e w step q =
      rw e (whole_more part (g first) done p w (rw linked (whole_on step (whole_under (Rest n ∷ []) q))))

  pub chain_done : (all : List Seen) (start at : ℕ) (first : Y) (done : List P)
      → Whole all start (lo ++ Rest n ∷ []) at (Rest n ∷ []) (g first ++ flat_map part done)
      → Passes all at (Rest n ∷ []) at [] → Whole all start (lo ++ Rest n ∷ []) at [] (f (make first done))
  chain_done all start at first done w p = rw (made first done) (whole_past w p)
