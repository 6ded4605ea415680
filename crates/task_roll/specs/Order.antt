-- The serial order of tasks, by their paths.
use Rattle.std.specs.Prelude.{ℕ, zero, suc, Bool, true, false, ◌&&◌, ◌||◌, List, [], ◌∷◌, nat_eq, nat_lt, if◌then◌else◌}
use Rattle.jade_base.specs.Places.{same_path}

-- the first difference decides, and a task stands after the tasks that it makes
abbrev pub stands_before : List ℕ → List ℕ → Bool
stands_before [] q = false
stands_before (i ∷ p) [] = true
stands_before (i ∷ p) (j ∷ q) = nat_lt i j || (nat_eq i j && stands_before p q)

-- a task stands before each of these
abbrev pub before_all : List ℕ → List (List ℕ) → Bool
before_all p [] = true
before_all p (q ∷ qs) = stands_before p q && before_all p qs

-- each task stands before all that come later
abbrev pub is_ordered : List (List ℕ) → Bool
is_ordered [] = true
is_ordered (q ∷ qs) = before_all q qs && is_ordered qs

-- how many at the front stand before a task
abbrev pub rank : List ℕ → List (List ℕ) → ℕ
rank p [] = 0
rank p (q ∷ qs) = if stands_before q p then suc (rank p qs) else 0

-- how many stand before a task's own; where it is not among them, their number
abbrev pub place_among : List ℕ → List (List ℕ) → ℕ
place_among p [] = 0
place_among p (q ∷ qs) = if same_path p q then 0 else suc (place_among p qs)

-- a child directly before its parent
abbrev pub entered : (parent child : List ℕ) → List (List ℕ) → List (List ℕ)
entered p c [] = []
entered p c (q ∷ qs) = if same_path p q then c ∷ (q ∷ qs) else q ∷ entered p c qs

-- all but one task
abbrev pub without : List ℕ → List (List ℕ) → List (List ℕ)
without p [] = []
without p (q ∷ qs) = if same_path p q then qs else q ∷ without p qs

-- a task is among these
abbrev pub is_among : List ℕ → List (List ℕ) → Bool
is_among p [] = false
is_among p (q ∷ qs) = same_path p q || is_among p qs

-- the parent is among these, and its child stands before it and after all that stand before it
abbrev pub fits : (parent child : List ℕ) → List (List ℕ) → Bool
fits p c [] = false
fits p c (q ∷ qs) = if same_path p q then stands_before c q else (stands_before q c && fits p c qs)

-- a task stands between the one at a place and the one before that
abbrev pub fits_at : ℕ → List ℕ → List (List ℕ) → Bool
fits_at n c [] = false
fits_at zero c (q ∷ qs) = stands_before c q
fits_at (suc zero) c (q ∷ qs) = fits_at zero c qs && stands_before q c
fits_at (suc (suc n)) c (q ∷ qs) = fits_at (suc n) c qs
