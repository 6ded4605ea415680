-- What was put into a deque is what was taken out of it and what still lies there, each once, and only its owner puts.
use Rattle.std.specs.Prelude.{◌≡◌, ℕ, ◌+◌, ◌≤◌, Bool, true, false, List, [], ◌∷◌}
use mathlib.Core.Option.{some}
use lib.ListN.{get_elem?}
use Rattle.task_deque.specs.declared.History.{History}

-- the weights of items, added up
abbrev pub weight : {X : Type 0} → (X → ℕ) → List X → ℕ
weight f [] = 0
weight f (x ∷ xs) = f x + weight f xs

module _ {T : Type 0} where
  -- the history of a handle: whether it is the owner's, the tasks that it put and those that it took
  abbrev pub history : (owns : Bool) (put taken : List T) → History T
  history owns put taken = record { owns = owns; put = put; taken = taken }

  -- a history that owns is the one at this place, and a history that does not own has put nothing
  abbrev pub OnlyOwnerPuts : (owner place : ℕ) (h : History T) → Type 0
  OnlyOwnerPuts owner place h = (h.owns ≡ true → place ≡ owner) × (h.owns ≡ false → h.put ≡ [])

  -- however tasks are weighed, what all handles put weighs as much as what they took and what lies in the deque together;
  -- so each task that was put was taken once, or lies there once. One history at most owns, and only it has put
  pub record IsBalanced (items : List T) (histories : List (History T)) : Type 0 where
    pub weighs : (f : T → ℕ) → weight (λ (h : History T). weight f h.put) histories ≡ weight (λ (h : History T). weight f h.taken) histories + weight f items
    pub owner : ℕ
    pub only : (place : ℕ) (h : History T) → get_elem? histories place ≡ some h → OnlyOwnerPuts owner place h

  -- however tasks are weighed, what the handle took weighs at most as much as what it put; so each task that it took was
  -- put, and it took it at most as often as it was put
  abbrev pub TookOfPut : (h : History T) → Type 0
  TookOfPut h = (f : T → ℕ) → weight f h.taken ≤ weight f h.put
