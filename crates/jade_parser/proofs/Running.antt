-- What is spelled runs.
use Rattle.std.proofs.Common.{◌≡◌, ℕ, ◌+◌, ◌<◌, ◌≤◌, eqb, true, false, List, [], ◌∷◌, ◌++◌, refl, ◌∙◌, length, arith, append_assoc, length-append}
use Rattle.std.proofs.lemmas.List.{map-append}
use Rattle.std.proofs.lemmas.Bool.Decides.{nat_tests}
use Rattle.std.specs.List.{flat_map}
use Rattle.jade_parser.specs.Spelled.{Token, Tokens, Part, Parts, tokens_of}
use Rattle.jade_parser.specs.steps.Machine.{Rest, Stack, rank, asks, goes}

-- the rest does not go on at this level or below
abbrev pub Follows : ℕ → Tokens → Type 0
Follows n [] = Unit {0}
Follows n (t ∷ ts) = n < rank t

pub follows_less : (m n : ℕ) (ts : Tokens) → m ≤ n → Follows n ts → Follows m ts
follows_less m n [] le f = tt
follows_less m n (t ∷ ts) le f = omega arith

-- the tokens of these parts run
pub record Runs (xs : Stack) (n : ℕ) (ps : Parts) : Type 0 where
  pub by : (st : Stack) (rest : Tokens) → Follows n rest → goes (tokens_of ps ++ rest) (xs ++ st) ≡ length ps + goes rest st

pub differs : (a m : ℕ) → m < a → eqb a m ≡ false
differs a m lt = grind (arith, nat_tests)

equals : (a m : ℕ) → a ≡ m → eqb a m ≡ true
equals a m e = grind (arith, nat_tests)

pub pass : (n m : ℕ) (st : Stack) (rest : Tokens) → m ≤ n → Follows n rest → goes rest (Rest m ∷ st) ≡ goes rest st
pass n m st [] le f = refl
pass n m st (t ∷ ts) le f = let e : eqb (rank t) m ≡ false = differs (rank t) m (omega arith) in rw e refl

pub takes : (n : ℕ) (t : Token) (ts : Tokens) (st : Stack) → rank t ≡ n → goes (t ∷ ts) (Rest n ∷ st) ≡ 1 + goes ts (asks t ++ st)
takes n t ts st e = rw (equals (rank t) n e) refl

-- a chain of one level: lo is what a part asks for, n the level
module _ {A : Type 0} (lo : Stack) (m n : ℕ) (less : m + 1 ≡ n) (op : A → Part) (body : A → Parts) (here : (x : A) → rank (op x).token ≡ n)
    (asked : (x : A) → asks (op x).token ≡ lo ++ Rest n ∷ []) (runs : (x : A) → Runs lo m (body x)) where
  abbrev part : A → Parts
  part x = op x ∷ body x

  follows_parts : (xs : List A) (rest : Tokens) → Follows n rest → Follows m (tokens_of (flat_map part xs) ++ rest)
  follows_parts [] rest f = follows_less m n rest (omega arith) f
  follows_parts (x ∷ xs) rest f = omega (arith, here x)

  parts_run : (xs : List A) (st : Stack) (rest : Tokens) → Follows n rest → goes (tokens_of (flat_map part xs) ++ rest) (Rest n ∷ st)
      ≡ length (flat_map part xs) + goes rest st
  parts_run [] st rest f = pass n n st rest (omega arith) f ∙ omega arith
  parts_run (x ∷ xs) st rest f =
      let a : goes ((op x).token ∷ (tokens_of (body x ++ flat_map part xs) ++ rest)) (Rest n ∷ st)
      ≡ 1 + goes (tokens_of (body x ++ flat_map part xs) ++ rest) (asks (op x).token ++ st) =
      takes n (op x).token (tokens_of (body x ++ flat_map part xs) ++ rest) st (here x) in
      let b : goes (tokens_of (body x ++ flat_map part xs) ++ rest) (asks (op x).token ++ st)
      ≡ goes (tokens_of (body x) ++ (tokens_of (flat_map part xs) ++ rest)) (lo ++ Rest n ∷ st) = rw (asked x) (simp (append_assoc, map-append)) in
      let c = (runs x).by (Rest n ∷ st) (tokens_of (flat_map part xs) ++ rest) (follows_parts xs rest f) in
      let d = parts_run xs st rest f in
      a ∙ omega (arith, b, c, d, length-append (body x) (flat_map part xs))

  pub chain_runs : (xs : List A) (first : Parts) → Runs lo m first → Runs (lo ++ Rest n ∷ []) n (first ++ flat_map part xs)
  chain_runs xs first r = record {
    by = λ st rest f.
        let b : goes (tokens_of (first ++ flat_map part xs) ++ rest) ((lo ++ Rest n ∷ []) ++ st)
        ≡ goes (tokens_of first ++ (tokens_of (flat_map part xs) ++ rest)) (lo ++ Rest n ∷ st) = simp (append_assoc, map-append) in
        let c = r.by (Rest n ∷ st) (tokens_of (flat_map part xs) ++ rest) (follows_parts xs rest f) in
        let d = parts_run xs st rest f in
        omega (arith, b, c, d, length-append first (flat_map part xs));
  }
