-- How far the procedures of a text reach.
use Rattle.std.specs.Prelude.{◌≡◌, ℕ, ◌&&◌, nat_le, nat_lt, List, length}
use Rattle.jade_lexer.specs.Lexemes.{TokenAt}
use Rattle.proc_expand.specs.Words.{signs, some, end_place}
use Rattle.proc_expand.specs.Refusals.{begins, body_end}

-- the procedures that begin before n reach the places before r, and no others
pub record Reaches (ts : List TokenAt) (n r : ℕ) : Type 0 where
  pub so_far : (j : ℕ)
      → some n (λ p. begins (signs ts) p && nat_le j (end_place (length ts) (body_end (signs ts) p))) ≡ nat_lt j r
