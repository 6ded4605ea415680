-- Each layer of a tree runs.
use Rattle.std.proofs.Common.{◌≡◌, ℕ, suc, ◌+◌, ◌<◌, Bool, true, false, List, [], ◌∷◌, ◌++◌, refl, ap, length, arith, ℤ}
use Rattle.std.proofs.Common.{append_assoc, append-nil, length-append}
use Rattle.std.proofs.lemmas.List.{map-append}
use Rattle.std.specs.List.{flat_map}
use Rattle.jade_parser.specs.declared.Sign.TheVariants.{LeftParen, RightParen, RightBracket}
use Rattle.jade_parser.specs.Spelled.{Tokens, Fixed, Called, Counted, Parts, tokens_of, marked, fixed, bracketed}
use Rattle.jade_parser.specs.Spelled.{relation_sign, unary_sign, truth_word, sign_part}
use Rattle.jade_parser.specs.steps.Machine.{Need, Rest, First, Second, Must, Stack, rank, asks, goes, unary_in, sum_in, compare_in, expr_in}
use Rattle.jade_base.specs.declared.place.Pos.{Pos}
use Rattle.jade_syntax.specs.declared.tree.Relation.{Relation}
use Rattle.jade_syntax.specs.declared.tree.Relation.TheVariants.{Equal, Unequal, Less, LessEqual, Greater, GreaterEqual}
use Rattle.jade_syntax.specs.declared.tree.UnaryOp.{UnaryOp}
use Rattle.jade_syntax.specs.declared.tree.UnaryOp.TheVariants.{Negative, Not}
use Rattle.jade_parser.proofs.Running.{Runs, Follows, follows_less, pass, takes, differs}

pub counted_runs : (v : ℤ) (p : Pos) → Runs unary_in 0 (marked (Counted v) p ∷ [])
counted_runs v p = record { by = λ st rest f. refl }

pub truth_runs : (b : Bool) (p : Pos) → Runs unary_in 0 (marked (truth_word b) p ∷ [])
truth_runs true p = record { by = λ st rest f. refl }
truth_runs false p = record { by = λ st rest f. refl }

past_first : (st : Stack) (rest : Tokens) → Follows 0 rest → goes rest (First ∷ st) ≡ goes rest st
past_first st [] f = refl
past_first st (t ∷ ts) f = rw (differs (rank t) 0 f) refl

pub past_second : (st : Stack) (rest : Tokens) → Follows 0 rest → goes rest (Second ∷ st) ≡ goes rest st
past_second st [] f = refl
past_second st (t ∷ ts) f = rw (differs (rank t) 0 f) refl

pub called_runs : (n : List ℕ) (p : Pos) → Runs unary_in 0 (marked (Called n) p ∷ [])
called_runs n p = record { by = λ st rest f. ap (λ k. 1 + k) (past_first st rest f) }

pub group_runs : (p : Pos) (ts : Parts) → Runs expr_in 5 ts → Runs unary_in 0 (marked (Fixed LeftParen) p ∷ (ts ++ fixed RightParen ∷ []))
group_runs p ts r = record {
  by = λ st rest f.
      let a : goes (tokens_of (ts ++ fixed RightParen ∷ []) ++ rest) (expr_in ++ Must RightParen ∷ st)
      ≡ goes (tokens_of ts ++ (Fixed RightParen ∷ rest)) (expr_in ++ Must RightParen ∷ st) = simp (append_assoc, map-append) in
      let b = r.by (Must RightParen ∷ st) (Fixed RightParen ∷ rest) (omega arith) in
      omega (arith, a, b, length-append ts (fixed RightParen ∷ []));
}

first_index : (ts : Parts) (st : Stack) (rest : Tokens) → Runs expr_in 5 ts → goes (tokens_of (bracketed ts) ++ rest) (First ∷ st)
    ≡ length (bracketed ts) + goes rest (Second ∷ st)
first_index ts st rest r =
    let a : goes (tokens_of (ts ++ fixed RightBracket ∷ []) ++ rest) (expr_in ++ Must RightBracket ∷ Second ∷ st)
    ≡ goes (tokens_of ts ++ (Fixed RightBracket ∷ rest)) (expr_in ++ Must RightBracket ∷ Second ∷ st) = simp (append_assoc, map-append) in
    let b = r.by (Must RightBracket ∷ Second ∷ st) (Fixed RightBracket ∷ rest) (omega arith) in
    omega (arith, a, b, length-append ts (fixed RightBracket ∷ []))

pub second_index : (ts : Parts) (st : Stack) (rest : Tokens) → Runs expr_in 5 ts → goes (tokens_of (bracketed ts) ++ rest) (Second ∷ st)
    ≡ length (bracketed ts) + goes rest st
second_index ts st rest r =
    let a : goes (tokens_of (ts ++ fixed RightBracket ∷ []) ++ rest) (expr_in ++ Must RightBracket ∷ st)
    ≡ goes (tokens_of ts ++ (Fixed RightBracket ∷ rest)) (expr_in ++ Must RightBracket ∷ st) = simp (append_assoc, map-append) in
    let b = r.by (Must RightBracket ∷ st) (Fixed RightBracket ∷ rest) (omega arith) in
    omega (arith, a, b, length-append ts (fixed RightBracket ∷ []))

pub single_runs : (n : List ℕ) (p : Pos) (ts : Parts) → Runs expr_in 5 ts → Runs unary_in 0 (marked (Called n) p ∷ ([] ++ bracketed ts))
single_runs n p ts r = record { by = λ st rest f. let a = first_index ts st rest r in let b = past_second st rest f in omega (arith, a, b) }

pub member_runs : (n : List ℕ) (p : Pos) (us ts : Parts) → Runs expr_in 5 us → Runs expr_in 5 ts
    → Runs unary_in 0 (marked (Called n) p ∷ (bracketed us ++ bracketed ts))
member_runs n p us ts q r = record {
  by = λ st rest f.
      let e : goes (tokens_of (bracketed us ++ bracketed ts) ++ rest) (First ∷ st)
      ≡ goes (tokens_of (bracketed us) ++ (tokens_of (bracketed ts) ++ rest)) (First ∷ st) = simp (append_assoc, map-append) in
      let a = first_index us st (tokens_of (bracketed ts) ++ rest) q in
      let b = second_index ts st rest r in
      omega (arith, a, b, e, length-append (bracketed us) (bracketed ts));
}

pub signs_run : (xs : List (UnaryOp × Pos)) (atom : Parts) → Runs unary_in 0 atom → Runs unary_in 0 (flat_map sign_part xs ++ atom)
signs_run [] atom r = r
signs_run (x ∷ xs) atom r = record { by = λ st rest f. sign_step x.0 _ _ st rest ((signs_run xs atom r).by st rest f) }
  where
    sign_step : (o : UnaryOp) (ts : Tokens) (k : ℕ) (st : Stack) (rest : Tokens) → goes ts (Need ∷ st) ≡ k + goes rest st
        → goes (unary_sign o ∷ ts) (Need ∷ st)
        ≡ suc k + goes rest st
    sign_step Negative ts k st rest e = omega (arith, e)
    sign_step Not ts k st rest e = omega (arith, e)

pub compare_alone : (ts : Parts) → Runs sum_in 2 ts → Runs compare_in 3 (ts ++ [])
compare_alone ts r = record {
  by = λ st rest f.
      let a = r.by (Rest 3 ∷ st) rest (follows_less 2 3 rest (omega arith) f) in
      let b = pass 3 3 st rest (omega arith) f in
      rw (append-nil ts) (omega (arith, a, b));
}

pub compare_pair : (op : Relation) (p : Pos) (us ts : Parts) → Runs sum_in 2 us → Runs sum_in 2 ts
    → Runs compare_in 3 (us ++ marked (relation_sign op) p ∷ ts)
compare_pair op p us ts q r = record {
  by = λ st rest f.
      let e : goes (tokens_of (us ++ marked (relation_sign op) p ∷ ts) ++ rest) (compare_in ++ st)
      ≡ goes (tokens_of us ++ (relation_sign op ∷ (tokens_of ts ++ rest))) (sum_in ++ Rest 3 ∷ st) = simp (append_assoc, map-append) in
      let a = q.by (Rest 3 ∷ st) (relation_sign op ∷ (tokens_of ts ++ rest)) (ranked op) in
      let c = takes 3 (relation_sign op) (tokens_of ts ++ rest) st (rank_is op) in
      let d : goes (tokens_of ts ++ rest) (asks (relation_sign op) ++ st) ≡ goes (tokens_of ts ++ rest) (sum_in ++ st) =
      asked op (tokens_of ts ++ rest) st in
      let b = r.by st rest (follows_less 2 3 rest (omega arith) f) in
      omega (arith, a, b, c, d, e, length-append us (marked (relation_sign op) p ∷ ts));
}
  where
    rank_is : (o : Relation) → rank (relation_sign o) ≡ 3
    rank_is Equal = refl
    rank_is Unequal = refl
    rank_is Less = refl
    rank_is LessEqual = refl
    rank_is Greater = refl
    rank_is GreaterEqual = refl

    ranked : (o : Relation) → 2 < rank (relation_sign o)
    ranked o = omega (arith, rank_is o)

    asked : (o : Relation) (rs : Tokens) (st : Stack) → goes rs (asks (relation_sign o) ++ st) ≡ goes rs (sum_in ++ st)
    asked Equal rs st = refl
    asked Unequal rs st = refl
    asked Less rs st = refl
    asked LessEqual rs st = refl
    asked Greater rs st = refl
    asked GreaterEqual rs st = refl
