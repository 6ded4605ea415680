-- Where the parts of a source stand among the tokens of a text.
use Rattle.std.proofs.Common.{◌≡◌, ℕ, zero, suc, ◌+◌, ◌<◌, true, List, [], ◌∷◌, ◌++◌, length, drop, map, refl, sym, ap, ◌∙◌, subst, arith}
use Rattle.std.specs.Prelude.{slice_index_or, nat_le}
use Rattle.std.specs.List.{list_all}
use Rattle.std.proofs.Math.Seq.{drop-cons}
use Rattle.std.proofs.lemmas.List.{length-map}
use Rattle.std.proofs.lemmas.Bool.{and_parts}
use Rattle.jade_alphabet.specs.declared.TheConstants.{EXPRESSION_LIMIT}
use Rattle.jade_base.specs.declared.place.Pos.{Pos}
use Rattle.jade_lexer.specs.Lexemes.{TokenAt}
use Rattle.jade_parser.specs.Spelled.{Part, Parts, is_valid, KeptAt, Agrees, pos_in}
use Rattle.jade_parser.specs.Kinds.{token_bytes}
use Rattle.jade_parser.specs.Grammar.{bytes_of}
use Rattle.proc_expand.specs.declared.sign.Sign.{Sign}
use Rattle.proc_expand.specs.declared.sign.Sign.TheVariants as mark
use Rattle.proc_expand.specs.Words.{sign_of, signs, at, bytes_at}
use Rattle.proc_expand.specs.Written.{pos_at, from}
use Rattle.proc_laws.proofs.SignsOfTokens.{token_sign, parts_signs, sign_is}

-- the place after some parts that begin at a place
abbrev pub after : ℕ → Parts → ℕ
after k [] = k
after k (p ∷ ps) = after (suc k) ps

-- their places
abbrev pub places : ℕ → Parts → List ℕ
places k [] = []
places k (p ∷ ps) = k ∷ places (suc k) ps

pub after_both : (k : ℕ) (a b : Parts) → after k (a ++ b) ≡ after (after k a) b
after_both k [] b = refl
after_both k (p ∷ a) b = after_both (suc k) a b

pub places_both : (k : ℕ) (a b : Parts) → places k (a ++ b) ≡ places k a ++ places (after k a) b
places_both k [] b = refl
places_both k (p ∷ a) b = ap (λ (l : List ℕ). k ∷ l) (places_both (suc k) a b)

pub after_is : (k : ℕ) (ps : Parts) → after k ps ≡ k + length ps
after_is k [] = omega arith
after_is k (p ∷ ps) = let h = after_is (suc k) ps in omega (arith, h)

pub plus_one : (k : ℕ) → k + 1 ≡ suc k
plus_one k = omega arith

module _ (ts : List TokenAt) (end : Pos) where
  abbrev pub text_signs : List Sign
  text_signs = signs ts

  pub places_from : (k : ℕ) (ps : Parts) → places k ps ≡ from ts end k (length ps)
  places_from k [] = refl
  places_from k (p ∷ ps) = ap (λ (l : List ℕ). k ∷ l) (places_from (suc k) ps)

  -- a part stands at a place
  pub record Stand (k : ℕ) (p : Part) : Type 0 where
    pub below : k < length ts
    pub bytes : bytes_at ts k ≡ token_bytes p.token
    pub kept : KeptAt p.at (pos_at ts end ts k)
    pub short : nat_le p.nth EXPRESSION_LIMIT ≡ true

  -- and may stand in a program
  pub record Sound (k : ℕ) (p : Part) : Type 0 where
    pub stand : Stand k p
    pub valid : is_valid p.token ≡ true

  abbrev pub Lies : ℕ → Parts → Type 0
  Lies k [] = Unit {0}
  Lies k (p ∷ ps) = Stand k p × Lies (suc k) ps

  abbrev pub Reads : ℕ → Parts → Type 0
  Reads k [] = Unit {0}
  Reads k (p ∷ ps) = Sound k p × Reads (suc k) ps

  pub lies_left : (k : ℕ) (a b : Parts) → Lies k (a ++ b) → Lies k a
  lies_left k [] b h = tt
  lies_left k (p ∷ a) b h = (h.0, lies_left (suc k) a b h.1)

  pub lies_right : (k : ℕ) (a b : Parts) → Lies k (a ++ b) → Lies (after k a) b
  lies_right k [] b h = h
  lies_right k (p ∷ a) b h = lies_right (suc k) a b h.1

  pub left : (k : ℕ) (a b : Parts) → Reads k (a ++ b) → Reads k a
  left k [] b h = tt
  left k (p ∷ a) b h = (h.0, left (suc k) a b h.1)

  pub right : (k : ℕ) (a b : Parts) → Reads k (a ++ b) → Reads (after k a) b
  right k [] b h = h
  right k (p ∷ a) b h = right (suc k) a b h.1

  pub reads : (k : ℕ) (ps : Parts) → Lies k ps → list_all (λ (p : Part). is_valid p.token) ps ≡ true → Reads k ps
  reads k [] h v = tt
  reads k (p ∷ ps) h v =
      let b = and_parts (is_valid p.token) (list_all (λ (q : Part). is_valid q.token) ps) v in
      (record { stand = h.0; valid = b.0 }, reads (suc k) ps h.1 b.1)

  -- ---- signs at places

  index_sign : (us : List TokenAt) (k : ℕ) → k < length us → slice_index_or (signs us) k mark.Other ≡ sign_of (bytes_at us k)
  index_sign [] k h = absurd (omega (arith, h))
  index_sign (t ∷ us) zero h = refl
  index_sign (t ∷ us) (suc k) h = index_sign us k (omega (arith, h))

  pub stand_sign : (k : ℕ) (p : Part) → Stand k p → at (signs ts) k ≡ sign_of (token_bytes p.token)
  stand_sign k p h = index_sign ts k h.below ∙ ap sign_of h.bytes

  pub sign_at : (k : ℕ) (p : Part) → Sound k p → at (signs ts) k ≡ token_sign p.token
  sign_at k p h = stand_sign k p h.stand ∙ sign_is p.token h.valid

  pub drop_sign : (k : ℕ) (p : Part) → Stand k p → drop k (signs ts) ≡ at (signs ts) k ∷ drop (suc k) (signs ts)
  drop_sign k p h =
      let l = length-map ts (λ (t : TokenAt). sign_of t.bytes) in
      let b = h.below in
      drop-cons (signs ts) k mark.Other (omega (arith, l, b))

  pub signs_from : (k : ℕ) (ps : Parts) → Reads k ps → drop k (signs ts) ≡ parts_signs ps ++ drop (after k ps) (signs ts)
  signs_from k [] h = refl
  signs_from k (p ∷ ps) h =
      drop_sign k p h.0.stand ∙ ap (λ (s : Sign). s ∷ drop (suc k) (signs ts)) (sign_at k p h.0)
      ∙ ap (λ (l : List Sign). token_sign p.token ∷ l) (signs_from (suc k) ps h.1)

  -- ---- tokens that are spelled so

  pub pos_is : (us : List TokenAt) (k : ℕ) → k < length us → pos_in (map (λ (t : TokenAt). t.pos) us) k ≡ pos_at ts end us k
  pos_is [] k h = absurd (omega (arith, h))
  pos_is (t ∷ us) zero h = refl
  pos_is (t ∷ us) (suc k) h = pos_is us k (omega (arith, h))

  drop_token : (us : List TokenAt) (k : ℕ) (x : List ℕ) (xs : List (List ℕ)) → x ∷ xs ≡ map (λ (t : TokenAt). t.bytes) (drop k us)
      → (k < length us) × (bytes_at us k ≡ x) × (xs ≡ map (λ (t : TokenAt). t.bytes) (drop (suc k) us))
  drop_token [] zero x xs h = absurd (cc)
  drop_token [] (suc k) x xs h = absurd (cc)
  drop_token (t ∷ us) zero x xs h = (omega arith, sym (ap (head_or []) h), ap (drop 1) h)
    where
      head_or : List ℕ → List (List ℕ) → List ℕ
      head_or d [] = d
      head_or d (y ∷ ys) = y
  drop_token (t ∷ us) (suc k) x xs h = let r = drop_token us k x xs h in let b = r.0 in (omega (arith, b), r.1, r.2)

  pub lies : (k : ℕ) (ps : Parts) → bytes_of ps ≡ map (λ (t : TokenAt). t.bytes) (drop k ts)
      → Agrees (map (λ (t : TokenAt). t.pos) ts) k ps → list_all (λ (p : Part). nat_le p.nth EXPRESSION_LIMIT) ps ≡ true → Lies k ps
  lies k [] e g s = tt
  lies k (p ∷ ps) e g s =
      let d = drop_token ts k (token_bytes p.token) (bytes_of ps) e in
      let b = and_parts (nat_le p.nth EXPRESSION_LIMIT) (list_all (λ (q : Part). nat_le q.nth EXPRESSION_LIMIT) ps) s in (
        record { below = d.0; bytes = d.1; kept = subst (KeptAt p.at) (pos_is ts k d.0) g.0; short = b.0 },
        lies (suc k) ps d.2 (subst (λ (i : ℕ). Agrees (map (λ (t : TokenAt). t.pos) ts) i ps) (plus_one k) g.1) b.1,
      )
