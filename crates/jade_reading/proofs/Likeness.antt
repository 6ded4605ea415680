-- Two rows of parts that say the same of a text, by what is made of their places, and what goes on after them.
use Rattle.std.proofs.Common.{◌≡◌, ℕ, ◌+◌, ◌<◌, ◌≤◌, [], ◌∷◌, ◌++◌, Option, Some, None, refl, ap, sym, ◌∙◌, subst, arith, append_assoc}
use Rattle.jade_base.specs.declared.place.Pos.{Pos}
use Rattle.jade_parser.specs.Spelled.{Parts, numbered}
use Rattle.jade_parser.specs.steps.Machine.{rank}

-- the rest does not go on at this level or below
abbrev pub Follows : ℕ → Parts → Type 0
Follows n [] = Unit {0}
Follows n (p ∷ ps) = n < rank p.token

pub follows_less : (m n : ℕ) (ps : Parts) → m ≤ n → Follows n ps → Follows m ps
follows_less m n [] le f = tt
follows_less m n (p ∷ ps) le f = omega arith

-- parts without their numbers within their expressions, which do not count
abbrev pub bare : Parts → Parts
bare [] = []
bare (p ∷ ps) = record { token = p.token; at = p.at; nth = 0 } ∷ bare ps

pub bare_append : (a b : Parts) → bare (a ++ b) ≡ bare a ++ bare b
bare_append [] b = refl
bare_append (p ∷ a) b = ap (λ (l : Parts). record { token = p.token; at = p.at; nth = 0 } ∷ l) (bare_append a b)

pub bare_numbered : (n : ℕ) (ps : Parts) → bare (numbered n ps) ≡ bare ps
bare_numbered n [] = refl
bare_numbered n (p ∷ ps) = ap (λ (l : Parts). record { token = p.token; at = p.at; nth = 0 } ∷ l) (bare_numbered (n + 1) ps)

-- `to` gives another place for each
module _ (to : Pos → Pos) where
  -- where both places are kept, they go to one
  abbrev pub SamePlace : Option Pos → Option Pos → Type 0
  SamePlace None b = Unit {0}
  SamePlace (Some p) None = Unit {0}
  SamePlace (Some p) (Some q) = to p ≡ to q

  -- the same tokens, at places that go to the same as far as places are kept
  abbrev pub Like : Parts → Parts → Type 0
  Like [] [] = Unit {0}
  Like [] (q ∷ qs) = ⊥
  Like (p ∷ ps) [] = ⊥
  Like (p ∷ ps) (q ∷ qs) = (p.token ≡ q.token) × SamePlace p.at q.at × Like ps qs

  -- what was read is seen to be the same, and what is left is alike
  pub record Same {T : Type 0} (seen : T → T) (x y : T) (r s : Parts) : Type 0 where
    pub image : seen x ≡ seen y
    pub rest : Like r s

  -- parts of this level have one image: whatever tree of the level has like parts has it too
  pub record One {X T : Type 0} (seen : T → T) (n : ℕ) (parts : X → Parts) (image : X → T) (ps : Parts) (t : T) : Type 0 where
    pub by : (y : X) (r s : Parts) → Follows n r → Follows n s → Like (ps ++ r) (parts y ++ s) → Same seen t (image y) r s

  place_sym : (a b : Option Pos) → SamePlace a b → SamePlace b a
  place_sym None None h = tt
  place_sym None (Some q) h = tt
  place_sym (Some p) None h = tt
  place_sym (Some p) (Some q) h = sym h

  pub like_sym : (ps qs : Parts) → Like ps qs → Like qs ps
  like_sym [] [] h = tt
  like_sym [] (q ∷ qs) h = absurd h
  like_sym (p ∷ ps) [] h = absurd h
  like_sym (p ∷ ps) (q ∷ qs) h = (sym h.0, place_sym p.at q.at h.1, like_sym ps qs h.2)

  -- parts put together otherwise
  pub regroup_left : (a b r l : Parts) → Like ((a ++ b) ++ r) l → Like (a ++ (b ++ r)) l
  regroup_left a b r l h = subst (λ (k : Parts). Like k l) (append_assoc a b r) h

  pub regroup_right : (l c d s : Parts) → Like l ((c ++ d) ++ s) → Like l (c ++ (d ++ s))
  regroup_right l c d s h = subst (λ (k : Parts). Like l k) (append_assoc c d s) h

  pub regroup : (a b r c d s : Parts) → Like ((a ++ b) ++ r) ((c ++ d) ++ s) → Like (a ++ (b ++ r)) (c ++ (d ++ s))
  regroup a b r c d s h = regroup_right (a ++ (b ++ r)) c d s (regroup_left a b r ((c ++ d) ++ s) h)

  to_bare : (ps qs : Parts) → Like ps qs → Like (bare ps) qs
  to_bare [] qs h = h
  to_bare (p ∷ ps) [] h = absurd h
  to_bare (p ∷ ps) (q ∷ qs) h = (h.0, h.1, to_bare ps qs h.2)

  of_bare : (ps qs : Parts) → Like (bare ps) qs → Like ps qs
  of_bare [] qs h = h
  of_bare (p ∷ ps) [] h = absurd h
  of_bare (p ∷ ps) (q ∷ qs) h = (h.0, h.1, of_bare ps qs h.2)

  bare_left : (ps us qs : Parts) → bare ps ≡ bare us → Like ps qs → Like us qs
  bare_left ps us qs e h = of_bare us qs (subst (λ (l : Parts). Like l qs) e (to_bare ps qs h))

  -- parts that differ in their numbers alone are alike to the same
  pub like_bare : (ps us qs vs r s : Parts) → bare ps ≡ bare us → bare qs ≡ bare vs → Like (ps ++ r) (qs ++ s) → Like (us ++ r) (vs ++ s)
  like_bare ps us qs vs r s e f h =
      like_sym (vs ++ s) (us ++ r) (bare_left (qs ++ s) (vs ++ s) (us ++ r) (more qs vs s f)
      (like_sym (us ++ r) (qs ++ s) (bare_left (ps ++ r) (us ++ r) (qs ++ s) (more ps us r e) h)))
    where
      more : (a b c : Parts) → bare a ≡ bare b → bare (a ++ c) ≡ bare (b ++ c)
      more a b c e = bare_append a c ∙ ap (λ (l : Parts). l ++ bare c) e ∙ sym (bare_append b c)

  pub unnumbered : (ps qs r s : Parts) → Like (numbered 0 ps ++ r) (numbered 0 qs ++ s) → Like (ps ++ r) (qs ++ s)
  unnumbered ps qs r s h = like_bare (numbered 0 ps) ps (numbered 0 qs) qs r s (bare_numbered 0 ps) (bare_numbered 0 qs) h
