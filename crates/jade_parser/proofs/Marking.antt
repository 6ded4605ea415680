-- The number of each token within its outermost expression, as the tokens before it tell it.
use Rattle.std.proofs.Common.{◌≡◌, ℕ, zero, suc, ◌+◌, List, [], ◌∷◌, ◌++◌, refl, ap, sym, ◌∙◌, map, append_assoc}
use Rattle.std.specs.List.{flat_map}
use Rattle.std.proofs.lemmas.List.{map-append}
use Rattle.jade_parser.specs.declared.Sign.{Sign}
use Rattle.jade_parser.specs.declared.Sign.TheVariants.{LeftParen, RightParen, LeftBracket, RightBracket}
use Rattle.jade_parser.specs.declared.Sign.TheVariants.{Semicolon, LeftBrace, DotDot, Becomes, IfWord, InWord}
use Rattle.jade_parser.specs.declared.Sign.TheVariants.{MainWord}
use Rattle.jade_parser.specs.Spelled.{Token, Tokens, Fixed, Called, Counted, Unknown, Part, Parts, tokens_of, numbered}

-- where a reader of tokens stands: before `main`, outside all expressions, or in an outermost one with so many brackets open and tokens counted
pub data Standing : Type 0 where
  Before : Standing
  Outside : Standing
  Inside : (depth count : ℕ) → Standing

-- what a token does to an expression
pub data Role : Type 0 where
  Opens : Role
  Indexes : Role
  Closes : Role
  Ends : Role
  Ranges : Role
  Begins : Role
  Starts : Role
  Quiet : Role

abbrev pub sign_role : Sign → Role
sign_role LeftParen = Opens
sign_role LeftBracket = Indexes
sign_role RightParen = Closes
sign_role RightBracket = Closes
sign_role Semicolon = Ends
sign_role LeftBrace = Ends
sign_role DotDot = Ranges
sign_role Becomes = Begins
sign_role IfWord = Begins
sign_role InWord = Begins
sign_role MainWord = Starts
sign_role s = Quiet

abbrev pub role : Token → Role
role (Fixed s) = sign_role s
role (Called n) = Quiet
role (Counted v) = Quiet
role Unknown = Quiet

abbrev pub after_before : Role → Standing
after_before Starts = Outside
after_before r = Before

abbrev pub after_outside : Role → Standing
after_outside Begins = Inside 0 0
after_outside Indexes = Inside 0 0
after_outside r = Outside

abbrev pub after_inside : (depth count : ℕ) → Role → Standing
after_inside d c Opens = Inside (suc d) (c + 1)
after_inside d c Indexes = Inside (suc d) (c + 1)
after_inside zero c Closes = Outside
after_inside (suc d) c Closes = Inside d (c + 1)
after_inside zero c Ends = Outside
after_inside (suc d) c Ends = Inside (suc d) (c + 1)
after_inside zero c Ranges = Inside 0 0
after_inside (suc d) c Ranges = Inside (suc d) (c + 1)
after_inside d c Begins = Inside d (c + 1)
after_inside d c Starts = Inside d (c + 1)
after_inside d c Quiet = Inside d (c + 1)

-- where the reader stands after a token
abbrev pub after : Standing → Role → Standing
after Before r = after_before r
after Outside r = after_outside r
after (Inside d c) r = after_inside d c r

-- the number of a token in an outermost expression
abbrev pub inner_mark : (depth count : ℕ) → Role → ℕ
inner_mark zero c Closes = 0
inner_mark (suc d) c Closes = c + 1
inner_mark zero c Ends = 0
inner_mark (suc d) c Ends = c + 1
inner_mark zero c Ranges = 0
inner_mark (suc d) c Ranges = c + 1
inner_mark d c Opens = c + 1
inner_mark d c Indexes = c + 1
inner_mark d c Begins = c + 1
inner_mark d c Starts = c + 1
inner_mark d c Quiet = c + 1

-- the number of a token
abbrev pub mark : Standing → Role → ℕ
mark Before r = 0
mark Outside r = 0
mark (Inside d c) r = inner_mark d c r

-- the numbers of tokens
abbrev pub marks : Standing → Tokens → List ℕ
marks s [] = []
marks s (t ∷ ts) = mark s (role t) ∷ marks (after s (role t)) ts

-- where the reader stands after tokens
abbrev pub stands_after : Standing → Tokens → Standing
stands_after s [] = s
stands_after s (t ∷ ts) = stands_after (after s (role t)) ts

abbrev pub nths : Parts → List ℕ
nths ps = map (λ p. p.nth) ps

pub marks_append : (s : Standing) (ts us : Tokens) → marks s (ts ++ us) ≡ marks s ts ++ marks (stands_after s ts) us
marks_append s [] us = refl
marks_append s (t ∷ ts) us = ap (λ ms. mark s (role t) ∷ ms) (marks_append (after s (role t)) ts us)

-- these parts have the numbers that their tokens tell, from one standing to another
pub record Goes (s : Standing) (ps : Parts) (e : Standing) : Type 0 where
  pub by : (rest : Tokens) → marks s (tokens_of ps ++ rest) ≡ nths ps ++ marks e rest

pub goes_none : (s : Standing) → Goes s [] s
goes_none s = record { by = λ rest. refl }

pub goes_on : {s m e : Standing} {ps qs : Parts} → Goes s ps m → Goes m qs e → Goes s (ps ++ qs) e
goes_on {s} {m} {e} {ps} {qs} g h = record {
  by = λ rest.
      let a : marks s (tokens_of (ps ++ qs) ++ rest) ≡ marks s (tokens_of ps ++ (tokens_of qs ++ rest)) = simp (append_assoc, map-append) in
      let b : (nths ps ++ (nths qs ++ marks e rest)) ≡ nths (ps ++ qs) ++ marks e rest = simp (append_assoc, map-append) in
      a ∙ g.by (tokens_of qs ++ rest) ∙ ap (λ ms. nths ps ++ ms) (h.by rest) ∙ b;
}

pub goes_all : {A : Type 0} (s : Standing) (f : A → Parts) → ((x : A) → Goes s (f x) s) → (xs : List A) → Goes s (flat_map f xs) s
goes_all s f h [] = goes_none s
goes_all s f h (x ∷ xs) = goes_on (h x) (goes_all s f h xs)

-- the count after tokens that lie in an expression
abbrev pub count_after : ℕ → Parts → ℕ
count_after c [] = c
count_after c (p ∷ ps) = count_after (c + 1) ps

-- parts of an expression: they are counted one after another, and leave as many brackets open as they find
pub record Inner (ps : Parts) : Type 0 where
  pub by : (d c : ℕ) (rest : Tokens) → marks (Inside d c) (tokens_of ps ++ rest) ≡ nths (numbered c ps) ++ marks (Inside d (count_after c ps)) rest

pub inner_none : Inner []
inner_none = record { by = λ d c rest. refl }

count_append : (c : ℕ) (ps qs : Parts) → count_after c (ps ++ qs) ≡ count_after (count_after c ps) qs
count_append c [] qs = refl
count_append c (p ∷ ps) qs = count_append (c + 1) ps qs

numbers_append : (c : ℕ) (ps qs : Parts) → nths (numbered c (ps ++ qs)) ≡ nths (numbered c ps) ++ nths (numbered (count_after c ps) qs)
numbers_append c [] qs = refl
numbers_append c (p ∷ ps) qs = ap (λ ms. (c + 1) ∷ ms) (numbers_append (c + 1) ps qs)

pub inner_on : {ps qs : Parts} → Inner ps → Inner qs → Inner (ps ++ qs)
inner_on {ps} {qs} g h = record {
  by = λ d c rest.
      let a : marks (Inside d c) (tokens_of (ps ++ qs) ++ rest) ≡ marks (Inside d c) (tokens_of ps ++ (tokens_of qs ++ rest)) =
      simp (append_assoc, map-append) in
      let n = nths (numbered c ps) in
      let k = count_after c ps in
      let m = nths (numbered k qs) in
      let last = marks (Inside d (count_after k qs)) rest in
      a ∙ g.by d c (tokens_of qs ++ rest) ∙ ap (λ ms. n ++ ms) (h.by d k rest) ∙ sym (append_assoc n m last)
      ∙ ap (λ ms. ms ++ last) (sym (numbers_append c ps qs))
      ∙ ap (λ j. nths (numbered c (ps ++ qs)) ++ marks (Inside d j) rest) (sym (count_append c ps qs));
}

pub inner_all : {A : Type 0} (f : A → Parts) → ((x : A) → Inner (f x)) → (xs : List A) → Inner (flat_map f xs)
inner_all f h [] = inner_none
inner_all f h (x ∷ xs) = inner_on (h x) (inner_all f h xs)

-- a token that changes nothing
pub inner_quiet : (p : Part) → role p.token ≡ Quiet → Inner (p ∷ [])
inner_quiet p e = record { by = λ d c rest. ap (λ r. inner_mark d c r ∷ marks (after_inside d c r) rest) e }

-- a token that opens a bracket
pub record IsOpening (r : Role) : Type 0 where
  pub marked : (d c : ℕ) → inner_mark d c r ≡ c + 1
  pub opened : (d c : ℕ) → after_inside d c r ≡ Inside (suc d) (c + 1)

pub opens : IsOpening Opens
opens = record { marked = λ d c. opens_mark d c; opened = λ d c. opens_after d c }
  where
    opens_mark : (d c : ℕ) → inner_mark d c Opens ≡ c + 1
    opens_mark zero c = refl
    opens_mark (suc d) c = refl

    opens_after : (d c : ℕ) → after_inside d c Opens ≡ Inside (suc d) (c + 1)
    opens_after zero c = refl
    opens_after (suc d) c = refl

pub indexes : IsOpening Indexes
indexes = record { marked = λ d c. indexes_mark d c; opened = λ d c. indexes_after d c }
  where
    indexes_mark : (d c : ℕ) → inner_mark d c Indexes ≡ c + 1
    indexes_mark zero c = refl
    indexes_mark (suc d) c = refl

    indexes_after : (d c : ℕ) → after_inside d c Indexes ≡ Inside (suc d) (c + 1)
    indexes_after zero c = refl
    indexes_after (suc d) c = refl

-- parts of an expression in brackets
pub inner_bracketed : (p q : Part) {ps : Parts} → IsOpening (role p.token) → role q.token ≡ Closes → Inner ps → Inner (p ∷ (ps ++ q ∷ []))
inner_bracketed p q {ps} o e h = record {
  by = λ d c rest.
      let k = count_after (c + 1) ps in
      let n = nths (numbered (c + 1) ps) in
      let a : marks (Inside (suc d) (c + 1)) (tokens_of (ps ++ q ∷ []) ++ rest) ≡ marks (Inside (suc d) (c + 1)) (tokens_of ps ++ (q.token ∷ rest)) =
      simp (append_assoc, map-append) in
      let b : marks (Inside (suc d) k) (q.token ∷ rest) ≡ (k + 1) ∷ marks (Inside d (k + 1)) rest =
      ap (λ r. inner_mark (suc d) k r ∷ marks (after_inside (suc d) k r) rest) e in
      let f : marks (Inside d c) (p.token ∷ (tokens_of (ps ++ q ∷ []) ++ rest)) ≡ (c + 1)
      ∷ marks (Inside (suc d) (c + 1)) (tokens_of (ps ++ q ∷ []) ++ rest) =
      ap (λ i. i ∷ marks (after_inside d c (role p.token)) (tokens_of (ps ++ q ∷ []) ++ rest)) (o.marked d c)
      ∙ ap (λ s. (c + 1) ∷ marks s (tokens_of (ps ++ q ∷ []) ++ rest)) (o.opened d c) in
      let g : n ++ ((k + 1) ∷ marks (Inside d (k + 1)) rest) ≡ nths (numbered (c + 1) (ps ++ q ∷ [])) ++ marks (Inside d (k + 1)) rest =
      sym (append_assoc n ((k + 1) ∷ []) (marks (Inside d (k + 1)) rest))
      ∙ ap (λ ms. ms ++ marks (Inside d (k + 1)) rest) (sym (numbers_append (c + 1) ps (q ∷ []))) in
      f ∙ ap (λ ms. (c + 1) ∷ ms) (a ∙ h.by (suc d) (c + 1) (q.token ∷ rest) ∙ ap (λ ms. n ++ ms) b ∙ g)
      ∙ ap (λ j. (c + 1) ∷ (nths (numbered (c + 1) (ps ++ q ∷ [])) ++ marks (Inside d j) rest)) (sym (count_append (c + 1) ps (q ∷ [])));
}

numbered_tokens : (c : ℕ) (ps : Parts) → tokens_of (numbered c ps) ≡ tokens_of ps
numbered_tokens c [] = refl
numbered_tokens c (p ∷ ps) = ap (λ ts. p.token ∷ ts) (numbered_tokens (c + 1) ps)

-- an outermost expression
pub goes_outer : {ps : Parts} → Inner ps → Goes (Inside 0 0) (numbered 0 ps) (Inside 0 (count_after 0 ps))
goes_outer {ps} h = record { by = λ rest. ap (λ ts. marks (Inside 0 0) (ts ++ rest)) (numbered_tokens 0 ps) ∙ h.by 0 0 rest }
