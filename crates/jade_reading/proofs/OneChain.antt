-- A chain of operators of one level has one image.
use Rattle.std.proofs.Common.{◌≡◌, ℕ, ◌<◌, List, [], ◌∷◌, ◌++◌, refl, ap, sym, ◌∙◌, subst, map, arith}
use Rattle.std.specs.List.{flat_map}
use Rattle.jade_base.specs.declared.place.Pos.{Pos}
use Rattle.jade_syntax.specs.Abstract.{Operator}
use Rattle.jade_syntax.specs.Placed as syntax
use Rattle.jade_syntax.specs.Placed.{Term}
use Rattle.jade_syntax.specs.PlacedImage.{Linked, links, chained}
use Rattle.jade_parser.specs.Spelled.{Token, Part, Parts, marked}
use Rattle.jade_parser.specs.steps.Machine.{rank}
use Rattle.jade_reading.specs.Unplaced.{moved, moved_links}
use Rattle.jade_reading.proofs.Likeness.{Like, Same, Follows, follows_less, One, regroup}

link_same : (o p : Operator) (i j : Pos) (x y : Term) (ks ls : List Linked) → o ≡ p → i ≡ j → x ≡ y → ks ≡ ls
    → record { operator = o; at = i; operand = x } ∷ ks ≡ record { operator = p; at = j; operand = y } ∷ ls
link_same o p i j x y ks ls a b c d = λ k. record { operator = a k; at = b k; operand = c k } ∷ d k

-- `to` gives another place for each
module _ (to : Pos → Pos) where
  abbrev pub moved_link : Linked → Linked
  moved_link l = record { operator = l.operator; at = to l.at; operand = moved to l.operand }

  links_moved : (ls : List Linked) → moved_links to (links ls) ≡ links (map moved_link ls)
  links_moved [] = refl
  links_moved (l ∷ ls) = ap (syntax.Link l.operator (to l.at) (moved to l.operand)) (links_moved ls)

  chain_moved : (e : Term) (ls : List Linked) → moved to (chained e ls) ≡ chained (moved to e) (map moved_link ls)
  chain_moved e [] = refl
  chain_moved e (l ∷ ls) = ap (syntax.Chain (moved to e)) (links_moved (l ∷ ls))

  -- O are the operators of the level n, X the trees of the level m below, Y those of the level
  module _ {O X Y : Type 0} (m n : ℕ) (less : m < n) (sign : O → Token) (operator : O → Operator) (ranked : (o : O) → rank (sign o) ≡ n)
      (told : (o p : O) → sign o ≡ sign p → operator o ≡ operator p)
      (parts : X → Parts) (image : X → Term) (whole : Y → Parts) (whole_image : Y → Term) where
    module _ {A B : Type 0} (by : A → O) (at : A → Pos) (body : A → Parts) (told_as : A → Term)
        (one : (x : A) → One to (moved to) m parts image (body x) (told_as x)) (by_two : B → O) (at_two : B → Pos) (tree : B → X) where
      abbrev part : A → Parts
      part x = marked (sign (by x)) (at x) ∷ body x

      abbrev link : A → Linked
      link x = record { operator = operator (by x); at = at x; operand = told_as x }

      abbrev part_two : B → Parts
      part_two y = marked (sign (by_two y)) (at_two y) ∷ parts (tree y)

      abbrev link_two : B → Linked
      link_two y = record { operator = operator (by_two y); at = at_two y; operand = image (tree y) }

      follows_links : (xs : List A) (r : Parts) → Follows n r → Follows m (flat_map part xs ++ r)
      follows_links [] r f = follows_less m n r (omega arith) f
      follows_links (x ∷ xs) r f = omega (arith, ranked (by x))

      follows_two : (ys : List B) (s : Parts) → Follows n s → Follows m (flat_map part_two ys ++ s)
      follows_two [] s f = follows_less m n s (omega arith) f
      follows_two (y ∷ ys) s f = omega (arith, ranked (by_two y))

      -- no link of the level stands where the chain has ended
      ended : (o : O) (p : Part) → n < rank p.token → sign o ≡ p.token → ⊥
      ended o p f e = let k : rank p.token ≡ n = ap rank (sym e) ∙ ranked o in omega (arith, k, f)

      links_same : (xs : List A) (ys : List B) (r s : Parts) → Follows n r → Follows n s → Like to (flat_map part xs ++ r) (flat_map part_two ys ++ s)
          → Same to (map moved_link) (map link xs) (map link_two ys) r s
      links_same [] [] r s f g h = record { image = refl; rest = h }
      links_same [] (y ∷ ys) [] s f g h = absurd h
      links_same [] (y ∷ ys) (p ∷ r) s f g h = absurd (ended (by_two y) p f (sym h.0))
      links_same (x ∷ xs) [] r [] f g h = absurd h
      links_same (x ∷ xs) [] r (p ∷ s) f g h = absurd (ended (by x) p g h.0)
      links_same (x ∷ xs) (y ∷ ys) r s f g h =
          let k = (one x).by (tree y) (flat_map part xs ++ r) (flat_map part_two ys ++ s) (follows_links xs r f) (follows_two ys s g)
          (regroup to (body x) (flat_map part xs) r (parts (tree y)) (flat_map part_two ys) s h.2) in
          let t = links_same xs ys r s f g k.rest in
          record { image = link_same _ _ _ _ _ _ _ _ (told (by x) (by_two y) h.0) h.1 k.image t.image; rest = t.rest }

      chain_same : (ps : Parts) (e : Term) → One to (moved to) m parts image ps e → (xs : List A) (y : X) (ys : List B) (r s : Parts) → Follows n r
          → Follows n s → Like to ((ps ++ flat_map part xs) ++ r) ((parts y ++ flat_map part_two ys) ++ s)
          → Same to (moved to) (chained e (map link xs)) (chained (image y) (map link_two ys)) r s
      chain_same ps e o xs y ys r s f g h =
          let k = o.by y (flat_map part xs ++ r) (flat_map part_two ys ++ s) (follows_links xs r f) (follows_two ys s g)
          (regroup to ps (flat_map part xs) r (parts y) (flat_map part_two ys) s h) in
          let t = links_same xs ys r s f g k.rest in
          record {
            image = chain_moved e (map link xs) ∙ (λ i. chained (k.image i) (t.image i)) ∙ sym (chain_moved (image y) (map link_two ys));
            rest =
                t.rest;
          }

      pub one_chain : (first : Y → X) (rest : Y → List B) → ((y : Y) → whole y ≡ parts (first y) ++ flat_map part_two (rest y))
          → ((y : Y) → whole_image y ≡ chained (image (first y)) (map link_two (rest y)))
          → (ps : Parts) (e : Term) → One to (moved to) m parts image ps e → (xs : List A)
          → One to (moved to) n whole whole_image (ps ++ flat_map part xs) (chained e (map link xs))
      one_chain first rest opens shows ps e o xs = record {
        by = λ y r s f g h.
            let k = chain_same ps e o xs (first y) (rest y) r s f g
            (subst (λ (l : Parts). Like to ((ps ++ flat_map part xs) ++ r) (l ++ s)) (opens y) h) in
            record { image = k.image ∙ ap (moved to) (sym (shows y)); rest = k.rest };
      }
