-- A list of items, each spelled after a byte, has one reading.
use Rattle.std.proofs.Common.{◌≡◌, ℕ, List, [], ◌∷◌, ◌++◌, map, refl, ap, sym, ◌∙◌, append_assoc, All}
use Rattle.std.proofs.lemmas.List.{map-append}
use Rattle.std.proofs.lemmas.List.Elements.{All-nil, All-head, All-tail, All-push}
use Rattle.run_record.specs.Pieces.{Lacks, each_after}
use Rattle.run_record.specs.steps.Cutting.{BeginsOrEnds, IsPiece}
use Rattle.run_record.proofs.Cuts.{front_same, back_same}

-- how items are spelled: without the byte before each, and each otherwise
pub record Spells {A : Type 0} (c : ℕ) (f : A → List ℕ) (P : A → Type 0) : Type 0 where
  pub apart : (x : A) → P x → Lacks c (f x)
  pub one : (x y : A) → P x → P y → f x ≡ f y → x ≡ y

-- after the items that are done the rest begins with the byte, or is empty
abbrev pub GoesOn : {A : Type 0} → ℕ → List A → List ℕ → Type 0
GoesOn c [] left = Unit {0}
GoesOn c (x ∷ done) left = BeginsOrEnds c left

-- of a text these items are read, and the rest is left
pub record Read {A : Type 0} (c : ℕ) (f : A → List ℕ) (P : A → Type 0) (text : List ℕ) (done : List A) (left : List ℕ) : Type 0 where
  pub whole : text ≡ each_after c (map f done) ++ left
  pub good : All P done
  pub goes_on : GoesOn c done left

pub nothing_read : {A : Type 0} (c : ℕ) (f : A → List ℕ) (P : A → Type 0) (text : List ℕ) → Read c f P text [] text
nothing_read c f P text = record { whole = refl; good = All-nil P; goes_on = tt }

goes_on_after : {A : Type 0} (c : ℕ) (done : List A) (x : A) (left : List ℕ) → BeginsOrEnds c left → GoesOn c (done ++ x ∷ []) left
goes_on_after c [] x left h = h
goes_on_after c (y ∷ done) x left h = h

pub each_after-append : (c : ℕ) (xs ys : List (List ℕ)) → each_after c (xs ++ ys) ≡ each_after c xs ++ each_after c ys
each_after-append c [] ys = refl
each_after-append c (x ∷ xs) ys = ap (λ l. c ∷ (x ++ l)) (each_after-append c xs ys) ∙ ap (λ l. c ∷ l) (sym (append_assoc x (each_after c xs) (each_after c ys)))

nil_right : (xs : List ℕ) → xs ++ [] ≡ xs
nil_right [] = refl
nil_right (x ∷ xs) = ap (λ l. x ∷ l) (nil_right xs)

pub each_after-last : {A : Type 0} (c : ℕ) (f : A → List ℕ) (xs : List A) (x : A) → each_after c (map f (xs ++ x ∷ [])) ≡ each_after c (map f xs) ++ c ∷ f x
each_after-last c f xs x =
    ap (each_after c) (map-append f xs (x ∷ [])) ∙ each_after-append c (map f xs) (f x ∷ []) ∙ ap (λ l. each_after c (map f xs) ++ c ∷ l) (nil_right (f x))

-- one more item is read
pub read_more : {A : Type 0} (c : ℕ) (f : A → List ℕ) (P : A → Type 0) (text : List ℕ) (done : List A) (left piece after : List ℕ) (x : A) →
    Read c f P text done left → IsPiece c left piece after → piece ≡ f x → P x → Read c f P text (done ++ x ∷ []) after
read_more c f P text done left piece after x r p e good =
    record {
      whole =
          r.whole ∙ ap (λ l. each_after c (map f done) ++ l) (p.whole ∙ ap (λ l. c ∷ (l ++ after)) e)
          ∙ sym (append_assoc (each_after c (map f done)) (c ∷ f x) after) ∙ ap (λ l. l ++ after) (sym (each_after-last c f done x));
      good = All-push P done x r.good good;
      goes_on = goes_on_after c done x after p.next;
    }

pub begins_after : (c : ℕ) (pieces : List (List ℕ)) → BeginsOrEnds c (each_after c pieces)
begins_after c [] = tt
begins_after c (p ∷ ps) = refl

begins_left : {A : Type 0} (c : ℕ) (f : A → List ℕ) (done : List A) (left : List ℕ) → BeginsOrEnds c left → BeginsOrEnds c (each_after c (map f done) ++ left)
begins_left c f [] left h = h
begins_left c f (x ∷ done) left h = refl

still : {A : Type 0} (c : ℕ) (x : A) (done : List A) (left : List ℕ) → GoesOn c (x ∷ done) left → GoesOn c done left
still c x [] left h = tt
still c x (y ∷ done) left h = h

tails : {a b : ℕ} {xs ys : List ℕ} → a ∷ xs ≡ b ∷ ys → xs ≡ ys
tails e = cc

-- all items of a text are those that were read, and then those that the rest spells
pub record Rest {A : Type 0} (c : ℕ) (f : A → List ℕ) (P : A → Type 0) (all done : List A) (left : List ℕ) : Type 0 where
  pub more : List A
  pub all_is : all ≡ done ++ more
  pub left_is : left ≡ each_after c (map f more)
  pub good : All P more

pub rest_of : {A : Type 0} (c : ℕ) (f : A → List ℕ) (P : A → Type 0) → Spells c f P → (all done : List A) (left : List ℕ) → All P done → All P all → GoesOn c done left →
    each_after c (map f done) ++ left ≡ each_after c (map f all) → Rest c f P all done left
rest_of c f P s all [] left gd ga n e = record { more = all; all_is = refl; left_is = e; good = ga }
rest_of c f P s [] (d ∷ done) left gd ga n e = absurd (cc)
rest_of c f P s (a ∷ all) (d ∷ done) left gd ga n e =
    let e2 : f d ++ (each_after c (map f done) ++ left) ≡ f a ++ each_after c (map f all) = sym (append_assoc (f d) (each_after c (map f done)) left) ∙ tails e in
    let ld = s.apart d (All-head P d done gd) in
    let la = s.apart a (All-head P a all ga) in
    let bd = begins_left c f done left n in
    let ba = begins_after c (map f all) in
    let fronts = front_same c (f d) (f a) (each_after c (map f done) ++ left) (each_after c (map f all)) ld la bd ba e2 in
    let backs = back_same c (f d) (f a) (each_after c (map f done) ++ left) (each_after c (map f all)) ld la bd ba e2 in
    let same : d ≡ a = s.one d a (All-head P d done gd) (All-head P a all ga) fronts in
    let r = rest_of c f P s all done left (All-tail P d done gd) (All-tail P a all ga) (still c d done left n) backs in
    record { more = r.more; all_is = ap (λ l. a ∷ l) r.all_is ∙ ap (λ x. x ∷ (done ++ r.more)) (sym same); left_is = r.left_is; good = r.good }

-- the next item, where a piece is left
pub record Next {A : Type 0} (f : A → List ℕ) (P : A → Type 0) (all done : List A) (piece : List ℕ) : Type 0 where
  pub item : A
  pub more : List A
  pub all_is : all ≡ done ++ item ∷ more
  pub good : P item
  pub piece_is : piece ≡ f item

next_in : {A : Type 0} (c : ℕ) (f : A → List ℕ) (P : A → Type 0) → Spells c f P → (all done more : List A) (left piece after : List ℕ) → all ≡ done ++ more →
    left ≡ each_after c (map f more) → All P more → IsPiece c left piece after → Next f P all done piece
next_in c f P s all done [] left piece after e l g p = let h : [] ≡ c ∷ (piece ++ after) = sym l ∙ p.whole in absurd (cc)
next_in c f P s all done (m ∷ more) left piece after e l g p =
    let good : P m = All-head P m more g in
    let h : piece ++ after ≡ f m ++ each_after c (map f more) = tails (sym p.whole ∙ l) in
    record {
      item = m;
      more = more;
      all_is = e;
      good = good;
      piece_is = front_same c piece (f m) after (each_after c (map f more)) p.lacks (s.apart m good) p.next (begins_after c (map f more)) h;
    }

pub next_is : {A : Type 0} (c : ℕ) (f : A → List ℕ) (P : A → Type 0) → Spells c f P → (text : List ℕ) (all done : List A) (left piece after : List ℕ) → Read c f P text done left →
    IsPiece c left piece after → All P all → text ≡ each_after c (map f all) → Next f P all done piece
next_is c f P s text all done left piece after r p ga e =
    let rest = rest_of c f P s all done left r.good ga r.goes_on (sym r.whole ∙ e) in
    next_in c f P s all done rest.more left piece after rest.all_is rest.left_is rest.good p

pub no_more : {A : Type 0} (xs : List A) → xs ++ [] ≡ xs
no_more [] = refl
no_more (x ∷ xs) = ap (λ l. x ∷ l) (no_more xs)

-- where no piece is left, all items were read
pub record Ended {A : Type 0} (all done : List A) (left : List ℕ) : Type 0 where
  pub left_is : left ≡ []
  pub all_is : all ≡ done

ended : {A : Type 0} (c : ℕ) (f : A → List ℕ) (all done more : List A) (left : List ℕ) → ((after : List ℕ) → left ≡ c ∷ after → ⊥) → all ≡ done ++ more → left ≡ each_after c (map f more) →
    Ended all done left
ended c f all done [] left none e l = record { left_is = l; all_is = e ∙ no_more done }
ended c f all done (m ∷ more) left none e l = absurd (none (f m ++ each_after c (map f more)) l)

pub none_left : {A : Type 0} (c : ℕ) (f : A → List ℕ) (P : A → Type 0) → Spells c f P → (text : List ℕ) (all done : List A) (left : List ℕ) → Read c f P text done left →
    ((after : List ℕ) → left ≡ c ∷ after → ⊥) → All P all → text ≡ each_after c (map f all) → Ended all done left
none_left c f P s text all done left r none ga e =
    let rest = rest_of c f P s all done left r.good ga r.goes_on (sym r.whole ∙ e) in
    ended c f all done rest.more left none rest.all_is rest.left_is

-- two lists with one spelling are the same
pub spelled_once : {A : Type 0} (c : ℕ) (f : A → List ℕ) (P : A → Type 0) → Spells c f P → (xs ys : List A) → All P xs → All P ys → each_after c (map f xs) ≡ each_after c (map f ys) → xs ≡ ys
spelled_once c f P s [] [] gx gy e = refl
spelled_once c f P s [] (y ∷ ys) gx gy e = absurd (cc)
spelled_once c f P s (x ∷ xs) [] gx gy e = absurd (cc)
spelled_once c f P s (x ∷ xs) (y ∷ ys) gx gy e =
    let lx = s.apart x (All-head P x xs gx) in
    let ly = s.apart y (All-head P y ys gy) in
    let bx = begins_after c (map f xs) in
    let by = begins_after c (map f ys) in
    let fronts = front_same c (f x) (f y) (each_after c (map f xs)) (each_after c (map f ys)) lx ly bx by (tails e) in
    let backs = back_same c (f x) (f y) (each_after c (map f xs)) (each_after c (map f ys)) lx ly bx by (tails e) in
    let same : x ≡ y = s.one x y (All-head P x xs gx) (All-head P y ys gy) fronts in
    ap (λ z. z ∷ xs) same ∙ ap (λ l. y ∷ l) (spelled_once c f P s xs ys (All-tail P x xs gx) (All-tail P y ys gy) backs)
