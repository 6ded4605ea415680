-- How the items of a line are spelled: numbers, the numbers of a path, and paths.
use Rattle.std.proofs.Common.{◌≡◌, ◌≢◌, ℕ, ◌<◌, true, List, [], ◌∷◌, ◌++◌, length, map, ℤ, refl, ap, sym, ◌∙◌, subst, arith, All}
use Rattle.std.specs.Fmt.{decimal, signed_decimal}
use Rattle.std.proofs.lemmas.Fmt.{decimal_injective, signed_decimal_injective, decimal_digit}
use Rattle.std.proofs.lemmas.List.{append_cancel_left}
use Rattle.number_words.specs.Numbers.{is_number}
use Rattle.run_record.specs.Pieces.{each_after, path_text, IsPath}
use Rattle.run_record.specs.declared.paths.Unfit.{Unfit}
use Rattle.run_record.specs.declared.paths.Unfit.TheVariants.{Form, Memory}
use Rattle.run_record.specs.steps.Unfit.{NoPath, NoPaths}
use Rattle.run_record.specs.steps.Cutting.{IsPiece}
use Rattle.number_words.proofs.Signed.{small}
use Rattle.run_record.proofs.Bytes.{lacks, decimal_above, signed_above, path_above}
use Rattle.run_record.proofs.Spellings.{Spells, Read, read_more, next_is, none_left, nothing_read, spelled_once}

-- a number of a path
abbrev pub IsStep : ℕ → Type 0
IsStep k = k < 4294967296

abbrev pub IsNumber : ℤ → Type 0
IsNumber z = is_number z ≡ true

pub steps : Spells 46 decimal IsStep
steps =
    record {
      apart = λ k lt. lacks 47 46 (decimal k) (omega arith) (decimal_above k (omega arith));
      one = λ k m lk lm e. decimal_injective k m (omega arith) (omega arith) e;
    }

pub numbers : Spells 32 signed_decimal IsNumber
numbers =
    record {
      apart = λ z h. lacks 44 32 (signed_decimal z) (omega arith) (signed_above z h);
      one = λ y z hy hz e. signed_decimal_injective y z (small y hy) (small z hz) e;
    }

path_one : (p q : List ℕ) → IsPath p → IsPath q → path_text p ≡ path_text q → p ≡ q
path_one p q hp hq e =
    let ep : path_text p ≡ decimal 0 ++ each_after 46 (map decimal hp.more) = ap path_text hp.root in
    let eq : path_text q ≡ decimal 0 ++ each_after 46 (map decimal hq.more) = ap path_text hq.root in
    let same = append_cancel_left (decimal 0) (each_after 46 (map decimal hp.more)) (each_after 46 (map decimal hq.more)) (sym ep ∙ e ∙ eq) in
    hp.root ∙ ap (λ l. 0 ∷ l) (spelled_once 46 decimal IsStep steps hp.more hq.more hp.fit hq.fit same) ∙ sym hq.root

pub paths : Spells 32 path_text IsPath
paths = record { apart = λ p h. lacks 44 32 (path_text p) (omega arith) (path_above p h); one = path_one }

-- a part of a path is read
pub record PathRead (text : List ℕ) (path : List ℕ) (left : List ℕ) : Type 0 where
  pub more : List ℕ
  pub root : path ≡ 0 ∷ more
  pub read : Read 46 decimal IsStep text more left

pub path_begun : (text path : List ℕ) → path ≡ 0 ∷ [] → PathRead text path text
path_begun text path e = record { more = []; root = e; read = nothing_read 46 decimal IsStep text }

pub path_goes_on : (text path left piece after child : List ℕ) (k : ℕ) → PathRead text path left → IsPiece 46 left piece after → piece ≡ decimal k → k < 4294967296 →
    child ≡ path ++ k ∷ [] → PathRead text child after
path_goes_on text path left piece after child k r p e lt is =
    record {
      more = r.more ++ k ∷ [];
      root = is ∙ ap (λ l. l ++ k ∷ []) r.root;
      read = read_more 46 decimal IsStep text r.more left piece after k r.read p e lt;
    }

nil_right : (xs : List ℕ) → xs ++ [] ≡ xs
nil_right [] = refl
nil_right (x ∷ xs) = ap (λ l. x ∷ l) (nil_right xs)

-- nothing is left: the path is read
pub record PathWhole (word path : List ℕ) : Type 0 where
  pub spelled : word ≡ path_text path
  pub fit : IsPath path

pub path_ends : (word text path left : List ℕ) → word ≡ 48 ∷ text → PathRead text path left → left ≡ [] → PathWhole word path
path_ends word text path left w r l =
    let zero_is : decimal 0 ≡ 48 ∷ [] = decimal_digit 0 (omega arith) in
    let t : text ≡ each_after 46 (map decimal r.more) = r.read.whole ∙ ap (λ x. each_after 46 (map decimal r.more) ++ x) l ∙ nil_right (each_after 46 (map decimal r.more)) in
    record {
      spelled = w ∙ ap (λ x. 48 ∷ x) t ∙ ap (λ d. d ++ each_after 46 (map decimal r.more)) (sym zero_is) ∙ sym (ap path_text r.root);
      fit = record { more = r.more; root = r.root; fit = r.read.good };
    }

pub path_made : (word path own : List ℕ) → path ≡ own → PathWhole word own → PathWhole word path
path_made word path own e w = subst (PathWhole word) (sym e) w

-- what a path would have after its 0
after_zero : (word text : List ℕ) (p : List ℕ) → word ≡ 48 ∷ text → (h : IsPath p) → word ≡ path_text p → text ≡ each_after 46 (map decimal h.more)
after_zero word text p w h e =
    let zero_is : decimal 0 ≡ 48 ∷ [] = decimal_digit 0 (omega arith) in
    let same : 48 ∷ text ≡ 48 ∷ each_after 46 (map decimal h.more) = sym w ∙ e ∙ ap path_text h.root ∙ ap (λ d. d ++ each_after 46 (map decimal h.more)) zero_is in
    cc

-- a word that does not begin with 0 is no path
pub no_zero : (word p : List ℕ) → ((rest : List ℕ) → word ≡ 48 ∷ rest → ⊥) → IsPath p → word ≡ path_text p → ⊥
no_zero word p none h e =
    let zero_is : decimal 0 ≡ 48 ∷ [] = decimal_digit 0 (omega arith) in
    none (each_after 46 (map decimal h.more)) (e ∙ ap path_text h.root ∙ ap (λ d. d ++ each_after 46 (map decimal h.more)) zero_is)

-- a piece that is no number below the bound
pub no_step : (word text path left piece after : List ℕ) (p : List ℕ) → word ≡ 48 ∷ text → PathRead text path left → IsPiece 46 left piece after →
    ((n : ℕ) → n < 4294967296 → piece ≡ decimal n → ⊥) → IsPath p → word ≡ path_text p → ⊥
no_step word text path left piece after p w r pc none h e =
    let n = next_is 46 decimal IsStep steps text h.more r.more left piece after r.read pc h.fit (after_zero word text p w h e) in
    none n.item n.good n.piece_is

-- something is left that is no piece
pub no_path_left : (word text path left : List ℕ) (p : List ℕ) → word ≡ 48 ∷ text → PathRead text path left → ((after : List ℕ) → left ≡ 46 ∷ after → ⊥) → (left ≡ [] → ⊥) →
    IsPath p → word ≡ path_text p → ⊥
no_path_left word text path left p w r none some h e =
    let n = none_left 46 decimal IsStep steps text h.more r.more left r.read none h.fit (after_zero word text p w h e) in
    some n.left_is

-- a path that is none keeps a list from being paths
pub no_path_among : (text : List ℕ) (paths : List (List ℕ)) (left piece after : List ℕ) (e : Unfit) → Read 32 path_text IsPath text paths left → IsPiece 32 left piece after → NoPath piece e →
    NoPaths text e
no_path_among text ps left piece after Form r p none =
    λ all some good e.
    let n = next_is 32 path_text IsPath paths text all ps left piece after r p good e in
    none n.item n.good n.piece_is
no_path_among text ps left piece after Memory r p none = tt

-- where nothing of a list was read, or something is left of it, it is no list of paths
pub no_paths_left : (text : List ℕ) (done : List (List ℕ)) (left : List ℕ) (all : List (List ℕ)) → Read 32 path_text IsPath text done left → ((after : List ℕ) → left ≡ 32 ∷ after → ⊥) →
    (done ≢ [] → left ≡ [] → ⊥) → all ≢ [] → All IsPath all → text ≡ each_after 32 (map path_text all) → ⊥
no_paths_left text done left all r none open_ some good e =
    let n = none_left 32 path_text IsPath paths text all done left r none good e in
    open_ (λ d. some (n.all_is ∙ d)) n.left_is

pub paths_whole : (text : List ℕ) (done : List (List ℕ)) (left : List ℕ) → Read 32 path_text IsPath text done left → left ≡ [] → text ≡ each_after 32 (map path_text done)
paths_whole text done left r l = r.whole ∙ ap (λ x. each_after 32 (map path_text done) ++ x) l ∙ nil_right (each_after 32 (map path_text done))

pub paths_begun : (text : List ℕ) (ps : List (List ℕ)) → ps ≡ [] → Read 32 path_text IsPath text ps text
paths_begun text ps e = let F : List (List ℕ) → Type 0 = λ x. Read 32 path_text IsPath text x text in subst F (sym e) (nothing_read 32 path_text IsPath text)

pub paths_go_on : (text : List ℕ) (done : List (List ℕ)) (left piece after : List ℕ) (p : List ℕ) (new : List (List ℕ)) → Read 32 path_text IsPath text done left →
    IsPiece 32 left piece after → piece ≡ path_text p → IsPath p → new ≡ done ++ p ∷ [] → Read 32 path_text IsPath text new after
paths_go_on text done left piece after p new r pc s fit is =
    let F : List (List ℕ) → Type 0 = λ x. Read 32 path_text IsPath text x after in
    subst F (sym is) (read_more 32 path_text IsPath text done left piece after p r pc s fit)

-- there are paths where some were read
pub not_none : (done : List (List ℕ)) → (length done ≡ 0 → ⊥) → done ≢ []
not_none done h e = h (ap length e)

pub none_yet : (done : List (List ℕ)) → length done ≡ 0 → done ≡ []
none_yet [] e = refl
none_yet (d ∷ done) e = absurd (omega arith)
