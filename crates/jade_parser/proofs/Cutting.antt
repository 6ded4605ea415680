-- The parts of an outermost expression, numbered, and the beginning of what was read.
use Rattle.std.proofs.Common.{◌≡◌, ℕ, zero, suc, ◌+◌, ◌-◌, ◌≤◌, ◌<◌, List, [], ◌∷◌, ◌++◌, refl, ap, sym, ◌∙◌}
use Rattle.std.proofs.Common.{length, drop, arith, append_assoc, append-nil, length-append, Bool, true, false}
use Rattle.std.proofs.Common.{◌&&◌, nat_le}
use Rattle.std.specs.List.{list_all}
use Rattle.std.proofs.lemmas.Bool.Decides.{nat_tests}
use Rattle.std.proofs.lemmas.List.{map-append}
use Rattle.std.proofs.lemmas.List.Folds.{list_all-append}
use Rattle.jade_base.specs.declared.place.Pos.{Pos}
use Rattle.jade_syntax.specs.declared.tree.Expr.{Expr}
use Rattle.jade_parser.specs.Spelled.{Tokens, Part, Parts, tokens_of, numbered, outer, is_valid, AllValid, AllShort, expr_parts}
use Rattle.jade_parser.specs.steps.Machine.{expr_in}
use Rattle.jade_parser.specs.declared.Seen.{Seen}
use Rattle.jade_parser.specs.steps.Reads.{Reads, kinds, places, Known, Refusal, Whole}
use Rattle.jade_parser.specs.Spelled.{Agrees}
use Rattle.jade_parser.specs.steps.Parts.{Any, RefusalIn, LongIn, OuterIn}
use Rattle.jade_parser.proofs.Reading.{reads_length, all_valid}

pub numbered_tokens : (n : ℕ) (ps : Parts) → tokens_of (numbered n ps) ≡ tokens_of ps
numbered_tokens n [] = refl
numbered_tokens n (p ∷ ps) = ap (λ ts. p.token ∷ ts) (numbered_tokens (n + 1) ps)

pub numbered_append : (n : ℕ) (s t : Parts) → numbered n (s ++ t) ≡ numbered n s ++ numbered (n + length s) t
numbered_append n [] t = let e : n + 0 ≡ n = omega arith in rw e refl
numbered_append n (p ∷ s) t =
    let e : n + 1 + length s ≡ n + suc (length s) = omega arith in
    rw (← e) (ap (λ ps. record { token = p.token; at = p.at; nth = n + 1 } ∷ ps) (numbered_append (n + 1) s t))

numbered_agrees : (qs : List Pos) (at n : ℕ) (ps : Parts) → Agrees qs at ps → Agrees qs at (numbered n ps)
numbered_agrees qs at n [] a = tt
numbered_agrees qs at n (p ∷ ps) a = (a.0, numbered_agrees qs (at + 1) (n + 1) ps a.1)

same_valid : (n : ℕ) (ps : Parts) → list_all (λ (p : Part). is_valid p.token) (numbered n ps) ≡ list_all (λ (p : Part). is_valid p.token) ps
same_valid n [] = refl
same_valid n (p ∷ ps) = ap (λ b. is_valid p.token && b) (same_valid (n + 1) ps)

pub numbered_valid : (n : ℕ) (ps : Parts) → AllValid ps → AllValid (numbered n ps)
numbered_valid n ps v = record { is = same_valid n ps ∙ v.is }

at_most : (n : ℕ) → n ≤ 256 → nat_le n 256 ≡ true
at_most n le = grind (arith, nat_tests)

few_short : (n : ℕ) (ps : Parts) → n + length ps ≤ 256 → list_all (λ (p : Part). nat_le p.nth 256) (numbered n ps) ≡ true
few_short n [] le = refl
few_short n (p ∷ ps) le = rw (at_most (n + 1) (omega arith), few_short (n + 1) ps (omega arith)) refl

pub numbered_short : (n : ℕ) (ps : Parts) → n + length ps ≤ 256 → AllShort (numbered n ps)
numbered_short n ps le = record { is = few_short n ps le }

pub numbered_reads : {all : List Seen} {a b : ℕ} (n : ℕ) (ps : Parts) → Reads all a b ps → Reads all a b (numbered n ps)
numbered_reads {all} {a} {b} n ps r = record {
  forward = r.forward;
  within = r.within;
  stands = r.stands ∙ ap (λ ts. ts ++ drop b (kinds all)) (sym (numbered_tokens n ps));
  agrees = numbered_agrees (places all) a n ps r.agrees;
  valid = λ k. numbered_valid n ps (r.valid k);
}

-- ---- the beginning of what was read

drop_past : (s : Parts) (ys : Tokens) → drop (length s) (tokens_of s ++ ys) ≡ ys
drop_past [] ys = refl
drop_past (x ∷ s) ys = drop_past s ys

drop_twice : (n m : ℕ) (xs : Tokens) → drop n (drop m xs) ≡ drop (m + n) xs
drop_twice n zero xs = ap (λ k. drop k xs) (omega arith)
drop_twice zero (suc m) [] = let w : suc m + 0 ≡ suc m = omega arith in rw w refl
drop_twice (suc n) (suc m) [] = let w : suc m + suc n ≡ suc (m + suc n) = omega arith in rw w refl
drop_twice n (suc m) (x ∷ xs) = let w : suc m + n ≡ suc (m + n) = omega arith in rw w (drop_twice n m xs)

agrees_first : (qs : List Pos) (at : ℕ) (s t : Parts) → Agrees qs at (s ++ t) → Agrees qs at s
agrees_first qs at [] t a = tt
agrees_first qs at (x ∷ s) t a = (a.0, agrees_first qs (at + 1) s t a.1)

first_true : (a b : Bool) → (a && b) ≡ true → a ≡ true
first_true true b e = refl
first_true false b e = absurd (cc)

second_true : (a b : Bool) → (a && b) ≡ true → b ≡ true
second_true true b e = e
second_true false b e = absurd (cc)

pub valid_first : (s t : Parts) → AllValid (s ++ t) → AllValid s
valid_first s t v = record { is = first_true _ _ (sym (list_all-append (λ (p : Part). is_valid p.token) s t) ∙ v.is) }

pub valid_second : (s t : Parts) → AllValid (s ++ t) → AllValid t
valid_second s t v = record { is = second_true _ _ (sym (list_all-append (λ (p : Part). is_valid p.token) s t) ∙ v.is) }

pub reads_first : {all : List Seen} {a b : ℕ} (s t : Parts) → Reads all a b (s ++ t) → Reads all a (a + length s) s
reads_first {all} {a} {b} s t r =
    let ts = kinds all in
    let n : b ≡ a + length (s ++ t) = reads_length r in
    let m : length (s ++ t) ≡ length s + length t = length-append s t in
    let w = r.within in
    let o : drop a ts ≡ tokens_of s ++ (tokens_of t ++ drop b ts) =
    r.stands ∙ rw (map-append (λ (x : Part). x.token) s t) (append_assoc (tokens_of s) (tokens_of t) (drop b ts)) in
    let d : drop (a + length s) ts ≡ tokens_of t ++ drop b ts = sym (drop_twice (length s) a ts) ∙ ap (drop (length s)) o
    ∙ drop_past s (tokens_of t ++ drop b ts) in
    record {
      forward = omega arith;
      within = omega arith;
      stands = o ∙ ap (λ q. tokens_of s ++ q) (sym d);
      agrees = agrees_first (places all) a s t r.agrees;
      valid = λ k. valid_first s t (r.valid k);
    }

-- a list around its part with a number
record Cut (n : ℕ) (r : Parts) : Type 0 where
  pub before : Parts
  pub here : Part
  pub after : Parts
  pub is : r ≡ before ++ here ∷ after
  pub long : length before ≡ n

cut : (n : ℕ) (r : Parts) → n < length r → Cut n r
cut n [] lt = absurd (omega arith)
cut zero (x ∷ r) lt = record { before = []; here = x; after = r; is = refl; long = refl }
cut (suc n) (x ∷ r) lt =
    let c = cut n r (omega arith) in
    record { before = x ∷ c.before; here = c.here; after = c.after; is = ap (λ q. x ∷ q) c.is; long = ap suc c.long }

-- ---- outermost expressions

pub outer_read : (all : List Seen) (a b : ℕ) (x : Expr) → Whole all a expr_in b [] (expr_parts x) → b - a ≤ 256 → OuterIn all a b x
outer_read all a b x w le =
    let n : b ≡ a + length (expr_parts x) = reads_length w.reads in
    record { whole = record { reads = numbered_reads 0 (expr_parts x) w.reads; passes = w.passes }; short = numbered_short 0 (expr_parts x) (omega arith) }

pub outer_refused : (all : List Seen) (a k : ℕ) → Refusal expr_parts all a expr_in k → k - a ≤ 256 → RefusalIn Any outer all a expr_in k
outer_refused all a k r le =
    let read = r.begun.read in
    let n : k ≡ a + length read = reads_length r.begun.reads in
    record {
      stops = r.stops;
      begun = record {
        read = numbered 0 read;
        more = numbered (0 + length read) r.begun.more;
        tree = r.begun.tree;
        reads = numbered_reads 0 read r.begun.reads;
        by = ap (numbered 0) r.begun.by ∙ numbered_append 0 read r.begun.more;
        fits = record { any = tt };
        valid = numbered_valid (0 + length read) r.begun.more r.begun.valid;
        short = numbered_short 0 read (omega arith);
      };
    }

long_cut : (all : List Seen) (a c : ℕ) (x : Expr) (before after more : Parts) (p : Part) → length before ≡ 256 → Reads all a c (before ++ p ∷ after)
    → expr_parts x ≡ (before ++ p ∷ after) ++ more → (Known all → AllValid more) → LongIn Any outer all a (a + 256)
long_cut all a c x before after more p long r e v =
    let s = before ++ p ∷ [] in
    let q : (before ++ p ∷ []) ++ after ≡ before ++ p ∷ after = append_assoc before (p ∷ []) after in
    let m : length (before ++ p ∷ []) ≡ 257 = omega (arith, length-append before (p ∷ [])) in
    let f : Reads all a (a + length s) s = reads_first {b = c} s after (rw q r) in
    let k : a + length s ≡ a + 256 + 1 = omega arith in
    let g : Reads all a (a + 256 + 1) (numbered 0 s) = rw (← k) (numbered_reads 0 s f) in
    let h : expr_parts x ≡ before ++ (p ∷ (after ++ more)) = e ∙ append_assoc before (p ∷ after) more in
    let last : Part = record { token = p.token; at = p.at; nth = 0 + length before + 1 } in
    record {
      read = numbered 0 before;
      last = last;
      more = numbered (0 + length before + 1) (after ++ more);
      tree = x;
      reads = rw (← numbered_append 0 before (p ∷ [])) g;
      by = ap (numbered 0) h ∙ numbered_append 0 before (p ∷ (after ++ more))
          ∙ sym (append_assoc (numbered 0 before) (last ∷ []) (numbered (0 + length before + 1) (after ++ more)));
      fits = record { any = tt };
      valid = λ w. numbered_valid (0 + length before + 1) (after ++ more) (all_valid after more (valid_second s after (rw q (r.valid w))) (v w));
      short = numbered_short 0 before (omega arith);
      too_many = omega arith;
    }

long_so : (all : List Seen) (a c : ℕ) (x : Expr) (read more : Parts) → Reads all a c read → expr_parts x ≡ read ++ more → (Known all → AllValid more)
    → 256 < c - a → LongIn Any outer all a (a + 256)
long_so all a c x read more r e v lt =
    let n : c ≡ a + length read = reads_length r in
    let t = cut 256 read (omega arith) in
    long_cut all a c x t.before t.after more t.here t.long (rw (← t.is) r) (e ∙ ap (λ q. q ++ more) t.is) v

pub long_whole : (all : List Seen) (a c : ℕ) (x : Expr) → Whole all a expr_in c [] (expr_parts x) → 256 < c - a → LongIn Any outer all a (a + 256)
long_whole all a c x w lt = long_so all a c x (expr_parts x) [] w.reads (sym (append-nil _)) (λ k. record { is = refl }) lt

pub long_refused : (all : List Seen) (a c : ℕ) → Refusal expr_parts all a expr_in c → 256 < c - a → LongIn Any outer all a (a + 256)
long_refused all a c r lt = long_so all a c r.begun.tree r.begun.read r.begun.more r.begun.reads r.begun.by (λ k. r.begun.valid) lt
