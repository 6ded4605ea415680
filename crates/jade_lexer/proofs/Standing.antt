-- Where the tokens of a cut text stand in it.
use Rattle.std.proofs.Common.{
  ◌≡◌,
  ℕ,
  zero,
  suc,
  ◌+◌,
  ◌≤◌,
  List,
  [],
  ◌∷◌,
  ◌++◌,
  length,
  take,
  drop,
  get_or,
  refl,
  sym,
  ap,
  subst,
  ◌∙◌,
  arith,
  append_assoc,
  append-nil,
  length-append,
}
use Rattle.std.proofs.Math.Seq.{take-append_seam, drop-append_seam}
use Rattle.std.specs.List.{All}
use Rattle.jade_base.specs.declared.place.Pos.{Pos}
use Rattle.jade_lexer.specs.declared.lexer.Spot.{Spot}
use Rattle.jade_lexer.specs.Lexemes.{TokenAt, TokenList}
use Rattle.jade_lexer.specs.Reading.{first_spot, next_pos, pos_after, spot_after, depth_after}
use Rattle.jade_lexer.proofs.Cuts.{token_some}
use Rattle.jade_lexer.specs.Cut.{Cut, nothing, blank, token, StandsIn, InOrder, Spans, IsCut}

pos_after-append : (p : Pos) (xs ys : List ℕ) → pos_after p (xs ++ ys) ≡ pos_after (pos_after p xs) ys
pos_after-append p [] ys = refl
pos_after-append p (x ∷ xs) ys = pos_after-append (next_pos p x) xs ys

-- tokens that follow one another from a byte do so from any before it
in_order_from : (low high : ℕ) (ts : List TokenAt) → low ≤ high → InOrder high ts → InOrder low ts
in_order_from low high [] le order = tt
in_order_from low high (t ∷ ts) le order = (let from = order.0 in omega arith, order.1, order.2)

-- what holds of a first token and of each later one holds of each
all_cons : (P : TokenAt → Type 0) (t : TokenAt) (ts : List TokenAt) → P t → All P ts → All P (t ∷ ts)
all_cons P t ts here rest zero d within = here
all_cons P t ts here rest (suc k) d within = rest k d (omega arith)

-- where the tokens from a byte on stand
record Stand (text : List ℕ) (from : ℕ) (ts : List TokenAt) (end : Pos) : Type 0 where
  each : All (StandsIn text) ts
  order : InOrder from ts
  end_is : end ≡ pos_after first_spot.pos text

-- the spot is the one after these bytes
record IsAfter (before : List ℕ) (spot : Spot) : Type 0 where
  start : spot.start ≡ length before
  pos : spot.pos ≡ pos_after first_spot.pos before

after_more : (before front : List ℕ) (spot : Spot) (depth : ℕ) → IsAfter before spot → IsAfter (before ++ front) (spot_after spot front depth)
after_more before front spot depth at = record {
  start = ap (λ n. n + length front) at.start ∙ sym (length-append before front);
  pos = ap (λ p. pos_after p front) at.pos ∙ sym (pos_after-append first_spot.pos before front);
}

stand : (end : Pos) (before : List ℕ) (spot : Spot) (bytes : List ℕ) (ts : List TokenAt) → IsAfter before spot → Cut end spot bytes ts
    → Stand (before ++ bytes) spot.start ts end
stand end before spot [] [] at (nothing is) = record {
  each = λ k d within. absurd (omega arith);
  order = tt;
  end_is = is ∙ at.pos ∙ ap (pos_after first_spot.pos) (sym (append-nil before));
}
stand end before spot bytes ts at (blank front after is is_blank rest) =
    let whole : (before ++ front) ++ after ≡ before ++ bytes = append_assoc before front after ∙ ap (λ l. before ++ l) (sym is) in
    let later = stand end (before ++ front) (spot_after spot front spot.depth) after ts (after_more before front spot spot.depth at) rest in
    record {
      each = subst (λ l. All (StandsIn l) ts) whole later.each;
      order = in_order_from spot.start (spot.start + length front) ts (omega arith) later.order;
      end_is = later.end_is ∙ ap (pos_after first_spot.pos) whole;
    }
stand end before spot bytes (t ∷ ts) at (token after is start pos first sound rest) =
    let front = t.bytes in
    let depth = depth_after spot.depth (get_or front 0 0) in
    let whole : (before ++ front) ++ after ≡ before ++ bytes = append_assoc before front after ∙ ap (λ l. before ++ l) (sym is) in
    let later = stand end (before ++ front) (spot_after spot front depth) after ts (after_more before front spot depth at) rest in
    let start_is : t.start ≡ length before = start ∙ at.start in
    let split : before ++ (front ++ after) ≡ before ++ bytes = ap (λ l. before ++ l) (sym is) in
    let here : StandsIn (before ++ (front ++ after)) t = record {
      bytes = sym (ap (λ k. take (length front) (drop k (before ++ (front ++ after)))) start_is
          ∙ ap (take (length front)) (drop-append_seam before (front ++ after)) ∙ take-append_seam front after);
      pos = pos ∙ at.pos ∙ ap (pos_after first_spot.pos)
          (sym (ap (λ k. take k (before ++ (front ++ after))) start_is ∙ take-append_seam before (front ++ after)));
    } in
    record {
      each = all_cons (StandsIn (before ++ bytes)) t ts (subst (λ l. StandsIn l t) split here) (subst (λ l. All (StandsIn l) ts) whole later.each);
      order = (omega arith, token_some front first.a_token, subst (λ n. InOrder (n + length front) ts) (sym start) later.order);
      end_is = later.end_is ∙ ap (pos_after first_spot.pos) whole;
    }

pub spans_of : (text : List ℕ) (tokens : TokenList) → IsCut text tokens → Spans text tokens
spans_of text tokens cut =
    let all = stand tokens.end [] first_spot text tokens.lexemes (record { start = refl; pos = refl }) cut in
    record { each = all.each; order = all.order; end = all.end_is }
