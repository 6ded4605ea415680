-- A call stands in the text where its arguments are spelled by expressions where they are written.
use Rattle.std.proofs.Common.{◌≡◌, ℕ, suc, ◌+◌, ◌<◌, Bool, true, false, ◌&&◌, nat_eq, List, [], ◌∷◌, length, map, drop, refl, sym, ap, ◌∙◌, subst, arith}
use Rattle.std.specs.Prelude.{not, if◌then◌else◌}
use Rattle.std.proofs.lemmas.Bool.{and_parts, eqb-true}
use Rattle.jade_base.specs.declared.place.Pos.{Pos}
use Rattle.jade_lexer.specs.Lexemes.{TokenAt}
use Rattle.jade_syntax.specs.declared.tree.Expr.{Expr}
use Rattle.jade_syntax.specs.Abstract.{Name}
use Rattle.jade_parser.specs.declared.Sign.TheVariants.{LeftParen, RightParen, Semicolon}
use Rattle.jade_parser.specs.Spelled.{Called, fixed, plain}
use Rattle.proc_expand.specs.declared.sign.Bracket.TheVariants.{Round}
use Rattle.proc_expand.specs.declared.sign.Sign.{Sign}
use Rattle.proc_expand.specs.declared.sign.Sign.TheVariants as mark
use Rattle.proc_expand.specs.declared.sign.End.{End}
use Rattle.proc_expand.specs.declared.sign.End.TheVariants.{Closed}
use Rattle.proc_expand.specs.Words.{sign_of, signs, at, before, bytes_at, is_called, is_proc, is_semicolon, opens_round, closes_round, ends_statement, closing_from, is_after}
use Rattle.proc_expand.specs.Refusals.{is_call, call_end, commas, commas_from}
use Rattle.proc_expand.specs.Written.{pos_at, closed_at, spans, arguments, token_at}
use Rattle.proc_laws.specs.SourceTree as source
use Rattle.proc_laws.specs.SourceReading.{argument_parts, spoken_parts}
use Rattle.proc_laws.proofs.Basics.{by_case}
use Rattle.proc_laws.proofs.PlacesInText.{after, after_both, plus_one, Sound, Reads, stand_sign, drop_sign}
use Rattle.proc_laws.proofs.WrittenParts.{Keeps}
use Rattle.proc_laws.proofs.TokensAhead.{reads_both, called_is_name}
use Rattle.proc_laws.proofs.CallsRead.{CallSound}
use Rattle.proc_laws.proofs.ArgumentsRead.{AllSaid, Listed, listed, arguments_read, semicolon_is, opening_is, closing_is}

pub opens_is : (s : Sign) → opens_round s ≡ true → s ≡ mark.Opens Round
opens_is (mark.Opens Round) h = refl
opens_is s h = absurd (cc)

pub never : (n : ℕ) → nat_eq (suc n) 0 ≡ false
never n = by_case (nat_eq (suc n) 0) (λ e. absurd (let q = eqb-true (suc n) 0 e in omega (arith, q))) (λ e. e)

module _ (ts : List TokenAt) (end : Pos) where
  -- the call stands there, and ends with its `;`
  pub record CallRead (k last n : ℕ) : Type 0 where
    pub values : List Expr
    pub reads : Reads ts end k (spoken_parts (source.Call (bytes_at ts k) (pos_at ts end ts k) values))
    pub ends : after k (spoken_parts (source.Call (bytes_at ts k) (pos_at ts end ts k) values)) ≡ suc (suc last)
    pub many : length values ≡ n

  pub sign_there : (k : ℕ) → k < length ts → at (signs ts) k ≡ sign_of (bytes_at ts k)
  sign_there k l = stand_sign ts end k (plain (Called (bytes_at ts k))) (record { below = l; bytes = refl; kept = tt; short = refl })

  pub opens_here : (k : ℕ) → is_call (signs ts) k ≡ true → opens_round (at (signs ts) (suc k)) ≡ true
  opens_here k h =
      ap (λ (i : ℕ). opens_round (at (signs ts) i)) (sym (plus_one k))
      ∙ (and_parts (is_called (at (signs ts) k)) (opens_round (at (signs ts) (k + 1)))
      (and_parts (is_called (at (signs ts) k) && opens_round (at (signs ts) (k + 1))) (not (is_proc (before (signs ts) k))) h).0).1

  pub name_here : (k : ℕ) → is_call (signs ts) k ≡ true → is_called (at (signs ts) k) ≡ true
  name_here k h =
      (and_parts (is_called (at (signs ts) k)) (opens_round (at (signs ts) (k + 1)))
      (and_parts (is_called (at (signs ts) k) && opens_round (at (signs ts) (k + 1))) (not (is_proc (before (signs ts) k))) h).0).0

  open_sound : (k : ℕ) → suc k < length ts → is_call (signs ts) k ≡ true → Sound ts end (suc k) (fixed LeftParen)
  open_sound k l h = record {
    stand = record {
      below = l;
      bytes = opening_is (bytes_at ts (suc k)) (ap opens_round (sym (sign_there (suc k) l)) ∙ opens_here k h);
      kept = tt;
      short = refl;
    };
    valid = refl;
  }

  call_stands : (k : ℕ) (c : CallSound ts end k) → is_call (signs ts) k ≡ true → (vs : List Expr) (n : ℕ) → Reads ts end (suc (suc k)) (argument_parts vs)
      → after (suc (suc k)) (argument_parts vs) ≡ c.last → length vs ≡ n → CallRead k c.last n
  call_stands k c h vs n r e m =
      let b = c.below in let o = c.room in
      record {
        values = vs;
        reads = (
          record {
            stand = record { below = omega (arith, b, o); bytes = refl; kept = refl; short = refl };
            valid = called_is_name (bytes_at ts k) (ap is_called (sym (sign_there k (omega (arith, b, o)))) ∙ name_here k h);
          },
          (
            open_sound k (omega (arith, b, o)) h,
            reads_both ts end (suc (suc k)) (argument_parts vs) (fixed RightParen ∷ fixed Semicolon ∷ []) r
                (subst (λ (i : ℕ). Reads ts end i (fixed RightParen ∷ fixed Semicolon ∷ [])) (sym e) (
                  record {
                    stand = record {
                      below = omega (arith, b);
                      bytes = closing_is (bytes_at ts c.last) (ap closes_round (sym (sign_there c.last (omega (arith, b)))) ∙ c.bracket);
                      kept = tt;
                      short = refl;
                    };
                    valid = refl;
                  },
                  (
                    record {
                      stand = record {
                        below = b;
                        bytes = semicolon_is (bytes_at ts (suc c.last)) (ap is_semicolon (sym (sign_there (suc c.last) b) ∙ c.ends));
                        kept = tt;
                        short = refl;
                      };
                      valid = refl;
                    },
                    tt,
                  ),
                )),
          ),
        );
        ends = after_both (suc (suc k)) (argument_parts vs) (fixed RightParen ∷ fixed Semicolon ∷ []) ∙ ap (λ (i : ℕ). suc (suc i)) e;
        many = m;
      }

  -- the signs from its `(` on
  pub open_signs : (k : ℕ) (c : CallSound ts end k) → is_call (signs ts) k ≡ true → drop (suc k) (signs ts) ≡ mark.Opens Round ∷ drop (suc (suc k)) (signs ts)
  open_signs k c h =
      let b = c.below in let o = c.room in
      drop_sign ts end (suc k) (fixed LeftParen) (open_sound k (omega (arith, b, o)) h).stand
      ∙ ap (λ (m : Sign). m ∷ drop (suc (suc k)) (signs ts)) (opens_is (at (signs ts) (suc k)) (opens_here k h))

  -- its `(` is closed by its `)`
  pub open_closed : (k : ℕ) (c : CallSound ts end k) → is_call (signs ts) k ≡ true
      → closing_from (Round ∷ []) (suc (suc k)) (drop (suc (suc k)) (signs ts)) ≡ Closed c.last
  open_closed k c h =
      ap (λ (i : ℕ). closing_from (Round ∷ []) i (drop (suc (suc k)) (signs ts))) (sym (plus_one (suc k)))
      ∙ ap (closing_from [] (suc k)) (sym (open_signs k c h)) ∙ ap (λ (i : ℕ). closing_from [] i (drop i (signs ts))) (sym (plus_one k)) ∙ c.closed

  -- the commas of a call
  pub commas_listed : (k : ℕ) (c : CallSound ts end k) → is_call (signs ts) k ≡ true → Listed ts end (suc (suc k)) (commas (signs ts) k) c.last
  commas_listed k c h =
      let two : k + 2 ≡ suc (suc k) = omega arith in
      subst (λ (i : ℕ). Listed ts end (suc (suc k)) (commas_from [] i (drop i (signs ts))) c.last) (sym two)
      (listed ts end (drop (suc (suc k)) (signs ts)) [] (suc (suc k)) (suc (suc k)) c.last refl (omega arith) (open_closed k c h))

  module _ (to : Name → Name) (keeps : Keeps to) (follows : (k : ℕ) → is_call (signs ts) k ≡ true → ends_statement (before (signs ts) k) ≡ true) where
    pub call_read : (k : ℕ) (c : CallSound ts end k) → is_call (signs ts) k ≡ true → (es : List Expr)
        → AllSaid (map (λ (ks : List ℕ). map (token_at ts end to) ks) (arguments ts end k)) es → CallRead k c.last (length es)
    call_read k c h es s = by (is_after 0 (call_end (signs ts) k) (k + 2)) refl
      where
        empty : (us : List Expr) → AllSaid [] us → after (suc (suc k)) (argument_parts []) ≡ c.last → CallRead k c.last (length us)
        empty [] g e = call_stands k c h [] 0 tt e refl
        empty (u ∷ us) g e = absurd g

        by : (t : Bool) → is_after 0 (call_end (signs ts) k) (k + 2) ≡ t → CallRead k c.last (length es)
        by true e =
            let none : arguments ts end k ≡ [] =
            ap (λ b. if nat_eq (if b then 0 else suc (length (commas (signs ts) k))) 0 then []
            else spans ts end (k + 2) (commas (signs ts) k) (closed_at ts end (call_end (signs ts) k))) e in
            let q = eqb-true (c.last + 0) (k + 2) (sym (ap (λ (x : End). is_after 0 x (k + 2)) c.closed) ∙ e) in
            empty es (subst (λ (kss : List (List ℕ)). AllSaid (map (λ (ks : List ℕ). map (token_at ts end to) ks) kss) es) none s) (omega (arith, q))
        by false e =
            let two : k + 2 ≡ suc (suc k) = omega arith in
            let all : arguments ts end k ≡ spans ts end (suc (suc k)) (commas (signs ts) k) c.last =
            ap (λ b. if nat_eq (if b then 0 else suc (length (commas (signs ts) k))) 0 then []
            else spans ts end (k + 2) (commas (signs ts) k) (closed_at ts end (call_end (signs ts) k))) e
            ∙ ap (λ b. if b then [] else spans ts end (k + 2) (commas (signs ts) k) (closed_at ts end (call_end (signs ts) k)))
            (never (length (commas (signs ts) k)))
            ∙ (λ i. spans ts end (two i) (commas (signs ts) k) (closed_at ts end (c.closed i))) in
            let b = c.below in
            let r = arguments_read ts end to keeps follows (suc (suc k)) (commas (signs ts) k) c.last es (commas_listed k c h) (omega (arith, b))
            (ap ends_statement (opens_is (at (signs ts) (suc k)) (opens_here k h)))
            (subst (λ (kss : List (List ℕ)). AllSaid (map (λ (ks : List ℕ). map (token_at ts end to) ks) kss) es) all s) in
            call_stands k c h (r.head ∷ r.more) (length es) r.reads r.ends r.many
