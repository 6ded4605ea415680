-- The brackets of the parts of a source are closed among them, and no word of items is in a statement.
use Rattle.std.proofs.Common.{◌≡◌, ℕ, ◌+◌, Bool, true, false, ◌&&◌, List, [], ◌∷◌, ◌++◌, Option, Some, None, map, refl, sym, ap, ◌∙◌, subst}
use Rattle.std.specs.Prelude.{not, if◌then◌else◌}
use Rattle.std.specs.List.{list_all, flat_map}
use Rattle.std.proofs.lemmas.List.{map-append, append_assoc}
use Rattle.jade_syntax.specs.declared.tree.CellRef.{CellRef, out-CellRef}
use Rattle.jade_syntax.specs.declared.tree.DeclareWord.{DeclareWord}
use Rattle.jade_syntax.specs.declared.tree.DeclareWord.TheVariants.{Rd, Wr, RdWr, DfRd, DfWr, DfRdWr, Cm, NoRd, NoWr, NoRdWr}
use Rattle.jade_syntax.specs.declared.tree.Expr.{Expr}
use Rattle.jade_syntax.specs.declared.tree.Named.{Named}
use Rattle.jade_syntax.specs.declared.tree.ObjectRef.{ObjectRef}
use Rattle.jade_syntax.specs.declared.tree.ValueKind.{ValueKind}
use Rattle.jade_syntax.specs.declared.tree.ValueKind.TheVariants.{Int, Bool as BoolKind}
use Rattle.jade_syntax.specs.Abstract.{Name}
use Rattle.jade_parser.specs.declared.Sign.TheVariants.{LeftBracket, RightBracket, LeftParen, RightParen, LeftBrace, RightBrace, Becomes, Semicolon}
use Rattle.jade_parser.specs.declared.Sign.TheVariants.{Comma, DotDot, IfWord, ElseWord, ForWord, InWord, WithonlyWord, WithWord, DoWord, ContWord}
use Rattle.jade_parser.specs.Spelled.{Tokens, Fixed, Called, Part, Parts, tokens_of, fixed, marked, plain, bracketed, outer}
use Rattle.jade_parser.specs.Statements.{kind_word, declare_word, outer_index, object_parts, target_parts, braced, more_names, name_parts}
use Rattle.proc_expand.specs.declared.sign.Bracket.{Bracket}
use Rattle.proc_expand.specs.declared.sign.Bracket.TheVariants.{Round, Square, Curly}
use Rattle.proc_expand.specs.declared.sign.Sign.{Sign}
use Rattle.proc_expand.specs.declared.sign.Sign.TheVariants as mark
use Rattle.proc_expand.specs.declared.sign.End.TheVariants.{Closed, Wrong}
use Rattle.proc_expand.specs.Words.{is_item_word, ends_statement, same_bracket, closing_from}
use Rattle.proc_expand.specs.Refusals.{commas_from}
use Rattle.proc_laws.specs.SourceTree as source
use Rattle.proc_laws.specs.SourceTree.{Spoken, Spokens}
use Rattle.proc_laws.specs.SourceReading.{more_arguments, argument_parts, spoken_parts, block_of}
use Rattle.proc_laws.proofs.SignsOfTokens.{token_sign, parts_signs}
use Rattle.proc_laws.proofs.InnerTokens as inner
use Rattle.proc_laws.proofs.InnerTokens.{Inner, outer_within}

-- the place after some signs
abbrev pub past : ℕ → List Sign → ℕ
past k [] = k
past k (s ∷ us) = past (k + 1) us

pub past_both : (k : ℕ) (a b : List Sign) → past k (a ++ b) ≡ past (past k a) b
past_both k [] b = refl
past_both k (s ∷ a) b = past_both (k + 1) a b

-- no word of items
abbrev pub bare : Sign → Bool
bare s = not (is_item_word s)

-- brackets among some signs are closed among them
pub record Level (us : List Sign) : Type 0 where
  pub go : (a : Bracket) (st : List Bracket) (k : ℕ) (vs : List Sign) → closing_from (a ∷ st) k (us ++ vs) ≡ closing_from (a ∷ st) (past k us) vs
  pub no_items : list_all bare us ≡ true

-- neither a bracket nor a word of items
abbrev pub flat : Sign → Bool
flat (mark.Opens b) = false
flat (mark.Closes b) = false
flat mark.ItemWord = false
flat s = true

and_true : (a b : Bool) → a ≡ true → b ≡ true → (a && b) ≡ true
and_true true b h k = k
and_true false b h k = absurd (cc)

all_both : (is : Sign → Bool) (a b : List Sign) → list_all is a ≡ true → list_all is b ≡ true → list_all is (a ++ b) ≡ true
all_both is [] b h k = k
all_both is (s ∷ a) b h k = by (is s) h (λ g. all_both is a b g k)
  where
    by : (t : Bool) → (t && list_all is a) ≡ true → (list_all is a ≡ true → list_all is (a ++ b) ≡ true) → (t && list_all is (a ++ b)) ≡ true
    by true g f = f g
    by false g f = absurd (cc)

level_none : Level []
level_none = record { go = λ a st k vs. refl; no_items = refl }

level_both : (u v : List Sign) → Level u → Level v → Level (u ++ v)
level_both u v h g = record {
  go = λ a st k vs.
      ap (closing_from (a ∷ st) k) (append_assoc u v vs) ∙ h.go a st k (v ++ vs) ∙ g.go a st (past k u) vs
      ∙ ap (λ (i : ℕ). closing_from (a ∷ st) i vs) (sym (past_both k u v));
  no_items = all_both bare u v h.no_items g.no_items;
}

level_one : (s : Sign) → flat s ≡ true → Level (s ∷ [])
level_one (mark.Opens b) h = absurd (cc)
level_one (mark.Closes b) h = absurd (cc)
level_one mark.ItemWord h = absurd (cc)
level_one mark.Proc h = record { go = λ a st k vs. refl; no_items = refl }
level_one mark.Main h = record { go = λ a st k vs. refl; no_items = refl }
level_one mark.Else h = record { go = λ a st k vs. refl; no_items = refl }
level_one mark.Kind h = record { go = λ a st k vs. refl; no_items = refl }
level_one mark.Called h = record { go = λ a st k vs. refl; no_items = refl }
level_one mark.Semicolon h = record { go = λ a st k vs. refl; no_items = refl }
level_one mark.Comma h = record { go = λ a st k vs. refl; no_items = refl }
level_one mark.Other h = record { go = λ a st k vs. refl; no_items = refl }

same_self : (b : Bracket) → same_bracket b b ≡ true
same_self Round = refl
same_self Square = refl
same_self Curly = refl

-- what is open around them is closed after them
pub closes_after : (us : List Sign) → Level us → (b : Bracket) (k : ℕ) (vs : List Sign)
    → closing_from (b ∷ []) k (us ++ mark.Closes b ∷ vs) ≡ Closed (past k us)
closes_after us h b k vs =
    h.go b [] k (mark.Closes b ∷ vs) ∙ ap (λ t. if t then Closed (past k us) else Wrong (past k us)) (same_self b)

level_in : (b : Bracket) (us : List Sign) → Level us → Level (mark.Opens b ∷ (us ++ mark.Closes b ∷ []))
level_in b us h = record {
  go = λ a st k vs.
      ap (closing_from (b ∷ a ∷ st) (k + 1)) (append_assoc us (mark.Closes b ∷ []) vs) ∙ h.go b (a ∷ st) (k + 1) (mark.Closes b ∷ vs)
      ∙ ap (λ t. if t then closing_from (a ∷ st) (past (k + 1) us + 1) vs else Wrong (past (k + 1) us)) (same_self b)
      ∙ ap (λ (i : ℕ). closing_from (a ∷ st) i vs) (sym (past_both (k + 1) us (mark.Closes b ∷ [])));
  no_items = all_both bare us (mark.Closes b ∷ []) h.no_items refl;
}

-- ---- expressions

-- no statement may stand after it
abbrev pub calm : Sign → Bool
calm s = not (ends_statement s)

-- also no commas are outside of brackets, and no statement ends
pub record Quiet (us : List Sign) : Type 0 where
  pub level : Level us
  pub go : (st : List Bracket) (k : ℕ) (vs : List Sign) → commas_from st k (us ++ vs) ≡ commas_from st (past k us) vs
  pub all_calm : list_all calm us ≡ true

quiet_both : (u v : List Sign) → Quiet u → Quiet v → Quiet (u ++ v)
quiet_both u v h g = record {
  level = level_both u v h.level g.level;
  go = λ st k vs.
      ap (commas_from st k) (append_assoc u v vs) ∙ h.go st k (v ++ vs) ∙ g.go st (past k u) vs
      ∙ ap (λ (i : ℕ). commas_from st i vs) (sym (past_both k u v));
  all_calm = all_both calm u v h.all_calm g.all_calm;
}

quiet_in : (b : Bracket) (us : List Sign) → calm (mark.Opens b) ≡ true → calm (mark.Closes b) ≡ true → Quiet us
    → Quiet (mark.Opens b ∷ (us ++ mark.Closes b ∷ []))
quiet_in b us o c h = record {
  level = level_in b us h.level;
  go = λ st k vs.
      ap (commas_from (b ∷ st) (k + 1)) (append_assoc us (mark.Closes b ∷ []) vs) ∙ h.go (b ∷ st) (k + 1) (mark.Closes b ∷ vs)
      ∙ ap (λ t. if t then commas_from st (past (k + 1) us + 1) vs else []) (same_self b)
      ∙ ap (λ (i : ℕ). commas_from st i vs) (sym (past_both (k + 1) us (mark.Closes b ∷ [])));
  all_calm = and_true (calm (mark.Opens b)) (list_all calm (us ++ mark.Closes b ∷ [])) o
      (all_both calm us (mark.Closes b ∷ []) h.all_calm (and_true (calm (mark.Closes b)) true c refl));
}

quiet_other : (st : List Bracket) (k : ℕ) (vs : List Sign) → commas_from st k (mark.Other ∷ vs) ≡ commas_from st (k + 1) vs
quiet_other [] k vs = refl
quiet_other (a ∷ st) k vs = refl

quiet_called : (st : List Bracket) (k : ℕ) (vs : List Sign) → commas_from st k (mark.Called ∷ vs) ≡ commas_from st (k + 1) vs
quiet_called [] k vs = refl
quiet_called (a ∷ st) k vs = refl

other_alone : Quiet (mark.Other ∷ [])
other_alone = record { level = level_one mark.Other refl; go = quiet_other; all_calm = refl }

none_quiet : Quiet []
none_quiet = record { level = level_none; go = λ st k vs. refl; all_calm = refl }

inner_quiet : {t : Tokens} {x : List Name} → Inner t x → Quiet (map token_sign t)
inner_quiet inner.nothing = none_quiet
inner_quiet (inner.joined a b x y h g) =
    subst Quiet (sym (map-append token_sign a b)) (quiet_both (map token_sign a) (map token_sign b) (inner_quiet h) (inner_quiet g))
inner_quiet (inner.name x) = record { level = level_one mark.Called refl; go = quiet_called; all_calm = refl }
inner_quiet (inner.number v) = other_alone
inner_quiet (inner.sign s e) = subst (λ (m : Sign). Quiet (m ∷ [])) (sym e) other_alone
inner_quiet (inner.round a x h) =
    subst (λ (l : List Sign). Quiet (mark.Opens Round ∷ l)) (sym (map-append token_sign a (Fixed RightParen ∷ [])))
    (quiet_in Round (map token_sign a) refl refl (inner_quiet h))
inner_quiet (inner.square a x h) =
    subst (λ (l : List Sign). Quiet (mark.Opens Square ∷ l)) (sym (map-append token_sign a (Fixed RightBracket ∷ [])))
    (quiet_in Square (map token_sign a) refl refl (inner_quiet h))

pub outer_quiet : (e : Expr) → Quiet (parts_signs (outer e))
outer_quiet e = inner_quiet (outer_within e).inner

-- ---- statements

pub record Even (ps : Parts) : Type 0 where
  pub level : Level (parts_signs ps)

even_none : Even []
even_none = record { level = level_none }

pub signs_both : (a b : Parts) → parts_signs (a ++ b) ≡ parts_signs a ++ parts_signs b
signs_both a b = ap (map token_sign) (map-append (λ (p : Part). p.token) a b) ∙ map-append token_sign (tokens_of a) (tokens_of b)

pub even_both : (a b : Parts) → Even a → Even b → Even (a ++ b)
even_both a b h g = record { level = subst Level (sym (signs_both a b)) (level_both (parts_signs a) (parts_signs b) h.level g.level) }

pub even_one : (p : Part) → flat (token_sign p.token) ≡ true → Even (p ∷ [])
even_one p h = record { level = level_one (token_sign p.token) h }

pub even_next : (p : Part) (ps : Parts) → flat (token_sign p.token) ≡ true → Even ps → Even (p ∷ ps)
even_next p ps h g = record { level = level_both (token_sign p.token ∷ []) (parts_signs ps) (level_one (token_sign p.token) h) g.level }

pub even_outer : (e : Expr) → Even (outer e)
even_outer e = record { level = (outer_quiet e).level }

pub even_in : (b : Bracket) (p q : Part) (ps : Parts) → token_sign p.token ≡ mark.Opens b → token_sign q.token ≡ mark.Closes b → Even ps
    → Even (p ∷ (ps ++ q ∷ []))
even_in b p q ps o c h = record {
  level = subst Level
      (λ i. sym o i ∷ (sym (signs_both ps (q ∷ []) ∙ ap (λ (s : Sign). parts_signs ps ++ s ∷ []) c)) i)
      (level_in b (parts_signs ps) h.level);
}

even_square : (ps : Parts) → Even ps → Even (bracketed ps)
even_square ps h = even_in Square (fixed LeftBracket) (fixed RightBracket) ps refl refl h

pub even_index : (o : Option Expr) → Even (outer_index o)
even_index None = even_none
even_index (Some e) = even_square (outer e) (even_outer e)

pub even_target : (c : CellRef) → Even (target_parts c)
even_target c =
    even_next (marked (Called (out-CellRef c).name) (out-CellRef c).pos) _ refl
    (even_both (outer_index (out-CellRef c).family) (bracketed (outer (out-CellRef c).cell)) (even_index (out-CellRef c).family)
    (even_square (outer (out-CellRef c).cell) (even_outer (out-CellRef c).cell)))

pub even_object : (o : ObjectRef) → Even (object_parts o)
even_object o = even_next (marked (Called o.name) o.pos) (outer_index o.member) refl (even_index o.member)

even_more_names : (ns : List Named) → Even (more_names ns)
even_more_names [] = even_none
even_more_names (n ∷ ns) =
    even_next (fixed Comma) _ refl (even_next (marked (Called n.name) n.pos) (more_names ns) refl (even_more_names ns))

pub even_names : (ns : List Named) → Even (name_parts ns)
even_names [] = even_none
even_names (n ∷ ns) = even_next (marked (Called n.name) n.pos) (more_names ns) refl (even_more_names ns)

kind_flat : (k : ValueKind) → flat (token_sign (kind_word k)) ≡ true
kind_flat Int = refl
kind_flat BoolKind = refl

declare_flat : (w : DeclareWord) → flat (token_sign (declare_word w)) ≡ true
declare_flat Rd = refl
declare_flat Wr = refl
declare_flat RdWr = refl
declare_flat DfRd = refl
declare_flat DfWr = refl
declare_flat DfRdWr = refl
declare_flat Cm = refl
declare_flat NoRd = refl
declare_flat NoWr = refl
declare_flat NoRdWr = refl

even_value : (e : Expr) → Even (fixed Becomes ∷ (outer e ++ fixed Semicolon ∷ []))
even_value e = even_next (fixed Becomes) (outer e ++ fixed Semicolon ∷ []) refl
    (even_both (outer e) (fixed Semicolon ∷ []) (even_outer e) (even_one (fixed Semicolon) refl))

even_more_arguments : (es : List Expr) → Even (more_arguments es)
even_more_arguments [] = even_none
even_more_arguments (e ∷ es) =
    even_next (fixed Comma) (outer e ++ more_arguments es) refl (even_both (outer e) (more_arguments es) (even_outer e) (even_more_arguments es))

pub even_arguments : (es : List Expr) → Even (argument_parts es)
even_arguments [] = even_none
even_arguments (e ∷ es) = even_both (outer e) (more_arguments es) (even_outer e) (even_more_arguments es)

pub even_braced : (b : List Parts) → Even (flat_map (λ (t : Parts). t) b) → Even (braced b)
even_braced b h = even_in Curly (fixed LeftBrace) (fixed RightBrace) (flat_map (λ (t : Parts). t) b) refl refl h

-- the names of a `do` list in their brackets, after a section
withonly_names : (a : Parts) (ns : List Named) → Even a
    → Even ((((a ++ fixed DoWord ∷ []) ++ fixed LeftParen ∷ []) ++ name_parts ns) ++ fixed RightParen ∷ [])
withonly_names a ns h =
    subst Even (again a (fixed DoWord ∷ []) (fixed LeftParen ∷ []) (name_parts ns) (fixed RightParen ∷ []))
    (even_both (a ++ fixed DoWord ∷ []) (fixed LeftParen ∷ (name_parts ns ++ fixed RightParen ∷ []))
    (even_both a (fixed DoWord ∷ []) h (even_one (fixed DoWord) refl))
    (even_in Round (fixed LeftParen) (fixed RightParen) (name_parts ns) refl refl (even_names ns)))
  where
    again : (a b c d e : Parts) → (a ++ b) ++ (c ++ (d ++ e)) ≡ (((a ++ b) ++ c) ++ d) ++ e
    again a b c d e =
        sym (append_assoc ((a ++ b) ++ c) d e ∙ append_assoc (a ++ b) c (d ++ e))

-- arguments in their brackets, and a `;`
call_even : (a : Parts) → Even a → Even (fixed LeftParen ∷ (a ++ fixed RightParen ∷ fixed Semicolon ∷ []))
call_even a h =
    subst (λ (ps : Parts). Even (fixed LeftParen ∷ ps)) (append_assoc a (fixed RightParen ∷ []) (fixed Semicolon ∷ []))
    (even_both (fixed LeftParen ∷ (a ++ fixed RightParen ∷ [])) (fixed Semicolon ∷ [])
    (even_in Round (fixed LeftParen) (fixed RightParen) a refl refl h) (even_one (fixed Semicolon) refl))

mutual
  pub even_spoken : (a : Spoken) → Even (spoken_parts a)
  even_spoken (source.Local kind x at e) =
      even_next (plain (kind_word kind)) _ (kind_flat kind) (even_next (marked (Called x) at) _ refl (even_value e))
  even_spoken (source.Assign x at e) = even_next (marked (Called x) at) _ refl (even_value e)
  even_spoken (source.Store c e) =
      even_both _ (fixed Semicolon ∷ []) (even_both _ (outer e) (even_both (target_parts c) (fixed Becomes ∷ []) (even_target c)
      (even_one (fixed Becomes) refl)) (even_outer e)) (even_one (fixed Semicolon) refl)
  even_spoken (source.If e first) =
      even_next (fixed IfWord) _ refl (even_both _ [] (even_both (outer e) (braced (block_of first)) (even_outer e)
      (even_braced (block_of first) (even_spokens first))) even_none)
  even_spoken (source.IfElse e first other) =
      even_next (fixed IfWord) _ refl (even_both _ (fixed ElseWord ∷ braced (block_of other))
      (even_both (outer e) (braced (block_of first)) (even_outer e) (even_braced (block_of first) (even_spokens first)))
      (even_next (fixed ElseWord) (braced (block_of other)) refl (even_braced (block_of other) (even_spokens other))))
  even_spoken (source.For x at low high body) =
      even_next (fixed ForWord) _ refl (even_next (marked (Called x) at) _ refl (even_next (fixed InWord) _ refl
      (even_both _ (braced (block_of body)) (even_both _ (outer high) (even_both (outer low) (fixed DotDot ∷ []) (even_outer low)
      (even_one (fixed DotDot) refl)) (even_outer high)) (even_braced (block_of body) (even_spokens body)))))
  even_spoken (source.Withonly at section names body) =
      even_next (marked (Fixed WithonlyWord) at) _ refl
      (even_both _ (braced (block_of body)) (withonly_names (braced (block_of section)) names (even_braced (block_of section) (even_spokens section)))
      (even_braced (block_of body) (even_spokens body)))
  even_spoken (source.With at section) =
      even_next (marked (Fixed WithWord) at) _ refl
      (even_both _ (fixed Semicolon ∷ []) (even_both (braced (block_of section)) (fixed ContWord ∷ [])
      (even_braced (block_of section) (even_spokens section)) (even_one (fixed ContWord) refl)) (even_one (fixed Semicolon) refl))
  even_spoken (source.Declare how at o) =
      even_next (marked (declare_word how) at) _ (declare_flat how)
      (even_both _ (fixed Semicolon ∷ []) (even_in Round (fixed LeftParen) (fixed RightParen) (object_parts o) refl refl (even_object o))
      (even_one (fixed Semicolon) refl))
  even_spoken (source.Call x at args) =
      even_next (marked (Called x) at) _ refl (call_even (argument_parts args) (even_arguments args))

  pub even_spokens : (b : Spokens) → Even (flat_map (λ (t : Parts). t) (block_of b))
  even_spokens source.Done = even_none
  even_spokens (source.Then a more) = even_both (spoken_parts a) (flat_map (λ (t : Parts). t) (block_of more)) (even_spoken a) (even_spokens more)

-- ---- parts after none of which a statement may stand

pub record Calm (ps : Parts) : Type 0 where
  pub is : list_all calm (parts_signs ps) ≡ true

pub calm_none : Calm []
calm_none = record { is = refl }

pub calm_both : (a b : Parts) → Calm a → Calm b → Calm (a ++ b)
calm_both a b h g = record { is = ap (list_all calm) (signs_both a b) ∙ all_both calm (parts_signs a) (parts_signs b) h.is g.is }

pub calm_next : (p : Part) (ps : Parts) → calm (token_sign p.token) ≡ true → Calm ps → Calm (p ∷ ps)
calm_next p ps h g = record { is = and_true (calm (token_sign p.token)) (list_all calm (parts_signs ps)) h g.is }

pub calm_outer : (e : Expr) → Calm (outer e)
calm_outer e = record { is = (outer_quiet e).all_calm }

pub calm_square : (e : Expr) → Calm (bracketed (outer e))
calm_square e =
    calm_next (fixed LeftBracket) (outer e ++ fixed RightBracket ∷ []) refl
    (calm_both (outer e) (fixed RightBracket ∷ []) (calm_outer e) (calm_next (fixed RightBracket) [] refl calm_none))

pub calm_index : (o : Option Expr) → Calm (outer_index o)
calm_index None = calm_none
calm_index (Some e) = calm_square e

pub calm_more_names : (ns : List Named) → Calm (more_names ns)
calm_more_names [] = calm_none
calm_more_names (n ∷ ns) =
    calm_next (fixed Comma) _ refl (calm_next (marked (Called n.name) n.pos) (more_names ns) refl (calm_more_names ns))

pub calm_names : (ns : List Named) → Calm (name_parts ns)
calm_names [] = calm_none
calm_names (n ∷ ns) = calm_next (marked (Called n.name) n.pos) (more_names ns) refl (calm_more_names ns)

calm_more_arguments : (es : List Expr) → Calm (more_arguments es)
calm_more_arguments [] = calm_none
calm_more_arguments (e ∷ es) =
    calm_next (fixed Comma) (outer e ++ more_arguments es) refl (calm_both (outer e) (more_arguments es) (calm_outer e) (calm_more_arguments es))

pub calm_arguments : (es : List Expr) → Calm (argument_parts es)
calm_arguments [] = calm_none
calm_arguments (e ∷ es) = calm_both (outer e) (more_arguments es) (calm_outer e) (calm_more_arguments es)
