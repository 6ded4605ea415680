-- The names that a call replaces are those that are met in the head and the body of its procedure.
use Rattle.std.proofs.Common.{◌≡◌, ℕ, suc, ◌+◌, ◌-◌, List, [], ◌++◌, refl, sym, ap, ◌∙◌}
use Rattle.std.specs.Prelude.{map}
use Rattle.jade_base.specs.declared.place.Pos.{Pos}
use Rattle.jade_lexer.specs.Lexemes.{TokenAt}
use Rattle.jade_syntax.specs.Abstract.{Name}
use Rattle.proc_expand.specs.Words.{signs, bytes_at}
use Rattle.proc_expand.specs.Names.{first_places}
use Rattle.proc_expand.specs.Refusals.{head, body_end, procedure, param_place}
use Rattle.proc_expand.specs.Written.{items, names_at, from, closed_at, replaced_at}
use Rattle.proc_expand.specs.steps.Replaced.{with_names}
use Rattle.proc_expand.proofs.First.{plus_one}
use Rattle.proc_expand.proofs.NameLists.{met_more, are_first}

module _ (ts : List TokenAt) (end : Pos) (p : ℕ) where
  abbrev pub heads_names : ℕ → List Name
  heads_names n = map (bytes_at ts) (map (param_place p) (from ts end 0 n))

  pub all_replaced : (own mid all : List Name) (start stop n : ℕ) → own ≡ items ts end → n ≡ (head (signs ts) p).params
      → start ≡ (head (signs ts) p).stop + 1 → stop ≡ closed_at ts end (body_end (signs ts) p) → mid ≡ with_names own [] (heads_names n)
      → all ≡ with_names own mid (names_at ts end (from ts end start (stop - start))) → all ≡ replaced_at ts end (procedure (signs ts) p)
  all_replaced own mid all start stop n h params first last g e =
      e ∙ ap (λ u. with_names own u (names_at ts end (from ts end start (stop - start)))) g
      ∙ sym (met_more own [] (heads_names n) (names_at ts end (from ts end start (stop - start))))
      ∙ are_first own [] [] (heads_names n ++ names_at ts end (from ts end start (stop - start))) (λ z. refl)
      ∙ ap (λ i. first_places own [] (heads_names i ++ names_at ts end (from ts end start (stop - start)))) params
      ∙ ap (λ i. first_places own [] (heads_names (head (signs ts) p).params ++ names_at ts end (from ts end i (stop - i))))
      (first ∙ plus_one (head (signs ts) p).stop)
      ∙ ap (λ i. first_places own [] (heads_names (head (signs ts) p).params
      ++ names_at ts end (from ts end (suc (head (signs ts) p).stop) (i - suc (head (signs ts) p).stop)))) last
      ∙ ap (λ u. first_places u [] (heads_names (head (signs ts) p).params
      ++ names_at ts end (from ts end (suc (head (signs ts) p).stop) (closed_at ts end (body_end (signs ts) p) - suc (head (signs ts) p).stop)))) h
