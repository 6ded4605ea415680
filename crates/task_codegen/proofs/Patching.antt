-- The jumps of a chain.
use Rattle.std.proofs.Common.{◌≡◌, ℕ, suc, ◌+◌, ◌<◌, ◌≤◌, List, [], ◌∷◌, ◌++◌, Some, refl, ap, ap₂, sym, ◌∙◌, take, drop, length, length-append, append_assoc}
use Rattle.std.proofs.Common.{append-nil, arith, add-one, inl, inr}
use Rattle.std.specs.Prelude.{slice_index_or}
use Rattle.std.proofs.lemmas.List.{take_all, drop_all, take_more}
use Rattle.std.proofs.lemmas.List.{get_or_append_left, take-append-le}
use Rattle.std.proofs.lemmas.Bool.{cases_lt}
use Rattle.std.proofs.Math.Seq.{drop-cons, get_or-append_seam, take-append_seam}
use Rattle.std.proofs.lemmas.Option.{slice_get_within, get_or_from_slice_get, slice_get-get_or}
use Rattle.code_meaning.specs.declared.code.Logic.{Logic}
use Rattle.code_meaning.specs.declared.code.Instruction.{Instruction}
use Rattle.code_meaning.specs.declared.code.Instruction.TheVariants as i
use Rattle.task_codegen.specs.Chains.{Codes, counted, opened, closed, Places}

pub opened_both : (l : Logic) (t : ℕ) (cs ds : Codes) → opened l t (cs ++ ds) ≡ opened l t cs ++ opened l t ds
opened_both l t [] ds = refl
opened_both l t (c ∷ cs) ds = ap (λ x. i.Decide l t 0 ∷ (c ++ x)) (opened_both l t cs ds)
    ∙ ap (λ x. i.Decide l t 0 ∷ x) (sym (append_assoc c (opened l t cs) (opened l t ds)))

-- the jumps from one on are written
pub record Closing (places : List ℕ) (before now : List Instruction) (k : ℕ) : Type 0 where
  pub within : k ≤ length places
  pub code : (l : Logic) (t : ℕ) (base : List Instruction) (cs : Codes) → Places l t base cs places → before ≡ base ++ opened l t cs → now
      ≡ base ++ (opened l t (take k cs) ++ closed l t (drop k cs))

pub begins : (places : List ℕ) (code : List Instruction) (k : ℕ) → k ≡ length places → Closing places code code k
begins places code k e = record {
  within = omega (arith, e);
  code = λ l t base cs h g.
      let le : length cs ≤ k = omega (arith, e, h.count) in
      g ∙ ap (λ x. base ++ x) (sym (append-nil (opened l t cs)) ∙ ap₂ (λ a b. opened l t a ++ closed l t b) (sym (take_all k cs le)) (sym (drop_all k cs le)));
}

pub one_closed : (places : List ℕ) (before now next : List Instruction) (k j at : ℕ) → j + 1 ≡ k → at ≡ slice_index_or places j at → Closing places before now k
    → ((base rest : List Instruction) (old : Instruction) → now ≡ base ++ old ∷ rest → length base ≡ at → next ≡ base ++ counted old (length rest) ∷ rest)
    → Closing places before next j
one_closed places before now next k j at e is h written = record {
  within = omega (arith, e, h.within);
  code = λ l t base cs p g.
      let lt : j < length cs = omega (arith, e, h.within, p.count) in
      let c = slice_index_or cs j [] in
      let front = opened l t (take j cs) in
      let back = closed l t (drop (suc j) cs) in
      let place : length (base ++ front) ≡ at =
      length-append base front ∙ sym (p.each j at (slice_get-get_or places j at (omega (arith, e, h.within)) ∙ ap Some (sym is))) in
      let opens : opened l t (take (j + 1) cs) ≡ front ++ i.Decide l t 0 ∷ c =
      ap (opened l t) (take_more cs j [] lt) ∙ opened_both l t (take j cs) (c ∷ []) ∙ ap (λ x. front ++ i.Decide l t 0 ∷ x) (append-nil c) in
      let was : now ≡ (base ++ front) ++ i.Decide l t 0 ∷ (c ++ back) =
      h.code l t base cs p g
      ∙ ap (λ m. base ++ (opened l t (take m cs) ++ closed l t (drop m cs))) (sym e)
      ∙ ap₂ (λ a m. base ++ (a ++ closed l t (drop m cs))) opens (add-one j)
      ∙ ap (λ x. base ++ x) (append_assoc front (i.Decide l t 0 ∷ c) back)
      ∙ sym (append_assoc base front (i.Decide l t 0 ∷ (c ++ back))) in
      written (base ++ front) (c ++ back) (i.Decide l t 0) was place
      ∙ ap (λ m. (base ++ front) ++ i.Decide l t m ∷ (c ++ back)) (length-append c back)
      ∙ append_assoc base front (closed l t (c ∷ drop (suc j) cs))
      ∙ ap (λ x. base ++ (front ++ closed l t x)) (sym (drop-cons cs j [] lt));
}

pub all_closed : (places : List ℕ) (before now : List Instruction) (k : ℕ) → k ≤ 0 → Closing places before now k
    → (l : Logic) (t : ℕ) (base : List Instruction) (cs : Codes) → Places l t base cs places → before ≡ base ++ opened l t cs → now ≡ base ++ closed l t cs
all_closed places before now k le h l t base cs p g =
    let z : k ≡ 0 = omega (arith, le) in
    h.code l t base cs p g ∙ ap (λ m. base ++ (opened l t (take m cs) ++ closed l t (drop m cs))) z

-- one jump more
pub one_more : (l : Logic) (t : ℕ) (base : List Instruction) (cs : Codes) (c : List Instruction) (places : List ℕ) (at : ℕ) → Places l t base cs places → at
    ≡ length (base ++ opened l t cs) → Places l t base (cs ++ c ∷ []) (places ++ at ∷ [])
one_more l t base cs c places at h e = record {
  count = length-append places (at ∷ []) ∙ ap (λ k. k + 1) h.count ∙ sym (length-append cs (c ∷ []));
  each = λ j p g.
      let within = slice_get_within (places ++ at ∷ []) j p g in
      elim (cases_lt j (length places)) [
        | inl lt ↦
            h.each j p (slice_get-get_or places j p lt ∙ ap Some (sym (get_or_append_left places (at ∷ []) p j lt)
            ∙ get_or_from_slice_get (places ++ at ∷ []) j p p g))
            ∙ ap (λ x. length base + length (opened l t x)) (sym (take-append-le j cs (c ∷ []) (omega (arith, lt, h.count))))
        | inr le ↦
            let last : j ≡ length places = omega (arith, le, within, length-append places (at ∷ [])) in
            sym (get_or_from_slice_get (places ++ at ∷ []) j p p g) ∙ ap (λ k. slice_index_or (places ++ at ∷ []) k p) last ∙ get_or-append_seam places at [] p
            ∙ e ∙ length-append base (opened l t cs)
            ∙ ap (λ x. length base + length (opened l t x)) (sym (ap (λ k. take k (cs ++ c ∷ [])) (last ∙ h.count) ∙ take-append_seam cs (c ∷ [])))
      ];
}
