-- Answers against the entries that they stand behind, one entry at a time.
use Rattle.std.proofs.Common.{ℕ, ◌≡◌, ◌+◌, ◌≤◌, ◌<◌, ◌↔◌, List, [], ◌∷◌, length, drop, get_or, Option, Some, inl, inr, eqb, sym, ap, ◌∙◌, arith}
use Rattle.std.specs.List.{filter_map, cons_option}
use Rattle.std.proofs.lemmas.Bool.{cases_lt}
use Rattle.std.proofs.lemmas.Bool.Decides.{Decides-eqb}
use Rattle.std.specs.Prelude.{IsTrue}
use Rattle.std.proofs.lemmas.List.{drop_more, drop_all, get_or-map}
use Rattle.pfs_event.specs.declared.entry.Entry.{Entry}
use Rattle.pfs_text.specs.declared.values.RowValue.{RowValue}
use Rattle.pfs_journal.specs.Reports.{rows_asked, sizes_of, AreAnswered}

module _ (entry : Entry) (rest : List Entry) (n : ℕ) (answers : List (List (List RowValue))) (place : ℕ) (asks : rows_asked entry ≡ Some n) where
  here : List (List RowValue)
  here = get_or answers place []

  asked_is : filter_map rows_asked (entry ∷ rest) ≡ n ∷ filter_map rows_asked rest
  asked_is = ap (λ (o : Option ℕ). cons_option o (filter_map rows_asked rest)) asks

  sizes_are : place < length answers → sizes_of (drop place answers) ≡ get_or (sizes_of answers) place 0 ∷ sizes_of (drop (place + 1) answers)
  sizes_are within =
      ap sizes_of (drop_more answers place [] within)
      ∙ ap (λ k. k ∷ sizes_of (drop (place + 1) answers)) (sym (get_or-map (λ (answer : List (List RowValue)). length answer) answers place [] 0 within))

  -- the answer that is due is there
  pub fits_here : place < length answers → get_or (sizes_of answers) place 0 ≡ n → (place + 1 ≤ length answers) × (AreAnswered (entry ∷ rest) (drop place answers) ↔ AreAnswered rest (drop (place + 1) answers))
  fits_here within size =
      let left : sizes_of (drop place answers) ≡ n ∷ sizes_of (drop (place + 1) answers) = sizes_are within ∙ ap (λ k. k ∷ sizes_of (drop (place + 1) answers)) size in (
        omega arith,
        (
          λ same. let e : n ∷ sizes_of (drop (place + 1) answers) ≡ n ∷ filter_map rows_asked rest = sym left ∙ (same ∙ asked_is) in cc,
          λ same. left ∙ (ap (λ (z : List ℕ). n ∷ z) same ∙ sym asked_is),
        ),
      )

  -- it isn't
  pub fits_not : ¬ ((place < length answers) × (get_or (sizes_of answers) place 0 ≡ n)) → ¬ AreAnswered (entry ∷ rest) (drop place answers)
  fits_not none same = elim (cases_lt place (length answers)) [
    | inl within ↦
        let e : get_or (sizes_of answers) place 0 ∷ sizes_of (drop (place + 1) answers) ≡ n ∷ filter_map rows_asked rest = sym (sizes_are within) ∙ (same ∙ asked_is) in
        let size : get_or (sizes_of answers) place 0 ≡ n = cc in
        none (within, size)
    | inr past ↦
        let e : sizes_of [] ≡ n ∷ filter_map rows_asked rest = ap sizes_of (sym (drop_all place answers past)) ∙ (same ∙ asked_is) in
        absurd (cc)
  ]

-- no entry is left
pub fits_end : (entries : List Entry) (answers : List (List (List RowValue))) (index place : ℕ) → length entries ≤ index → place ≤ length answers
    → (AreAnswered entries answers ↔ AreAnswered (drop index entries) (drop place answers)) → (IsTrue (eqb place (length answers)) ↔ AreAnswered entries answers)
fits_end entries answers index place none within same =
    let no_entry : filter_map rows_asked (drop index entries) ≡ [] = ap (filter_map rows_asked) (drop_all index entries none) in (
      λ yes. let e : place ≡ length answers = (Decides-eqb place (length answers)).0 yes in same.1 (ap sizes_of (drop_all place answers (omega arith)) ∙ sym no_entry),
      λ all. (Decides-eqb place (length answers)).1 (ends (same.0 all ∙ no_entry)),
    )
  where
    ends : sizes_of (drop place answers) ≡ [] → place ≡ length answers
    ends empty = elim (cases_lt place (length answers)) [
      | inl lt ↦ let e : get_or (sizes_of answers) place 0 ∷ sizes_of (drop (place + 1) answers) ≡ [] = sym (cons_here lt) ∙ empty in absurd (cc)
      | inr ge ↦ omega (arith, within, ge)
    ]
      where
        cons_here : place < length answers → sizes_of (drop place answers) ≡ get_or (sizes_of answers) place 0 ∷ sizes_of (drop (place + 1) answers)
        cons_here lt = ap sizes_of (drop_more answers place [] lt) ∙ ap (λ k. k ∷ sizes_of (drop (place + 1) answers)) (sym (get_or-map (λ (answer : List (List RowValue)). length answer) answers place [] 0 lt))
