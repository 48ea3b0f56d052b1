-- The labels of a session's actions name the changes that stand next among all its own.
use Rattle.std.proofs.Common.{ℕ, ◌≡◌, ◌+◌, ◌-◌, List, [], ◌∷◌, ◌++◌, length, ap, sym, ◌∙◌, subst, length-append, arith}
use Rattle.std.specs.List.{slice_index_or}
use Rattle.std.proofs.Math.Seq.{get_or-append_seam}
use Rattle.std.proofs.lemmas.List.{append_assoc}
use Rattle.pfs_admin.specs.declared.changes.Change.{Change}
use Rattle.pfs_admin.specs.declared.changes.Change.TheVariants.{Setup}
use Rattle.pfs_admin.specs.declared.changes.SetupStatement.TheVariants.{Show}
use Rattle.pfs_board.specs.declared.view.Label.{Label}
use Rattle.pfs_play.specs.Errands.{LabelsName}

pub asked_there : (change : Label → Change) (session : ℕ) (all : List Change) → ((line : ℕ) → change (record { session = session; line = line }) ≡ slice_index_or all (line - 1) (Setup Show))
    → (made : ℕ) (before now after : List Change) → all ≡ before ++ (now ++ after) → length before ≡ made → LabelsName change session made now
asked_there change session all at made before [] after e long = tt
asked_there change session all at made before (one ∷ others) after e long = (
  at (made + 1) ∙ (ap (λ z. slice_index_or all z (Setup Show)) (one_less made) ∙ (ap (λ z. slice_index_or all z (Setup Show)) (sym long) ∙ (ap (λ z. slice_index_or z (length before) (Setup Show)) e ∙ get_or-append_seam before one (others ++ after) (Setup Show)))),
  asked_there change session all at (made + 1) (before ++ one ∷ []) others after (e ∙ sym (append_assoc before (one ∷ []) (others ++ after))) (longer (length before) made (length (before ++ one ∷ [])) long (length-append before (one ∷ []))),
) where
  one_less : (n : ℕ) → n + 1 - 1 ≡ n
  one_less n = omega arith

  longer : (n m k : ℕ) → n ≡ m → k ≡ n + 1 → k ≡ m + 1
  longer n m k e f = omega (arith, e, f)

pub asked_split : (change : Label → Change) (session made : ℕ) (xs ys : List Change) → LabelsName change session made (xs ++ ys) → LabelsName change session made xs × LabelsName change session (made + length xs) ys
asked_split change session made [] ys a = let same : made ≡ made + 0 = omega arith in (tt, subst (λ n. LabelsName change session n ys) same a)
asked_split change session made (x ∷ xs) ys a =
    let rest = asked_split change session (made + 1) xs ys a.1 in
    let same : made + 1 + length xs ≡ made + length (x ∷ xs) = omega arith in
    ((a.0, rest.0), subst (λ n. LabelsName change session n ys) same rest.1)
