use Rattle.std.proofs.Common.{◌≡◌, Some, [], ◌∷◌, ◌++◌, ap, ◌∙◌, refl, Option, List, ℕ}
use Rattle.std.specs.Prelude.{codes}
use Rattle.std.specs.List.{flat_map}
use Rattle.std.proofs.lemmas.List.Elements.{All-head, All-tail}
use Rattle.pfs_event.specs.Verdicts.{verdict_name}
use Rattle.pfs_journal.specs.LineWords.{FitsField, verdict_of}
use Rattle.pfs_journal.specs.Spelling.{optional_text}
use Rattle.pfs_journal.proofs.WordReadings.{verdict_told, verdict_leads, no_some}
use Rattle.pfs_journal.proofs.guess.start.Goals as goal

pub returns-in_err-name : goal.returns-in_err-name
returns-in_err-name g = λ event verdict a b c d fits same.
    let numbers : List (Option ℕ) = a ∷ b ∷ c ∷ d ∷ [] in
    let first = g.in_ok-event.ensures event ((codes " " ++ verdict_name verdict) ++ flat_map optional_text numbers) (All-head FitsField event numbers fits) refl same in
    absurd (g.in_err-name.ensures (verdict_name verdict) (flat_map optional_text numbers) (verdict_leads verdict numbers g.in_ok-event.behind.now first.1))

pub returns-in_err-verdict : goal.returns-in_err-verdict
returns-in_err-verdict g = λ event verdict a b c d fits same.
    let numbers : List (Option ℕ) = a ∷ b ∷ c ∷ d ∷ [] in
    let first = g.in_ok-event.ensures event ((codes " " ++ verdict_name verdict) ++ flat_map optional_text numbers) (All-head FitsField event numbers fits) refl same in
    let name = g.in_ok-name.ensures (verdict_name verdict) (flat_map optional_text numbers) (verdict_leads verdict numbers g.in_ok-event.behind.now first.1) in
    absurd (no_some verdict (g.in_err-verdict.ensures ∙ (ap verdict_of name.0 ∙ verdict_told verdict)))

pub returns-in_err-consumers : goal.returns-in_err-consumers
returns-in_err-consumers g = λ event verdict a b c d fits same.
    let numbers : List (Option ℕ) = a ∷ b ∷ c ∷ d ∷ [] in
    let first = g.in_ok-event.ensures event ((codes " " ++ verdict_name verdict) ++ flat_map optional_text numbers) (All-head FitsField event numbers fits) refl same in
    let name = g.in_ok-name.ensures (verdict_name verdict) (flat_map optional_text numbers) (verdict_leads verdict numbers g.in_ok-event.behind.now first.1) in
    absurd (g.in_err-consumers.ensures a b c d (All-tail FitsField event numbers fits) name.1)

pub returns : goal.returns
returns g = λ event verdict a b c d fits same.
    let numbers : List (Option ℕ) = a ∷ b ∷ c ∷ d ∷ [] in
    let first = g.in_ok-event.ensures event ((codes " " ++ verdict_name verdict) ++ flat_map optional_text numbers) (All-head FitsField event numbers fits) refl same in
    let name = g.in_ok-name.ensures (verdict_name verdict) (flat_map optional_text numbers) (verdict_leads verdict numbers g.in_ok-event.behind.now first.1) in
    let told : Some g.in_ok-verdict.verdict ≡ Some verdict = g.in_ok-verdict.ensures ∙ (ap verdict_of name.0 ∙ verdict_told verdict) in
    let versions = g.in_ok-consumers.ensures a b c d (All-tail FitsField event numbers fits) name.1 in
    cc (first.0, told, versions.0, versions.1, versions.2, versions.3)
