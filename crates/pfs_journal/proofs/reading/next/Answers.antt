use Rattle.std.proofs.Common.{ℕ, List, ◌≡◌, ◌≤◌, ◌+◌, ◌-◌, ◌++◌, length, length-drop, take, drop, sym, ap, ◌∙◌, refl, arith}
use Rattle.std.proofs.lemmas.List.{take_all, take-append-drop}
use Rattle.std.specs.List.{prefix_len}
use Rattle.pfs_journal.specs.SingleLines.{line_text}
use Rattle.pfs_journal.specs.ReportPlaces.{capped}
use Rattle.pfs_journal.specs.LineWords.{is_line_byte}
use Rattle.pfs_journal.proofs.LineFeeds.{no_line, line_found}
use Rattle.pfs_journal.proofs.ReaderStops.{bad_at, line_leads, none_here}
use Rattle.pfs_journal.proofs.reading.next.Goals as goal

pub returns-in_default-clause-stops : goal.returns-in_default-clause-stops
returns-in_default-clause-stops c =
    let rest = c.args.lines.now.rest.now in
    let number = c.args.lines.now.taken + 1 in
    let none : length rest ≤ prefix_len is_line_byte rest = c.in_default.ensures.first in
    bad_at c.next_is_wrong.result (capped number) _ c.next_is_wrong.ensures
    (λ place apart. none_here place rest number (capped number) (λ line more good. no_line line rest more good.can none) apart refl)

pub returns-in-Ok-None-clause-stops : goal.returns-in-Ok-None-clause-stops
returns-in-Ok-None-clause-stops c =
    let rest = c.args.lines.now.rest.now in
    let number = c.args.lines.now.taken + 1 in
    bad_at c.next_is_wrong-in-Ok-None.result (capped number) _ c.next_is_wrong-in-Ok-None.ensures
    (λ place apart. none_here place rest number (capped number) (λ line more good same.
    let told = c.in-Ok-None.ensures.taken line good.can good.fits (line_found line rest more c.in-Some.at good.can c.in-Some.ensures.first same) in
    absurd (cc (told, c.in-Ok-None.field-0-is))) apart refl)

pub returns-in-Ok-Some-clause-leads : goal.returns-in-Ok-Some-clause-leads
returns-in-Ok-Some-clause-leads c =
    let rest = c.args.lines.now.rest.now in
    let says = c.in-Ok-Some.says in
    let end = c.in-Some.at + 1 in
    let after = take (length rest - end) (drop end rest) in
    let found = rw c.in-Ok-Some.field-0-is at c.in-Ok-Some.ensures.found in
    let size = length-drop end rest in
    let short : length (drop end rest) ≤ length rest - end = omega (arith, size) in
    let whole : rest ≡ line_text says ++ after =
    sym (take-append-drop end rest) ∙ (ap (λ (z : List ℕ). z ++ drop end rest) found.1 ∙ ap (λ (z : List ℕ). line_text says ++ z) (sym (take_all (length rest - end) (drop end rest) short))) in
    λ place. line_leads place says rest after c.args.lines.now.taken c.saturating_add-lines.result found.0 whole c.saturating_add-lines.ensures
