use Rattle.std.proofs.Common.{◌≡◌, Some, [], ◌∷◌}
use Rattle.std.specs.List.{flat_map}
use Rattle.pfs_journal.specs.Spelling.{optional_text}
use Rattle.pfs_journal.proofs.WordReadings.{fields_behind, name_leads, no_some}
use Rattle.pfs_journal.proofs.guess.named.Goals as goal

pub returns-in_err-name : goal.returns-in_err-name
returns-in_err-name c = λ lost good fits same.
    let behind = flat_map optional_text (Some lost.number ∷ []) in
    rw c.from_residual.ensures (c.in_err-name.ensures lost.name behind (name_leads lost.name behind c.args.bytes.now good (fields_behind (Some lost.number ∷ [])) same))

pub returns-in_err-number : goal.returns-in_err-number
returns-in_err-number c = λ lost good fits same.
    let behind = flat_map optional_text (Some lost.number ∷ []) in
    let name = c.in_ok-name.ensures lost.name behind (name_leads lost.name behind c.args.bytes.now good (fields_behind (Some lost.number ∷ [])) same) in
    rw c.from_residual-in_err-number.ensures (no_some lost.number (c.in_err-number.ensures lost.number fits name.1))

pub returns : goal.returns
returns c = λ lost good fits same.
    let behind = flat_map optional_text (Some lost.number ∷ []) in
    let name = c.in_ok-name.ensures lost.name behind (name_leads lost.name behind c.args.bytes.now good (fields_behind (Some lost.number ∷ [])) same) in
    let told = c.in_ok-number.ensures lost.number fits name.1 in
    let is : c.in_ok-number.number ≡ lost.number = cc told in
    (name.0, is)
