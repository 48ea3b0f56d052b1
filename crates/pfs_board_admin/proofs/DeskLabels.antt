-- One label more, and what a desk's labels count.
use Rattle.std.proofs.Common.{◌≡◌, ◌≤◌, ◌+◌, ◌++◌, Some, List, length, slice_index, refl, ap, sym, ◌∙◌, arith}
use Rattle.pfs_admin.specs.Works.{word_at}
use Rattle.pfs_admin.proofs.QuitCosts.{early_at}
use Rattle.pfs_admin.proofs.FoldSteps.{count_law}
use Rattle.pfs_levels.specs.declared.answers.Word.{Word}
use Rattle.pfs_levels.specs.Calls.{known_version}
use Rattle.pfs_board_store.proofs.WriterWords.{known_word}
use Rattle.pfs_board_admin.proofs.WriterSets.{one_more_set}
use Rattle.pfs_board_admin.specs.Desks.{sets_by, work_of_change}
use Rattle.pfs_board_admin.specs.DeskLaws.{StepLaw, NumberLaw, NeverSpentLaw}

pub one_more : StepLaw
one_more setting change switches labels label admin next pen later is step words sets same = record {
  stands = step.stands setting change labels label refl refl is.stands;
  words_are = words;
  sets = sets ∙ (ap (λ ss. sets_by admin.words (work_of_change admin label.session (change label)).flags ++ ss) is.sets
      ∙ sym (one_more_set setting change labels label (change label) admin refl is.stands));
  same = same;
}

pub next_number : NumberLaw
next_number setting change switches labels admin pen is = ap (λ n. n + 1) (count_law setting change labels admin is.stands).0

pub not_spent : NeverSpentLaw
not_spent setting change switches labels admin pen is few at low =
    let known : known_version (Some admin.words) at ≡ slice_index pen.view.seen at =
    ap (λ (ws : List Word). known_version (Some ws) at) (sym is.words_are) ∙ known_word at pen.view low in
    let early : (word_at admin.words at).version ≤ length labels =
    early_at (length labels) at admin.words (count_law setting change labels admin is.stands).1 in
    omega (arith, known, early, few)
