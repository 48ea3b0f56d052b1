-- An action that changes nothing, at a desk.
use Rattle.std.proofs.Common.{ℕ, ◌≡◌, ◌≤◌, ◌<◌, ◌+◌, ◌^◌, List, [], ◌∷◌, ◌++◌, length, refl, ap, sym, ◌∙◌, arith}
use Rattle.atomic_table.specs.Seated.{TableId}
use Rattle.pfs_admin.specs.declared.changes.Change.{Change}
use Rattle.pfs_admin.specs.declared.changes.Change.TheVariants.{Setup}
use Rattle.pfs_admin.specs.declared.changes.SetupStatement.TheVariants.{Show}
use Rattle.pfs_admin.specs.WordChanges.{flags_changed, words_changed}
use Rattle.pfs_admin.specs.Fold.{Follows}
use Rattle.pfs_admin.specs.SetupStatements.{has_changed, work_of_statement}
use Rattle.pfs_admin.specs.AdministrationStates.{State}
use Rattle.pfs_board.specs.declared.view.Label.{Label}
use Rattle.pfs_classes.specs.declared.setting.Setting.{Setting}
use Rattle.pfs_board_store.specs.WriterWords.{words_of}
use Rattle.pfs_switches.specs.SeatViews.{Known}
use Rattle.pfs_board_admin.specs.Desks.{IsDesk, sets_by, sets_of}
use Rattle.pfs_board_admin.proofs.WriterSets.{one_more_set}
use Rattle.pfs_board_admin.proofs.DeskLabels.{next_number}

-- a statement that only shows sets no word
pub shows_words : (s : State) → (has_changed s Show).words ≡ s.words
unfolding words_changed
shows_words s = refl

shows_flags : (s : State) → (work_of_statement s Show).flags ≡ []
unfolding flags_changed
shows_flags s = refl

module _ (setting : Setting) (change : Label → Change) (switches : TableId) (labels : List Label) (admin : State) (pen : Known) where
  pub few_actions : IsDesk setting change switches labels admin pen → (number : ℕ) → number ≡ length labels + 1 → number ≤ 2 ^ 47 → (a : State) → a ≡ admin → a.actions < 2 ^ 47
  few_actions is number found few a same =
      let count : a.actions ≡ admin.actions = ap (λ (s : State). s.actions) same in
      omega (arith, count, next_number setting change switches labels admin pen is, found, few)

  pub shown : IsDesk setting change switches labels admin pen → (label : Label) → change label ≡ Setup Show → (a b next : State) (w : Known) → a ≡ admin
      → Follows label.session (Setup Show) a b → b.words ≡ a.words → next ≡ b → w ≡ pen → IsDesk setting change switches (labels ++ label ∷ []) next w
  shown is label named a b next w same step words last mine = record {
    stands = last ∙ step.stands setting change labels label refl named (same ∙ is.stands);
    words_are = ap (λ (p : Known). words_of p.view) mine
        ∙ (is.words_are ∙ (ap (λ (s : State). s.words) (sym same) ∙ (sym words ∙ ap (λ (s : State). s.words) (sym last))));
    sets = ap (λ (p : Known). p.view.sets) mine
        ∙ (is.sets ∙ (ap (λ fs. sets_by admin.words fs ++ sets_of setting change labels) (sym (shows_flags admin))
        ∙ sym (one_more_set setting change labels label (Setup Show) admin named is.stands)));
    same = ap (λ (p : Known). p.switches) mine ∙ is.same;
  }
