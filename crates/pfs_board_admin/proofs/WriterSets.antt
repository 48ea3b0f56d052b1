-- The sets of a desk's writer, as an action's calls make them.
use Rattle.std.proofs.Common.{ℕ, ◌≡◌, ◌+◌, List, [], ◌∷◌, ◌++◌, refl, ap, sym, ◌∙◌, subst, append_assoc, append-nil}
use Rattle.pfs_admin.specs.declared.changes.Change.{Change}
use Rattle.pfs_admin.specs.Fold.{StandsFor, state_from, stepped}
use Rattle.pfs_admin.specs.OpeningState.{opened}
use Rattle.pfs_admin.specs.AdministrationStates.{State}
use Rattle.pfs_admin.specs.Works.{Flagging, word_at, flagging_calls}
use Rattle.pfs_board.specs.declared.view.Label.{Label}
use Rattle.pfs_classes.specs.declared.setting.Setting.{Setting}
use Rattle.pfs_levels.specs.declared.answers.Word.{Word}
use Rattle.pfs_levels.specs.Calls.{Call, Takes, Puts, Frees, Sets}
use Rattle.pfs_board_store.specs.WriterWords.{sets_since_met}
use Rattle.pfs_switches.specs.declared.view.Setting.{Setting as WordSetting}
use Rattle.pfs_switches.specs.History.{setting as set_to}
use Rattle.pfs_board_admin.specs.Desks.{sets_by, sets_from, sets_of, work_of_change}
use Rattle.pfs_board_admin.proofs.LabelWords.{AreQuiet}

-- calls that set nothing
pub quiet_sets : (xs calls : List Call) → AreQuiet xs → sets_since_met (xs ++ calls) ≡ sets_since_met calls
quiet_sets [] calls q = refl
quiet_sets (Takes row version found ∷ xs) calls q = quiet_sets xs calls q
quiet_sets (Puts row content version ∷ xs) calls q = quiet_sets xs calls q
quiet_sets (Frees row version ∷ xs) calls q = quiet_sets xs calls q
quiet_sets (x ∷ xs) calls q = absurd q

pub flags_set : (words : List Word) (flags : List Flagging) (calls : List Call) → sets_since_met (flagging_calls words flags ++ calls) ≡ sets_by words flags ++ sets_since_met calls
flags_set words [] calls = refl
flags_set words (f ∷ fs) calls =
    let version : ℕ = (word_at words f.word).version + 1 in
    let call : Call = Sets f.word f.flags version in
    ap sets_since_met (append_assoc (flagging_calls words fs) (call ∷ []) calls)
    ∙ (flags_set words fs (call ∷ calls) ∙ sym (append_assoc (sets_by words fs) (set_to f.word version f.flags ∷ []) (sets_since_met calls)))

-- one label more has its action's sets before those of the labels before
sets_next : (change : Label → Change) (s : State) (labels : List Label) (label : Label)
    → sets_from change s (labels ++ label ∷ []) ≡ sets_by (state_from change s labels).words (work_of_change (state_from change s labels) label.session (change label)).flags ++ sets_from change s labels
unfolding sets_from state_from
sets_next change s [] label = sym (append-nil (sets_by s.words (work_of_change s label.session (change label)).flags))
sets_next change s (x ∷ labels) label =
    let after : State = stepped s x.session (change x) in
    let mine : List WordSetting = sets_by s.words (work_of_change s x.session (change x)).flags in
    let last : State = state_from change after labels in
    ap (λ ss. ss ++ mine) (sets_next change after labels label)
    ∙ append_assoc (sets_by last.words (work_of_change last label.session (change label)).flags) (sets_from change after labels) mine

pub one_more_set : (setting : Setting) (change : Label → Change) (labels : List Label) (label : Label) (what : Change) (admin : State) → change label ≡ what → StandsFor setting change labels admin
    → sets_of setting change (labels ++ label ∷ []) ≡ sets_by admin.words (work_of_change admin label.session what).flags ++ sets_of setting change labels
one_more_set setting change labels label what admin named stands =
    sets_next change (opened setting) labels label
    ∙ (ap (λ (s : State). sets_by s.words (work_of_change s label.session (change label)).flags ++ sets_of setting change labels) (sym stands)
    ∙ ap (λ (c : Change). sets_by admin.words (work_of_change admin label.session c).flags ++ sets_of setting change labels) named)
