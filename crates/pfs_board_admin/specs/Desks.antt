-- What a desk stands for.
use Rattle.std.specs.Prelude.{ℕ, ◌≡◌, ◌+◌, List, [], ◌∷◌, ◌++◌}
use Rattle.atomic_table.specs.Seated.{TableId}
use Rattle.pfs_admin.specs.declared.changes.Change.{Change}
use Rattle.pfs_admin.specs.declared.changes.Change.TheVariants.{Connect, Quit, Truncate, Setup}
use Rattle.pfs_admin.specs.ConnectionAsks.{work_of_connect, work_of_quit}
use Rattle.pfs_admin.specs.Fold.{StandsFor, stepped}
use Rattle.pfs_admin.specs.OpeningState.{opened}
use Rattle.pfs_admin.specs.SetupStatements.{work_of_statement}
use Rattle.pfs_admin.specs.AdministrationStates.{State}
use Rattle.pfs_admin.specs.Truncations.{work_of_truncation}
use Rattle.pfs_admin.specs.Works.{Flagging, Work, word_at}
use Rattle.pfs_board.specs.declared.view.Label.{Label}
use Rattle.pfs_classes.specs.declared.setting.Setting.{Setting}
use Rattle.pfs_levels.specs.declared.answers.Word.{Word}
use Rattle.pfs_board_store.specs.WriterWords.{words_of}
use Rattle.pfs_switches.specs.declared.view.Setting.{Setting as WordSetting}
use Rattle.pfs_switches.specs.declared.view.View.{View}
use Rattle.pfs_switches.specs.History.{setting as set_to}
use Rattle.pfs_switches.specs.SeatViews.{Known}
use Rattle.pfs_switches.specs.Knowledge.{writer, whole}
use Rattle.pfs_switches.specs.OpeningWords.{opening_words}

-- what the administration has to do at a session's change
abbrev pub work_of_change : State → ℕ → Change → Work
work_of_change s session (Connect user host) = work_of_connect s session user host
work_of_change s session Quit = work_of_quit s session
work_of_change s session (Truncate what) = work_of_truncation s what
work_of_change s session (Setup what) = work_of_statement s what

-- the sets that it asks for, newest first, by the words before the action
abbrev pub sets_by : List Word → List Flagging → List WordSetting
sets_by words [] = []
sets_by words (f ∷ fs) = sets_by words fs ++ set_to f.word ((word_at words f.word).version + 1) f.flags ∷ []

-- the sets of the actions of these labels, newest first, from a state on
unfoldable pub sets_from : (Label → Change) → State → List Label → List WordSetting
sets_from change s [] = []
sets_from change s (label ∷ labels) = sets_from change (stepped s label.session (change label)) labels
    ++ sets_by s.words (work_of_change s label.session (change label)).flags

abbrev pub sets_of : Setting → (Label → Change) → List Label → List WordSetting
sets_of setting change labels = sets_from change (opened setting) labels

-- the administration is the fold of these labels' actions, and the writer is that of the run's words, knows each at
-- the version and with the flags that the fold gives it, and has made just the sets of these actions, in their order
pub record IsDesk (setting : Setting) (change : Label → Change) (switches : TableId) (labels : List Label)
    (admin : State) (pen : Known) : Type 0 where
  pub stands : StandsFor setting change labels admin
  pub words_are : words_of pen.view ≡ admin.words
  pub sets : pen.view.sets ≡ sets_of setting change labels
  pub same : pen.switches ≡ switches

-- what the writer of words with these flags knows at first
abbrev pub opening_pen : List ℕ → View
opening_pen flags = writer (whole (opening_words flags))
