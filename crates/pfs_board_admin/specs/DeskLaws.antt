-- Laws of a desk.
use Rattle.std.specs.Prelude.{ℕ, ◌≡◌, ◌<◌, ◌≤◌, true, ◌+◌, ◌^◌, List, [], ◌∷◌, ◌++◌, length, slice_index}
use Rattle.atomic_table.specs.Seated.{TableId}
use Rattle.pfs_admin.specs.declared.changes.Change.{Change}
use Rattle.pfs_admin.specs.Fold.{Follows}
use Rattle.pfs_admin.specs.OpeningState.{opening_flags}
use Rattle.pfs_admin.specs.AdministrationStates.{State}
use Rattle.pfs_admin.specs.WordChanges.{flags_changed, words_changed}
use Rattle.pfs_admin.specs.Works.{Made, signs_calls, flagging_calls}
use Rattle.pfs_board.specs.declared.view.Label.{Label}
use Rattle.pfs_board.specs.declared.view.View.{View}
use Rattle.pfs_board.specs.WholeSeats.{History}
use Rattle.pfs_board.specs.History.{labels_of}
use Rattle.pfs_classes.specs.declared.setting.Setting.{Setting}
use Rattle.pfs_levels.specs.declared.answers.Word.{Word}
use Rattle.pfs_levels.specs.Calls.{Call, Enters, Leaves, Meets, action_in, label_in}
use Rattle.pfs_levels.specs.Moves.{Move, moves_calls}
use Rattle.pfs_levels.specs.CallOrder.{all_word_marks, AllCalls}
use Rattle.pfs_matching.specs.ObjectRules.{opening_objects}
use Rattle.pfs_board_store.specs.RootActors.{Worked, calls_of_all, AreGathered}
use Rattle.pfs_board_store.specs.WriterWords.{words_of}
use Rattle.pfs_board_store.specs.ActorCalls.{labels_in}
use Rattle.pfs_board_store.specs.RootLaws.{AreWritten, AllKnowSets, has_met}
use Rattle.pfs_switches.specs.declared.view.View.{View as WordView}
use Rattle.pfs_switches.specs.SharedKnowledge.{IsTold}
use Rattle.pfs_switches.specs.History.{Each}
use Rattle.pfs_switches.specs.SeatViews.{Known}
use Rattle.pfs_switches.specs.Knowledge.{last_version, met}
use Rattle.pfs_switches.specs.OpeningWords.{opening_words}
use Rattle.pfs_tickets.specs.declared.view.View.{View as TicketView}
use Rattle.pfs_board_admin.specs.Desks.{IsDesk, sets_by, work_of_change}
use Rattle.pfs_board_admin.specs.LabelWords.{version_after, AllKeepWords, AreAsKnown}

abbrev pub StepLaw : Type 0
StepLaw = (setting : Setting) → (change : Label → Change) → (switches : TableId) → (labels : List Label)
    → (label : Label) → (admin next : State) → (pen later : Known) → IsDesk setting change switches labels admin pen
    → Follows label.session (change label) admin next → words_of later.view ≡ next.words
    → later.view.sets ≡ sets_by admin.words (work_of_change admin label.session (change label)).flags ++ pen.view.sets
    → later.switches ≡ switches → IsDesk setting change switches (labels ++ label ∷ []) next later

abbrev pub NumberLaw : Type 0
NumberLaw = (setting : Setting) → (change : Label → Change) → (switches : TableId) → (labels : List Label)
    → (admin : State) → (pen : Known) → IsDesk setting change switches labels admin pen
    → admin.actions + 1 ≡ length labels + 1

abbrev pub NeverSpentLaw : Type 0
NeverSpentLaw = (setting : Setting) → (change : Label → Change) → (switches : TableId) → (labels : List Label)
    → (admin : State) → (pen : Known) → IsDesk setting change switches labels admin pen → length labels < 2 ^ 47
    → (at : ℕ) → at < 160 → slice_index pen.view.seen at < last_version

-- A root that is alone, has taken in the seats of all actors and meets the writer, while the desk stands for all labels
-- of the board: the writer's sets are the actors', each once, and what each actor met and left of the words is not below
-- what the actions set that it knew as ended. Of the actors it is asked that each kept to the words of its labels, and
-- of the writer that it set no word but those of a run
abbrev pub SharedLaw : Type 0
SharedLaw = (setting : Setting) → (change : Label → Change) → (switches : TableId) → (admin : State) → (pen : Known)
    → (start words : List ℕ) → (v : View) → (w : WordView) → (t : TicketView) → (actors : List Worked)
    → AreGathered actors v w t → (h : History start words v)
    → IsTold (opening_words (opening_flags setting opening_objects)) (met w pen.view) pen.view
    → IsDesk setting change switches (labels_of h.t.log) admin pen → Each (λ s. s.word < 160) pen.view.sets
    → AllCalls (AllKeepWords (version_after setting change)) (calls_of_all actors)
    → AreWritten (calls_of_all actors) pen.view.sets
    × AllCalls (AllKnowSets (all_word_marks (calls_of_all actors))) (calls_of_all actors)

-- as an action begins, whose hold is lent the writer of the desk that it found, its words are those of the labels found
abbrev pub BegunLaw : Type 0
BegunLaw = (setting : Setting) → (change : Label → Change) → (switches : TableId) → (label : Label)
    → (labels : List Label) → (calls : List Call) → (admin : State) → (pen : Known) → action_in calls ≡ 0
    → AllKeepWords (version_after setting change) calls → IsDesk setting change switches labels admin pen
    → AllKeepWords (version_after setting change) (Meets pen.view.seen ∷ Enters label labels ∷ calls)
    × AreAsKnown (version_after setting change) (Meets pen.view.seen ∷ Enters label labels ∷ calls) admin.words

-- an administration's work: rows that are moved, released and written, and words that are set one after another, each
-- where its flags change. A connect and a quit set one; a truncation and a statement on a setup table set up to 64
abbrev pub WorkLaw : Type 0
WorkLaw = (setting : Setting) → (change : Label → Change) → (calls : List Call) → (words : List Word)
    → (to : ℕ → ℕ → ℕ) → (first count : ℕ) → (made : List Made) → (moves : List Move) → first + count ≤ 160
    → length words ≡ 160 → has_met calls ≡ true → AllKeepWords (version_after setting change) calls
    → AreAsKnown (version_after setting change) calls words → (its : List Call) → its
    ≡ flagging_calls words (flags_changed to words first count) ++ (signs_calls made ++ moves_calls moves)
    → AllKeepWords (version_after setting change) (its ++ calls)
    × AreAsKnown (version_after setting change) (its ++ calls) (words_changed to words first count)

-- as an action ends with a desk that stands for its own label too, its words are those of that
abbrev pub LeftLaw : Type 0
LeftLaw = (setting : Setting) → (change : Label → Change) → (switches : TableId) → (calls : List Call)
    → (next : State) → (later : Known) → AllKeepWords (version_after setting change) calls
    → AreAsKnown (version_after setting change) calls next.words
    → IsDesk setting change switches (labels_in calls ++ label_in calls ∷ []) next later
    → AllKeepWords (version_after setting change) (Leaves ∷ calls)
