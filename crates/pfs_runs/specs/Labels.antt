-- The actions of a run by their labels, and what the administration, as the fold of the actions before, asks of each.
use Rattle.std.specs.Prelude.{ℕ, zero, suc, ◌≡◌, ◌+◌, ◌-◌, List, length, take, slice_get, Option, Some, None}
use Rattle.pfs_admin.specs.ConnectionAsks.{work_of_connect, work_of_quit, placed_of}
use Rattle.pfs_admin.specs.Fold.{state_of}
use Rattle.pfs_admin.specs.OpeningState.{opening_flags}
use Rattle.pfs_admin.specs.SetupStatements.{reply_to, work_of_statement}
use Rattle.pfs_admin.specs.AdministrationStates.{State, seat_at}
use Rattle.pfs_admin.specs.Truncations.{work_of_truncation}
use Rattle.pfs_admin.specs.Works.{Work, no_work}
use Rattle.pfs_admin.specs.declared.changes.Change.{Change}
use Rattle.pfs_admin.specs.declared.changes.Change.TheVariants.{Connect, Quit, Truncate, Setup}
use Rattle.pfs_law_session.specs.Demands.{answer_by, asked_by, no_rows, rooms_of}
use Rattle.pfs_law_session.specs.Orders.{no_rooms, signed_words}
use Rattle.pfs_board.specs.declared.view.Label.{Label}
use Rattle.pfs_classes.specs.declared.setting.Setting.{Setting}
use Rattle.pfs_matching.specs.ObjectRules.{opening_objects}
use Rattle.pfs_model.specs.Actions.{numbers_by}
use Rattle.pfs_model.specs.ActionAsks.{Asked, Answer, Rooms}
use Rattle.pfs_model.specs.Chains.{action_change, each_of}
use Rattle.pfs_model.specs.Contents.{Facts}
use Rattle.pfs_model.specs.EntryPlaces.{Placed}
use Rattle.pfs_model.specs.declared.changes.Change.{Change as Numbered}
use Rattle.pfs_runs.specs.Rules.{Terms}
use Rattle.std.specs.List.{slice_index_or}

-- These are the labels of all actions, by their numbers: as many as there are, and a session's actions have its label
-- with 1, 2 and so on in the order of its journal.
pub record AreLabels (labels : List Label) (all : List Placed) : Type 0 where
  pub few : length labels ≡ length (each_of action_change all)
  pub each : (session i : ℕ) (number : Numbered) → slice_get (numbers_by session all) i ≡ Some number
      → slice_get labels (number.version - 1) ≡ Some (record { session = session; line = i + 1 })

-- the administration before the action of a number: the fold of the actions before it
abbrev pub before_action : Setting → (Label → Change) → List Label → ℕ → State
before_action setting change labels number = state_of setting change (take (number - 1) labels)

-- what the administration has to do at a session's change
abbrev pub work_for : State → ℕ → Change → Work
work_for s session (Connect user host) = work_of_connect s session user host
work_for s session Quit = work_of_quit s session
work_for s session (Truncate what) = work_of_truncation s what
work_for s session (Setup what) = work_of_statement s what

-- where a change finds room
abbrev pub rooms_for : State → ℕ → Change → Rooms
rooms_for s session (Connect user host) = rooms_of (placed_of (seat_at s session user host))
rooms_for s session Quit = no_rooms
rooms_for s session (Truncate what) = no_rooms
rooms_for s session (Setup what) = no_rooms

-- what a change is answered: a truncation that it changed no rows; of a connect and a quit, which have no answer, it says
-- the same
abbrev pub answer_to : State → Change → Answer
answer_to s (Connect user host) = no_rows
answer_to s Quit = no_rows
answer_to s (Truncate what) = no_rows
answer_to s (Setup what) = answer_by (reply_to s what)

abbrev pub work_of_label : (Label → Change) → State → Option Label → Work
work_of_label change s None = no_work
work_of_label change s (Some label) = work_for s label.session (change label)

abbrev pub rooms_of_label : (Label → Change) → State → Option Label → Rooms
rooms_of_label change s None = no_rooms
rooms_of_label change s (Some label) = rooms_for s label.session (change label)

abbrev pub answer_of_label : (Label → Change) → State → Option Label → Answer
answer_of_label change s None = no_rows
answer_of_label change s (Some label) = answer_to s (change label)

-- the label of the action of a number, counted from 1; none where there is no such action
abbrev pub label_at : List Label → ℕ → Option Label
label_at labels zero = None
label_at labels (suc before) = slice_get labels before

abbrev pub work_at : Setting → (Label → Change) → List Label → ℕ → Work
work_at setting change labels number =
    work_of_label change (before_action setting change labels number) (label_at labels number)

-- what it asks for, where it finds room, and the words that it writes to an info row
abbrev pub asked_at : Setting → (Label → Change) → List Label → ℕ → Asked
asked_at setting change labels number = asked_by (work_at setting change labels number)

abbrev pub rooms_at : Setting → (Label → Change) → List Label → ℕ → Rooms
rooms_at setting change labels number =
    rooms_of_label change (before_action setting change labels number) (label_at labels number)

abbrev pub answers_at : Setting → (Label → Change) → List Label → ℕ → Answer
answers_at setting change labels number =
    answer_of_label change (before_action setting change labels number) (label_at labels number)

abbrev pub words_at : Setting → (Label → Change) → List Label → ℕ → ℕ → List ℕ
words_at setting change labels number row = signed_words (work_at setting change labels number).signs row

-- what the rules of a run go by: the setting's limit of statements and its opening flags, the actions as the fold has
-- them, what changes answer, and the facts of the events
abbrev pub terms_of : Setting → (Label → Change) → (ℕ → ℕ → Facts) → List Label → Terms
terms_of setting change facts labels = record {
  stack = setting.limits.statement_stack;
  opening = λ word. slice_index_or (opening_flags setting opening_objects) word 0;
  asked = asked_at setting change labels;
  rooms = rooms_at setting change labels;
  answers = answers_at setting change labels;
  info_words = words_at setting change labels;
  facts = facts;
}
