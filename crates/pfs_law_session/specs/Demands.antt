-- What the administration asks for at a line of a session, as the rules of a journal have it.
use Rattle.std.specs.Prelude.{ℕ, ◌≡◌, ◌+◌, Bool, List, [], ◌∷◌, Option, Some, None}
use Rattle.pfs_admin.specs.ConnectionAsks.{work_of_connect, work_of_quit, placed_of}
use Rattle.pfs_admin.specs.AdministrationStates.{seat_at}
use Rattle.pfs_admin.specs.Truncations.{work_of_truncation}
use Rattle.pfs_admin.specs.Works.{Sign, Releases, Tags, Flagging, Work, no_work}
use Rattle.pfs_admin.specs.SetupStatements.{reply_to, work_of_statement}
use Rattle.pfs_admin.specs.declared.admin.Placed.{Placed as Found}
use Rattle.pfs_admin.specs.declared.changes.Reply.{Reply}
use Rattle.pfs_admin.specs.declared.changes.Reply.TheVariants as replies
use Rattle.pfs_event.specs.declared.entry.Entry.{Entry}
use Rattle.pfs_levels.specs.Moves.{Ask}
use Rattle.pfs_model.specs.ActionAsks.{Answer, Replied, Failed, Asked, Move, Frees, Rooms}
use Rattle.pfs_model.specs.ActionAsks.{Sign as Signing, Tags as Tagging, Flagging as Setting}
use Rattle.pfs_model.specs.Contents.{Given, IsFoundAsCounted}
use Rattle.pfs_law_session.specs.Deeds.{Deed, Connecting, Starting, Staging, StageEnding, Ending, Spending, Quitting, Truncating, Changing, Showing, Querying, Refusing, Closing, Part, action_of, part_entries}

abbrev pub moves_asked : List Ask → List Move
moves_asked [] = []
moves_asked (a ∷ asks) = record { from = a.from; to = a.to } ∷ moves_asked asks

abbrev pub signs_asked : List Sign → List Signing
signs_asked [] = []
signs_asked (Releases row ∷ signs) = Frees row ∷ signs_asked signs
signs_asked (Tags row content ∷ signs) = Tagging row ∷ signs_asked signs

abbrev pub sets_asked : List Flagging → List Setting
sets_asked [] = []
sets_asked (f ∷ fs) = record { word = f.word; flags = f.flags } ∷ sets_asked fs

abbrev pub asked_by : Work → Asked
asked_by work = record {
  moves = moves_asked work.moves;
  signs = signs_asked work.signs;
  sets = sets_asked work.flags;
}

-- what the administration has to do at a line of a session of this number; nothing where it is no action
abbrev pub work_of : ℕ → Deed → Work
work_of session (Connecting admin user host) = work_of_connect admin session user host
work_of session (Quitting admin) = work_of_quit admin session
work_of session (Truncating admin what) = work_of_truncation admin what
work_of session (Changing admin what) = work_of_statement admin what
work_of session (Showing admin count) = no_work
work_of session (Querying readings count) = no_work
work_of session (Refusing error) = no_work
work_of session (Starting subject) = no_work
work_of session (Staging subject) = no_work
work_of session StageEnding = no_work
work_of session (Ending numbers) = no_work
work_of session (Spending time) = no_work
work_of session Closing = no_work

abbrev pub asked_of_deed : ℕ → Deed → Asked
asked_of_deed session deed = asked_by (work_of session deed)

-- the number of a line's action; 0 of a line that is none
abbrev pub number_or_none : Option ℕ → ℕ
number_or_none None = 0
number_or_none (Some number) = number

abbrev pub number_of : Deed → ℕ
number_of deed = number_or_none (action_of deed)

abbrev pub rooms_of : Found → Rooms
rooms_of found = record {
  thread = found.thread;
  account = found.account;
  user = found.user;
  host = found.host;
}

-- what a change is answered: how many rows it met, or the number of an error
abbrev pub answer_by : Reply → Answer
answer_by (replies.Changed count) = Replied count
answer_by (replies.Error error) = Failed error

-- a truncation changes no rows, as MySQL counts them
abbrev pub no_rows : Answer
no_rows = Replied 0

-- what is said of each action, by its number: what it asks for, where a connect finds room, what a change is answered,
-- and whether its take of a row found something counted
pub record Orders : Type 0 where
  pub asked : ℕ → Asked
  pub rooms : ℕ → Rooms
  pub answers : ℕ → Answer
  pub counted : ℕ → ℕ → Bool

-- the rooms are those that the administration finds for a connect
abbrev pub AreRooms : (ℕ → Rooms) → ℕ → Deed → Type 0
AreRooms rooms session (Connecting admin user host) =
    rooms (admin.actions + 1) ≡ rooms_of (placed_of (seat_at admin session user host))
AreRooms rooms session (Quitting admin) = Unit {0}
AreRooms rooms session (Truncating admin what) = Unit {0}
AreRooms rooms session (Changing admin what) = Unit {0}
AreRooms rooms session (Showing admin count) = Unit {0}
AreRooms rooms session (Querying readings count) = Unit {0}
AreRooms rooms session (Refusing error) = Unit {0}
AreRooms rooms session (Starting subject) = Unit {0}
AreRooms rooms session (Staging subject) = Unit {0}
AreRooms rooms session StageEnding = Unit {0}
AreRooms rooms session (Ending numbers) = Unit {0}
AreRooms rooms session (Spending time) = Unit {0}
AreRooms rooms session Closing = Unit {0}

-- the answer is that of the administration
abbrev pub AreAnswers : (ℕ → Answer) → Deed → Type 0
AreAnswers answers (Truncating admin what) = answers (admin.actions + 1) ≡ no_rows
AreAnswers answers (Changing admin what) = answers (admin.actions + 1) ≡ answer_by (reply_to admin what)
AreAnswers answers (Connecting admin user host) = Unit {0}
AreAnswers answers (Quitting admin) = Unit {0}
AreAnswers answers (Showing admin count) = Unit {0}
AreAnswers answers (Querying readings count) = Unit {0}
AreAnswers answers (Refusing error) = Unit {0}
AreAnswers answers (Starting subject) = Unit {0}
AreAnswers answers (Staging subject) = Unit {0}
AreAnswers answers StageEnding = Unit {0}
AreAnswers answers (Ending numbers) = Unit {0}
AreAnswers answers (Spending time) = Unit {0}
AreAnswers answers Closing = Unit {0}

-- the words of each info row that is written
abbrev pub AreWords : (ℕ → List ℕ) → List Sign → Type 0
AreWords words [] = Unit {0}
AreWords words (Releases row ∷ signs) = AreWords words signs
AreWords words (Tags row content ∷ signs) = (words row ≡ content) × AreWords words signs

-- each take found something counted where the content before it has counted one
abbrev pub AreCounted : (ℕ → ℕ → List ℕ) → (ℕ → ℕ → Bool) → ℕ → List Entry → Type 0
AreCounted content counted action [] = Unit {0}
AreCounted content counted action (entry ∷ entries) =
    IsFoundAsCounted content counted action entry × AreCounted content counted action entries

-- these orders, and the words that are given of info rows, are those of an action of a session of this number
pub record AreOrders (orders : Orders) (given : Given) (content : ℕ → ℕ → List ℕ) (session : ℕ) (p : Part) : Type 0
  where
    pub asked : orders.asked (number_of p.deed) ≡ asked_of_deed session p.deed
    pub rooms : AreRooms orders.rooms session p.deed
    pub answers : AreAnswers orders.answers p.deed
    pub counted : AreCounted content orders.counted (number_of p.deed) (part_entries p)
    pub words : AreWords (given.info_words (number_of p.deed)) (work_of session p.deed).signs
