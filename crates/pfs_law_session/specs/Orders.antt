-- Of any number of sessions there are orders: those of the parts themselves.
use Rattle.std.specs.Prelude.{ℕ, ◌≡◌, ◌<◌, ◌≤◌, ◌==◌, if◌then◌else◌, List, [], ◌∷◌, ◌++◌, None}
use Rattle.pfs_admin.specs.ConnectionAsks.{placed_of}
use Rattle.pfs_admin.specs.SetupStatements.{reply_to}
use Rattle.pfs_admin.specs.AdministrationStates.{seat_at}
use Rattle.pfs_admin.specs.Works.{Sign, Releases, Tags}
use Rattle.pfs_model.specs.ActionAsks.{Asked, Answer, Rooms}
use Rattle.pfs_model.specs.Chains.{Each, times}
use Rattle.pfs_model.specs.Contents.{Given}
use Rattle.pfs_model.specs.EntryPlaces.{places}
use Rattle.pfs_law_session.specs.Amounts.{AllContentsAgree}
use Rattle.pfs_law_session.specs.Deeds.{Deed, Connecting, Starting, Staging, StageEnding, Ending, Spending, Quitting, Truncating, Changing, Showing, Querying, Refusing, Closing, Part}
use Rattle.pfs_law_session.specs.Stints.{Stint, blocks_of}
use Rattle.pfs_law_session.specs.Demands.{Orders, number_of, answer_by, asked_of_deed, no_rows, rooms_of, work_of}
use Rattle.pfs_law_session.specs.AllActions.{all_numbers, nothing_asked, IsAsked}
use Rattle.pfs_law_session.specs.Takes.{all_taken, counted_by, IsSeatedStint}

-- what a line asks of a session
pub record Acting : Type 0 where
  pub session : ℕ
  pub deed : Deed

abbrev pub actings_of : ℕ → List Part → List Acting
actings_of session [] = []
actings_of session (p ∷ ps) = record { session = session; deed = p.deed } ∷ actings_of session ps

abbrev pub all_actings : List Stint → List Acting
all_actings [] = []
all_actings (stint ∷ stints) = actings_of stint.session stint.parts ++ all_actings stints

-- what the action of a number gives
abbrev pub of_number : {A : Type 0} → (Acting → A) → A → List Acting → ℕ → A
of_number give none [] number = none
of_number give none (one ∷ others) number =
    if number_of one.deed == number then give one else of_number give none others number

abbrev pub no_rooms : Rooms
no_rooms = record { thread = None; account = None; user = None; host = None }

abbrev pub rooms_for : ℕ → Deed → Rooms
rooms_for session (Connecting admin user host) = rooms_of (placed_of (seat_at admin session user host))
rooms_for session (Quitting admin) = no_rooms
rooms_for session (Truncating admin what) = no_rooms
rooms_for session (Changing admin what) = no_rooms
rooms_for session (Showing admin count) = no_rooms
rooms_for session (Querying readings count) = no_rooms
rooms_for session (Refusing error) = no_rooms
rooms_for session (Starting subject) = no_rooms
rooms_for session (Staging subject) = no_rooms
rooms_for session StageEnding = no_rooms
rooms_for session (Ending numbers) = no_rooms
rooms_for session (Spending time) = no_rooms
rooms_for session Closing = no_rooms

-- what a change is answered; of a line that has no answer nothing is said
abbrev pub answers_for : Deed → Answer
answers_for (Changing admin what) = answer_by (reply_to admin what)
answers_for (Truncating admin what) = no_rows
answers_for (Connecting admin user host) = no_rows
answers_for (Quitting admin) = no_rows
answers_for (Showing admin count) = no_rows
answers_for (Querying readings count) = no_rows
answers_for (Refusing error) = no_rows
answers_for (Starting subject) = no_rows
answers_for (Staging subject) = no_rows
answers_for StageEnding = no_rows
answers_for (Ending numbers) = no_rows
answers_for (Spending time) = no_rows
answers_for Closing = no_rows

-- the words of an info row among signs
abbrev pub signed_words : List Sign → ℕ → List ℕ
signed_words [] row = []
signed_words (Releases released ∷ signs) row = signed_words signs row
signed_words (Tags tagged words ∷ signs) row = if tagged == row then words else signed_words signs row

abbrev pub asked_for : Acting → Asked
asked_for one = asked_of_deed one.session one.deed

abbrev pub room_for : Acting → Rooms
room_for one = rooms_for one.session one.deed

abbrev pub answer_for : Acting → Answer
answer_for one = answers_for one.deed

abbrev pub words_for : Acting → ℕ → List ℕ
words_for one = signed_words (work_of one.session one.deed).signs

abbrev pub no_words : ℕ → List ℕ
no_words row = []

abbrev pub orders_of : (ℕ → ℕ → List ℕ) → List Stint → Orders
orders_of content stints = record {
  asked = of_number asked_for nothing_asked (all_actings stints);
  rooms = of_number room_for no_rooms (all_actings stints);
  answers = of_number answer_for no_rows (all_actings stints);
  counted = counted_by content (all_taken stints);
}

abbrev pub words_of_all : List Stint → ℕ → ℕ → List ℕ
words_of_all stints = of_number words_for no_words (all_actings stints)

-- all journals say that just this was done, where no number is that of two actions
abbrev pub WholeLaw : Type 0
WholeLaw = (given : Given) (content : ℕ → ℕ → List ℕ) (stints : List Stint)
    → given.info_words ≡ words_of_all stints → Each IsSeatedStint stints
    → Each (λ stint. AllContentsAgree content stint.parts) stints
    → ((number : ℕ) → 0 < number → times (λ n. n == number) (all_numbers stints) ≤ 1)
    → IsAsked (orders_of content stints) given content (places (blocks_of stints))
