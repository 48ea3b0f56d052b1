-- What a session does, step by step: the calls that it makes of its store, and the entries that it writes, by the
-- answers of those calls.
use Rattle.std.specs.Prelude.{ℕ, ◌≡◌, ◌<◌, ◌+◌, ◌%◌, ◌^◌, Bool, true, false, if◌then◌else◌, List, [], ◌∷◌, ◌++◌, length, Option, Some, None, IfSome}
use Rattle.pfs_admin.specs.ConnectionAsks.{work_of_connect, work_of_quit, connect_entry, placed_of}
use Rattle.pfs_admin.specs.AdministrationStates.{connected, has_quit, seat_at}
use Rattle.pfs_admin.specs.AdministrationStates.{State as Administration}
use Rattle.pfs_admin.specs.Truncations.{work_of_truncation, has_truncated}
use Rattle.pfs_admin.specs.SetupStatements.{has_changed, reply_to, work_of_statement}
use Rattle.pfs_admin.specs.declared.changes.Reply.{Reply}
use Rattle.pfs_admin.specs.declared.changes.Reply.TheVariants as replies
use Rattle.pfs_admin.specs.declared.changes.SetupStatement.{SetupStatement}
use Rattle.pfs_admin.specs.declared.changes.SetupStatement.TheVariants.{Update, Insert, Delete, Show}
use Rattle.pfs_rows.specs.declared.truncations.Truncation.{Truncation}
use Rattle.pfs_admin.specs.Works.{Work, Made, signs_of, signs_calls, signs_entries, flagging_calls, flagging_entries}
use Rattle.pfs_containers.specs.ContainerState.{lost_in}
use Rattle.pfs_event.specs.declared.entry.Entry.{Entry}
use Rattle.pfs_event.specs.declared.entry.Entry.TheVariants as says
use Rattle.pfs_event.specs.Nests.{OpenEvents, MayStart}
use Rattle.pfs_event.specs.declared.kind.EventKind.TheVariants.{Stage}
use Rattle.pfs_event.specs.declared.open.Open.{Open}
use Rattle.pfs_levels.specs.Calls.{Call, Opening}
use Rattle.pfs_levels.specs.Moves.{Move, AreMoves, moves_calls, moves_entries, Did}
use Rattle.pfs_levels.specs.declared.answers.Word.{Word}
use Rattle.pfs_model.specs.Shapes.{is_stage}
use Rattle.pfs_model.specs.declared.lines.Subject.{Subject}
use Rattle.pfs_session.specs.Ends.{Ends, no_numbers}
use Rattle.pfs_rows.specs.declared.table.Reading.{Reading}
use Rattle.pfs_session.specs.Inquiries.{Inquiry, Looks, inquiry_calls, inquiry_entry}
use Rattle.pfs_session.specs.Settlements.{Settles}
use Rattle.pfs_session.specs.Starts.{Starts}
use Rattle.pfs_session.specs.SessionStates.{State, Book, no_place}
use Rattle.pfs_session.specs.declared.events.Numbers.{Numbers}

-- one step of a session. An action names the administration as it stands before it
pub data Step : Type 0 where
  StartsEvent : Subject → Step
  EndsEvent : Numbers → Step  -- the innermost one
  Spends : ℕ → Step
  SettlesHeld : Step
  Connects : Administration → ℕ → ℕ → Step  -- as this user from this host
  Quits : Administration → Step
  Truncates : Administration → Truncation → Step
  Changes : Administration → SetupStatement → Step
  Inquires : Inquiry → Step

-- an administration's work was done behind these entries, by one who knew the words so
pub record Works (work : Work) (words : List Word) (head : List Entry) (calls : List Call) (entries : List Entry) :
    Type 0 where
  pub moves : List Move
  pub made : List Made
  pub are_moves : AreMoves work.moves moves
  pub signs_are : signs_of made ≡ work.signs
  pub calls_are : calls ≡ flagging_calls words work.flags ++ (signs_calls made ++ moves_calls moves)
  pub entries_are : entries
      ≡ head ++ (moves_entries moves ++ (signs_entries made ++ flagging_entries words work.flags))

-- behind an action of its own, which is that of the administration after this
abbrev pub acted : State → Administration → State
acted s after = record s {
  actions = s.actions + 1;
  last = Some (record { number = after.actions; lost = lost_in after.kept.now });
}

-- a table is truncated, and behind all that this changes the answer stands, which is 0
pub record Truncated (s : State) (admin : Administration) (what : Truncation) (calls : List Call) (entries : List Entry)
    (after : State) : Type 0 where
  pub changes : List Entry
  pub works : Works (work_of_truncation admin what) admin.words (says.Act (admin.actions + 1) ∷ []) calls changes
  pub entries_are : entries ≡ changes ++ says.Reply 0 ∷ []
  pub after_is : after ≡ acted s (has_truncated admin what)

abbrev pub reply_entry : Reply → Entry
reply_entry (replies.Changed count) = says.Reply count
reply_entry (replies.Error error) = says.Error error

-- an action is answered behind its changes; of a SELECT the rows that it shows are told by whoever has them
abbrev pub is_answered : SetupStatement → Bool
is_answered Show = false
is_answered (Update update) = true
is_answered (Insert insert) = true
is_answered (Delete delete) = true

abbrev pub answer_entries : Bool → Reply → List Entry
answer_entries false reply = []
answer_entries true reply = reply_entry reply ∷ []

abbrev pub reply_entries : SetupStatement → Reply → List Entry
reply_entries what reply = answer_entries (is_answered what) reply

-- a statement on the setup tables is done, and behind all that this changes its answer stands
pub record Changed (s : State) (admin : Administration) (what : SetupStatement) (calls : List Call)
    (entries : List Entry) (after : State) : Type 0 where
  pub changes : List Entry
  pub works : Works (work_of_statement admin what) admin.words (says.Act (admin.actions + 1) ∷ []) calls changes
  pub entries_are : entries ≡ changes ++ reply_entries what (reply_to admin what)
  pub after_is : after ≡ acted s (has_changed admin what)

-- an inquiry changes nothing
pub record Inquired (s : State) (what : Inquiry) (calls : List Call) (entries : List Entry) (after : State) : Type 0
  where
    pub calls_are : calls ≡ inquiry_calls what
    pub entries_are : entries ≡ inquiry_entry what ∷ []
    pub after_is : after ≡ s

-- the step of a reading, where there is one
abbrev pub looks_at : Option Reading → List Step
looks_at None = []
looks_at (Some reading) = Inquires (Looks reading) ∷ []

-- what a step asks for: its calls, newest first, its entries in order, and the session after it
abbrev pub Does : State → Step → List Call → List Entry → State → Type 0
Does s (StartsEvent subject) calls entries after = Starts s subject calls entries after
Does s (EndsEvent numbers) calls entries after = Ends s numbers calls entries after
Does s (Spends time) calls entries after =
    (calls ≡ []) × (entries ≡ []) × (after ≡ record s { clock = (s.clock + time) % 2 ^ 64 })
Does s SettlesHeld calls entries after = Settles s calls entries after
Does s (Connects admin user host) calls entries after =
    Works (work_of_connect admin s.number user host) admin.words
    (connect_entry (admin.actions + 1) (seat_at admin s.number user host) ∷ []) calls entries
    × (after ≡ record (acted s (connected admin s.number user host)) {
      place = placed_of (seat_at admin s.number user host);
    })
Does s (Quits admin) calls entries after =
    Works (work_of_quit admin s.number) admin.words (says.Act (admin.actions + 1) ∷ []) calls entries
    × (after ≡ record (acted s (has_quit admin s.number)) { place = no_place })
Does s (Truncates admin what) calls entries after = Truncated s admin what calls entries after
Does s (Changes admin what) calls entries after = Changed s admin what calls entries after
Does s (Inquires what) calls entries after = Inquired s what calls entries after

-- a stage ends where the innermost open event is one; another starts where one is given
abbrev pub stage_ends : List Open → List Step
stage_ends [] = []
stage_ends (what ∷ events) = if is_stage what.kind then EndsEvent no_numbers ∷ [] else []

abbrev pub stage_starts : Option Subject → List Step
stage_starts None = []
stage_starts (Some subject) = StartsEvent subject ∷ []

abbrev pub stage_steps : List Open → Option Subject → List Step
stage_steps events subject = stage_ends events ++ stage_starts subject

-- what a start asks for, where one is given
abbrev pub StageMayStart : OpenEvents → Option Subject → Type 0
StageMayStart nest None = Unit {0}
StageMayStart nest (Some subject) = MayStart nest subject.kind × (length nest.events < nest.depth)
    × IfSome subject.class (λ n. n < 63) × IfSome subject.table (λ n. n < 64)
    × IfSome subject.digest (λ n. n < 64) × (subject.kind ≡ Stage)

-- a step that was done
pub record Turn : Type 0 where
  pub step : Step
  pub calls : List Call
  pub entries : List Entry
  pub after : State

-- turns, newest first, each from the session as those before it left it
abbrev pub state_after : State → List Turn → State
state_after s [] = s
state_after s (turn ∷ turns) = turn.after

abbrev pub AreTurns : State → List Turn → Type 0
AreTurns s [] = Unit {0}
AreTurns s (turn ∷ turns) =
    Does (state_after s turns) turn.step turn.calls turn.entries turn.after × AreTurns s turns

abbrev pub turns_calls : List Turn → List Call
turns_calls [] = []
turns_calls (turn ∷ turns) = turn.calls ++ turns_calls turns

-- in order
abbrev pub turns_entries : List Turn → List Entry
turns_entries [] = []
turns_entries (turn ∷ turns) = turns_entries turns ++ turn.entries

abbrev pub steps_of : List Turn → List Step
steps_of [] = []
steps_of (turn ∷ turns) = steps_of turns ++ turn.step ∷ []

-- a session did these steps, in this order, and nothing else: it made just their calls, and wrote just their entries
pub record Played (steps : List Step) (old new : Book) (was now : Opening → List Call → Type 0) : Type 0 where
  pub turns : List Turn
  pub are_turns : AreTurns old.state turns
  pub steps_are : steps_of turns ≡ steps
  pub state_is : new.state ≡ state_after old.state turns
  pub did : Did (turns_calls turns) (turns_entries turns) old.journal new.journal was now
