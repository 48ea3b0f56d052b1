-- What an action asks for, and what its entries say it did.
use Rattle.std.specs.Prelude.{ℕ, ◌≡◌, ◌<◌, ◌==◌, Bool, cond, List, [], ◌∷◌, ◌++◌, Option}
use Rattle.pfs_event.specs.declared.entry.Entry.{Entry}
use Rattle.pfs_event.specs.declared.entry.Entry.TheVariants as says
use Rattle.pfs_model.specs.declared.lines.Line.{Line}
use Rattle.pfs_model.specs.declared.lines.Line.TheVariants as lines
use Rattle.pfs_model.specs.EntryPlaces.{Placed, chosen}
use Rattle.pfs_model.specs.Chains.{each_of}

-- one row is taken, and what was found goes to these, ascending
pub record Move : Type 0 where
  pub from : ℕ
  pub to : List ℕ

-- an info row or a place is released or written
pub data Sign : Type 0 where
  Frees : ℕ → Sign
  Tags : ℕ → Sign

-- a switch word gets these flags
pub record Flagging : Type 0 where
  pub word : ℕ
  pub flags : ℕ

-- The moves stand level after level, and within a level ascending by row (for accounts, users and hosts so for one
-- kind after another, for a quit ascending by row over all kinds); the signs ascend by row, the sets by word. An
-- action that isn't there asks for nothing.
pub record Asked : Type 0 where
  pub moves : List Move
  pub signs : List Sign
  pub sets : List Flagging

-- what was done, without its version
pub data Did : Type 0 where
  Took : ℕ → Did
  Gave : ℕ → ℕ → Did
  Freed : ℕ → Did
  Tagged : ℕ → Did
  Flagged : ℕ → ℕ → Did

abbrev pub did : Entry → List Did
did (says.Take row version) = Took row ∷ []
did (says.Give row version from) = Gave row from ∷ []
did (says.Free row version) = Freed row ∷ []
did (says.Tag row version) = Tagged row ∷ []
did (says.Set word version flags) = Flagged word flags ∷ []
did entry = []

abbrev pub given_to : ℕ → List ℕ → List Did
given_to from [] = []
given_to from (row ∷ rows) = Gave row from ∷ given_to from rows

-- a give is made where what the take found has counted something
abbrev pub moved_by : (ℕ → Bool) → List Move → List Did
moved_by counted [] = []
moved_by counted (move ∷ moves) =
    Took move.from ∷ (cond (counted move.from) (given_to move.from move.to) [] ++ moved_by counted moves)

abbrev pub signed_by : List Sign → List Did
signed_by [] = []
signed_by (Frees row ∷ signs) = Freed row ∷ signed_by signs
signed_by (Tags row ∷ signs) = Tagged row ∷ signed_by signs

abbrev pub flagged_by : List Flagging → List Did
flagged_by [] = []
flagged_by (one ∷ others) = Flagged one.word one.flags ∷ flagged_by others

abbrev pub asked_of : (ℕ → Bool) → Asked → List Did
asked_of counted asked = moved_by counted asked.moves ++ (signed_by asked.signs ++ flagged_by asked.sets)

-- where a connect finds room: a slot, and rows for its account, its user and its host, each where there was one
pub record Rooms : Type 0 where
  pub thread : Option ℕ
  pub account : Option ℕ
  pub user : Option ℕ
  pub host : Option ℕ

-- what a change by SQL is answered: how many rows it met, or the number of an error
pub data Answer : Type 0 where
  Replied : ℕ → Answer
  Failed : ℕ → Answer

-- the answer of a line: a text that is refused beforehand has the error that the line says, and any other that of its
-- action
abbrev pub answer_at : (ℕ → Answer) → Line → ℕ → Answer
answer_at answers (lines.Refused error) action = Failed error
answer_at answers line action = answers action

-- A connect has the rooms that its action gives, and an answer is that of its line.
abbrev pub IsAnswered : (ℕ → Rooms) → (ℕ → Answer) → Placed → Entry → Type 0
IsAnswered rooms answers place (says.Connect action thread account user host) =
    rooms action ≡ record { thread = thread; account = account; user = user; host = host }
IsAnswered rooms answers place (says.Reply number) =
    answer_at answers place.line place.context.action ≡ Replied number
IsAnswered rooms answers place (says.Error number) =
    answer_at answers place.line place.context.action ≡ Failed number
IsAnswered rooms answers place entry = Unit {0}

abbrev pub AreAnswered : (ℕ → Rooms) → (ℕ → Answer) → List Placed → Type 0
AreAnswered rooms answers [] = Unit {0}
AreAnswered rooms answers (place ∷ places) =
    IsAnswered rooms answers place place.entry × AreAnswered rooms answers places

-- the entries of an action
abbrev pub of_action : ℕ → List Placed → List Placed
of_action number places = chosen (λ place. place.context.action == number) places

-- Each action does just what it asks for, in this order. `counted action row` says whether the action's take of the
-- row found an event: the contents tell.
abbrev pub DoAsAsked : (ℕ → Asked) → (ℕ → ℕ → Bool) → List Placed → Type 0
DoAsAsked asked counted all = (number : ℕ) → 0 < number
    → each_of did (of_action number all) ≡ asked_of (counted number) (asked number)
