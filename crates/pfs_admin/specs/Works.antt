-- What an action writes beside its moves: info rows, releases and switch words, as calls of the store and as entries.
use Rattle.std.specs.Prelude.{ℕ, ◌≡◌, ◌+◌, ◌==◌, if◌then◌else◌, List, [], ◌∷◌, ◌++◌, slice_set}
use Rattle.std.specs.List.{slice_index_or}
use Rattle.pfs_event.specs.declared.entry.Entry.{Entry}
use Rattle.pfs_event.specs.declared.entry.Entry.TheVariants as says
use Rattle.pfs_levels.specs.declared.answers.Word.{Word}
use Rattle.pfs_levels.specs.Calls.{Call, Takes, Puts, Frees, Sets, Opening}
use Rattle.pfs_event.specs.Logs.{Journal}
use Rattle.pfs_levels.specs.Moves.{Ask, Move, AreMoves, moves_calls, moves_entries, Did}

-- a row is released, or gets this content
pub data Sign : Type 0 where
  Releases : ℕ → Sign
  Tags : ℕ → List ℕ → Sign

-- a sign as it was made: the version at which its row was taken, and what the row held
pub record Made : Type 0 where
  pub sign : Sign
  pub version : ℕ
  pub found : List ℕ

abbrev pub sign_calls : Sign → ℕ → List ℕ → List Call
sign_calls (Releases row) version found = Frees row version ∷ Takes row version found ∷ []
sign_calls (Tags row content) version found = Puts row content (version + 1) ∷ Takes row version found ∷ []

abbrev pub sign_entry : Sign → ℕ → Entry
sign_entry (Releases row) version = says.Free row version
sign_entry (Tags row content) version = says.Tag row (version + 1)

abbrev pub made_calls : Made → List Call
made_calls m = sign_calls m.sign m.version m.found

abbrev pub made_entries : Made → List Entry
made_entries m = sign_entry m.sign m.version ∷ []

-- signs that were made stand newest first, as calls do; entries and what was asked for stand in order
abbrev pub signs_calls : List Made → List Call
signs_calls [] = []
signs_calls (m ∷ ms) = made_calls m ++ signs_calls ms

abbrev pub signs_entries : List Made → List Entry
signs_entries [] = []
signs_entries (m ∷ ms) = signs_entries ms ++ made_entries m

abbrev pub signs_of : List Made → List Sign
signs_of [] = []
signs_of (m ∷ ms) = signs_of ms ++ m.sign ∷ []

-- these signs were made, in this order, and nothing else
pub record Signed (signs : List Sign) (old new : Journal) (was now : Opening → List Call → Type 0) : Type 0 where
  pub made : List Made
  pub signs_are : signs_of made ≡ signs
  pub did : Did (signs_calls made) (signs_entries made) old new was now

-- a switch word is to get these flags
pub record Flagging : Type 0 where
  pub word : ℕ
  pub flags : ℕ

-- a switch word as an actor knows it
abbrev pub word_at : List Word → ℕ → Word
word_at words at = slice_index_or words at (record { version = 0; flags = 0 })

abbrev pub set_word : Word → ℕ → Word
set_word word flags = record { version = word.version + 1; flags = flags }

-- a word is set only where its flags change
abbrev pub flagging : List Word → ℕ → ℕ → List Flagging
flagging words at flags =
    if (word_at words at).flags == flags then [] else record { word = at; flags = flags } ∷ []

abbrev pub flagged : List Word → ℕ → ℕ → List Word
flagged words at flags =
    if (word_at words at).flags == flags then words else slice_set words at (set_word (word_at words at) flags)

abbrev pub flagging_calls : List Word → List Flagging → List Call
flagging_calls words [] = []
flagging_calls words (f ∷ fs) =
    flagging_calls words fs ++ Sets f.word f.flags ((word_at words f.word).version + 1) ∷ []

abbrev pub flagging_entries : List Word → List Flagging → List Entry
flagging_entries words [] = []
flagging_entries words (f ∷ fs) =
    says.Set f.word ((word_at words f.word).version + 1) f.flags ∷ flagging_entries words fs

-- what an action asks for: rows that are moved, then rows that are released or written, then words that are set
pub record Work : Type 0 where
  pub moves : List Ask
  pub signs : List Sign
  pub flags : List Flagging

abbrev pub no_work : Work
no_work = record { moves = []; signs = []; flags = [] }

-- it was done, behind these entries, by one who knew the words so
pub record Worked (work : Work) (words : List Word) (head : List Entry) (old new : Journal) (was now : Opening
    → List Call → Type 0) : Type 0 where
  pub moves : List Move
  pub made : List Made
  pub are_moves : AreMoves work.moves moves
  pub signs_are : signs_of made ≡ work.signs
  pub did : Did (flagging_calls words work.flags ++ (signs_calls made ++ moves_calls moves))
      (head ++ (moves_entries moves ++ (signs_entries made ++ flagging_entries words work.flags))) old new was now
