-- What holds of the journals of all sessions of a run, rule by rule.
use Rattle.std.specs.Prelude.{ℕ, ◌<◌, Bool, List, Option}
use Rattle.pfs_model.specs.Actions.{settings_of}
use Rattle.pfs_model.specs.ActionAsks.{Asked, Answer, Rooms, AreAnswered, DoAsAsked}
use Rattle.pfs_model.specs.Causes.{AreCaused}
use Rattle.pfs_model.specs.Contents.{Facts, Given, AreContents, AreFoundAsCounted}
use Rattle.pfs_model.specs.Contexts.{fresh}
use Rattle.pfs_model.specs.Floors.{AreThere}
use Rattle.pfs_model.specs.EventNumbers.{AreNumbered}
use Rattle.pfs_model.specs.EntryPlaces.{Block, Placed, places, told_by, IsShaped}
use Rattle.pfs_model.specs.PlainAgreement.{AreJoint}
use Rattle.pfs_model.specs.Rings.{AreTickets, LongRises}
use Rattle.pfs_model.specs.SetupFlags.{AreJudged, flags_at}

-- What the rules go by beside the journals: how many statements may be open one in another; the flags of the switch
-- words at first; of each action, by its number, what it asks for, where a connect finds room, what it is answered and
-- the words that it writes to an info row; and the facts of each session's events, by their position among its starts.
pub record Terms : Type 0 where
  pub stack : ℕ
  pub opening : ℕ → ℕ
  pub asked : ℕ → Asked
  pub rooms : ℕ → Rooms
  pub answers : ℕ → Answer
  pub info_words : ℕ → ℕ → List ℕ
  pub facts : ℕ → ℕ → Facts

-- the flags of a word at a version: those of its printed set, and at first the opening ones
abbrev pub flags_by : Terms → List Placed → ℕ → ℕ → ℕ
flags_by terms all = flags_at terms.opening (settings_of all)

-- the slot that a session's connect printed
abbrev pub slot_in : List Block → ℕ → Option ℕ
slot_in blocks session = (told_by session fresh blocks).slot

-- what the contents go by
abbrev pub given_by : Terms → List Block → Given
given_by terms blocks = record {
  flags = flags_by terms (places blocks);
  slots = slot_in blocks;
  facts = terms.facts;
  info_words = terms.info_words;
}

-- The entries are those that the lines ask for and allow. Each change of a row, each set of a word and each action has
-- its number once, actions rise along each session and never fall along a row, and each line stands at or above its
-- floor. What it names is there, and what was held has its cause. Each verdict is that of the flags at the versions
-- that its start names, and each event has its numbers. Each connect has its rooms, each answer is its action's, and
-- each action does what it asks for and nothing else. What stands in a row at a version is made by its change of what
-- stood there before, and `counted` says of each action and row whether its take found something counted. The puts of
-- the long history have the tickets of their kind, each at its place, and rise there with the versions.
pub record AreRules (terms : Terms) (counted : ℕ → ℕ → Bool) (content : ℕ → ℕ → List ℕ) (blocks : List Block) : Type 0
  where
    pub shaped : IsShaped blocks
    pub joint : AreJoint (places blocks)
    pub there : AreThere (places blocks)
    pub caused : AreCaused (places blocks)
    pub judged : AreJudged terms.stack (flags_by terms (places blocks)) (places blocks)
    pub numbered : AreNumbered (places blocks)
    pub answered : AreAnswered terms.rooms terms.answers (places blocks)
    pub done : DoAsAsked terms.asked counted (places blocks)
    pub found : AreFoundAsCounted content counted (places blocks)
    pub contents : AreContents (given_by terms blocks) content (places blocks)
    pub ticketed : (phase kind : ℕ) → kind < 4 → AreTickets (places blocks) phase kind
    pub risen : LongRises (places blocks)
