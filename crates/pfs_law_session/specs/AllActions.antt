-- What the administration asks for is what all journals say was done: any number of sessions, block by block.
use Rattle.std.specs.Prelude.{ℕ, ◌≡◌, ◌<◌, ◌==◌, ◌⊎◌, List, [], ◌∷◌, ◌++◌}
use Rattle.pfs_model.specs.ActionAsks.{Asked, AreAnswered, DoAsAsked, asked_of, did, of_action}
use Rattle.pfs_model.specs.Chains.{Each, each_of, times}
use Rattle.pfs_model.specs.Contents.{Given, amount_of, AllContents, AreFoundAsCounted}
use Rattle.pfs_model.specs.Contexts.{Context, fresh}
use Rattle.pfs_model.specs.EntryPlaces.{Block, Placed, places, placed_lines, told_by, by_session}
use Rattle.pfs_law_session.specs.Amounts.{AllContentsAgree, IsAdded, AreAdded, IsPut, ArePut}
use Rattle.pfs_law_session.specs.Deeds.{Part}
use Rattle.pfs_law_session.specs.JournalLaws.{AreParts, lines_of, entries_of}
use Rattle.pfs_law_session.specs.Stints.{Stint, IsDoneBy, along, block_of, blocks_of}
use Rattle.pfs_session.specs.SessionStates.{State}
use Rattle.pfs_law_session.specs.Demands.{Orders, AreOrders, number_of}
use Rattle.pfs_law_session.specs.DoneActions.{AreMade}

-- the number of each line's action, and 0 of a line that is none
abbrev pub numbers_of : List Part → List ℕ
numbers_of [] = []
numbers_of (p ∷ ps) = number_of p.deed ∷ numbers_of ps

abbrev pub all_numbers : List Stint → List ℕ
all_numbers stints = along numbers_of stints

-- the orders are those of each action of a session
abbrev pub AllOrders : Orders → Given → (ℕ → ℕ → List ℕ) → ℕ → List Part → Type 0
AllOrders orders given content session [] = Unit {0}
AllOrders orders given content session (p ∷ ps) =
    (0 < number_of p.deed → AreOrders orders given content session p) × AllOrders orders given content session ps

-- a session does a stint; its takes and puts agree with the contents, and the orders are those of its actions
pub record IsOrdered (orders : Orders) (given : Given) (content : ℕ → ℕ → List ℕ) (stint : Stint) : Type 0 where
  pub done : IsDoneBy stint.session stint.parts
  pub contents : AllContentsAgree content stint.parts
  pub told : AllOrders orders given content stint.session stint.parts

abbrev pub nothing_asked : Asked
nothing_asked = record { moves = []; signs = []; sets = [] }

-- a number is that of one action, or of none, which asks for nothing
abbrev pub AreActions : (ℕ → Asked) → List ℕ → Type 0
AreActions asked numbers = (number : ℕ) → 0 < number → (times (λ n. n == number) numbers ≡ 1)
    ⊎ ((times (λ n. n == number) numbers ≡ 0) × (asked number ≡ nothing_asked))

-- each action does just what it asks for, in its order; connects have their rooms; takes are found as counted; and all
-- contents but those of additions and puts are as their changes make them
pub record IsAsked (orders : Orders) (given : Given) (content : ℕ → ℕ → List ℕ) (all : List Placed) : Type 0 where
  pub done : DoAsAsked orders.asked orders.counted all
  pub answered : AreAnswered orders.rooms orders.answers all
  pub found : AreFoundAsCounted content orders.counted all
  pub made : AreMade given content all

-- each action among these numbers does just what it asks for, in its order, and nothing stands under another number;
-- connects have their rooms; takes are found as counted; and all contents but those of additions and puts are as their
-- changes make them
pub record AreAsked (orders : Orders) (given : Given) (content : ℕ → ℕ → List ℕ) (numbers : List ℕ)
    (all : List Placed) : Type 0 where
  pub done : (number : ℕ) → 0 < number → times (λ n. n == number) numbers ≡ 1
      → each_of did (of_action number all) ≡ asked_of (orders.counted number) (orders.asked number)
  pub none : (number : ℕ) → 0 < number → times (λ n. n == number) numbers ≡ 0
      → each_of did (of_action number all) ≡ []
  pub answered : AreAnswered orders.rooms orders.answers all
  pub found : AreFoundAsCounted content orders.counted all
  pub made : AreMade given content all

-- of lines of a session one after another, alone or among others
abbrev pub LinesLaw : Type 0
LinesLaw = (orders : Orders) (given : Given) (content : ℕ → ℕ → List ℕ) (phase session : ℕ) (context : Context)
    (s : State) (parts : List Part) → AreParts s parts → AllContentsAgree content parts
    → AllOrders orders given content s.number parts
    → AreAsked orders given content (numbers_of parts)
    (placed_lines phase session context (lines_of parts) (entries_of parts))

-- of any number of sessions, in whatever order their blocks stand, whatever their store
abbrev pub RunLaw : Type 0
RunLaw = (orders : Orders) (given : Given) (content : ℕ → ℕ → List ℕ) (stints : List Stint)
    → Each (IsOrdered orders given content) stints → AreActions orders.asked (all_numbers stints)
    → IsAsked orders given content (places (blocks_of stints))

-- each addition makes its row's content of the one before
abbrev pub AreAddedBy : Given → (ℕ → ℕ → List ℕ) → List Placed → Type 0
AreAddedBy given content [] = Unit {0}
AreAddedBy given content (place ∷ places) =
    IsAdded (amount_of given place.session) content place.context place.entry × AreAddedBy given content places

-- each put leaves the words of its event
abbrev pub ArePutBy : Given → (ℕ → ℕ → List ℕ) → List Placed → Type 0
ArePutBy given content [] = Unit {0}
ArePutBy given content (place ∷ places) =
    IsPut given.flags (given.facts place.session) content place.session place.context place.entry
    × ArePutBy given content places

-- each session adds what is given, behind these blocks
abbrev pub AllAdded : Given → (ℕ → ℕ → List ℕ) → List Block → List Stint → Type 0
AllAdded given content earlier [] = Unit {0}
AllAdded given content earlier (stint ∷ stints) =
    AreAdded (amount_of given stint.session) content (placed_lines stint.phase stint.session
    (told_by stint.session fresh earlier) (lines_of stint.parts) (entries_of stint.parts))
    × AllAdded given content (earlier ++ block_of stint ∷ []) stints

-- where additions and puts are made too, all contents are; additions are made where each session adds what is given, be
-- it block by block or by all its entries, and puts where each session's are by all its entries
pub record ContentsLaw : Type 0 where
  pub all : (given : Given) (content : ℕ → ℕ → List ℕ) (places : List Placed) → AreMade given content places
      → AreAddedBy given content places → ArePutBy given content places → AllContents given content places
  pub added : (given : Given) (content : ℕ → ℕ → List ℕ) (stints : List Stint) → AllAdded given content [] stints
      → AreAddedBy given content (places (blocks_of stints))
  pub by_all : (given : Given) (content : ℕ → ℕ → List ℕ) (places : List Placed)
      → ((session : ℕ) → AreAdded (amount_of given session) content (by_session session places))
      → AreAddedBy given content places
  pub put_by_all : (given : Given) (content : ℕ → ℕ → List ℕ) (places : List Placed)
      → ((session : ℕ) → ArePut given.flags (given.facts session) content session (by_session session places))
      → ArePutBy given content places
