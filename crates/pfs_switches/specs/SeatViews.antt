-- What contracts see of the setup words and of a seat, and what holds of them between calls.
use Rattle.std.specs.Prelude.{◌≡◌, ℕ, ◌+◌, ◌^◌, ◌<◌, ◌≤◌, true, false, List, [], ◌∷◌, length}
use Rattle.atomic_table.specs.Seated.{TableId}
use Rattle.pfs_switches.specs.declared.view.View.{View}
use Rattle.pfs_switches.specs.Knowledge.{writer, spent}

-- which setup words, and their opening words
pub record Place : Type 0 where
  pub id : TableId
  pub start : List ℕ

-- which setup words a seat or a writer is of, and what it knows
pub record Known : Type 0 where
  pub switches : TableId
  pub view : View

abbrev pub place : TableId → List ℕ → Place
place z start = record { id = z; start = start }

abbrev pub known : TableId → View → Known
known z v = record { switches = z; view = v }

abbrev pub first_view : List View → View
first_view [] = spent
first_view (v ∷ vs) = v

-- the words, one more, and room for the rows at the end
pub record IsSized (z : TableId) (start : List ℕ) (spare : List (ℕ × ℕ)) (room : ℕ) : Type 0 where
  pub words : z.words ≡ length start
  pub slots : z.slots ≡ 0
  pub small : z.words < 2 ^ 64
  pub some_word : 0 < length start
  pub empty : spare ≡ []
  pub roomy : length start ≤ room + 1

pub record IsReady (z : TableId) (views : List View) : Type 0 where
  pub one : views ≡ first_view views ∷ []
  pub live : (first_view views).live ≡ true
  pub sits : (first_view views).seated ≡ true
  pub reads : (first_view views).writes ≡ false
  pub bare : (first_view views).sets ≡ []
  pub wide : length (first_view views).seen ≡ z.words

pub record IsWriting (z : TableId) (views : List View) : Type 0 where
  pub one : views ≡ first_view views ∷ []
  pub live : (first_view views).live ≡ true
  pub stands : (first_view views).seated ≡ false
  pub writes : (first_view views).writes ≡ true
  pub own : first_view views ≡ writer (first_view views)
  pub wide : length (first_view views).seen ≡ z.words

-- the word is one of those that were opened; the last is nobody's
abbrev pub HasWord : Place → ℕ → Type 0
HasWord b r = r + 1 < length b.start
