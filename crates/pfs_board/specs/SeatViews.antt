-- What contracts see of a board and of a seat, and what holds of them between calls.
use Rattle.std.specs.Prelude.{◌≡◌, ℕ, ◌+◌, ◌*◌, ◌/◌, ◌%◌, ◌^◌, ◌<◌, ◌≤◌, ◌++◌, true, false, Some, List, [], ◌∷◌, length}
use Rattle.atomic_table.specs.Seated.{TableId}
use Rattle.pfs_board.specs.declared.view.View.{View}
use Rattle.pfs_board.specs.declared.answers.FinalRow.{FinalRow}
use Rattle.pfs_board.specs.declared.view.Change.{Change}
use Rattle.pfs_board.specs.History.{Each}
use Rattle.pfs_board.specs.Knowledge.{corner, is_holding, split_left, split_right, spent}
use Rattle.pfs_board.specs.SeatDemands.{IsCalm}

-- which board, and its opening words
pub record Place : Type 0 where
  pub id : TableId
  pub start : List ℕ

-- which board a seat is of, and what it knows
pub record Known : Type 0 where
  pub board : TableId
  pub view : View

abbrev pub place : TableId → List ℕ → Place
place z start = record { id = z; start = start }

abbrev pub known : TableId → View → Known
known z v = record { board = z; view = v }

abbrev pub first_view : List View → View
first_view [] = spent
first_view (v ∷ vs) = v

-- rows of seventeen words, the slot of the kept value, and room for the rows at the end
pub record IsSized (z : TableId) (start : List ℕ) (spare : List FinalRow) (room : ℕ) : Type 0 where
  pub words : z.words ≡ length start
  pub slots : z.slots ≡ 1
  pub small : z.words < 2 ^ 64
  pub rows : length start ≡ 17 * (length start / 17)
  pub some_row : 0 < length start
  pub empty : spare ≡ []
  pub roomy : length start / 17 ≤ room

-- A seat that is in no action doesn't hold row 0. In one it does, the value is out with it, and it has the labels of
-- the actions before
pub record IsPoised (v : View) : Type 0 where
  pub outside : v.action ≡ 0 → is_holding (corner v 0).stage ≡ false
  pub inside : 0 < v.action → (is_holding (corner v 0).stage ≡ true) × (v.lent ≡ true)
      × (length v.labels + 1 ≡ v.action) × (v.after + 1 ≡ v.action)

-- A seat has seen what it made itself, and what those made that it took in: no entry of its list is above what it saw
-- of the row
abbrev pub HasSeenItsOwn : View → Type 0
HasSeenItsOwn v = Each (λ (p : Change). p.version ≤ (corner v p.row).seen) v.made

-- between calls a seat is not spent and half way through nothing, and what it saw last are lock words. It has labels
-- while the value is out with it
pub record IsReady (z : TableId) (views : List View) : Type 0 where
  pub one : views ≡ first_view views ∷ []
  pub live : (first_view views).live ≡ true
  pub quiet : (first_view views).said ≡ []
  pub still : (first_view views).moving ≡ false
  pub blank : (first_view views).lent ≡ false → (first_view views).labels ≡ []
  pub wide : 17 * length (first_view views).rows ≡ z.words
  pub calm : (r : ℕ) → IsCalm (corner (first_view views) r).stage
  pub words : (r n : ℕ) → (corner (first_view views) r).last ≡ Some n → n % 4 < 3
  pub poised : IsPoised (first_view views)
  pub tops : (r n : ℕ) → (corner (first_view views) r).fresh ≡ true → (corner (first_view views) r).last ≡ Some n
      → (corner (first_view views) r).seen ≤ n / 4
  pub own : HasSeenItsOwn (first_view views)

-- the row is one of the board's
abbrev pub HasRow : Place → ℕ → Type 0
HasRow b r = 17 * r < length b.start

-- what a seat keeps that gives this allowance away, and what the new seat has
abbrev pub split_off : View → ℕ → View
split_off v a = split_left (record v { looks = v.looks + 1; said = a ∷ [] })

abbrev pub given : View → ℕ → View
given v a = split_right (record v { said = a ∷ [] })

-- the words of rows
abbrev pub final_words : List FinalRow → List ℕ
final_words [] = []
final_words (x ∷ xs) = x.word ∷ x.content ++ final_words xs
