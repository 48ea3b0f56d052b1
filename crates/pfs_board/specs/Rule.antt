-- The rule of the board, which holds between any two steps.
use Rattle.std.specs.Prelude.{◌≡◌, ◌≢◌, ◌⊎◌, ℕ, ◌+◌, ◌*◌, ◌/◌, ◌%◌, ◌<◌, ◌≤◌, Bool, true, false, List, ◌++◌, length, slice_index, Option, Some, None}
use mathlib.Core.Option.{some}
use mathlib.Core.Option as maybe
use lib.ListN.{get_elem?}
use Rattle.atomic_table.specs.Table.{State}
use Rattle.pfs_board.specs.declared.view.Change.{Change}
use Rattle.pfs_board.specs.declared.view.Corner.{Corner}
use Rattle.pfs_board.specs.declared.view.Entered.{Entered}
use Rattle.pfs_board.specs.declared.view.Finished.{Finished}
use Rattle.pfs_board.specs.declared.view.Label.{Label}
use Rattle.pfs_board.specs.declared.view.Sight.{Sight}
use Rattle.pfs_board.specs.declared.view.Stage.{Stage}
use Rattle.pfs_board.specs.declared.view.Stage.TheVariants.{Idle, Reading, Holding}
use Rattle.pfs_board.specs.declared.view.View.{View}
use Rattle.pfs_board.specs.History.{all_changes, total, Each, Some_of, lock_at, word_at, step_of, version, stands, stood, is_free, IsFreedAt, labels_of, IsChain, oldest, level, version_of, shows_to, Floor}
use Rattle.pfs_board.specs.Knowledge.{corner, is_holding, held, IsWhole, spent}

-- The words as they are, the history, the part of it that the root has, and which seat holds each row that is dirty
pub record Moment : Type 0 where
  pub words : List ℕ
  pub log : List Change
  pub had : List Change
  pub holder : ℕ → ℕ

abbrev pub moment : {S : Type 0} → State S View → List Change → List Change → (ℕ → ℕ) → Moment
moment s log had holder = record { words = s.words; log = log; had = had; holder = holder }

abbrev pub lock : Moment → ℕ → ℕ
lock t r = slice_index t.words (lock_at r)

abbrev pub now : Moment → ℕ → ℕ → ℕ
now t r i = slice_index t.words (word_at r i)

module _ (start : List ℕ) (t : Moment) where
  -- A reader half way: where the row is still allocated at its version, the words that it read stand there.
  -- The holder: what it stored stands there, and above it what its take found.
  abbrev pub Knows : ℕ → ℕ → Stage → Type 0
  Knows seat r Idle = Unit {0}
  Knows seat r (Reading k xs) =
      (k ≤ version t.log r) × (length xs ≤ 16)
      × (lock t r ≡ 4 * k + 2 → (i : ℕ) → i < length xs → slice_index xs i ≡ now t r i)
  Knows seat r (Holding k found put) = (lock t r ≡ 4 * k + 1) × (seat ≡ t.holder r) × (length found ≡ 16)
      × (length put ≤ 16)
      × ((i : ℕ) → i < 16 → slice_index found i ≡ stands start t.log r i)
      × ((i : ℕ) → i < length put → now t r i ≡ slice_index put i)
      × ((i : ℕ) → length put ≤ i → i < 16 → now t r i ≡ stands start t.log r i)

  -- a finished read has what stood at its version, and none is at version 0 of a row that opened free
  pub record IsRead (f : Finished) : Type 0 where
    pub below : f.version ≤ version t.log f.row
    pub wide : length f.content ≡ 16
    pub content_is : (i : ℕ) → i < 16 → slice_index f.content i ≡ stood start t.log f.row f.version i
    pub opened : f.version ≡ 0 → slice_index start (lock_at f.row) ≢ 0
    pub floor : Floor level t.log t.had f.row f.version f.after f.base

  -- what one lock word shows that was seen: the row had that version; where it was free, it was released at it; and
  -- none is allocated at version 0 of a row that opened free
  pub record IsKnown (row n after base : ℕ) : Type 0 where
    pub state : n % 4 < 3
    pub below : n / 4 ≤ version t.log row
    pub free : n % 4 ≡ 0 → IsFreedAt start t.log row (n / 4)
    pub opened : n ≡ 2 → slice_index start (lock_at row) ≢ 0
    pub floor : Floor version_of t.log t.had row (n / 4) after base

  -- a dirty row was in another's hand, who has it still or has published or released it
  abbrev pub IsOthers : ℕ → ℕ → ℕ → Type 0
  IsOthers by row n = ((lock t row ≡ n) × (t.holder row ≢ by))
      ⊎ Some_of (λ (p : Change). (p.row ≡ row) × (p.by ≢ by) × (p.version ≡ n / 4 + step_of p)) t.log

  pub record IsSeen (by row n after base : ℕ) : Type 0 where
    pub known : IsKnown row n after base
    pub dirty : n % 4 ≡ 1 → IsOthers by row n

  -- Two words that one call saw: a dirty or a free one twice, or two of which the first is not dirty. The second is at
  -- no lower version, and a free row is not allocated again at its version. Between two of which the first is not dirty
  -- the seat itself published nothing
  pub record IsSight (x : Sight) : Type 0 where
    pub one : IsSeen x.by x.row x.first x.after x.base
    pub two : IsSeen x.by x.row x.second x.after x.base
    pub shape : (x.second ≡ x.first → x.first % 4 ≢ 2) × (x.first % 4 ≡ 1 → x.second ≡ x.first)
    pub order : x.first / 4 ≤ x.second / 4
    pub again : x.first % 4 ≡ 0 → x.second % 4 ≡ 2 → x.first / 4 < x.second / 4
    pub between : x.first ≢ x.second → x.first % 4 ≢ 1
        → Each (λ (p : Change). p.row ≡ x.row → p.by ≡ x.by → p.puts ≡ true → (p.version ≤ x.first / 4)
        ⊎ (x.second / 4 < p.version)) t.log

  -- the labels that an action found are the first ones, one fewer than its number
  pub record IsEntered (e : Entered) : Type 0 where
    pub count : length e.labels + 1 ≡ e.action
    pub later : List Label
    pub labels_are : labels_of t.log ≡ e.labels ++ later

  -- no own entry of the row is above the last word
  abbrev pub IsLast : ℕ → ℕ → Option ℕ → Type 0
  IsLast seat r None = Each (λ (p : Change). p.row ≡ r → p.by ≢ seat) t.log
  IsLast seat r (Some n) = Each (λ (p : Change). p.row ≡ r → p.by ≡ seat → p.version ≤ n / 4) t.log

  -- It is in no action, or in the one that holds row 0 and is the next. Where the value is out with it, it stood for
  -- the labels. Outside an action it goes out to a seat that is alone
  abbrev pub IsInside : View → Type 0
  IsInside v = ((v.action ≡ 0) × (is_holding (corner v 0).stage ≡ false)
      × (v.lent ≡ true → IsWhole v × (v.labels ≡ labels_of t.log)))
      ⊎ ((v.action ≡ version t.log 0 + 1) × (is_holding (corner v 0).stage ≡ true) × (v.lent ≡ true)
      × (v.labels ≡ labels_of t.log) × (v.after ≡ version t.log 0))

  -- What a seat knows of a row is so. The word that it saw or left last, if that is fresh, stands there still where
  -- it is the only seat
  pub record FitsRow (seat r after base : ℕ) (whole : Type 0) (c : Corner) : Type 0 where
    pub knows : Knows seat r c.stage
    pub seen : c.seen ≤ version t.log r
    pub last : IsLast seat r c.last
    pub tied : (k : ℕ) (xs : List ℕ) → c.stage ≡ Reading k xs → (c.fresh ≡ true) × (c.last ≡ Some (4 * k + 2))
    pub known : (n : ℕ) → c.fresh ≡ true → c.last ≡ Some n → IsKnown r n after base
    pub alone : whole → (n : ℕ) → c.fresh ≡ true → c.last ≡ Some n → lock t r ≡ n

  -- what a seat knows is so
  pub record Fits (seat : ℕ) (v : View) : Type 0 where
    pub number_is : v.number ≡ seat
    pub start_is : v.start ≡ start
    pub wide : 17 * length v.rows ≡ length start
    pub some_left : 0 < v.allowance + total step_of v.made
    pub enough : held v.rows ≤ v.allowance
    pub corners : (r : ℕ) → FitsRow seat r v.after v.base (IsWhole v) (corner v r)
    pub inside : IsInside v
    pub ended : v.after ≤ version t.log 0
    pub split_at : v.base ≤ length t.had
    pub reads : Each IsRead v.reads
    pub sights : Each IsSight v.sights
    pub entered : Each IsEntered v.entered

  -- a lock word counts the row's publications, a row that is not dirty holds what was published last, and a dirty one
  -- is in one seat's hand
  pub record IsRow (views : List View) (r : ℕ) : Type 0 where
    pub counts : lock t r / 4 ≡ version t.log r
    pub state : lock t r % 4 < 3
    pub clean : lock t r % 4 ≢ 1 → (i : ℕ) → i < 16 → now t r i ≡ stands start t.log r i
    pub free : lock t r % 4 ≡ 0 → is_free start t.log r ≡ true
    pub allocated : lock t r % 4 ≡ 2 → is_free start t.log r ≡ false
    pub dirty : lock t r % 4 ≡ 1 → (v : View) × (get_elem? views (t.holder r) ≡ some v) × (v.live ≡ true)
        × (is_holding (corner v r).stage ≡ true)

  -- the root's changes, and that it has made all other seats
  pub record IsRoot (count : ℕ) (v : View) : Type 0 where
    pub here : v.live ≡ true
    pub seats : count ≡ v.seats + 1
    pub made : v.made ≡ t.had

  -- the value is at home, and stands for the labels, but while an action has it or the root lent it
  abbrev pub IsHome : {K : Type 0} → (K → List Label → Type 0) → List (maybe.Option (Option K)) → Bool → Type 0
  IsHome {K} means homes lent = lent ≡ false → lock t 0 % 4 ≢ 1 → (x : K) × (get_elem? homes 0 ≡ some (some (Some x)))
      × means x (labels_of t.log)

  -- an entry of the action that holds row 0 was made by its holder
  abbrev pub IsCurrent : List Change → Type 0
  IsCurrent ps = Each (λ (p : Change). p.action ≡ version t.log 0 + 1 → (lock t 0 % 4 ≡ 1) × (p.by ≡ t.holder 0)) ps

module _ {K : Type 0} (means : K → List Label → Type 0) (start : List ℕ) where
  -- The parts of the rule that are not of one seat or one row. While a seat's caller has the value, its slot is at
  -- home and empty
  pub record Joint (t : Moment) (homes : List (maybe.Option (Option K))) (views : List View) : Type 0 where
    pub wide : length t.words ≡ length start
    pub chain : IsChain start t.log
    pub counted : (h : Change → ℕ) → total (λ (v : View). total h v.made) views ≡ total h t.log
    pub allowed : total (λ (v : View). v.allowance) views + total step_of t.log ≡ all_changes
    pub makers : Each (λ (p : Change). p.by < length views) t.log
    pub floors : Each (λ (p : Change). (p.base ≤ length t.had)
        × Each (λ (e : Change). e.row ≡ p.row → shows_to p e ≤ p.version) (oldest p.base t.had)) t.log
    pub current : IsCurrent start t t.log
    pub root_is : (v : View) × (get_elem? views 0 ≡ some v) × IsRoot start t (length views) v
        × IsHome start t means homes v.lent
    pub empty : (j : ℕ) (v : View) → get_elem? views j ≡ some v → v.lent ≡ true → v.moving ≡ false
        → get_elem? homes 0 ≡ some (some None)
    pub spent_is : (j : ℕ) (v : View) → get_elem? views j ≡ some v → v.live ≡ false → v ≡ spent

  pub record Ruled (s : State (Option K) View) : Type 0 where
    pub log : List Change
    pub had : List Change
    pub holder : ℕ → ℕ
    pub joint : Joint (moment s log had holder) s.homes s.views
    pub seats : (j : ℕ) (v : View) → get_elem? s.views j ≡ some v → v.live ≡ true
        → Fits start (moment s log had holder) j v
    pub rows : (r : ℕ) → lock_at r < length start → IsRow start (moment s log had holder) s.views r
