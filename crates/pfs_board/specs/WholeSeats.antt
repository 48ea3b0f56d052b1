-- What a seat knows that has the whole sum: the history is what it and the seats that it took in have done.
use Rattle.std.specs.Prelude.{◌≡◌, ◌≢◌, ℕ, ◌/◌, ◌%◌, ◌<◌, ◌≤◌, true, false, List, length}
use Rattle.pfs_board.specs.declared.view.Change.{Change}
use Rattle.pfs_board.specs.declared.view.View.{View}
use Rattle.pfs_board.specs.History.{total, Each, lock_at, version, stands, is_free, labels_of, IsChain, Rises, shows_to, Floor}
use Rattle.pfs_board.specs.Knowledge.{corner, is_holding}
use Rattle.pfs_board.specs.Rule.{Moment, lock, now, Fits}

-- a lock word counts the row's publications. A row that is not dirty holds what was published last, and a dirty one
-- is in this seat's hand
pub record IsFinalRow (start : List ℕ) (t : Moment) (v : View) (r : ℕ) : Type 0 where
  pub counts : lock t r / 4 ≡ version t.log r
  pub state : lock t r % 4 < 3
  pub content : lock t r % 4 ≢ 1 → (i : ℕ) → i < 16 → now t r i ≡ stands start t.log r i
  pub free : lock t r % 4 ≡ 0 → is_free start t.log r ≡ true
  pub allocated : lock t r % 4 ≡ 2 → is_free start t.log r ≡ false
  pub held_by : lock t r % 4 ≡ 1 → is_holding (corner v r).stage ≡ true

-- The words at the end, and one history of all changes in which each of the seat's stands once. No change is below
-- what the actions did that had ended before it, nor below what the root had when its seat was split off. Each was
-- made outside an action, or in one that row 0 has a label of
pub record History (start words : List ℕ) (v : View) : Type 0 where
  pub t : Moment
  pub words_are : t.words ≡ words
  pub seat : ℕ
  pub chain : IsChain start t.log
  pub once : (h : Change → ℕ) → total h v.made ≡ total h t.log
  pub floors : Each (λ (p : Change). Floor (shows_to p) t.log t.had p.row p.version p.after p.base) t.log
  pub rising : Rises t.log
  pub numbers : Each (λ (p : Change). p.action ≤ length (labels_of t.log)) t.log
  pub had_is : v.made ≡ t.had
  pub fits : Fits start t seat v
  pub rows : (r : ℕ) → lock_at r < length start → IsFinalRow start t v r
