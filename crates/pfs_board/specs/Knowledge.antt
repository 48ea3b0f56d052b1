-- What a seat's view says, and how each step changes it.
use Rattle.std.specs.Prelude.{◌≡◌, ℕ, ◌+◌, ◌-◌, ◌*◌, ◌/◌, ◌%◌, ◌==◌, max, Bool, true, false, if◌then◌else◌, List, [], ◌∷◌, ◌++◌, map, length, replicate, slice_index, slice_index_or, slice_set, Some, None}
use Rattle.pfs_board.specs.declared.view.Change.{Change}
use Rattle.pfs_board.specs.declared.view.Corner.{Corner}
use Rattle.pfs_board.specs.declared.view.Finished.{Finished}
use Rattle.pfs_board.specs.declared.view.Label.{Label}
use Rattle.pfs_board.specs.declared.view.Sight.{Sight}
use Rattle.pfs_board.specs.declared.view.Stage.{Stage}
use Rattle.pfs_board.specs.declared.view.Stage.TheVariants.{Idle, Reading, Holding}
use Rattle.pfs_board.specs.declared.view.View.{View}
use Rattle.pfs_board.specs.History.{all_changes, total, step_of}

abbrev pub no_label : Label
no_label = record { session = 0; line = 0 }

-- of a row that it never looked at
abbrev pub newcomer : Corner
newcomer = record { stage = Idle; seen = 0; last = None; fresh = false }

abbrev pub corner : View → ℕ → Corner
corner v r = slice_index_or v.rows r newcomer

abbrev pub is_holding : Stage → Bool
is_holding (Holding k found put) = true
is_holding _ = false

-- how many rows it holds
abbrev pub held : List Corner → ℕ
held [] = 0
held (c ∷ cs) = (if is_holding c.stage then 1 else 0) + held cs

-- how many publications it may still make, or it and those that it took in have made
abbrev pub stake : View → ℕ
stake v = v.allowance + total step_of v.made

-- no publication is made or may be made but by this seat and those that it took in
abbrev pub IsWhole : View → Type 0
IsWhole v = stake v ≡ all_changes

-- the lock word of a row is the one that the seat saw or left there last, where it is alone and that word is fresh
abbrev pub IsAsLeft : View → ℕ → ℕ → Type 0
IsAsLeft v r n = IsWhole v → (k : ℕ) → (corner v r).fresh ≡ true → (corner v r).last ≡ Some k → n ≡ k

-- the view with another corner
abbrev pub turned : View → ℕ → Corner → View
turned v r c = record v { rows = slice_set v.rows r c }

-- a corner after its lock word was seen or left at n
abbrev pub sighted : Stage → ℕ → Corner
sighted stage n = record { stage = stage; seen = n / 4; last = Some n; fresh = true }

-- a read begins where the row holds a content
abbrev pub begun : ℕ → Stage
begun n = if n % 4 == 2 then Reading (n / 4) [] else Idle

abbrev pub sight_of : View → ℕ → ℕ → ℕ → Sight
sight_of v r first second = record {
  by = v.number;
  row = r;
  first = first;
  second = second;
  action = v.action;
  after = v.after;
  base = v.base;
}

abbrev pub read_of : View → ℕ → ℕ → List ℕ → Finished
read_of v r k xs = record {
  by = v.number;
  row = r;
  version = k;
  action = v.action;
  after = v.after;
  base = v.base;
  content = xs;
}

abbrev pub change_of : View → ℕ → ℕ → Bool → Label → List ℕ → List ℕ → Change
change_of v r k puts label found put = record {
  by = v.number;
  row = r;
  version = k;
  puts = puts;
  action = v.action;
  after = v.after;
  base = v.base;
  label = label;
  found = found;
  put = put;
}

abbrev pub version_read : Stage → ℕ
version_read (Reading k xs) = k
version_read _ = 0

abbrev pub words_read : Stage → List ℕ
words_read (Reading k xs) = xs
words_read _ = []

abbrev pub version_held : Stage → ℕ
version_held (Holding k found put) = k
version_held _ = 0

abbrev pub found_in : Stage → List ℕ
found_in (Holding k found put) = found
found_in _ = []

abbrev pub stored_in : Stage → List ℕ
stored_in (Holding k found put) = put
stored_in _ = []

-- one more content word was loaded: a reader keeps it, the holder knew it
abbrev pub peeked : Stage → ℕ → Stage
peeked (Reading k xs) n = Reading k (xs ++ n ∷ [])
peeked stage n = stage

abbrev pub stored : Stage → ℕ → Stage
stored (Holding k found put) n = Holding k found (put ++ n ∷ [])
stored stage n = stage

abbrev pub restaged : Corner → Stage → Corner
restaged c stage = record c { stage = stage }

-- the first look of a take, which has nothing to tell of a row that is free
abbrev pub tried : View → ℕ → ℕ → View
tried v r n = record (turned v r (sighted Idle n)) {
  looks = v.looks + 1;
  sights = if n % 4 == 1 then sight_of v r n n ∷ v.sights else v.sights;
}

-- the first look of a read
abbrev pub looked : View → ℕ → ℕ → View
looked v r n = record (turned v r (sighted (begun n) n)) {
  looks = v.looks + 1;
  sights = if n % 4 == 2 then v.sights else sight_of v r n n ∷ v.sights;
}

-- the last look of a read, whose first look found the row allocated at the version k, and then the words xs
abbrev pub finished_at : View → ℕ → ℕ → ℕ → List ℕ → View
finished_at v r n k xs = if n == 4 * k + 2 then record (turned v r (sighted Idle n)) {
  looks = v.looks + 1;
  reads = read_of v r k xs ∷ v.reads;
} else record (turned v r (sighted Idle n)) {
  looks = v.looks + 1;
  sights = sight_of v r (4 * k + 2) n ∷ v.sights;
}

abbrev pub finished : View → ℕ → ℕ → View
finished v r n = finished_at v r n (version_read (corner v r).stage) (words_read (corner v r).stage)

-- a take from `old` that found it, and the content
abbrev pub took : View → ℕ → ℕ → List ℕ → View
took v r old found = record (turned v r (sighted (Holding (old / 4) found []) (4 * (old / 4) + 1))) {
  looks = v.looks
      + 1;
  replaced = old;
}

-- a take from `old` that found n
abbrev pub missed : View → ℕ → ℕ → ℕ → View
missed v r old n = record (turned v r (sighted Idle n)) { looks = v.looks + 1; sights = sight_of v r old n ∷ v.sights }

-- the holder looked at its lock word
abbrev pub weighed : View → View
weighed v = record v { looks = v.looks + 1 }

-- a number was told, by an exchange of the lock word of row 0
abbrev pub told : View → ℕ → View
told v a = record v { looks = v.looks + 1; said = a ∷ v.said }

-- a publication of a row but row 0
abbrev pub published_at : View → ℕ → ℕ → List ℕ → List ℕ → View
published_at v r k found put = record (turned v r (sighted Idle (4 * (k + 1) + 2))) {
  allowance = v.allowance - 1;
  made = change_of v r (k + 1) true no_label found put ∷ v.made;
}

abbrev pub published : View → ℕ → View
published v r = published_at v r (version_held (corner v r).stage) (found_in (corner v r).stage)
    (stored_in (corner v r).stage)

-- a release of a row but row 0
abbrev pub freed_at : View → ℕ → ℕ → List ℕ → View
freed_at v r k found =
    record (turned v r (sighted Idle (4 * k))) { made = change_of v r k false no_label found found ∷ v.made }

abbrev pub freed : View → ℕ → View
freed v r = freed_at v r (version_held (corner v r).stage) (found_in (corner v r).stage)

-- a look at row 0 by a seat that waits to begin an action
abbrev pub waited : View → ℕ → View
waited v n = record (turned v 0 (sighted Idle n)) { looks = v.looks + 1 }

-- a label as a seat has told it
abbrev pub label_told : View → Label
label_told v = record { session = slice_index v.said 0; line = slice_index v.said 1 }

-- between calls a row is in hand or not
abbrev pub settled : Stage → Stage
settled (Holding k found put) = Holding k found put
settled _ = Idle

-- A split, a join and the beginning of an action leave no last word fresh
abbrev pub stale : List Corner → List Corner
stale cs = map (λ (c : Corner). record c { stage = settled c.stage; fresh = false }) cs

-- An action begins, with this label, after the actions of these labels: row 0 was taken with this content, and the
-- value stood for the labels
abbrev pub begun_with : View → Label → List Label → List ℕ → View
begun_with v label labels found = record v {
  said = [];
  looks = v.looks + 1;
  action = length labels + 1;
  after = length labels;
  lent = true;
  label = label;
  labels = labels;
  entered = record { by = v.number; action = length labels + 1; labels = labels } ∷ v.entered;
  rows = slice_set (stale v.rows) 0 (sighted (Holding (length labels) found []) (4 * length labels + 1));
}

-- An action ends: row 0 is published with the content that was found, and the value is at home
abbrev pub ended_with : View → List ℕ → View
ended_with v found = record (turned v 0 (sighted Idle (4 * v.action + 2))) {
  allowance = v.allowance - 1;
  action = 0;
  after = v.action;
  lent = false;
  label = no_label;
  labels = [];
  made = change_of v 0 v.action true v.label found found ∷ v.made;
}

abbrev pub ended : View → View
ended v = ended_with v (found_in (corner v 0).stage)

-- the value goes out, and stands for these labels
abbrev pub lent_with : View → List Label → View
lent_with v labels = record v { lent = true; labels = labels }

abbrev pub restored : View → View
restored v = record v { lent = false; labels = [] }

-- half way through a call that hands the value over, or not
abbrev pub halfway : View → Bool → View
halfway v half = record v { moving = half }

-- what a new seat has of each row
abbrev pub fresh_start : List Corner → List Corner
fresh_start cs = map (λ (c : Corner). record newcomer { seen = c.seen }) cs

-- the greater of the versions seen
abbrev pub merged : List Corner → List Corner → List Corner
merged [] ds = []
merged (c ∷ cs) [] = record c { stage = settled c.stage; fresh = false } ∷ merged cs []
merged (c ∷ cs) (d ∷ ds) = record c { stage = settled c.stage; fresh = false; seen = max c.seen d.seen } ∷ merged cs ds

-- of a seat that cuts off as many publications as it said last
abbrev pub split_left : View → View
split_left v = record v {
  seats = v.seats + 1;
  allowance = v.allowance - slice_index v.said 0;
  said = [];
  rows = stale v.rows;
}

abbrev pub split_right : View → View
split_right v = record {
  number = v.seats + 1;
  live = true;
  seats = 0;
  allowance = slice_index v.said 0;
  said = [];
  start = v.start;
  action = 0;
  after = 0;
  base = length v.made;
  lent = false;
  moving = false;
  label = no_label;
  labels = [];
  looks = 0;
  replaced = 0;
  made = [];
  reads = [];
  sights = [];
  entered = [];
  rows = fresh_start v.rows;
}

abbrev pub joined : View → View → View
joined v w = record v {
  allowance = v.allowance + w.allowance;
  looks = v.looks + w.looks;
  made = w.made ++ v.made;
  reads = w.reads ++ v.reads;
  sights = w.sights ++ v.sights;
  entered = w.entered ++ v.entered;
  rows = merged v.rows w.rows;
}

-- of a seat that was taken in
abbrev pub spent : View
spent = record {
  number = 0;
  live = false;
  seats = 0;
  allowance = 0;
  said = [];
  start = [];
  action = 0;
  after = 0;
  base = 0;
  lent = false;
  moving = false;
  label = no_label;
  labels = [];
  looks = 0;
  replaced = 0;
  made = [];
  reads = [];
  sights = [];
  entered = [];
  rows = [];
}

-- of the root of a new board
abbrev pub root : List ℕ → View
root start = record {
  number = 0;
  live = true;
  seats = 0;
  allowance = all_changes;
  said = [];
  start = start;
  action = 0;
  after = 0;
  base = 0;
  lent = false;
  moving = false;
  label = no_label;
  labels = [];
  looks = 0;
  replaced = 0;
  made = [];
  reads = [];
  sights = [];
  entered = [];
  rows = replicate (length start / 17) newcomer;
}
