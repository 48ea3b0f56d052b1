-- What the view of a seat or of the writer says, and how each step changes it.
use Rattle.std.specs.Prelude.{ℕ, ◌+◌, max, true, false, List, [], ◌∷◌, ◌++◌, length, replicate, slice_index, slice_set}
use Rattle.pfs_switches.specs.declared.view.Loaded.{Loaded}
use Rattle.pfs_switches.specs.declared.view.Met.{Met}
use Rattle.pfs_switches.specs.declared.view.View.{View}
use Rattle.pfs_switches.specs.History.{setting}

-- 2^48 - 1
abbrev pub last_version : ℕ
last_version = 281474976710655

abbrev pub load_of : View → ℕ → ℕ → ℕ → Loaded
load_of v r k flags = record {
  by = v.number;
  place = v.made;
  word = r;
  version = k;
  flags = flags;
  first = slice_index v.first r;
  least = slice_index v.seen r;
}

-- the word r was loaded, at the version k
abbrev pub loaded : View → ℕ → ℕ → ℕ → View
loaded v r k flags = record v { made = v.made + 1; seen = slice_set v.seen r k; loads = load_of v r k flags ∷ v.loads }

-- the writer set the word r, and it has the version k now
abbrev pub was_set : View → ℕ → ℕ → ℕ → View
was_set v r k flags = record v { seen = slice_set v.seen r k; sets = setting r k flags ∷ v.sets }

-- the greater of the versions seen
abbrev pub merged : List ℕ → List ℕ → List ℕ
merged [] ds = []
merged (c ∷ cs) [] = c ∷ merged cs []
merged (c ∷ cs) (d ∷ ds) = max c d ∷ merged cs ds

-- of a seat that was taken in
abbrev pub spent : View
spent = record {
  live = false;
  seated = false;
  writes = false;
  start = [];
  number = 0;
  seats = 0;
  made = 0;
  first = [];
  seen = [];
  loads = [];
  meets = [];
  sets = [];
}

-- of a new table: the root and the writer in one
abbrev pub whole : List ℕ → View
whole start = record {
  live = true;
  seated = true;
  writes = true;
  start = start;
  number = 0;
  seats = 0;
  made = 0;
  first = replicate (length start) 0;
  seen = replicate (length start) 0;
  loads = [];
  meets = [];
  sets = [];
}

abbrev pub reader : View → View
reader v = record v { writes = false; sets = [] }

abbrev pub writer : View → View
writer v = record spent { live = true; writes = true; start = v.start; seen = v.seen; sets = v.sets }

-- what the root keeps that makes a seat, and what the new seat has
abbrev pub split_left : View → View
split_left v = record v { seats = v.seats + 1 }

abbrev pub split_right : View → View
split_right v = record spent {
  live = true;
  seated = true;
  start = v.start;
  number = v.seats + 1;
  first = v.seen;
  seen = v.seen;
}

abbrev pub joined : View → View → View
joined v w = record v { seen = merged v.seen w.seen; loads = w.loads ++ v.loads; meets = w.meets ++ v.meets }

abbrev pub meet_of : View → View → Met
meet_of v w = record { by = v.number; place = v.made; versions = w.seen; least = v.seen; start = w.start }

-- the seat v met the writer w, and has seen exactly the versions that the writer knows
abbrev pub met : View → View → View
met v w = record v { seen = w.seen; meets = meet_of v w ∷ v.meets }

-- the two in one, while they meet
abbrev pub gathered : View → View → View
gathered v w = record v { writes = true; seen = w.seen; meets = meet_of v w ∷ v.meets; sets = w.sets }

-- The writer and a seat in one, at the end. What the seat had seen stands in `first`
abbrev pub handed : View → View → View
handed v w = record v { writes = true; first = v.seen; seen = w.seen; sets = w.sets }
