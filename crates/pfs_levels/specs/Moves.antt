-- Moves: each takes a row, publishes zero there, and gives what it found to other rows.
use Rattle.std.specs.Prelude.{ℕ, ◌≡◌, ◌+◌, ◌==◌, if◌then◌else◌, List, [], ◌∷◌, ◌++◌, length, Option, Some, None}
use Rattle.pfs_event.specs.declared.entry.Entry.{Entry}
use Rattle.pfs_event.specs.declared.entry.Entry.TheVariants as says
use Rattle.pfs_stat.specs.declared.Stat.{Stat}
use Rattle.pfs_stat.specs.Stat.{stat_of_words}
use Rattle.pfs_levels.specs.declared.places.Targets.{Targets}
use Rattle.pfs_levels.specs.Calls.{Call, Takes, Puts, Frees, Goes, Opening, IsRow}
use Rattle.pfs_levels.specs.RowWords.{merged, zero_words}
use Rattle.pfs_levels.specs.Views.{Store, Used}
use Rattle.pfs_event.specs.Logs.{Journal}

-- what is asked for: the row to be taken, and those that get what it holds
pub record Ask : Type 0 where
  pub from : ℕ
  pub to : List ℕ

abbrev pub ask : ℕ → List ℕ → Ask
ask from to = record { from = from; to = to }

abbrev pub some_list : Option ℕ → List ℕ
some_list None = []
some_list (Some row) = row ∷ []

abbrev pub targets_of : Targets → List ℕ
targets_of t = some_list t.first ++ some_list t.second

-- what a row got: the version and the content that it had, and the version that the gift made
pub record Gift : Type 0 where
  pub to : ℕ
  pub before : ℕ
  pub version : ℕ
  pub there : List ℕ

-- a row that was taken: its version and what it held, the version at which it was left as zero, and what others got
-- of it, in order
pub record Move : Type 0 where
  pub from : ℕ
  pub before : ℕ
  pub version : ℕ
  pub found : List ℕ
  pub gifts : List Gift

-- each version is the next one
abbrev pub AreGifts : List Gift → Type 0
AreGifts [] = Unit {0}
AreGifts (g ∷ gs) = (g.version ≡ g.before + 1) × AreGifts gs

abbrev pub receivers : List Gift → List ℕ
receivers [] = []
receivers (g ∷ gs) = g.to ∷ receivers gs

-- nothing is given of a row that counted nothing
abbrev pub due : List ℕ → List ℕ → List ℕ
due found to = if (stat_of_words found).count == 0 then [] else to

-- the move does what is asked
pub record IsMove (a : Ask) (m : Move) : Type 0 where
  pub from_is : m.from ≡ a.from
  pub next : m.version ≡ m.before + 1
  pub gifts_are : AreGifts m.gifts
  pub to_is : receivers m.gifts ≡ due m.found a.to

-- the calls of a row that got an amount, and of a row that was left as zero; newest first
abbrev pub gift_calls : Stat → List Gift → List Call
gift_calls amount [] = []
gift_calls amount (g ∷ gs) =
    gift_calls amount gs ++ (Puts g.to (merged g.there amount) g.version ∷ Takes g.to g.before g.there ∷ [])

abbrev pub empty_calls : ℕ → ℕ → ℕ → List ℕ → List Call
empty_calls from before version found = Puts from zero_words version ∷ Takes from before found ∷ []

abbrev pub move_calls : Move → List Call
move_calls m = gift_calls (stat_of_words m.found) m.gifts ++ empty_calls m.from m.before m.version m.found

-- in order
abbrev pub gift_entries : ℕ → List Gift → List Entry
gift_entries from [] = []
gift_entries from (g ∷ gs) = says.Give g.to g.version from ∷ gift_entries from gs

abbrev pub move_entries : Move → List Entry
move_entries m = says.Take m.from m.version ∷ gift_entries m.from m.gifts

-- moves stand newest first; what is asked for stands in order
abbrev pub AreMoves : List Ask → List Move → Type 0
AreMoves asks [] = asks ≡ []
AreMoves asks (m ∷ ms) =
    (before : List Ask) × ((last : Ask) × ((asks ≡ before ++ last ∷ []) × (IsMove last m × AreMoves before ms)))

abbrev pub moves_calls : List Move → List Call
moves_calls [] = []
moves_calls (m ∷ ms) = move_calls m ++ moves_calls ms

abbrev pub moves_entries : List Move → List Entry
moves_entries [] = []
moves_entries (m ∷ ms) = moves_entries ms ++ move_entries m

-- these calls were made and these entries added, and nothing else
pub record Did (calls : List Call) (entries : List Entry) (old new : Journal) (was now : Opening → List Call
    → Type 0) : Type 0 where
  pub entries_are : new.entries ≡ old.entries ++ entries
  pub goes : Goes was now calls

-- what was asked for was done, in this order, and nothing else
pub record Moved (asks : List Ask) (old new : Journal) (was now : Opening → List Call → Type 0) : Type 0 where
  pub moves : List Move
  pub are_moves : AreMoves asks moves
  pub did : Did (moves_calls moves) (moves_entries moves) old new was now

-- a row was taken and left as zero
pub record Emptied (from : ℕ) (amount : Stat) (old new : Journal) (was now : Opening → List Call
    → Type 0) : Type 0 where
  pub before : ℕ
  pub version : ℕ
  pub found : List ℕ
  pub next : version ≡ before + 1
  pub amount_is : amount ≡ stat_of_words found
  pub did : Did (empty_calls from before version found) (says.Take from version ∷ []) old new was now

-- an amount was given to these rows, as what was found in that one
pub record Given (from : ℕ) (to : List ℕ) (amount : Stat) (old new : Journal) (was now : Opening → List Call
    → Type 0) : Type 0 where
  pub gifts : List Gift
  pub are_gifts : AreGifts gifts
  pub to_is : receivers gifts ≡ to
  pub did : Did (gift_calls amount gifts) (gift_entries from gifts) old new was now

-- a row was taken and released, at the version that it had
pub record Purged (row : ℕ) (old new : Journal) (was now : Opening → List Call → Type 0) : Type 0 where
  pub version : ℕ
  pub found : List ℕ
  pub did : Did (Frees row version ∷ Takes row version found ∷ []) (says.Free row version ∷ []) old new was now

-- the rows that are named are known, and not in hand
abbrev pub IsAway : (ℕ → Option ℕ) → ℕ → Type 0
IsAway hand row = IsRow row × (hand row ≡ None)

abbrev pub AreAway : (ℕ → Option ℕ) → List ℕ → Type 0
AreAway hand [] = Unit {0}
AreAway hand (row ∷ rows) = IsAway hand row × AreAway hand rows

abbrev pub AskIsAway : (ℕ → Option ℕ) → Ask → Type 0
AskIsAway hand a = IsAway hand a.from × AreAway hand a.to

-- how many takes, and how many entries, it may need
abbrev pub cost : List Ask → ℕ
cost [] = 0
cost (a ∷ asks) = 1 + length a.to + cost asks

-- no more was used up than one publication and one entry for each of so many rows
abbrev pub Stays : ℕ → Store → Store → Journal → Journal → Type 0
Stays count was now old new = Used count 0 count was now old new
