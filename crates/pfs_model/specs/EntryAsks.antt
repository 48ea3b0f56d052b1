-- What is asked of an entry.
use Rattle.std.specs.Prelude.{ℕ, ◌+◌, ◌*◌, ◌==◌, Bool, true, false, ◌&&◌, not, Option, Some, None}
use Rattle.pfs_event.specs.declared.entry.Entry.{Entry}
use Rattle.pfs_event.specs.declared.entry.Entry.TheVariants as says
use Rattle.pfs_event.specs.declared.verdict.Verdict.{Verdict}
use Rattle.pfs_event.specs.declared.verdict.Verdict.TheVariants.{Aside, Attributed}
use Rattle.pfs_model.specs.declared.shapes.Ask.{Ask}
use Rattle.pfs_model.specs.declared.shapes.Ask.TheVariants as asks

-- the verdict may stand where the session has a slot or none, and the class is lost or isn't
abbrev pub verdict_fits : Bool → Bool → Verdict → Bool
verdict_fits slot lost Attributed = slot && not lost
verdict_fits slot lost Aside = not lost
verdict_fits slot lost _ = true

-- which words are loaded
abbrev pub are_loaded : Bool → Bool → Option ℕ → Option ℕ → Option ℕ → Option ℕ → Bool
are_loaded loads table (Some _) (Some _) (Some _) (Some _) = loads && table
are_loaded loads table (Some _) (Some _) (Some _) None = loads && not table
are_loaded loads table None None None None = not loads
are_loaded loads table _ _ _ _ = false

abbrev pub both_loaded : Bool → Option ℕ → Option ℕ → Bool
both_loaded through (Some _) (Some _) = through
both_loaded through None None = not through
both_loaded through _ _ = false

abbrev pub is_connect : Entry → Bool
is_connect (says.Connect _ _ _ _ _) = true
is_connect _ = false

abbrev pub is_start : Bool → Bool → Bool → Entry → Bool
is_start slot lost table (says.Start event verdict consumers thread class of_table) =
    verdict_fits slot lost verdict && are_loaded (slot && not lost) table consumers thread class of_table
is_start slot lost table _ = false

abbrev pub is_end : Bool → Entry → Bool
is_end through (says.End event last consumers thread) = both_loaded through consumers thread
is_end through _ = false

-- a thread's cell, or a global one
abbrev pub cell_row : Option ℕ → ℕ → ℕ
cell_row (Some slot) cell = 129 + 64 * slot + cell
cell_row None cell = 8321 + cell

-- the row of a digest: 8385 for the texts without a place, then one for each place
abbrev pub digest_row : Option ℕ → ℕ
digest_row None = 8385
digest_row (Some digest) = 8386 + digest

abbrev pub is_summary : Option ℕ → ℕ → Entry → Bool
is_summary slot cell (says.Add r _) = r == cell_row slot cell
is_summary slot cell (says.Held r _ _) = r == cell_row slot cell
is_summary slot cell _ = false

abbrev pub is_digest : Entry → Bool
is_digest (says.Add _ _) = true
is_digest (says.Held _ _ _) = true
is_digest _ = false

abbrev pub is_put : Entry → Bool
is_put (says.Ring _ _) = true
is_put (says.Busy _ _ _) = true
is_put _ = false

abbrev pub is_long_put : Entry → Bool
is_long_put (says.Long _ _ _) = true
is_long_put (says.Busy _ _ _) = true
is_long_put (says.Late _ _ _) = true
is_long_put _ = false

abbrev pub is_settle : Entry → Bool
is_settle says.Settle = true
is_settle _ = false

abbrev pub is_added : ℕ → Entry → Bool
is_added row (says.Add r _) = r == row
is_added row _ = false

abbrev pub is_act : Entry → Bool
is_act (says.Act _) = true
is_act _ = false

abbrev pub is_move : Entry → Bool
is_move (says.Take _ _) = true
is_move (says.Give _ _ _) = true
is_move _ = false

abbrev pub is_sign : Entry → Bool
is_sign (says.Free _ _) = true
is_sign (says.Tag _ _) = true
is_sign _ = false

abbrev pub is_set : Entry → Bool
is_set (says.Set _ _ _) = true
is_set _ = false

abbrev pub is_answer : Entry → Bool
is_answer (says.Reply _) = true
is_answer (says.Error _) = true
is_answer _ = false

abbrev pub is_error : Entry → Bool
is_error (says.Error _) = true
is_error _ = false

abbrev pub is_query : Entry → Bool
is_query says.Query = true
is_query _ = false

abbrev pub is_reading : Entry → Bool
is_reading (says.Seen _ _) = true
is_reading (says.Vacant _) = true
is_reading (says.Busy _ _ _) = true
is_reading (says.Saw _ _) = true
is_reading _ = false

abbrev pub is_rows : Entry → Bool
is_rows (says.Rows _) = true
is_rows _ = false

-- the entry is what is asked
abbrev pub fits : Ask → Entry → Bool
fits asks.Connect entry = is_connect entry
fits (asks.Start slot lost table) entry = is_start slot lost table entry
fits (asks.End through) entry = is_end through entry
fits (asks.Summary slot cell) entry = is_summary slot cell entry
fits asks.Digest entry = is_digest entry
fits asks.Put entry = is_put entry
fits asks.LongPut entry = is_long_put entry
fits asks.Settle entry = is_settle entry
fits (asks.Added row) entry = is_added row entry
fits asks.Act entry = is_act entry
fits asks.Move entry = is_move entry
fits asks.Sign entry = is_sign entry
fits asks.Set entry = is_set entry
fits asks.Answer entry = is_answer entry
fits asks.Error entry = is_error entry
fits asks.Query entry = is_query entry
fits asks.Reading entry = is_reading entry
fits asks.Rows entry = is_rows entry

-- the entries with which a line's begin, and nothing that a shape merely allows
abbrev pub is_head : Entry → Bool
is_head (says.Connect _ _ _ _ _) = true
is_head (says.Start _ _ _ _ _ _) = true
is_head (says.End _ _ _ _) = true
is_head says.Settle = true
is_head (says.Act _) = true
is_head says.Query = true
is_head (says.Error _) = true
is_head _ = false

abbrev pub asks_head : Ask → Bool
asks_head asks.Connect = true
asks_head (asks.Start _ _ _) = true
asks_head (asks.End _) = true
asks_head asks.Settle = true
asks_head asks.Act = true
asks_head asks.Query = true
asks_head asks.Error = true
asks_head _ = false

-- what a shape may merely allow
abbrev pub asks_tail : Ask → Bool
asks_tail asks.Digest = true
asks_tail asks.Put = true
asks_tail asks.LongPut = true
asks_tail asks.Move = true
asks_tail asks.Sign = true
asks_tail asks.Set = true
asks_tail asks.Reading = true
asks_tail _ = false
