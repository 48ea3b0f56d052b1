-- The entry that a packed entry is.
use Rattle.std.specs.Prelude.{ℕ, Bool, true, false, Option, Some, None, List, map, ◌≡◌, ◌<◌, slice_index_or}
use Rattle.pfs_event.specs.declared.entry.Entry.{Entry}
use Rattle.pfs_event.specs.declared.entry.Entry.TheVariants as says
use Rattle.pfs_event.specs.Verdicts.{is_let_through}
use Rattle.pfs_event.specs.declared.short.Short.{Short}
use Rattle.pfs_event.specs.declared.short.Short.TheVariants as short
use Rattle.pfs_event.specs.declared.packed.Packed.{Packed}
use Rattle.pfs_event.specs.declared.packed.Packed.TheVariants as packed
use Rattle.pfs_event.specs.declared.short.Single.{Single}
use Rattle.pfs_event.specs.declared.short.Single.TheVariants as single
use Rattle.pfs_event.specs.declared.short.Pair.{Pair}
use Rattle.pfs_event.specs.declared.short.Pair.TheVariants as pair
use Rattle.pfs_event.specs.declared.short.Triple.{Triple}
use Rattle.pfs_event.specs.declared.short.Triple.TheVariants as triple

-- a number, where the flag says that it is there
abbrev pub optional : Bool → ℕ → Option ℕ
optional true number = Some number
optional false number = None

abbrev pub single_of : Single → ℕ → Entry
single_of single.Act number = says.Act number
single_of single.Reply number = says.Reply number
single_of single.Error number = says.Error number
single_of single.Vacant number = says.Vacant number
single_of single.Rows number = says.Rows number

abbrev pub pair_of : Pair → ℕ → ℕ → Entry
pair_of pair.Add row version = says.Add row version
pair_of pair.Ring row version = says.Ring row version
pair_of pair.Take row version = says.Take row version
pair_of pair.Tag row version = says.Tag row version
pair_of pair.Free row version = says.Free row version
pair_of pair.Seen row version = says.Seen row version
pair_of pair.Saw word version = says.Saw word version

abbrev pub triple_of : Triple → ℕ → ℕ → ℕ → Entry
triple_of triple.Held row first second = says.Held row first second
triple_of triple.Long row version ticket = says.Long row version ticket
triple_of triple.Busy row first second = says.Busy row first second
triple_of triple.Late row ticket greater = says.Late row ticket greater
triple_of triple.Give row version source = says.Give row version source
triple_of triple.Set word version flags = says.Set word version flags

abbrev pub entry_of : Packed → Entry
entry_of (packed.Connect has_thread has_account has_user has_host action thread account user host) =
    says.Connect action (optional has_thread thread) (optional has_account account) (optional has_user user)
    (optional has_host host)
entry_of
    (packed.Start verdict has_event has_consumers has_thread has_class has_table event consumers thread class table) =
    says.Start (optional has_event event) verdict (optional has_consumers consumers) (optional has_thread thread)
    (optional has_class class) (optional has_table table)
entry_of (packed.End has_event has_last has_consumers has_thread event last consumers thread) =
    says.End (optional has_event event) (optional has_last last) (optional has_consumers consumers)
    (optional has_thread thread)
entry_of (packed.Single which number) = single_of which number
entry_of (packed.Pair which first second) = pair_of which first second
entry_of (packed.Triple which first second third) = triple_of which first second third
entry_of packed.Settle = says.Settle
entry_of packed.Query = says.Query

-- the entry of a short form, where those without one are these
abbrev pub short_of : List Packed → Short → Entry
short_of others (short.Start verdict has_words has_table event consumers thread class table) =
    says.Start (optional (is_let_through verdict) event) verdict (optional has_words consumers)
    (optional has_words thread) (optional has_words class) (optional has_table table)
short_of others (short.End is_through consumers thread event last) =
    says.End (optional is_through event) (optional is_through last) (optional is_through consumers)
    (optional is_through thread)
short_of others (short.Single which number) = single_of which number
short_of others (short.Pair which row version) = pair_of which row version
short_of others (short.Triple which row second third) = triple_of which row second third
short_of others short.Settle = says.Settle
short_of others short.Query = says.Query
short_of others (short.Long place) = entry_of (slice_index_or others place packed.Settle)

abbrev pub entries_of : List Packed → List Short → List Entry
entries_of others shorts = map (short_of others) shorts

-- a short form of an entry that stands among so many others, where it has none of its own
abbrev pub IsAmong : ℕ → Short → Type 0
IsAmong others (short.Long place) = place < others
IsAmong others _ = Unit {0}

-- a short form of its own, of this entry
pub record IsShort (entry : Entry) (form : Short) : Type 0 where
  pub is : (others : List Packed) → short_of others form ≡ entry
  pub alone : (others : ℕ) → IsAmong others form
