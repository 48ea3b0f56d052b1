-- Whose rows a summary has, and in which order its rows stand.
use Rattle.std.specs.Prelude.{ℕ, ◌==◌, ◌&&◌, nat_lt, not, true, if◌then◌else◌, List, [], ◌∷◌, length, Option, Some, None}
use Rattle.std.specs.Option.{option_map}
use Rattle.std.specs.Ordering.{nat_cmp}
use Rattle.std.specs.declared.cmp.Ordering.{Ordering}
use Rattle.std.specs.Ordering.{ordering_then}
use Rattle.std.specs.Cmp.Lexicographic.{slice_cmp}
use Rattle.pfs_rows.specs.declared.table.SummaryTable.{SummaryTable}
use Rattle.pfs_rows.specs.declared.table.SummaryTable.TheVariants.{ByThread, ByAccount, ByUser, ByHost, Global}
use Rattle.pfs_containers.specs.declared.infos.AccountInfo.{AccountInfo}
use Rattle.pfs_containers.specs.declared.infos.NameInfo.{NameInfo}
use Rattle.pfs_containers.specs.declared.infos.ThreadInfo.{ThreadInfo}
use Rattle.pfs_classes.specs.Registry.{text_of}
use Rattle.pfs_text.specs.declared.values.RowValue.{RowValue}
use Rattle.pfs_text.specs.declared.values.RowValue.TheVariants as value
use Rattle.pfs_summaries.specs.declared.heads.Head.{Head}
use Rattle.pfs_summaries.specs.declared.heads.RowKey.{RowKey}
use Rattle.pfs_summaries.specs.FoundContents.{thread_at, account_at, user_at, host_at}

-- an account's rows: where its names are the setting's
abbrev pub account_head : List (List ℕ) → Option AccountInfo → Option Head
account_head names None = None
account_head names (Some info) =
    if nat_lt info.user_name (length names) && nat_lt info.host_name (length names)
    then Some (record {
      thread_id = 0;
      user = text_of names info.user_name;
      host = text_of names info.host_name;
      stands = not (info.current == 0);
    })
    else None

-- a user's and a host's
abbrev pub user_head : List (List ℕ) → Option NameInfo → Option Head
user_head names None = None
user_head names (Some info) =
    if nat_lt info.name (length names)
    then Some (record { thread_id = 0; user = text_of names info.name; host = []; stands = not (info.current == 0) })
    else None

abbrev pub host_head : List (List ℕ) → Option NameInfo → Option Head
host_head names None = None
host_head names (Some info) =
    if nat_lt info.name (length names)
    then Some (record { thread_id = 0; user = []; host = text_of names info.name; stands = not (info.current == 0) })
    else None

-- what the rows of a place begin with, or none where it has no rows. A thread's and the global rows stand whatever
-- was counted, the others without a count only where a connection is there
abbrev pub head_of : SummaryTable → List (List ℕ) → List (Option (List ℕ)) → ℕ → Option Head
head_of ByThread names infos place =
    option_map (λ (info : ThreadInfo). record {
      thread_id = info.session;
      user = [];
      host = [];
      stands = true;
    }) (thread_at infos place)
head_of ByAccount names infos place = account_head names (account_at infos place)
head_of ByUser names infos place = user_head names (user_at infos place)
head_of ByHost names infos place = host_head names (host_at infos place)
head_of Global names infos place = Some (record { thread_id = 0; user = []; host = []; stands = true })

-- how many places may have rows
abbrev pub places_of : SummaryTable → ℕ
places_of Global = 1
places_of _ = 32

-- the values that a row begins with
abbrev pub heading_of : SummaryTable → Head → List RowValue
heading_of ByThread head = value.Number head.thread_id ∷ []
heading_of ByAccount head = value.Text head.user ∷ value.Text head.host ∷ []
heading_of ByUser head = value.Text head.user ∷ []
heading_of ByHost head = value.Text head.host ∷ []
heading_of Global head = []

-- rows stand in the order of these, the first that differs counting; texts by their bytes
abbrev pub row_cmp : RowKey → RowKey → Ordering
row_cmp a b =
    ordering_then (nat_cmp a.thread_id b.thread_id)
    (ordering_then (slice_cmp nat_cmp a.user b.user)
    (ordering_then (slice_cmp nat_cmp a.host b.host)
    (ordering_then (nat_cmp a.class b.class) (nat_cmp a.place b.place))))
