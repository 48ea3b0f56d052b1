-- What stands above each column of a table, and which columns show times.
use Rattle.std.specs.Prelude.{ℕ, ◌+◌, ◌==◌, nat_eq, Bool, false, ◌||◌, if◌then◌else◌, List, length, slice_get, Option, Some, None, codes, decimal}
use Rattle.std.specs.List.{starts_with}
use Rattle.std.specs.Option.{option_map, option_map_or}
use Rattle.pfs_catalogue.specs.Columns.{Named, columns_of}
use Rattle.pfs_view.specs.declared.columns.Headings.{Headings}
use Rattle.pfs_view.specs.declared.columns.Headings.TheVariants.{Of, Counters, Numbered}

-- a column of this name shows times
abbrev pub is_time : List ℕ → Bool
is_time name =
    starts_with nat_eq name (codes "TIMER_")
    || starts_with nat_eq name (codes "SUM_TIMER_")
    || starts_with nat_eq name (codes "MIN_TIMER_")
    || starts_with nat_eq name (codes "AVG_TIMER_")
    || starts_with nat_eq name (codes "MAX_TIMER_")
    || starts_with nat_eq name (codes "LOCK_TIME")
    || starts_with nat_eq name (codes "SUM_LOCK_TIME")

-- how many columns have a heading of their own
abbrev pub heading_count : Headings → ℕ
heading_count (Of table) = length (columns_of table)
heading_count Counters = 2
heading_count Numbered = 0

-- the heading of its own at a place
abbrev pub heading_at : Headings → ℕ → Option (List ℕ)
heading_at (Of table) place = option_map (λ (column : Named). column.name) (slice_get (columns_of table) place)
heading_at Counters place =
    if place == 0 then Some (codes "COUNTER") else if place == 1 then Some (codes "NUMBER") else None
heading_at Numbered place = None

-- the numbers there are times
abbrev pub shows_time : Headings → ℕ → Bool
shows_time headings place = option_map_or is_time (heading_at headings place) false

-- what stands above a column: its heading, or its number from 1
abbrev pub heading_text : Headings → ℕ → List ℕ
heading_text headings place = option_map_or (λ (name : List ℕ). name) (heading_at headings place) (decimal (place + 1))
