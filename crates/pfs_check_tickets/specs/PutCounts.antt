-- How many puts of a kind stand before a phase, and in it.
use Rattle.std.specs.Prelude.{ℕ, ◌≡◌, ◌+◌, ◌<◌, ◌≤◌, ◌==◌, Bool, ◌&&◌, List, [], ◌∷◌, length, Option, Some, None, unwrap_or}
use Rattle.std.specs.BTreeMap.{BTreeMap, get}
use Rattle.std.specs.declared.cmp.Ordering.{Ordering}
use Rattle.std.specs.Ordering.{nat_cmp, ordering_then}
use Rattle.pfs_model.specs.Chains.{Each}
use Rattle.pfs_model.specs.EntryPlaces.{Placed, before_phase, in_phase}
use Rattle.pfs_model.specs.Rings.{long_puts}
use Rattle.pfs_check_tickets.specs.declared.counting.KindCounts.{KindCounts}
use Rattle.pfs_check_tickets.specs.declared.counting.LongCounts.{LongCounts}
use Rattle.pfs_check_tickets.specs.declared.counting.PhaseKind.{PhaseKind}

abbrev pub kind_cmp : PhaseKind → PhaseKind → Ordering
kind_cmp one other = ordering_then (nat_cmp one.phase other.phase) (nat_cmp one.kind other.kind)

abbrev pub is_same_kind : PhaseKind → PhaseKind → Bool
is_same_kind one other = (one.phase == other.phase) && (one.kind == other.kind)

abbrev pub kind_at : ℕ → ℕ → PhaseKind
kind_at phase kind = record { phase = phase; kind = kind }

abbrev pub puts_in : PhaseKind → List Placed → ℕ
puts_in key places = length (long_puts key.kind (in_phase key.phase places))

abbrev pub puts_before : PhaseKind → List Placed → ℕ
puts_before key places = length (long_puts key.kind (before_phase key.phase places))

abbrev pub all_of_kind : BTreeMap ℕ ℕ → ℕ → ℕ
all_of_kind kinds kind = unwrap_or (get nat_cmp kinds kind) 0

-- a phase has puts of a kind, so many, and so many stand before it
pub record HasPuts (places : List Placed) (key : PhaseKind) (counts : KindCounts) : Type 0 where
  pub some : 0 < counts.puts
  pub puts : counts.puts ≡ puts_in key places
  pub before : counts.before ≡ puts_before key places

-- what is kept of it
abbrev pub AreKindCounts : List Placed → PhaseKind → Option KindCounts → Type 0
AreKindCounts places key None = puts_in key places ≡ 0
AreKindCounts places key (Some counts) = HasPuts places key counts

pub record AreCounted (places : List Placed) (counts : LongCounts) : Type 0 where
  pub kinds : (kind : ℕ) → all_of_kind counts.kinds kind ≡ length (long_puts kind places)
  pub phases : (key : PhaseKind) → AreKindCounts places key (get kind_cmp counts.phases key)

-- one put more of the kind in the phase, behind so many of the kind
abbrev pub next_counts : Option KindCounts → ℕ → KindCounts
next_counts None all = record { before = all; puts = 1 }
next_counts (Some counts) all = record { before = counts.before; puts = counts.puts + 1 }

-- all stand in this phase or before it
abbrev pub AreUpTo : ℕ → List Placed → Type 0
AreUpTo phase places = Each (λ (place : Placed). place.phase ≤ phase) places

-- of entries with the last first: none stands in a later phase than the one behind it
abbrev pub AreByPhases : List Placed → Type 0
AreByPhases [] = Unit {0}
AreByPhases (place ∷ earlier) = AreUpTo place.phase earlier × AreByPhases earlier
