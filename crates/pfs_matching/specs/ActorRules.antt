-- Which sessions are instrumented.
use Rattle.std.specs.Prelude.{ℕ, Bool, true, List, [], ◌∷◌, ◌&&◌, ◌≢◌, unwrap_or, codes}
use Rattle.std.specs.Option.{option_map}
use Rattle.std.specs.Ordering.{nat_cmp}
use Rattle.std.specs.Str.{bytes_eq}
use Rattle.std.specs.Cmp.Lexicographic.{slice_cmp}
use Rattle.std.specs.declared.cmp.Ordering.TheVariants.{Greater}
use Rattle.pfs_matching.specs.declared.actor_rows.ActorRow.{ActorRow}
use Rattle.pfs_matching.specs.declared.faults.FlagChange.{FlagChange}
use Rattle.pfs_matching.specs.KeyedRows.{AreOrdered}
use Rattle.pfs_matching.specs.RowWays.{Decides, first_match, flags_or_off}

abbrev pub actor_key : ActorRow → List (List ℕ)
actor_key row = row.host ∷ row.user ∷ row.role ∷ []

-- the row of the opening: every actor, YES and YES
abbrev pub opening_actors : List ActorRow
opening_actors = record { host = codes "%"; user = codes "%"; role = codes "%"; enabled = true; history = true } ∷ []

-- a flag that the change names becomes the new one
abbrev pub changed_actor : FlagChange → ActorRow → ActorRow
changed_actor change row = record row {
  enabled = unwrap_or change.first row.enabled;
  history = unwrap_or change.second row.history;
}

-- the row has this HOST and this USER
abbrev pub actor_has : List ℕ × List ℕ → ActorRow → Bool
actor_has way row = bytes_eq row.host way.0 && bytes_eq row.user way.1

-- the HOST and USER that a row may have: those of the session; any host and its user; its host and any user; any of
-- both
abbrev pub actor_ways : List ℕ → List ℕ → List (List ℕ × List ℕ)
actor_ways user host = (host, user) ∷ (codes "%", user) ∷ (host, codes "%") ∷ (codes "%", codes "%") ∷ []

-- ENABLED and HISTORY of the row
abbrev pub actor_says : ActorRow → Bool × Bool
actor_says row = (row.enabled, row.history)

-- those of the row for the first of the ways that any row has, or NO and NO
abbrev pub actor_flags : List ActorRow → List ℕ → List ℕ → Bool × Bool
actor_flags rows user host = flags_or_off (option_map actor_says (first_match actor_has (actor_ways user host) rows))

-- of rows with one HOST and USER, the one whose ROLE is not greater leads
abbrev pub HasLesserRole : ActorRow → ActorRow → Type 0
HasLesserRole row other = slice_cmp nat_cmp row.role other.role ≢ Greater

-- what is decided is what the row says that fits best, of the least ROLE among those of one HOST and USER
abbrev pub ActorsDecideBest : Type 0
ActorsDecideBest = (rows : List ActorRow) (user host : List ℕ) → AreOrdered actor_key rows
    → Decides actor_has HasLesserRole actor_says (actor_ways user host) rows (actor_flags rows user host)
