-- Worked examples of the definitions, by computation.
use Rattle.std.proofs.Common.{◌≡◌, ℕ, Bool, true, false, List, [], ◌∷◌, codes, refl}
use Rattle.pfs_matching.specs.declared.actor_rows.ActorRow.{ActorRow}
use Rattle.pfs_matching.specs.ActorRules.{actor_flags, actor_key, opening_actors}
use Rattle.pfs_matching.specs.KeyedRows.{with_named_changed, with_row, without_named}
use Rattle.pfs_matching.specs.ObjectRules.{opening_objects, table_flags}

abbrev actor : List ℕ → List ℕ → Bool → ActorRow
actor host user on = record { host = host; user = user; role = codes "%"; enabled = on; history = on }

-- the opening row, every user of a host off, and one user on
abbrev rows : List ActorRow
rows = with_row actor_key (actor (codes "h") (codes "%") false) (with_row actor_key (actor (codes "%") (codes "u") true) opening_actors)

in_order : rows ≡ actor (codes "%") (codes "%") true ∷ actor (codes "%") (codes "u") true ∷ actor (codes "h") (codes "%") false ∷ []
in_order = refl

-- the user goes before the host
user_first : actor_flags rows (codes "u") (codes "h") ≡ (true, true)
user_first = refl

host_next : actor_flags rows (codes "v") (codes "h") ≡ (false, false)
host_next = refl

any_last : actor_flags rows (codes "v") (codes "i") ≡ (true, true)
any_last = refl

no_match_is_no : actor_flags [] (codes "u") (codes "h") ≡ (false, false)
no_match_is_no = refl

-- `%` in a row is no pattern: it stands for any name, and only alone
not_a_pattern : actor_flags (actor (codes "h%") (codes "u") true ∷ []) (codes "u") (codes "hh") ≡ (false, false)
not_a_pattern = refl

-- the schema mysql is off at first, and others are on
mysql_is_off : table_flags opening_objects (codes "mysql") (codes "t") ≡ (false, false)
mysql_is_off = refl

others_are_on : table_flags opening_objects (codes "app") (codes "t") ≡ (true, true)
others_are_on = refl

-- places are those before the change
without_two : without_named {R = ℕ} (0 ∷ 2 ∷ []) (7 ∷ 8 ∷ 9 ∷ []) ≡ 8 ∷ []
without_two = refl

with_one_changed : with_named_changed {R = ℕ} (λ n. 0) (1 ∷ []) (7 ∷ 8 ∷ 9 ∷ []) ≡ 7 ∷ 0 ∷ 9 ∷ []
with_one_changed = refl
