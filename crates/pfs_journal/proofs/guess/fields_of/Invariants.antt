use Rattle.std.proofs.Common.{ℕ, List, Option, ◌≡◌, ◌≤◌, length, take}
use Rattle.std.specs.List.{All, flat_map}
use Rattle.pfs_journal.specs.LineWords.{FitsField}
use Rattle.pfs_journal.specs.Spelling.{optional_text}
use Rattle.pfs_journal.proofs.ItemReadings.{ItemsRead}
use Rattle.pfs_journal.proofs.guess.fields_of.Given as goal

abbrev pub invariant-loop-place : goal.invariant-loop-place
invariant-loop-place l = (length l.numbers ≡ 5) × ((ns : List (Option ℕ)) → All FitsField ns → length ns ≤ 5 → l.bytes ≡ flat_map optional_text ns → ItemsRead optional_text FitsField ns (take l.place l.numbers) l.rest)
