-- Word 1 was opened with the flags 7. The writer set it to 3, and a seat met the writer.
use Rattle.std.proofs.Common.{◌≡◌, ℕ, List, [], ◌∷◌, refl, arith}
use Rattle.pfs_switches.specs.declared.view.Setting.{Setting}
use Rattle.pfs_switches.specs.declared.view.View.{View}
use Rattle.pfs_switches.specs.SharedKnowledge.{IsTold}
use Rattle.pfs_switches.specs.History.{version, setting}
use Rattle.pfs_switches.specs.Knowledge.{whole, reader, writer, was_set, met, load_of, loaded}
use Rattle.pfs_switches.specs.Rule.{IsLoad}

abbrev start : List ℕ
start = 5 ∷ 7 ∷ 0 ∷ []

abbrev log : List Setting
log = setting 1 1 3 ∷ []

abbrev pen : View
pen = was_set (writer (whole start)) 1 1 3

abbrev seat : View
seat = met (reader (whole start)) pen

pub example_met : seat.seen ≡ 0 ∷ 1 ∷ 0 ∷ []
example_met = refl

pub example_load : IsLoad start log (version log) (load_of seat 1 1 3)
example_load = record { below = omega arith; flags_are = refl; least_is = omega arith; first_is = omega arith }

seven_not_three : (let seven : ℕ = 7 in seven ≡ 3) → ⊥
seven_not_three e = cc

-- no load after the set has the flags before it
pub example_flags_before : ¬ (IsTold start (loaded seat 1 1 7) pen)
example_flags_before t = seven_not_three t.loads.0.flags_are

-- no writer has seen less than what was set
pub example_unseen : ¬ (IsTold start seat (record pen { seen = 0 ∷ 0 ∷ 0 ∷ [] }))
example_unseen t = let e = t.counts 1 (omega arith) in absurd (omega arith)
