-- Worked examples: the versions that a line may name by what its session must have seen, and by what was released.
use Rattle.std.proofs.Common.{◌≡◌, refl, ℕ, ◌<◌, ◌≤◌, List, [], ◌∷◌, lit<, lit≤, arith}
use Rattle.pfs_event.specs.declared.entry.Entry.TheVariants as says
use Rattle.pfs_model.specs.declared.lines.Line.TheVariants as lines
use Rattle.pfs_model.specs.Chains.{change_at}
use Rattle.pfs_model.specs.Contexts.{fresh}
use Rattle.pfs_model.specs.Floors.{floor_of, word_floor_of, KeepsAbove, Changes, Sees, Frees, NamingsKeep, LoadsKeep, naming, AreThere, IsThere}
use Rattle.pfs_model.specs.EntryPlaces.{Placed}
use Rattle.pfs_model.proofs.ExampleEntries.{entry_in, entry_of, acted, slotted}

-- A floor counts the words of what was held: the row had version 8 by the second one, so no later line of the session
-- may make that change.
abbrev held_before : List Placed
held_before = entry_of 1 (says.Held 135 29 34) ∷ []

held_floor : floor_of held_before held_before (entry_of 1 (says.Add 135 8)) 135 ≡ 8
held_floor = refl

held_forgotten : KeepsAbove held_before held_before (entry_of 1 (says.Add 135 8)) Changes 135 8 → ⊥
held_forgotten keeps = let low : 8 < 8 = keeps.0 in absurd (omega (arith, low))

-- another session's held word is no floor of this one
held_by_other : floor_of held_before held_before (entry_of 2 (says.Add 135 1)) 135 ≡ 0
held_by_other = refl

-- a reading and a release may name the floor itself, and a reading nothing below it
abbrev row_seen : List Placed
row_seen = entry_of 1 (says.Ring 8450 3) ∷ []

sees_again : KeepsAbove row_seen row_seen (entry_of 1 (says.Seen 8450 3)) Sees 8450 3
sees_again = (lit≤ tt, record { released = tt; stood = λ free. lit< tt })

frees : KeepsAbove row_seen row_seen (entry_of 1 (says.Free 8450 3)) Frees 8450 3
frees = lit≤ tt

sees_older : KeepsAbove row_seen row_seen (entry_of 1 (says.Seen 8450 2)) Sees 8450 2 → ⊥
sees_older keeps = let low : 3 ≤ 2 = keeps.0 in absurd (omega (arith, low))

changes_again : KeepsAbove row_seen row_seen (entry_of 1 (says.Ring 8450 3)) Changes 8450 3 → ⊥
changes_again keeps = let low : 3 < 3 = keeps.0 in absurd (omega (arith, low))

-- an action of another session gave the row version 9: once an own action with that number or a greater one has ended,
-- nothing below is seen, and before that it may be
abbrev taken : List Placed
taken = acted 2 3 (says.Take 135 9) ∷ []

abbrev reading : ℕ → ℕ → Placed
reading done version = record { phase = 1; session = 1; line = lines.Query; context = record fresh { done = done }; entry = says.Seen 135 version }

behind_action : floor_of taken [] (reading 4 9) 135 ≡ 9
behind_action = refl

before_action : floor_of taken [] (reading 2 1) 135 ≡ 0
before_action = refl

-- the changes of the phases before count whoever made them
phase_before : floor_of (entry_in 1 2 (says.Add 135 2) ∷ entry_in 1 3 (says.Add 135 1) ∷ []) [] (entry_in 2 1 (says.Add 135 3)) 135 ≡ 2
phase_before = refl

-- action 2 of another session released a place at version 3: with an own action 2 or above ended, a reading must name a
-- greater version, and with none it need not
abbrev released : List Placed
released = acted 2 2 (says.Free 8450 3) ∷ []

abbrev looking : ℕ → ℕ → Placed
looking done version = record { phase = 1; session = 1; line = lines.Query; context = record fresh { done = done }; entry = says.Seen 8450 version }

sees_released : KeepsAbove released [] (looking 3 3) Sees 8450 3 → ⊥
sees_released keeps = let low : 3 < 3 = keeps.1.released.0 refl in absurd (omega (arith, low))

sees_next : KeepsAbove released [] (looking 3 4) Sees 8450 4
sees_next = (lit≤ tt, record { released = (λ same. lit< tt, tt); stood = λ free. lit< tt })

sees_before_it : KeepsAbove released [] (looking 1 3) Sees 8450 3
sees_before_it = (lit≤ tt, record { released = tt; stood = λ free. lit< tt })

-- a row that stood FREE as the phase began is seen at a later version
abbrev stood_free : List Placed
stood_free = entry_in 1 2 (says.Ring 8450 1) ∷ entry_in 1 2 (says.Free 8450 1) ∷ []

sees_stood : KeepsAbove stood_free [] (entry_in 2 1 (says.Seen 8450 1)) Sees 8450 1 → ⊥
sees_stood keeps = let low : 1 < 1 = keeps.1.stood refl in absurd (omega (arith, low))

sees_opening : KeepsAbove [] [] (entry_in 1 1 (says.Seen 8450 0)) Sees 8450 0 → ⊥
sees_opening keeps = let low : 0 < 0 = keeps.1.stood refl in absurd (omega (arith, low))

-- a version that the row never had by the phase's end
never_had : NamingsKeep taken [] (reading 0 10) (naming Sees 135 10) → ⊥
never_had keeps = let had : 10 ≤ 1 = keeps.1 in absurd (omega (arith, had))

-- a switch word's floor counts what the session's starts loaded, its own sets, and what actions up to its last set
abbrev loads : List Placed
loads = slotted 1 (says.Saw 0 2) ∷ slotted 1 (says.Set 1 4 3) ∷ []

word_seen : word_floor_of loads loads (slotted 1 (says.Saw 0 2)) 0 ≡ 2
word_seen = refl

word_set : word_floor_of loads loads (slotted 1 (says.Saw 1 4)) 1 ≡ 4
word_set = refl

older_word : LoadsKeep loads loads (slotted 1 (says.Saw 0 1)) (change_at 0 1 ∷ []) → ⊥
older_word keeps = let low : 2 ≤ 1 = keeps.0 in absurd (omega (arith, low))

set_by_action : word_floor_of (acted 2 3 (says.Set 39 5 1) ∷ []) [] (reading 3 0) 39 ≡ 5
set_by_action = refl

never_set : LoadsKeep loads [] (slotted 2 (says.Saw 1 5)) (change_at 1 5 ∷ []) → ⊥
never_set keeps = let had : 5 ≤ 1 = keeps.1 in absurd (omega (arith, had))

-- rows and words that aren't there
all_there : AreThere (entry_of 1 (says.Seen 14241 0) ∷ entry_of 1 (says.Saw 159 0) ∷ [])
all_there = (lit< tt, (lit< tt, tt))

no_such_row : IsThere (says.Seen 14242 0) → ⊥
no_such_row is = absurd (omega (arith, is))

no_such_word : IsThere (says.Saw 160 0) → ⊥
no_such_word is = absurd (omega (arith, is))
