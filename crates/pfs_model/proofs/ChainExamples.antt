-- Worked examples: versions, releases and action numbers over the entries of two sessions.
use Rattle.std.proofs.Common.{◌≡◌, refl, ◌<◌, ◌≤◌, true, false, [], ◌∷◌, inl, inr, None, lit<, arith}
use Rattle.pfs_event.specs.declared.entry.Entry.TheVariants as says
use Rattle.pfs_model.specs.Chains.{times, is_that, change_at, row_change, word_change, action_change, each_of, IsChained, AreChained, is_free_after}
use Rattle.pfs_model.specs.Actions.{deeds_of, sets_of, NeverFall, AreRising, numbers_by, StandsBefore}
use Rattle.pfs_model.specs.EntryPlaces.{places}
use Rattle.pfs_model.specs.PlainAgreement.{AreAlone}
use Rattle.pfs_model.proofs.ChainGrowth.{grown_chained}
use Rattle.pfs_model.proofs.PlainAgreement.{plain_keeps}
use Rattle.pfs_model.proofs.ShapeExamples.{alone, alone_shaped, alone_plain}
use Rattle.pfs_model.proofs.ExampleEntries.{entry_in, entry_of, acted}

-- the worked session that runs alone has chains, an order of its actions, and floors
alone_kept : AreAlone (places alone)
alone_kept = plain_keeps alone alone_shaped alone_plain

alone_chained : AreChained row_change (places alone)
alone_chained = alone_kept.joint.rows

-- of two changes of a row there is one at version 1 and one at version 2, whichever of them stands first in the report
chained : IsChained (each_of row_change (entry_of 1 (says.Add 135 2) ∷ entry_of 2 (says.Add 135 1) ∷ []))
chained = grown_chained (change_at 135 2 ∷ change_at 135 1 ∷ []) (refl, (refl, tt))

-- a version that is given twice, or left out
twice : IsChained (change_at 135 1 ∷ change_at 135 1 ∷ []) → ⊥
twice chain = let two : times (is_that (change_at 135 1)) (change_at 135 1 ∷ change_at 135 1 ∷ []) ≡ 1 = chain (change_at 135 1) in absurd (cc)

left_out : IsChained (change_at 135 1 ∷ change_at 135 3 ∷ []) → ⊥
left_out chain = let none : times (is_that (change_at 135 2)) (change_at 135 1 ∷ change_at 135 3 ∷ []) ≡ 1 = chain (change_at 135 2) in absurd (cc)

-- each phase's end is asked: version 2 stands in phase 1, and version 1 only in phase 2
later_phase : AreChained row_change (entry_in 1 1 (says.Add 135 2) ∷ entry_in 2 2 (says.Add 135 1) ∷ []) → ⊥
later_phase chain = let none : 1 ≡ 0 = chain 1 (change_at 135 2) in absurd (omega (arith, none))

-- an action number belongs to one action, whichever sessions print it
number_twice : AreChained action_change (entry_of 1 (says.Act 1) ∷ entry_of 2 (says.Act 1) ∷ []) → ⊥
number_twice chain = let two : 2 ≡ 1 = chain 1 (change_at 0 1) in absurd (omega (arith, two))

-- a switch word has its own chain: version 1 of one word is no version of another
other_word : IsChained (each_of word_change (entry_of 1 (says.Set 1 1 3) ∷ entry_of 2 (says.Set 2 2 3) ∷ [])) → ⊥
other_word chain = let none : 0 ≡ 1 = chain (change_at 2 1) in absurd (omega (arith, none))

-- the info row of a thread opens FREE; it isn't FREE once it is written, is so behind its release, and no more behind
-- the next write
opens : is_free_after [] 1 ≡ true
opens = refl

written : is_free_after (entry_of 1 (says.Tag 1 1) ∷ []) 1 ≡ false
written = refl

released : is_free_after (entry_of 1 (says.Tag 1 1) ∷ entry_of 1 (says.Free 1 1) ∷ []) 1 ≡ true
released = refl

written_again : is_free_after (entry_of 2 (says.Tag 1 2) ∷ entry_of 1 (says.Tag 1 1) ∷ entry_of 1 (says.Free 1 1) ∷ []) 1 ≡ false
written_again = refl

-- a cell never is
cell_opens : is_free_after [] 135 ≡ false
cell_opens = refl

-- the numbers of a session rise, and need not follow one another: 2 and 3 are another session's
rising : AreRising (numbers_by 1 (entry_of 1 (says.Connect 1 None None None None) ∷ entry_of 2 (says.Act 3) ∷ entry_of 1 (says.Act 4) ∷ entry_of 2 (says.Act 2) ∷ []))
rising = ((lit< tt, tt), (tt, tt))

not_rising : AreRising (numbers_by 1 (entry_of 1 (says.Act 4) ∷ entry_of 2 (says.Act 3) ∷ entry_of 1 (says.Act 2) ∷ [])) → ⊥
not_rising rise = let low : 4 < 2 = rise.0.0 in absurd (omega (arith, low))

-- along a row the number of an action may not fall
falls : NeverFall (deeds_of (acted 1 3 (says.Take 135 4) ∷ acted 2 2 (says.Take 135 5) ∷ [])) → ⊥
falls never =
    let low : 3 ≤ 2 = never (record { action = 3; row = 135; version = 4; releases = false }) (record { action = 2; row = 135; version = 5; releases = false }) (inl refl) (inr (inl refl)) (refl, inl (lit< tt)) in
    absurd (omega (arith, low))

-- a release stands behind the change at its version and before the next: it may not be of an earlier action than that
-- change, nor of a later one than the next
released_before : NeverFall (deeds_of (acted 1 3 (says.Tag 1 1) ∷ acted 2 2 (says.Free 1 1) ∷ [])) → ⊥
released_before never =
    let low : 3 ≤ 2 = never (record { action = 3; row = 1; version = 1; releases = false }) (record { action = 2; row = 1; version = 1; releases = true }) (inl refl) (inr (inl refl)) (refl, inr (refl, refl, refl)) in
    absurd (omega (arith, low))

released_behind : NeverFall (deeds_of (acted 1 3 (says.Free 1 1) ∷ acted 2 2 (says.Tag 1 2) ∷ [])) → ⊥
released_behind never =
    let low : 3 ≤ 2 = never (record { action = 3; row = 1; version = 1; releases = true }) (record { action = 2; row = 1; version = 2; releases = false }) (inl refl) (inr (inl refl)) (refl, inl (lit< tt)) in
    absurd (omega (arith, low))

-- releases at one version don't stand before one another
releases_alike : StandsBefore (record { action = 3; row = 8450; version = 0; releases = true }) (record { action = 2; row = 8450; version = 0; releases = true }) → ⊥
releases_alike before = elim before.1 [
  | inl low ↦ let no : 0 < 0 = low in absurd (omega (arith, no))
  | inr same ↦ let no : true ≡ false = same.1 in cc
]

-- and so along a switch word
sets_fall : NeverFall (sets_of (acted 1 3 (says.Set 39 1 2) ∷ acted 2 2 (says.Set 39 2 3) ∷ [])) → ⊥
sets_fall never =
    let low : 3 ≤ 2 = never (record { action = 3; row = 39; version = 1; releases = false }) (record { action = 2; row = 39; version = 2; releases = false }) (inl refl) (inr (inl refl)) (refl, inl (lit< tt)) in
    absurd (omega (arith, low))
