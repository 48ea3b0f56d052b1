-- Worked examples: what an action asks for and does, where a connect finds room, and what a line is answered.
use Rattle.std.proofs.Common.{◌≡◌, refl, ap, ℕ, true, false, cond, List, [], ◌∷◌, ◌==◌, lit<, arith}
use Rattle.std.specs.Prelude.{Option, Some, None}
use Rattle.pfs_event.specs.declared.entry.Entry.TheVariants as says
use Rattle.pfs_model.specs.declared.lines.Line.TheVariants as lines
use Rattle.pfs_model.specs.ActionAsks.{Asked, Frees, Tags, Did, asked_of, did, of_action, Took, Gave, Freed, Tagged, Flagged, DoAsAsked, Rooms, Answer, Replied, Failed, IsAnswered}
use Rattle.pfs_model.specs.Chains.{each_of}
use Rattle.pfs_model.specs.Contexts.{fresh, noted}
use Rattle.pfs_model.specs.EntryPlaces.{Placed}
use Rattle.pfs_model.proofs.ExampleEntries.{entry_of, acted}

-- an action gives what was counted alone, and signs behind its moves
abbrev asked : Asked
asked = record {
  moves = record { from = 135; to = 2183 ∷ [] } ∷ record { from = 136; to = 2184 ∷ [] } ∷ [];
  signs = Frees 1 ∷ Tags 33 ∷ [];
  sets = record { word = 1; flags = 0 } ∷ [];
}

asks : asked_of (λ row. row == 135) asked ≡ Took 135 ∷ Gave 2183 135 ∷ Took 136 ∷ Freed 1 ∷ Tagged 33 ∷ Flagged 1 0 ∷ []
asks = refl

-- two sessions at once: the second action's entries stand among those of another, and are as it asks
abbrev second : List Placed
second =
    acted 1 2 (says.Act 2) ∷ acted 1 2 (says.Take 135 4) ∷ acted 1 2 (says.Give 2183 1 135)
    ∷ acted 2 3 (says.Act 3) ∷ acted 2 3 (says.Take 135 5) ∷ acted 2 3 (says.Free 1 1)
    ∷ acted 1 2 (says.Take 136 1) ∷ acted 1 2 (says.Free 1 2) ∷ acted 1 2 (says.Tag 33 7) ∷ acted 1 2 (says.Set 1 2 0) ∷ []

does : each_of did (of_action 2 second) ≡ asked_of (λ row. row == 135) asked
does = refl

-- an action that gives what had counted nothing, that leaves out a set, or that does more than it was asked
abbrev to_asked : ℕ → Asked
to_asked number = cond (number == 2) asked (record { moves = []; signs = []; sets = [] })

counted_otherwise : DoAsAsked to_asked (λ number row. false) second → ⊥
counted_otherwise does =
    let same : Took 135 ∷ Gave 2183 135 ∷ Took 136 ∷ Freed 1 ∷ Tagged 33 ∷ Flagged 1 0 ∷ [] ≡ Took 135 ∷ Took 136 ∷ Freed 1 ∷ Tagged 33 ∷ Flagged 1 0 ∷ [] = does 2 (lit< tt) in
    cc

not_asked : DoAsAsked to_asked (λ number row. row == 135) second → ⊥
not_asked does = let same : Took 135 ∷ Freed 1 ∷ [] ≡ [] = does 3 (lit< tt) in cc

no_set : DoAsAsked (λ number. record { moves = []; signs = []; sets = record { word = 1; flags = 0 } ∷ [] }) (λ number row. true) (acted 1 2 (says.Act 2) ∷ []) → ⊥
no_set does = let same : ◌≡◌ {A = List Did} [] (Flagged 1 0 ∷ []) = does 2 (lit< tt) in cc

-- a connect has the rooms of its action, and its session those that the connect prints
abbrev rooms : ℕ → Rooms
rooms action = record { thread = cond (action == 1) (Some 0) None; account = Some 0; user = Some 0; host = Some 0 }

abbrev answers : ℕ → Answer
answers action = cond (action == 2) (Replied 1) (Failed 1062)

seated : IsAnswered rooms answers (entry_of 1 (says.Connect 1 (Some 0) (Some 0) (Some 0) (Some 0))) (says.Connect 1 (Some 0) (Some 0) (Some 0) (Some 0))
seated = refl

another_seat : IsAnswered rooms answers (entry_of 2 (says.Connect 2 (Some 1) (Some 0) (Some 0) (Some 0))) (says.Connect 2 (Some 1) (Some 0) (Some 0) (Some 0)) → ⊥
another_seat is = let no : ◌≡◌ {A = Option ℕ} None (Some 1) = ap (λ (r : Rooms). r.thread) is in cc

placed : (noted None fresh (says.Connect 2 None (Some 0) (Some 0) (Some 0))).slot ≡ None
placed = refl

placed_by_account : (noted None fresh (says.Connect 2 None (Some 0) (Some 0) (Some 0))).account ≡ Some 0
placed_by_account = refl

-- an answer is that of its action
replied : IsAnswered rooms answers (acted 1 2 (says.Reply 1)) (says.Reply 1)
replied = refl

failed : IsAnswered rooms answers (acted 1 3 (says.Error 1062)) (says.Error 1062)
failed = refl

answered_for_another : IsAnswered rooms answers (acted 1 3 (says.Reply 1)) (says.Reply 1) → ⊥
answered_for_another is = cc

-- and that of a text that was refused beforehand is its own: of two such lines one after another each has its error
abbrev error_of : Answer → ℕ
error_of (Failed error) = error
error_of (Replied number) = 0

abbrev refused : ℕ → ℕ → Placed
refused error number = record { phase = 1; session = 1; line = lines.Refused error; context = fresh; entry = says.Error number }

no_syntax : IsAnswered rooms answers (refused 1064 1064) (says.Error 1064)
no_syntax = refl

no_table : IsAnswered rooms answers (refused 1146 1146) (says.Error 1146)
no_table = refl

refused_as_the_other : IsAnswered rooms answers (refused 1146 1064) (says.Error 1064) → ⊥
refused_as_the_other is = let no : 1146 ≡ 1064 = ap error_of is in absurd (omega (arith, no))
