-- How texts of SQL were answered, as a journal tells.
use Rattle.std.specs.Prelude.{ℕ, zero, suc, ◌+◌, List, [], ◌∷◌, ◌++◌}
use Rattle.pfs_event.specs.declared.entry.Entry.{Entry}
use Rattle.pfs_event.specs.declared.entry.Entry.TheVariants as entry
use Rattle.pfs_view.specs.declared.replies.Outcome.{Outcome}
use Rattle.pfs_view.specs.declared.replies.Outcome.TheVariants as outcome

-- each text is answered by one of these entries; rows stand in the answer behind so many
abbrev pub outcome_on : ℕ → Entry → List Outcome
outcome_on answers (entry.Rows number) = outcome.Rows answers ∷ []
outcome_on answers (entry.Reply number) = outcome.Changed number ∷ []
outcome_on answers (entry.Error number) = outcome.Refused number ∷ []
outcome_on answers _ = []

abbrev pub answers_behind : ℕ → Entry → ℕ
answers_behind answers (entry.Rows number) = answers + 1
answers_behind answers _ = answers

abbrev pub outcomes_from : ℕ → List Entry → List Outcome
outcomes_from answers [] = []
outcomes_from answers (one ∷ entries) = outcome_on answers one ++ outcomes_from (answers_behind answers one) entries

-- the answers to a session's texts, in order
unfoldable pub outcomes_of : List Entry → List Outcome
outcomes_of entries = outcomes_from 0 entries

-- the place of the answer that is shown for a text, where rows answered it
abbrev pub place_shown : Outcome → List ℕ
place_shown (outcome.Rows place) = place ∷ []
place_shown _ = []

-- how many answers of rows a journal tells
abbrev pub rows_total : List Entry → ℕ
rows_total [] = zero
rows_total (entry.Rows number ∷ entries) = suc (rows_total entries)
rows_total (_ ∷ entries) = rows_total entries

abbrev pub outcomes_behind : ℕ → Entry → ℕ
outcomes_behind count (entry.Rows number) = count + 1
outcomes_behind count (entry.Reply number) = count + 1
outcomes_behind count (entry.Error number) = count + 1
outcomes_behind count _ = count

-- how many texts a journal answers
abbrev pub outcome_total : List Entry → ℕ
outcome_total [] = 0
outcome_total (one ∷ entries) = outcomes_behind (outcome_total entries) one
