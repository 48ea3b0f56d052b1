-- Outcomes of a journal, one entry at a time.
use Rattle.std.proofs.Common.{ℕ, ◌≡◌, ◌+◌, ◌<◌, ◌≤◌, List, [], ◌∷◌, ◌++◌, length, drop, refl, sym, ap, ◌∙◌, append_assoc, append-nil, arith}
use Rattle.std.specs.Prelude.{slice_get, Some}
use Rattle.std.proofs.lemmas.List.{drop_all, drop_more}
use Rattle.std.proofs.lemmas.Option.{get_or_from_slice_get, slice_get_within}
use Rattle.pfs_event.specs.declared.entry.Entry.{Entry}
use Rattle.pfs_event.specs.declared.entry.Entry.TheVariants as entry
use Rattle.pfs_view.specs.TextOutcomes.{answers_behind, outcome_on, outcome_total, outcomes_behind, outcomes_from, outcomes_of}
use Rattle.pfs_view.specs.declared.replies.Outcome.{Outcome}

-- the outcomes so far and those ahead are all, and no more answers were told than there were entries
pub record OutcomesSoFar (entries : List Entry) (place answers : ℕ) (outcomes : List Outcome) : Type 0 where
  pub all : outcomes ++ outcomes_from answers (drop place entries) ≡ outcomes_of entries
  pub few : answers ≤ place

pub outcomes_start : (entries : List Entry) → OutcomesSoFar entries 0 0 []
unfolding outcomes_of
outcomes_start entries = record { all = refl; few = omega arith }

behind_low : (answers : ℕ) (one : Entry) → answers_behind answers one ≤ answers + 1
behind_low answers (entry.Rows number) = omega arith
behind_low answers _ = omega arith

pub outcomes_more : (entries : List Entry) (place answers : ℕ) (one : Entry) (old new : List Outcome) (behind : ℕ) → slice_get entries place ≡ Some one → new ≡ old ++ outcome_on answers one → behind ≡ answers_behind answers one → OutcomesSoFar entries place answers old
    → OutcomesSoFar entries (place + 1) behind new
outcomes_more entries place answers one old new behind is put more so =
    let within : place < length entries = slice_get_within entries place one is in
    let here : drop place entries ≡ one ∷ drop (place + 1) entries = drop_more entries place one within ∙ ap (λ (e : Entry). e ∷ drop (place + 1) entries) (get_or_from_slice_get entries place one one is) in
    let ahead = outcomes_from (answers_behind answers one) (drop (place + 1) entries) in
    record {
      all = ap (λ (k : ℕ). new ++ outcomes_from k (drop (place + 1) entries)) more
          ∙ (ap (λ (z : List Outcome). z ++ ahead) put
          ∙ (append_assoc old (outcome_on answers one) ahead
          ∙ (ap (λ (z : List Entry). old ++ outcomes_from answers z) (sym here)
          ∙ so.all)));
      few = omega (arith, more, behind_low answers one, so.few);
    }

pub outcomes_end : (entries : List Entry) (place answers : ℕ) (outcomes : List Outcome) → length entries ≤ place → OutcomesSoFar entries place answers outcomes → outcomes ≡ outcomes_of entries
outcomes_end entries place answers outcomes past so =
    sym (ap (λ (z : List Entry). outcomes ++ outcomes_from answers z) (drop_all place entries past) ∙ append-nil outcomes) ∙ so.all

total_more : (answers : ℕ) (one : Entry) (rest : List Entry) → ((n : ℕ) → outcome_total rest ≡ length (outcomes_from n rest)) → outcome_total (one ∷ rest) ≡ length (outcomes_from answers (one ∷ rest))
total_more answers (entry.Rows number) rest behind = omega (arith, behind (answers + 1))
total_more answers (entry.Reply number) rest behind = omega (arith, behind answers)
total_more answers (entry.Error number) rest behind = omega (arith, behind answers)
total_more answers _ rest behind = behind answers

total_from : (answers : ℕ) (entries : List Entry) → outcome_total entries ≡ length (outcomes_from answers entries)
total_from answers [] = refl
total_from answers (one ∷ entries) = total_more answers one entries (λ n. total_from n entries)

-- the outcomes so far are counted, and those ahead are the others
pub record CountedSoFar (entries : List Entry) (place count : ℕ) : Type 0 where
  pub all : count + outcome_total (drop place entries) ≡ outcome_total entries
  pub few : count ≤ place

pub counted_start : (entries : List Entry) → CountedSoFar entries 0 0
counted_start entries = record { all = omega arith; few = omega arith }

one_moved : (count total : ℕ) (one : Entry) → outcomes_behind count one + total ≡ count + outcomes_behind total one
one_moved count total (entry.Rows number) = omega arith
one_moved count total (entry.Reply number) = omega arith
one_moved count total (entry.Error number) = omega arith
one_moved count total _ = refl

count_low : (count : ℕ) (one : Entry) → outcomes_behind count one ≤ count + 1
count_low count (entry.Rows number) = omega arith
count_low count (entry.Reply number) = omega arith
count_low count (entry.Error number) = omega arith
count_low count _ = omega arith

pub counted_more : (entries : List Entry) (place count : ℕ) (one : Entry) (behind : ℕ) → slice_get entries place ≡ Some one → behind ≡ outcomes_behind count one → CountedSoFar entries place count
    → CountedSoFar entries (place + 1) behind
counted_more entries place count one behind is more so =
    let within : place < length entries = slice_get_within entries place one is in
    let here : drop place entries ≡ one ∷ drop (place + 1) entries = drop_more entries place one within ∙ ap (λ (e : Entry). e ∷ drop (place + 1) entries) (get_or_from_slice_get entries place one one is) in
    record {
      all = ap (λ (n : ℕ). n + outcome_total (drop (place + 1) entries)) more
          ∙ (one_moved count (outcome_total (drop (place + 1) entries)) one
          ∙ (ap (λ (z : List Entry). count + outcome_total z) (sym here)
          ∙ so.all));
      few = omega (arith, more, count_low count one, so.few);
    }

pub counted_end : (entries : List Entry) (place count : ℕ) → length entries ≤ place → CountedSoFar entries place count → count ≡ length (outcomes_of entries)
unfolding outcomes_of
counted_end entries place count past so =
    let none : outcome_total (drop place entries) ≡ 0 = ap outcome_total (drop_all place entries past) in
    let all : count ≡ outcome_total entries = omega (arith, none, so.all) in
    all ∙ total_from 0 entries
