-- What stands at the line of a SELECT on the tables that the administration holds.
use Rattle.std.proofs.Common.{ℕ, ◌≡◌, ◌+◌, List, [], ◌∷◌, ◌++◌, length, refl, ap, sym, ◌∙◌, subst}
use Rattle.std.proofs.lemmas.List.{append_assoc, append-nil}
use Rattle.pfs_admin.specs.WordChanges.{flags_changed}
use Rattle.pfs_admin.specs.SetupStatements.{work_of_statement}
use Rattle.pfs_admin.specs.AdministrationStates.{State as Administration}
use Rattle.pfs_admin.specs.Works.{Made, signs_of, signs_entries, flagging_entries, no_work}
use Rattle.pfs_admin.specs.declared.changes.SetupStatement.TheVariants.{Show}
use Rattle.pfs_event.specs.declared.entry.Entry.{Entry}
use Rattle.pfs_event.specs.declared.entry.Entry.TheVariants as says
use Rattle.pfs_exec.specs.declared.query.Select.{Select}
use Rattle.pfs_levels.specs.Calls.{Call}
use Rattle.pfs_levels.specs.Moves.{Move, AreMoves, moves_entries}
use Rattle.pfs_levels.specs.declared.answers.Word.{Word}
use Rattle.pfs_law_session.proofs.FewTurns.{snoc_nil, ThreeTurns, three_turns}
use Rattle.pfs_law_session.proofs.LineEntries.{does_at}
use Rattle.pfs_law_session.specs.Deeds.{remark}
use Rattle.pfs_runs.specs.SelectAnswers.{Answer, AnswersHeld, IsHeldShown}
use Rattle.pfs_session.specs.Inquiries.{Remarks}
use Rattle.pfs_session.specs.SessionStates.{State}
use Rattle.pfs_session.specs.Turns.{SettlesHeld, Changes, Inquired, Works, Changed, Turn, AreTurns, steps_of, turns_entries}
use Rattle.pfs_session.specs.declared.remarks.Remark.TheVariants.{Rows}

-- it asks for nothing, so behind its number stands nothing
shows_nothing : (admin : Administration) → work_of_statement admin Show ≡ no_work
unfolding flags_changed
shows_nothing admin = refl

no_moves : (moves : List Move) → AreMoves [] moves → moves ≡ []
no_moves [] are = refl
no_moves (m ∷ ms) (before, (last, (is, rest))) = absurd (snoc_nil before last (sym is))

no_signs : (made : List Made) → signs_of made ≡ [] → made ≡ []
no_signs [] e = refl
no_signs (m ∷ ms) e = absurd (snoc_nil (signs_of ms) m.sign e)

no_more : (words : List Word) (head : List Entry) (calls : List Call) (entries : List Entry) → Works no_work words head calls entries → entries ≡ head
no_more words head calls entries w =
    w.entries_are
    ∙ (ap (λ z. head ++ (moves_entries z ++ (signs_entries w.made ++ flagging_entries words []))) (no_moves w.moves w.are_moves)
    ∙ (ap (λ z. head ++ (signs_entries z ++ flagging_entries words [])) (no_signs w.made w.signs_are) ∙ append-nil head))

-- where its session answers it by the administration that was named to it, its journal answers it by that of its number
pub held_shown : (before : ℕ → Administration) (s : State) (select : Select) (admin : Administration) (count : ℕ) (turns : List Turn) (answer : Answer) → AreTurns s turns
    → steps_of turns ≡ SettlesHeld ∷ Changes admin Show ∷ remark (Rows count) ∷ [] → before (admin.actions + 1) ≡ admin → AnswersHeld select admin.actors admin.objects answer
    → count ≡ length answer → IsHeldShown before select (turns_entries turns) answer
held_shown before s select admin count turns answer are steps known answers counted =
    let o : ThreeTurns turns SettlesHeld (Changes admin Show) (remark (Rows count)) = three_turns turns SettlesHeld (Changes admin Show) (remark (Rows count)) steps in
    let t : Turn = o.first in
    let u : Turn = o.second in
    let v : Turn = o.third in
    let number : ℕ = admin.actions + 1 in
    let ours : AreTurns s (v ∷ u ∷ t ∷ []) = subst (AreTurns s) o.is are in
    let d : Changed t.after admin Show u.calls u.entries u.after = does_at t.after u (Changes admin Show) o.second_is ours.1.0 in
    let r : Inquired u.after (Remarks (Rows count)) v.calls v.entries v.after = does_at u.after v (remark (Rows count)) o.third_is ours.0 in
    let none : Works no_work admin.words (says.Act number ∷ []) u.calls d.changes =
    subst (λ z. Works z admin.words (says.Act number ∷ []) u.calls d.changes) (shows_nothing admin) d.works in
    let acts : u.entries ≡ says.Act number ∷ [] = d.entries_are ∙ (append-nil d.changes ∙ no_more admin.words (says.Act number ∷ []) u.calls d.changes none) in
    let rows : v.entries ≡ says.Rows (length answer) ∷ [] = r.entries_are ∙ ap (λ z. says.Rows z ∷ []) counted in
    record {
      settled = t.entries;
      number = number;
      told = ap turns_entries o.is
          ∙ (append_assoc t.entries u.entries v.entries
          ∙ (ap (λ z. t.entries ++ (z ++ v.entries)) acts ∙ ap (λ z. t.entries ++ says.Act number ∷ z) rows));
      answered = subst (λ z. AnswersHeld select z.actors z.objects answer) (sym known) answers;
    }
