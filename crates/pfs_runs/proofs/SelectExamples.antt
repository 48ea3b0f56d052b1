-- The worked SELECT, by computation.
use Rattle.std.proofs.Common.{ℕ, ◌≡◌, List, [], ◌∷◌, ◌++◌, Option, Some, None, refl, sym, subst}
use Rattle.pfs_admin.specs.AdministrationStates.{State}
use Rattle.pfs_classes.specs.declared.setting.Setting.{Setting}
use Rattle.pfs_event.specs.declared.entry.Entry.{Entry}
use Rattle.pfs_event.specs.declared.entry.Entry.TheVariants as says
use Rattle.pfs_matching.specs.declared.actor_rows.ActorRow.{ActorRow}
use Rattle.pfs_matching.specs.declared.object_rows.ObjectRow.{ObjectRow}
use Rattle.pfs_exec.specs.Requests.{command_in, request_of, table_in, tokens_from}
use Rattle.pfs_script.specs.Marks.{written_from}
use Rattle.pfs_setups.specs.HeldRows.{actor_values}
use Rattle.pfs_sql.specs.TextCuts.{inner_of, inside_of, token_of}
use Rattle.pfs_sql.specs.TokenReaders.{columns_at, command_at, command_of, many, select_at, whole}
use Rattle.pfs_runs.specs.SelectAnswers.{Answer, Selection, Held, AnswersHeld, AreAnswers, IsAnswered, selections_in}
use Rattle.pfs_runs.specs.SelectExamples.{AreReported, WorkedAnswers, actor, answer, select, showing, shown_rows, spending}

its_selections : selections_in showing ≡ Some (Held select) ∷ None ∷ []
unfolding written_from request_of command_in tokens_from token_of inner_of inside_of table_in command_of whole command_at select_at columns_at many
its_selections = refl

-- the row's host answers, whatever objects there are
here : (objects : List ObjectRow) → AnswersHeld select (actor ∷ []) objects answer
here objects = record {
  sorted = actor_values actor ∷ [];
  in_order = record {
    permutation = record { moves = []; below = tt; is = refl };
    ascending = λ k d low high. refl;
    stable = λ row. refl;
  };
  shown = refl;
}

-- the answers at the line and at its block's end
abbrev AreTwo : (Selection → List Entry → Answer → Type 0) → List Entry → List Answer → Type 0
AreTwo answers part given = AreAnswers answers (Some (Held select) ∷ None ∷ []) (part ∷ [] ∷ []) given

of_two : (answers : Selection → List Entry → Answer → Type 0) (part : List Entry) (given : List Answer) → AreTwo answers part given → AreReported answers showing part given
of_two answers part given two = ((subst (λ (selections : List (Option Selection)). AreAnswers answers selections (part ∷ [] ∷ []) given) (sym its_selections) two, tt), tt)

two_of : (answers : Selection → List Entry → Answer → Type 0) (part : List Entry) (given : List Answer) → AreReported answers showing part given → AreTwo answers part given
two_of answers part given are = subst (λ (selections : List (Option Selection)). AreAnswers answers selections (part ∷ [] ∷ []) given) its_selections are.0.0

no_two : (settled : List Entry) (number : ℕ) → shown_rows 2 ≡ settled ++ says.Act number ∷ says.Rows 1 ∷ [] → ⊥
no_two [] number is = cc
no_two (first ∷ []) number is = cc
no_two (first ∷ (second ∷ [])) number is = cc
no_two (first ∷ (second ∷ (third ∷ settled))) number is = cc

spent : (answers : Selection → List Entry → Answer → Type 0) → AreReported answers spending [] (answer ∷ []) → ⊥
unfolding written_from
spent answers are = cc

shown_here : (setting : Setting) (content : ℕ → ℕ → List ℕ) (flags : ℕ → ℕ → ℕ) (before : ℕ → State) → (before 2).actors ≡ actor ∷ []
    → AreTwo (IsAnswered setting content flags before) (shown_rows 1) (answer ∷ [])
shown_here setting content flags before is = (
  record {
    settled = [];
    number = 2;
    told = refl;
    answered = subst (λ (actors : List ActorRow). AnswersHeld select actors (before 2).objects answer) (sym is) (here (before 2).objects);
  },
  refl,
)

miscounted : (setting : Setting) (content : ℕ → ℕ → List ℕ) (flags : ℕ → ℕ → ℕ) (before : ℕ → State)
    → AreTwo (IsAnswered setting content flags before) (shown_rows 2) (answer ∷ []) → ⊥
miscounted setting content flags before two = no_two two.0.settled two.0.number two.0.told

none_more : (given : Answer) → given ∷ [] ≡ [] → ⊥
none_more given is = cc

pub answered : WorkedAnswers
answered setting content flags before is =
    let answers : Selection → List Entry → Answer → Type 0 = IsAnswered setting content flags before in
    record {
      selects = its_selections;
      shown = of_two answers (shown_rows 1) (answer ∷ []) (shown_here setting content flags before is);
      miscounted = λ are. miscounted setting content flags before (two_of answers (shown_rows 2) (answer ∷ []) are);
      missing = λ are. two_of answers (shown_rows 1) [] are;
      one_more = λ are. none_more answer (two_of answers (shown_rows 1) (answer ∷ answer ∷ []) are).1;
      elsewhere = spent answers;
    }
