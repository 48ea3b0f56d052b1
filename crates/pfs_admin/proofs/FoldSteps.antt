-- One label more, and what the fold keeps.
use Rattle.std.proofs.Common.{ℕ, ◌≡◌, ◌+◌, List, [], ◌∷◌, ◌++◌, length, refl, ap, sym, subst, ◌∙◌, arith}
use Rattle.pfs_board.specs.declared.view.Label.{Label}
use Rattle.pfs_classes.specs.declared.setting.Setting.{Setting}
use Rattle.pfs_admin.specs.declared.changes.Change.{Change}
use Rattle.pfs_admin.specs.declared.changes.Change.TheVariants.{Connect, Quit, Truncate, Setup}
use Rattle.pfs_admin.specs.Fold.{stepped, state_from, state_of, Follows}
use Rattle.pfs_admin.specs.FoldLaws.{StepLaw, CountLaw, FixedLaw}
use Rattle.pfs_admin.specs.OpeningState.{opened}
use Rattle.pfs_admin.specs.SetupStatements.{first_of, flags_after, most_of, words_after}
use Rattle.pfs_admin.specs.declared.changes.SetupStatement.{SetupStatement}
use Rattle.pfs_levels.specs.declared.answers.Word.{Word}
use Rattle.pfs_matching.specs.declared.actor_rows.ActorRow.{ActorRow}
use Rattle.pfs_matching.specs.declared.object_rows.ObjectRow.{ObjectRow}
use Rattle.pfs_setups.specs.SetupRows.{Naming, naming_of}
use Rattle.pfs_admin.specs.AdministrationStates.{State, AreEarly, IsState, thread_flags, seat_at, seat_in, naming_in}
use Rattle.pfs_admin.proofs.QuitCosts.{early_by}
use Rattle.pfs_admin.proofs.OpeningState.{opened_early}
use Rattle.pfs_admin.proofs.WordChanges.{early_behind, changed_early, changed_length}

then_one : (change : Label → Change) (s : State) (labels : List Label) (label : Label)
    → state_from change s (labels ++ label ∷ []) ≡ stepped (state_from change s labels) label.session (change label)
unfolding state_from
then_one change s [] label = refl
then_one change s (l ∷ labels) label = then_one change (stepped s l.session (change l)) labels label

pub follows : (session : ℕ) (what : Change) (s next : State) → next ≡ stepped s session what → Follows session what s next
follows session what s next step = record {
  stands = λ setting change labels label same named is.
      step
      ∙ (ap (λ (z : State). stepped z session what) is
      ∙ (ap (λ (n : ℕ). stepped (state_of setting change labels) n what) (sym same)
      ∙ (ap (λ (c : Change). stepped (state_of setting change labels) label.session c) (sym named)
      ∙ sym (then_one change (opened setting) labels label))));
}

pub step_law : StepLaw
step_law session what s = follows session what s (stepped s session what) refl

-- what a step keeps: one action more, no word set more than once, the names and the cells as they were
record IsStep (s next : State) : Type 0 where
  count : next.actions ≡ s.actions + 1
  early : AreEarly s.actions s.words → AreEarly (s.actions + 1) next.words
  names : naming_in next ≡ naming_in s
  cells : next.cells ≡ s.cells
  kinds : next.kinds ≡ s.kinds

is_step : (s : State) (session : ℕ) (change : Change) → IsStep s (stepped s session change)
is_step s session (Connect user host) = record {
  count = refl;
  early = λ e. early_by s.actions (thread_flags s user host) s.words (seat_at s session user host) e;
  names = refl;
  cells = refl;
  kinds = refl;
}
is_step s session Quit = record {
  count = refl;
  early = λ e. early_by s.actions 0 s.words (seat_in s session) e;
  names = refl;
  cells = refl;
  kinds = refl;
}
is_step s session (Truncate what) = record {
  count = refl;
  early = λ e. early_behind what s.actions s.words e;
  names = refl;
  cells = refl;
  kinds = refl;
}
is_step s session (Setup what) = record {
  count = refl;
  early = λ e. changed_early (flags_after s what) s.actions (first_of what) (most_of what) s.words e;
  names = refl;
  cells = refl;
  kinds = refl;
}

record IsAfter (n : ℕ) (s last : State) : Type 0 where
  count : last.actions ≡ s.actions + n
  early : AreEarly last.actions last.words
  names : naming_in last ≡ naming_in s
  cells : last.cells ≡ s.cells
  kinds : last.kinds ≡ s.kinds

is_after : (change : Label → Change) (s : State) (labels : List Label) → AreEarly s.actions s.words → IsAfter (length labels) s (state_from change s labels)
unfolding state_from
is_after change s [] e = record { count = omega arith; early = e; names = refl; cells = refl; kinds = refl }
is_after change s (l ∷ labels) e =
    let step : IsStep s (stepped s l.session (change l)) = is_step s l.session (change l) in
    let early : AreEarly (stepped s l.session (change l)).actions (stepped s l.session (change l)).words =
    subst (λ n. AreEarly n (stepped s l.session (change l)).words) (sym step.count) (step.early e) in
    let rest : IsAfter (length labels) (stepped s l.session (change l)) (state_from change (stepped s l.session (change l)) labels) =
    is_after change (stepped s l.session (change l)) labels early in
    record {
      count = omega (arith, rest.count, step.count);
      early = rest.early;
      names = rest.names ∙ step.names;
      cells = rest.cells ∙ step.cells;
      kinds = rest.kinds ∙ step.kinds;
    }

after_opening : (setting : Setting) (change : Label → Change) (labels : List Label) → IsAfter (length labels) (opened setting) (state_of setting change labels)
after_opening setting change labels = is_after change (opened setting) labels (opened_early setting)

pub count_law : CountLaw
count_law setting change labels s is =
    let after : IsAfter (length labels) (opened setting) (state_of setting change labels) = after_opening setting change labels in
    let count : s.actions ≡ length labels = ap (λ (z : State). z.actions) is ∙ (after.count ∙ omega arith) in
    (count, subst (λ n. AreEarly n s.words) count (subst (λ (z : State). AreEarly z.actions z.words) (sym is) after.early))

opened_names : (setting : Setting) → naming_in (opened setting) ≡ naming_of setting
unfolding naming_of
opened_names setting = refl

pub fixed_law : FixedLaw
unfolding naming_of
fixed_law setting change labels s is =
    let after : IsAfter (length labels) (opened setting) (state_of setting change labels) = after_opening setting change labels in
    let names : naming_in s ≡ naming_in (opened setting) = ap naming_in is ∙ after.names in (
      ap (λ (z : Naming). z.names) names,
      ap (λ (z : State). z.cells) is ∙ after.cells,
      ap (λ (z : State). z.kinds) is ∙ after.kinds,
      names ∙ opened_names setting,
    )

-- a statement keeps what always holds
pub changed_keeps : (s : State) (what : SetupStatement) (words : List Word) (actors : List ActorRow) (objects : List ObjectRow) → IsState s
    → words ≡ words_after s what → IsState (record s { words = words; actors = actors; objects = objects; actions = s.actions + 1 })
changed_keeps s what words actors objects is e = record {
  words_wide = ap length e ∙ (changed_length (flags_after s what) s.words (first_of what) (most_of what) ∙ is.words_wide);
  words_early = subst (AreEarly (s.actions + 1)) (sym e) (changed_early (flags_after s what) s.actions (first_of what) (most_of what) s.words is.words_early);
  connects_few = omega (arith, is.connects_few);
  cells_small = is.cells_small;
  cells_few = is.cells_few;
  kinds_are = is.kinds_are;
}
