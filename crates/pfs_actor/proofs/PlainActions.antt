-- An action of a plain actor: it begins behind the labels that stand there, finds the administration that they make,
-- and leaves the one that its own label makes of it.
use Rattle.std.proofs.Common.{ℕ, ◌≡◌, ◌≤◌, ◌+◌, ◌-◌, ◌^◌, ◌<◌, List, [], ◌∷◌, ◌++◌, Option, Some, None, length, refl, ap, sym, ◌∙◌, subst, append_assoc, arith}
use Rattle.std.proofs.lemmas.List.{append-nil}
use Rattle.std.specs.Prelude.{IfSome}
use Rattle.pfs_admin.proofs.FoldSteps.{count_law, fixed_law}
use Rattle.pfs_admin.specs.AdministrationStates.{State as Administration}
use Rattle.pfs_admin.specs.Fold.{Follows, StandsFor}
use Rattle.pfs_admin.specs.declared.changes.Change.{Change}
use Rattle.pfs_admin.specs.declared.changes.Change.TheVariants.{Setup}
use Rattle.pfs_admin.specs.declared.changes.SetupStatement.TheVariants.{Show}
use Rattle.pfs_board.specs.declared.view.Label.{Label}
use Rattle.pfs_classes.specs.declared.setting.Setting.{Setting}
use Rattle.pfs_event.specs.Logs.{Journal}
use Rattle.pfs_event.specs.declared.entry.Entry.{Entry}
use Rattle.pfs_exec.specs.Selections.{IsAnswer}
use Rattle.pfs_exec.specs.declared.query.Select.{Select}
use Rattle.pfs_law_plain.proofs.EnteredLabels.{HasEntered, has_entered}
use Rattle.pfs_law_plain.proofs.InnerCalls.{calls_within, turns_within}
use Rattle.pfs_law_plain.specs.ActionFolds.{FoldsTo}
use Rattle.pfs_law_plain.specs.Spells.{around, doings_calls, label_of}
use Rattle.pfs_law_session.specs.Deeds.{Deed, Part, Showing, action_of, part_calls, part_entries, remark, steps_for}
use Rattle.pfs_levels.specs.Calls.{Begins, Call, Enters, Goes, Leaves, Opening}
use Rattle.pfs_levels.specs.PlainStore.{AllAnswer, labels_after}
use Rattle.pfs_levels.specs.Views.{Store, Kept, taken}
use Rattle.pfs_model.specs.JournalCuts.{joined}
use Rattle.pfs_session.specs.CallCosts.{MayWork}
use Rattle.pfs_session.proofs.StepLists.{played_one, played_then}
use Rattle.pfs_session.specs.Inquiries.{Remarks, remark_entry}
use Rattle.pfs_session.specs.SessionStates.{Book, State}
use Rattle.pfs_session.specs.Turns.{AreTurns, Changes, Does, Inquires, Played, SettlesHeld, Turn, turns_calls}
use Rattle.pfs_session.specs.declared.remarks.Remark.TheVariants.{Rows}
use Rattle.pfs_setups.specs.HeldRows.{held_rows}
use Rattle.pfs_text.specs.declared.values.RowValue.{RowValue}
use Rattle.pfs_actor.specs.ActionAsks.{MayAct}
use Rattle.pfs_actor.specs.ActorDeeds.{HasActed, HasBrokenOff, HasDone, HasShown}
use Rattle.pfs_actor.specs.PlainViews.{between}
use Rattle.pfs_actor.proofs.PlainSteps.{others_free}

-- each call that led to a store was answered by those before it
abbrev pub IsTold : Store → Type 0
IsTold store = (start : Opening) → (calls : List Call) → store.reached start calls → AllAnswer start.flags calls

-- an action that begins has the number behind those that stand there
numbered : (setting : Setting) (change : Label → Change) (was begun : Store) (admin : Administration) (label : Label) (number : ℕ) → IsTold begun → Begins was.reached begun.reached label number
    → (start : Opening) × (calls : List Call) × (between setting change was admin).reached start calls → number ≡ admin.actions + 1
numbered setting change was begun admin label number told begins led =
    let start : Opening = led.0 in
    let calls : List Call = led.1 in
    let found = begins start calls led.2.0 in
    let labels : List Label = found.0 in
    let answers : AllAnswer start.flags (Enters label labels ∷ calls) = told start (Enters label labels ∷ calls) found.1.1 in
    let as_many : length labels ≡ length (labels_after calls) = ap length answers.0.1 in
    omega (arith, found.1.0, as_many, (count_law setting change (labels_after calls) admin led.2.1).0)

-- its administration has the names of the setting
pub as_many_names : (setting : Setting) (change : Label → Change) (was : Store) (admin : Administration) → (start : Opening) × (calls : List Call) × (between setting change was admin).reached start calls → length admin.names ≡ length setting.names
as_many_names setting change was admin led = ap length (fixed_law setting change (labels_after led.1) admin led.2.1).0

-- so it may do its work
pub may_work : (setting : Setting) (change : Label → Change) (spent most entries all number : ℕ) (was begun : Store) (admin : Administration) (label : Label) (log : Journal) → spent + 1 ≤ most → entries ≤ all → ((r : ℕ) → was.hand r ≡ None)
    → was.words ≡ Some admin.words → MayAct most all (between setting change was admin) log → IsTold begun → Begins was.reached begun.reached label number → number ≤ 2 ^ 47 → Kept 1 0 (taken 0 (number - 1) was) begun → MayWork spent entries admin begun log
may_work setting change spent most entries all number was begun admin label log few less free lent acts told begins small kept = record {
  few = omega (arith, small, numbered setting change was begun admin label number told begins acts.begun);
  alone = others_free (number - 1) was begun free kept;
  lent = kept.words ∙ lent;
  affords = record {
    left = omega (arith, few, kept.left, acts.affords.left);
    draws = omega arith;
    room = omega (arith, less, acts.affords.room);
  };
}

-- the calls of an action, behind others
around_calls : (label : Label) (labels : List Label) (its calls : List Call) → (Leaves ∷ (its ++ Enters label labels ∷ [])) ++ calls ≡ Leaves ∷ (its ++ Enters label labels ∷ calls)
around_calls label labels its calls = ap (λ (z : List Call). Leaves ∷ z) (append_assoc its (Enters label labels ∷ []) calls)

-- it has entered behind labels that make the administration that it found, and left
pub record HasLeft (setting : Setting) (change : Label → Change) (admin : Administration) (label : Label) (its : List Call) (start : Opening) (calls : List Call) (now : Opening → List Call → Type 0) : Type 0 where
  pub labels : List Label
  pub found : StandsFor setting change labels admin
  pub reached : now start (Leaves ∷ (its ++ Enters label labels ∷ calls))

pub has_left : (setting : Setting) (change : Label → Change) (what : Change) (admin after : Administration) (s : State) (turns : List Turn) (number : ℕ) (was begun did now : Store) → AreTurns s turns → Follows s.number what admin after
    → change (label_of s) ≡ what → IsTold now → Begins was.reached begun.reached (label_of s) number → Goes begun.reached did.reached (turns_calls turns) → Goes did.reached now.reached (Leaves ∷ [])
    → (start : Opening) → (calls : List Call) → (between setting change was admin).reached start calls → HasLeft setting change admin (label_of s) (turns_calls turns) start calls (between setting change now after).reached
has_left setting change what admin after s turns number was begun did now are follows named told begins goes leaves start calls h =
    let label : Label = label_of s in
    let its : List Call = turns_calls turns in
    let entered = begins start calls h.0 in
    let labels : List Label = entered.0 in
    let there : now.reached start (Leaves ∷ (its ++ Enters label labels ∷ calls)) = leaves start (its ++ Enters label labels ∷ calls) (goes start (Enters label labels ∷ calls) entered.1.1) in
    let e : around label labels None (Some number) its ++ calls ≡ Leaves ∷ (its ++ Enters label labels ∷ calls) = around_calls label labels its calls in
    let behind : HasEntered calls label labels None (Some number) its =
    has_entered start.flags calls label labels None (Some number) its (calls_within turns (turns_within s turns are)) (subst (AllAnswer start.flags) (sym e) (told start (Leaves ∷ (its ++ Enters label labels ∷ calls)) there)) in
    record {
      labels = labels;
      found = subst (λ (z : List Label). StandsFor setting change z admin) (sym behind.behind) h.1;
      reached = (there, subst (λ (z : List Label). StandsFor setting change z after) (sym (ap labels_after (sym e) ∙ behind.now)) (follows.stands setting change (labels_after calls) label refl named h.1));
    }

joined_one : (entries : List Entry) → joined (entries ∷ []) ≡ entries
unfolding joined
joined_one entries = append-nil entries

-- a session that entered, did the steps of a deed, and left
pub has_done : (setting : Setting) (change : Label → Change) (what : Change) (deed : Deed) (admin after : Administration) (number count : ℕ) (old new : Book) (was begun did now : Store) → action_of deed ≡ Some count
    → ((labels : List Label) → StandsFor setting change labels admin → FoldsTo setting change (label_of old.state) labels deed) → Follows old.state.number what admin after → change (label_of old.state) ≡ what → IsTold now
    → Begins was.reached begun.reached (label_of old.state) number → (played : Played (steps_for old.state deed) old new begun.reached did.reached) → Goes did.reached now.reached (Leaves ∷ [])
    → HasDone setting change ((record { deed = deed; turns = played.turns }) ∷ []) old new (between setting change was admin).reached (between setting change now after).reached
has_done setting change what deed admin after number count old new was begun did now acts folds follows named told begins played leaves =
    let its : Part = record { deed = deed; turns = played.turns } in
    let label : Label = label_of old.state in
    let reached : Opening → List Call → Type 0 = (between setting change now after).reached in
    record {
      are_parts = (record { are_turns = played.are_turns; steps_are = played.steps_are }, tt);
      state = played.state_is;
      entries_are = played.did.entries_are ∙ ap (λ (z : List Entry). old.journal.entries ++ z) (sym (joined_one (part_entries its)));
      leads = λ start calls h.
          let left : HasLeft setting change admin label (turns_calls played.turns) start calls reached = has_left setting change what admin after old.state played.turns number was begun did now played.are_turns follows named told begins played.did.goes leaves start calls h in
          record {
            doings = (record { part = its; label = label; labels = left.labels; met = None }) ∷ [];
            parts_are = refl;
            labelled = (subst (λ (n : Option ℕ). IfSome n (λ k. label ≡ label)) (sym acts) refl, tt);
            folded = (folds left.labels left.found, tt);
            reached = subst (λ (z : List Call). reached start (z ++ calls)) (sym (one_doing its label left.labels acts)) (subst (λ (z : List Call). reached start z) (sym (around_calls label left.labels (turns_calls played.turns) calls)) left.reached);
          };
    }
  where
    one_doing : (its : Part) (label : Label) (labels : List Label) → action_of its.deed ≡ Some count → doings_calls ((record { part = its; label = label; labels = labels; met = None }) ∷ []) ≡ Leaves ∷ (part_calls its ++ Enters label labels ∷ [])
    one_doing its label labels is = ap (λ (n : Option ℕ). around label labels None n (part_calls its)) is

-- that is its action
pub has_acted : (setting : Setting) (change : Label → Change) (what : Change) (make : Administration → Deed) (admin after : Administration) (number count : ℕ) (old new : Book) (was begun did now : Store) → action_of (make admin) ≡ Some count
    → ((labels : List Label) → StandsFor setting change labels admin → FoldsTo setting change (label_of old.state) labels (make admin)) → Follows old.state.number what admin after → change (label_of old.state) ≡ what → IsTold now
    → Begins was.reached begun.reached (label_of old.state) number → Played (steps_for old.state (make admin)) old new begun.reached did.reached → Goes did.reached now.reached (Leaves ∷ [])
    → HasActed setting change make old new (between setting change was admin).reached (between setting change now after).reached
has_acted setting change what make admin after number count old new was begun did now acts folds follows named told begins played leaves = record {
  admin = admin;
  part = record { deed = make admin; turns = played.turns };
  deed_is = refl;
  done = has_done setting change what (make admin) admin after number count old new was begun did now acts folds follows named told begins played leaves;
}

-- inside an action: what is held is settled, the administration notes that it is asked, and a remark says how many rows
-- answer
told_rows : (admin : Administration) (count : ℕ) (old at new : Book) (was now : Opening → List Call → Type 0) → Played (SettlesHeld ∷ Changes admin Show ∷ []) old at was now
    → Does at.state (Inquires (Remarks (Rows count))) [] (remark_entry (Rows count) ∷ []) new.state → new.journal.entries ≡ at.journal.entries ++ remark_entry (Rows count) ∷ [] → Played (steps_for old.state (Showing admin count)) old new was now
told_rows admin count old at new was now noted does entries =
    played_then (SettlesHeld ∷ Changes admin Show ∷ []) (remark (Rows count) ∷ []) old at new was now now noted
    (played_one (Inquires (Remarks (Rows count))) [] (remark_entry (Rows count) ∷ []) new.state at new now now does refl (record { entries_are = entries; goes = λ start calls h. h }))

-- a session that was shown rows
pub has_shown : (setting : Setting) (change : Label → Change) (query : Select) (answer : List (List RowValue)) (admin after : Administration) (number : ℕ) (old at new : Book) (was begun did now : Store)
    → IsAnswer query (held_rows query.table admin.actors admin.objects) answer → Follows old.state.number (Setup Show) admin after → change (label_of old.state) ≡ Setup Show → IsTold now → Begins was.reached begun.reached (label_of old.state) number
    → Played (SettlesHeld ∷ Changes admin Show ∷ []) old at begun.reached did.reached → Does at.state (Inquires (Remarks (Rows (length answer)))) [] (remark_entry (Rows (length answer)) ∷ []) new.state
    → new.journal.entries ≡ at.journal.entries ++ remark_entry (Rows (length answer)) ∷ [] → Goes did.reached now.reached (Leaves ∷ [])
    → HasShown setting change query answer old new (between setting change was admin).reached (between setting change now after).reached
has_shown setting change query answer admin after number old at new was begun did now answered follows named told begins noted does entries leaves =
    let played : Played (steps_for old.state (Showing admin (length answer))) old new begun.reached did.reached = told_rows admin (length answer) old at new begun.reached did.reached noted does entries in
    record {
      admin = admin;
      part = record { deed = Showing admin (length answer); turns = played.turns };
      deed_is = refl;
      answered = answered;
      done = has_done setting change (Setup Show) (Showing admin (length answer)) admin after number (admin.actions + 1) old new was begun did now refl (λ labels is. (is, named)) follows named told begins played leaves;
    }

-- and one that wasn't
pub has_broken_off : (setting : Setting) (change : Label → Change) (admin after : Administration) (number : ℕ) (old new : Book) (was begun did now : Store) → Follows old.state.number (Setup Show) admin after → change (label_of old.state) ≡ Setup Show
    → IsTold now → Begins was.reached begun.reached (label_of old.state) number → Played (SettlesHeld ∷ Changes admin Show ∷ []) old new begun.reached did.reached → Goes did.reached now.reached (Leaves ∷ [])
    → HasBrokenOff setting change old new (between setting change was admin).reached (between setting change now after).reached
has_broken_off setting change admin after number old new was begun did now follows named told begins noted leaves = record {
  admin = admin;
  turns = noted.turns;
  are_turns = noted.are_turns;
  steps_are = noted.steps_are;
  state_is = noted.state_is;
  entries_are = noted.did.entries_are;
  named = named;
  leads = λ start calls h.
      let left : HasLeft setting change admin (label_of old.state) (turns_calls noted.turns) start calls (between setting change now after).reached = has_left setting change (Setup Show) admin after old.state noted.turns number was begun did now noted.are_turns follows named told begins noted.did.goes leaves start calls h in (
        left.labels,
        None,
        left.found,
        left.reached,
      );
}
