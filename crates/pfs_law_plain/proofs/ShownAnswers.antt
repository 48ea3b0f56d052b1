-- What sessions answered as they ran, their journals show: part by part, spell by spell.
use Rattle.std.proofs.Common.{ℕ, ◌≡◌, ◌+◌, List, [], ◌∷◌, ◌++◌, Option, Some, None, refl, sym, ◌∙◌, subst}
use Rattle.std.specs.Prelude.{IfSome}
use Rattle.pfs_admin.specs.OpeningState.{opening_flags}
use Rattle.pfs_admin.specs.declared.changes.Change.{Change}
use Rattle.pfs_law_plain.proofs.PrintedFlags.{printed_same}
use Rattle.pfs_law_plain.proofs.PlainJournals.{one_actor, AreTogether, together}
use Rattle.pfs_law_plain.specs.Spells.{Doing, Spell, around, entering, doing_calls, doings_calls, parts_in, stint_of, stints_of, calls_of, IsEntered, AreEntered, AllEntered}
use Rattle.pfs_board.specs.declared.view.Label.{Label}
use Rattle.pfs_classes.specs.declared.setting.Setting.{Setting}
use Rattle.pfs_event.specs.declared.entry.Entry.{Entry}
use Rattle.pfs_exec.specs.declared.query.Select.{Select}
use Rattle.pfs_law_plain.specs.ToldAnswers.{IsQuery, IsShow, Answers}
use Rattle.pfs_levels.proofs.PlainChanges.{plain_joint, plain_words}
use Rattle.pfs_levels.specs.Calls.{Call}
use Rattle.pfs_levels.specs.JointCalls.{changes_of, sets_of, all_calls}
use Rattle.pfs_levels.specs.PlainStore.{AllAnswer, ops_of, content_at}
use Rattle.pfs_matching.specs.ObjectRules.{opening_objects}
use Rattle.pfs_model.specs.Chains.{Each}
use Rattle.pfs_law_session.proofs.Stints.{done}
use Rattle.pfs_law_session.specs.Deeds.{Deed, Connecting, Starting, Staging, StageEnding, Ending, Spending, Quitting, Truncating, Changing, Showing, Querying, Refusing, Closing, action_of, part_calls, part_entries, IsPart, steps_for}
use Rattle.pfs_law_session.specs.JournalLaws.{AreParts}
use Rattle.pfs_law_session.specs.JournalLaws.{entries_of as part_entries_of}
use Rattle.pfs_law_session.specs.Stints.{Stint, state_by, AreStintsBehind}
use Rattle.pfs_law_plain.proofs.EnteredLabels.{all_labels, AreAllEntered, entered}
use Rattle.pfs_law_plain.proofs.LabelWork.{StandsAmong, StandAmong, AllStandAmong, spells_among, state_here}
use Rattle.pfs_law_plain.specs.ActionFolds.{FoldsTo, IsFolded, DoingsFolded, AreFolded}
use Rattle.pfs_law_plain.specs.RunRules.{entries_of, labels_of}
use Rattle.pfs_runs.specs.SelectAnswers.{Answer, Selection, Stored, Held, AreAnswers, IsAnswered, IsQueried, IsHeldShown}
use Rattle.pfs_runs.specs.Labels.{before_action, terms_of}
use Rattle.pfs_runs.specs.Rules.{flags_by}
use Rattle.pfs_session.specs.SessionStates.{State, fresh}
use Rattle.pfs_session.specs.Turns.{Turn, AreTurns, state_after, steps_of, turns_calls, turns_entries}
use Rattle.pfs_law_plain.specs.ShownAnswers.{AnsweredLaw}
use Rattle.pfs_law_plain.proofs.HeldTables.{held_shown}
use Rattle.pfs_law_plain.proofs.QueryReadings.{Made, Finds, finds_front, finds_back, SameFlags, queried}

-- a part whose session answers a SELECT by what it was told
query_shown : (setting : Setting) (opening : List ℕ) (all : Made) (flags : ℕ → ℕ → ℕ) (s : State) (select : Select) (turns : List Turn) (answer : Answer) (deed : Deed) → SameFlags opening all flags
    → AreTurns s turns → steps_of turns ≡ steps_for s deed → Finds opening all (turns_calls turns) → IsQuery setting select answer deed
    → IsQueried setting all.content flags select (turns_entries turns) answer
query_shown setting opening all flags s select turns answer (Querying rs count) same are steps f a = queried setting opening all flags s select rs count turns answer same are steps f a
query_shown setting opening all flags s select turns answer (Showing admin count) same are steps f a = absurd a
query_shown setting opening all flags s select turns answer (Connecting admin user host) same are steps f a = absurd a
query_shown setting opening all flags s select turns answer (Starting subject) same are steps f a = absurd a
query_shown setting opening all flags s select turns answer (Staging subject) same are steps f a = absurd a
query_shown setting opening all flags s select turns answer StageEnding same are steps f a = absurd a
query_shown setting opening all flags s select turns answer (Ending numbers) same are steps f a = absurd a
query_shown setting opening all flags s select turns answer (Spending time) same are steps f a = absurd a
query_shown setting opening all flags s select turns answer (Quitting admin) same are steps f a = absurd a
query_shown setting opening all flags s select turns answer (Truncating admin what) same are steps f a = absurd a
query_shown setting opening all flags s select turns answer (Changing admin what) same are steps f a = absurd a
query_shown setting opening all flags s select turns answer (Refusing error) same are steps f a = absurd a
query_shown setting opening all flags s select turns answer Closing same are steps f a = absurd a

show_shown : (setting : Setting) (change : Label → Change) (all : List Label) (label : Label) (labels : List Label) (s : State) (select : Select) (turns : List Turn) (answer : Answer) (deed : Deed)
    → AreTurns s turns → steps_of turns ≡ steps_for s deed → FoldsTo setting change label labels deed → IsEntered s label labels deed
    → IfSome (action_of deed) (λ number. StandsAmong all label labels) → IsShow select answer deed → IsHeldShown (before_action setting change all) select (turns_entries turns) answer
show_shown setting change all label labels s select turns answer (Showing admin count) are steps folds enters stands a =
    held_shown (before_action setting change all) s select admin count turns answer are steps
    (state_here setting change all labels label (admin.actions + 1) enters.0 stands ∙ sym folds.0) a.0 a.1
show_shown setting change all label labels s select turns answer (Querying rs count) are steps folds enters stands a = absurd a
show_shown setting change all label labels s select turns answer (Connecting admin user host) are steps folds enters stands a = absurd a
show_shown setting change all label labels s select turns answer (Starting subject) are steps folds enters stands a = absurd a
show_shown setting change all label labels s select turns answer (Staging subject) are steps folds enters stands a = absurd a
show_shown setting change all label labels s select turns answer StageEnding are steps folds enters stands a = absurd a
show_shown setting change all label labels s select turns answer (Ending numbers) are steps folds enters stands a = absurd a
show_shown setting change all label labels s select turns answer (Spending time) are steps folds enters stands a = absurd a
show_shown setting change all label labels s select turns answer (Quitting admin) are steps folds enters stands a = absurd a
show_shown setting change all label labels s select turns answer (Truncating admin what) are steps folds enters stands a = absurd a
show_shown setting change all label labels s select turns answer (Changing admin what) are steps folds enters stands a = absurd a
show_shown setting change all label labels s select turns answer (Refusing error) are steps folds enters stands a = absurd a
show_shown setting change all label labels s select turns answer Closing are steps folds enters stands a = absurd a

-- what goes for all doings of a run: all its calls and labels, and the flags of its words
abbrev pub IsSo : Setting → (Label → Change) → List Label → Made → (ℕ → ℕ → ℕ) → Selection → List Entry → Answer → Type 0
IsSo setting change labels all flags = IsAnswered setting all.content flags (before_action setting change labels)

one_answered : (setting : Setting) (change : Label → Change) (labels : List Label) (opening : List ℕ) (all : Made) (flags : ℕ → ℕ → ℕ) (s : State) (selection : Selection) (d : Doing)
    (answer : Answer) → SameFlags opening all flags → IsPart s d.part → Finds opening all (part_calls d.part) → IsEntered s d.label d.labels d.part.deed → IsFolded setting change d
    → IfSome (action_of d.part.deed) (λ number. StandsAmong labels d.label d.labels) → Answers setting selection d.part answer
    → IsSo setting change labels all flags selection (part_entries d.part) answer
one_answered setting change labels opening all flags s (Stored select) d answer same is f enters folds stands a =
    query_shown setting opening all flags s select d.part.turns answer d.part.deed same is.are_turns is.steps_are f a
one_answered setting change labels opening all flags s (Held select) d answer same is f enters folds stands a =
    show_shown setting change labels d.label d.labels s select d.part.turns answer d.part.deed is.are_turns is.steps_are folds enters stands a

-- the calls of a part among those of its doing
own_finds : (opening : List ℕ) (all : Made) (label : Label) (labels : List Label) (met : Option (List ℕ)) (action : Option ℕ) (calls : List Call) → Finds opening all (around label labels met action calls)
    → Finds opening all calls
own_finds opening all label labels met None calls f = f
own_finds opening all label labels met (Some number) calls f = finds_front opening all calls (entering label labels met) f.1

doings_answered : (setting : Setting) (change : Label → Change) (labels : List Label) (opening : List ℕ) (all : Made) (flags : ℕ → ℕ → ℕ) (s : State) (selections : List (Option Selection))
    (ds : List Doing) (answers : List Answer) → SameFlags opening all flags → AreParts s (parts_in ds) → Finds opening all (doings_calls ds) → AreEntered s ds → DoingsFolded setting change ds
    → StandAmong labels ds → AreAnswers (Answers setting) selections (parts_in ds) answers
    → AreAnswers (IsSo setting change labels all flags) selections (part_entries_of (parts_in ds)) answers
doings_answered setting change labels opening all flags s [] [] answers same are f enters folds stands a = a
doings_answered setting change labels opening all flags s [] (d ∷ ds) answers same are f enters folds stands a = absurd a
doings_answered setting change labels opening all flags s (None ∷ selections) [] answers same are f enters folds stands a = absurd a
doings_answered setting change labels opening all flags s (Some selection ∷ selections) [] [] same are f enters folds stands a = absurd a
doings_answered setting change labels opening all flags s (Some selection ∷ selections) [] (answer ∷ answers) same are f enters folds stands a = absurd a
doings_answered setting change labels opening all flags s (Some selection ∷ selections) (d ∷ ds) [] same are f enters folds stands a = absurd a
doings_answered setting change labels opening all flags s (None ∷ selections) (d ∷ ds) answers same are f enters folds stands a =
    doings_answered setting change labels opening all flags (state_after s d.part.turns) selections ds answers same are.1 (finds_front opening all (doings_calls ds) (doing_calls d) f) enters.1
    folds.1 stands.1 a
doings_answered setting change labels opening all flags s (Some selection ∷ selections) (d ∷ ds) (answer ∷ answers) same are f enters folds stands a = (
  one_answered setting change labels opening all flags s selection d answer same are.0
      (own_finds opening all d.label d.labels d.met (action_of d.part.deed) (part_calls d.part) (finds_back opening all (doings_calls ds) (doing_calls d) f)) enters.0 folds.0 stands.0 a.0,
  doings_answered setting change labels opening all flags (state_after s d.part.turns) selections ds answers same are.1 (finds_front opening all (doings_calls ds) (doing_calls d) f) enters.1
      folds.1 stands.1 a.1,
)

-- a spell of a run, by all that the run is
abbrev pub IsSoIn : Setting → (Label → Change) → List Label → Made → (ℕ → ℕ → ℕ) → Spell → Type 0
IsSoIn setting change labels all flags spell =
    (selections : List (Option Selection)) (answers : List Answer) → AreAnswers (Answers setting) selections (parts_in spell.doings) answers
    → AreAnswers (IsSo setting change labels all flags) selections (part_entries_of (parts_in spell.doings)) answers

-- by what each spell's calls found
pub spells_answered : (setting : Setting) (change : Label → Change) (labels : List Label) (opening : List ℕ) (all : Made) (flags : ℕ → ℕ → ℕ) (stack : ℕ) (depths : ℕ → ℕ) (earlier : List Stint)
    (phase : ℕ) (spells : List Spell) → SameFlags opening all flags → AreStintsBehind stack depths earlier phase (stints_of spells) → AllEntered stack depths earlier spells
    → Each (λ spell. Finds opening all (doings_calls spell.doings)) spells → AreFolded setting change spells → AllStandAmong labels spells → Each (IsSoIn setting change labels all flags) spells
spells_answered setting change labels opening all flags stack depths earlier phase [] same are enters f folds stands = tt
spells_answered setting change labels opening all flags stack depths earlier phase (spell ∷ spells) same are enters f folds stands = (
  λ selections answers a. doings_answered setting change labels opening all flags (state_by spell.session (fresh spell.session stack (depths spell.session)) earlier) selections spell.doings answers
      same are.1.are_parts f.0 enters.0 folds.0 stands.0 a,
  spells_answered setting change labels opening all flags stack depths (earlier ++ stint_of spell ∷ []) spell.phase spells same are.2 enters.1 f.1 folds.1 stands.1,
)

-- a plain store's calls make this of it, and all of them found what they make
abbrev made_by : List Call → Made
made_by calls = record { content = content_at (ops_of calls); log = changes_of calls; sets = sets_of calls }

all_found : (opening : List ℕ) (calls : List Call) → AllAnswer opening calls → Finds opening (made_by calls) calls
all_found opening calls answers =
    let e : all_calls (calls ∷ []) ≡ calls = one_actor calls in
    let j = plain_joint opening (calls ∷ []) (subst (AllAnswer opening) (sym e) answers) in
    subst (λ z. Finds opening (made_by z) z) e j.agrees

each_found : (opening : List ℕ) (all : Made) (spells : List Spell) → Finds opening all (calls_of spells) → Each (λ spell. Finds opening all (doings_calls spell.doings)) spells
each_found opening all [] f = tt
each_found opening all (spell ∷ spells) f =
    (finds_back opening all (calls_of spells) (doings_calls spell.doings) f, each_found opening all spells (finds_front opening all (calls_of spells) (doings_calls spell.doings) f))

pub answered : AnsweredLaw
answered = λ setting change facts depths spells are answers folds.
    (let opening : List ℕ = opening_flags setting opening_objects in
    let stack : ℕ = setting.limits.statement_stack in
    let calls : List Call = calls_of spells in
    let labels : List Label = labels_of spells in
    let flags : ℕ → ℕ → ℕ = flags_by (terms_of setting change facts labels) (entries_of spells) in
    let t : AreTogether opening spells = together opening stack depths spells are answers in
    let same : SameFlags opening (made_by calls) flags = λ at k. printed_same opening (entries_of spells) calls at k (plain_words opening calls answers) t.same in
    let e : AreAllEntered spells = entered opening spells (done stack depths (stints_of spells) are.stints) answers in
    let stands : AllStandAmong labels spells = subst (λ z. AllStandAmong z spells) (sym e.labels) (spells_among (all_labels spells) [] spells refl e.behind) in
    spells_answered setting change labels opening (made_by calls) flags stack depths [] 0 spells same are.stints are.entered (each_found opening (made_by calls) spells (all_found opening calls answers)) folds stands)
