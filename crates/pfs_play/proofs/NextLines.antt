-- Lines one after another: one line more, and what its kinds leave.
use Rattle.std.proofs.Common.{ℕ, zero, suc, ◌≡◌, ◌<◌, ◌⊎◌, inl, inr, Bool, true, false, List, [], ◌∷◌, ◌++◌, map, Option, Some, None, refl, ap, sym, ◌∙◌, subst, append_assoc, arith}
use Rattle.std.specs.Prelude.{Contains}
use Rattle.std.proofs.lemmas.Bool.{false≢true}
use Rattle.std.proofs.lemmas.List.{append-nil, map-append}
use Rattle.std.proofs.lemmas.List.Elements.{Contains-append_right}
use Rattle.pfs_play.proofs.FurtherDeeds.{nothing, then}
use Rattle.pfs_admin.specs.AdministrationStates.{State as Administration}
use Rattle.pfs_admin.specs.declared.changes.Change.{Change}
use Rattle.pfs_board.specs.declared.view.Label.{Label}
use Rattle.pfs_classes.specs.declared.classes.ClassRef.{ClassRef}
use Rattle.pfs_classes.specs.declared.classes.ClassRef.TheVariants as refs
use Rattle.pfs_classes.specs.declared.setting.Setting.{Setting}
use Rattle.pfs_event.specs.declared.kind.EventKind.{EventKind}
use Rattle.pfs_event.specs.declared.kind.EventKind.TheVariants.{Wait, Stage, Statement, Transaction}
use Rattle.pfs_levels.specs.Calls.{Call, Opening}
use Rattle.pfs_exec.specs.declared.query.Select.{Select}
use Rattle.pfs_law_session.specs.Deeds.{Deed, Connecting, Starting, Staging, StageEnding, Ending, Spending, Quitting, Truncating, Changing, Showing, Querying, Refusing, Closing, Part, AreOfStore, MayDo, is_over}
use Rattle.pfs_reader.specs.Readings.{IsThere}
use Rattle.pfs_readsets.specs.TablePlaces.{Scope, scope_of}
use Rattle.pfs_readsets.specs.ReadSets.{read_set, row_test, target_of}
use Rattle.pfs_readsets.specs.declared.target.Target.{Target}
use Rattle.pfs_readsets.specs.declared.target.Target.TheVariants as targets
use Rattle.pfs_readsets.proofs.Members.{rows_are, words_are}
use Rattle.pfs_rows.specs.declared.table.Reading.{Reading}
use Rattle.pfs_rows.specs.declared.table.Table.{Table}
use Rattle.pfs_runs.specs.SelectAnswers.{Answer, Selection, AreAnswers, selection_in, selection_on}
use Rattle.pfs_law_session.specs.JournalLaws.{MayDoAll, state_behind, over_behind}
use Rattle.pfs_runs.specs.ScriptLines.{class_in, cell_in}
use Rattle.pfs_script.specs.declared.blocks.Access.{Access}
use Rattle.pfs_script.specs.declared.blocks.Access.TheVariants.{ReadWrite, ReadOnly}
use Rattle.pfs_script.specs.declared.blocks.BlockLine.{BlockLine}
use Rattle.pfs_script.specs.declared.blocks.BlockLine.TheVariants as said
use Rattle.pfs_script.specs.Brackets.{kinds_behind, may_stand}
use Rattle.pfs_script.specs.Marks.{Mark, Opens, Ends, EndsStage, Passes, mark_of}
use Rattle.pfs_session.specs.SessionStates.{State, Book}
use Rattle.pfs_session.specs.Turns.{state_after}
use Rattle.pfs_law_plain.specs.ToldAnswers.{Answers, IsQuery}
use Rattle.pfs_law_plain.specs.LineDeeds.{bare, deed_on, sql_deed}
use Rattle.pfs_law_plain.specs.LineSteps.{kinds_at}
use Rattle.pfs_law_plain.proofs.OpenKinds.{kinds_part}
use Rattle.pfs_exec.specs.Requests.{request_of}
use Rattle.pfs_exec.specs.declared.requests.Request.{Request}
use Rattle.pfs_exec.specs.declared.requests.Request.TheVariants as requests
use Rattle.pfs_play.specs.Errand.{Errand}
use Rattle.pfs_play.specs.Errand as ask
use Rattle.pfs_play.specs.Errands.{AreFor, HasRun, HavePlayed, IsFor, StagesLie, asks_on, deed_of, errand_on, is_quit, selection_of, sql_errand}

sql_same : (admin : Administration) (what : Request) → deed_of admin (sql_errand what) ≡ sql_deed admin what
sql_same admin (requests.Refused error) = refl
sql_same admin (requests.Query select) = refl
sql_same admin (requests.Show select) = refl
sql_same admin (requests.Truncate what) = refl
sql_same admin (requests.Update update) = refl
sql_same admin (requests.Insert insert) = refl
sql_same admin (requests.Delete delete) = refl

pub errand_deed : (admin : Administration) (line : BlockLine) → deed_of admin (errand_on line) ≡ deed_on admin line
errand_deed admin (said.Wait class) = refl
errand_deed admin (said.TableWait class table) = refl
errand_deed admin (said.Statement class digest) = refl
errand_deed admin (said.Transaction access) = refl
errand_deed admin (said.Stage class) = refl
errand_deed admin said.StageEnd = refl
errand_deed admin (said.Spend time) = refl
errand_deed admin said.End = refl
errand_deed admin (said.EndStatement numbers) = refl
errand_deed admin said.Quit = refl
errand_deed admin (said.Sql text) = sql_same admin (request_of text)
errand_deed admin (said.Repeat times) = refl
errand_deed admin said.Done = refl

-- the answers of lines, and then of others
answers_then : (setting : Setting) (xs ys : List (Option Selection)) (ps qs : List Part) (given more : List Answer) → AreAnswers (Answers setting) xs ps given → AreAnswers (Answers setting) ys qs more
    → AreAnswers (Answers setting) (xs ++ ys) (ps ++ qs) (given ++ more)
answers_then setting [] ys [] qs given more are next = subst (λ (z : List Answer). AreAnswers (Answers setting) ys qs (z ++ more)) (sym are) next
answers_then setting [] ys (p ∷ ps) qs given more are next = absurd are
answers_then setting (None ∷ xs) ys [] qs given more are next = absurd are
answers_then setting (Some x ∷ xs) ys [] qs given more are next = absurd are
answers_then setting (None ∷ xs) ys (p ∷ ps) qs given more are next = answers_then setting xs ys ps qs given more are next
answers_then setting (Some x ∷ xs) ys (p ∷ ps) qs [] more are next = absurd are
answers_then setting (Some x ∷ xs) ys (p ∷ ps) qs (answer ∷ given) more are next = (are.0, answers_then setting xs ys ps qs given more are.1 next)

pub answers_on : (setting : Setting) (xs ys : List BlockLine) (ps qs : List Part) (given more : List Answer) → AreAnswers (Answers setting) (map selection_on xs) ps given → AreAnswers (Answers setting) (map selection_on ys) qs more
    → AreAnswers (Answers setting) (map selection_on (xs ++ ys)) (ps ++ qs) (given ++ more)
answers_on setting xs ys ps qs given more are next =
    subst (λ (z : List (Option Selection)). AreAnswers (Answers setting) z (ps ++ qs) (given ++ more)) (sym (map-append selection_on xs ys))
    (answers_then setting (map selection_on xs) (map selection_on ys) ps qs given more are next)

-- only a transaction has an access
abbrev IsOf : Option Access → EventKind → Type 0
IsOf None kind = Unit {0}
IsOf (Some access) kind = kind ≡ Transaction

-- an event counts in the cell of its class, or, a READ ONLY transaction, in the last one
cell_fits : (access : Option Access) (class : ClassRef) (id : ℕ) (kind : EventKind) → IsOf access kind → class_in class ≡ Some id
    → (cell_in access (class_in class) ≡ id) ⊎ ((cell_in access (class_in class) ≡ 63) × (kind ≡ Transaction))
cell_fits (Some ReadOnly) class id kind of q = inr (refl, of)
cell_fits (Some ReadWrite) (refs.Class other) id kind of q = inl (cc)
cell_fits None (refs.Class other) id kind of q = inl (cc)
cell_fits (Some ReadWrite) (refs.Lost lost) id kind of q = cc
cell_fits None (refs.Lost lost) id kind of q = cc

sql_may : (s : State) (admin : Administration) (what : Request) → MayDo false s (sql_deed admin what)
sql_may s admin (requests.Refused error) = refl
sql_may s admin (requests.Query select) = (refl, tt)
sql_may s admin (requests.Show select) = refl
sql_may s admin (requests.Truncate what) = refl
sql_may s admin (requests.Update update) = (refl, tt)
sql_may s admin (requests.Insert insert) = (refl, tt)
sql_may s admin (requests.Delete delete) = (refl, tt)

may_do : (s : State) (admin : Administration) (line : BlockLine) → is_quit line ≡ false → MayDo false s (deed_on admin line)
may_do s admin (said.Wait class) quits = (refl, record { cell = λ id q. cell_fits None class id Wait tt q })
may_do s admin (said.TableWait class table) quits = (refl, record { cell = λ id q. cell_fits None class id Wait tt q })
may_do s admin (said.Statement class digest) quits = (refl, record { cell = λ id q. cell_fits None class id Statement tt q })
may_do s admin (said.Transaction access) quits = (refl, record { cell = λ id q. cell_fits (Some access) (refs.Class 62) id Transaction refl q })
may_do s admin (said.Stage class) quits = (refl, record { cell = λ id q. cell_fits None class id Stage tt q })
may_do s admin said.StageEnd quits = refl
may_do s admin (said.Spend time) quits = refl
may_do s admin said.End quits = refl
may_do s admin (said.EndStatement numbers) quits = refl
may_do s admin said.Quit quits = cc
may_do s admin (said.Sql text) quits = sql_may s admin (request_of text)
may_do s admin (said.Repeat times) quits = refl
may_do s admin said.Done quits = refl

sql_goes : (admin : Administration) (what : Request) → is_over false (sql_deed admin what) ≡ false
sql_goes admin (requests.Refused error) = refl
sql_goes admin (requests.Query select) = refl
sql_goes admin (requests.Show select) = refl
sql_goes admin (requests.Truncate what) = refl
sql_goes admin (requests.Update update) = refl
sql_goes admin (requests.Insert insert) = refl
sql_goes admin (requests.Delete delete) = refl

goes_on : (admin : Administration) (line : BlockLine) → is_quit line ≡ false → is_over false (deed_on admin line) ≡ false
goes_on admin (said.Wait class) quits = refl
goes_on admin (said.TableWait class table) quits = refl
goes_on admin (said.Statement class digest) quits = refl
goes_on admin (said.Transaction access) quits = refl
goes_on admin (said.Stage class) quits = refl
goes_on admin said.StageEnd quits = refl
goes_on admin (said.Spend time) quits = refl
goes_on admin said.End quits = refl
goes_on admin (said.EndStatement numbers) quits = refl
goes_on admin said.Quit quits = cc
goes_on admin (said.Sql text) quits = sql_goes admin (request_of text)
goes_on admin (said.Repeat times) quits = refl
goes_on admin said.Done quits = refl

-- what was read of a read set is there
above_zero : (scope : Scope) (table : Table) (readings : List Reading) (row : ℕ) → row_test scope table readings row ≡ true → 0 < row
above_zero scope table readings zero is = absurd (false≢true is)
above_zero scope table readings (suc row) is = omega arith

target_there : (scope : Scope) (table : Table) (readings : List Reading) (target : Target) → Contains (read_set scope table readings) target → IsThere target
target_there scope table readings (targets.Row row) in_set =
    let h = (rows_are scope table readings row).0 in_set in
    (above_zero scope table readings row h.1, h.0)
target_there scope table readings (targets.Word word) in_set = ((words_are scope table readings word).0 in_set).0

each_there : (scope : Scope) (table : Table) (whole done rest : List Reading) → map target_of (done ++ rest) ≡ read_set scope table whole → AreOfStore rest
each_there scope table whole done [] is = tt
each_there scope table whole done (reading ∷ rest) is =
    let split : map target_of done ++ target_of reading ∷ map target_of rest ≡ read_set scope table whole = sym (map-append target_of done (reading ∷ rest)) ∙ is in
    let more : map target_of ((done ++ reading ∷ []) ++ rest) ≡ read_set scope table whole = ap (map target_of) (append_assoc done (reading ∷ []) rest) ∙ is in (
      target_there scope table whole (target_of reading)
          (subst (λ (l : List Target). Contains l (target_of reading)) split (Contains-append_right (map target_of done) (target_of reading ∷ map target_of rest) (target_of reading) (0, omega arith, refl))),
      each_there scope table whole (done ++ reading ∷ []) rest more,
    )

abbrev IsOfStore : Deed → Type 0
IsOfStore (Querying readings count) = AreOfStore readings
IsOfStore _ = Unit {0}

abbrev IsNoQuery : Deed → Type 0
IsNoQuery (Querying readings count) = ⊥
IsNoQuery _ = Unit {0}

plain_of_store : (deed : Deed) → IsNoQuery (bare deed) → IsOfStore deed
plain_of_store (Connecting admin user host) plain = tt
plain_of_store (Starting subject) plain = tt
plain_of_store (Staging subject) plain = tt
plain_of_store StageEnding plain = tt
plain_of_store (Ending numbers) plain = tt
plain_of_store (Spending time) plain = tt
plain_of_store (Quitting admin) plain = tt
plain_of_store (Truncating admin what) plain = tt
plain_of_store (Changing admin what) plain = tt
plain_of_store (Showing admin count) plain = tt
plain_of_store (Querying readings count) plain = absurd plain
plain_of_store (Refusing error) plain = tt
plain_of_store Closing plain = tt

query_of_store : (setting : Setting) (select : Select) (answer : Answer) (deed : Deed) → IsQuery setting select answer deed → IsOfStore deed
query_of_store setting select answer (Querying readings count) is = each_there (scope_of setting) select.table readings [] readings is.whole
query_of_store setting select answer (Connecting admin user host) is = tt
query_of_store setting select answer (Starting subject) is = tt
query_of_store setting select answer (Staging subject) is = tt
query_of_store setting select answer StageEnding is = tt
query_of_store setting select answer (Ending numbers) is = tt
query_of_store setting select answer (Spending time) is = tt
query_of_store setting select answer (Quitting admin) is = tt
query_of_store setting select answer (Truncating admin what) is = tt
query_of_store setting select answer (Changing admin what) is = tt
query_of_store setting select answer (Showing admin count) is = tt
query_of_store setting select answer (Refusing error) is = tt
query_of_store setting select answer Closing is = tt

no_query : (admin : Administration) (errand : Errand) (deed : Deed) → bare deed ≡ deed_of admin errand → IsNoQuery (deed_of admin errand) → IsOfStore deed
no_query admin errand deed is plain = plain_of_store deed (subst IsNoQuery (sym is) plain)

errand_of_store : (setting : Setting) (admin : Administration) (errand : Errand) (p : Part) (given : List Answer) → bare p.deed ≡ deed_of admin errand
    → AreAnswers (Answers setting) (selection_of errand ∷ []) (p ∷ []) given → IsOfStore p.deed
errand_of_store setting admin (ask.Start subject) p given is answered = no_query admin (ask.Start subject) p.deed is tt
errand_of_store setting admin (ask.Stage (Some subject)) p given is answered = no_query admin (ask.Stage (Some subject)) p.deed is tt
errand_of_store setting admin (ask.Stage None) p given is answered = no_query admin (ask.Stage None) p.deed is tt
errand_of_store setting admin (ask.End numbers) p given is answered = no_query admin (ask.End numbers) p.deed is tt
errand_of_store setting admin (ask.Spend time) p given is answered = no_query admin (ask.Spend time) p.deed is tt
errand_of_store setting admin ask.Quit p given is answered = no_query admin ask.Quit p.deed is tt
errand_of_store setting admin (ask.Truncate what) p given is answered = no_query admin (ask.Truncate what) p.deed is tt
errand_of_store setting admin (ask.Change what) p given is answered = no_query admin (ask.Change what) p.deed is tt
errand_of_store setting admin (ask.Query select) p [] is answered = absurd answered
errand_of_store setting admin (ask.Query select) p (answer ∷ given) is answered = query_of_store setting select answer p.deed answered.0
errand_of_store setting admin (ask.Show select) p given is answered = no_query admin (ask.Show select) p.deed is tt
errand_of_store setting admin (ask.Refuse error) p given is answered = no_query admin (ask.Refuse error) p.deed is tt

-- a deed may be done, and is an end, as what it is asked for
may_bare : (s : State) (deed : Deed) → IsOfStore deed → MayDo false s (bare deed) → MayDo false s deed
may_bare s (Connecting admin user host) there may = may
may_bare s (Starting subject) there may = may
may_bare s (Staging subject) there may = may
may_bare s StageEnding there may = may
may_bare s (Ending numbers) there may = may
may_bare s (Spending time) there may = may
may_bare s (Quitting admin) there may = may
may_bare s (Truncating admin what) there may = may
may_bare s (Changing admin what) there may = may
may_bare s (Showing admin count) there may = may
may_bare s (Querying readings count) there may = (refl, there)
may_bare s (Refusing error) there may = may
may_bare s Closing there may = may

pub over_bare : (over : Bool) (deed : Deed) → is_over over deed ≡ is_over over (bare deed)
over_bare over (Connecting admin user host) = refl
over_bare over (Starting subject) = refl
over_bare over (Staging subject) = refl
over_bare over StageEnding = refl
over_bare over (Ending numbers) = refl
over_bare over (Spending time) = refl
over_bare over (Quitting admin) = refl
over_bare over (Truncating admin what) = refl
over_bare over (Changing admin what) = refl
over_bare over (Showing admin count) = refl
over_bare over (Querying readings count) = refl
over_bare over (Refusing error) = refl
over_bare over Closing = refl

-- the SELECT of a line is that of its errand
sql_selects : (what : Request) → selection_of (sql_errand what) ≡ selection_in what
sql_selects (requests.Refused error) = refl
sql_selects (requests.Query select) = refl
sql_selects (requests.Show select) = refl
sql_selects (requests.Truncate what) = refl
sql_selects (requests.Update update) = refl
sql_selects (requests.Insert insert) = refl
sql_selects (requests.Delete delete) = refl

line_selects : (line : BlockLine) → selection_of (errand_on line) ≡ selection_on line
line_selects (said.Wait class) = refl
line_selects (said.TableWait class table) = refl
line_selects (said.Statement class digest) = refl
line_selects (said.Transaction access) = refl
line_selects (said.Stage class) = refl
line_selects said.StageEnd = refl
line_selects (said.Spend time) = refl
line_selects said.End = refl
line_selects (said.EndStatement numbers) = refl
line_selects said.Quit = refl
line_selects (said.Sql text) = sql_selects (request_of text)
line_selects (said.Repeat times) = refl
line_selects said.Done = refl

-- what lines ask for, and then others
pub asks_on_then : (xs ys : List BlockLine) → asks_on (xs ++ ys) ≡ asks_on xs ++ asks_on ys
asks_on_then xs ys = map-append {B = Administration → Deed} (λ (line : BlockLine) (admin : Administration). deed_on admin line) xs ys

-- a part that is an errand's is its line's
line_for : (line : BlockLine) (deed : Deed) → IsFor (λ admin. deed_of admin (errand_on line)) deed → IsFor (λ admin. deed_on admin line) deed
line_for line deed is = record { admin = is.admin; is = is.is ∙ errand_deed is.admin line }

-- lists with one more
for_more : (asks : List (Administration → Deed)) (ask : Administration → Deed) (parts : List Part) (p : Part) → AreFor asks parts → IsFor ask p.deed → AreFor (asks ++ ask ∷ []) (parts ++ p ∷ [])
for_more [] ask [] p are one = (one, tt)
for_more [] ask (x ∷ xs) p are one = absurd are
for_more (a ∷ others) ask [] p are one = absurd are
for_more (a ∷ others) ask (x ∷ xs) p are one = (are.0, for_more others ask xs p are.1 one)

may_more : (over : Bool) (s : State) (parts : List Part) (p : Part) → MayDoAll over s parts → MayDo (over_behind over parts) (state_behind s parts) p.deed → MayDoAll over s (parts ++ p ∷ [])
may_more over s [] p may one = (one, tt)
may_more over s (x ∷ xs) p may one = (may.0, may_more (is_over over x.deed) (state_after s x.turns) xs p may.1 one)

over_more : (over : Bool) (parts : List Part) (p : Part) → over_behind over (parts ++ p ∷ []) ≡ is_over (over_behind over parts) p.deed
over_more over [] p = refl
over_more over (x ∷ xs) p = over_more (is_over over x.deed) xs p

-- nothing was played
pub played_nothing : (setting fixed : Setting) (change : Label → Change) (book : Book) (answers : List Answer) (was : Opening → List Call → Type 0) → HavePlayed setting fixed change [] book book answers answers was was
played_nothing setting fixed change book answers was = record {
  parts = [];
  asked = tt;
  may = tt;
  goes_on = refl;
  given = [];
  given_are = sym (append-nil answers);
  answered = refl;
  done = nothing fixed change book was;
}

-- one line more
pub played_more : (setting fixed : Setting) (change : Label → Change) (lines : List BlockLine) (line : BlockLine) (old at new : Book) (answers behind more : List Answer) (was mid now : Opening → List Call → Type 0) → is_quit line ≡ false
    → HavePlayed setting fixed change lines old at answers behind was mid → HasRun setting fixed change (errand_on line) at new behind more mid now → HavePlayed setting fixed change (lines ++ line ∷ []) old new answers more was now
played_more setting fixed change lines line old at new answers behind more was mid now quits before run =
    let p : Part = run.part in
    let ps : List Part = before.parts in
    let its : IsFor (λ admin. deed_on admin line) p.deed = line_for line p.deed run.asked in
    let after : Administration = its.admin in
    let there : IsOfStore p.deed = errand_of_store setting run.asked.admin (errand_on line) p run.given run.asked.is run.answered in
    let may : MayDo (over_behind false ps) (state_behind old.state ps) p.deed =
    subst (λ (b : Bool). MayDo b (state_behind old.state ps) p.deed) (sym before.goes_on)
    (may_bare (state_behind old.state ps) p.deed there (subst (MayDo false (state_behind old.state ps)) (sym its.is) (may_do (state_behind old.state ps) after line quits))) in
    let shown : AreAnswers (Answers setting) (map selection_on (line ∷ [])) (p ∷ []) run.given =
    subst (λ (one : Option Selection). AreAnswers (Answers setting) (one ∷ []) (p ∷ []) run.given) (line_selects line) run.answered in
    record {
      parts = ps ++ p ∷ [];
      asked = subst (λ (z : List (Administration → Deed)). AreFor z (ps ++ p ∷ [])) (sym (asks_on_then lines (line ∷ []))) (for_more (asks_on lines) (λ admin. deed_on admin line) ps p before.asked its);
      may = may_more false old.state ps p before.may may;
      goes_on = over_more false ps p
          ∙ (ap (λ (b : Bool). is_over b p.deed) before.goes_on ∙ (over_bare false p.deed ∙ (ap (λ (d : Deed). is_over false d) its.is ∙ goes_on after line quits)));
      given = before.given ++ run.given;
      given_are = run.given_are ∙ (ap (λ (z : List Answer). z ++ run.given) before.given_are ∙ append_assoc answers before.given run.given);
      answered = answers_on setting lines (line ∷ []) ps (p ∷ []) before.given run.given before.answered shown;
      done = then fixed change ps (p ∷ []) old at new was mid now before.done run.done;
    }

-- the kinds that are open behind a line
pub run_kinds : (setting fixed : Setting) (change : Label → Change) (line : BlockLine) (old new : Book) (answers behind : List Answer) (was now : Opening → List Call → Type 0) → HasRun setting fixed change (errand_on line) old new answers behind was now
    → kinds_at new.state ≡ kinds_behind (mark_of line) (kinds_at old.state)
unfolding line_for
run_kinds setting fixed change line old new answers behind was now run =
    ap kinds_at run.done.state ∙ kinds_part old.state run.asked.admin line run.part run.done.are_parts.0 (line_for line run.part.deed run.asked).is

-- a statement still lies around each stage
lies_less : (kind : EventKind) (kinds : List EventKind) → StagesLie (kind ∷ kinds) → StagesLie kinds
lies_less Wait kinds lie = lie
lies_less Statement kinds lie = lie
lies_less Transaction kinds lie = lie
lies_less Stage [] lie = absurd lie
lies_less Stage (Statement ∷ kinds) lie = lie
lies_less Stage (Wait ∷ kinds) lie = absurd lie
lies_less Stage (Stage ∷ kinds) lie = absurd lie
lies_less Stage (Transaction ∷ kinds) lie = absurd lie

stage_lies : (kinds : List EventKind) → StagesLie kinds → may_stand kinds (Opens Stage) ≡ true → StagesLie (kinds_behind (Opens Stage) kinds)
stage_lies [] lie may = cc
stage_lies (Wait ∷ kinds) lie may = cc
stage_lies (Transaction ∷ kinds) lie may = cc
stage_lies (Statement ∷ kinds) lie may = lie
stage_lies (Stage ∷ []) lie may = absurd lie
stage_lies (Stage ∷ (Statement ∷ kinds)) lie may = lie
stage_lies (Stage ∷ (Wait ∷ kinds)) lie may = absurd lie
stage_lies (Stage ∷ (Stage ∷ kinds)) lie may = absurd lie
stage_lies (Stage ∷ (Transaction ∷ kinds)) lie may = absurd lie

ends_lies : (kinds : List EventKind) → StagesLie kinds → StagesLie (kinds_behind Ends kinds)
ends_lies [] lie = tt
ends_lies (Wait ∷ kinds) lie = lie
ends_lies (Statement ∷ kinds) lie = lie
ends_lies (Transaction ∷ kinds) lie = lie
ends_lies (Stage ∷ []) lie = absurd lie
ends_lies (Stage ∷ (kind ∷ kinds)) lie = lies_less kind kinds (lies_less Stage (kind ∷ kinds) lie)

stage_ends_lies : (kinds : List EventKind) → StagesLie kinds → StagesLie (kinds_behind EndsStage kinds)
stage_ends_lies [] lie = tt
stage_ends_lies (Wait ∷ kinds) lie = lie
stage_ends_lies (Statement ∷ kinds) lie = lie
stage_ends_lies (Transaction ∷ kinds) lie = lie
stage_ends_lies (Stage ∷ kinds) lie = lies_less Stage kinds lie

pub still_lies : (mark : Mark) (kinds : List EventKind) → StagesLie kinds → may_stand kinds mark ≡ true → StagesLie (kinds_behind mark kinds)
still_lies (Opens Wait) kinds lie may = lie
still_lies (Opens Statement) kinds lie may = lie
still_lies (Opens Transaction) kinds lie may = lie
still_lies (Opens Stage) kinds lie may = stage_lies kinds lie may
still_lies Ends kinds lie may = ends_lies kinds lie
still_lies EndsStage kinds lie may = stage_ends_lies kinds lie
still_lies Passes kinds lie may = lie
