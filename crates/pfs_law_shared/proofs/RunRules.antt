-- Sessions at once keep the rules of a run that go by contents and labels: the law.
use Rattle.std.proofs.Common.{ℕ, ◌≡◌, ◌<◌, ◌==◌, Bool, true, false, cond, ◌&&◌, List, [], ◌∷◌, ◌++◌, length, refl, ap, sym, ◌∙◌, subst, lt-ltb, ltb-true}
use Rattle.std.specs.Prelude.{nat_lt}
use Rattle.std.proofs.lemmas.Bool.{and_from}
use Rattle.pfs_lemmas.proofs.Bools.{and_first, and_second}
use Rattle.pfs_admin.specs.OpeningState.{opening_flags}
use Rattle.pfs_admin.specs.declared.changes.Change.{Change}
use Rattle.pfs_board.specs.declared.view.Label.{Label}
use Rattle.pfs_classes.specs.declared.setting.Setting.{Setting}
use Rattle.pfs_levels.specs.Calls.{Call, Adds, Rings, Reads, Loads, Draws, Takes, Puts, Frees, Sets, Enters, Leaves, Meets, IsRow}
use Rattle.pfs_levels.specs.RowWords.{merged, opening_content}
use Rattle.pfs_levels.specs.declared.answers.Added.TheVariants.{Counted, Held}
use Rattle.pfs_levels.specs.declared.answers.RingPut.TheVariants.{Done, Busy, Late}
use Rattle.pfs_matching.specs.ObjectRules.{opening_objects}
use Rattle.pfs_model.specs.Chains.{Each}
use Rattle.pfs_model.specs.Contents.{Given, opening_words}
use Rattle.pfs_model.specs.Contexts.{fresh as empty}
use Rattle.pfs_model.specs.EntryPlaces.{Placed}
use Rattle.pfs_law_session.proofs.RunContents.{contents}
use Rattle.pfs_law_session.proofs.Orders.{whole as asked_whole}
use Rattle.pfs_law_session.proofs.SessionPhases.{whole as parts_whole}
use Rattle.pfs_law_session.proofs.Stints.{done}
use Rattle.pfs_law_session.specs.AllActions.{IsAsked, all_numbers}
use Rattle.pfs_law_session.specs.Amounts.{ContentAgrees, ContentsAgree, AllContentsAgree}
use Rattle.pfs_law_session.specs.Deeds.{Part, part_calls}
use Rattle.pfs_law_session.specs.JournalLaws.{AllLoadsAgree}
use Rattle.pfs_law_session.specs.Orders.{all_actings, orders_of}
use Rattle.pfs_law_session.specs.Stints.{Stint, AreDone, parts_by}
use Rattle.pfs_law_session.specs.Takes.{all_taken, counted_by}
use Rattle.pfs_law_plain.proofs.ActionCounts.{none_made, all_lined}
use Rattle.pfs_law_plain.proofs.ConnectSlots.{all_placed}
use Rattle.pfs_law_plain.proofs.SessionPlaces.{spells_seated}
use Rattle.pfs_law_plain.specs.ActionFolds.{AreFolded}
use Rattle.pfs_law_plain.specs.RunRules.{journals_of, entries_of}
use Rattle.pfs_law_plain.specs.SessionNotes.{ToldLaw}
use Rattle.pfs_law_plain.specs.Spells.{Spell, doings_calls, parts_in, stints_of}
use Rattle.pfs_runs.specs.Labels.{AreLabels, asked_at, rooms_at, answers_at, words_at, terms_of}
use Rattle.pfs_runs.specs.Rules.{Terms, flags_by, slot_in, given_by}
use Rattle.pfs_stat.specs.Stat.{MergeIsMonoid}
use Rattle.pfs_law_shared.specs.Journals.{AgreedLaw, ChainedLaw, HaveAgreed, HaveChains}
use Rattle.pfs_law_shared.specs.Labels.{LabelledLaw}
use Rattle.pfs_law_shared.specs.Order.{IsNear, HaveOrder, OrderedLaw, RisingLaw, ThereLaw}
use Rattle.pfs_law_shared.specs.Rules.{of_rows, RuledLaw}
use Rattle.pfs_law_plain.proofs.LabelWork.{KnownActing, spells_known}
use Rattle.pfs_law_shared.proofs.NamedThere.{parts_near}
use Rattle.pfs_law_shared.proofs.NumberedActions.{AreNumbered, numbered, unique, asked_are, rooms_are, answers_are, words_are}
use Rattle.pfs_law_shared.proofs.OrderedActions.{each_near}
use Rattle.pfs_law_shared.proofs.PrintedLabels.{among, named_all}

-- rows of the store have the contents that their sessions have in common
pub in_rows : (content : ℕ → ℕ → List ℕ) (row version : ℕ) → IsRow row → of_rows content row version ≡ content row version
in_rows content row version is = ap (λ b. cond b (content row version) (opening_words row)) (and_from (nat_lt 0 row) (nat_lt row 14242) (lt-ltb 0 row is.0) (lt-ltb row 14242 is.1))

rows_open : (content : ℕ → ℕ → List ℕ) → ((row : ℕ) → 0 < row → row < 14242 → content row 0 ≡ opening_content row) → (row : ℕ) → of_rows content row 0 ≡ opening_words row
rows_open content opens row = at (nat_lt 0 row && nat_lt row 14242) refl where
  at : (b : Bool) → (nat_lt 0 row && nat_lt row 14242) ≡ b → cond b (content row 0) (opening_words row) ≡ opening_words row
  at true e = opens row (ltb-true 0 row (and_first (nat_lt 0 row) (nat_lt row 14242) e)) (ltb-true row 14242 (and_second (nat_lt 0 row) (nat_lt row 14242) e))
  at false e = refl

call_agrees : (content : ℕ → ℕ → List ℕ) (call : Call) → IsNear call → ContentAgrees content call → ContentAgrees (of_rows content) call
call_agrees content (Adds at amount (Counted r v)) near a =
    (a.0, a.1, in_rows content r v near ∙ (a.2 ∙ ap (λ z. merged z amount) (sym (in_rows content r a.0 near))))
call_agrees content (Adds at amount (Held r v w)) near a = tt
call_agrees content (Rings at put (Done v)) near a = (a.0, a.1, in_rows content at v near ∙ a.2)
call_agrees content (Rings at put (Busy v w)) near a = tt
call_agrees content (Rings at put (Late t v)) near a = tt
call_agrees content (Reads at seen) near a = tt
call_agrees content (Loads at v found) near a = tt
call_agrees content (Draws kind ticket) near a = tt
call_agrees content (Meets versions) near a = tt
call_agrees content (Takes at v found) near a = a ∙ sym (in_rows content at v near)
call_agrees content (Puts at put v) near a = in_rows content at v near ∙ a
call_agrees content (Frees at v) near a = tt
call_agrees content (Sets at to v) near a = tt
call_agrees content (Enters label labels) near a = tt
call_agrees content Leaves near a = tt

calls_agree : (content : ℕ → ℕ → List ℕ) (calls : List Call) → Each IsNear calls → ContentsAgree content calls → ContentsAgree (of_rows content) calls
calls_agree content [] near a = tt
calls_agree content (call ∷ calls) near a = (call_agrees content call near.0 a.0, calls_agree content calls near.1 a.1)

parts_agree : (content : ℕ → ℕ → List ℕ) (ps : List Part) → Each (λ p. Each IsNear (part_calls p)) ps → AllContentsAgree content ps → AllContentsAgree (of_rows content) ps
parts_agree content [] near a = tt
parts_agree content (p ∷ ps) near a = (calls_agree content (part_calls p) near.0 a.0, parts_agree content ps near.1 a.1)

spells_agree : (content : ℕ → ℕ → List ℕ) (spells : List Spell) → Each (λ spell. Each IsNear (doings_calls spell.doings)) spells → Each (λ stint. AllContentsAgree content stint.parts) (stints_of spells)
    → Each (λ stint. AllContentsAgree (of_rows content) stint.parts) (stints_of spells)
spells_agree content [] near a = tt
spells_agree content (spell ∷ spells) near a = (parts_agree content (parts_in spell.doings) (parts_near spell.doings near.0) a.0, spells_agree content spells near.1 a.1)

-- of the parts of one session
contents_then : (content : ℕ → ℕ → List ℕ) (xs ys : List Part) → AllContentsAgree content xs → AllContentsAgree content ys → AllContentsAgree content (xs ++ ys)
contents_then content [] ys a b = b
contents_then content (x ∷ xs) ys a b = (a.0, contents_then content xs ys a.1 b)

loads_then : (flags : ℕ → ℕ → ℕ) (xs ys : List Part) → AllLoadsAgree flags xs → AllLoadsAgree flags ys → AllLoadsAgree flags (xs ++ ys)
loads_then flags [] ys a b = b
loads_then flags (x ∷ xs) ys a b = (a.0, loads_then flags xs ys a.1 b)

own_contents : (content : ℕ → ℕ → List ℕ) (session : ℕ) (stints : List Stint) → Each (λ stint. AllContentsAgree content stint.parts) stints → AllContentsAgree content (parts_by session stints)
own_contents content session [] a = tt
own_contents content session (stint ∷ stints) a = contents_then content (cond (stint.session == session) stint.parts []) (parts_by session stints) (at (stint.session == session)) (own_contents content session stints a.1) where
  at : (b : Bool) → AllContentsAgree content (cond b stint.parts [])
  at true = a.0
  at false = tt

own_loads : (flags : ℕ → ℕ → ℕ) (session : ℕ) (stints : List Stint) → Each (λ stint. AllLoadsAgree flags stint.parts) stints → AllLoadsAgree flags (parts_by session stints)
own_loads flags session [] a = tt
own_loads flags session (stint ∷ stints) a = loads_then flags (cond (stint.session == session) stint.parts []) (parts_by session stints) (at (stint.session == session)) (own_loads flags session stints a.1) where
  at : (b : Bool) → AllLoadsAgree flags (cond b stint.parts [])
  at true = a.0
  at false = tt

-- each action does what the fold asks of its label
is_asked : (setting : Setting) (change : Label → Change) (given : Given) (labels : List Label) (content : ℕ → ℕ → List ℕ) (spells : List Spell) → given.info_words ≡ words_at setting change labels
    → AreDone (stints_of spells) → AreFolded setting change spells → Each (λ stint. AllContentsAgree content stint.parts) (stints_of spells)
    → AreNumbered (length labels) (all_numbers (stints_of spells)) → Each (KnownActing setting change labels) (all_actings (stints_of spells))
    → IsAsked (record { asked = asked_at setting change labels; rooms = rooms_at setting change labels; answers = answers_at setting change labels; counted = counted_by content (all_taken (stints_of spells)) })
    given content (entries_of spells)
is_asked setting change given labels content spells info are_done folded agree numbers known =
    let stints : List Stint = stints_of spells in
    let words = words_are setting change labels stints numbers known in
    let all : IsAsked (orders_of content stints) given content (entries_of spells) =
    asked_whole given content stints (info ∙ sym words) (spells_seated setting change spells folded are_done) agree (unique (length labels) stints numbers) in
    let counted : ℕ → ℕ → Bool = counted_by content (all_taken stints) in
    subst (λ z. IsAsked (record { asked = z; rooms = rooms_at setting change labels; answers = answers_at setting change labels; counted = counted }) given content (entries_of spells))
    (asked_are setting change labels stints numbers known)
    (subst (λ z. IsAsked (record { asked = (orders_of content stints).asked; rooms = z; answers = answers_at setting change labels; counted = counted }) given content (entries_of spells))
    (rooms_are setting change labels stints numbers known)
    (subst (λ z. IsAsked (record { asked = (orders_of content stints).asked; rooms = (orders_of content stints).rooms; answers = z; counted = counted }) given content (entries_of spells))
    (answers_are setting change labels stints numbers known) all))

pub ruled : MergeIsMonoid → ToldLaw → ChainedLaw → AgreedLaw → OrderedLaw → RisingLaw → ThereLaw → LabelledLaw → RuledLaw
ruled m told chained agreed ordered rising there labelled = λ setting change facts depths spells last are shared near single low folded first given_facts.
    (let stack : ℕ = setting.limits.statement_stack in
    let flags : List ℕ = opening_flags setting opening_objects in
    let stints : List Stint = stints_of spells in
    let all : List Placed = entries_of spells in
    let labels : List Label = (shared last).labels in
    let content : ℕ → ℕ → List ℕ = of_rows (shared last).content in
    let are_done : AreDone stints = done stack depths stints are.stints in
    let lined = all_lined stack depths spells are.stints are.entered in
    let nears = each_near spells near in
    let chains : HaveChains spells = chained flags stack depths spells are.stints shared in
    let agree : HaveAgreed flags stack last spells shared = agreed flags stack depths spells last are.stints shared low in
    let order : HaveOrder spells = ordered flags stack depths spells last are shared near low in
    let names : AreLabels labels all = labelled flags stack depths spells last are shared near low labels refl (named_all flags stack depths spells last are shared low) in
    let numbers : AreNumbered (length labels) (all_numbers stints) = numbered told stack depths spells last (length labels) are near low agree.journals.shaped (order.numbers last) names.few in
    let known = spells_known setting change labels none_made spells folded lined (among flags stack depths spells last are shared low) in
    let each : Each (λ stint. AllContentsAgree content stint.parts) stints = spells_agree (shared last).content spells nears agree.contents in
    let terms : Terms = terms_of setting change facts labels in
    let given : Given = given_by terms (journals_of spells) in
    let asked = is_asked setting change given labels content spells refl are_done folded each numbers known in
    let whole = λ (session : ℕ). parts_whole m (flags_by terms all) (slot_in (journals_of spells)) facts content stack depths session stints are.stints
    (own_loads (flags_by terms all) session stints agree.loads) (all_placed session empty none_made spells refl are_done lined first) (given_facts session) (own_contents content session stints each) in
    record {
      labelled = names;
      rules = record {
        shaped = agree.journals.shaped;
        rows = chains.rows;
        words = chains.words;
        ordered = record { numbers = order.numbers; rising = rising flags stack depths spells last are shared single low; deeds = order.deeds; sets = order.sets };
        there = there stack depths spells are.stints near;
        judged = agree.journals.judged;
        numbered = agree.journals.numbered;
        answered = asked.answered;
        done = asked.done;
        found = asked.found;
        contents = record {
          opens = rows_open (shared last).content (shared last).joint.opens;
          made = contents.all given content all asked.made (contents.by_all given content all (λ session. (whole session).added))
              (contents.put_by_all given content all (λ session. (whole session).put));
        };
      };
    })
