-- What sessions did at all blocks of a script, with a report that tells of it, is a run.
use Rattle.std.proofs.Common.{ℕ, ◌≡◌, ◌==◌, Bool, cond, List, [], ◌∷◌, ◌++◌, Option, eq-eqb, refl, sym, subst}
use Rattle.pfs_admin.specs.OpeningState.{opening_flags}
use Rattle.pfs_admin.specs.declared.changes.Change.{Change}
use Rattle.pfs_law_plain.proofs.PlainJournals.{AreTogether, together}
use Rattle.pfs_law_plain.specs.PlainJournals.{printed}
use Rattle.pfs_law_plain.specs.Spells.{stints_of}
use Rattle.pfs_law_plain.specs.ShownAnswers.{AnsweredLaw, IsAnsweredBy}
use Rattle.pfs_board.specs.declared.view.Label.{Label}
use Rattle.pfs_law_plain.specs.LineDeeds.{SessionLaw}
use Rattle.pfs_matching.specs.ObjectRules.{opening_objects}
use Rattle.pfs_model.specs.Chains.{Each}
use Rattle.pfs_model.specs.Contexts.{fresh as empty}
use Rattle.pfs_model.specs.EntryPlaces.{told_by, places}
use Rattle.pfs_law_session.proofs.Stints.{done}
use Rattle.pfs_law_session.specs.Amounts.{AllPlaced}
use Rattle.pfs_law_session.specs.Deeds.{Part}
use Rattle.pfs_law_session.specs.Stints.{Stint, blocks_of, parts_by}
use Rattle.pfs_law_plain.proofs.ActionCounts.{none_made, all_lined}
use Rattle.pfs_law_plain.proofs.ConnectSlots.{all_placed}
use Rattle.pfs_law_plain.specs.RunRules.{RuledLaw, IsRuled, journals_of, entries_of}
use Rattle.pfs_runs.specs.SelectAnswers.{IsAnswered}
use Rattle.pfs_runs.specs.Labels.{AreLabels, before_action, terms_of}
use Rattle.pfs_runs.specs.ScriptLines.{change_in, facts_in}
use Rattle.pfs_runs.specs.Rules.{AreRules, flags_by}
use Rattle.pfs_model.specs.Puts.{AreBrought}
use Rattle.pfs_runs.specs.Runs.{ArePhasesAnswered, AreFinal, all_blocks}
use Rattle.pfs_script.proofs.EventLemmas.{session_events}
use Rattle.pfs_script.specs.Events.{lines_for, events_for}
use Rattle.pfs_law_script.specs.WholeCourse.{FactsLaw, IsFinalBy, RunLaw, WholeLaw}
use Rattle.pfs_law_script.proofs.BlockDues.{brought}
use Rattle.pfs_law_script.proofs.SessionDeeds.{session_does}
use Rattle.pfs_law_script.proofs.JournalBlocks.{HaveJournals, have_journals}

-- the parts of each stint are among those of its session
placed_back : (slot : Option ℕ) (session : ℕ) (xs ys : List Part) → AllPlaced slot session (xs ++ ys) → AllPlaced slot session ys
placed_back slot session [] ys p = p
placed_back slot session (x ∷ xs) ys p = placed_back slot session xs ys p.1

placed_front : (slot : Option ℕ) (session : ℕ) (xs ys : List Part) → AllPlaced slot session (xs ++ ys) → AllPlaced slot session xs
placed_front slot session [] ys p = tt
placed_front slot session (x ∷ xs) ys p = (p.0, placed_front slot session xs ys p.1)

placed_each : (slots : ℕ → Option ℕ) (stints : List Stint) → ((session : ℕ) → AllPlaced (slots session) session (parts_by session stints)) → Each (λ stint. AllPlaced (slots stint.session) stint.session stint.parts) stints
placed_each slots [] placed = tt
placed_each slots (stint ∷ stints) placed = (
  placed_front (slots stint.session) stint.session stint.parts (parts_by stint.session stints)
      (subst (λ (b : Bool). AllPlaced (slots stint.session) stint.session (cond b stint.parts [] ++ parts_by stint.session stints)) (eq-eqb stint.session stint.session refl) (placed stint.session)),
  placed_each slots stints (λ session. placed_back (slots session) session (cond (stint.session == session) stint.parts []) (parts_by session stints) (placed session)),
)

-- the facts of the events of each session
pub facts_are : SessionLaw → FactsLaw
facts_are session_law = λ setting phases depths spells are blocks session.
    session_law setting.limits.statement_stack depths session (stints_of spells) (lines_for session phases) (events_for session phases) are.stints (session_events session phases)
    (session_does session 1 phases spells blocks)

-- what a plain store gives
pub whole : AnsweredLaw → RuledLaw → FactsLaw → WholeLaw
whole answered ruled facts = λ setting phases depths spells c answer.
    (let flags : List ℕ = opening_flags setting opening_objects in
    let change : Label → Change = change_in phases in
    let is : IsRuled setting change (facts_in phases) spells =
    ruled setting change (facts_in phases) depths spells c.are_spells answer c.folded c.first (facts setting phases depths spells c.are_spells c.blocks) in
    let t : AreTogether flags spells = together flags setting.limits.statement_stack depths spells c.are_spells answer in (
      record {
        labelled = is.labelled;
        rules = is.rules;
        loads = t.loads;
        shown = answered setting change (facts_in phases) depths spells c.are_spells answer c.folded;
      },
      is.plain,
    ))

-- whatever store it was
pub run_of : RunLaw
run_of = λ setting phases report depths labels counted content spells are first blocks kept told format finals.
    (let stack : ℕ = setting.limits.statement_stack in
    let change : Label → Change = change_in phases in
    let terms = terms_of setting change (facts_in phases) labels in
    let stints : List Stint = stints_of spells in
    let slots : ℕ → Option ℕ = λ session. (told_by session empty (blocks_of stints)).slot in
    let placed : (session : ℕ) → AllPlaced (slots session) session (parts_by session stints) = λ session.
    all_placed session empty none_made spells refl (done stack depths stints are.stints) (all_lined stack depths spells are.stints are.entered) first in
    let once : AreBrought (flags_by terms (entries_of spells)) (entries_of spells) =
    brought (printed (opening_flags setting opening_objects) (entries_of spells)) slots stack depths stints setting.in_range.statement_stack are.stints kept.loads (placed_each slots stints placed) in
    let h : HaveJournals (IsAnsweredBy setting change (facts_in phases) labels content spells) 1 phases report.phases spells =
    have_journals setting (IsAnsweredBy setting change (facts_in phases) labels content spells) 1 phases report.phases spells told blocks kept.shown in
    let same : journals_of spells ≡ all_blocks h.blocks = sym h.all in
    record {
      run = record {
        format = format;
        blocks = h.blocks;
        labels = labels;
        counted = counted;
        content = content;
        phases_are = h.are;
        labelled = subst (λ z. AreLabels labels (places z)) same kept.labelled;
        rules = subst (AreRules terms counted content) same kept.rules;
        brought = subst (λ z. AreBrought (flags_by terms (places z)) (places z)) same once;
        answered = subst (λ z. ArePhasesAnswered (IsAnswered setting content (flags_by terms (places z)) (before_action setting change labels)) phases report.phases h.blocks) same h.answered;
        finals = subst (λ z. AreFinal (IsFinalBy setting phases labels content (places z)) report.phases) same finals;
      };
      journals = h.all;
    })
