-- Sessions one after another keep the rules of a run: the law.
use Rattle.std.proofs.Common.{ℕ, ◌≡◌, Bool, List, [], length, refl, sym, ◌∙◌, subst}
use Rattle.pfs_admin.specs.OpeningState.{opening_flags}
use Rattle.pfs_admin.specs.declared.changes.Change.{Change}
use Rattle.pfs_law_plain.proofs.PlainJournals.{alone, AreTogether, together}
use Rattle.pfs_law_plain.specs.PlainJournals.{IsAlone}
use Rattle.pfs_law_plain.specs.Spells.{Spell, AreSpells, stints_of, calls_of}
use Rattle.pfs_law_session.proofs.RunContents.{contents}
use Rattle.pfs_law_session.proofs.Orders.{whole as asked_whole}
use Rattle.pfs_law_session.specs.AllActions.{IsAsked}
use Rattle.pfs_law_session.specs.Takes.{all_taken, counted_by}
use Rattle.pfs_law_session.specs.Orders.{Acting, all_actings, orders_of}
use Rattle.pfs_board.specs.declared.view.Label.{Label}
use Rattle.pfs_classes.specs.declared.setting.Setting.{Setting}
use Rattle.pfs_levels.specs.PlainStore.{AllAnswer, ops_of}
use Rattle.pfs_matching.specs.ObjectRules.{opening_objects}
use Rattle.pfs_model.specs.Chains.{Each}
use Rattle.pfs_model.specs.Contents.{Given}
use Rattle.pfs_model.specs.Contexts.{fresh as empty}
use Rattle.pfs_model.specs.EntryPlaces.{Placed}
use Rattle.pfs_law_session.proofs.Stints.{done}
use Rattle.pfs_law_session.proofs.SessionPhases.{whole as parts_whole}
use Rattle.pfs_law_session.specs.Stints.{Stint, AreDone}
use Rattle.pfs_runs.specs.Labels.{AreLabels, asked_at, rooms_at, answers_at, words_at, terms_of}
use Rattle.pfs_runs.specs.Rules.{Terms, AreRules, flags_by, slot_in, given_by}
use Rattle.pfs_stat.specs.Stat.{MergeIsMonoid}
use Rattle.pfs_law_plain.specs.ActionFolds.{AreFolded}
use Rattle.pfs_law_plain.specs.RunRules.{RuledLaw, journals_of, entries_of, labels_of, contents_of}
use Rattle.pfs_law_plain.proofs.VersionContents.{content_opens, contents_agree, own_contents, own_loads}
use Rattle.pfs_law_plain.proofs.ActionCounts.{AllLined, none_made, all_lined}
use Rattle.pfs_law_plain.proofs.EnteredLabels.{all_labels, AreAllEntered, entered}
use Rattle.pfs_law_plain.proofs.NumberedActions.{AreNumbers, unique, spells_numbers}
use Rattle.pfs_law_plain.proofs.LabelWork.{KnownActing, AllStandAmong, spells_among, spells_known}
use Rattle.pfs_law_plain.proofs.PrintedLabels.{labelled}
use Rattle.pfs_law_plain.proofs.ActionOrders.{asked_are, rooms_are, answers_are, words_are}
use Rattle.pfs_law_plain.proofs.TicketPlaces.{all_later, all_own}
use Rattle.pfs_law_plain.proofs.ConnectSlots.{all_placed}
use Rattle.pfs_law_plain.proofs.Causes.{caused, there}
use Rattle.pfs_law_plain.proofs.SessionPlaces.{spells_seated}
use Rattle.pfs_law_plain.proofs.Tickets.{risen, ticketed}

-- what the labels give, in the words of the rules
record AreOrdered (setting : Setting) (change : Label → Change) (labels : List Label) (stints : List Stint) : Type 0 where
  pub numbers : AreNumbers 0 (length labels) (all_actings stints)
  pub known : Each (KnownActing setting change labels) (all_actings stints)

-- all that holds of the labels
record HaveLabels (setting : Setting) (change : Label → Change) (spells : List Spell) : Type 0 where
  pub are_done : AreDone (stints_of spells)
  pub lined : AllLined none_made spells
  pub now : labels_of spells ≡ all_labels spells
  pub among : AllStandAmong (all_labels spells) spells
  pub ordered : AreOrdered setting change (labels_of spells) (stints_of spells)

have_labels : (setting : Setting) (change : Label → Change) (stack : ℕ) (depths : ℕ → ℕ) (flags : List ℕ) (spells : List Spell) → AreSpells stack depths spells → AllAnswer flags (calls_of spells)
    → AreFolded setting change spells → HaveLabels setting change spells
have_labels setting change stack depths flags spells are answers folded =
    let are_done : AreDone (stints_of spells) = done stack depths (stints_of spells) are.stints in
    let lined : AllLined none_made spells = all_lined stack depths spells are.stints are.entered in
    let e : AreAllEntered spells = entered flags spells are_done answers in
    let among : AllStandAmong (all_labels spells) spells = spells_among (all_labels spells) [] spells refl e.behind in
    record {
      are_done = are_done;
      lined = lined;
      now = e.labels;
      among = among;
      ordered = subst (λ z. AreOrdered setting change z (stints_of spells)) (sym e.labels) (record {
        numbers = spells_numbers none_made [] spells lined e.behind;
        known = spells_known setting change (all_labels spells) none_made spells folded lined among;
      });
    }

is_asked : (setting : Setting) (change : Label → Change) (given : Given) (flags : List ℕ) (spells : List Spell) → given.info_words ≡ words_at setting change (labels_of spells) → HaveLabels setting change spells
    → AreFolded setting change spells → AllAnswer flags (calls_of spells)
    → IsAsked (record { asked = asked_at setting change (labels_of spells); rooms = rooms_at setting change (labels_of spells); answers = answers_at setting change (labels_of spells); counted = counted_by (contents_of spells) (all_taken (stints_of spells)) })
    given (contents_of spells) (entries_of spells)
is_asked setting change given flags spells info has folded answers =
    let stints : List Stint = stints_of spells in
    let labels : List Label = labels_of spells in
    let ones : List Acting = all_actings stints in
    let o : AreOrdered setting change labels stints = has.ordered in
    let words = words_are setting change labels ones o.numbers o.known in
    let all : IsAsked (orders_of (contents_of spells) stints) given (contents_of spells) (entries_of spells) =
    asked_whole given (contents_of spells) stints (info ∙ sym words) (spells_seated setting change spells folded has.are_done) (contents_agree flags spells answers) (unique 0 (length labels) stints o.numbers) in
    let counted : ℕ → ℕ → Bool = counted_by (contents_of spells) (all_taken stints) in
    subst (λ z. IsAsked (record { asked = z; rooms = rooms_at setting change labels; answers = answers_at setting change labels; counted = counted }) given (contents_of spells) (entries_of spells))
    (asked_are setting change labels ones o.numbers o.known)
    (subst (λ z. IsAsked (record { asked = (orders_of (contents_of spells) stints).asked; rooms = z; answers = answers_at setting change labels; counted = counted }) given (contents_of spells) (entries_of spells))
    (rooms_are setting change labels ones o.numbers o.known)
    (subst (λ z. IsAsked (record { asked = (orders_of (contents_of spells) stints).asked; rooms = (orders_of (contents_of spells) stints).rooms; answers = z; counted = counted }) given (contents_of spells) (entries_of spells))
    (answers_are setting change labels ones o.numbers o.known) all))

pub ruled : MergeIsMonoid → RuledLaw
ruled m = λ setting change facts depths spells are answers folded first given_facts.
    (let flags : List ℕ = opening_flags setting opening_objects in
    let stints : List Stint = stints_of spells in
    let all : List Placed = entries_of spells in
    let labels : List Label = labels_of spells in
    let content : ℕ → ℕ → List ℕ = contents_of spells in
    let has : HaveLabels setting change spells = have_labels setting change setting.limits.statement_stack depths flags spells are answers folded in
    let t : AreTogether flags spells = together flags setting.limits.statement_stack depths spells are answers in
    let a : IsAlone setting.limits.statement_stack flags stints = alone flags setting.limits.statement_stack depths spells are answers in
    let rules : AreRules (terms_of setting change facts labels) (counted_by content (all_taken stints)) content (journals_of spells) =
    (let terms : Terms = terms_of setting change facts labels in
    let given : Given = given_by terms (journals_of spells) in
    let asked = is_asked setting change given flags spells refl has folded answers in
    let each = contents_agree flags spells answers in
    let whole = λ (session : ℕ). parts_whole m (flags_by terms all) (slot_in (journals_of spells)) facts content setting.limits.statement_stack depths session stints are.stints
    (own_loads (flags_by terms all) session stints t.loads) (all_placed session empty none_made spells refl has.are_done has.lined first) (given_facts session) (own_contents content session stints each) in
    record {
      shaped = a.shaped;
      joint = a.alone.joint;
      there = there flags all (calls_of spells) t.quiet t.same answers;
      caused = caused (journals_of spells) a.shaped a.plain t.quiet;
      judged = a.judged;
      numbered = a.numbered;
      answered = asked.answered;
      done = asked.done;
      found = asked.found;
      contents = record {
        opens = content_opens (ops_of (calls_of spells));
        made = contents.all given content all asked.made (contents.by_all given content all (λ session. (whole session).added))
            (contents.put_by_all given content all (λ session. (whole session).put));
      };
      ticketed = λ phase kind few. ticketed 0 all a.plain (all_own stints has.are_done) (all_later setting.limits.statement_stack depths stints are.stints) phase kind;
      risen = risen all a.plain;
    }) in
    record {
      labelled = subst (λ z. AreLabels z all) (sym has.now) (labelled setting.limits.statement_stack depths spells are.stints has.are_done has.lined has.among t.same);
      rules = rules;
      plain = a.plain;
    })
