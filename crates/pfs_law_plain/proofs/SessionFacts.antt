-- From single lines to all lines of a session, through its phases.
use Rattle.std.proofs.Common.{ℕ, ◌≡◌, ◌+◌, ◌%◌, ◌^◌, ◌==◌, Bool, true, false, cond, List, [], ◌∷◌, ◌++◌, refl, ap, sym, ◌∙◌, subst, append_assoc, arith}
use Rattle.std.proofs.Math.Nat.{mod-add-mod}
use Rattle.std.proofs.lemmas.List.{append-nil, map-append}
use Rattle.pfs_admin.specs.AdministrationStates.{State as Administration}
use Rattle.pfs_admin.specs.declared.changes.SetupStatement.{SetupStatement}
use Rattle.pfs_admin.specs.declared.changes.SetupStatement.TheVariants as statements
use Rattle.pfs_event.specs.declared.kind.EventKind.{EventKind}
use Rattle.pfs_model.specs.Contents.{Facts}
use Rattle.pfs_law_session.proofs.Stints.{IfOwn, AreOwn, own_stints}
use Rattle.pfs_law_session.specs.Amounts.{Clocked, at_first, stepped, all_stepped, AreFacts, AllFacts, clock_behind}
use Rattle.pfs_law_session.specs.Deeds.{Deed, Connecting, Starting, Staging, StageEnding, Ending, Spending, Quitting, Truncating, Changing, Showing, Querying, Refusing, Closing, Part, IsPart, looks, remark, steps_for}
use Rattle.pfs_rows.specs.declared.table.Reading.{Reading}
use Rattle.pfs_law_session.specs.JournalLaws.{AreParts, state_behind, over_behind}
use Rattle.pfs_law_session.specs.Stints.{Stint, resumed, parts_by}
use Rattle.pfs_exec.specs.Requests.{request_of}
use Rattle.pfs_exec.specs.declared.requests.Request.{Request}
use Rattle.pfs_exec.specs.declared.requests.Request.TheVariants as requests
use Rattle.pfs_runs.specs.ScriptLines.{stage_on}
use Rattle.pfs_script.specs.declared.blocks.BlockLine.{BlockLine}
use Rattle.pfs_script.specs.declared.blocks.BlockLine.TheVariants as said
use Rattle.pfs_script.specs.Brackets.{open_in, kinds_of, kinds_behind}
use Rattle.pfs_script.specs.EventRules.{AreEvents}
use Rattle.pfs_script.specs.Events.{Event}
use Rattle.pfs_script.specs.Marks.{Mark, mark_of}
use Rattle.pfs_script.proofs.MarkNests.{open_is_run, kinds_more}
use Rattle.pfs_session.specs.SessionStates.{State, fresh}
use Rattle.pfs_session.specs.declared.remarks.Remark.TheVariants.{Refused, Rows}
use Rattle.pfs_rows.specs.declared.truncations.Truncation.{Truncation}
use Rattle.pfs_session.specs.Ends.{no_numbers}
use Rattle.pfs_session.specs.Turns.{Step, StartsEvent, EndsEvent, Spends, SettlesHeld, Connects, Quits, Truncates, Changes, state_after, steps_of}
use Rattle.pfs_law_plain.specs.LineDeeds.{IsLine, IsNext, AreDeeds, bare, deed_on, sql_deed, SessionLaw}
use Rattle.pfs_law_plain.specs.LineSteps.{numbers_in, steps_on}
use Rattle.pfs_law_plain.specs.Tracks.{marks_of, Tracks, IsTold}
use Rattle.pfs_law_plain.specs.LineSteps.{kinds_at}
use Rattle.pfs_law_plain.proofs.OpenKinds.{line_kinds, kinds_bare, kinds_stepped, all_kinds_stepped, kinds_turns, stage_ends_are}
use Rattle.pfs_law_plain.proofs.LineFacts.{facts_by, first, line_law}

-- steps that tell what those of the line tell: they are those, or start and end nothing and let no time pass
record Same (clocked : Clocked) (kinds : List EventKind) (steps told : List Step) : Type 0 where
  facts : (facts : ℕ → Facts) → AreFacts facts clocked told → AreFacts facts clocked steps
  behind : all_stepped clocked steps ≡ all_stepped clocked told
  open_there : all_kinds_stepped kinds steps ≡ all_kinds_stepped kinds told

same_if : (clocked : Clocked) (kinds : List EventKind) (steps told : List Step) → steps ≡ told → Same clocked kinds steps told
same_if clocked kinds steps told e = subst (λ (z : List Step). Same clocked kinds z told) (sym e) (record { facts = λ facts are. are; behind = refl; open_there = refl })

-- no time passes at a clock that is one
no_time : (clocked : Clocked) (passed : ℕ) → clocked.clock ≡ passed % 2 ^ 64 → stepped clocked (Spends 0) ≡ clocked
no_time clocked passed e =
    let same : (clocked.clock + 0) % 2 ^ 64 ≡ clocked.clock =
    ap (λ n. (n + 0) % 2 ^ 64) e ∙ (mod-add-mod passed (2 ^ 64) 0 ∙ (ap (λ n. n % 2 ^ 64) (omega arith) ∙ sym e)) in
    λ i. record { clock = same i; begun = clocked.begun; going = clocked.going }

same_still : (clocked : Clocked) (kinds : List EventKind) (passed : ℕ) → clocked.clock ≡ passed % 2 ^ 64 → Same clocked kinds (Spends 0 ∷ []) []
same_still clocked kinds passed e = record { facts = λ facts are. (tt, tt); behind = no_time clocked passed e; open_there = refl }

same_quit : (clocked : Clocked) (kinds : List EventKind) (admin : Administration) → Same clocked kinds (SettlesHeld ∷ Quits admin ∷ []) []
same_quit clocked kinds admin = record { facts = λ facts are. (tt, (tt, tt)); behind = refl; open_there = refl }

same_truncation : (clocked : Clocked) (kinds : List EventKind) (admin : Administration) (what : Truncation) → Same clocked kinds (SettlesHeld ∷ Truncates admin what ∷ []) []
same_truncation clocked kinds admin what = record { facts = λ facts are. (tt, (tt, tt)); behind = refl; open_there = refl }

same_change : (clocked : Clocked) (kinds : List EventKind) (admin : Administration) (what : SetupStatement) → Same clocked kinds (SettlesHeld ∷ Changes admin what ∷ []) []
same_change clocked kinds admin what = record { facts = λ facts are. (tt, (tt, tt)); behind = refl; open_there = refl }

same_refusal : (clocked : Clocked) (kinds : List EventKind) (error : ℕ) → Same clocked kinds (remark (Refused error) ∷ []) []
same_refusal clocked kinds error = record { facts = λ facts are. (tt, tt); behind = refl; open_there = refl }

-- a deed's steps are those of its line
same_steps : (s : State) (clocked : Clocked) (passed : ℕ) → clocked.clock ≡ passed % 2 ^ 64 → (admin : Administration) (line : BlockLine)
    → Same clocked (kinds_at s) (steps_for s (deed_on admin line)) (steps_on (kinds_at s) line)
same_steps s clocked passed e admin (said.Wait class) = same_if clocked (kinds_at s) _ _ refl
same_steps s clocked passed e admin (said.TableWait class table) = same_if clocked (kinds_at s) _ _ refl
same_steps s clocked passed e admin (said.Statement class digest) = same_if clocked (kinds_at s) _ _ refl
same_steps s clocked passed e admin (said.Transaction access) = same_if clocked (kinds_at s) _ _ refl
same_steps s clocked passed e admin (said.Stage class) = same_if clocked (kinds_at s) _ _ (ap (λ (z : List Step). z ++ StartsEvent (stage_on class) ∷ []) (stage_ends_are s.opened.events))
same_steps s clocked passed e admin said.StageEnd = same_if clocked (kinds_at s) _ _ (append-nil _ ∙ stage_ends_are s.opened.events)
same_steps s clocked passed e admin (said.Spend time) = same_if clocked (kinds_at s) _ _ refl
same_steps s clocked passed e admin said.End = same_if clocked (kinds_at s) _ _ (ap (λ (z : List Step). z ++ EndsEvent no_numbers ∷ []) (stage_ends_are s.opened.events))
same_steps s clocked passed e admin (said.EndStatement numbers) = same_if clocked (kinds_at s) _ _ (ap (λ (z : List Step). z ++ EndsEvent (numbers_in numbers) ∷ []) (stage_ends_are s.opened.events))
same_steps s clocked passed e admin said.Quit = same_quit clocked (kinds_at s) admin
same_steps s clocked passed e admin (said.Sql text) = by_text (request_of text) where
  by_text : (what : Request) → Same clocked (kinds_at s) (steps_for s (sql_deed admin what)) []
  by_text (requests.Refused error) = same_refusal clocked (kinds_at s) error
  by_text (requests.Query select) = record { facts = λ facts are. (tt, (tt, tt)); behind = refl; open_there = refl }
  by_text (requests.Show select) = record { facts = λ facts are. (tt, (tt, (tt, tt))); behind = refl; open_there = refl }
  by_text (requests.Truncate what) = same_truncation clocked (kinds_at s) admin what
  by_text (requests.Update update) = same_change clocked (kinds_at s) admin (statements.Update update)
  by_text (requests.Insert insert) = same_change clocked (kinds_at s) admin (statements.Insert insert)
  by_text (requests.Delete delete) = same_change clocked (kinds_at s) admin (statements.Delete delete)
same_steps s clocked passed e admin (said.Repeat times) = same_still clocked (kinds_at s) passed e
same_steps s clocked passed e admin said.Done = same_still clocked (kinds_at s) passed e

-- and so where it reads and shows besides: that starts and ends nothing, and lets no time pass
facts_looked : (facts : ℕ → Facts) (clocked : Clocked) (readings : List Reading) (steps : List Step) → AreFacts facts clocked steps → AreFacts facts clocked (looks readings ++ steps)
facts_looked facts clocked [] steps are = are
facts_looked facts clocked (reading ∷ readings) steps are = (tt, facts_looked facts clocked readings steps are)

stepped_looked : (clocked : Clocked) (readings : List Reading) (steps : List Step) → all_stepped clocked (looks readings ++ steps) ≡ all_stepped clocked steps
stepped_looked clocked [] steps = refl
stepped_looked clocked (reading ∷ readings) steps = stepped_looked clocked readings steps

same_bare : (s : State) (clocked : Clocked) (deed : Deed) (told : List Step) → Same clocked (kinds_at s) (steps_for s (bare deed)) told → Same clocked (kinds_at s) (steps_for s deed) told
same_bare s clocked (Connecting admin user host) told same = same
same_bare s clocked (Starting subject) told same = same
same_bare s clocked (Staging subject) told same = same
same_bare s clocked StageEnding told same = same
same_bare s clocked (Ending numbers) told same = same
same_bare s clocked (Spending time) told same = same
same_bare s clocked (Quitting admin) told same = same
same_bare s clocked (Truncating admin what) told same = same
same_bare s clocked (Changing admin what) told same = same
same_bare s clocked (Showing admin count) told same =
    record { facts = λ facts are. same.facts facts are; behind = same.behind; open_there = same.open_there }
same_bare s clocked (Querying readings count) told same = record {
  facts = λ facts are. (tt, facts_looked facts clocked readings (remark (Rows count) ∷ []) (tt, tt));
  behind = stepped_looked clocked readings (remark (Rows count) ∷ []) ∙ same.behind;
  open_there = kinds_bare (kinds_at s) s (Querying readings count) ∙ same.open_there;
}
same_bare s clocked (Refusing error) told same = same
same_bare s clocked Closing told same = same

-- a session stands behind lines, and what its steps have told of it
record Stands (done : List BlockLine) (clocked : Clocked) (s : State) : Type 0 where
  tracks : Tracks done clocked
  kinds : kinds_at s ≡ kinds_of (open_in (marks_of done))

-- a line more: what its part tells, and how it leaves the session
record Goes (events : List Event) (done : List BlockLine) (clocked : Clocked) (s : State) (p : Part) : Type 0 where
  facts : AreFacts (facts_by events) clocked (steps_of p.turns)
  stands : Stands done (all_stepped clocked (steps_of p.turns)) (state_after s p.turns)

part_goes : (events : List Event) (done : List BlockLine) (line : BlockLine) (more : List BlockLine) (clocked : Clocked) (s : State) (p : Part)
    → AreEvents (done ++ line ∷ more) events → Stands done clocked s → IsPart s p → IsLine line p.deed → Goes events (done ++ line ∷ []) clocked s p
part_goes events done line more clocked s p are stands is said_there =
    let told : IsTold events done line clocked = line_law events done line more clocked are stands.tracks in
    let asked : Same clocked (kinds_at s) (steps_for s (bare p.deed)) (steps_on (kinds_at s) line) =
    subst (λ (deed : Deed). Same clocked (kinds_at s) (steps_for s deed) (steps_on (kinds_at s) line)) (sym said_there.is) (same_steps s clocked _ stands.tracks.clock said_there.admin line) in
    let same : Same clocked (kinds_at s) (steps_of p.turns) (steps_on (kinds_at s) line) =
    subst (λ (z : List Step). Same clocked (kinds_at s) z (steps_on (kinds_at s) line)) (sym is.steps_are) (same_bare s clocked p.deed _ asked) in
    let on : steps_on (kinds_at s) line ≡ steps_on (kinds_of (open_in (marks_of done))) line = ap (λ (kinds : List EventKind). steps_on kinds line) stands.kinds in
    let marks : marks_of (done ++ line ∷ []) ≡ marks_of done ++ mark_of line ∷ [] = map-append mark_of done (line ∷ []) in
    record {
      facts = same.facts (facts_by events) (subst (λ (z : List Step). AreFacts (facts_by events) clocked z) (sym on) told.facts);
      stands = record {
        tracks = subst (Tracks (done ++ line ∷ [])) (sym (same.behind ∙ ap (λ (z : List Step). all_stepped clocked z) on)) told.tracks;
        kinds = kinds_turns s p.turns is.are_turns ∙ (same.open_there ∙ (line_kinds (kinds_at s) line
            ∙ (ap (λ (kinds : List EventKind). kinds_behind (mark_of line) kinds) stands.kinds ∙ (sym (kinds_more (marks_of done) (mark_of line)) ∙ ap (λ (z : List Mark). kinds_of (open_in z)) (sym marks)))));
      };
    }

-- a connect and the end of a block tell nothing
quiet_goes : (events : List Event) (done : List BlockLine) (clocked : Clocked) (s : State) (p : Part) (step : Step) → Stands done clocked s → IsPart s p → steps_for s p.deed ≡ step ∷ []
    → AreFacts (facts_by events) clocked (step ∷ []) → stepped clocked step ≡ clocked → kinds_stepped (kinds_at s) step ≡ kinds_at s → Goes events done clocked s p
quiet_goes events done clocked s p step stands is steps facts still kinds =
    let steps_are : steps_of p.turns ≡ step ∷ [] = is.steps_are ∙ steps in
    record {
      facts = subst (λ (z : List Step). AreFacts (facts_by events) clocked z) (sym steps_are) facts;
      stands = record {
        tracks = subst (Tracks done) (sym (ap (λ (z : List Step). all_stepped clocked z) steps_are ∙ still)) stands.tracks;
        kinds = kinds_turns s p.turns is.are_turns ∙ (ap (λ (z : List Step). all_kinds_stepped (kinds_at s) z) steps_are ∙ (kinds ∙ stands.kinds));
      };
    }

-- parts one after another
record GoAll (events : List Event) (lines : List BlockLine) (clocked : Clocked) (s : State) (parts : List Part) (rest : List Part) : Type 0 where
  done : List BlockLine
  left : List BlockLine
  whole : lines ≡ done ++ left
  are_deeds : AreDeeds left rest
  facts : AllFacts (facts_by events) clocked parts
  stands : Stands done (clock_behind clocked parts) (state_behind s parts)

quiet_first : (events : List Event) (lines done left : List BlockLine) (clocked : Clocked) (s : State) (p : Part) (ps rest : List Part) → Goes events done clocked s p
    → GoAll events lines (all_stepped clocked (steps_of p.turns)) (state_after s p.turns) ps rest → GoAll events lines clocked s (p ∷ ps) rest
quiet_first events lines done left clocked s p ps rest here later = record {
  done = later.done;
  left = later.left;
  whole = later.whole;
  are_deeds = later.are_deeds;
  facts = (here.facts, later.facts);
  stands = later.stands;
}

-- what the next part does
abbrev Later : List Event → List BlockLine → Clocked → State → Part → List Part → List Part → Type 0
Later events lines clocked s p ps rest =
    (done left : List BlockLine) → lines ≡ done ++ left → Stands done (all_stepped clocked (steps_of p.turns)) (state_after s p.turns) → AreDeeds left (ps ++ rest)
    → GoAll events lines (all_stepped clocked (steps_of p.turns)) (state_after s p.turns) ps rest

line_next : (events : List Event) (lines done left : List BlockLine) (clocked : Clocked) (s : State) (p : Part) (ps rest : List Part) → AreEvents lines events → lines ≡ done ++ left → Stands done clocked s → IsPart s p
    → Later events lines clocked s p ps rest → (line : BlockLine) (more : List BlockLine) → left ≡ line ∷ more → IsLine line p.deed → AreDeeds more (ps ++ rest) → GoAll events lines clocked s (p ∷ ps) rest
line_next events lines done left clocked s p ps rest are whole stands is later line more e one deeds =
    let split : lines ≡ done ++ line ∷ more = whole ∙ ap (λ (z : List BlockLine). done ++ z) e in
    let here : Goes events (done ++ line ∷ []) clocked s p = part_goes events done line more clocked s p (subst (λ (z : List BlockLine). AreEvents z events) split are) stands is one in
    quiet_first events lines (done ++ line ∷ []) more clocked s p ps rest here
    (later (done ++ line ∷ []) more (split ∙ sym (append_assoc done (line ∷ []) more)) here.stands deeds)

any_next : (events : List Event) (lines done left : List BlockLine) (clocked : Clocked) (s : State) (p : Part) (ps rest : List Part) → AreEvents lines events → lines ≡ done ++ left → Stands done clocked s → IsPart s p
    → Later events lines clocked s p ps rest → (deed : Deed) → p.deed ≡ deed → IsNext left deed (λ z. AreDeeds z (ps ++ rest)) → GoAll events lines clocked s (p ∷ ps) rest
any_next events lines done left clocked s p ps rest are whole stands is later (Connecting admin user host) e next =
    let here = quiet_goes events done clocked s p (Connects admin user host) stands is (ap (λ (deed : Deed). steps_for s deed) e) (tt, tt) refl refl in
    quiet_first events lines done left clocked s p ps rest here (later done left whole here.stands next)
any_next events lines done left clocked s p ps rest are whole stands is later Closing e next =
    let here = quiet_goes events done clocked s p SettlesHeld stands is (ap (λ (deed : Deed). steps_for s deed) e) (tt, tt) refl refl in
    quiet_first events lines done left clocked s p ps rest here (later done left whole here.stands next)
any_next events lines done [] clocked s p ps rest are whole stands is later (Starting subject) e next = absurd next
any_next events lines done (line ∷ more) clocked s p ps rest are whole stands is later (Starting subject) e next =
    line_next events lines done (line ∷ more) clocked s p ps rest are whole stands is later line more refl (subst (IsLine line) (sym e) next.0) next.1
any_next events lines done [] clocked s p ps rest are whole stands is later (Staging subject) e next = absurd next
any_next events lines done (line ∷ more) clocked s p ps rest are whole stands is later (Staging subject) e next =
    line_next events lines done (line ∷ more) clocked s p ps rest are whole stands is later line more refl (subst (IsLine line) (sym e) next.0) next.1
any_next events lines done [] clocked s p ps rest are whole stands is later StageEnding e next = absurd next
any_next events lines done (line ∷ more) clocked s p ps rest are whole stands is later StageEnding e next =
    line_next events lines done (line ∷ more) clocked s p ps rest are whole stands is later line more refl (subst (IsLine line) (sym e) next.0) next.1
any_next events lines done [] clocked s p ps rest are whole stands is later (Ending numbers) e next = absurd next
any_next events lines done (line ∷ more) clocked s p ps rest are whole stands is later (Ending numbers) e next =
    line_next events lines done (line ∷ more) clocked s p ps rest are whole stands is later line more refl (subst (IsLine line) (sym e) next.0) next.1
any_next events lines done [] clocked s p ps rest are whole stands is later (Spending time) e next = absurd next
any_next events lines done (line ∷ more) clocked s p ps rest are whole stands is later (Spending time) e next =
    line_next events lines done (line ∷ more) clocked s p ps rest are whole stands is later line more refl (subst (IsLine line) (sym e) next.0) next.1
any_next events lines done [] clocked s p ps rest are whole stands is later (Truncating admin what) e next = absurd next
any_next events lines done (line ∷ more) clocked s p ps rest are whole stands is later (Truncating admin what) e next =
    line_next events lines done (line ∷ more) clocked s p ps rest are whole stands is later line more refl (subst (IsLine line) (sym e) next.0) next.1
any_next events lines done [] clocked s p ps rest are whole stands is later (Changing admin what) e next = absurd next
any_next events lines done (line ∷ more) clocked s p ps rest are whole stands is later (Changing admin what) e next =
    line_next events lines done (line ∷ more) clocked s p ps rest are whole stands is later line more refl (subst (IsLine line) (sym e) next.0) next.1
any_next events lines done [] clocked s p ps rest are whole stands is later (Showing admin count) e next = absurd next
any_next events lines done (line ∷ more) clocked s p ps rest are whole stands is later (Showing admin count) e next =
    line_next events lines done (line ∷ more) clocked s p ps rest are whole stands is later line more refl (subst (IsLine line) (sym e) next.0) next.1
any_next events lines done [] clocked s p ps rest are whole stands is later (Querying readings count) e next = absurd next
any_next events lines done (line ∷ more) clocked s p ps rest are whole stands is later (Querying readings count) e next =
    line_next events lines done (line ∷ more) clocked s p ps rest are whole stands is later line more refl (subst (IsLine line) (sym e) next.0) next.1
any_next events lines done [] clocked s p ps rest are whole stands is later (Refusing error) e next = absurd next
any_next events lines done (line ∷ more) clocked s p ps rest are whole stands is later (Refusing error) e next =
    line_next events lines done (line ∷ more) clocked s p ps rest are whole stands is later line more refl (subst (IsLine line) (sym e) next.0) next.1
any_next events lines done [] clocked s p ps rest are whole stands is later (Quitting admin) e next = absurd next
any_next events lines done (line ∷ more) clocked s p ps rest are whole stands is later (Quitting admin) e next =
    line_next events lines done (line ∷ more) clocked s p ps rest are whole stands is later line more refl (subst (IsLine line) (sym e) next.0) next.1

go_all : (events : List Event) (lines done left : List BlockLine) (clocked : Clocked) (s : State) (parts rest : List Part) → AreEvents lines events → lines ≡ done ++ left → Stands done clocked s → AreParts s parts
    → AreDeeds left (parts ++ rest) → GoAll events lines clocked s parts rest
go_all events lines done left clocked s [] rest are whole stands is deeds = record { done = done; left = left; whole = whole; are_deeds = deeds; facts = tt; stands = stands }
go_all events lines done left clocked s (p ∷ ps) rest are whole stands is deeds =
    any_next events lines done left clocked s p ps rest are whole stands is.0
    (λ done_there left_there whole_there stands_there deeds_there. go_all events lines done_there left_there (all_stepped clocked (steps_of p.turns)) (state_after s p.turns) ps rest are whole_there stands_there is.1 deeds_there)
    p.deed refl deeds

facts_then : (facts : ℕ → Facts) (clocked : Clocked) (xs ys : List Part) → AllFacts facts clocked xs → AllFacts facts (clock_behind clocked xs) ys → AllFacts facts clocked (xs ++ ys)
facts_then facts clocked [] ys these those = those
facts_then facts clocked (x ∷ xs) ys these those = (these.0, facts_then facts (all_stepped clocked (steps_of x.turns)) xs ys these.1 those)

through : (session : ℕ) (events : List Event) (lines done left : List BlockLine) (over : Bool) (clocked : Clocked) (s : State) (stints : List Stint) → AreEvents lines events → lines ≡ done ++ left
    → Stands done clocked s → AreOwn session over s stints → AreDeeds left (parts_by session stints) → AllFacts (facts_by events) clocked (parts_by session stints)
through session events lines done left over clocked s [] are whole stands own deeds = tt
through session events lines done left over clocked s (stint ∷ stints) are whole stands own deeds =
    at (stint.session == session) (λ done left over clocked s whole stands own deeds. through session events lines done left over clocked s stints are whole stands own deeds) own deeds
  where
    at : (b : Bool)
        → ((done left : List BlockLine) (over : Bool) (clocked : Clocked) (s : State) → lines ≡ done ++ left → Stands done clocked s → AreOwn session over s stints → AreDeeds left (parts_by session stints) → AllFacts (facts_by events) clocked (parts_by session stints))
        → IfOwn b over s stint.parts × AreOwn session (cond b (over_behind over stint.parts) over) (cond b (resumed (state_behind s stint.parts)) s) stints
        → AreDeeds left (cond b stint.parts [] ++ parts_by session stints) → AllFacts (facts_by events) clocked (cond b stint.parts [] ++ parts_by session stints)
    at true rest own deeds =
        let all : GoAll events lines clocked s stint.parts (parts_by session stints) = go_all events lines done left clocked s stint.parts (parts_by session stints) are whole stands own.0.are_parts deeds in
        let stands_there : Stands all.done (clock_behind clocked stint.parts) (resumed (state_behind s stint.parts)) = record { tracks = all.stands.tracks; kinds = all.stands.kinds } in
        facts_then (facts_by events) clocked stint.parts (parts_by session stints) all.facts
        (rest all.done all.left (over_behind over stint.parts) (clock_behind clocked stint.parts) (resumed (state_behind s stint.parts)) all.whole stands_there own.1 all.are_deeds)
    at false rest own deeds = rest done left over clocked s whole stands own.1 deeds

pub session_law : SessionLaw
session_law = λ stack depths session stints lines events are events_are deeds.
    through session events lines [] lines false at_first (fresh session stack (depths session)) stints events_are refl
    (record { tracks = first; kinds = sym (ap kinds_of (open_is_run [])) }) (own_stints stack depths session [] 0 stints are) deeds
