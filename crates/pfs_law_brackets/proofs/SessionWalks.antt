-- A session's journal, line by line and block by block, by the brackets of its lines.
use Rattle.std.proofs.Common.{ℕ, zero, suc, ◌≡◌, ◌+◌, ◌≤◌, ◌==◌, Bool, true, false, cond, List, [], ◌∷◌, ◌++◌, length, map, take, drop, filter, Option, Some, None, refl, ap, sym, ◌∙◌, subst, arith, length-append, append_assoc, append-nil}
use Rattle.std.specs.Prelude.{Ok, slice_get}
use Rattle.std.specs.List.{flat_map, range_with_len}
use Rattle.std.proofs.Math.Seq.{get_or-append_seam}
use Rattle.std.proofs.lemmas.Bool.{eqb-true}
use Rattle.std.proofs.lemmas.List.{length-map, map-append, take-append-drop}
use Rattle.pfs_event.specs.Verdicts.{is_let_through}
use Rattle.pfs_event.specs.declared.entry.Entry.{Entry}
use Rattle.pfs_event.specs.declared.kind.EventKind.{EventKind}
use Rattle.pfs_event.specs.declared.kind.EventKind.TheVariants as kinds
use Rattle.pfs_event.specs.declared.verdict.Verdict.{Verdict}
use Rattle.pfs_journal.specs.declared.blocks.BlockReport.{BlockReport}
use Rattle.pfs_journal.specs.declared.report.PhaseParts.{PhaseParts}
use Rattle.pfs_law_conservation.proofs.EntryWalk.{told_more}
use Rattle.pfs_law_conservation.specs.RunEvents.{Ended, all_ended, ended_at}
use Rattle.pfs_model.proofs.EachLists.{each_join}
use Rattle.pfs_model.specs.Chains.{Each, each_of, times}
use Rattle.pfs_model.specs.Contexts.{Context, after, fresh, noted, subject_of, turned}
use Rattle.pfs_model.specs.Cuts.{cut}
use Rattle.pfs_model.specs.EntryPlaces.{AreShapedBehind, Block, Placed, after_lines, by_session, chosen, placed_lines, placed_part, places, places_behind, told_by}
use Rattle.pfs_model.specs.EventNumbers.{AreNumbered}
use Rattle.pfs_model.specs.JournalCuts.{AreShaped}
use Rattle.pfs_model.specs.Shapes.{shape}
use Rattle.pfs_model.specs.declared.lines.Line.{Line}
use Rattle.pfs_model.specs.declared.lines.Line.TheVariants as told
use Rattle.pfs_runs.specs.PhaseFinals.{verdict_at}
use Rattle.pfs_runs.specs.Runs.{AreBlocksOf, ArePhasesOf, all_blocks}
use Rattle.pfs_runs.specs.ScriptLines.{connect_lines, line_in, lines_in}
use Rattle.pfs_script.proofs.MarkNests.{closed_by, open_is_run, open_more}
use Rattle.pfs_script.specs.Brackets.{Opening, closed_at, ended_by, kinds_of, open_in, opened_by}
use Rattle.pfs_script.specs.EventRules.{AreEvents}
use Rattle.pfs_script.specs.Events.{Event, events_for, line_at, lines_for}
use Rattle.pfs_script.specs.Events.{subject_of as said_subject}
use Rattle.pfs_script.specs.Marks.{Mark, Opens, Ends, EndsStage, Passes, mark_of, written_out}
use Rattle.pfs_script.specs.declared.blocks.Block.{Block as Said}
use Rattle.pfs_script.specs.declared.blocks.BlockLine.{BlockLine}
use Rattle.pfs_script.specs.declared.blocks.BlockLine.TheVariants as said
use Rattle.pfs_script.specs.declared.blocks.Connect.{Connect}
use Rattle.pfs_script.specs.declared.blocks.Phase.{Phase}
use Rattle.pfs_law_brackets.specs.BracketNumbers.{BracketLaw, all_begun, begun_at, line_of, lines_of, through_before}
use Rattle.pfs_law_brackets.proofs.EventLines.{ClosesAt, Matches, OpensAt, Parted, all_close, matches, opens, opens_at, opens_then, parted, through_is}
use Rattle.pfs_law_brackets.proofs.LineTags.{as_told, asked, begins, close_tags, connect_tags, line_subject, line_tags, tags}
use Rattle.pfs_law_brackets.proofs.LineWalks.{AreOpen, Does, Starts, ends_do, kinds_are, rest_does, start_does}

-- lists one behind another
each_then : {A : Type 0} (given : Entry → List A) (xs ys : List Placed) → each_of given (xs ++ ys) ≡ each_of given xs ++ each_of given ys
each_then given [] ys = refl
each_then {A} given (x ∷ xs) ys = ap (λ z. given x.entry ++ z) (each_then {A = A} given xs ys) ∙ sym (append_assoc (given x.entry) (each_of given xs) (each_of given ys))

times_then : {A : Type 0} (test : A → Bool) (xs ys : List A) → times test (xs ++ ys) ≡ times test xs + times test ys
times_then test [] ys = omega arith
times_then {A} test (x ∷ xs) ys = omega (arith, times_then {A = A} test xs ys)

begun_then : (xs ys : List Placed) → all_begun (xs ++ ys) ≡ all_begun xs ++ all_begun ys
begun_then [] ys = refl
begun_then (x ∷ xs) ys = ap (λ z. begun_at x x.entry ++ z) (begun_then xs ys) ∙ sym (append_assoc (begun_at x x.entry) (all_begun xs) (all_begun ys))

ended_then : (xs ys : List Placed) → all_ended (xs ++ ys) ≡ all_ended xs ++ all_ended ys
ended_then [] ys = refl
ended_then (x ∷ xs) ys = ap (λ z. ended_at x x.entry ++ z) (ended_then xs ys) ∙ sym (append_assoc (ended_at x x.entry) (all_ended xs) (all_ended ys))

range_then : (a m n b : ℕ) → b ≡ a + m → range_with_len a m ++ range_with_len b n ≡ range_with_len a (m + n)
range_then a zero n b e =
    let same : b ≡ a = omega (arith, e) in
    let all : n ≡ zero + n = omega arith in
    ap (λ z. range_with_len z n) same ∙ ap (range_with_len a) all
range_then a (suc m) n b e =
    let all : suc (m + n) ≡ suc m + n = omega arith in
    ap (λ z. a ∷ z) (range_then (a + 1) m n b (omega (arith, e))) ∙ ap (range_with_len a) all

numbered_front : (xs ys : List Placed) → AreNumbered (xs ++ ys) → AreNumbered xs
numbered_front [] ys n = tt
numbered_front (x ∷ xs) ys n = (n.0, numbered_front xs ys n.1)

numbered_behind : (xs ys : List Placed) → AreNumbered (xs ++ ys) → AreNumbered ys
numbered_behind [] ys n = n
numbered_behind (x ∷ xs) ys n = numbered_behind xs ys n.1

long_take : {A : Type 0} (n : ℕ) (xs : List A) → n ≤ length xs → length (take n xs) ≡ n
long_take zero xs l = refl
long_take (suc n) [] l = absurd (omega (arith, l))
long_take {A} (suc n) (x ∷ xs) l = omega (arith, long_take {A = A} n xs (omega (arith, l)))

take_seam : {A : Type 0} (xs : List A) (x : A) (ys : List A) → take (suc (length xs)) (xs ++ x ∷ ys) ≡ xs ++ x ∷ []
take_seam [] x ys = refl
take_seam {A} (y ∷ xs) x ys = ap (λ z. y ∷ z) (take_seam {A = A} xs x ys)

ended_few : (mark : Mark) (ks : List EventKind) → ended_by mark ks ≤ length ks
ended_few Ends [] = omega arith
ended_few Ends (kinds.Stage ∷ []) = omega arith
ended_few Ends (kinds.Stage ∷ k ∷ ks) = omega arith
ended_few Ends (kinds.Wait ∷ ks) = omega arith
ended_few Ends (kinds.Statement ∷ ks) = omega arith
ended_few Ends (kinds.Transaction ∷ ks) = omega arith
ended_few EndsStage [] = omega arith
ended_few EndsStage (kinds.Stage ∷ ks) = omega arith
ended_few EndsStage (kinds.Wait ∷ ks) = omega arith
ended_few EndsStage (kinds.Statement ∷ ks) = omega arith
ended_few EndsStage (kinds.Transaction ∷ ks) = omega arith
ended_few (Opens kinds.Stage) [] = omega arith
ended_few (Opens kinds.Stage) (kinds.Stage ∷ ks) = omega arith
ended_few (Opens kinds.Stage) (kinds.Wait ∷ ks) = omega arith
ended_few (Opens kinds.Stage) (kinds.Statement ∷ ks) = omega arith
ended_few (Opens kinds.Stage) (kinds.Transaction ∷ ks) = omega arith
ended_few (Opens kinds.Wait) ks = omega arith
ended_few (Opens kinds.Statement) ks = omega arith
ended_few (Opens kinds.Transaction) ks = omega arith
ended_few Passes ks = omega arith

counted : (place : ℕ) (marks : List Mark) (events : List Event) → Matches place marks events → length events ≡ opens marks
counted place [] events m = ap length m
counted place (Opens kind ∷ marks) [] m = absurd m
counted place (Opens kind ∷ marks) (event ∷ events) m = omega (arith, counted (place + 1) marks events m.2)
counted place (Ends ∷ marks) events m = counted (place + 1) marks events m
counted place (EndsStage ∷ marks) events m = counted (place + 1) marks events m
counted place (Passes ∷ marks) events m = counted (place + 1) marks events m

flat_then : {A B : Type 0} (f : A → List B) (xs ys : List A) → flat_map f (xs ++ ys) ≡ flat_map f xs ++ flat_map f ys
flat_then f [] ys = refl
flat_then {A} {B} f (x ∷ xs) ys = ap (λ z. f x ++ z) (flat_then {A = A} {B = B} f xs ys) ∙ sym (append_assoc (f x) (flat_map f xs) (flat_map f ys))

-- the entries of one session
chosen_then : (test : Placed → Bool) (xs ys : List Placed) → chosen test (xs ++ ys) ≡ chosen test xs ++ chosen test ys
chosen_then test [] ys = refl
chosen_then test (x ∷ xs) ys = ap (λ z. cond (test x) (x ∷ []) [] ++ z) (chosen_then test xs ys) ∙ sym (append_assoc (cond (test x) (x ∷ []) []) (chosen test xs) (chosen test ys))

pub numbered_chosen : (test : Placed → Bool) (ps : List Placed) → AreNumbered ps → AreNumbered (chosen test ps)
numbered_chosen test [] n = tt
numbered_chosen test (p ∷ ps) n = at (test p) (numbered_chosen test ps n.1) where
  at : (b : Bool) → AreNumbered (chosen test ps) → AreNumbered (cond b (p ∷ []) [] ++ chosen test ps)
  at true rest = (n.0, rest)
  at false rest = rest

own_part : (session phase other : ℕ) (line : Line) (c : Context) (part : List Entry) → (other == session) ≡ true → by_session session (placed_part phase other line c part) ≡ placed_part phase other line c part
own_part session phase other line c [] q = refl
own_part session phase other line c (e ∷ es) q =
    let p : Placed = record { phase = phase; session = other; line = line; context = c; entry = e } in
    let rest : List Placed = placed_part phase other line (noted (subject_of line) c e) es in
    ap (λ b. cond b (p ∷ []) [] ++ by_session session rest) q ∙ ap (λ z. p ∷ z) (own_part session phase other line (noted (subject_of line) c e) es q)

no_part : (session phase other : ℕ) (line : Line) (c : Context) (part : List Entry) → (other == session) ≡ false → by_session session (placed_part phase other line c part) ≡ []
no_part session phase other line c [] q = refl
no_part session phase other line c (e ∷ es) q =
    let p : Placed = record { phase = phase; session = other; line = line; context = c; entry = e } in
    let rest : List Placed = placed_part phase other line (noted (subject_of line) c e) es in
    ap (λ b. cond b (p ∷ []) [] ++ by_session session rest) q ∙ no_part session phase other line (noted (subject_of line) c e) es q

own_lines : (session phase other : ℕ) (c : Context) (ls : List Line) (parts : List (List Entry)) → (other == session) ≡ true → by_session session (placed_lines phase other c ls parts) ≡ placed_lines phase other c ls parts
own_lines session phase other c [] parts q = refl
own_lines session phase other c (l ∷ ls) [] q = refl
own_lines session phase other c (l ∷ ls) (part ∷ parts) q =
    let first : List Placed = placed_part phase other l (turned c) part in
    let rest : List Placed = placed_lines phase other (after c l part) ls parts in
    chosen_then (λ (place : Placed). place.session == session) first rest ∙ (ap (λ z. z ++ by_session session rest) (own_part session phase other l (turned c) part q) ∙ ap (λ z. first ++ z) (own_lines session phase other (after c l part) ls parts q))

no_lines : (session phase other : ℕ) (c : Context) (ls : List Line) (parts : List (List Entry)) → (other == session) ≡ false → by_session session (placed_lines phase other c ls parts) ≡ []
no_lines session phase other c [] parts q = refl
no_lines session phase other c (l ∷ ls) [] q = refl
no_lines session phase other c (l ∷ ls) (part ∷ parts) q =
    let first : List Placed = placed_part phase other l (turned c) part in
    let rest : List Placed = placed_lines phase other (after c l part) ls parts in
    chosen_then (λ (place : Placed). place.session == session) first rest ∙ (ap (λ z. z ++ by_session session rest) (no_part session phase other l (turned c) part q) ∙ no_lines session phase other (after c l part) ls parts q)

-- the blocks of a script, and those of its run
pub AreSaid : List Said → List Block → Type 0
AreSaid [] [] = Unit {0}
AreSaid (one ∷ others) (block ∷ blocks) = (block.session ≡ one.session) × (block.lines ≡ lines_in one) × AreSaid others blocks
AreSaid _ _ = ⊥

blocks_said : (phase : ℕ) (said : List Said) (reports : List BlockReport) (blocks : List Block) (others : List Said) (rest : List Block) → AreBlocksOf phase said reports blocks → AreSaid others rest → AreSaid (said ++ others) (blocks ++ rest)
unfolding AreSaid
blocks_said phase [] [] [] others rest are more = more
blocks_said phase (one ∷ said) (report ∷ reports) (block ∷ blocks) others rest are more = (are.0.session, are.0.lines, blocks_said phase said reports blocks others rest are.1 more)
blocks_said phase [] [] (b ∷ bs) others rest are more = absurd are
blocks_said phase [] (r ∷ rs) blocks others rest are more = absurd are
blocks_said phase (s ∷ ss) [] blocks others rest are more = absurd are
blocks_said phase (s ∷ ss) (r ∷ rs) [] others rest are more = absurd are

abbrev pub all_said : List Phase → List Said
all_said phases = flat_map (λ (phase : Phase). phase.blocks) phases

pub phases_said : (number : ℕ) (phases : List Phase) (reports : List PhaseParts) (blocks : List (List Block)) → ArePhasesOf number phases reports blocks → AreSaid (all_said phases) (all_blocks blocks)
unfolding AreSaid
phases_said number [] [] [] are = tt
phases_said number (phase ∷ phases) (report ∷ reports) (blocks ∷ others) are =
    blocks_said number phase.blocks report.blocks blocks (all_said phases) (all_blocks others) are.1 (phases_said (number + 1) phases reports others are.2)
phases_said number [] [] (b ∷ bs) are = absurd are
phases_said number [] (r ∷ rs) blocks are = absurd are
phases_said number (p ∷ ps) [] blocks are = absurd are
phases_said number (p ∷ ps) (r ∷ rs) [] are = absurd are

abbrev pub lines_by : ℕ → List Said → List BlockLine
lines_by session said = flat_map (λ (block : Said). written_out block.lines) (filter (λ (block : Said). block.session == session) said)

abbrev marks_of : List BlockLine → List Mark
marks_of lines = map mark_of lines

module _ (lines : List BlockLine) (events : List Event) (are : AreEvents lines events) (verdicts : List Verdict) where
  abbrev Did : Context → Context → List Placed → List Opening → List Opening → ℕ → Type 0
  Did c d ps shut left many = Does lines events are (marks_of lines) verdicts c d ps shut left many

  abbrev Open : List Opening → Context → Type 0
  Open openings c = AreOpen lines events are (marks_of lines) verdicts openings c.opened

  -- one behind another
  then_did : (c d e : Context) (ps qs : List Placed) (s t l m : List Opening) (a b : ℕ) → Did c d ps s l a → Did d e qs t m b → Did c e (ps ++ qs) (s ++ t) m (a + b)
  then_did c d e ps qs s t l m a b f g =
      let vs = each_then verdict_at ps qs in
      let long = length-append (each_of verdict_at ps) (each_of verdict_at qs) in
      let total : length (each_of verdict_at ps) + length (each_of verdict_at qs) ≡ length (each_of verdict_at (ps ++ qs)) = omega (arith, ap length vs, long) in
      record {
        as_many = omega (arith, ap length vs, long, f.as_many, g.as_many);
        opened = g.opened;
        begun = omega (arith, ap length vs, long, f.begun, g.begun);
        drawn = omega (arith, ap (times is_let_through) vs, times_then is_let_through (each_of verdict_at ps) (each_of verdict_at qs), f.drawn, g.drawn);
        each = each_join _ ps qs f.each g.each;
        starts = begun_then ps qs ∙ (ap (λ z. z ++ all_begun qs) f.starts ∙ (ap (λ z. range_with_len c.begun (length (each_of verdict_at ps)) ++ z) g.starts
            ∙ (range_then c.begun (length (each_of verdict_at ps)) (length (each_of verdict_at qs)) d.begun f.begun ∙ ap (range_with_len c.begun) total)));
        ended = ap (map (λ (one : Ended). line_of events one.event)) (ended_then ps qs) ∙ (map-append (λ (one : Ended). line_of events one.event) (all_ended ps) (all_ended qs)
            ∙ (ap (λ z. z ++ map (λ (one : Ended). line_of events one.event) (all_ended qs)) f.ended ∙ (ap (λ z. lines_of s ++ z) g.ended ∙ sym (map-append (λ (opening : Opening). Some opening.place) s t))));
      }

  -- where a session stands behind lines, with the verdicts so far
  record Stands (front : List Verdict) (before : List BlockLine) (c : Context) : Type 0 where
    opened : Open (open_in (marks_of before)) c
    begun : c.begun ≡ length front
    drawn : c.drawn ≡ times is_let_through front
    count : length front ≡ opens (marks_of before)

  stands_next : (front : List Verdict) (before now : List BlockLine) (c d : Context) (ps : List Placed) (shut : List Opening) (many : ℕ) → Stands front before c → Did c d ps shut (open_in (marks_of (before ++ now))) many
      → many ≡ opens (marks_of now) → Stands (front ++ each_of verdict_at ps) (before ++ now) d
  stands_next front before now c d ps shut many s f e = record {
    opened = f.opened;
    begun = omega (arith, s.begun, f.begun, length-append front (each_of verdict_at ps));
    drawn = omega (arith, s.drawn, f.drawn, times_then is_let_through front (each_of verdict_at ps));
    count = omega (arith, length-append front (each_of verdict_at ps), s.count, f.as_many, e, opens_then (marks_of before) (marks_of now), ap opens (map-append mark_of before now));
  }

  -- one line of the script
  module _ (front rest : List Verdict) (before : List BlockLine) (line : BlockLine) (more : List BlockLine) (phase session : ℕ) (c : Context) (part : List Entry) (whole : lines ≡ before ++ line ∷ more) (stands : Stands front before c)
      (split : verdicts ≡ front ++ rest) (fits : cut (shape c (line_in line)) part ≡ Ok []) (numbered : AreNumbered (placed_part phase session (line_in line) (turned c) part)) where
    abbrev gs : List Opening
    gs = open_in (marks_of before)

    abbrev mark : Mark
    mark = mark_of line

    abbrev n : ℕ
    n = ended_by mark (kinds_of gs)

    abbrev at : ℕ
    at = length before

    at_is : length (marks_of before) ≡ at
    at_is = length-map before mark_of

    marks_are : marks_of lines ≡ marks_of before ++ mark ∷ marks_of more
    marks_are = ap marks_of whole ∙ map-append mark_of before (line ∷ more)

    matched : Matches 0 (marks_of before ++ mark ∷ marks_of more) events
    matched = subst (λ z. Matches 0 z events) marks_are (matches 0 (marks_of lines) events are.brackets)

    tagged : tags part ≡ asked (length (take n gs)) (begins mark)
    tagged =
        line_tags c line part fits ∙ (ap (λ (ks : List EventKind). asked (ended_by mark ks) (begins mark)) (kinds_are lines events are (marks_of lines) verdicts gs c.opened stands.opened)
        ∙ ap (λ k. asked k (begins mark)) (sym (long_take n gs (omega (arith, ended_few mark (kinds_of gs), length-map gs (λ (opening : Opening). opening.kind))))))

    closed : closed_at (marks_of lines) at ≡ take n gs
    closed = ap (λ z. closed_at z at) marks_are ∙ (ap (closed_at (marks_of before ++ mark ∷ marks_of more)) (sym at_is) ∙ closed_by (marks_of before) mark (marks_of more))

    shut : Each (ClosesAt events at) (take n gs)
    shut = subst (Each (ClosesAt events at)) closed (all_close (marks_of lines) events at are.brackets)

    part_at : Parted (length front) at events
    part_at = subst (λ k. Parted k at events) (sym stands.count) (parted 0 at (marks_of before) (mark ∷ marks_of more) events (omega (arith, at_is)) matched)

    before_is : through_before at events verdicts ≡ c.drawn
    before_is = ap (through_before at events) split ∙ (through_is at front rest events part_at ∙ sym stands.drawn)

    open_now : Open (take n gs ++ drop n gs) c
    open_now = subst (λ (z : List Opening). Open z c) (sym (take-append-drop n gs)) stands.opened

    behind : open_in (marks_of (before ++ line ∷ [])) ≡ opened_by (length (marks_of before)) mark ++ drop n gs
    behind = ap open_in (map-append mark_of before (line ∷ [])) ∙ open_more (marks_of before) mark

    begins_at : (kind : EventKind) → mark ≡ Opens kind → OpensAt events (opens (marks_of before)) at kind
    begins_at kind e = opens_at 0 at (marks_of before) kind (marks_of more) events (omega (arith, at_is)) (subst (λ (m : Mark). Matches 0 (marks_of before ++ m ∷ marks_of more) events) e matched)

    starts : (kind : EventKind) (begun : ℕ) → mark ≡ Opens kind → begun ≡ c.begun
        → Starts lines events are (marks_of lines) verdicts phase session (line_in line) at begun (drop n gs) (record { place = length (marks_of before); kind = kind })
    starts kind begun e b =
        let o = begins_at kind e in
        let one_more : suc (length (marks_of before)) ≡ at + 1 = omega (arith, at_is) in
        let there : slice_get events begun ≡ Some o.said = ap (slice_get events) (b ∙ (stands.begun ∙ stands.count)) ∙ o.there in
        record {
          said = o.said;
          there = there;
          opened = o.opened;
          place_is = at_is;
          subject = line_subject line ∙ (ap (λ (l : BlockLine). as_told (said_subject l)) (sym (ap (λ (z : List BlockLine). line_at z o.said.opened) whole ∙ (ap (line_at (before ++ line ∷ more)) o.opened ∙ get_or-append_seam before line more said.Done)))
              ∙ ap as_told (are.subject begun o.said there));
          kind_is = o.kind_is;
          around = ap lines_of (sym (ap (λ (m : Mark). opened_by (length (marks_of before)) m ++ drop n gs) e)
              ∙ (sym (open_more (marks_of before) mark) ∙ ap open_in (sym (take_seam (marks_of before) mark (marks_of more)) ∙ (ap (λ k. take k (marks_of before ++ mark ∷ marks_of more)) one_more ∙ ap (take (at + 1)) (sym marks_are)))));
        }

    by : (m : Mark) → mark ≡ m → Did (turned c) (after c (line_in line) part) (placed_part phase session (line_in line) (turned c) part) (take n gs) (opened_by (length (marks_of before)) m ++ drop n gs) (opens (m ∷ []))
    by (Opens kind) e =
        ends_do lines events are (marks_of lines) verdicts phase session (line_in line) at true 1 (take n gs) (drop n gs) (record { place = length (marks_of before); kind = kind } ∷ drop n gs) (turned c) part
        (tagged ∙ ap (λ (m : Mark). asked (length (take n gs)) (begins m)) e) shut open_now before_is numbered
        (λ d more t a b drawn nums. start_does lines events are (marks_of lines) verdicts phase session (line_in line) at (drop n gs) (record { place = length (marks_of before); kind = kind }) d more t a (starts kind d.begun e b) (before_is ∙ sym drawn) nums)
    by Ends e =
        ends_do lines events are (marks_of lines) verdicts phase session (line_in line) at false 0 (take n gs) (drop n gs) (drop n gs) (turned c) part
        (tagged ∙ ap (λ (m : Mark). asked (length (take n gs)) (begins m)) e) shut open_now before_is numbered (λ d more t a b drawn nums. rest_does lines events are (marks_of lines) verdicts phase session (line_in line) at (drop n gs) d more t a nums)
    by EndsStage e =
        ends_do lines events are (marks_of lines) verdicts phase session (line_in line) at false 0 (take n gs) (drop n gs) (drop n gs) (turned c) part
        (tagged ∙ ap (λ (m : Mark). asked (length (take n gs)) (begins m)) e) shut open_now before_is numbered (λ d more t a b drawn nums. rest_does lines events are (marks_of lines) verdicts phase session (line_in line) at (drop n gs) d more t a nums)
    by Passes e =
        ends_do lines events are (marks_of lines) verdicts phase session (line_in line) at false 0 (take n gs) (drop n gs) (drop n gs) (turned c) part
        (tagged ∙ ap (λ (m : Mark). asked (length (take n gs)) (begins m)) e) shut open_now before_is numbered (λ d more t a b drawn nums. rest_does lines events are (marks_of lines) verdicts phase session (line_in line) at (drop n gs) d more t a nums)

    line_does : Did c (after c (line_in line) part) (placed_part phase session (line_in line) (turned c) part) (closed_at (marks_of lines) (length before)) (open_in (marks_of (before ++ line ∷ []))) (opens (marks_of (line ∷ [])))
    line_does =
        let d = by mark refl in
        subst (λ (z : List Opening). Did c (after c (line_in line) part) (placed_part phase session (line_in line) (turned c) part) z (open_in (marks_of (before ++ line ∷ []))) (opens (marks_of (line ∷ [])))) (sym closed)
        (subst (λ (z : List Opening). Did c (after c (line_in line) part) (placed_part phase session (line_in line) (turned c) part) (take n gs) z (opens (marks_of (line ∷ [])))) (sym behind)
        (record { as_many = d.as_many; opened = d.opened; begun = d.begun; drawn = d.drawn; each = d.each; starts = d.starts; ended = d.ended }))

  abbrev closings : ℕ → ℕ → List Opening
  closings at n = flat_map (closed_at (marks_of lines)) (range_with_len at n)

  closings_then : (a m n b : ℕ) → b ≡ a + m → closings a m ++ closings b n ≡ closings a (m + n)
  closings_then a m n b e =
      sym (flat_then (closed_at (marks_of lines)) (range_with_len a m) (range_with_len b n)) ∙ ap (flat_map (closed_at (marks_of lines))) (range_then a m n b e)

  -- what lines did, from one place on
  record Walked (front : List Verdict) (before now : List BlockLine) (c d : Context) (ps : List Placed) : Type 0 where
    did : Did c d ps (closings (length before) (length now)) (open_in (marks_of (before ++ now))) (opens (marks_of now))
    stands : Stands (front ++ each_of verdict_at ps) (before ++ now) d

  -- lines that start and end nothing, as a block's connect and its end
  quiet : (front : List Verdict) (before : List BlockLine) (phase session : ℕ) (line : Line) (c : Context) (part : List Entry) → Stands front before c → tags part ≡ [] → AreNumbered (placed_part phase session line (turned c) part)
      → Walked front before [] c (after c line part) (placed_part phase session line (turned c) part)
  quiet front before phase session line c part s t n =
      let d = rest_does lines events are (marks_of lines) verdicts phase session line 0 (open_in (marks_of before)) (turned c) part t s.opened n in
      let same : before ≡ before ++ [] = sym (append-nil before) in
      let here : Did c (after c line part) (placed_part phase session line (turned c) part) [] (open_in (marks_of (before ++ []))) 0 =
      subst (λ (z : List BlockLine). Did c (after c line part) (placed_part phase session line (turned c) part) [] (open_in (marks_of z)) 0) same
      (record { as_many = d.as_many; opened = d.opened; begun = d.begun; drawn = d.drawn; each = d.each; starts = d.starts; ended = d.ended }) in
      record { did = here; stands = stands_next front before [] c (after c line part) (placed_part phase session line (turned c) part) [] 0 s here refl }

  -- one behind another
  walked_then : (front : List Verdict) (before now next : List BlockLine) (c d e : Context) (ps qs : List Placed) → Stands front before c → Walked front before now c d ps → Walked (front ++ each_of verdict_at ps) (before ++ now) next d e qs
      → Walked front before (now ++ next) c e (ps ++ qs)
  walked_then front before now next c d e ps qs s f g =
      let both = then_did c d e ps qs (closings (length before) (length now)) (closings (length (before ++ now)) (length next)) (open_in (marks_of (before ++ now))) (open_in (marks_of ((before ++ now) ++ next))) (opens (marks_of now)) (opens (marks_of next)) f.did g.did in
      let shut : closings (length before) (length now) ++ closings (length (before ++ now)) (length next) ≡ closings (length before) (length (now ++ next)) =
      closings_then (length before) (length now) (length next) (length (before ++ now)) (length-append before now) ∙ ap (closings (length before)) (sym (length-append now next)) in
      let many : opens (marks_of now) + opens (marks_of next) ≡ opens (marks_of (now ++ next)) = sym (ap opens (map-append mark_of now next) ∙ opens_then (marks_of now) (marks_of next)) in
      let here : Did c e (ps ++ qs) (closings (length before) (length (now ++ next))) (open_in (marks_of (before ++ (now ++ next)))) (opens (marks_of (now ++ next))) =
      subst (λ (z : List Opening). Did c e (ps ++ qs) z (open_in (marks_of (before ++ (now ++ next)))) (opens (marks_of (now ++ next)))) shut
      (subst (λ (z : List BlockLine). Did c e (ps ++ qs) (closings (length before) (length now) ++ closings (length (before ++ now)) (length next)) (open_in (marks_of z)) (opens (marks_of (now ++ next)))) (append_assoc before now next)
      (subst (λ k. Did c e (ps ++ qs) (closings (length before) (length now) ++ closings (length (before ++ now)) (length next)) (open_in (marks_of ((before ++ now) ++ next))) k) many both)) in
      record { did = here; stands = stands_next front before (now ++ next) c e (ps ++ qs) (closings (length before) (length (now ++ next))) (opens (marks_of (now ++ next))) s here refl }

  -- one line of the script
  line_walk : (front rest : List Verdict) (before : List BlockLine) (line : BlockLine) (more : List BlockLine) (phase session : ℕ) (c : Context) (part : List Entry) → lines ≡ before ++ line ∷ more → Stands front before c → verdicts ≡ front ++ rest
      → cut (shape c (line_in line)) part ≡ Ok [] → AreNumbered (placed_part phase session (line_in line) (turned c) part) → Walked front before (line ∷ []) c (after c (line_in line) part) (placed_part phase session (line_in line) (turned c) part)
  line_walk front rest before line more phase session c part whole s split fits n =
      let ps : List Placed = placed_part phase session (line_in line) (turned c) part in
      let d = line_does front rest before line more phase session c part whole s split fits n in
      let here : Did c (after c (line_in line) part) ps (closings (length before) 1) (open_in (marks_of (before ++ line ∷ []))) (opens (marks_of (line ∷ []))) =
      subst (λ (z : List Opening). Did c (after c (line_in line) part) ps z (open_in (marks_of (before ++ line ∷ []))) (opens (marks_of (line ∷ [])))) (sym (append-nil (closed_at (marks_of lines) (length before)))) d in
      record { did = here; stands = stands_next front before (line ∷ []) c (after c (line_in line) part) ps (closings (length before) 1) (opens (marks_of (line ∷ []))) s here refl }

  -- those of a block, and its end
  block_walk : (front rest : List Verdict) (before now more : List BlockLine) (phase session : ℕ) (c : Context) (parts : List (List Entry)) → lines ≡ before ++ (now ++ more) → Stands front before c
      → verdicts ≡ front ++ (each_of verdict_at (placed_lines phase session c (map line_in now ++ told.Close ∷ []) parts) ++ rest) → AreShaped c (map line_in now ++ told.Close ∷ []) parts
      → AreNumbered (placed_lines phase session c (map line_in now ++ told.Close ∷ []) parts)
      → Walked front before now c (after_lines c (map line_in now ++ told.Close ∷ []) parts) (placed_lines phase session c (map line_in now ++ told.Close ∷ []) parts)
  block_walk front rest before [] more phase session c [] whole s split shaped n = absurd shaped
  block_walk front rest before [] more phase session c (part ∷ []) whole s split shaped n =
      let ps : List Placed = placed_part phase session told.Close (turned c) part in
      subst (Walked front before [] c (after c told.Close part)) (sym (append-nil ps)) (quiet front before phase session told.Close c part s (close_tags c part shaped.0) (numbered_front ps [] n))
  block_walk front rest before [] more phase session c (part ∷ p ∷ parts) whole s split shaped n = absurd shaped.1
  block_walk front rest before (line ∷ now) more phase session c [] whole s split shaped n = absurd shaped
  block_walk front rest before (line ∷ now) more phase session c (part ∷ parts) whole s split shaped n =
      let ps : List Placed = placed_part phase session (line_in line) (turned c) part in
      let next : Context = after c (line_in line) part in
      let qs : List Placed = placed_lines phase session next (map line_in now ++ told.Close ∷ []) parts in
      let parted_verdicts : each_of verdict_at (ps ++ qs) ++ rest ≡ each_of verdict_at ps ++ (each_of verdict_at qs ++ rest) =
      ap (λ z. z ++ rest) (each_then verdict_at ps qs) ∙ append_assoc (each_of verdict_at ps) (each_of verdict_at qs) rest in
      let first = line_walk front (each_of verdict_at (ps ++ qs) ++ rest) before line (now ++ more) phase session c part whole s split shaped.0 (numbered_front ps qs n) in
      let others = block_walk (front ++ each_of verdict_at ps) rest (before ++ line ∷ []) now more phase session next parts (whole ∙ sym (append_assoc before (line ∷ []) (now ++ more))) first.stands
      (split ∙ (ap (λ z. front ++ z) parted_verdicts ∙ sym (append_assoc front (each_of verdict_at ps) (each_of verdict_at qs ++ rest)))) shaped.1 (numbered_behind ps qs n) in
      walked_then front before (line ∷ []) now c next (after_lines next (map line_in now ++ told.Close ∷ []) parts) ps qs s first others

  -- with its connect
  said_walk : (front rest : List Verdict) (before more : List BlockLine) (phase session : ℕ) (c : Context) (connect : Option Connect) (now : List BlockLine) (parts : List (List Entry)) → lines ≡ before ++ (now ++ more) → Stands front before c
      → verdicts ≡ front ++ (each_of verdict_at (placed_lines phase session c (connect_lines connect ++ (map line_in now ++ told.Close ∷ [])) parts) ++ rest) → AreShaped c (connect_lines connect ++ (map line_in now ++ told.Close ∷ [])) parts
      → AreNumbered (placed_lines phase session c (connect_lines connect ++ (map line_in now ++ told.Close ∷ [])) parts)
      → Walked front before now c (after_lines c (connect_lines connect ++ (map line_in now ++ told.Close ∷ [])) parts) (placed_lines phase session c (connect_lines connect ++ (map line_in now ++ told.Close ∷ [])) parts)
  said_walk front rest before more phase session c None now parts whole s split shaped n = block_walk front rest before now more phase session c parts whole s split shaped n
  said_walk front rest before more phase session c (Some names) now [] whole s split shaped n = absurd shaped
  said_walk front rest before more phase session c (Some names) now (part ∷ parts) whole s split shaped n =
      let ps : List Placed = placed_part phase session told.Connect (turned c) part in
      let next : Context = after c told.Connect part in
      let qs : List Placed = placed_lines phase session next (map line_in now ++ told.Close ∷ []) parts in
      let parted_verdicts : each_of verdict_at (ps ++ qs) ++ rest ≡ each_of verdict_at ps ++ (each_of verdict_at qs ++ rest) =
      ap (λ z. z ++ rest) (each_then verdict_at ps qs) ∙ append_assoc (each_of verdict_at ps) (each_of verdict_at qs) rest in
      let first = quiet front before phase session told.Connect c part s (connect_tags c part shaped.0) (numbered_front ps qs n) in
      let others = block_walk (front ++ each_of verdict_at ps) rest (before ++ []) now more phase session next parts (whole ∙ ap (λ (z : List BlockLine). z ++ (now ++ more)) (sym (append-nil before))) first.stands
      (split ∙ (ap (λ z. front ++ z) parted_verdicts ∙ sym (append_assoc front (each_of verdict_at ps) (each_of verdict_at qs ++ rest)))) shaped.1 (numbered_behind ps qs n) in
      walked_then front before [] now c next (after_lines next (map line_in now ++ told.Close ∷ []) parts) ps qs s first others

  -- all blocks, of which those of this session
  record Through (front : List Verdict) (before now : List BlockLine) (c : Context) (ps : List Placed) : Type 0 where
    end : Context
    walked : Walked front before now c end ps

  none_walked : (front : List Verdict) (before : List BlockLine) (c : Context) → Stands front before c → Walked front before [] c c []
  none_walked front before c s =
      let here : Did c c [] [] (open_in (marks_of (before ++ []))) 0 =
      subst (λ (z : List BlockLine). Did c c [] [] (open_in (marks_of z)) 0) (sym (append-nil before)) (record { as_many = refl; opened = s.opened; begun = omega arith; drawn = omega arith; each = tt; starts = refl; ended = refl }) in
      record { did = here; stands = stands_next front before [] c c [] [] 0 s here refl }

  module _ (session : ℕ) where
    one_walk : (front rest : List Verdict) (before more : List BlockLine) (earlier : List Block) (one : Said) (phase other : ℕ) (ls : List Line) (parts : List (List Entry)) → other ≡ session → ls ≡ lines_in one
        → lines ≡ before ++ (written_out one.lines ++ more) → Stands front before (told_by session fresh earlier) → verdicts ≡ front ++ (each_of verdict_at (placed_lines phase other (told_by other fresh earlier) ls parts) ++ rest)
        → AreShaped (told_by other fresh earlier) ls parts → AreNumbered (placed_lines phase other (told_by other fresh earlier) ls parts)
        → Walked front before (written_out one.lines) (told_by session fresh earlier) (after_lines (told_by session fresh earlier) ls parts) (placed_lines phase other (told_by other fresh earlier) ls parts)
    one_walk front rest before more earlier one phase other ls parts same are whole s split shaped n =
        let P : ℕ → List Line → Type 0 = λ k z. verdicts ≡ front ++ (each_of verdict_at (placed_lines phase k (told_by k fresh earlier) z parts) ++ rest) → AreShaped (told_by k fresh earlier) z parts → AreNumbered (placed_lines phase k (told_by k fresh earlier) z parts)
        → Walked front before (written_out one.lines) (told_by session fresh earlier) (after_lines (told_by session fresh earlier) z parts) (placed_lines phase k (told_by k fresh earlier) z parts) in
        let here : P session (lines_in one) = λ parted fits nums. said_walk front rest before more phase session (told_by session fresh earlier) one.connect (written_out one.lines) parts whole s parted fits nums in
        subst (λ k. P k ls) (sym same) (subst (λ (z : List Line). P session z) (sym are) here) split shaped n

    -- the walk over the other blocks
    abbrev Rest : List Said → List Block → List Block → Type 0
    Rest os earlier bs = (f : List Verdict) (p : List BlockLine) → lines ≡ p ++ lines_by session os → Stands f p (told_by session fresh earlier) → verdicts ≡ f ++ each_of verdict_at (by_session session (places_behind earlier bs))
        → AreNumbered (by_session session (places_behind earlier bs)) → Through f p (lines_by session os) (told_by session fresh earlier) (by_session session (places_behind earlier bs))

    block_first : (front : List Verdict) (before : List BlockLine) (earlier : List Block) (o : Said) (os : List Said) (b : Block) (bs : List Block) → b.session ≡ o.session → b.lines ≡ lines_in o → AreShaped (told_by b.session fresh earlier) b.lines b.parts
        → lines ≡ before ++ lines_by session (o ∷ os) → Stands front before (told_by session fresh earlier) → verdicts ≡ front ++ each_of verdict_at (by_session session (places_behind earlier (b ∷ bs)))
        → AreNumbered (by_session session (places_behind earlier (b ∷ bs))) → Rest os (earlier ++ b ∷ []) bs → Through front before (lines_by session (o ∷ os)) (told_by session fresh earlier) (by_session session (places_behind earlier (b ∷ bs)))
    unfolding places_behind
    block_first front before earlier o os b bs same are shaped whole s split n go = on (b.session == session) refl where
      xs : List Placed
      xs = placed_lines b.phase b.session (told_by b.session fresh earlier) b.lines b.parts

      ys : List Placed
      ys = by_session session (places_behind (earlier ++ b ∷ []) bs)

      c : Context
      c = told_by session fresh earlier

      written : Said → List BlockLine
      written block = written_out block.lines

      others : List Said
      others = filter (λ (block : Said). block.session == session) os

      cut_there : by_session session (places_behind earlier (b ∷ bs)) ≡ by_session session xs ++ ys
      cut_there = chosen_then (λ (place : Placed). place.session == session) xs (places_behind (earlier ++ b ∷ []) bs)

      by_o : (x : Bool) → (b.session == session) ≡ x → lines_by session (o ∷ os) ≡ flat_map (λ (block : Said). written_out block.lines) (cond x (o ∷ others) others)
      by_o x q = ap (λ z. flat_map (λ (block : Said). written_out block.lines) (cond z (o ∷ others) others)) (ap (λ k. k == session) (sym same) ∙ q)

      told_next : (x : Bool) → (b.session == session) ≡ x → told_by session fresh (earlier ++ b ∷ []) ≡ cond x (after_lines c b.lines b.parts) c
      told_next x q = told_more session fresh earlier b ∙ ap (λ z. cond z (after_lines c b.lines b.parts) c) q

      on : (x : Bool) → (b.session == session) ≡ x → Through front before (lines_by session (o ∷ os)) (told_by session fresh earlier) (by_session session (places_behind earlier (b ∷ bs)))
      on true q =
          let mine : by_session session (places_behind earlier (b ∷ bs)) ≡ xs ++ ys = cut_there ∙ ap (λ z. z ++ ys) (own_lines session b.phase b.session (told_by b.session fresh earlier) b.lines b.parts q) in
          let whole_now : lines ≡ before ++ (written_out o.lines ++ lines_by session os) = whole ∙ ap (λ (z : List BlockLine). before ++ z) (by_o true q) in
          let split_now : verdicts ≡ front ++ (each_of verdict_at xs ++ each_of verdict_at ys) = split ∙ ap (λ z. front ++ z) (ap (each_of verdict_at) mine ∙ each_then verdict_at xs ys) in
          let nums : AreNumbered (xs ++ ys) = subst AreNumbered mine n in
          let first = one_walk front (each_of verdict_at ys) before (lines_by session os) earlier o b.phase b.session b.lines b.parts (eqb-true b.session session q) are whole_now s split_now shaped (numbered_front xs ys nums) in
          let later = go (front ++ each_of verdict_at xs) (before ++ written_out o.lines) (whole_now ∙ sym (append_assoc before (written_out o.lines) (lines_by session os)))
          (subst (λ (z : Context). Stands (front ++ each_of verdict_at xs) (before ++ written_out o.lines) z) (sym (told_next true q)) first.stands) (split_now ∙ sym (append_assoc front (each_of verdict_at xs) (each_of verdict_at ys))) (numbered_behind xs ys nums) in
          let both = walked_then front before (written_out o.lines) (lines_by session os) c (after_lines c b.lines b.parts) later.end xs ys s first
          (subst (λ (z : Context). Walked (front ++ each_of verdict_at xs) (before ++ written_out o.lines) (lines_by session os) z later.end ys) (told_next true q) later.walked) in
          record {
            end = later.end;
            walked = subst (λ (z : List BlockLine). Walked front before z c later.end (by_session session (places_behind earlier (b ∷ bs)))) (sym (by_o true q))
                (subst (λ (z : List Placed). Walked front before (written_out o.lines ++ lines_by session os) c later.end z) (sym mine) both);
          }
      on false q =
          let mine : by_session session (places_behind earlier (b ∷ bs)) ≡ ys = cut_there ∙ ap (λ z. z ++ ys) (no_lines session b.phase b.session (told_by b.session fresh earlier) b.lines b.parts q) in
          let later = go front before (whole ∙ ap (λ (z : List BlockLine). before ++ z) (by_o false q)) (subst (λ (z : Context). Stands front before z) (sym (told_next false q)) s) (split ∙ ap (λ z. front ++ each_of verdict_at z) mine) (subst AreNumbered mine n) in
          record {
            end = later.end;
            walked = subst (λ (z : List BlockLine). Walked front before z c later.end (by_session session (places_behind earlier (b ∷ bs)))) (sym (by_o false q))
                (subst (λ (z : List Placed). Walked front before (lines_by session os) c later.end z) (sym mine) (subst (λ (z : Context). Walked front before (lines_by session os) z later.end ys) (told_next false q) later.walked));
          }

    blocks_walk : (front : List Verdict) (before : List BlockLine) (earlier : List Block) (low : ℕ) (saids : List Said) (blocks : List Block) → AreSaid saids blocks → AreShapedBehind earlier low blocks
        → lines ≡ before ++ lines_by session saids → Stands front before (told_by session fresh earlier) → verdicts ≡ front ++ each_of verdict_at (by_session session (places_behind earlier blocks))
        → AreNumbered (by_session session (places_behind earlier blocks)) → Through front before (lines_by session saids) (told_by session fresh earlier) (by_session session (places_behind earlier blocks))
    unfolding AreSaid places_behind
    blocks_walk front before earlier low [] [] are shaped whole s split n = record { end = told_by session fresh earlier; walked = none_walked front before (told_by session fresh earlier) s }
    blocks_walk front before earlier low [] (b ∷ bs) are shaped whole s split n = absurd are
    blocks_walk front before earlier low (o ∷ os) [] are shaped whole s split n = absurd are
    blocks_walk front before earlier low (o ∷ os) (b ∷ bs) are shaped whole s split n =
        block_first front before earlier o os b bs are.0 are.1 shaped.1 whole s split n (λ f p w st sp nu. blocks_walk f p (earlier ++ b ∷ []) b.phase os bs are.2 shaped.2 w st sp nu)

-- the law
pub bracket_law : ((number : ℕ) (phases : List Phase) → AreEvents (lines_for number phases) (events_for number phases)) → BracketLaw
bracket_law all_events setting phases report run session =
    let lines : List BlockLine = lines_for session phases in
    let events : List Event = events_for session phases in
    let are : AreEvents lines events = all_events session phases in
    let mine : List Placed = by_session session (places (all_blocks run.blocks)) in
    let verdicts : List Verdict = each_of verdict_at mine in
    let first : Stands lines events are verdicts [] [] fresh = record {
      opened = subst (λ (z : List Opening). AreOpen lines events are (marks_of lines) verdicts z []) (sym (open_is_run [])) tt;
      begun = refl;
      drawn = refl;
      count = refl;
    } in
    let through = blocks_walk lines events are verdicts session [] [] [] 0 (all_said phases) (all_blocks run.blocks) (phases_said 1 phases report.phases run.blocks run.phases_are) run.rules.shaped refl first refl
    (numbered_chosen (λ (place : Placed). place.session == session) (places (all_blocks run.blocks)) run.rules.numbered) in
    let did = through.walked.did in
    record {
      begun = did.starts ∙ ap (range_with_len 0) (did.as_many ∙ sym (counted 0 (marks_of lines) events (matches 0 (marks_of lines) events are.brackets)));
      ended = did.ended;
      each = did.each;
    }
