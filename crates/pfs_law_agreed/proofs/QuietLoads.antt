-- In a phase without an administration line no word is set, so each load is at the version of the phase's beginning.
use Rattle.std.proofs.Common.{ℕ, ◌≡◌, ◌+◌, ◌<◌, ◌≤◌, ◌==◌, nat_lt, nat_le, max, Bool, true, false, cond, List, [], ◌∷◌, ◌++◌, length, map, Option, Some, None, refl, ap, sym, ◌∙◌, subst, arith}
use Rattle.std.specs.Prelude.{Result, Ok, Err, if◌then◌else◌}
use Rattle.std.specs.List.{flat_map}
use Rattle.pfs_admin.specs.declared.changes.Change.{Change as Asked}
use Rattle.pfs_event.specs.Verdicts.{is_let_through}
use Rattle.pfs_event.specs.declared.entry.Entry.{Entry}
use Rattle.pfs_event.specs.declared.entry.Entry.TheVariants as says
use Rattle.pfs_event.specs.declared.kind.EventKind.{EventKind}
use Rattle.pfs_event.specs.declared.kind.EventKind.TheVariants as kinds
use Rattle.pfs_exec.specs.Requests.{request_of}
use Rattle.pfs_exec.specs.declared.requests.Request.{Request}
use Rattle.pfs_exec.specs.declared.requests.Request.TheVariants as requests
use Rattle.pfs_journal.specs.declared.blocks.BlockReport.{BlockReport}
use Rattle.pfs_classes.specs.declared.setting.Setting.{Setting}
use Rattle.pfs_journal.specs.declared.report.PhaseParts.{PhaseParts}
use Rattle.pfs_journal.specs.declared.report.ReportParts.{ReportParts}
use Rattle.pfs_model.proofs.EachLists.{each_join}
use Rattle.pfs_model.specs.Chains.{Each, each_of, is_of, times, word_change}
use Rattle.pfs_model.specs.Contexts.{Context, after, fresh, noted, subject_of, turned}
use Rattle.pfs_model.specs.Cuts.{behind, cut, step, then_cut}
use Rattle.pfs_model.specs.EntryAsks.{fits}
use Rattle.pfs_model.specs.EntryPlaces.{AreShapedBehind, Block, Placed, before_phase, chosen, placed_lines, placed_part, places, places_behind, told_by, up_to_phase}
use Rattle.pfs_model.specs.Floors.{AreFlooredBehind, LoadsKeep, word_floor_of}
use Rattle.pfs_model.specs.JournalCuts.{AreShaped}
use Rattle.pfs_model.specs.SetupFlags.{loads_of}
use Rattle.pfs_model.specs.Shapes.{added, counted_slot, counting, digest_of, ending, ending_both, ending_first, ending_stage, is_stage, one, puts, settling, shape, starting}
use Rattle.pfs_model.specs.declared.changes.Change.{Change}
use Rattle.pfs_model.specs.declared.lines.Line.{Line}
use Rattle.pfs_model.specs.declared.lines.Line.TheVariants as told
use Rattle.pfs_model.specs.declared.lines.Opened.{Opened}
use Rattle.pfs_model.specs.declared.lines.Subject.{Subject}
use Rattle.pfs_model.specs.declared.shapes.Ask.{Ask}
use Rattle.pfs_model.specs.declared.shapes.Ask.TheVariants as asks
use Rattle.pfs_model.specs.declared.shapes.Item.{Item}
use Rattle.pfs_model.specs.declared.shapes.Often.{Often}
use Rattle.pfs_model.specs.declared.shapes.Often.TheVariants.{One, Maybe, Many}
use Rattle.pfs_runs.specs.PhaseFinals.{word_version}
use Rattle.pfs_runs.specs.Runs.{AreBlocksOf, ArePhasesOf, IsRun, all_blocks}
use Rattle.pfs_runs.specs.ScriptLines.{changes_in, changes_on, connect_changes, connect_lines, line_in, lines_in, sql_changes, sql_line}
use Rattle.pfs_script.specs.Marks.{written_out}
use Rattle.pfs_script.specs.declared.blocks.Block.{Block as Said}
use Rattle.pfs_script.specs.declared.blocks.BlockLine.{BlockLine}
use Rattle.pfs_script.specs.declared.blocks.BlockLine.TheVariants as said
use Rattle.pfs_script.specs.declared.blocks.Connect.{Connect}
use Rattle.pfs_script.specs.declared.blocks.Phase.{Phase}
use Rattle.pfs_law_agreed.specs.QuietPhases.{IsQuietAt, IsQuietPhase, LoadsStood, QuietLoadsLaw}

-- lines that may set words
abbrev may_set : Line → Bool
may_set told.Connect = true
may_set told.Change = true
may_set told.Quit = true
may_set told.Show = true
may_set _ = false

abbrev asks_set : Ask → Bool
asks_set asks.Set = true
asks_set asks.Connect = true
asks_set asks.Act = true
asks_set asks.Move = true
asks_set _ = false

-- an entry of no action
abbrev pub is_calm : Entry → Bool
is_calm (says.Set word version flags) = false
is_calm (says.Connect action thread account user host) = false
is_calm (says.Act action) = false
is_calm (says.Take row version) = false
is_calm (says.Give row version from) = false
is_calm _ = true

abbrev SetsNone : Entry → Type 0
SetsNone entry = is_calm entry ≡ true

fits_none : (ask : Ask) (entry : Entry) → fits ask entry ≡ true → asks_set ask ≡ false → SetsNone entry
fits_none asks.Set entry f none = absurd (cc)
fits_none asks.Connect entry f none = absurd (cc)
fits_none asks.Act entry f none = absurd (cc)
fits_none asks.Move entry f none = absurd (cc)
fits_none ask (says.Set word version flags) f none = absurd (cc)
fits_none ask (says.Connect action thread account user host) f none = absurd (cc)
fits_none ask (says.Act action) f none = absurd (cc)
fits_none ask (says.Take row version) f none = absurd (cc)
fits_none ask (says.Give row version from) f none = absurd (cc)
fits_none ask _ f none = refl

calm_word : (entry : Entry) → is_calm entry ≡ true → word_change entry ≡ []
calm_word (says.Set word version flags) q = absurd (cc)
calm_word _ q = refl

abbrev AreBare : List Item → Type 0
AreBare items = Each (λ (item : Item). asks_set item.ask ≡ false) items

none_behind : (ask : Ask) (part : List Entry) → asks_set ask ≡ false → Each SetsNone (behind ask part) → Each SetsNone part
unfolding behind
none_behind ask [] none each = tt
none_behind ask (e ∷ es) none each = at (fits ask e) refl each (λ more. none_behind ask es none more) where
  at : (b : Bool) → fits ask e ≡ b → Each SetsNone (if b then behind ask es else e ∷ es) → (Each SetsNone (behind ask es) → Each SetsNone es) → Each SetsNone (e ∷ es)
  at true f each go = (fits_none ask e f none, go each)
  at false f each go = each

none_step : (often : Often) (ask : Ask) (part rest : List Entry) → asks_set ask ≡ false → step often ask part ≡ Ok rest → Each SetsNone rest → Each SetsNone part
none_step One ask [] rest none s each = absurd (cc)
none_step One ask (e ∷ es) rest none s each = at (fits ask e) refl s where
  at : (b : Bool) → fits ask e ≡ b → ◌≡◌ {A = Result (List Entry) (List Entry)} (if b then Ok es else Err (e ∷ es)) (Ok rest) → Each SetsNone (e ∷ es)
  at true f s = let same : rest ≡ es = cc in (fits_none ask e f none, subst (Each SetsNone) same each)
  at false f s = absurd (cc)
none_step Maybe ask [] rest none s each = tt
none_step Maybe ask (e ∷ es) rest none s each = at (fits ask e) refl s where
  at : (b : Bool) → fits ask e ≡ b → ◌≡◌ {A = Result (List Entry) (List Entry)} (if b then Ok es else Ok (e ∷ es)) (Ok rest) → Each SetsNone (e ∷ es)
  at true f s = let same : rest ≡ es = cc in (fits_none ask e f none, subst (Each SetsNone) same each)
  at false f s = let same : rest ≡ e ∷ es = cc in subst (Each SetsNone) same each
none_step Many ask part rest none s each = let same : rest ≡ behind ask part = cc in none_behind ask part none (subst (Each SetsNone) same each)

none_cut : (items : List Item) (part rest : List Entry) → AreBare items → cut items part ≡ Ok rest → Each SetsNone rest → Each SetsNone part
unfolding cut
none_cut [] part rest bare s each = let same : rest ≡ part = cc in subst (Each SetsNone) same each
none_cut (item ∷ items) part rest bare s each = at (step item.often item.ask part) refl s (λ more e. none_cut items more rest bare.1 e each) where
  at : (r : Result (List Entry) (List Entry)) → step item.often item.ask part ≡ r → then_cut r (cut items) ≡ Ok rest → ((more : List Entry) → cut items more ≡ Ok rest → Each SetsNone more) → Each SetsNone part
  at (Ok more) e s go = none_step item.often item.ask part more bare.0 e (go more s)
  at (Err more) e s go = absurd (cc)

bare_join : (xs ys : List Item) → AreBare xs → AreBare ys → AreBare (xs ++ ys)
bare_join [] ys a b = b
bare_join (x ∷ xs) ys a b = (a.0, bare_join xs ys a.1 b)

bare_added : (rows : List ℕ) → AreBare (map added rows)
bare_added [] = tt
bare_added (row ∷ rows) = (refl, bare_added rows)

bare_settling : (rows : List ℕ) → AreBare (settling rows)
bare_settling [] = tt
bare_settling (row ∷ rows) = (refl, (refl, bare_added rows))

bare_counting : (slot : Option ℕ) (event : Opened) (b : Bool) → AreBare (counting slot event b)
bare_counting slot event false = tt
bare_counting slot event true = at event.subject.kind where
  at : (kind : EventKind) → AreBare (one (asks.Summary (counted_slot slot event.verdict) event.subject.cell) ∷ (digest_of kind ++ puts))
  at kinds.Statement = (refl, (refl, (refl, (refl, (refl, tt)))))
  at kinds.Wait = (refl, (refl, (refl, (refl, tt))))
  at kinds.Stage = (refl, (refl, (refl, (refl, tt))))
  at kinds.Transaction = (refl, (refl, (refl, (refl, tt))))

bare_ending : (slot : Option ℕ) (event : Opened) → AreBare (ending slot event)
bare_ending slot event = (refl, bare_counting slot event (is_let_through event.verdict))

bare_either : (b : Bool) (xs : List Item) → AreBare xs → AreBare (if b then xs else [])
bare_either true xs h = h
bare_either false xs h = tt

bare_first : (slot : Option ℕ) (events : List Opened) → AreBare (ending_first slot events)
bare_first slot [] = tt
bare_first slot (event ∷ events) = bare_ending slot event

bare_stage : (slot : Option ℕ) (events : List Opened) → AreBare (ending_stage slot events)
bare_stage slot [] = tt
bare_stage slot (event ∷ events) = bare_either (is_stage event.subject.kind) (ending slot event) (bare_ending slot event)

bare_both : (slot : Option ℕ) (events : List Opened) → AreBare (ending_both slot events)
bare_both slot [] = tt
bare_both slot (event ∷ events) = bare_join (ending slot event) _ (bare_ending slot event) (bare_either (is_stage event.subject.kind) (ending_first slot events) (bare_first slot events))

bare_shape : (context : Context) (line : Line) → may_set line ≡ false → AreBare (shape context line)
bare_shape context told.Connect q = absurd (cc)
bare_shape context (told.Start subject) q = (refl, (refl, tt))
bare_shape context (told.Stage subject) q = bare_join (ending_stage context.slot context.opened) _ (bare_stage context.slot context.opened) (refl, (refl, tt))
bare_shape context told.StageEnd q = bare_stage context.slot context.opened
bare_shape context told.End q = bare_both context.slot context.opened
bare_shape context told.Spend q = tt
bare_shape context told.Change q = absurd (cc)
bare_shape context told.Quit q = absurd (cc)
bare_shape context told.Show q = absurd (cc)
bare_shape context told.Query q = (refl, (refl, (refl, tt)))
bare_shape context (told.Refused error) q = (refl, tt)
bare_shape context told.Close q = bare_settling context.held

-- the lines of a block that asks for nothing of the administration
sql_bare : (request : Request) → sql_changes request ≡ [] → may_set (sql_line request) ≡ false
sql_bare (requests.Refused error) e = refl
sql_bare (requests.Query select) e = refl
sql_bare (requests.Show select) e = absurd (cc)
sql_bare (requests.Truncate what) e = absurd (cc)
sql_bare (requests.Update update) e = absurd (cc)
sql_bare (requests.Insert insert) e = absurd (cc)
sql_bare (requests.Delete delete) e = absurd (cc)

line_bare : (line : BlockLine) → changes_on line ≡ [] → may_set (line_in line) ≡ false
line_bare said.Quit e = absurd (cc)
line_bare (said.Sql text) e = sql_bare (request_of text) e
line_bare (said.Wait class) e = refl
line_bare (said.TableWait class table) e = refl
line_bare (said.Statement class digest) e = refl
line_bare (said.Transaction access) e = refl
line_bare (said.Stage class) e = refl
line_bare said.StageEnd e = refl
line_bare (said.Spend time) e = refl
line_bare said.End e = refl
line_bare (said.EndStatement numbers) e = refl
line_bare (said.Repeat times) e = refl
line_bare said.Done e = refl

none_front : {A : Type 0} (xs ys : List A) → xs ++ ys ≡ [] → (xs ≡ []) × (ys ≡ [])
none_front [] ys e = (refl, e)
none_front (x ∷ xs) ys e = absurd (cc)

abbrev BareLines : List Line → Type 0
BareLines ls = Each (λ (line : Line). may_set line ≡ false) ls

lines_bare : (ls : List BlockLine) → flat_map changes_on ls ≡ [] → BareLines (map line_in ls ++ told.Close ∷ [])
lines_bare [] e = (refl, tt)
lines_bare (l ∷ ls) e = let parts = none_front {A = Asked} (changes_on l) (flat_map changes_on ls) e in (line_bare l parts.0, lines_bare ls parts.1)

connect_bare : (connect : Option Connect) (ls : List Line) → connect_changes connect ≡ [] → BareLines ls → BareLines (connect_lines connect ++ ls)
connect_bare None ls e bare = bare
connect_bare (Some names) ls e bare = absurd (cc)

block_bare : (block : Said) → changes_in block ≡ [] → BareLines (lines_in block)
block_bare block e =
    let parts = none_front {A = Asked} (connect_changes block.connect) (flat_map changes_on (written_out block.lines)) e in
    connect_bare block.connect (map line_in (written_out block.lines) ++ told.Close ∷ []) parts.0 (lines_bare (written_out block.lines) parts.1)

-- the blocks of the phase of a number
abbrev BareAt : ℕ → Block → Type 0
BareAt number block = block.phase ≡ number → BareLines block.lines

blocks_bare : (number phase : ℕ) (saids : List Said) (reports : List BlockReport) (blocks : List Block) (rest : List Block) → AreBlocksOf phase saids reports blocks → (phase ≡ number → Each (λ (block : Said). changes_in block ≡ []) saids)
    → Each (BareAt number) rest → Each (BareAt number) (blocks ++ rest)
blocks_bare number phase [] [] [] rest are quiet more = more
blocks_bare number phase (s ∷ ss) (r ∷ rs) (b ∷ bs) rest are quiet more = (
  (λ e. subst BareLines (sym are.0.lines) (block_bare s (quiet (sym are.0.phase_is ∙ e)).0)),
  blocks_bare number phase ss rs bs rest are.1 (λ e. (quiet e).1) more,
)
blocks_bare number phase [] [] (b ∷ bs) rest are quiet more = absurd are
blocks_bare number phase [] (r ∷ rs) blocks rest are quiet more = absurd are
blocks_bare number phase (s ∷ ss) [] blocks rest are quiet more = absurd are
blocks_bare number phase (s ∷ ss) (r ∷ rs) [] rest are quiet more = absurd are

phases_bare : (number first : ℕ) (phases : List Phase) (reports : List PhaseParts) (blocks : List (List Block)) → ArePhasesOf first phases reports blocks → IsQuietAt number first phases → Each (BareAt number) (all_blocks blocks)
phases_bare number first [] [] [] are quiet = tt
phases_bare number first (p ∷ ps) (r ∷ rs) (bs ∷ bss) are quiet = blocks_bare number first p.blocks r.blocks bs (all_blocks bss) are.1 quiet.0 (phases_bare number (first + 1) ps rs bss are.2 quiet.1)
phases_bare number first [] [] (b ∷ bs) are quiet = absurd are
phases_bare number first [] (r ∷ rs) blocks are quiet = absurd are
phases_bare number first (p ∷ ps) [] blocks are quiet = absurd are
phases_bare number first (p ∷ ps) (r ∷ rs) [] are quiet = absurd are

-- so their entries set no word
abbrev pub Still : ℕ → Placed → Type 0
Still number place = place.phase ≡ number → SetsNone place.entry

still_part : (number phase session : ℕ) (line : Line) (c : Context) (part : List Entry) → (phase ≡ number → Each SetsNone part) → Each (Still number) (placed_part phase session line c part)
still_part number phase session line c [] none = tt
still_part number phase session line c (e ∷ es) none = ((λ q. (none q).0), still_part number phase session line (noted (subject_of line) c e) es (λ q. (none q).1))

still_lines : (number phase session : ℕ) (c : Context) (ls : List Line) (parts : List (List Entry)) → (phase ≡ number → BareLines ls) → AreShaped c ls parts → Each (Still number) (placed_lines phase session c ls parts)
still_lines number phase session c [] parts bare shaped = tt
still_lines number phase session c (l ∷ ls) [] bare shaped = absurd shaped
still_lines number phase session c (l ∷ ls) (part ∷ parts) bare shaped =
    each_join (Still number) (placed_part phase session l (turned c) part) (placed_lines phase session (after c l part) ls parts)
    (still_part number phase session l (turned c) part (λ q. none_cut (shape c l) part [] (bare_shape c l (bare q).0) shaped.0 tt))
    (still_lines number phase session (after c l part) ls parts (λ q. (bare q).1) shaped.1)

still_blocks : (number : ℕ) (earlier : List Block) (low : ℕ) (blocks : List Block) → AreShapedBehind earlier low blocks → Each (BareAt number) blocks → Each (Still number) (places_behind earlier blocks)
unfolding places_behind
still_blocks number earlier low [] shaped bare = tt
still_blocks number earlier low (b ∷ bs) shaped bare =
    each_join (Still number) (placed_lines b.phase b.session (told_by b.session fresh earlier) b.lines b.parts) (places_behind (earlier ++ b ∷ []) bs)
    (still_lines number b.phase b.session (told_by b.session fresh earlier) b.lines b.parts bare.0 shaped.1) (still_blocks number (earlier ++ b ∷ []) b.phase bs shaped.2 bare.1)

-- and the words have behind the phase the versions of its beginning
same_words : (number : ℕ) (all : List Placed) → Each (Still number) all → each_of word_change (up_to_phase number all) ≡ each_of word_change (before_phase number all)
same_words number [] still = refl
same_words number (p ∷ ps) still = on (nat_le p.phase number) refl (nat_lt p.phase number) refl (same_words number ps still.1) where
  low : List Change
  low = each_of word_change (before_phase number ps)

  on : (a : Bool) → nat_le p.phase number ≡ a → (b : Bool) → nat_lt p.phase number ≡ b → each_of word_change (up_to_phase number ps) ≡ each_of word_change (before_phase number ps)
      → each_of word_change (cond a (p ∷ []) [] ++ up_to_phase number ps) ≡ each_of word_change (cond b (p ∷ []) [] ++ before_phase number ps)
  on true q true r ih = ap (λ z. word_change p.entry ++ z) ih
  on true q false r ih = ap (λ z. z ++ each_of word_change (up_to_phase number ps)) (calm_word p.entry (still.0 (equal p.phase number q r))) ∙ ih where
    equal : (a b : ℕ) → nat_le a b ≡ true → nat_lt a b ≡ false → a ≡ b
    equal a b q r = grind (arith, q, r)
  on false q true r ih = absurd (never p.phase number q r) where
    never : (a b : ℕ) → nat_le a b ≡ false → nat_lt a b ≡ true → ⊥
    never a b q r = grind (arith, q, r)
  on false q false r ih = ih

-- the loads of a line
loads_stood : (all earlier : List Placed) (place : Placed) (number : ℕ) (loads rest : List Change) → place.phase ≡ number → each_of word_change (up_to_phase number all) ≡ each_of word_change (before_phase number all)
    → LoadsKeep all earlier place (loads ++ rest) → Each (λ (load : Change). load.version ≡ word_version (before_phase number all) load.row) loads
loads_stood all earlier place number [] rest e same keep = tt
loads_stood all earlier place number (load ∷ loads) rest e same keep =
    let top : load.version ≤ times (is_of load.row) (each_of word_change (before_phase number all)) =
    subst (λ z. load.version ≤ times (is_of load.row) z) same (subst (λ n. load.version ≤ times (is_of load.row) (each_of word_change (up_to_phase n all))) e keep.1) in
    let low : times (is_of load.row) (each_of word_change (before_phase number all)) ≤ load.version =
    subst (λ n. times (is_of load.row) (each_of word_change (before_phase n all)) ≤ load.version) e (least _ _ _ load.version keep.0) in
    (omega (arith, top, low), loads_stood all earlier place number loads rest e same keep.2) where
      least : (a b c v : ℕ) → max (max a b) c ≤ v → a ≤ v
      least a b c v l = omega (arith, l)

all_stood : (all earlier ps : List Placed) (number : ℕ) → each_of word_change (up_to_phase number all) ≡ each_of word_change (before_phase number all) → AreFlooredBehind all earlier ps → Each (LoadsStood all number) ps
all_stood all earlier [] number same floored = tt
all_stood all earlier (p ∷ ps) number same floored =
    ((λ e. loads_stood all earlier p number (loads_of p) (word_change p.entry) e same floored.1), all_stood all (p ∷ earlier) ps number same floored.2)

pub quiet_still : (setting : Setting) (phases : List Phase) (report : ReportParts) (run : IsRun setting phases report) (number : ℕ) → IsQuietAt number 1 phases → Each (Still number) (places (all_blocks run.blocks))
quiet_still setting phases report run number quiet = still_blocks number [] 0 (all_blocks run.blocks) run.rules.shaped (phases_bare number 1 phases report.phases run.blocks run.phases_are quiet)

pub quiet_loads : QuietLoadsLaw
quiet_loads setting phases report run number quiet =
    let all : List Placed = places (all_blocks run.blocks) in
    all_stood all [] all number
    (same_words number all (quiet_still setting phases report run number quiet)) run.rules.joint.floored
