-- Which events the entries of a line end and start, by its shape.
use Rattle.std.proofs.Common.{ℕ, zero, suc, ◌≡◌, Bool, true, false, List, [], ◌∷◌, ◌++◌, map, Option, Some, None, refl, ap, sym, ◌∙◌}
use Rattle.std.specs.Prelude.{Result, Ok, Err, if◌then◌else◌}
use Rattle.pfs_event.specs.Verdicts.{is_let_through}
use Rattle.pfs_event.specs.declared.entry.Entry.{Entry}
use Rattle.pfs_event.specs.declared.entry.Entry.TheVariants as says
use Rattle.pfs_event.specs.declared.kind.EventKind.{EventKind}
use Rattle.pfs_event.specs.declared.kind.EventKind.TheVariants as kinds
use Rattle.pfs_exec.specs.Requests.{request_of}
use Rattle.pfs_exec.specs.declared.requests.Request.{Request}
use Rattle.pfs_exec.specs.declared.requests.Request.TheVariants as requests
use Rattle.pfs_model.specs.Chains.{Each}
use Rattle.pfs_model.specs.Contexts.{Context}
use Rattle.pfs_model.specs.Contexts.{subject_of as told_subject}
use Rattle.pfs_model.specs.Cuts.{behind, cut, step, then_cut}
use Rattle.pfs_model.specs.EntryAsks.{fits}
use Rattle.pfs_model.specs.Shapes.{added, counted_slot, counting, digest_of, ending, ending_both, ending_first, ending_stage, is_stage, one, puts, settling, shape, starting}
use Rattle.pfs_model.specs.declared.lines.Line.TheVariants as told
use Rattle.pfs_model.specs.declared.lines.Opened.{Opened}
use Rattle.pfs_model.specs.declared.lines.Subject.{Subject}
use Rattle.pfs_model.specs.declared.shapes.Ask.{Ask}
use Rattle.pfs_model.specs.declared.shapes.Ask.TheVariants as asks
use Rattle.pfs_model.specs.declared.shapes.Item.{Item}
use Rattle.pfs_model.specs.declared.shapes.Often.{Often}
use Rattle.pfs_model.specs.declared.shapes.Often.TheVariants.{One, Maybe, Many}
use Rattle.pfs_runs.specs.ScriptLines.{line_in, sql_line, stage_on, statement_on, subject_in, transaction_on, wait_on}
use Rattle.pfs_script.specs.Brackets.{ended_by}
use Rattle.pfs_script.specs.Events.{subject_of}
use Rattle.pfs_script.specs.Events.{Subject as Said}
use Rattle.pfs_script.specs.Marks.{Mark, Opens, Ends, EndsStage, Passes, mark_of}
use Rattle.pfs_script.specs.declared.blocks.BlockLine.{BlockLine}
use Rattle.pfs_script.specs.declared.blocks.BlockLine.TheVariants as said

-- what an entry does to the events that are open: it starts one, or ends the innermost
pub data Tag : Type 0 where
  Begins : Tag
  Closes : Tag

abbrev pub tag : Entry → List Tag
tag (says.Start event verdict consumers thread class table) = Begins ∷ []
tag (says.End event last consumers thread) = Closes ∷ []
tag _ = []

abbrev pub tags : List Entry → List Tag
tags [] = []
tags (entry ∷ entries) = tag entry ++ tags entries

abbrev tag_ask : Ask → List Tag
tag_ask (asks.Start slot lost table) = Begins ∷ []
tag_ask (asks.End through) = Closes ∷ []
tag_ask _ = []

abbrev tags_asked : List Item → List Tag
tags_asked [] = []
tags_asked (item ∷ items) = tag_ask item.ask ++ tags_asked items

fits_tag : (ask : Ask) (entry : Entry) → fits ask entry ≡ true → tag entry ≡ tag_ask ask
fits_tag (asks.Start slot lost table) (says.Start event verdict consumers thread class of_table) f = refl
fits_tag (asks.End through) (says.End event last consumers thread) f = refl
fits_tag (asks.Start slot lost table) _ f = absurd (cc)
fits_tag (asks.End through) _ f = absurd (cc)
fits_tag _ (says.Start event verdict consumers thread class of_table) f = absurd (cc)
fits_tag _ (says.End event last consumers thread) f = absurd (cc)
fits_tag ask _ f = refl

-- what is merely allowed starts and ends nothing
abbrev IsTame : Often → Ask → Type 0
IsTame One ask = Unit {0}
IsTame Maybe ask = tag_ask ask ≡ []
IsTame Many ask = tag_ask ask ≡ []

abbrev AreTame : List Item → Type 0
AreTame items = Each (λ (item : Item). IsTame item.often item.ask) items

no_tags : (ask : Ask) (part : List Entry) → tag_ask ask ≡ [] → tags part ≡ tags (behind ask part)
unfolding behind
no_tags ask [] none = refl
no_tags ask (e ∷ es) none = at (fits ask e) refl (no_tags ask es none) where
  at : (b : Bool) → fits ask e ≡ b → tags es ≡ tags (behind ask es) → tags (e ∷ es) ≡ tags (if b then behind ask es else e ∷ es)
  at true f h = ap (λ z. z ++ tags es) (fits_tag ask e f ∙ none) ∙ h
  at false f h = refl

step_tags : (often : Often) (ask : Ask) (part rest : List Entry) → IsTame often ask → step often ask part ≡ Ok rest → tags part ≡ tag_ask ask ++ tags rest
step_tags One ask [] rest t s = absurd (cc)
step_tags One ask (e ∷ es) rest t s = at (fits ask e) refl s where
  at : (b : Bool) → fits ask e ≡ b → ◌≡◌ {A = Result (List Entry) (List Entry)} (if b then Ok es else Err (e ∷ es)) (Ok rest) → tags (e ∷ es) ≡ tag_ask ask ++ tags rest
  at true f s = let same : es ≡ rest = cc in ap (λ z. z ++ tags es) (fits_tag ask e f) ∙ ap (λ z. tag_ask ask ++ tags z) same
  at false f s = absurd (cc)
step_tags Maybe ask [] rest t s = let same : [] ≡ rest = cc in ap tags same ∙ ap (λ z. z ++ tags rest) (sym t)
step_tags Maybe ask (e ∷ es) rest t s = at (fits ask e) refl s where
  at : (b : Bool) → fits ask e ≡ b → ◌≡◌ {A = Result (List Entry) (List Entry)} (if b then Ok es else Ok (e ∷ es)) (Ok rest) → tags (e ∷ es) ≡ tag_ask ask ++ tags rest
  at true f s = let same : es ≡ rest = cc in ap (λ z. z ++ tags es) (fits_tag ask e f) ∙ ap (λ z. tag_ask ask ++ tags z) same
  at false f s = let same : e ∷ es ≡ rest = cc in ap tags same ∙ ap (λ z. z ++ tags rest) (sym t)
step_tags Many ask part rest t s = let same : behind ask part ≡ rest = cc in no_tags ask part t ∙ (ap tags same ∙ ap (λ z. z ++ tags rest) (sym t))

tags_then : (xs ys : List Tag) (zs : List Tag) → (xs ++ ys) ++ zs ≡ xs ++ (ys ++ zs)
tags_then [] ys zs = refl
tags_then (x ∷ xs) ys zs = ap (λ z. x ∷ z) (tags_then xs ys zs)

cut_tags : (items : List Item) (part rest : List Entry) → AreTame items → cut items part ≡ Ok rest → tags part ≡ tags_asked items ++ tags rest
unfolding cut
cut_tags [] part rest t s = let same : part ≡ rest = cc in ap tags same
cut_tags (item ∷ items) part rest t s = at (step item.often item.ask part) refl s (λ more e. cut_tags items more rest t.1 e) where
  at : (r : Result (List Entry) (List Entry)) → step item.often item.ask part ≡ r → then_cut r (cut items) ≡ Ok rest → ((more : List Entry) → cut items more ≡ Ok rest → tags more ≡ tags_asked items ++ tags rest)
      → tags part ≡ (tag_ask item.ask ++ tags_asked items) ++ tags rest
  at (Ok more) e s go =
      step_tags item.often item.ask part more t.0 e ∙ (ap (λ z. tag_ask item.ask ++ z) (go more s) ∙ sym (tags_then (tag_ask item.ask) (tags_asked items) (tags rest)))
  at (Err more) e s go = absurd (cc)

-- so many events end, and then one may start
abbrev pub asked : ℕ → Bool → List Tag
asked zero true = Begins ∷ []
asked zero false = []
asked (suc n) b = Closes ∷ asked n b

record Has (items : List Item) (asks : List Tag) : Type 0 where
  tame : AreTame items
  are : tags_asked items ≡ asks

tame_join : (xs ys : List Item) → AreTame xs → AreTame ys → AreTame (xs ++ ys)
tame_join [] ys a b = b
tame_join (x ∷ xs) ys a b = (a.0, tame_join xs ys a.1 b)

asked_join : (xs ys : List Item) → tags_asked (xs ++ ys) ≡ tags_asked xs ++ tags_asked ys
asked_join [] ys = refl
asked_join (x ∷ xs) ys = ap (λ z. tag_ask x.ask ++ z) (asked_join xs ys) ∙ sym (tags_then (tag_ask x.ask) (tags_asked xs) (tags_asked ys))

join : (xs ys : List Item) (front rest : List Tag) → Has xs front → Has ys rest → Has (xs ++ ys) (front ++ rest)
join xs ys front rest a b = record { tame = tame_join xs ys a.tame b.tame; are = asked_join xs ys ∙ (ap (λ z. z ++ tags_asked ys) a.are ∙ ap (λ z. front ++ z) b.are) }

has_added : (rows : List ℕ) → Has (map added rows) []
has_added [] = record { tame = tt; are = refl }
has_added (row ∷ rows) = let r = has_added rows in record { tame = (tt, r.tame); are = r.are }

has_settling : (rows : List ℕ) → Has (settling rows) []
has_settling [] = record { tame = tt; are = refl }
has_settling (row ∷ rows) = let r = has_added rows in record { tame = (tt, (tt, r.tame)); are = r.are }

has_counting : (slot : Option ℕ) (event : Opened) (b : Bool) → Has (counting slot event b) []
has_counting slot event false = record { tame = tt; are = refl }
has_counting slot event true = at event.subject.kind where
  at : (kind : EventKind) → Has (one (asks.Summary (counted_slot slot event.verdict) event.subject.cell) ∷ (digest_of kind ++ puts)) []
  at kinds.Statement = record { tame = (tt, (refl, (refl, (refl, (refl, tt))))); are = refl }
  at kinds.Wait = record { tame = (tt, (refl, (refl, (refl, tt)))); are = refl }
  at kinds.Stage = record { tame = (tt, (refl, (refl, (refl, tt)))); are = refl }
  at kinds.Transaction = record { tame = (tt, (refl, (refl, (refl, tt)))); are = refl }

has_ending : (slot : Option ℕ) (event : Opened) → Has (ending slot event) (Closes ∷ [])
has_ending slot event = let r = has_counting slot event (is_let_through event.verdict) in record { tame = (tt, r.tame); are = ap (λ z. Closes ∷ z) r.are }

abbrev kinds_told : List Opened → List EventKind
kinds_told events = map (λ (event : Opened). event.subject.kind) events

has_stage : (slot : Option ℕ) (events : List Opened) → Has (ending_stage slot events) (asked (ended_by EndsStage (kinds_told events)) false)
has_stage slot [] = record { tame = tt; are = refl }
has_stage slot (event ∷ events) = at event.subject.kind where
  at : (kind : EventKind) → Has (if is_stage kind then ending slot event else []) (asked (ended_by EndsStage (kind ∷ kinds_told events)) false)
  at kinds.Stage = has_ending slot event
  at kinds.Wait = record { tame = tt; are = refl }
  at kinds.Statement = record { tame = tt; are = refl }
  at kinds.Transaction = record { tame = tt; are = refl }

has_both : (slot : Option ℕ) (events : List Opened) → Has (ending_both slot events) (asked (ended_by Ends (kinds_told events)) false)
has_both slot [] = record { tame = tt; are = refl }
has_both slot (event ∷ events) = at event.subject.kind events where
  at : (kind : EventKind) (others : List Opened) → Has (ending slot event ++ (if is_stage kind then ending_first slot others else [])) (asked (ended_by Ends (kind ∷ kinds_told others)) false)
  at kinds.Stage [] = join (ending slot event) [] (Closes ∷ []) [] (has_ending slot event) (record { tame = tt; are = refl })
  at kinds.Stage (other ∷ others) = join (ending slot event) (ending slot other) (Closes ∷ []) (Closes ∷ []) (has_ending slot event) (has_ending slot other)
  at kinds.Wait others = join (ending slot event) [] (Closes ∷ []) [] (has_ending slot event) (record { tame = tt; are = refl })
  at kinds.Statement others = join (ending slot event) [] (Closes ∷ []) [] (has_ending slot event) (record { tame = tt; are = refl })
  at kinds.Transaction others = join (ending slot event) [] (Closes ∷ []) [] (has_ending slot event) (record { tame = tt; are = refl })

stage_then : (slot : Option ℕ) (subject : Subject) (events : List Opened) → Has (ending_stage slot events ++ starting slot subject) (asked (ended_by (Opens kinds.Stage) (kinds_told events)) true)
stage_then slot subject [] = record { tame = (tt, (refl, tt)); are = refl }
stage_then slot subject (event ∷ events) = at event.subject.kind where
  at : (kind : EventKind) → Has ((if is_stage kind then ending slot event else []) ++ starting slot subject) (asked (ended_by (Opens kinds.Stage) (kind ∷ kinds_told events)) true)
  at kinds.Stage = join (ending slot event) (starting slot subject) (Closes ∷ []) (Begins ∷ []) (has_ending slot event) (record { tame = (tt, (refl, tt)); are = refl })
  at kinds.Wait = record { tame = (tt, (refl, tt)); are = refl }
  at kinds.Statement = record { tame = (tt, (refl, tt)); are = refl }
  at kinds.Transaction = record { tame = (tt, (refl, tt)); are = refl }

has_start : (slot : Option ℕ) (subject : Subject) → Has (starting slot subject) (asked 0 true)
has_start slot subject = record { tame = (tt, (refl, tt)); are = refl }

-- the lines that begin and end blocks, and those of actions and queries
has_connect : (context : Context) → Has (shape context told.Connect) []
has_connect context = record { tame = (tt, (refl, (refl, (refl, tt)))); are = refl }

has_change : (context : Context) → Has (shape context told.Change) []
has_change context = join (settling context.held) _ [] [] (has_settling context.held) (record { tame = (tt, (refl, (refl, (refl, (tt, tt))))); are = refl })

has_quit : (context : Context) → Has (shape context told.Quit) []
has_quit context = join (settling context.held) _ [] [] (has_settling context.held) (record { tame = (tt, (refl, (refl, (refl, tt)))); are = refl })

has_show : (context : Context) → Has (shape context told.Show) []
has_show context = join (settling context.held) _ [] [] (has_settling context.held) (record { tame = (tt, (refl, (refl, (refl, (tt, tt))))); are = refl })

has_sql : (context : Context) (request : Request) → Has (shape context (sql_line request)) []
has_sql context (requests.Refused error) = record { tame = (tt, tt); are = refl }
has_sql context (requests.Query select) = record { tame = (tt, (refl, (tt, tt))); are = refl }
has_sql context (requests.Show select) = has_show context
has_sql context (requests.Truncate what) = has_change context
has_sql context (requests.Update update) = has_change context
has_sql context (requests.Insert insert) = has_change context
has_sql context (requests.Delete delete) = has_change context

abbrev pub begins : Mark → Bool
begins (Opens kind) = true
begins Ends = false
begins EndsStage = false
begins Passes = false

has_line : (context : Context) (line : BlockLine) → Has (shape context (line_in line)) (asked (ended_by (mark_of line) (kinds_told context.opened)) (begins (mark_of line)))
has_line context (said.Wait class) = has_start context.slot (wait_on class None)
has_line context (said.TableWait class table) = has_start context.slot (wait_on class (Some table))
has_line context (said.Statement class digest) = has_start context.slot (statement_on class digest)
has_line context (said.Transaction access) = has_start context.slot (transaction_on access)
has_line context (said.Stage class) = stage_then context.slot (stage_on class) context.opened
has_line context said.StageEnd = has_stage context.slot context.opened
has_line context (said.Spend time) = record { tame = tt; are = refl }
has_line context said.End = has_both context.slot context.opened
has_line context (said.EndStatement numbers) = has_both context.slot context.opened
has_line context said.Quit = has_quit context
has_line context (said.Sql text) = has_sql context (request_of text)
has_line context (said.Repeat times) = record { tame = tt; are = refl }
has_line context said.Done = record { tame = tt; are = refl }

nothing_behind : (xs : List Tag) → xs ++ [] ≡ xs
nothing_behind [] = refl
nothing_behind (x ∷ xs) = ap (λ z. x ∷ z) (nothing_behind xs)

cut_whole : (items : List Item) (asks : List Tag) (part : List Entry) → Has items asks → cut items part ≡ Ok [] → tags part ≡ asks
cut_whole items asks part h s = cut_tags items part [] h.tame s ∙ (nothing_behind (tags_asked items) ∙ h.are)

-- the entries of a script's line
pub line_tags : (context : Context) (line : BlockLine) (part : List Entry) → cut (shape context (line_in line)) part ≡ Ok [] → tags part ≡ asked (ended_by (mark_of line) (kinds_told context.opened)) (begins (mark_of line))
line_tags context line part s = cut_whole (shape context (line_in line)) _ part (has_line context line) s

pub connect_tags : (context : Context) (part : List Entry) → cut (shape context told.Connect) part ≡ Ok [] → tags part ≡ []
connect_tags context part s = cut_whole (shape context told.Connect) [] part (has_connect context) s

pub close_tags : (context : Context) (part : List Entry) → cut (shape context told.Close) part ≡ Ok [] → tags part ≡ []
close_tags context part s = cut_whole (shape context told.Close) [] part (has_settling context.held) s

-- what a line starts
sql_none : (request : Request) → told_subject (sql_line request) ≡ None
sql_none (requests.Refused error) = refl
sql_none (requests.Query select) = refl
sql_none (requests.Show select) = refl
sql_none (requests.Truncate what) = refl
sql_none (requests.Update update) = refl
sql_none (requests.Insert insert) = refl
sql_none (requests.Delete delete) = refl

abbrev pub as_told : Option Said → Option Subject
as_told None = None
as_told (Some subject) = Some (subject_in subject)

pub line_subject : (line : BlockLine) → told_subject (line_in line) ≡ as_told (subject_of line)
line_subject (said.Wait class) = refl
line_subject (said.TableWait class table) = refl
line_subject (said.Statement class digest) = refl
line_subject (said.Transaction access) = refl
line_subject (said.Stage class) = refl
line_subject said.StageEnd = refl
line_subject (said.Spend time) = refl
line_subject said.End = refl
line_subject (said.EndStatement numbers) = refl
line_subject said.Quit = refl
line_subject (said.Sql text) = sql_none (request_of text)
line_subject (said.Repeat times) = refl
line_subject said.Done = refl
