-- A session holds back an amount for each of 193 cells at most, so that is all it ever owes.
use Rattle.std.proofs.Common.{ℕ, ◌≡◌, ◌≤◌, ◌+◌, Bool, true, false, List, [], ◌∷◌, Option, Some, None, length, refl, ap, ◌∙◌, arith}
use Rattle.std.proofs.lemmas.List.{length-set}
use Rattle.pfs_admin.specs.SetupStatements.{most_of, word_count}
use Rattle.pfs_admin.specs.declared.changes.SetupStatement.{SetupStatement}
use Rattle.pfs_admin.specs.declared.changes.SetupStatement.TheVariants as statements
use Rattle.pfs_exec.specs.NewRows.{table_of}
use Rattle.pfs_event.specs.Verdicts.{is_let_through}
use Rattle.pfs_event.specs.declared.entry.Entry.{Entry}
use Rattle.pfs_event.specs.declared.open.Open.{Open}
use Rattle.pfs_levels.specs.Calls.{Call, Opening}
use Rattle.pfs_law_session.specs.Deeds.{Deed, Part}
use Rattle.pfs_law_session.specs.JournalLaws.{AreParts, state_behind}
use Rattle.pfs_rows.specs.declared.table.Table.{Table}
use Rattle.pfs_rows.specs.declared.table.Table.TheVariants as tables
use Rattle.pfs_session.specs.Ends.{EndsIn, DigestsIn}
use Rattle.pfs_session.specs.Settlements.{owed_from, owed_in, owed_by_state, settle_cost}
use Rattle.pfs_session.specs.SessionStates.{State, Book, Owed, nothing_held}
use Rattle.pfs_session.specs.Turns.{Step, StartsEvent, EndsEvent, Spends, SettlesHeld, Connects, Quits, Truncates, Changes, Inquires, Does, Played, Turn, AreTurns, state_after}
use Rattle.pfs_session.specs.declared.events.Numbers.{Numbers}
use Rattle.pfs_stat.specs.declared.Stat.{Stat}

abbrev width : State → ℕ
width s = length s.held

pub none_wide : length nothing_held ≡ 193
none_wide = refl

digest_in : (b : Bool) (s : State) (slot : ℕ) (what : Open) (numbers : Numbers) (calls : List Call) (entries : List Entry) (after : State) → DigestsIn b s slot what numbers calls entries after → width after ≡ width s
digest_in false s slot what numbers calls entries after d = ap width d.after_is
digest_in true s slot what numbers calls entries after d = ap width d.after_is ∙ length-set s.held _ _

ends_in : (s after : State) (slot : Option ℕ) (through : Bool) (what : Open) (others : List Open) (numbers : Numbers) (calls : List Call) (entries : List Entry)
    → EndsIn s slot through what others numbers calls entries after → width after ≡ width s
ends_in s after slot false what others numbers calls entries e = ap width e.after_is
ends_in s after None true what others numbers calls entries e = absurd e
ends_in s after (Some n) true what others numbers calls entries e =
    ap width e.puts.after_is
    ∙ (digest_in what.digested e.adds.between n what numbers e.adds.digested_calls e.adds.digested_entries e.among e.adds.digests ∙ (ap width e.adds.counts.after_is ∙ length-set s.held _ _))

step_wide : (s after : State) (step : Step) (calls : List Call) (entries : List Entry) → Does s step calls entries after → width s ≡ 193 → width after ≡ 193
step_wide s after (StartsEvent subject) calls entries d wide = ap width d.begins.after_is ∙ wide
step_wide s after (EndsEvent numbers) calls entries d wide = ends_in s after s.place.thread (is_let_through d.what.verdict) d.what d.others numbers calls entries d.ends ∙ wide
step_wide s after (Spends time) calls entries d wide = ap width d.2 ∙ wide
step_wide s after SettlesHeld calls entries d wide = ap width d.after_is ∙ none_wide
step_wide s after (Connects admin user host) calls entries d wide = ap width d.1 ∙ wide
step_wide s after (Quits admin) calls entries d wide = ap width d.1 ∙ wide
step_wide s after (Truncates admin what) calls entries d wide = ap width d.after_is ∙ wide
step_wide s after (Changes admin what) calls entries d wide = ap width d.after_is ∙ wide
step_wide s after (Inquires what) calls entries d wide = ap width d.after_is ∙ wide

turns_wide : (s : State) (turns : List Turn) → AreTurns s turns → width s ≡ 193 → width (state_after s turns) ≡ 193
turns_wide s [] are wide = wide
turns_wide s (turn ∷ turns) are wide = step_wide (state_after s turns) turn.after turn.step turn.calls turn.entries are.0 (turns_wide s turns are.1 wide)

pub parts_wide : (s : State) (parts : List Part) → AreParts s parts → width s ≡ 193 → width (state_behind s parts) ≡ 193
parts_wide s [] are wide = wide
parts_wide s (p ∷ ps) are wide = parts_wide (state_after s p.turns) ps are.1 (turns_wide s p.turns are.0.are_turns wide)

owed_few : (slot cell : ℕ) (held : List (Option Stat)) → length (owed_from slot cell held) ≤ length held
unfolding owed_from
owed_few slot cell [] = omega arith
owed_few slot cell (None ∷ held) = omega (arith, owed_few slot (cell + 1) held)
owed_few slot cell (Some amount ∷ held) = omega (arith, owed_few slot (cell + 1) held)

owed_in_few : (slot : Option ℕ) (held : List (Option Stat)) → length held ≡ 193 → length (owed_in slot held) ≤ 193
owed_in_few None held wide = omega arith
owed_in_few (Some slot) held wide = omega (arith, wide, owed_few slot 0 held)

pub owed_fits : (s : State) → width s ≡ 193 → length (owed_by_state s) ≤ 193
owed_fits s wide = owed_in_few s.place.thread s.held wide

cost_fits : (owed : List Owed) → length owed ≤ 193 → settle_cost owed ≤ 194
cost_fits [] few = omega arith
cost_fits (one ∷ others) few = omega (arith, few)

pub settling_fits : (s : State) → width s ≡ 193 → settle_cost (owed_by_state s) ≤ 194
settling_fits s wide = cost_fits (owed_by_state s) (owed_fits s wide)

-- a statement sets 64 words at most
table_words : (table : Table) → word_count table ≤ 64
table_words (tables.Summary kind table) = omega arith
table_words (tables.Events kind table) = omega arith
table_words tables.DigestSummary = omega arith
table_words tables.Accounts = omega arith
table_words tables.Users = omega arith
table_words tables.Hosts = omega arith
table_words tables.SetupActors = omega arith
table_words tables.SetupObjects = omega arith
table_words tables.SetupInstruments = omega arith
table_words tables.SetupConsumers = omega arith
table_words tables.Threads = omega arith

pub words_fit : (what : SetupStatement) → most_of what ≤ 64
words_fit (statements.Update update) = table_words update.table
words_fit (statements.Insert insert) = table_words (table_of insert.row)
words_fit (statements.Delete delete) = table_words delete.table
words_fit statements.Show = omega arith

-- so it is behind steps that were played
pub played_wide : (steps : List Step) (old new : Book) (was now : Opening → List Call → Type 0) → Played steps old new was now → width old.state ≡ 193 → width new.state ≡ 193
played_wide steps old new was now p wide = ap width p.state_is ∙ turns_wide old.state p.turns p.are_turns wide
