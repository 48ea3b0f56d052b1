-- What a line asks of a session's journal and allows there: a shape is a list of items, and goes by what the entries
-- so far tell.
use Rattle.std.specs.Prelude.{ℕ, Bool, true, false, ◌&&◌, if◌then◌else◌, List, [], ◌∷◌, ◌++◌, map, Option, None, is_some, is_none}
use Rattle.pfs_event.specs.declared.kind.EventKind.{EventKind}
use Rattle.pfs_event.specs.declared.kind.EventKind.TheVariants as kinds
use Rattle.pfs_event.specs.declared.verdict.Verdict.{Verdict}
use Rattle.pfs_event.specs.declared.verdict.Verdict.TheVariants.{Attributed}
use Rattle.pfs_model.specs.declared.lines.Line.{Line}
use Rattle.pfs_model.specs.declared.lines.Line.TheVariants as lines
use Rattle.pfs_model.specs.declared.lines.Opened.{Opened}
use Rattle.pfs_model.specs.declared.lines.Subject.{Subject}
use Rattle.pfs_model.specs.declared.shapes.Ask.{Ask}
use Rattle.pfs_model.specs.declared.shapes.Ask.TheVariants as asks
use Rattle.pfs_model.specs.declared.shapes.Item.{Item}
use Rattle.pfs_model.specs.declared.shapes.Often.TheVariants.{One, Maybe, Many}
use Rattle.pfs_event.specs.Verdicts.{is_let_through}
use Rattle.pfs_model.specs.Contexts.{Context}

abbrev pub one : Ask → Item
one ask = record { often = One; ask = ask }

abbrev pub maybe : Ask → Item
maybe ask = record { often = Maybe; ask = ask }

abbrev pub many : Ask → Item
many ask = record { often = Many; ask = ask }

-- the slot in which an event counts
abbrev pub counted_slot : Option ℕ → Verdict → Option ℕ
counted_slot slot Attributed = slot
counted_slot slot _ = None

abbrev pub starting : Option ℕ → Subject → List Item
starting slot subject =
    one (asks.Start (is_some slot) (is_none subject.class) (is_some subject.table)) ∷ maybe asks.Put ∷ []

abbrev pub puts : List Item
puts = maybe asks.Put ∷ maybe asks.Put ∷ maybe asks.LongPut ∷ []

abbrev pub digest_of : EventKind → List Item
digest_of kinds.Statement = maybe asks.Digest ∷ []
digest_of kinds.Wait = []
digest_of kinds.Stage = []
digest_of kinds.Transaction = []

abbrev pub counting : Option ℕ → Opened → Bool → List Item
counting slot event true =
    one (asks.Summary (counted_slot slot event.verdict) event.subject.cell) ∷ (digest_of event.subject.kind ++ puts)
counting slot event false = []

-- which words an end loads goes by the printed slot and the printed verdict
abbrev pub ending : Option ℕ → Opened → List Item
ending slot event = one (asks.End (is_some slot && is_let_through event.verdict))
    ∷ counting slot event (is_let_through event.verdict)

abbrev pub is_stage : EventKind → Bool
is_stage kinds.Stage = true
is_stage kinds.Wait = false
is_stage kinds.Statement = false
is_stage kinds.Transaction = false

-- the innermost event ends
abbrev pub ending_first : Option ℕ → List Opened → List Item
ending_first slot [] = []
ending_first slot (event ∷ events) = ending slot event

-- where it is a stage
abbrev pub ending_stage : Option ℕ → List Opened → List Item
ending_stage slot [] = []
ending_stage slot (event ∷ events) = if is_stage event.subject.kind then ending slot event else []

-- and the event around it too, where it is a stage
abbrev pub ending_both : Option ℕ → List Opened → List Item
ending_both slot [] = []
ending_both slot (event ∷ events) = ending slot event ++ (if is_stage event.subject.kind then ending_first slot events
    else [])

abbrev pub added : ℕ → Item
added row = one (asks.Added row)

abbrev pub settling : List ℕ → List Item
settling [] = []
settling (row ∷ rows) = one asks.Settle ∷ added row ∷ map added rows

abbrev pub changes : List Item
changes = many asks.Move ∷ many asks.Sign ∷ many asks.Set ∷ []

-- what a line asks for and allows
abbrev pub shape : Context → Line → List Item
shape context lines.Connect = one asks.Connect ∷ changes
shape context (lines.Start subject) = starting context.slot subject
shape context (lines.Stage subject) = ending_stage context.slot context.opened ++ starting context.slot subject
shape context lines.StageEnd = ending_stage context.slot context.opened
shape context lines.End = ending_both context.slot context.opened
shape context lines.Spend = []
shape context lines.Change = settling context.held ++ one asks.Act ∷ (changes ++ one asks.Answer ∷ [])
shape context lines.Quit = settling context.held ++ one asks.Act ∷ changes
shape context lines.Show = settling context.held ++ one asks.Act ∷ (changes ++ one asks.Rows ∷ [])
shape context lines.Query = one asks.Query ∷ many asks.Reading ∷ one asks.Rows ∷ []
shape context (lines.Refused error) = one asks.Error ∷ []
shape context lines.Close = settling context.held
