-- The parts of a session do the script's lines of it, one after another.
use Rattle.std.proofs.Common.{ℕ, ◌≡◌, ◌==◌, Bool, true, false, cond, List, [], ◌∷◌, ◌++◌, Option, Some, None, refl, ap, sym, subst}
use Rattle.std.specs.List.{flat_map}
use Rattle.pfs_admin.specs.AdministrationStates.{State as Administration}
use Rattle.pfs_law_plain.specs.Spells.{Spell, parts_in, stints_of}
use Rattle.pfs_law_plain.specs.LineDeeds.{bare, deed_on, sql_deed, IsNext, AreDeeds}
use Rattle.pfs_law_session.specs.Deeds.{Deed, Connecting, Starting, Staging, StageEnding, Ending, Spending, Quitting, Truncating, Changing, Showing, Querying, Refusing, Closing, Part}
use Rattle.pfs_law_session.specs.Stints.{parts_by}
use Rattle.pfs_play.specs.Errands.{AreFor, asks_on}
use Rattle.pfs_exec.specs.Requests.{request_of}
use Rattle.pfs_exec.specs.declared.requests.Request.{Request}
use Rattle.pfs_exec.specs.declared.requests.Request.TheVariants as requests
use Rattle.pfs_script.specs.declared.blocks.Block.{Block}
use Rattle.pfs_script.specs.declared.blocks.BlockLine.{BlockLine}
use Rattle.pfs_script.specs.declared.blocks.BlockLine.TheVariants as said
use Rattle.pfs_script.specs.declared.blocks.Connect.{Connect}
use Rattle.pfs_script.specs.declared.blocks.Phase.{Phase}
use Rattle.pfs_script.specs.Events.{lines_for}
use Rattle.pfs_script.specs.Marks.{written_out}
use Rattle.pfs_law_script.specs.Course.{PhasedBlock, asks_of, numbered, own_blocks, IsSpellOf, AreSpellsOf}
use Rattle.pfs_law_script.proofs.BlockChanges.{own_numbered}

-- a deed does lines as it does without what a SELECT read and showed
next_as : (lines : List BlockLine) (deed : Deed) (some other : List BlockLine → Type 0) → ((rest : List BlockLine) → some rest → other rest) → IsNext lines (bare deed) some → IsNext lines deed other
next_as lines (Connecting admin user host) some other f n = f lines n
next_as lines Closing some other f n = f lines n
next_as [] (Starting subject) some other f n = absurd n
next_as [] (Staging subject) some other f n = absurd n
next_as [] StageEnding some other f n = absurd n
next_as [] (Ending numbers) some other f n = absurd n
next_as [] (Spending time) some other f n = absurd n
next_as [] (Quitting admin) some other f n = absurd n
next_as [] (Truncating admin what) some other f n = absurd n
next_as [] (Changing admin what) some other f n = absurd n
next_as [] (Showing admin count) some other f n = absurd n
next_as [] (Querying found count) some other f n = absurd n
next_as [] (Refusing error) some other f n = absurd n
next_as (line ∷ lines) (Starting subject) some other f n = (n.0, f lines n.1)
next_as (line ∷ lines) (Staging subject) some other f n = (n.0, f lines n.1)
next_as (line ∷ lines) StageEnding some other f n = (n.0, f lines n.1)
next_as (line ∷ lines) (Ending numbers) some other f n = (n.0, f lines n.1)
next_as (line ∷ lines) (Spending time) some other f n = (n.0, f lines n.1)
next_as (line ∷ lines) (Quitting admin) some other f n = (n.0, f lines n.1)
next_as (line ∷ lines) (Truncating admin what) some other f n = (n.0, f lines n.1)
next_as (line ∷ lines) (Changing admin what) some other f n = (n.0, f lines n.1)
next_as (line ∷ lines) (Showing admin count) some other f n = (record { admin = n.0.admin; is = n.0.is }, f lines n.1)
next_as (line ∷ lines) (Querying found count) some other f n = (record { admin = n.0.admin; is = n.0.is }, f lines n.1)
next_as (line ∷ lines) (Refusing error) some other f n = (n.0, f lines n.1)

next_then : (lines more : List BlockLine) (deed : Deed) (some other : List BlockLine → Type 0) → ((rest : List BlockLine) → some rest → other (rest ++ more)) → IsNext lines deed some
    → IsNext (lines ++ more) deed other
next_then lines more (Connecting admin user host) some other f n = f lines n
next_then lines more Closing some other f n = f lines n
next_then [] more (Starting subject) some other f n = absurd n
next_then [] more (Staging subject) some other f n = absurd n
next_then [] more StageEnding some other f n = absurd n
next_then [] more (Ending numbers) some other f n = absurd n
next_then [] more (Spending time) some other f n = absurd n
next_then [] more (Quitting admin) some other f n = absurd n
next_then [] more (Truncating admin what) some other f n = absurd n
next_then [] more (Changing admin what) some other f n = absurd n
next_then [] more (Showing admin count) some other f n = absurd n
next_then [] more (Querying found count) some other f n = absurd n
next_then [] more (Refusing error) some other f n = absurd n
next_then (line ∷ lines) more (Starting subject) some other f n = (n.0, f lines n.1)
next_then (line ∷ lines) more (Staging subject) some other f n = (n.0, f lines n.1)
next_then (line ∷ lines) more StageEnding some other f n = (n.0, f lines n.1)
next_then (line ∷ lines) more (Ending numbers) some other f n = (n.0, f lines n.1)
next_then (line ∷ lines) more (Spending time) some other f n = (n.0, f lines n.1)
next_then (line ∷ lines) more (Quitting admin) some other f n = (n.0, f lines n.1)
next_then (line ∷ lines) more (Truncating admin what) some other f n = (n.0, f lines n.1)
next_then (line ∷ lines) more (Changing admin what) some other f n = (n.0, f lines n.1)
next_then (line ∷ lines) more (Showing admin count) some other f n = (n.0, f lines n.1)
next_then (line ∷ lines) more (Querying found count) some other f n = (n.0, f lines n.1)
next_then (line ∷ lines) more (Refusing error) some other f n = (n.0, f lines n.1)

deeds_then : (lines more : List BlockLine) (ps qs : List Part) → AreDeeds lines ps → AreDeeds more qs → AreDeeds (lines ++ more) (ps ++ qs)
deeds_then lines more [] qs a b = subst (λ z. AreDeeds (z ++ more) qs) (sym a) b
deeds_then lines more (p ∷ ps) qs a b = next_then lines more p.deed (λ rest. AreDeeds rest ps) (λ rest. AreDeeds rest (ps ++ qs)) (λ rest d. deeds_then rest more ps qs d b) a

-- those of a block
sql_next : (admin : Administration) (text : List ℕ) (lines : List BlockLine) (rest : List BlockLine → Type 0) (asks : Request) → request_of text ≡ asks → rest lines → IsNext (said.Sql text ∷ lines) (sql_deed admin asks) rest
sql_next admin text lines rest (requests.Refused error) e r = (record { admin = admin; is = ap (sql_deed admin) (sym e) }, r)
sql_next admin text lines rest (requests.Truncate what) e r = (record { admin = admin; is = ap (sql_deed admin) (sym e) }, r)
sql_next admin text lines rest (requests.Update update) e r = (record { admin = admin; is = ap (sql_deed admin) (sym e) }, r)
sql_next admin text lines rest (requests.Insert insert) e r = (record { admin = admin; is = ap (sql_deed admin) (sym e) }, r)
sql_next admin text lines rest (requests.Delete delete) e r = (record { admin = admin; is = ap (sql_deed admin) (sym e) }, r)
sql_next admin text lines rest (requests.Query select) e r = (record { admin = admin; is = ap (sql_deed admin) (sym e) }, r)
sql_next admin text lines rest (requests.Show select) e r = (record { admin = admin; is = ap (sql_deed admin) (sym e) }, r)

line_next : (admin : Administration) (line : BlockLine) (lines : List BlockLine) (rest : List BlockLine → Type 0) → rest lines → IsNext (line ∷ lines) (deed_on admin line) rest
line_next admin said.Quit lines rest r = (record { admin = admin; is = refl }, r)
line_next admin (said.Sql text) lines rest r = sql_next admin text lines rest (request_of text) refl r
line_next admin _ lines rest r = (record { admin = admin; is = refl }, r)

body_do : (lines : List BlockLine) (ps : List Part) → AreFor (asks_on lines ++ (λ admin. Closing) ∷ []) ps → AreDeeds lines ps
body_do [] [] are = absurd are
body_do [] (p ∷ (other ∷ ps)) are = absurd are.1
body_do [] (p ∷ []) are =
    let rest : List BlockLine → Type 0 = λ lines. AreDeeds lines [] in
    next_as [] p.deed rest rest (λ lines d. d) (subst (λ (deed : Deed). IsNext [] deed rest) (sym are.0.is) refl)
body_do (line ∷ lines) [] are = absurd are
body_do (line ∷ lines) (p ∷ ps) are =
    let rest : List BlockLine → Type 0 = λ lines. AreDeeds lines ps in
    next_as (line ∷ lines) p.deed rest rest (λ lines d. d) (subst (λ (deed : Deed). IsNext (line ∷ lines) deed rest) (sym are.0.is) (line_next are.0.admin line lines rest (body_do lines ps are.1)))

block_do : (connect : Option Connect) (lines : List BlockLine) (ps : List Part) → AreFor (asks_of connect lines) ps → AreDeeds lines ps
block_do None lines ps are = body_do lines ps are
block_do (Some names) lines [] are = absurd are
block_do (Some names) lines (p ∷ ps) are =
    let rest : List BlockLine → Type 0 = λ lines. AreDeeds lines ps in
    next_as lines p.deed rest rest (λ lines d. d) (subst (λ (deed : Deed). IsNext lines deed rest) (sym are.0.is) (body_do lines ps are.1))

spell_does : (one : PhasedBlock) (spell : Spell) → IsSpellOf one spell → AreDeeds (written_out one.block.lines) (parts_in spell.doings)
spell_does one spell is = block_do one.block.connect (written_out one.block.lines) (parts_in spell.doings) is.asked

-- and those of all blocks of a session
abbrev lines_of : List Block → List BlockLine
lines_of blocks = flat_map (λ (block : Block). written_out block.lines) blocks

spells_do : (session : ℕ) (done : List PhasedBlock) (spells : List Spell) → AreSpellsOf done spells → AreDeeds (lines_of (own_blocks session done)) (parts_by session (stints_of spells))
spells_do session [] [] are = refl
spells_do session [] (y ∷ ys) are = absurd are
spells_do session (x ∷ xs) [] are = absurd are
spells_do session (x ∷ xs) (y ∷ ys) are =
    subst (λ z. AreDeeds (lines_of (cond (x.block.session == session) (x.block ∷ []) [] ++ own_blocks session xs)) (cond (z == session) (parts_in y.doings) [] ++ parts_by session (stints_of ys)))
    (sym are.0.session)
    (at (x.block.session == session) (spells_do session xs ys are.1)) where
      at : (b : Bool) → AreDeeds (lines_of (own_blocks session xs)) (parts_by session (stints_of ys)) → AreDeeds (lines_of (cond b (x.block ∷ []) [] ++ own_blocks session xs)) (cond b (parts_in y.doings) [] ++ parts_by session (stints_of ys))
      at true rest = deeds_then (written_out x.block.lines) (lines_of (own_blocks session xs)) (parts_in y.doings) (parts_by session (stints_of ys)) (spell_does x y are.0) rest
      at false rest = rest

pub session_does : (session number : ℕ) (phases : List Phase) (spells : List Spell) → AreSpellsOf (numbered number phases) spells → AreDeeds (lines_for session phases) (parts_by session (stints_of spells))
session_does session number phases spells are =
    subst (λ z. AreDeeds (lines_of z) (parts_by session (stints_of spells))) (own_numbered session number phases) (spells_do session (numbered number phases) spells are)
