-- The numbers that stand on the lines of blocks are of 64 bits.
use Rattle.std.proofs.Common.{ℕ, zero, suc, ◌<◌, ◌^◌, ◌==◌, Bool, true, false, cond, List, [], ◌∷◌, ◌++◌, Option, Some, None, IfSome, lit<}
use Rattle.std.specs.Prelude.{option_map, option_and_then, unwrap_or, filter, if◌then◌else◌}
use Rattle.std.specs.List.{flat_map}
use Rattle.pfs_model.proofs.EachLists.{each_join}
use Rattle.pfs_model.specs.Chains.{Each}
use Rattle.pfs_script.specs.declared.blocks.Block.{Block}
use Rattle.pfs_script.specs.declared.blocks.BlockLine.{BlockLine}
use Rattle.pfs_script.specs.declared.blocks.BlockLine.TheVariants as said
use Rattle.pfs_script.specs.declared.blocks.Phase.{Phase}
use Rattle.pfs_script.specs.declared.blocks.StatementNumbers.{StatementNumbers}
use Rattle.pfs_script.specs.declared.forms.Form.{Form}
use Rattle.pfs_script.specs.declared.forms.Form.TheVariants as form
use Rattle.pfs_script.specs.declared.forms.Numbers.{Numbers}
use Rattle.pfs_script.specs.Blocks.{Sense, statement_numbers, with_front, block_line, block_lines, block_behind, blocks_of, with_phase, phases_of}
use Rattle.pfs_script.specs.Events.{blocks_for, lines_for, line_at}
use Rattle.pfs_script.specs.Finds.{table_number, digest_place}
use Rattle.pfs_script.specs.Marks.{Repeated, copies, written_from, written_out}
use Rattle.pfs_script.specs.Sessions.{ends_block, is_phase}
use Rattle.pfs_law_summaries.proofs.FormNumbers.{IsLow, AreLow, IsLowForm, AreLowForms}

pub record AreNumbersLow (numbers : StatementNumbers) : Type 0 where
  pub lock : numbers.lock < 2 ^ 64
  pub errors : numbers.errors < 2 ^ 64
  pub warnings : numbers.warnings < 2 ^ 64
  pub affected : numbers.affected < 2 ^ 64
  pub sent : numbers.sent < 2 ^ 64
  pub examined : numbers.examined < 2 ^ 64

abbrev pub IsLowLine : BlockLine → Type 0
IsLowLine (said.EndStatement numbers) = AreNumbersLow numbers
IsLowLine _ = Unit {0}

abbrev pub AreLowLines : List BlockLine → Type 0
AreLowLines lines = Each IsLowLine lines

pub nil_low : 0 < 2 ^ 64
nil_low = lit< tt

or_nil : (number : Option ℕ) → IsLow number → unwrap_or number 0 < 2 ^ 64
or_nil None low = nil_low
or_nil (Some number) low = low

statement_low : (numbers : Numbers) → AreLow numbers → AreNumbersLow (statement_numbers numbers)
statement_low numbers low = record {
  lock = or_nil numbers.lock low.lock;
  errors = or_nil numbers.errors low.errors;
  warnings = or_nil numbers.warnings low.warnings;
  affected = or_nil numbers.affected low.affected;
  sent = or_nil numbers.sent low.sent;
  examined = or_nil numbers.examined low.examined;
}

abbrev Holds : Option BlockLine → Type 0
Holds o = IfSome o IsLowLine

map_low : {A : Type 0} (f : A → BlockLine) (o : Option A) → ((x : A) → IsLowLine (f x)) → Holds (option_map f o)
map_low f None h = tt
map_low f (Some x) h = h x

then_low : {A : Type 0} (f : A → Option BlockLine) (o : Option A) → ((x : A) → Holds (f x)) → Holds (option_and_then f o)
then_low f None h = tt
then_low f (Some x) h = h x

line_low : (sense : Sense) (line : Form) → IsLowForm line → Holds (block_line sense line)
line_low sense (form.Wait class) low = map_low said.Wait (sense.class class) (λ x. tt)
line_low sense (form.TableWait class schema name) low =
    then_low _ (sense.class class) (λ ref. map_low (said.TableWait ref) (table_number sense.tables schema name) (λ x. tt))
line_low sense (form.Statement class text) low =
    map_low (λ ref. said.Statement ref (digest_place sense.digests text)) (sense.class class) (λ x. tt)
line_low sense (form.Transaction access) low = tt
line_low sense (form.Stage class) low = map_low said.Stage (sense.class class) (λ x. tt)
line_low sense form.StageEnd low = tt
line_low sense (form.Spend time) low = map_low said.Spend time (λ x. tt)
line_low sense form.End low = tt
line_low sense (form.Sql text) low = tt
line_low sense form.Quit low = tt
line_low sense (form.EndStatement numbers) low = statement_low numbers low
line_low sense (form.Repeat times) low = map_low said.Repeat times (λ x. tt)
line_low sense form.Done low = tt
line_low sense _ low = tt

front_holds : {A : Type 0} (P : A → Type 0) (one : Option A) (more : List A) → IfSome one P → Each P more
    → Each P (with_front one more)
front_holds P None more h g = g
front_holds P (Some one) more h g = (h, g)

lines_low : (sense : Sense) (lines : List Form) → AreLowForms lines → AreLowLines (block_lines sense lines)
unfolding block_lines
lines_low sense [] low = tt
lines_low sense (line ∷ lines) low =
    at (ends_block line) (front_holds IsLowLine (block_line sense line) (block_lines sense lines) (line_low sense line low.0) (lines_low sense lines low.1))
  where
    at : (b : Bool) → AreLowLines (with_front (block_line sense line) (block_lines sense lines))
        → AreLowLines (if b then [] else with_front (block_line sense line) (block_lines sense lines))
    at true h = tt
    at false h = h

abbrev IsLowBlock : Block → Type 0
IsLowBlock block = AreLowLines block.lines

behind_low : (sense : Sense) (lines : List Form) (line : Form) → AreLowLines (block_lines sense lines)
    → IfSome (block_behind sense lines line) IsLowBlock
behind_low sense lines (form.Connect (Some session) user host) h = h
behind_low sense lines (form.Connect None user host) h = tt
behind_low sense lines (form.Resume (Some session)) h = h
behind_low sense lines (form.Resume None) h = tt
behind_low sense lines _ h = tt

blocks_low : (sense : Sense) (lines : List Form) → AreLowForms lines → Each IsLowBlock (blocks_of sense lines)
unfolding blocks_of
blocks_low sense [] low = tt
blocks_low sense (line ∷ lines) low =
    at (is_phase line) (front_holds IsLowBlock (block_behind sense lines line) (blocks_of sense lines)
    (behind_low sense lines line (lines_low sense lines low.1)) (blocks_low sense lines low.1))
  where
    at : (b : Bool) → Each IsLowBlock (with_front (block_behind sense lines line) (blocks_of sense lines))
        → Each IsLowBlock (if b then [] else with_front (block_behind sense lines line) (blocks_of sense lines))
    at true h = tt
    at false h = h

abbrev pub IsLowPhase : Phase → Type 0
IsLowPhase phase = Each IsLowBlock phase.blocks

pub phases_low : (sense : Sense) (lines : List Form) → AreLowForms lines → Each IsLowPhase (phases_of sense lines)
unfolding phases_of
phases_low sense [] low = tt
phases_low sense (line ∷ lines) low = at (is_phase line) (blocks_low sense lines low.1) (phases_low sense lines low.1) where
  at : (b : Bool) → Each IsLowBlock (blocks_of sense lines) → Each IsLowPhase (phases_of sense lines)
      → Each IsLowPhase (with_phase b (blocks_of sense lines) (phases_of sense lines))
  at true h g = (h, g)
  at false h g = g

copies_low : (times : ℕ) (lines : List BlockLine) → AreLowLines lines → AreLowLines (copies times lines)
unfolding copies
copies_low zero lines h = tt
copies_low (suc times) lines h = each_join IsLowLine lines (copies times lines) h (copies_low times lines h)

abbrev BodyLow : Option Repeated → Type 0
BodyLow o = IfSome o (λ (loop : Repeated). AreLowLines loop.body)

written_low : (o : Option Repeated) (lines : List BlockLine) → BodyLow o → AreLowLines lines → AreLowLines (written_from o lines)
unfolding written_from
written_low None [] b h = tt
written_low (Some loop) [] b h = b
written_low None (said.Repeat times ∷ rest) b h = written_low (Some (record { times = times; body = [] })) rest tt h.1
written_low (Some loop) (said.Done ∷ rest) b h =
    each_join IsLowLine (copies loop.times loop.body) (written_from None rest) (copies_low loop.times loop.body b) (written_low None rest tt h.1)
written_low None (line ∷ rest) b h = (h.0, written_low None rest tt h.1)
written_low (Some loop) (line ∷ rest) b h =
    written_low (Some (record { times = loop.times; body = loop.body ++ line ∷ [] })) rest
    (each_join IsLowLine loop.body (line ∷ []) b (h.0, tt)) h.1

flat_holds : {A B : Type 0} (P : A → Type 0) (Q : B → Type 0) (f : A → List B) (xs : List A) → Each P xs
    → ((x : A) → P x → Each Q (f x)) → Each Q (flat_map f xs)
flat_holds P Q f [] h g = tt
flat_holds P Q f (x ∷ xs) h g = each_join Q (f x) (flat_map f xs) (g x h.0) (flat_holds P Q f xs h.1 g)

kept_holds : {A : Type 0} (P : A → Type 0) (test : A → Bool) (xs : List A) → Each P xs → Each P (filter test xs)
kept_holds P test [] h = tt
kept_holds P test (x ∷ xs) h = at (test x) (kept_holds P test xs h.1) where
  at : (b : Bool) → Each P (filter test xs) → Each P (cond b (x ∷ filter test xs) (filter test xs))
  at true g = (h.0, g)
  at false g = g

pub session_low : (session : ℕ) (phases : List Phase) → Each IsLowPhase phases → AreLowLines (lines_for session phases)
session_low session phases h =
    flat_holds IsLowBlock IsLowLine (λ (block : Block). written_out block.lines) (blocks_for session phases)
    (kept_holds IsLowBlock (λ (block : Block). block.session == session) (flat_map (λ (phase : Phase). phase.blocks) phases)
    (flat_holds IsLowPhase IsLowBlock (λ (phase : Phase). phase.blocks) phases h (λ phase low. low)))
    (λ block low. written_low None block.lines tt low)

pub at_low : (lines : List BlockLine) (place : ℕ) → AreLowLines lines → IsLowLine (line_at lines place)
at_low [] place h = tt
at_low (line ∷ lines) zero h = h.0
at_low (line ∷ lines) (suc place) h = at_low lines place h.1
