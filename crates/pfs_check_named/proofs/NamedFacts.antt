-- What a label changes of a script gives names of its setting.
use Rattle.std.proofs.Common.{ℕ, zero, suc, ◌-◌, ◌<◌, ◌==◌, Bool, true, false, cond, List, [], ◌∷◌, length, Option, Some, None}
use Rattle.std.specs.Prelude.{IfSome, filter}
use Rattle.std.specs.List.{All, flat_map, slice_index_or}
use Rattle.std.proofs.lemmas.List.Elements.{All-append, All-cons, All-head, All-nil, All-tail}
use Rattle.pfs_admin.specs.declared.changes.Change.{Change}
use Rattle.pfs_admin.specs.declared.changes.Change.TheVariants as changes
use Rattle.pfs_admin.specs.declared.changes.SetupStatement.TheVariants as statements
use Rattle.pfs_classes.specs.declared.setting.Setting.{Setting}
use Rattle.pfs_exec.specs.Requests.{request_of}
use Rattle.pfs_exec.specs.declared.requests.Request.{Request}
use Rattle.pfs_exec.specs.declared.requests.Request.TheVariants as requests
use Rattle.pfs_law_script.specs.PlayableBlocks.{NamedLaw}
use Rattle.pfs_law_script.specs.PlayableBlocks.{IsNamed as IsBlockNamed}
use Rattle.pfs_runs.specs.ScriptLines.{changes_in, changes_on, connect_changes, sql_changes}
use Rattle.pfs_script.specs.Events.{blocks_for}
use Rattle.pfs_script.specs.Marks.{written_out}
use Rattle.pfs_script.specs.declared.blocks.Block.{Block}
use Rattle.pfs_script.specs.declared.blocks.BlockLine.{BlockLine}
use Rattle.pfs_script.specs.declared.blocks.BlockLine.TheVariants as said
use Rattle.pfs_script.specs.declared.blocks.Connect.{Connect}
use Rattle.pfs_script.specs.declared.blocks.Phase.{Phase}
use Rattle.pfs_check_named.specs.NamedChanges.{NamedChangesLaw}
use Rattle.pfs_check_orders.specs.ActionOrders.{IsNamed}

-- a fact of all that lists give
all_given : {A B : Type 0} (P : B → Type 0) (f : A → List B) (fact : A → Type 0) (xs : List A) → ((x : A) → fact x → All P (f x)) → All fact xs
    → All P (flat_map f xs)
all_given P f fact [] give h = All-nil P
all_given P f fact (x ∷ xs) give h =
    All-append P (f x) (flat_map f xs) (give x (All-head fact x xs h)) (all_given P f fact xs give (All-tail fact x xs h))

all_chosen : {A : Type 0} (P : A → Type 0) (test : A → Bool) (xs : List A) → All P xs → All P (filter test xs)
all_chosen P test [] h = All-nil P
all_chosen {A} P test (x ∷ xs) h = at (test x) (All-head P x xs h) (all_chosen P test xs (All-tail P x xs h)) where
  at : (b : Bool) → P x → All P (filter test xs) → All P (cond b (x ∷ filter test xs) (filter test xs))
  at true p rest = All-cons P x (filter test xs) p rest
  at false p rest = rest

at_index : {A : Type 0} (P : A → Type 0) (xs : List A) (k : ℕ) (other : A) → All P xs → P other → P (slice_index_or xs k other)
at_index P [] k other h p = p
at_index P (x ∷ xs) zero other h p = All-head P x xs h
at_index P (x ∷ xs) (suc k) other h p = at_index P xs k other (All-tail P x xs h) p

-- of a block, by its connect
connect_named : (names : List (List ℕ)) (connect : Option Connect)
    → IfSome connect (λ one. (one.user < length names) × (one.host < length names)) → All (IsNamed names) (connect_changes connect)
connect_named names None h = All-nil (IsNamed names)
connect_named names (Some one) h = All-cons (IsNamed names) (changes.Connect one.user one.host) [] h (All-nil (IsNamed names))

one_named : (names : List (List ℕ)) (change : Change) → IsNamed names change → All (IsNamed names) (change ∷ [])
one_named names change h = All-cons (IsNamed names) change [] h (All-nil (IsNamed names))

sql_named : (names : List (List ℕ)) (request : Request) → All (IsNamed names) (sql_changes request)
sql_named names (requests.Truncate what) = one_named names (changes.Truncate what) tt
sql_named names (requests.Update update) = one_named names (changes.Setup (statements.Update update)) tt
sql_named names (requests.Insert insert) = one_named names (changes.Setup (statements.Insert insert)) tt
sql_named names (requests.Delete delete) = one_named names (changes.Setup (statements.Delete delete)) tt
sql_named names (requests.Refused error) = All-nil (IsNamed names)
sql_named names (requests.Query select) = All-nil (IsNamed names)
sql_named names (requests.Show select) = one_named names (changes.Setup statements.Show) tt

line_named : (names : List (List ℕ)) (line : BlockLine) → All (IsNamed names) (changes_on line)
line_named names said.Quit = one_named names changes.Quit tt
line_named names (said.Sql text) = sql_named names (request_of text)
line_named names _ = All-nil (IsNamed names)

lines_named : (names : List (List ℕ)) (lines : List BlockLine) → All (IsNamed names) (flat_map changes_on lines)
lines_named names [] = All-nil (IsNamed names)
lines_named names (line ∷ lines) =
    All-append (IsNamed names) (changes_on line) (flat_map changes_on lines) (line_named names line) (lines_named names lines)

block_named : (setting : Setting) (block : Block) → IsBlockNamed setting block → All (IsNamed setting.names) (changes_in block)
block_named setting block h =
    All-append (IsNamed setting.names) (connect_changes block.connect) (flat_map changes_on (written_out block.lines))
    (connect_named setting.names block.connect h) (lines_named setting.names (written_out block.lines))

pub changes_named : NamedLaw → NamedChangesLaw
changes_named law text setting phases script label =
    at_index (IsNamed setting.names) (flat_map changes_in (blocks_for label.session phases)) (label.line - 1) (changes.Setup statements.Show)
    (all_given (IsNamed setting.names) changes_in (IsBlockNamed setting) (blocks_for label.session phases) (block_named setting)
    (all_chosen (IsBlockNamed setting) (λ (block : Block). block.session == label.session) (flat_map (λ (phase : Phase). phase.blocks) phases)
    (all_given (IsBlockNamed setting) (λ (phase : Phase). phase.blocks) (λ phase. All (IsBlockNamed setting) phase.blocks) phases (λ phase h. h)
    (law text setting phases script))))
    tt
