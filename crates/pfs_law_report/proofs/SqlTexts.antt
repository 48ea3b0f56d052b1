-- The texts of SQL of a script have only bytes that a report's texts can have, and so have the rows that they insert.
use Rattle.std.proofs.Common.{ℕ, zero, suc, ◌≡◌, ◌-◌, ◌⊎◌, inl, inr, Bool, true, false, cond, List, [], ◌∷◌, ◌++◌, Option, Some, None, refl, sym, subst}
use Rattle.std.specs.Prelude.{◌==◌, if◌then◌else◌, filter, option_map, option_and_then}
use Rattle.std.specs.List.{All, Contains, flat_map, slice_index_or}
use Rattle.std.specs.Option.{IfSome}
use Rattle.std.proofs.lemmas.List.Elements.{All-contains, All-weaker}
use Rattle.pfs_model.proofs.EachLists.{each_join}
use Rattle.pfs_admin.specs.declared.changes.Change.{Change}
use Rattle.pfs_admin.specs.declared.changes.Change.TheVariants as changes
use Rattle.pfs_admin.specs.declared.changes.SetupStatement.{SetupStatement}
use Rattle.pfs_admin.specs.declared.changes.SetupStatement.TheVariants as statements
use Rattle.pfs_board.specs.declared.view.Label.{Label}
use Rattle.pfs_exec.specs.declared.changes.NewRow.{NewRow}
use Rattle.pfs_exec.specs.declared.changes.NewRow.TheVariants.{Actor, Object}
use Rattle.pfs_classes.specs.declared.setting.Setting.{Setting}
use Rattle.pfs_journal.specs.Reports.{IsText, is_text_byte}
use Rattle.pfs_model.specs.Chains.{Each}
use Rattle.pfs_exec.specs.RequestLaws.{EachText, RowLaw}
use Rattle.pfs_exec.specs.Requests.{request_of}
use Rattle.pfs_exec.specs.declared.requests.Request.{Request}
use Rattle.pfs_exec.specs.declared.requests.Request.TheVariants as requests
use Rattle.pfs_runs.specs.ScriptLines.{change_in, changes_in, changes_on, connect_changes, sql_changes}
use Rattle.pfs_script.specs.Blocks.{Sense, block_behind, block_line, block_lines, blocks_of, phases_of, sense_of, with_front, with_phase}
use Rattle.pfs_script.specs.Events.{blocks_for}
use Rattle.pfs_script.specs.Finds.{digest_place, table_number}
use Rattle.pfs_script.specs.Marks.{Repeated, copies, written_from, written_out}
use Rattle.pfs_script.specs.Scripts.{IsScript}
use Rattle.pfs_script.specs.Sessions.{ends_block, is_phase}
use Rattle.pfs_script.specs.declared.blocks.Block.{Block}
use Rattle.pfs_script.specs.declared.blocks.BlockLine.{BlockLine}
use Rattle.pfs_script.specs.declared.blocks.BlockLine.TheVariants as said
use Rattle.pfs_script.specs.declared.blocks.Connect.{Connect}
use Rattle.pfs_script.specs.declared.blocks.Phase.{Phase}
use Rattle.pfs_script.specs.declared.forms.Form.{Form}
use Rattle.pfs_script.specs.declared.forms.Form.TheVariants as form
use Rattle.pfs_law_report.proofs.NameTexts.{IsClean, lines_clean}

flat_each : {A B : Type 0} (P : A → Type 0) (Q : B → Type 0) (f : A → List B) (xs : List A) → Each P xs
    → ((x : A) → P x → Each Q (f x)) → Each Q (flat_map f xs)
flat_each P Q f [] h g = tt
flat_each P Q f (x ∷ xs) h g = each_join Q (f x) (flat_map f xs) (g x h.0) (flat_each P Q f xs h.1 g)

pub kept_each : {A : Type 0} (P : A → Type 0) (test : A → Bool) (xs : List A) → Each P xs → Each P (filter test xs)
kept_each P test [] h = tt
kept_each P test (x ∷ xs) h = at (test x) (kept_each P test xs h.1)
  where
    at : (b : Bool) → Each P (filter test xs) → Each P (cond b (x ∷ filter test xs) (filter test xs))
    at true g = (h.0, g)
    at false g = g

found_each : {A : Type 0} (P : A → Type 0) (xs : List A) (place : ℕ) (other : A) → Each P xs → P other
    → P (slice_index_or xs place other)
found_each P [] place other h p = p
found_each P (x ∷ xs) zero other h p = h.0
found_each P (x ∷ xs) (suc place) other h p = found_each P xs place other h.1 p

front_each : {A : Type 0} (P : A → Type 0) (one : Option A) (more : List A) → IfSome one P → Each P more
    → Each P (with_front one more)
front_each P None more h g = g
front_each P (Some one) more h g = (h, g)

-- ---- the lines of blocks

abbrev IsTextedLine : BlockLine → Type 0
IsTextedLine (said.Sql text) = IsText text
IsTextedLine _ = Unit {0}

mapped_texted : {A : Type 0} (f : A → BlockLine) (o : Option A) → ((x : A) → IsTextedLine (f x))
    → IfSome (option_map f o) IsTextedLine
mapped_texted f None h = tt
mapped_texted f (Some x) h = h x

then_texted : {A : Type 0} (f : A → Option BlockLine) (o : Option A) → ((x : A) → IfSome (f x) IsTextedLine)
    → IfSome (option_and_then f o) IsTextedLine
then_texted f None h = tt
then_texted f (Some x) h = h x

line_texted : (sense : Sense) (line : Form) → IsClean line → IfSome (block_line sense line) IsTextedLine
line_texted sense (form.Wait class) clean = mapped_texted said.Wait (sense.class class) (λ x. tt)
line_texted sense (form.TableWait class schema name) clean =
    then_texted (λ ref. option_map (said.TableWait ref) (table_number sense.tables schema name)) (sense.class class)
    (λ ref. mapped_texted (said.TableWait ref) (table_number sense.tables schema name) (λ x. tt))
line_texted sense (form.Statement class text) clean = mapped_texted
    (λ ref. said.Statement ref (digest_place sense.digests text)) (sense.class class) (λ x. tt)
line_texted sense (form.Transaction access) clean = tt
line_texted sense (form.Stage class) clean = mapped_texted said.Stage (sense.class class) (λ x. tt)
line_texted sense form.StageEnd clean = tt
line_texted sense (form.Spend time) clean = mapped_texted said.Spend time (λ x. tt)
line_texted sense form.End clean = tt
line_texted sense (form.Sql text) clean = clean
line_texted sense form.Quit clean = tt
line_texted sense (form.EndStatement numbers) clean = tt
line_texted sense (form.Repeat times) clean = mapped_texted said.Repeat times (λ x. tt)
line_texted sense form.Done clean = tt
line_texted sense _ clean = tt

lines_texted : (sense : Sense) (lines : List Form) → Each IsClean lines → Each IsTextedLine (block_lines sense lines)
unfolding block_lines
lines_texted sense [] clean = tt
lines_texted sense (line ∷ lines) clean =
    at (ends_block line) (front_each IsTextedLine (block_line sense line) (block_lines sense lines)
    (line_texted sense line clean.0) (lines_texted sense lines clean.1))
  where
    at : (ends : Bool) → Each IsTextedLine (with_front (block_line sense line) (block_lines sense lines))
        → Each IsTextedLine (if ends then [] else with_front (block_line sense line) (block_lines sense lines))
    at true h = tt
    at false h = h

abbrev IsTextedBlock : Block → Type 0
IsTextedBlock block = Each IsTextedLine block.lines

behind_texted : (sense : Sense) (lines : List Form) (line : Form) → Each IsTextedLine (block_lines sense lines)
    → IfSome (block_behind sense lines line) IsTextedBlock
behind_texted sense lines (form.Connect (Some session) user host) h = h
behind_texted sense lines (form.Connect None user host) h = tt
behind_texted sense lines (form.Resume (Some session)) h = h
behind_texted sense lines (form.Resume None) h = tt
behind_texted sense lines _ h = tt

blocks_texted : (sense : Sense) (lines : List Form) → Each IsClean lines → Each IsTextedBlock (blocks_of sense lines)
unfolding blocks_of
blocks_texted sense [] clean = tt
blocks_texted sense (line ∷ lines) clean =
    at (is_phase line)
    (front_each IsTextedBlock (block_behind sense lines line) (blocks_of sense lines)
    (behind_texted sense lines line (lines_texted sense lines clean.1)) (blocks_texted sense lines clean.1))
  where
    at : (ends : Bool) → Each IsTextedBlock (with_front (block_behind sense lines line) (blocks_of sense lines))
        → Each IsTextedBlock (if ends then [] else with_front (block_behind sense lines line) (blocks_of sense lines))
    at true h = tt
    at false h = h

abbrev pub IsTextedPhase : Phase → Type 0
IsTextedPhase phase = Each IsTextedBlock phase.blocks

phases_texted : (sense : Sense) (lines : List Form) → Each IsClean lines → Each IsTextedPhase (phases_of sense lines)
unfolding phases_of
phases_texted sense [] clean = tt
phases_texted sense (line ∷ lines) clean = at (is_phase line) (blocks_texted sense lines clean.1)
    (phases_texted sense lines clean.1)
  where
    at : (begins : Bool) → Each IsTextedBlock (blocks_of sense lines) → Each IsTextedPhase (phases_of sense lines)
        → Each IsTextedPhase (with_phase begins (blocks_of sense lines) (phases_of sense lines))
    at true h g = (h, g)
    at false h g = g

pub script_texted : (text : List ℕ) (setting : Setting) (phases : List Phase) → IsScript text setting phases
    → Each IsTextedPhase phases
unfolding IsScript
script_texted text setting phases is =
    subst (λ (z : List Phase). Each IsTextedPhase z) (sym is.3)
    (phases_texted (sense_of is.0) is.0 (lines_clean [] is.1.0 is.0 is.1.2))

-- ---- repeats written out

copies_texted : (times : ℕ) (lines : List BlockLine) → Each IsTextedLine lines → Each IsTextedLine (copies times lines)
unfolding copies
copies_texted zero lines h = tt
copies_texted (suc times) lines h = each_join IsTextedLine lines (copies times lines) h (copies_texted times lines h)

abbrev BodyTexted : Option Repeated → Type 0
BodyTexted o = IfSome o (λ (loop : Repeated). Each IsTextedLine loop.body)

written_texted : (o : Option Repeated) (lines : List BlockLine) → BodyTexted o → Each IsTextedLine lines
    → Each IsTextedLine (written_from o lines)
unfolding written_from
written_texted None [] b h = tt
written_texted (Some loop) [] b h = b
written_texted None (said.Repeat times ∷ rest) b h = written_texted
    (Some (record { times = times; body = [] })) rest tt h.1
written_texted (Some loop) (said.Done ∷ rest) b h =
    each_join IsTextedLine (copies loop.times loop.body) (written_from None rest) (copies_texted loop.times loop.body b)
    (written_texted None rest tt h.1)
written_texted None (line ∷ rest) b h = (h.0, written_texted None rest tt h.1)
written_texted (Some loop) (line ∷ rest) b h =
    written_texted (Some (record { times = loop.times; body = loop.body ++ line ∷ [] })) rest
    (each_join IsTextedLine loop.body (line ∷ []) b (h.0, tt)) h.1

-- ---- the changes that they ask for

abbrev pub IsCleanStatement : SetupStatement → Type 0
IsCleanStatement (statements.Insert insert) = EachText IsText insert.row
IsCleanStatement (statements.Update update) = Unit {0}
IsCleanStatement (statements.Delete delete) = Unit {0}
IsCleanStatement statements.Show = Unit {0}

abbrev pub IsCleanChange : Change → Type 0
IsCleanChange (changes.Setup what) = IsCleanStatement what
IsCleanChange (changes.Connect user host) = Unit {0}
IsCleanChange changes.Quit = Unit {0}
IsCleanChange (changes.Truncate what) = Unit {0}

-- bytes of the text, and `%`
given_text : (text given : List ℕ) → IsText text → All (λ b. Contains text b ⊎ (b ≡ 37)) given → IsText given
given_text text given clean is = All-weaker (λ b. Contains text b ⊎ (b ≡ 37)) (λ b. is_text_byte b ≡ true) at given is
  where
    at : (b : ℕ) → Contains text b ⊎ (b ≡ 37) → is_text_byte b ≡ true
    at b (inl there) = All-contains (λ b. is_text_byte b ≡ true) text b clean there
    at b (inr percent) = subst (λ (z : ℕ). is_text_byte z ≡ true) (sym percent) refl

row_texts : (text : List ℕ) (row : NewRow) → IsText text → EachText (All (λ b. Contains text b ⊎ (b ≡ 37))) row
    → EachText IsText row
row_texts text (Actor row) clean is = (given_text text row.host clean is.0, given_text text row.user clean is.1, given_text text row.role clean is.2)
row_texts text (Object row) clean is = (given_text text row.schema clean is.0, given_text text row.name clean is.1)

module _ (rows : RowLaw) where
  sql_clean : (text : List ℕ) → IsText text → Each IsCleanChange (sql_changes (request_of text))
  sql_clean text clean = at (request_of text) refl
    where
      at : (request : Request) → request_of text ≡ request → Each IsCleanChange (sql_changes request)
      at (requests.Insert insert) e = (row_texts text insert.row clean (rows text insert e), tt)
      at (requests.Truncate what) e = (tt, tt)
      at (requests.Update update) e = (tt, tt)
      at (requests.Delete delete) e = (tt, tt)
      at (requests.Show select) e = (tt, tt)
      at (requests.Refused error) e = tt
      at (requests.Query select) e = tt

  line_clean : (line : BlockLine) → IsTextedLine line → Each IsCleanChange (changes_on line)
  line_clean said.Quit texted = (tt, tt)
  line_clean (said.Sql text) texted = sql_clean text texted
  line_clean _ texted = tt

  connect_clean : (names : Option Connect) → Each IsCleanChange (connect_changes names)
  connect_clean None = tt
  connect_clean (Some names) = (tt, tt)

  block_clean : (block : Block) → IsTextedBlock block → Each IsCleanChange (changes_in block)
  block_clean block texted =
      each_join IsCleanChange (connect_changes block.connect) (flat_map changes_on (written_out block.lines))
      (connect_clean block.connect)
      (flat_each IsTextedLine IsCleanChange changes_on (written_out block.lines)
      (written_texted None block.lines tt texted) line_clean)

  -- each change of such phases has such texts
  pub change_clean : (phases : List Phase) (label : Label) → Each IsTextedPhase phases
      → IsCleanChange (change_in phases label)
  change_clean phases label texted =
      found_each IsCleanChange (flat_map changes_in (blocks_for label.session phases)) (label.line - 1)
      (changes.Setup statements.Show)
      (flat_each IsTextedBlock IsCleanChange changes_in (blocks_for label.session phases)
      (kept_each IsTextedBlock (λ (block : Block). block.session == label.session)
      (flat_map (λ (phase : Phase). phase.blocks) phases)
      (flat_each IsTextedPhase IsTextedBlock (λ (phase : Phase). phase.blocks) phases texted
      (λ phase blocks. blocks))) block_clean) tt
