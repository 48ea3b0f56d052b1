-- What a block asks for: how many actions its session makes by it, whether it is over behind it, and that its actions
-- enter as they should.
use Rattle.std.proofs.Common.{ℕ, ◌≡◌, ◌+◌, Bool, true, false, List, [], ◌∷◌, ◌++◌, length, Option, Some, None, refl, ap, sym, ◌∙◌, subst, length-append, arith}
use Rattle.std.specs.Prelude.{IfSome}
use Rattle.std.specs.List.{flat_map}
use Rattle.pfs_actor.specs.ActorDeeds.{IsLabelled, AreLabelled}
use Rattle.pfs_admin.proofs.FoldSteps.{count_law}
use Rattle.pfs_admin.specs.AdministrationStates.{State as Administration}
use Rattle.pfs_admin.specs.Fold.{state_of}
use Rattle.pfs_admin.specs.declared.changes.Change.{Change}
use Rattle.pfs_board.specs.declared.view.Label.{Label}
use Rattle.pfs_classes.specs.declared.setting.Setting.{Setting}
use Rattle.pfs_exec.specs.Requests.{request_of}
use Rattle.pfs_exec.specs.declared.requests.Request.{Request}
use Rattle.pfs_exec.specs.declared.requests.Request.TheVariants as requests
use Rattle.pfs_law_plain.specs.ActionFolds.{FoldsTo, DoingsFolded, ConnectsFirst, DoingsConnectFirst}
use Rattle.pfs_law_plain.specs.LineDeeds.{bare, deed_on, sql_deed}
use Rattle.pfs_law_plain.specs.Spells.{Doing, parts_in, label_of, IsEntered, AreEntered}
use Rattle.pfs_law_session.specs.Deeds.{Deed, Connecting, Starting, Staging, StageEnding, Ending, Spending, Quitting, Truncating, Changing, Showing, Querying, Refusing, Closing, Part, action_of, is_over}
use Rattle.pfs_law_session.specs.JournalLaws.{AreParts, state_behind, over_behind}
use Rattle.pfs_play.proofs.NextLines.{over_bare}
use Rattle.pfs_play.specs.Errands.{AreFor, IsFor, asks_on, is_quit}
use Rattle.pfs_runs.specs.ScriptLines.{connect_changes, changes_on, sql_changes}
use Rattle.pfs_script.specs.declared.blocks.BlockLine.{BlockLine}
use Rattle.pfs_script.specs.declared.blocks.BlockLine.TheVariants as said
use Rattle.pfs_script.specs.declared.blocks.Connect.{Connect}
use Rattle.pfs_session.specs.SessionStates.{State}
use Rattle.pfs_session.specs.Turns.{state_after}
use Rattle.pfs_law_script.specs.Course.{asks_of}
use Rattle.pfs_law_script.specs.PlayableBlocks.{end_of}
use Rattle.pfs_law_script.proofs.ActionCounts.{made_by, part_actions}
use Rattle.pfs_law_script.proofs.QuietLines.{AreQuiet}

-- what a SELECT read and showed counts nothing
made_bare : (made : ℕ) (deed : Deed) → made_by made deed ≡ made_by made (bare deed)
made_bare made (Connecting admin user host) = refl
made_bare made (Starting subject) = refl
made_bare made (Staging subject) = refl
made_bare made StageEnding = refl
made_bare made (Ending numbers) = refl
made_bare made (Spending time) = refl
made_bare made (Quitting admin) = refl
made_bare made (Truncating admin what) = refl
made_bare made (Changing admin what) = refl
made_bare made (Showing admin count) = refl
made_bare made (Querying found count) = refl
made_bare made (Refusing error) = refl
made_bare made Closing = refl

action_bare : (deed : Deed) → action_of deed ≡ action_of (bare deed)
action_bare (Connecting admin user host) = refl
action_bare (Starting subject) = refl
action_bare (Staging subject) = refl
action_bare StageEnding = refl
action_bare (Ending numbers) = refl
action_bare (Spending time) = refl
action_bare (Quitting admin) = refl
action_bare (Truncating admin what) = refl
action_bare (Changing admin what) = refl
action_bare (Showing admin count) = refl
action_bare (Querying found count) = refl
action_bare (Refusing error) = refl
action_bare Closing = refl

first_bare : (label : Label) (deed : Deed) → ConnectsFirst label (bare deed) → ConnectsFirst label deed
first_bare label (Connecting admin user host) first = first
first_bare label (Starting subject) first = tt
first_bare label (Staging subject) first = tt
first_bare label StageEnding first = tt
first_bare label (Ending numbers) first = tt
first_bare label (Spending time) first = tt
first_bare label (Quitting admin) first = tt
first_bare label (Truncating admin what) first = tt
first_bare label (Changing admin what) first = tt
first_bare label (Showing admin count) first = tt
first_bare label (Querying found count) first = tt
first_bare label (Refusing error) first = tt
first_bare label Closing first = tt

-- of a line that ends no session
sql_made : (made : ℕ) (admin : Administration) (asks : Request) → made_by made (sql_deed admin asks) ≡ made + length (sql_changes asks)
sql_made made admin (requests.Refused error) = omega arith
sql_made made admin (requests.Truncate what) = omega arith
sql_made made admin (requests.Update update) = omega arith
sql_made made admin (requests.Insert insert) = omega arith
sql_made made admin (requests.Delete delete) = omega arith
sql_made made admin (requests.Query select) = omega arith
sql_made made admin (requests.Show select) = omega arith

one_made : (made : ℕ) (admin : Administration) (line : BlockLine) → is_quit line ≡ false → made_by made (deed_on admin line) ≡ made + length (changes_on line)
one_made made admin said.Quit q = cc
one_made made admin (said.Sql text) q = sql_made made admin (request_of text)
one_made made admin _ q = omega arith

sql_over : (over : Bool) (admin : Administration) (asks : Request) → is_over over (sql_deed admin asks) ≡ over
sql_over over admin (requests.Refused error) = refl
sql_over over admin (requests.Truncate what) = refl
sql_over over admin (requests.Update update) = refl
sql_over over admin (requests.Insert insert) = refl
sql_over over admin (requests.Delete delete) = refl
sql_over over admin (requests.Query select) = refl
sql_over over admin (requests.Show select) = refl

one_over : (over : Bool) (admin : Administration) (line : BlockLine) → is_quit line ≡ false → is_over over (deed_on admin line) ≡ over
one_over over admin said.Quit q = cc
one_over over admin (said.Sql text) q = sql_over over admin (request_of text)
one_over over admin _ q = refl

sql_first : (label : Label) (admin : Administration) (asks : Request) → ConnectsFirst label (sql_deed admin asks)
sql_first label admin (requests.Refused error) = tt
sql_first label admin (requests.Truncate what) = tt
sql_first label admin (requests.Update update) = tt
sql_first label admin (requests.Insert insert) = tt
sql_first label admin (requests.Delete delete) = tt
sql_first label admin (requests.Query select) = tt
sql_first label admin (requests.Show select) = tt

one_first : (label : Label) (admin : Administration) (line : BlockLine) → ConnectsFirst label (deed_on admin line)
one_first label admin (said.Sql text) = sql_first label admin (request_of text)
one_first label admin _ = tt

-- so many actions are made behind parts
abbrev pub made_behind : ℕ → List Part → ℕ
made_behind made [] = made
made_behind made (p ∷ ps) = made_behind (made_by made p.deed) ps

pub parts_made : (s : State) (ps : List Part) → AreParts s ps → (state_behind s ps).actions ≡ made_behind s.actions ps
parts_made s [] are = refl
parts_made s (p ∷ ps) are = parts_made (state_after s p.turns) ps are.1 ∙ ap (λ n. made_behind n ps) (part_actions s p are.0)

-- lines that end no session, a quit behind them or not, and the end of the block
record IsThrough (made : ℕ) (lines : List BlockLine) (quits : Bool) (ps : List Part) : Type 0 where
  pub made_is : made_behind made ps ≡ made + length (flat_map changes_on lines)
  pub over_is : over_behind false ps ≡ quits

asked_made : (made : ℕ) (ask : Administration → Deed) (deed : Deed) (is : IsFor ask deed) → made_by made deed ≡ made_by made (ask is.admin)
asked_made made ask deed is = made_bare made deed ∙ ap (made_by made) is.is

asked_over : (over : Bool) (ask : Administration → Deed) (deed : Deed) (is : IsFor ask deed) → is_over over deed ≡ is_over over (ask is.admin)
asked_over over ask deed is = over_bare over deed ∙ ap (is_over over) is.is

abbrev closing : Administration → Deed
closing admin = Closing

through : (made : ℕ) (quiet : List BlockLine) (quits : Bool) (ps : List Part) → AreQuiet quiet → AreFor (asks_on (quiet ++ end_of quits) ++ closing ∷ []) ps → IsThrough made (quiet ++ end_of quits) quits ps
through made [] true [] q are = absurd are
through made [] true (p ∷ []) q are = absurd are.1
through made [] true (p ∷ (last ∷ (other ∷ ps))) q are = absurd are.1.1
through made [] true (p ∷ (last ∷ [])) q are =
    let quit : IsFor (λ admin. deed_on admin said.Quit) p.deed = are.0 in
    let one : made_by made p.deed ≡ made + 1 = asked_made made (λ admin. deed_on admin said.Quit) p.deed quit in
    let none : made_by (made_by made p.deed) last.deed ≡ made_by made p.deed = asked_made (made_by made p.deed) closing last.deed are.1.0 in
    record {
      made_is = none ∙ one;
      over_is = asked_over (is_over false p.deed) closing last.deed are.1.0 ∙ asked_over false (λ admin. deed_on admin said.Quit) p.deed quit;
    }
through made [] false [] q are = absurd are
through made [] false (p ∷ (other ∷ ps)) q are = absurd are.1
through made [] false (p ∷ []) q are =
    let none : made_by made p.deed ≡ made = asked_made made closing p.deed are.0 in
    record { made_is = omega (arith, none); over_is = asked_over false closing p.deed are.0 }
through made (line ∷ quiet) quits [] q are = absurd are
through made (line ∷ quiet) quits (p ∷ ps) q are =
    let its : IsFor (λ admin. deed_on admin line) p.deed = are.0 in
    let next : ℕ = made_by made p.deed in
    let one : next ≡ made + length (changes_on line) = asked_made made (λ admin. deed_on admin line) p.deed its ∙ one_made made its.admin line q.0 in
    let over : is_over false p.deed ≡ false = asked_over false (λ admin. deed_on admin line) p.deed its ∙ one_over false its.admin line q.0 in
    let rest : IsThrough next (quiet ++ end_of quits) quits ps = through next quiet quits ps q.1 are.1 in
    let many = length-append (changes_on line) (flat_map changes_on (quiet ++ end_of quits)) in
    record { made_is = omega (arith, rest.made_is, one, many); over_is = ap (λ b. over_behind b ps) over ∙ rest.over_is }

-- all of a block
pub record IsAllThrough (made : ℕ) (connect : Option Connect) (lines : List BlockLine) (quits : Bool) (ps : List Part) : Type 0 where
  pub made_is : made_behind made ps ≡ made + length (connect_changes connect ++ flat_map changes_on lines)
  pub over_is : over_behind false ps ≡ quits

pub block_through : (made : ℕ) (connect : Option Connect) (quiet : List BlockLine) (quits : Bool) (ps : List Part) → AreQuiet quiet → AreFor (asks_of connect (quiet ++ end_of quits)) ps → IsAllThrough made connect (quiet ++ end_of quits) quits ps
block_through made None quiet quits ps q are = let all = through made quiet quits ps q are in record { made_is = all.made_is; over_is = all.over_is }
block_through made (Some names) quiet quits [] q are = absurd are
block_through made (Some names) quiet quits (p ∷ ps) q are =
    let its : IsFor (λ admin. Connecting admin names.user names.host) p.deed = are.0 in
    let one : made_by made p.deed ≡ made + 1 = asked_made made (λ admin. Connecting admin names.user names.host) p.deed its in
    let over : is_over false p.deed ≡ false = asked_over false (λ admin. Connecting admin names.user names.host) p.deed its in
    let all = through (made_by made p.deed) quiet quits ps q are.1 in
    record { made_is = omega (arith, all.made_is, one); over_is = ap (λ b. over_behind b ps) over ∙ all.over_is }

-- none but a block's first action is a connect, and that is its session's first
lines_first : (lines : List BlockLine) (ds : List Doing) → AreFor (asks_on lines ++ closing ∷ []) (parts_in ds) → DoingsConnectFirst ds
lines_first [] [] are = tt
lines_first [] (d ∷ []) are = (first_bare d.label d.part.deed (subst (ConnectsFirst d.label) (sym are.0.is) tt), tt)
lines_first [] (d ∷ (other ∷ ds)) are = absurd are.1
lines_first (line ∷ lines) [] are = tt
lines_first (line ∷ lines) (d ∷ ds) are = (first_bare d.label d.part.deed (subst (ConnectsFirst d.label) (sym are.0.is) (one_first d.label are.0.admin line)), lines_first lines ds are.1)

pub block_first : (s : State) (connect : Option Connect) (lines : List BlockLine) (ds : List Doing) → AreFor (asks_of connect lines) (parts_in ds) → AreLabelled s ds → IfSome connect (λ names. s.actions ≡ 0) → DoingsConnectFirst ds
block_first s None lines ds are labelled none = lines_first lines ds are
block_first s (Some names) lines [] are labelled none = tt
block_first s (Some names) lines (d ∷ ds) are labelled none =
    let its : IsFor (λ admin. Connecting admin names.user names.host) d.part.deed = are.0 in
    let acts : action_of d.part.deed ≡ Some (its.admin.actions + 1) = action_bare d.part.deed ∙ ap action_of its.is in
    let label : d.label ≡ label_of s = subst (λ (n : Option ℕ). IfSome n (λ number. d.label ≡ label_of s)) acts labelled.0 in
    let line : d.label.line ≡ 1 = ap (λ (l : Label). l.line) label ∙ ap (λ n. n + 1) none in
    (first_bare d.label d.part.deed (subst (ConnectsFirst d.label) (sym its.is) line), lines_first lines ds are.1)

-- an action that folds enters behind as many labels as its administration knows
counts : (setting : Setting) (change : Label → Change) (labels : List Label) (admin : Administration) → admin ≡ state_of setting change labels → admin.actions + 1 ≡ length labels + 1
counts setting change labels admin is = ap (λ n. n + 1) (count_law setting change labels admin is).0

one_entered : (setting : Setting) (change : Label → Change) (s : State) (label : Label) (labels : List Label) (deed : Deed) → IsLabelled s label deed → FoldsTo setting change label labels deed → IsEntered s label labels deed
one_entered setting change s label labels (Connecting admin user host) labelled folds = (counts setting change labels admin folds.0, labelled)
one_entered setting change s label labels (Quitting admin) labelled folds = (counts setting change labels admin folds.0, labelled)
one_entered setting change s label labels (Truncating admin what) labelled folds = (counts setting change labels admin folds.0, labelled)
one_entered setting change s label labels (Changing admin what) labelled folds = (counts setting change labels admin folds.0, labelled)
one_entered setting change s label labels (Showing admin count) labelled folds = (counts setting change labels admin folds.0, labelled)
one_entered setting change s label labels (Querying found count) labelled folds = tt
one_entered setting change s label labels (Refusing error) labelled folds = tt
one_entered setting change s label labels (Starting subject) labelled folds = tt
one_entered setting change s label labels (Staging subject) labelled folds = tt
one_entered setting change s label labels StageEnding labelled folds = tt
one_entered setting change s label labels (Ending numbers) labelled folds = tt
one_entered setting change s label labels (Spending time) labelled folds = tt
one_entered setting change s label labels Closing labelled folds = tt

pub are_entered : (setting : Setting) (change : Label → Change) (s : State) (ds : List Doing) → AreLabelled s ds → DoingsFolded setting change ds → AreEntered s ds
are_entered setting change s [] labelled folded = tt
are_entered setting change s (d ∷ ds) labelled folded =
    (one_entered setting change s d.label d.labels d.part.deed labelled.0 folded.0, are_entered setting change (state_after s d.part.turns) ds labelled.1 folded.1)
