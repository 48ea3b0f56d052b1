-- Worked examples of faults, counts and blocks.
use Rattle.std.proofs.Common.{ℕ, ◌≡◌, true, false, List, [], ◌∷◌, Some, None, refl}
use Rattle.std.specs.Prelude.{codes}
use Rattle.pfs_classes.specs.declared.kind.Kind.TheVariants.{File}
use Rattle.pfs_classes.specs.declared.classes.ClassRef.TheVariants as refs
use Rattle.pfs_script.specs.declared.forms.Form.{Form}
use Rattle.pfs_script.specs.declared.forms.Form.TheVariants as form
use Rattle.pfs_script.specs.declared.reasons.Reason.TheVariants.{OutOfPlace, BadSession, UnknownName, BadNesting, TooLong}
use Rattle.pfs_script.specs.declared.blocks.BlockLine.TheVariants as said
use Rattle.pfs_script.specs.Brackets.{closing_from, brackets_from}
use Rattle.pfs_script.specs.CommandFronts.{begins_with, command_of}
use Rattle.pfs_script.specs.LineCounts.{behind_last, ahead_of_last, counted}
use Rattle.pfs_script.specs.declared.blocks.Connect.{Connect}
use Rattle.pfs_script.specs.Headings.{named_limit}
use Rattle.pfs_script.specs.Finds.{tables_of}
use Rattle.pfs_script.specs.Sessions.{session_now, lines_in}
use Rattle.pfs_script.specs.Reasons.{one_each, weight_of, sql_weight, kinds_open, is_too_much, fault_of}
use Rattle.pfs_script.specs.Blocks.{Sense, block_lines, blocks_of}

abbrev connect : ℕ → Form
connect session = form.Connect (Some session) (codes "u") (codes "h")

-- session 0 before a phase: the least of two reasons
two_faults : fault_of [] (connect 0) ≡ Some OutOfPlace
unfolding fault_of
two_faults = refl

-- and in one
bad_session : fault_of (form.Phase ∷ []) (connect 0) ≡ Some BadSession
unfolding fault_of
bad_session = refl

-- a second block of a session; one of another session is none
second_block : fault_of (form.Phase ∷ connect 7 ∷ []) (connect 7) ≡ Some BadSession
unfolding fault_of
second_block = refl

other_block : fault_of (form.Phase ∷ connect 7 ∷ []) (connect 8) ≡ None
unfolding fault_of lines_in session_now kinds_open brackets_from counted tables_of
other_block = refl

-- no names at the first block; names at a later one; and a later one as it should be
no_names : fault_of (form.Phase ∷ []) (form.Resume (Some 7)) ≡ Some BadSession
unfolding fault_of
no_names = refl

names_again : fault_of (form.Phase ∷ connect 7 ∷ form.Phase ∷ []) (connect 7) ≡ Some BadSession
unfolding fault_of
names_again = refl

later_block : fault_of (form.Phase ∷ connect 7 ∷ form.Phase ∷ []) (form.Resume (Some 7)) ≡ None
unfolding fault_of behind_last lines_in session_now kinds_open brackets_from counted tables_of
later_block = refl

-- and none behind a `quit`
quit_before : fault_of (form.Phase ∷ connect 7 ∷ form.Quit ∷ form.Phase ∷ []) (form.Resume (Some 7)) ≡ Some BadSession
unfolding fault_of behind_last lines_in
quit_before = refl

-- an end in a new block, while a wait of the block before it is open
other_end : fault_of (form.Phase ∷ connect 7 ∷ form.Wait (codes "wait/io/file/sql/binlog") ∷ connect 8 ∷ []) form.End ≡ Some BadNesting
unfolding fault_of session_now lines_in kinds_open brackets_from closing_from
other_end = refl

-- an end in a later phase, of a wait that its session opened in an earlier one
later_end : fault_of (form.Phase ∷ connect 7 ∷ form.Wait (codes "wait/io/file/sql/binlog") ∷ form.Phase ∷ connect 8 ∷ form.Resume (Some 7) ∷ []) form.End ≡ None
unfolding fault_of session_now lines_in kinds_open brackets_from closing_from counted tables_of
later_end = refl

-- a `quit` with a wait open
early_quit : fault_of (form.Phase ∷ connect 7 ∷ form.Wait (codes "wait/io/file/sql/binlog") ∷ []) form.Quit ≡ Some BadNesting
unfolding fault_of session_now lines_in kinds_open brackets_from closing_from
early_quit = refl

-- in a block any command may stand, whatever its text asks for: a SELECT, in other letters and behind blanks too
select_inside : fault_of (form.Phase ∷ connect 7 ∷ []) (form.Sql (codes "SELECT 1")) ≡ None
unfolding fault_of lines_in session_now kinds_open brackets_from counted tables_of begins_with command_of
select_inside = refl

low_select_inside : fault_of (form.Phase ∷ connect 7 ∷ []) (form.Sql (codes "  sElect 1")) ≡ None
unfolding fault_of lines_in session_now kinds_open brackets_from counted tables_of begins_with command_of
low_select_inside = refl

nonsense_inside : fault_of (form.Phase ∷ connect 7 ∷ []) (form.Sql (codes "selected")) ≡ None
unfolding fault_of lines_in session_now kinds_open brackets_from counted tables_of begins_with command_of
nonsense_inside = refl

truncation_inside : fault_of (form.Phase ∷ connect 7 ∷ []) (form.Sql (codes "TRUNCATE accounts")) ≡ None
unfolding fault_of lines_in session_now kinds_open brackets_from counted tables_of begins_with command_of
truncation_inside = refl

-- outside a block none may
select_outside : fault_of [] (form.Sql (codes "SELECT 1")) ≡ Some OutOfPlace
unfolding fault_of session_now lines_in begins_with command_of
select_outside = refl

truncation_outside : fault_of [] (form.Sql (codes "TRUNCATE accounts")) ≡ Some OutOfPlace
unfolding fault_of session_now lines_in begins_with command_of
truncation_outside = refl

-- a SELECT in each of 256 rounds, and in one round more
few_selects : is_too_much (form.Phase ∷ connect 7 ∷ form.Repeat (Some 256) ∷ form.Sql (codes "SELECT 1") ∷ []) form.Done ≡ false
unfolding counted begins_with command_of
few_selects = refl

many_selects : is_too_much (form.Phase ∷ connect 7 ∷ form.Repeat (Some 257) ∷ form.Sql (codes "SELECT 1") ∷ []) form.Done ≡ true
unfolding counted begins_with command_of
many_selects = refl

-- a limit by its name; a name of no limit is told as unknown
digests_limit : fault_of [] (form.Limit (codes "digests") (Some 8)) ≡ None
unfolding fault_of named_limit lines_in session_now kinds_open brackets_from counted tables_of
digests_limit = refl

users_limit : fault_of [] (form.Limit (codes "users") (Some 8)) ≡ None
unfolding fault_of named_limit lines_in session_now kinds_open brackets_from counted tables_of
users_limit = refl

limit_unknown : fault_of [] (form.Limit (codes "digest") (Some 8)) ≡ Some UnknownName
unfolding fault_of named_limit lines_in session_now kinds_open brackets_from counted tables_of
limit_unknown = refl

-- a later phase, in which a session goes on and ends
later_phase : fault_of (form.Phase ∷ connect 7 ∷ []) form.Phase ≡ None
unfolding fault_of behind_last lines_in session_now kinds_open brackets_from counted tables_of
later_phase = refl

later_quit : fault_of (form.Phase ∷ connect 7 ∷ form.Phase ∷ form.Resume (Some 7) ∷ []) form.Quit ≡ None
unfolding fault_of behind_last lines_in session_now kinds_open brackets_from counted tables_of
later_quit = refl

-- SQL commands by their first letters
select_weight : sql_weight (codes " \tsElEcTx") ≡ 10000
unfolding begins_with command_of
select_weight = refl

truncate_weight : sql_weight (codes "TRUNCATE t") ≡ 20000
unfolding begins_with command_of
truncate_weight = refl

other_weight : sql_weight (codes "SELEC") ≡ 300
unfolding begins_with command_of
other_weight = refl

-- three rounds of two lines, the repeat and its end; while it isn't done its lines count once
repeated : counted one_each (form.Silent ∷ form.Repeat (Some 3) ∷ form.End ∷ form.Silent ∷ form.Done ∷ []) ≡ 9
unfolding counted
repeated = refl

repeated_weight : counted weight_of (form.Repeat (Some 3) ∷ form.End ∷ form.Silent ∷ form.Done ∷ []) ≡ 29
unfolding counted
repeated_weight = refl

not_done : counted one_each (form.Repeat (Some 3) ∷ form.End ∷ form.Silent ∷ []) ≡ 3
unfolding counted
not_done = refl

abbrev lost_file : Sense
lost_file = record { class = λ name. Some (refs.Lost File); names = codes "h" ∷ codes "u" ∷ []; tables = []; digests = [] }

abbrev names : Connect
names = record { user = 1; host = 0 }

-- the lines of a block end with the next one
two_blocks : blocks_of lost_file (connect 7 ∷ form.Wait [] ∷ form.Silent ∷ connect 2 ∷ form.Spend (Some 5) ∷ []) ≡ record { session = 7; connect = Some names; lines = said.Wait (refs.Lost File) ∷ [] } ∷ record { session = 2; connect = Some names; lines = said.Spend 5 ∷ [] } ∷ []
unfolding blocks_of block_lines
two_blocks = refl

-- a repeat may end with the wait open that it began with, though it is another; and not with a statement in its place
abbrev wait : Form
wait = form.Wait (codes "wait/io/file/sql/binlog")

abbrev repeated_lines : Form → List Form
repeated_lines again = form.Phase ∷ connect 7 ∷ wait ∷ form.Repeat (Some 2) ∷ form.End ∷ again ∷ []

same_kinds_open : fault_of (repeated_lines wait) form.Done ≡ None
unfolding fault_of behind_last ahead_of_last session_now lines_in kinds_open brackets_from closing_from counted tables_of
same_kinds_open = refl

other_kinds_open : fault_of (repeated_lines (form.Statement (codes "statement/sql/select") [])) form.Done ≡ Some BadNesting
unfolding fault_of behind_last ahead_of_last session_now lines_in kinds_open brackets_from closing_from
other_kinds_open = refl

-- while a repeat isn't done, another may not begin
repeat_in_repeat : fault_of (repeated_lines wait) (form.Repeat None) ≡ Some OutOfPlace
unfolding fault_of behind_last session_now lines_in
repeat_in_repeat = refl

-- in full at its `done`, a repeat has too many lines, or too much weight
too_long : fault_of (form.Phase ∷ connect 7 ∷ form.Repeat (Some 199997) ∷ form.Spend (Some 1) ∷ []) form.Done ≡ Some TooLong
unfolding fault_of behind_last ahead_of_last session_now lines_in kinds_open brackets_from counted
too_long = refl

too_heavy : is_too_much (form.Phase ∷ connect 7 ∷ form.Repeat (Some 623713) ∷ form.End ∷ []) form.Done ≡ true
unfolding counted
too_heavy = refl

not_too_heavy : is_too_much (form.Phase ∷ connect 7 ∷ form.Repeat (Some 623712) ∷ form.End ∷ []) form.Done ≡ false
unfolding counted
not_too_heavy = refl
