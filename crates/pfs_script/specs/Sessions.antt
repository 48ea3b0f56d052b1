-- Which lines of a script are a session's: those of its blocks, over all phases.
use Rattle.std.specs.Prelude.{ℕ, ◌==◌, ◌&&◌, ◌||◌, Bool, true, false, not, if◌then◌else◌, List, [], ◌∷◌, ◌++◌, Some, unwrap_or}
use Rattle.std.specs.List.{list_any, fold}
use Rattle.pfs_script.specs.declared.forms.Form.{Form}
use Rattle.pfs_script.specs.LineCounts.{behind_last}
use Rattle.pfs_script.specs.declared.forms.Form.TheVariants as form

abbrev pub is_phase : Form → Bool
is_phase form.Phase = true
is_phase _ = false

-- the line begins the first block of a session
abbrev pub is_connect : Form → Bool
is_connect (form.Connect session user host) = true
is_connect _ = false

-- the line begins a block
abbrev pub is_session : Form → Bool
is_session (form.Connect session user host) = true
is_session (form.Resume session) = true
is_session _ = false

-- the line begins a block of this session
abbrev pub is_block_of : ℕ → Form → Bool
is_block_of number (form.Connect (Some session) user host) = session == number
is_block_of number (form.Resume (Some session)) = session == number
is_block_of number _ = false

abbrev pub is_quit : Form → Bool
is_quit form.Quit = true
is_quit _ = false

-- the lines of the phase so far
abbrev pub phase_of : List Form → List Form
phase_of before = behind_last is_phase before

-- the line ends the block before it
abbrev pub ends_block : Form → Bool
ends_block line = is_phase line || is_session line

-- the session of the block in which the lines behind this one stand; 0 for none, since sessions count from 1
abbrev pub session_behind : ℕ → Form → ℕ
session_behind session form.Phase = 0
session_behind session (form.Connect number user host) = unwrap_or number 0
session_behind session (form.Resume number) = unwrap_or number 0
session_behind session _ = session

-- the session of the block in which the next line stands, 0 where the phase has no block yet
unfoldable pub session_now : List Form → ℕ
session_now before = fold session_behind 0 before

-- a line by itself, where it stands in a block of this session
abbrev pub own_line : ℕ → ℕ → Form → List Form
own_line number session line = if session == number && not (ends_block line) then line ∷ [] else []

-- a session's among these lines, the first of which stand in a block of that session
unfoldable pub lines_in : ℕ → ℕ → List Form → List Form
lines_in number session [] = []
lines_in number session (line ∷ lines) =
    own_line number session line ++ lines_in number (session_behind session line) lines

-- the lines of a session's blocks, block after block
abbrev pub lines_of : ℕ → List Form → List Form
lines_of number lines = lines_in number 0 lines

-- the session has quit
abbrev pub has_quit : ℕ → List Form → Bool
has_quit number before = list_any is_quit (lines_of number before)
