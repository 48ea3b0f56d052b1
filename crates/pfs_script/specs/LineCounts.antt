-- Which lines stand behind others, and how many lines there are in all.
use Rattle.std.specs.Prelude.{ℕ, ◌+◌, ◌-◌, ◌*◌, ◌&&◌, Bool, true, false, not, if◌then◌else◌, List, [], ◌∷◌, Option, Some, None, option_map, unwrap_or}
use Rattle.std.specs.List.{list_any, sum_by}
use Rattle.pfs_script.specs.declared.forms.Form.{Form}
use Rattle.pfs_script.specs.declared.forms.Form.TheVariants as form

-- the lines behind the last one that passes the test; all of them where none does
unfoldable pub behind_last : (Form → Bool) → List Form → List Form
behind_last test [] = []
behind_last test (line ∷ lines) =
    if list_any test lines then behind_last test lines else (if test line then lines else line ∷ lines)

-- the lines before the last one that passes the test; none where none does
unfoldable pub ahead_of_last : (Form → Bool) → List Form → List Form
ahead_of_last test [] = []
ahead_of_last test (line ∷ lines) = if list_any test lines then line ∷ ahead_of_last test lines else []

abbrev pub is_repeat : Form → Bool
is_repeat (form.Repeat times) = true
is_repeat _ = false

abbrev pub is_done : Form → Bool
is_done form.Done = true
is_done _ = false

-- a repeat isn't done: no `done` stands behind the last one
abbrev pub is_in_repeat : List Form → Bool
is_in_repeat before = list_any is_repeat before && not (list_any is_done (behind_last is_repeat before))

-- the lines up to the `done`; none where no `done` stands among them
abbrev pub until_done : List Form → Option (List Form)
until_done [] = None
until_done (line ∷ lines) = if is_done line then Some [] else option_map (λ more. line ∷ more) (until_done lines)

-- what the lines behind a `repeat` come to besides the one time that they stand there, once its `done` is there
abbrev pub again : (Form → ℕ) → Form → List Form → ℕ
again measure (form.Repeat (Some times)) lines =
    unwrap_or (option_map (λ body. (times - 1) * sum_by measure body) (until_done lines)) 0
again measure _ lines = 0

-- what the lines come to, each by this measure, those of a `repeat` that is done as often as it says
unfoldable pub counted : (Form → ℕ) → List Form → ℕ
counted measure [] = 0
counted measure (line ∷ lines) = measure line + again measure line lines + counted measure lines

-- how often more than once a line lets the lines behind it run
abbrev pub once_more : Form → ℕ
once_more (form.Repeat times) = unwrap_or times 0 - 1
once_more _ = 0

-- how often more than once the next line runs, where a repeat isn't done
unfoldable pub more_times : List Form → ℕ
more_times [] = 0
more_times (line ∷ lines) = (if list_any is_done lines then 0 else once_more line) + more_times lines

-- what a `done` behind the lines adds to their count besides its own measure
unfoldable pub pending : (Form → ℕ) → List Form → ℕ
pending measure [] = 0
pending measure (line ∷ lines) =
    (if list_any is_done lines then 0 else once_more line * sum_by measure lines) + pending measure lines
