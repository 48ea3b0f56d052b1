-- The entries of all journals in the order of the report, each with where it stands and what its session's entries
-- before it tell.
use Rattle.std.specs.Prelude.{ℕ, ◌≤◌, ◌==◌, nat_lt, nat_le, cond, Bool, List, [], ◌∷◌, ◌++◌}
use Rattle.pfs_event.specs.declared.entry.Entry.{Entry}
use Rattle.pfs_model.specs.declared.lines.Line.{Line}
use Rattle.pfs_model.specs.Contexts.{Context, fresh, subject_of, noted, turned, after}
use Rattle.pfs_model.specs.JournalCuts.{AreShaped}

-- a session's block in a phase: its lines, the end of the block among them, and the entries of each
pub record Block : Type 0 where
  pub phase : ℕ
  pub session : ℕ
  pub lines : List Line
  pub parts : List (List Entry)

-- an entry, the phase and the session in whose journal it stands, its line, and what the session's entries before it
-- tell
pub record Placed : Type 0 where
  pub phase : ℕ
  pub session : ℕ
  pub line : Line
  pub context : Context
  pub entry : Entry

-- the entries of one line
abbrev pub placed_part : ℕ → ℕ → Line → Context → List Entry → List Placed
placed_part phase session line context [] = []
placed_part phase session line context (entry ∷ entries) =
    record { phase = phase; session = session; line = line; context = context; entry = entry }
    ∷ placed_part phase session line (noted (subject_of line) context entry) entries

-- the entries of lines one after another
abbrev pub placed_lines : ℕ → ℕ → Context → List Line → List (List Entry) → List Placed
placed_lines phase session context [] parts = []
placed_lines phase session context (line ∷ lines) [] = []
placed_lines phase session context (line ∷ lines) (part ∷ parts) =
    placed_part phase session line (turned context) part
    ++ placed_lines phase session (after context line part) lines parts

abbrev pub after_lines : Context → List Line → List (List Entry) → Context
after_lines context [] parts = context
after_lines context (line ∷ lines) [] = context
after_lines context (line ∷ lines) (part ∷ parts) = after_lines (after context line part) lines parts

-- what a session's blocks among these tell of it
abbrev pub told_by : ℕ → Context → List Block → Context
told_by session context [] = context
told_by session context (block ∷ blocks) =
    told_by session (cond (block.session == session) (after_lines context block.lines block.parts) context) blocks

-- the entries of these blocks behind those
unfoldable pub places_behind : List Block → List Block → List Placed
places_behind earlier [] = []
places_behind earlier (block ∷ blocks) =
    placed_lines block.phase block.session (told_by block.session fresh earlier) block.lines block.parts
    ++ places_behind (earlier ++ block ∷ []) blocks

-- the entries that pass a test
abbrev pub chosen : (Placed → Bool) → List Placed → List Placed
chosen test [] = []
chosen test (place ∷ places) = cond (test place) (place ∷ []) [] ++ chosen test places

-- the entries of a session
abbrev pub by_session : ℕ → List Placed → List Placed
by_session session places = chosen (λ place. place.session == session) places

-- the entries of the phases before this one, of those up to it, and of this one
abbrev pub before_phase : ℕ → List Placed → List Placed
before_phase phase places = chosen (λ place. nat_lt place.phase phase) places

abbrev pub up_to_phase : ℕ → List Placed → List Placed
up_to_phase phase places = chosen (λ place. nat_le place.phase phase) places

abbrev pub in_phase : ℕ → List Placed → List Placed
in_phase phase places = chosen (λ place. place.phase == phase) places

-- all entries, in the order of the report
abbrev pub places : List Block → List Placed
places blocks = places_behind [] blocks

-- each block's entries are what its lines ask for and allow, behind the session's earlier blocks; and the phases
-- never fall
abbrev pub AreShapedBehind : List Block → ℕ → List Block → Type 0
AreShapedBehind earlier phase [] = Unit {0}
AreShapedBehind earlier phase (block ∷ blocks) =
    (phase ≤ block.phase) × AreShaped (told_by block.session fresh earlier) block.lines block.parts
    × AreShapedBehind (earlier ++ block ∷ []) block.phase blocks

abbrev pub IsShaped : List Block → Type 0
IsShaped blocks = AreShapedBehind [] 0 blocks
