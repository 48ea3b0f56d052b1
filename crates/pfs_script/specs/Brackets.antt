-- Events as brackets over a finished list of marks: where each one closes, which are open behind the list, and which
-- marks may follow. There is no stack here; an event goes by the place of its line, from 0.
use Rattle.std.specs.Prelude.{ℕ, zero, suc, ◌≡◌, ◌+◌, ◌==◌, Bool, true, false, not, if◌then◌else◌, List, [], ◌∷◌, ◌++◌, map, filter, reverse, drop, Option, Some, None, is_some}
use Rattle.pfs_event.specs.declared.kind.EventKind.{EventKind}
use Rattle.pfs_event.specs.declared.kind.EventKind.TheVariants.{Wait, Stage, Statement, Transaction}
use Rattle.pfs_event.specs.StartOrder.{may_start}
use Rattle.pfs_script.specs.Marks.{Mark, Opens, Ends, EndsStage, Passes}

-- how many events other than stages are open between an event and a mark: a stage doesn't count, for what ends its
-- statement ends it too
abbrev pub deeper : EventKind → ℕ → ℕ
deeper Stage depth = depth
deeper Wait depth = suc depth
deeper Statement depth = suc depth
deeper Transaction depth = suc depth

abbrev pub shallower : ℕ → ℕ
shallower zero = zero
shallower (suc depth) = depth

abbrev pub depth_behind : Mark → ℕ → ℕ
depth_behind (Opens kind) depth = deeper kind depth
depth_behind Ends depth = shallower depth
depth_behind EndsStage depth = depth
depth_behind Passes depth = depth

-- with nothing but stages open in between, an end closes every event, and a stage line of either form closes a stage
abbrev pub closes : EventKind → ℕ → Mark → Bool
closes kind (suc depth) mark = false
closes kind zero Ends = true
closes kind zero Passes = false
closes Stage zero EndsStage = true
closes Wait zero EndsStage = false
closes Statement zero EndsStage = false
closes Transaction zero EndsStage = false
closes Stage zero (Opens Stage) = true
closes Stage zero (Opens Wait) = false
closes Stage zero (Opens Statement) = false
closes Stage zero (Opens Transaction) = false
closes Wait zero (Opens other) = false
closes Statement zero (Opens other) = false
closes Transaction zero (Opens other) = false

-- the place of the mark that closes an event of this kind, with the first of these marks at this place and so many
-- events in between
unfoldable pub closing_from : ℕ → EventKind → ℕ → List Mark → Option ℕ
closing_from place kind depth [] = None
closing_from place kind depth (mark ∷ marks) =
    if closes kind depth mark then Some place else closing_from (place + 1) kind (depth_behind mark depth) marks

-- an event: its place, its kind, and the place where it closes
pub record Bracket : Type 0 where
  pub opened : ℕ
  pub kind : EventKind
  pub closed : Option ℕ

-- the events that these marks open, in their order, with the first mark at this place
unfoldable pub brackets_from : ℕ → List Mark → List Bracket
brackets_from place [] = []
brackets_from place (Opens kind ∷ marks) = record {
  opened = place;
  kind = kind;
  closed = closing_from (place + 1) kind 0 marks;
} ∷ brackets_from (place + 1) marks
brackets_from place (Ends ∷ marks) = brackets_from (place + 1) marks
brackets_from place (EndsStage ∷ marks) = brackets_from (place + 1) marks
brackets_from place (Passes ∷ marks) = brackets_from (place + 1) marks

abbrev pub brackets_of : List Mark → List Bracket
brackets_of marks = brackets_from 0 marks

-- an event apart from where it closes
pub record Opening : Type 0 where
  pub place : ℕ
  pub kind : EventKind

abbrev pub opening_of : Bracket → Opening
opening_of bracket = record { place = bracket.opened; kind = bracket.kind }

-- the events whose closing passes the test, the last to open first
abbrev pub openings_where : (Option ℕ → Bool) → ℕ → List Mark → List Opening
openings_where test place marks =
    reverse (map opening_of (filter (λ (bracket : Bracket). test bracket.closed) (brackets_from place marks)))

abbrev pub is_unclosed : Option ℕ → Bool
is_unclosed closed = not (is_some closed)

abbrev pub closes_at : ℕ → Option ℕ → Bool
closes_at place None = false
closes_at place (Some other) = other == place

-- the events that are open behind these marks, from the innermost on
abbrev pub open_in : List Mark → List Opening
open_in marks = openings_where is_unclosed 0 marks

-- the events that close at a place, from the innermost on
abbrev pub closed_at : List Mark → ℕ → List Opening
closed_at marks place = openings_where (closes_at place) 0 marks

-- the kinds of events
abbrev pub kinds_of : List Opening → List EventKind
kinds_of openings = map (λ (opening : Opening). opening.kind) openings

abbrev pub innermost : List EventKind → Option EventKind
innermost [] = None
innermost (kind ∷ kinds) = Some kind

-- 1 where the innermost is a stage
abbrev pub stages_first : List EventKind → ℕ
stages_first [] = 0
stages_first (Stage ∷ kinds) = 1
stages_first (Wait ∷ kinds) = 0
stages_first (Statement ∷ kinds) = 0
stages_first (Transaction ∷ kinds) = 0

-- how many of the open events, from the innermost on, a mark ends
abbrev pub ended_by : Mark → List EventKind → ℕ
ended_by Ends [] = 0
ended_by Ends (Stage ∷ []) = 1
ended_by Ends (Stage ∷ kind ∷ kinds) = 2
ended_by Ends (Wait ∷ kinds) = 1
ended_by Ends (Statement ∷ kinds) = 1
ended_by Ends (Transaction ∷ kinds) = 1
ended_by EndsStage kinds = stages_first kinds
ended_by (Opens Stage) kinds = stages_first kinds
ended_by (Opens Wait) kinds = 0
ended_by (Opens Statement) kinds = 0
ended_by (Opens Transaction) kinds = 0
ended_by Passes kinds = 0

-- what a mark at this place opens
abbrev pub opened_by : ℕ → Mark → List Opening
opened_by place (Opens kind) = record { place = place; kind = kind } ∷ []
opened_by place Ends = []
opened_by place EndsStage = []
opened_by place Passes = []

abbrev pub kind_opened : Mark → List EventKind
kind_opened (Opens kind) = kind ∷ []
kind_opened Ends = []
kind_opened EndsStage = []
kind_opened Passes = []

-- the kinds of the events that are open behind a mark
abbrev pub kinds_behind : Mark → List EventKind → List EventKind
kinds_behind mark kinds = kind_opened mark ++ drop (ended_by mark kinds) kinds

-- where events of these kinds are open, the mark may follow: an event starts where its kind may inside the innermost
-- that the mark leaves open, an end needs something open, and the end of a stage a stage
abbrev pub may_stand : List EventKind → Mark → Bool
may_stand kinds (Opens kind) = may_start kind (innermost (drop (ended_by (Opens kind) kinds) kinds))
may_stand kinds Ends = is_some (innermost kinds)
may_stand kinds EndsStage = stages_first kinds == 1
may_stand kinds Passes = true

abbrev pub may_follow : List Mark → Mark → Bool
may_follow marks mark = may_stand (kinds_of (open_in marks)) mark

-- behind the marks before them, each of these may stand where it does
abbrev pub Follows : List Mark → List Mark → Type 0
Follows before [] = Unit {0}
Follows before (mark ∷ marks) = (may_follow before mark ≡ true) × Follows (before ++ mark ∷ []) marks

-- the innermost event is a statement, or a stage, which lies in one
abbrev pub is_in_statement : List EventKind → Bool
is_in_statement [] = false
is_in_statement (Statement ∷ kinds) = true
is_in_statement (Stage ∷ kinds) = true
is_in_statement (Wait ∷ kinds) = false
is_in_statement (Transaction ∷ kinds) = false
