-- What an entry's context is, of the entries before it.
use Rattle.std.specs.Prelude.{ℕ, ◌≡◌, ◌⊎◌, ◌==◌, Bool, true, false, cond, List, [], ◌∷◌, None}
use Rattle.pfs_event.specs.declared.entry.Entry.{Entry}
use Rattle.pfs_event.specs.declared.entry.Entry.TheVariants as says
use Rattle.pfs_model.specs.Actions.{IsAmong, is_acted}
use Rattle.pfs_model.specs.Chains.{action_change, change_at}
use Rattle.pfs_model.specs.Contexts.{Context, fresh, noted, subject_of, turned}
use Rattle.pfs_model.specs.EntryAsks.{is_head}
use Rattle.pfs_model.specs.EntryPlaces.{Block, IsShaped, Placed, places, told_by}

-- what a session's entry leaves
abbrev pub left_by : Placed → Context
left_by place = noted (subject_of place.line) place.context place.entry

-- what the last entry of a session leaves; of all entries so far the last stands first
abbrev pub left_in : List Placed → ℕ → Context
left_in [] session = fresh
left_in (place ∷ earlier) session = cond (place.session == session) (left_by place) (left_in earlier session)

-- a context is what was left, or that once the line has ended
abbrev pub GoesOn : Context → Context → Type 0
GoesOn left context = (context ≡ left) ⊎ (context ≡ turned left)

-- the entry that says the action's number
pub record HasBegun (earlier : List Placed) (session action : ℕ) : Type 0 where
  pub place : Placed
  pub there : IsAmong place earlier
  pub own : place.session ≡ session
  pub says : action_change place.entry ≡ change_at 0 action ∷ []

-- an entry of a line that ends no event
abbrev pub is_quiet : Entry → Bool
is_quiet (says.Connect action thread account user host) = true
is_quiet (says.Act action) = true
is_quiet says.Query = true
is_quiet (says.Error error) = true
is_quiet _ = false

-- Only an entry that begins something may be the first of a line: of any other the line goes on. What an action does
-- stands behind the entry that says its number. And no event has ended on the line of an action, a query or an error.
pub record IsToldOf (earlier : List Placed) (place : Placed) : Type 0 where
  pub goes : GoesOn (left_in earlier place.session) place.context
  pub inside : is_head place.entry ≡ false → place.context ≡ left_in earlier place.session
  pub begun : is_acted place.entry ≡ true → HasBegun earlier place.session place.context.action
  pub quiet : is_quiet place.entry ≡ true → place.context.ended ≡ None

-- of all entries from here on
abbrev pub AreToldBehind : List Placed → List Placed → Type 0
AreToldBehind earlier [] = Unit {0}
AreToldBehind earlier (place ∷ places) = IsToldOf earlier place × AreToldBehind (place ∷ earlier) places

abbrev pub ContextLaw : Type 0
ContextLaw = (blocks : List Block) → IsShaped blocks → AreToldBehind [] (places blocks)

-- these behind those, the last first
abbrev pub past : List Placed → List Placed → List Placed
past earlier [] = earlier
past earlier (place ∷ places) = past (place ∷ earlier) places

abbrev pub EndLaw : Type 0
EndLaw = (blocks : List Block) (session : ℕ) → IsShaped blocks
    → GoesOn (left_in (past [] (places blocks)) session) (told_by session fresh blocks)
