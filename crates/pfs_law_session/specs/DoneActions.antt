-- What the entries of a session's lines say was done is what the administration asks for.
use Rattle.std.specs.Prelude.{ℕ, ◌≡◌, ◌<◌, ◌==◌, cond, List, [], ◌∷◌}
use Rattle.pfs_event.specs.declared.entry.Entry.{Entry}
use Rattle.pfs_event.specs.declared.entry.Entry.TheVariants as says
use Rattle.pfs_model.specs.ActionAsks.{AreAnswered, asked_of, of_action}
use Rattle.pfs_model.specs.ActionAsks.{did as did_by}
use Rattle.pfs_model.specs.Chains.{Each, each_of}
use Rattle.pfs_model.specs.Contents.{Given, IsContent, AreFoundAsCounted}
use Rattle.pfs_model.specs.Contexts.{Context, turned}
use Rattle.pfs_model.specs.EntryPlaces.{Placed, placed_part}
use Rattle.pfs_law_session.specs.Amounts.{ContentsAgree}
use Rattle.pfs_law_session.specs.Deeds.{Part, IsPart, line_of, part_calls, part_entries}
use Rattle.pfs_session.specs.SessionStates.{State}
use Rattle.pfs_law_session.specs.Demands.{Orders, AreOrders, number_of}

-- but for an addition and a put, a change makes its row's content of the one before: a take, a give, a tag
abbrev pub IsMade : Given → (ℕ → ℕ → List ℕ) → Placed → Entry → Type 0
IsMade given content place (says.Add row version) = Unit {0}
IsMade given content place (says.Ring row version) = Unit {0}
IsMade given content place (says.Long row version ticket) = Unit {0}
IsMade given content place entry = IsContent given content place entry

abbrev pub AreMade : Given → (ℕ → ℕ → List ℕ) → List Placed → Type 0
AreMade given content [] = Unit {0}
AreMade given content (place ∷ places) = IsMade given content place place.entry × AreMade given content places

-- no entry is of an action
abbrev pub AreIdle : List Placed → Type 0
AreIdle places = Each (λ place. place.context.action ≡ 0) places

-- Under its number stands just what the action asks for, in this order; a connect has the rooms and a change its answer;
-- takes are found as counted; and each take, give and tag makes its row's content. Where the line is no action, nothing stands under any.
pub record IsDone (orders : Orders) (given : Given) (content : ℕ → ℕ → List ℕ) (p : Part) (placed : List Placed) : Type
    0 where
  pub done : (number : ℕ) → 0 < number → each_of did_by (of_action number placed)
      ≡ cond (number_of p.deed == number) (asked_of (orders.counted number) (orders.asked number)) []
  pub idle : number_of p.deed ≡ 0 → AreIdle placed
  pub answered : AreAnswered orders.rooms orders.answers placed
  pub found : AreFoundAsCounted content orders.counted placed
  pub made : AreMade given content placed

-- of each line of a session, whatever its store, where takes and puts agree with the contents
abbrev pub DoneLaw : Type 0
DoneLaw = (orders : Orders) (given : Given) (content : ℕ → ℕ → List ℕ) (s : State) (p : Part) (phase session : ℕ)
    (context : Context) → IsPart s p → ContentsAgree content (part_calls p)
    → (0 < number_of p.deed → AreOrders orders given content s.number p)
    → IsDone orders given content p (placed_part phase session (line_of p.deed) (turned context) (part_entries p))
