-- A session through all its phases.
use Rattle.std.proofs.Common.{ℕ, ◌≡◌, ◌==◌, Bool, true, false, cond, List, [], ◌∷◌, ◌++◌, Option, refl, ap, sym, subst}
use Rattle.pfs_model.specs.Contents.{Facts, amount_by}
use Rattle.pfs_model.specs.Contexts.{Context, Waiting}
use Rattle.pfs_model.specs.Contexts.{fresh as empty}
use Rattle.pfs_model.specs.EntryPlaces.{Placed, placed_lines, after_lines, told_by, by_session, places}
use Rattle.pfs_session.specs.Settlements.{owed_in}
use Rattle.pfs_session.specs.SessionStates.{State, fresh}
use Rattle.pfs_session.specs.Turns.{steps_of}
use Rattle.pfs_stat.specs.Stat.{MergeIsMonoid}
use Rattle.pfs_law_session.proofs.LineAmounts.{accounted, added_more, put_more, sums}
use Rattle.pfs_law_session.proofs.JournalLines.{journaled, parts_number}
use Rattle.pfs_law_session.proofs.EventAmounts.{once_both}
use Rattle.pfs_law_session.proofs.Stints.{own_places, own_is, IfOwn, AreOwn, own_stints}
use Rattle.pfs_law_session.specs.Agreement.{Agrees, Stands, IsOver}
use Rattle.pfs_law_session.specs.Amounts.{Clocked, all_stepped, AllFacts, AllPlaced, AllContentsAgree, AreAdded, ArePut, Sums, IsAccounted, WholeLaw, IsOnce, at_first, clock_behind}
use Rattle.pfs_law_session.specs.Deeds.{Part}
use Rattle.pfs_law_session.specs.JournalLaws.{AllLoadsAgree, lines_of, entries_of, state_behind, over_behind}
use Rattle.pfs_law_session.specs.Stints.{Stint, IsStint, blocks_of, parts_by, resumed, state_by, over_by}

-- parts behind others
loads_front : (flags : ℕ → ℕ → ℕ) (xs ys : List Part) → AllLoadsAgree flags (xs ++ ys) → AllLoadsAgree flags xs
loads_front flags [] ys a = tt
loads_front flags (x ∷ xs) ys a = (a.0, loads_front flags xs ys a.1)

loads_back : (flags : ℕ → ℕ → ℕ) (xs ys : List Part) → AllLoadsAgree flags (xs ++ ys) → AllLoadsAgree flags ys
loads_back flags [] ys a = a
loads_back flags (x ∷ xs) ys a = loads_back flags xs ys a.1

placed_front : (slot : Option ℕ) (number : ℕ) (xs ys : List Part) → AllPlaced slot number (xs ++ ys) → AllPlaced slot number xs
placed_front slot number [] ys a = tt
placed_front slot number (x ∷ xs) ys a = (a.0, placed_front slot number xs ys a.1)

placed_back : (slot : Option ℕ) (number : ℕ) (xs ys : List Part) → AllPlaced slot number (xs ++ ys) → AllPlaced slot number ys
placed_back slot number [] ys a = a
placed_back slot number (x ∷ xs) ys a = placed_back slot number xs ys a.1

contents_front : (content : ℕ → ℕ → List ℕ) (xs ys : List Part) → AllContentsAgree content (xs ++ ys) → AllContentsAgree content xs
contents_front content [] ys a = tt
contents_front content (x ∷ xs) ys a = (a.0, contents_front content xs ys a.1)

contents_back : (content : ℕ → ℕ → List ℕ) (xs ys : List Part) → AllContentsAgree content (xs ++ ys) → AllContentsAgree content ys
contents_back content [] ys a = a
contents_back content (x ∷ xs) ys a = contents_back content xs ys a.1

facts_front : (facts : ℕ → Facts) (k : Clocked) (xs ys : List Part) → AllFacts facts k (xs ++ ys) → AllFacts facts k xs
facts_front facts k [] ys a = tt
facts_front facts k (x ∷ xs) ys a = (a.0, facts_front facts (all_stepped k (steps_of x.turns)) xs ys a.1)

facts_back : (facts : ℕ → Facts) (k : Clocked) (xs ys : List Part) → AllFacts facts k (xs ++ ys) → AllFacts facts (clock_behind k xs) ys
facts_back facts k [] ys a = a
facts_back facts k (x ∷ xs) ys a = facts_back facts (all_stepped k (steps_of x.turns)) xs ys a.1

clock_then : (k : Clocked) (xs ys : List Part) → clock_behind (clock_behind k xs) ys ≡ clock_behind k (xs ++ ys)
clock_then k [] ys = refl
clock_then k (x ∷ xs) ys = clock_then (all_stepped k (steps_of x.turns)) xs ys

-- a session that is resumed
pub resumed_stands : (flags : ℕ → ℕ → ℕ) (over : Bool) (context : Context) (s : State) → Stands flags over context s → Stands flags over context (resumed s)
resumed_stands flags false context s a = record { slot = a.slot; opened = a.opened; held = a.held; drawn = a.drawn; wide = a.wide; low = a.low }
resumed_stands flags true context s a = record { opened = a.opened; held = a.held; nowhere = a.nowhere }

resumed_sums : (flags : ℕ → ℕ → ℕ) (slots : ℕ → Option ℕ) (facts : ℕ → ℕ → Facts) (session : ℕ) (k : Clocked) (context : Context) (s : State) → Sums flags slots facts session k context s
    → Sums flags slots facts session k context (resumed s)
resumed_sums flags slots facts session k context s a = record { clock = a.clock; begun = a.begun; going = a.going; starts = a.starts; held = a.held; seat = a.seat; own = a.own; worded = a.worded }

record IsThrough (flags : ℕ → ℕ → ℕ) (slots : ℕ → Option ℕ) (facts : ℕ → ℕ → Facts) (content : ℕ → ℕ → List ℕ) (session : ℕ) (before : List Waiting) (all : List Placed) (over : Bool)
    (clocked : Clocked) (context : Context) (s : State) : Type 0 where
  pub added : AreAdded (amount_by flags slots facts session) content all
  pub put : ArePut flags (facts session) content session all
  pub once : IsOnce flags before all context.waiting
  pub stands : Stands flags over context s
  pub sums : Sums flags slots facts session clocked context s

-- a session's own stints, from anywhere on
abbrev GoesThrough : (ℕ → ℕ → ℕ) → (ℕ → Option ℕ) → (ℕ → ℕ → Facts) → (ℕ → ℕ → List ℕ) → ℕ → List Stint → Bool → Clocked → Context → State → Type 0
GoesThrough flags slots facts content session stints over clocked context s =
    Stands flags over context s → Sums flags slots facts session clocked context s → AreOwn session over s stints → AllLoadsAgree flags (parts_by session stints)
    → AllPlaced (slots session) s.number (parts_by session stints) → AllFacts (facts session) clocked (parts_by session stints) → AllContentsAgree content (parts_by session stints)
    → IsThrough flags slots facts content session context.waiting (own_places session context stints) (over_by session over stints) (clock_behind clocked (parts_by session stints))
    (told_by session context (blocks_of stints)) (state_by session s stints)

through : MergeIsMonoid → (flags : ℕ → ℕ → ℕ) (slots : ℕ → Option ℕ) (facts : ℕ → ℕ → Facts) (content : ℕ → ℕ → List ℕ) (session : ℕ) (stints : List Stint) (over : Bool) (clocked : Clocked)
    (context : Context) (s : State) → Stands flags over context s → Sums flags slots facts session clocked context s → AreOwn session over s stints → AllLoadsAgree flags (parts_by session stints)
    → AllPlaced (slots session) s.number (parts_by session stints) → AllFacts (facts session) clocked (parts_by session stints) → AllContentsAgree content (parts_by session stints)
    → IsThrough flags slots facts content session context.waiting (own_places session context stints) (over_by session over stints) (clock_behind clocked (parts_by session stints))
    (told_by session context (blocks_of stints)) (state_by session s stints)
through m flags slots facts content session [] over clocked context s stands sums are loads placed given contents = record { added = tt; put = tt; once = λ h. refl; stands = stands; sums = sums }
through m flags slots facts content session (stint ∷ stints) over clocked context s stands sums are loads placed given contents =
    at (stint.session == session) (through m flags slots facts content session stints) are loads placed given contents where
      at : (b : Bool) → ((over : Bool) (clocked : Clocked) (context : Context) (s : State) → GoesThrough flags slots facts content session stints over clocked context s)
          → IfOwn b over s stint.parts × AreOwn session (cond b (over_behind over stint.parts) over) (cond b (resumed (state_behind s stint.parts)) s) stints
          → AllLoadsAgree flags (cond b stint.parts [] ++ parts_by session stints) → AllPlaced (slots session) s.number (cond b stint.parts [] ++ parts_by session stints)
          → AllFacts (facts session) clocked (cond b stint.parts [] ++ parts_by session stints) → AllContentsAgree content (cond b stint.parts [] ++ parts_by session stints)
          → IsThrough flags slots facts content session context.waiting
          (cond b (placed_lines stint.phase session context (lines_of stint.parts) (entries_of stint.parts)) []
          ++ own_places session (cond b (after_lines context (lines_of stint.parts) (entries_of stint.parts)) context) stints)
          (over_by session (cond b (over_behind over stint.parts) over) stints) (clock_behind clocked (cond b stint.parts [] ++ parts_by session stints))
          (told_by session (cond b (after_lines context (lines_of stint.parts) (entries_of stint.parts)) context) (blocks_of stints))
          (state_by session (cond b (resumed (state_behind s stint.parts)) s) stints)
      at true rest are loads placed given contents =
          let ps : List Part = stint.parts in
          let qs : List Part = parts_by session stints in
          let behind : State = state_behind s ps in
          let now : Context = after_lines context (lines_of ps) (entries_of ps) in
          let later : Clocked = clock_behind clocked ps in
          let is : IsStint over s ps = are.0 in
          let own : AllLoadsAgree flags ps = loads_front flags ps qs loads in
          let a : IsAccounted flags slots facts session content clocked context s ps =
          accounted m flags slots facts session content over clocked context s ps stands sums is.may is.are_parts own (placed_front (slots session) s.number ps qs placed)
          (facts_front (facts session) clocked ps qs given) (contents_front content ps qs contents) in
          let j = journaled flags over context s ps stands is.may is.are_parts own in
          let r : IsThrough flags slots facts content session now.waiting (own_places session now stints) (over_by session (over_behind over ps) stints) (clock_behind later qs)
          (told_by session now (blocks_of stints)) (state_by session (resumed behind) stints) =
          rest (over_behind over ps) later now (resumed behind) (resumed_stands flags (over_behind over ps) now behind j.stands)
          (resumed_sums flags slots facts session later now behind a.sums) are.1 (loads_back flags ps qs loads)
          (subst (λ z. AllPlaced (slots session) z qs) (sym (parts_number s ps is.are_parts)) (placed_back (slots session) s.number ps qs placed))
          (facts_back (facts session) clocked ps qs given) (contents_back content ps qs contents) in
          let here : List Placed = placed_lines stint.phase session context (lines_of ps) (entries_of ps) in
          let end : Context = told_by session now (blocks_of stints) in
          record {
            added = added_more (amount_by flags slots facts session) content here (own_places session now stints) (a.added stint.phase) r.added;
            put = put_more flags (facts session) content session here (own_places session now stints) (a.put stint.phase) r.put;
            once = once_both flags here (own_places session now stints) context.waiting now.waiting end.waiting (a.once stint.phase) r.once;
            stands = r.stands;
            sums = subst (λ z. Sums flags slots facts session z end (state_by session (resumed behind) stints)) (clock_then clocked ps qs) r.sums;
          }
      at false rest are loads placed given contents = rest over clocked context s stands sums are.1 loads placed given contents

pub whole : MergeIsMonoid → WholeLaw
whole m = λ flags slots facts content stack depths session stints are loads placed given contents.
    (let s : State = fresh session stack (depths session) in
    let agrees : Agrees flags empty s = record { slot = refl; opened = tt; held = refl; drawn = refl; wide = refl; low = tt } in
    let starts : Sums flags slots facts session at_first empty s = sums.fresh flags slots facts session stack (depths session) in
    let all : List Placed = by_session session (places (blocks_of stints)) in
    let behind : Context = told_by session empty (blocks_of stints) in
    let clock : Clocked = clock_behind at_first (parts_by session stints) in
    let left : State = state_by session s stints in
    let t : IsThrough flags slots facts content session [] (own_places session empty stints) (over_by session false stints) clock behind left =
    through m flags slots facts content session stints false at_first empty s agrees starts (own_stints stack depths session [] 0 stints are) loads placed given contents in
    let same : all ≡ own_places session empty stints = own_is session [] empty stints refl in
    let all_once : IsOnce flags [] all behind.waiting = subst (λ z. IsOnce flags [] z behind.waiting) (sym same) t.once in
    let at_end : over_by session false stints ≡ true → IsOnce flags [] all [] = λ over.
    (let gone : IsOver behind left = subst (λ b. Stands flags b behind left) over t.stands in
    let none : behind.waiting ≡ [] = sums.nothing flags slots facts session clock behind left t.sums (ap (λ z. owed_in z left.held) gone.nowhere) in
    subst (IsOnce flags [] all) none all_once) in
    record { added = subst (AreAdded (amount_by flags slots facts session) content) (sym same) t.added; put = subst (ArePut flags (facts session) content session) (sym same) t.put; once = all_once; sums = t.sums; ended = at_end })
