-- What a load and a draw add to what the seats of the words and of the tickets have kept.
use Rattle.std.proofs.Common.{ap, slice_index, ℕ, ◌≡◌, ◌+◌, ◌<◌, ◌≤◌, ◌==◌, cond, length, get_or, slice_set, List, [], ◌∷◌, refl, sym, ◌∙◌, subst, arith, inl, inr}
use Rattle.std.proofs.lemmas.Bool.{cases_eq}
use Rattle.std.proofs.lemmas.List.{get_or-set_other, get_or-set_same, length-set}
use Rattle.atomic_table.specs.Seated.{TableId}
use Rattle.pfs_levels.specs.Calls.{Call, Adds, Rings, Reads, Loads, Draws, Takes, Puts, Frees, Sets, Enters, Leaves, Meets, Start, Opening}
use Rattle.pfs_levels.specs.CallOrder.{top_word, top_ticket}
use Rattle.pfs_board_store.specs.ActorCalls.{OnWords, OnTickets}
use Rattle.pfs_board_store.specs.Ties.{AreDrawn}
use Rattle.pfs_board_store.proofs.ViewCorners.{here_if, away_if}
use Rattle.pfs_switches.specs.SharedKnowledge.{IsTold}
use Rattle.pfs_switches.specs.History.{version as version_in, Each as AllMet}
use Rattle.pfs_switches.specs.Knowledge.{loaded, met, was_set}
use Rattle.pfs_switches.specs.Rule.{IsMeet}
use Rattle.pfs_switches.specs.declared.view.View.{View as WordView}
use Rattle.pfs_tickets.specs.Knowledge.{drew}
use Rattle.pfs_tickets.specs.SeatViews.{Known, known}
use Rattle.pfs_tickets.specs.declared.view.Drawn.{Drawn}
use Rattle.pfs_tickets.specs.declared.view.View.{View as TicketView}
use Rattle.pfs_tickets.specs.History.{Each}

pub loaded_on : (start : Opening) (calls : List Call) (w w' : WordView) (word version flags : ℕ) → word < length w.seen → w' ≡ loaded w word version flags → OnWords start calls w → OnWords start (Loads word version flags ∷ calls) w'
loaded_on start calls w w' word version flags low is r = subst (OnWords start (Loads word version flags ∷ calls)) (sym is) (
  r.0,
  r.1,
  r.2,
  (record { by_is = r.0; first_is = ap (λ ws. slice_index ws word) r.2; word_is = refl; version_is = refl; flags_is = refl }, r.3),
  λ q. elim (cases_eq q word) [
    | inl i ↦ let P : ℕ → Type 0 = λ z. cond (word == z) version (top_word calls z) ≤ get_or (slice_set w.seen word version) z 0 in
        subst P (sym i) (omega (arith, here_if word version (top_word calls word), get_or-set_same w.seen word version 0 low))
    | inr n ↦ omega (arith, away_if word q version (top_word calls q) n, get_or-set_other w.seen word q version 0 n, r.4 q)
  ],
  r.5,
)

-- the seat met the writer, who has seen these versions
pub met_on : (start : Opening) (calls : List Call) (w w' pen : WordView) → w' ≡ met w pen → OnWords start calls w → OnWords start (Meets pen.seen ∷ calls) w'
met_on start calls w w' pen is r = subst (OnWords start (Meets pen.seen ∷ calls)) (sym is) (r.0, r.1, r.2, r.3, λ q. omega arith, (r.0, refl, r.5))

-- a meet brings no version below what the seat had seen
pub met_least : (start : List ℕ) (w w' pen pen' : WordView) → w' ≡ met w pen → IsTold start w' pen' → (q : ℕ) → slice_index w.seen q ≤ slice_index pen.seen q
met_least start w w' pen pen' is told q = let P : WordView → Type 0 = λ z. AllMet (IsMeet start pen'.sets (version_in pen'.sets)) z.meets in let all : P (met w pen) = subst P is told.meets in all.0.least_is q

-- a word was set by the writer, whom the seat met before and behind it
pub set_on : (start : Opening) (calls : List Call) (w w' pen : WordView) (word version flags : ℕ) → word < length pen.seen → version ≡ slice_index pen.seen word + 1
    → ((q : ℕ) → top_word calls q ≤ slice_index pen.seen q) → w' ≡ loaded (met (met w pen) (was_set pen word version flags)) word version flags → OnWords start calls w → OnWords start (Sets word flags version ∷ calls) w'
set_on start calls w w' pen word version flags low next seen is r = let set : List ℕ = slice_set pen.seen word version in let here : slice_index set word ≡ version = get_or-set_same pen.seen word version 0 low in
    subst (OnWords start (Sets word flags version ∷ calls)) (sym is) (
      r.0,
      r.1,
      r.2,
      (record { by_is = r.0; first_is = ap (λ ws. slice_index ws word) r.2; word_is = refl; version_is = refl; flags_is = refl }, r.3),
      λ q. elim (cases_eq q word) [
        | inl i ↦ let P : ℕ → Type 0 = λ z. cond (word == z) version (top_word calls z) ≤ get_or (slice_set set word version) z 0 in
            subst P (sym i) (omega (arith, here_if word version (top_word calls word), get_or-set_same set word version 0 (omega (arith, length-set pen.seen word version, low))))
        | inr n ↦ omega (arith, away_if word q version (top_word calls q) n, get_or-set_other set word q version 0 n, get_or-set_other pen.seen word q version 0 n, seen q)
      ],
      (r.0, here, r.0, sym next, r.5),
    )

pub drawn_on : (start : Start) (calls : List Call) (t : TicketView) (k : Known) (z : TableId) (kind ticket : ℕ) → 0 < t.draws → k ≡ known z (drew t kind ticket) → OnTickets start calls t → OnTickets start (Draws kind ticket ∷ calls) k.view
drawn_on start calls t k z kind ticket left is r = let P : Known → Type 0 = λ x. OnTickets start (Draws kind ticket ∷ calls) x.view in
    subst P (sym is) (r.0, omega (arith, left, r.1), (r.0, refl, refl, r.2))

-- a ticket above all of its kind is above the greatest that the calls drew
pub ticket_rises : (start : Start) (calls : List Call) (tickets : List Drawn) (kind ticket : ℕ) → Each (λ (x : Drawn). x.kind ≡ kind → x.ticket < ticket) tickets → AreDrawn start calls tickets → top_ticket calls kind ≤ ticket
ticket_rises start [] tickets kind ticket e d = omega arith
ticket_rises start (Draws k n ∷ calls) [] kind ticket e d = absurd d
ticket_rises start (Draws k n ∷ calls) (x ∷ tickets) kind ticket e d = elim (cases_eq kind k) [
  | inl i ↦ let low : x.ticket < ticket = e.0 (d.1 ∙ sym i) in let P : ℕ → Type 0 = λ z. cond (k == z) (n + 1) (top_ticket calls z) ≤ ticket in
      subst P (sym i) (omega (arith, here_if k (n + 1) (top_ticket calls k), low, d.2))
  | inr a ↦ let rest = ticket_rises start calls tickets kind ticket e.1 d.3 in omega (arith, away_if k kind (n + 1) (top_ticket calls kind) a, rest)
]
ticket_rises start (Adds row amount answer ∷ calls) tickets kind ticket e d = ticket_rises start calls tickets kind ticket e d
ticket_rises start (Rings row content answer ∷ calls) tickets kind ticket e d = ticket_rises start calls tickets kind ticket e d
ticket_rises start (Reads row seen ∷ calls) tickets kind ticket e d = ticket_rises start calls tickets kind ticket e d
ticket_rises start (Loads at version flags ∷ calls) tickets kind ticket e d = ticket_rises start calls tickets kind ticket e d
ticket_rises start (Takes row version found ∷ calls) tickets kind ticket e d = ticket_rises start calls tickets kind ticket e d
ticket_rises start (Puts row content version ∷ calls) tickets kind ticket e d = ticket_rises start calls tickets kind ticket e d
ticket_rises start (Frees row version ∷ calls) tickets kind ticket e d = ticket_rises start calls tickets kind ticket e d
ticket_rises start (Sets at flags version ∷ calls) tickets kind ticket e d = ticket_rises start calls tickets kind ticket e d
ticket_rises start (Enters label labels ∷ calls) tickets kind ticket e d = ticket_rises start calls tickets kind ticket e d
ticket_rises start (Meets versions ∷ calls) tickets kind ticket e d = ticket_rises start calls tickets kind ticket e d
ticket_rises start (Leaves ∷ calls) tickets kind ticket e d = ticket_rises start calls tickets kind ticket e d
