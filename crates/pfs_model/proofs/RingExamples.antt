-- Worked examples: where events are brought, what the rings keep, and tickets.
use Rattle.std.proofs.Common.{◌≡◌, refl, ap, ℕ, ◌+◌, ◌<◌, ◌≤◌, Bool, true, false, cond, List, [], ◌∷◌, ◌++◌, ◌==◌, inl, inr, lit<, arith}
use Rattle.std.specs.Prelude.{Some, None}
use Rattle.pfs_event.specs.declared.entry.Entry.{Entry}
use Rattle.pfs_event.specs.declared.entry.Entry.TheVariants as says
use Rattle.pfs_event.specs.declared.kind.EventKind.TheVariants as kinds
use Rattle.pfs_event.specs.declared.verdict.Verdict.TheVariants.{Attributed}
use Rattle.pfs_model.specs.declared.lines.Line.TheVariants as lines
use Rattle.pfs_model.specs.Actions.{IsAmong}
use Rattle.pfs_model.specs.Chains.{change_at, release_of, each_of}
use Rattle.pfs_model.specs.EntryPlaces.{Placed, places, places_behind}
use Rattle.pfs_model.specs.Puts.{AreBrought, history_place}
use Rattle.pfs_model.specs.Rings.{history_of, shown_at, place_of_start, AreTickets, AreRisingTickets, IsAtOwn, long_puts, tickets_shown, Ticketed, ticketed_at, LongRises, is_released_between}
use Rattle.pfs_model.proofs.ExampleEntries.{waiting, passing, select, selecting, entry_in, entry_of, slotted, flags_of_all}

-- A statement that ends is brought to its cell and, where digests are on, to its digest's row, and to nothing else: the
-- consumers' flags 28672 have `global_instrumentation`, `thread_instrumentation` and `statements_digest` alone, and 12288
-- the first two.
abbrev a_statement : List (List Entry) → List Placed
a_statement parts = places (record { phase = 1; session = 1; lines = lines.Connect ∷ lines.Start select ∷ lines.End ∷ lines.Close ∷ []; parts = parts } ∷ [])

abbrev ended_with : List Entry → List Entry → List (List Entry)
ended_with put entries =
    (says.Connect 1 (Some 0) (Some 0) (Some 0) (Some 0) ∷ says.Set 1 1 3 ∷ [])
    ∷ (says.Start (Some 1) Attributed (Some 0) (Some 1) (Some 0) None ∷ put)
    ∷ (says.End (Some 1) (Some 1) (Some 0) (Some 1) ∷ entries)
    ∷ []
    ∷ []

digested : AreBrought (flags_of_all 28672 3 3 3) (a_statement (ended_with [] (says.Add 146 1 ∷ says.Add 8386 1 ∷ [])))
unfolding places_behind
digested = (tt, (tt, (tt, ((refl, (refl, tt)), (tt, (tt, tt))))))

not_digested : AreBrought (flags_of_all 28672 3 3 3) (a_statement (ended_with [] (says.Add 146 1 ∷ []))) → ⊥
unfolding places_behind
not_digested is = absurd is.1.1.1.0.1

counted_twice : AreBrought (flags_of_all 12288 3 3 3) (a_statement (ended_with [] (says.Add 146 1 ∷ says.Add 146 2 ∷ []))) → ⊥
unfolding places_behind
counted_twice is = absurd is.1.1.1.0.1

-- with the consumers' flags at first, 28888, it is put at its current place when it starts, and again when it ends, and
-- then into its history
put_in_rings : AreBrought (flags_of_all 28888 3 3 3) (a_statement (ended_with (says.Ring 8455 1 ∷ []) (says.Add 146 1 ∷ says.Held 8386 1 1 ∷ says.Ring 8455 2 ∷ says.Busy 8486 1 1 ∷ [])))
unfolding places_behind
put_in_rings = (tt, (tt, ((refl, tt), (tt, ((refl, (refl, (refl, (refl, tt)))), (tt, (tt, (tt, (tt, tt)))))))))

not_put : AreBrought (flags_of_all 28888 3 3 3) (a_statement (ended_with [] (says.Add 146 1 ∷ says.Add 8386 1 ∷ says.Ring 8455 1 ∷ says.Ring 8486 1 ∷ []))) → ⊥
unfolding places_behind
not_put is = is.1.1.0

-- the current place of an event that starts goes by how many let-through events of its kind are open
statement_place : place_of_start 0 kinds.Statement (waiting ∷ passing ∷ []) ≡ 8455
statement_place = refl

nested_place : place_of_start 1 kinds.Statement (selecting ∷ selecting ∷ []) ≡ 8513
nested_place = refl

wait_place : place_of_start 0 kinds.Wait (waiting ∷ passing ∷ selecting ∷ []) ≡ 8451
wait_place = refl

-- a place that was released shows nothing
shown : shown_at (entry_of 1 (says.Ring 8450 1) ∷ entry_of 1 (says.Ring 8450 2) ∷ []) 8450 ≡ Some 2
shown = refl

removed : shown_at (entry_of 1 (says.Ring 8450 1) ∷ entry_of 2 (says.Free 8450 1) ∷ []) 8450 ≡ None
removed = refl

-- history: the session's first put of a kind goes to place 0, each next one to the next place, and the eleventh to
-- place 0 again; what was busy is no put, and another session's put is none of its own
abbrev ten : List Placed
ten =
    slotted 1 (says.Ring 8466 1) ∷ slotted 1 (says.Ring 8467 1) ∷ slotted 1 (says.Ring 8468 1) ∷ slotted 1 (says.Ring 8469 1)
    ∷ slotted 1 (says.Ring 8470 1) ∷ slotted 1 (says.Ring 8471 1) ∷ slotted 1 (says.Ring 8472 1) ∷ slotted 1 (says.Ring 8473 1)
    ∷ slotted 1 (says.Ring 8474 1) ∷ slotted 1 (says.Ring 8475 1) ∷ []

first_place : history_place [] 1 0 0 ≡ 8466
first_place = refl

next_place : history_place (slotted 1 (says.Busy 8467 1 1) ∷ slotted 1 (says.Ring 8466 1) ∷ []) 1 0 0 ≡ 8467
next_place = refl

place_again : history_place ten 1 0 0 ≡ 8466
place_again = refl

another_session : history_place ten 2 0 0 ≡ 8466
another_session = refl

another_kind : history_place ten 1 0 1 ≡ 8476
another_kind = refl

out_of_turn : history_place (slotted 1 (says.Ring 8466 1) ∷ []) 1 0 0 ≡ 8466 → ⊥
out_of_turn same = let no : 8467 ≡ 8466 = same in absurd (omega (arith, no))

-- of the puts the last ten are kept, but for those that a later release removed, whoever made it
kept : history_of (slotted 1 (says.Ring 8466 1) ∷ slotted 1 (says.Ring 8467 1) ∷ entry_of 2 (says.Free 8466 1) ∷ []) 1 0 0 ≡ change_at 8467 1 ∷ []
kept = refl

written_again : history_of (ten ++ (slotted 1 (says.Ring 8466 2) ∷ [])) 1 0 0
    ≡ change_at 8467 1 ∷ change_at 8468 1 ∷ change_at 8469 1 ∷ change_at 8470 1 ∷ change_at 8471 1 ∷ change_at 8472 1 ∷ change_at 8473 1 ∷ change_at 8474 1 ∷ change_at 8475 1 ∷ change_at 8466 2 ∷ []
written_again = refl

-- a ticket belongs to one place: ticket 1 to the second place of its kind
own_place : IsAtOwn 0 (record { row = 10243; ticket = Some 1 })
own_place ticket is = let same : 1 ≡ ticket = cc in omega (arith, same)

first_own : IsAtOwn 0 (record { row = 10242; ticket = Some 0 })
first_own ticket is = let same : 0 ≡ ticket = cc in omega (arith, same)

other_place : IsAtOwn 0 (record { row = 10244; ticket = Some 1 }) → ⊥
other_place is = let same : 10244 ≡ 10243 = is 1 refl in absurd (omega (arith, same))

-- two sessions put into the long history of waits: tickets 0 and 1, each at its place
abbrev two_puts : List Placed
two_puts = entry_of 2 (says.Long 10242 1 0) ∷ entry_of 1 (says.Long 10243 1 1) ∷ []

each_once : (t : ℕ) → cond (0 == t) 1 0 + (cond (1 == t) 1 0 + 0) ≤ 1
each_once t = grind arith

both_drawn : (t : ℕ) → IsAmong t (0 ∷ 1 ∷ []) → (0 ≤ t) × (t < 2)
both_drawn t (inl e) = (omega arith, omega (arith, e))
both_drawn t (inr (inl e)) = (omega arith, omega (arith, e))
both_drawn t (inr (inr none)) = absurd none

both_rise : (a b : Bool) → AreRisingTickets (tickets_shown (long_puts 0 (cond a (entry_of 2 (says.Long 10242 1 0) ∷ []) [] ++ (cond b (entry_of 1 (says.Long 10243 1 1) ∷ []) [] ++ []))))
both_rise true true = (lit< tt, tt)
both_rise true false = tt
both_rise false true = tt
both_rise false false = tt

tickets : AreTickets two_puts 1 0
tickets = record {
  placed = λ row. omega arith;
  own = (first_own, (own_place, tt));
  once = each_once;
  drawn = both_drawn;
  rising = λ session. both_rise (2 == session) (1 == session);
}

-- a ticket that stands twice, that wasn't drawn in the phase, or that falls along a session; and a place with more puts
-- than tickets, here a busy one
ticket_twice : AreTickets (entry_of 1 (says.Long 10242 1 0) ∷ entry_of 2 (says.Late 10242 0 1000) ∷ []) 1 0 → ⊥
ticket_twice is = let two : 2 ≤ 1 = is.once 0 in absurd (omega (arith, two))

not_drawn : AreTickets (entry_of 1 (says.Long 10243 1 1) ∷ []) 1 0 → ⊥
not_drawn is = let high : 1 < 1 = (is.drawn 1 (inl refl)).1 in absurd (omega (arith, high))

drawn_before : AreTickets (entry_in 1 2 (says.Long 10242 1 0) ∷ entry_in 2 1 (says.Long 10242 2 0) ∷ []) 2 0 → ⊥
drawn_before is = let low : 1 ≤ 0 = (is.drawn 0 (inl refl)).0 in absurd (omega (arith, low))

ticket_falls : AreTickets (entry_of 1 (says.Long 10243 1 1) ∷ entry_of 1 (says.Long 10242 1 0) ∷ []) 1 0 → ⊥
ticket_falls is = let low : 1 < 0 = (is.rising 1).0 in absurd (omega (arith, low))

one_put_more : AreTickets (entry_of 1 (says.Busy 10243 1 1) ∷ []) 1 0 → ⊥
one_put_more is = let one : 1 ≡ 0 = is.placed 10243 in absurd (omega (arith, one))

-- along a place the tickets rise with the versions, whichever stands first in the report, unless a release stands between
abbrev puts_of_place : List Ticketed
puts_of_place = each_of ticketed_at (entry_of 1 (says.Long 10242 2 1000) ∷ entry_of 2 (says.Long 10242 1 0) ∷ [])

rise : (first next : Ticketed) → IsAmong first puts_of_place → IsAmong next puts_of_place → first.version < next.version → first.ticket < next.ticket
rise first next (inl f) (inl n) low = omega (arith, low, ap (λ (t : Ticketed). t.version) f, ap (λ (t : Ticketed). t.version) n)
rise first next (inl f) (inr (inl n)) low = omega (arith, low, ap (λ (t : Ticketed). t.version) f, ap (λ (t : Ticketed). t.version) n)
rise first next (inl f) (inr (inr none)) low = absurd none
rise first next (inr (inl f)) (inl n) low = omega (arith, ap (λ (t : Ticketed). t.ticket) f, ap (λ (t : Ticketed). t.ticket) n)
rise first next (inr (inl f)) (inr (inl n)) low = omega (arith, low, ap (λ (t : Ticketed). t.version) f, ap (λ (t : Ticketed). t.version) n)
rise first next (inr (inl f)) (inr (inr none)) low = absurd none
rise first next (inr (inr none)) b low = absurd none

place_rises : LongRises (entry_of 1 (says.Long 10242 2 1000) ∷ entry_of 2 (says.Long 10242 1 0) ∷ [])
place_rises first next a b row low none = rise first next a b low

place_falls : LongRises (entry_of 1 (says.Long 10242 1 1000) ∷ entry_of 2 (says.Long 10242 2 0) ∷ []) → ⊥
place_falls rises =
    let low : 1000 < 0 = rises (record { row = 10242; version = 1; ticket = 1000 }) (record { row = 10242; version = 2; ticket = 0 }) (inl refl) (inr (inl refl)) refl (lit< tt) refl in
    absurd (omega (arith, low))

released_between : is_released_between (each_of release_of (entry_of 2 (says.Free 10242 1) ∷ [])) 10242 1 2 ≡ true
released_between = refl

released_behind : is_released_between (each_of release_of (entry_of 2 (says.Free 10242 2) ∷ [])) 10242 1 2 ≡ false
released_behind = refl
