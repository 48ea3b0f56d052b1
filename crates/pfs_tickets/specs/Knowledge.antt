-- What the view of a seat says, and how each step changes it.
use Rattle.std.specs.Prelude.{◌≡◌, ℕ, ◌+◌, ◌-◌, true, false, [], ◌∷◌, ◌++◌, length}
use Rattle.pfs_tickets.specs.declared.view.Drawn.{Drawn}
use Rattle.pfs_tickets.specs.declared.view.View.{View}

-- 2^47
abbrev pub all_draws : ℕ
all_draws = 140737488355328

-- the draws left and the tickets drawn
abbrev pub stake : View → ℕ
stake v = v.draws + length v.tickets

-- no other seat has a draw left or a ticket
abbrev pub IsWhole : View → Type 0
IsWhole v = stake v ≡ all_draws

abbrev pub ticket_of : View → ℕ → ℕ → Drawn
ticket_of v k t = record { by = v.number; kind = k; ticket = t }

-- a draw was spent on a ticket of the kind k
abbrev pub drew : View → ℕ → ℕ → View
drew v k t = record v { draws = v.draws - 1; tickets = ticket_of v k t ∷ v.tickets }

-- how many draws the next split gives
abbrev pub told : View → ℕ → View
told v n = record v { said = n }

-- what the root keeps that makes a seat, and what the new seat has
abbrev pub split_left : View → View
split_left v = record v { seats = v.seats + 1; draws = v.draws - v.said; said = 0 }

abbrev pub split_right : View → View
split_right v = record { live = true; number = v.seats + 1; seats = 0; draws = v.said; said = 0; tickets = [] }

-- the same, of the root that gives n draws
abbrev pub left_with : View → ℕ → View
left_with v n = record v { seats = v.seats + 1; draws = v.draws - n; said = 0 }

abbrev pub given : View → ℕ → View
given v n = record { live = true; number = v.seats + 1; seats = 0; draws = n; said = 0; tickets = [] }

abbrev pub joined : View → View → View
joined v w = record v { draws = v.draws + w.draws; tickets = w.tickets ++ v.tickets }

-- of a seat that was taken in
abbrev pub spent : View
spent = record { live = false; number = 0; seats = 0; draws = 0; said = 0; tickets = [] }

-- of a new table
abbrev pub root : View
root = record { live = true; number = 0; seats = 0; draws = all_draws; said = 0; tickets = [] }
