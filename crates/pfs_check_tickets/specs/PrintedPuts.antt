-- The puts of the long histories, as they are printed.
use Rattle.std.specs.Prelude.{ℕ, nat_le, ◌&&◌, not, cond, List, [], ◌∷◌, Option, Some, None}
use Rattle.pfs_event.specs.declared.entry.Entry.{Entry}
use Rattle.pfs_event.specs.declared.entry.Entry.TheVariants as says
use Rattle.pfs_model.specs.declared.lines.Line.{Line}
use Rattle.pfs_model.specs.Rings.{LongPut, is_reading_line}
use Rattle.pfs_check_tickets.specs.declared.puts.Put.{Put}

abbrev pub put_at : ℕ → Option ℕ → Put
put_at row ticket = record { row = row; ticket = ticket }

abbrev pub busy_put : Line → ℕ → Option Put
busy_put line row = cond (not (is_reading_line line) && nat_le 10242 row) (Some (put_at row None)) None

-- the put that an entry is
abbrev pub put_of : Line → Entry → Option Put
put_of line (says.Long row version ticket) = Some (put_at row (Some ticket))
put_of line (says.Late row ticket greater) = Some (put_at row (Some ticket))
put_of line (says.Busy row first second) = busy_put line row
put_of line _ = None

-- as the model says it
abbrev pub long_of_put : Put → LongPut
long_of_put put = record { row = put.row; ticket = put.ticket }

abbrev pub long_of : Option Put → List LongPut
long_of None = []
long_of (Some put) = long_of_put put ∷ []
