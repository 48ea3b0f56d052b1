-- The script of a number.
use Rattle.std.specs.Prelude.{ℕ, ◌+◌, ◌-◌, ◌*◌, ◌%◌, ◌==◌, if◌then◌else◌, List, ◌++◌, codes, decimal}
use Rattle.std.specs.List.{flat_map, range_with_len}
use Rattle.pfs_gen.specs.Draws.{draw}

-- the line that starts a statement, by its number
unfoldable pub statement_line : ℕ → List ℕ
statement_line a =
    if a == 0 then codes "start statement/sql/select SELECT * FROM orders WHERE id = 10\n" else
    if a == 1 then codes "start statement/sql/insert INSERT INTO orders VALUES (1, 2)\n" else
    if a == 2 then codes "start statement/sql/update UPDATE orders SET quantity = 3 WHERE id = 10\n" else
    codes "start statement/sql/delete DELETE FROM orders WHERE id IN (1, 2, 3)\n"

-- the line that starts a wait, by the number of its class among those of files
unfoldable pub wait_line : ℕ → List ℕ
wait_line c =
    if c == 0 then codes "start wait/io/file/sql/binlog\n" else
    if c == 1 then codes "start wait/io/file/innodb/innodb_data_file\n" else
    codes "start wait/io/file/innodb/innodb_log_file\n"

unfoldable pub spend_line : ℕ → List ℕ
spend_line time = codes "spend " ++ decimal time ++ codes "\n"

-- a statement with a wait inside: its number, the time before the wait, the wait's number and its time
unfoldable pub unit_text : ℕ → ℕ → ℕ → ℕ → List ℕ
unit_text a b c d = statement_line a ++ spend_line b ++ wait_line c ++ spend_line d ++ codes "end\nend\n"

-- the unit in a place of the whole script, which has four draws
unfoldable pub unit_at : ℕ → ℕ → List ℕ
unit_at number unit =
    unit_text (draw number (4 * unit) % 4) (draw number (4 * unit + 1) % 1000) (draw number (4 * unit + 2) % 3)
    (draw number (4 * unit + 3) % 1000)

-- so many units, the first in this place
unfoldable pub units_text : ℕ → ℕ → ℕ → List ℕ
units_text number first count = flat_map (unit_at number) (range_with_len first count)

unfoldable pub session_line : ℕ → List ℕ
session_line session = codes "session " ++ decimal session ++ codes "\n"

-- a session with its 500 units, which stand behind those of the sessions before it
unfoldable pub session_text : ℕ → ℕ → List ℕ
session_text number session = session_line session ++ units_text number (500 * (session - 1)) 500

-- a session that connects
unfoldable pub connect_line : ℕ → List ℕ
connect_line session =
    codes "session " ++ decimal session ++ codes " u" ++ decimal (session % 4) ++ codes " h" ++ decimal (session % 2)
    ++ codes "\n"

-- eight sessions connect, and go on in the next phase
unfoldable pub script_text : ℕ → List ℕ
script_text number =
    codes "phase\n" ++ flat_map connect_line (range_with_len 1 8)
    ++ codes "phase\n" ++ flat_map (session_text number) (range_with_len 1 8)
