-- Worked examples of the names, tables and digest texts of lines.
use Rattle.std.proofs.Common.{ℕ, ◌≡◌, ◌<◌, List, [], ◌∷◌, Some, Ok, refl, ap, codes, arith}
use Rattle.std.specs.List.{fold}
use Rattle.pfs_names.specs.InternedTexts.{interned}
use Rattle.pfs_script.specs.SessionNames.{with_session, connect_of}
use Rattle.std.specs.Prelude.{map, slice_get, zero, suc}
use Rattle.std.specs.Str.{bytes_eq}
use Rattle.std.proofs.lemmas.Bool.{false≢true}
use Rattle.pfs_classes.specs.declared.setting.TableName.{TableName}
use Rattle.pfs_script.specs.declared.forms.Form.{Form}
use Rattle.pfs_script.specs.declared.forms.Form.TheVariants as form
use Rattle.pfs_script.specs.Finds.{tables_of, of_text, add_digest}
use Rattle.pfs_script.specs.Appearances.{IsFirstAt, AreInOrder, table_named}

abbrev table : List ℕ → TableName
table name = record { schema = codes "shop"; name = name }

abbrev wait : List ℕ → Form
wait name = form.TableWait (codes "wait/io/table/sql/handler") (codes "shop") name

-- the second name comes first in the alphabet, and the first one comes again
abbrev three_waits : List Form
three_waits = wait (codes "b") ∷ form.End ∷ wait (codes "a") ∷ form.End ∷ wait (codes "b") ∷ []

by_appearance : tables_of three_waits ≡ table (codes "b") ∷ table (codes "a") ∷ []
unfolding tables_of
by_appearance = refl

first_b : IsFirstAt (map table_named three_waits) (table (codes "b")) 0
first_b = record { here = refl; first = λ earlier lt at. omega arith }

first_a : IsFirstAt (map table_named three_waits) (table (codes "a")) 2
first_a = record { here = refl; first = a_later }
  where
    a_later : (earlier : ℕ) → earlier < 2 → ¬ (slice_get (map table_named three_waits) earlier ≡ Some (Some (table (codes "a"))))
    a_later zero lt at =
        let same : table (codes "b") ≡ table (codes "a") = cc in
        false≢true (ap (λ (one : TableName). bytes_eq one.name (codes "a")) same)
    a_later (suc zero) lt at = cc
    a_later (suc (suc earlier)) lt at = omega arith

-- in the order of their names they are not
not_by_name : ¬ AreInOrder (map table_named three_waits) (table (codes "a") ∷ table (codes "b") ∷ [])
not_by_name in_order = let wrong = (in_order.order (table (codes "a")) (table (codes "b")) 0 1 2 0 refl refl first_a first_b).0 in let lt : 2 < 0 = wrong (omega arith) in omega arith

-- with room for one, the second text has no place
one_room : add_digest 1 (add_digest 1 (add_digest 1 [] (Ok (codes "SELECT ?"))) (Ok (codes "COMMIT"))) (Ok (codes "SELECT ?")) ≡ of_text (codes "SELECT ?") ∷ []
one_room = refl

-- a name is interned once, whoever bears it, and behind those that are there
abbrev session : List ℕ → List ℕ → Form
session user host = form.Connect (Some 1) user host

each_once : fold with_session (codes "transaction" ∷ []) (session (codes "root") (codes "db1") ∷ form.Phase ∷ session (codes "db1") (codes "transaction") ∷ []) ≡ codes "transaction" ∷ codes "root" ∷ codes "db1" ∷ []
unfolding interned
each_once = refl

by_id : connect_of (codes "transaction" ∷ codes "root" ∷ codes "db1" ∷ []) (codes "db1") (codes "transaction") ≡ record { user = 2; host = 0 }
by_id = refl
