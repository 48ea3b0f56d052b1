-- How many lines and tables the lines of a script have.
use Rattle.std.proofs.Common.{ℕ, ◌≡◌, ◌≤◌, ◌<◌, List, [], ◌∷◌, ◌++◌, Some, length, append_assoc, append-nil, arith}
use Rattle.std.proofs.lemmas.Option.{slice_get_within}
use Rattle.std.proofs.lemmas.Bool.{ltb-false}
use Rattle.pfs_script.specs.declared.forms.Form.{Form}
use Rattle.pfs_script.specs.LineCounts.{counted}
use Rattle.pfs_script.specs.Finds.{table_number, tables_of}
use Rattle.pfs_script.specs.Reasons.{one_each}
use Rattle.pfs_script.proofs.LinesBehind.{counted_none}
use Rattle.pfs_script.proofs.BlockNests.{Stand}
use Rattle.pfs_script.proofs.AppearanceOrder.{are_tables}

lines_behind : (before lines : List Form) → Stand before lines → counted one_each before ≤ 200000
    → counted one_each (before ++ lines) ≤ 200000
lines_behind before [] s h = rw append-nil h
lines_behind before (line ∷ lines) s h =
    rw append_assoc at (lines_behind (before ++ line ∷ []) lines s.1
    (ltb-false 200000 (counted one_each (before ++ line ∷ [])) s.0.long))

-- with each repeat written out
pub few_lines : (lines : List Form) → Stand [] lines → counted one_each lines ≤ 200000
few_lines lines s = lines_behind [] lines s (omega (arith, counted_none one_each))

tables_behind : (before lines : List Form) → Stand before lines → length (tables_of before) ≤ 64
    → length (tables_of (before ++ lines)) ≤ 64
tables_behind before [] s h = rw append-nil h
tables_behind before (line ∷ lines) s h =
    rw append_assoc at (tables_behind (before ++ line ∷ []) lines s.1
    (ltb-false 64 (length (tables_of (before ++ line ∷ []))) s.0.tables))

no_tables : length (tables_of []) ≤ 64
unfolding tables_of
no_tables = omega arith

few_tables : (lines : List Form) → Stand [] lines → length (tables_of lines) ≤ 64
few_tables lines s = tables_behind [] lines s no_tables

-- a table's number is its place
pub table_known : (lines : List Form) (schema name : List ℕ) (number : ℕ) → Stand [] lines
    → table_number (tables_of lines) schema name ≡ Some number → number < 64
table_known lines schema name number s e =
    let there = ((are_tables lines).number schema name number).0 e in
    let within : number < length (tables_of lines) =
    slice_get_within (tables_of lines) number (record { schema = schema; name = name }) there in
    omega (arith, within, few_tables lines s)
