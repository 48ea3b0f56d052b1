use Rattle.std.proofs.Common.{◌≡◌, Bor, List, Option, Some, map, take, sym, ◌∙◌, ap}
use Rattle.std.proofs.lemmas.List.{take-map}
use Rattle.pfs_text.specs.declared.values.RowValue.{RowValue}
use Rattle.pfs_exec.specs.Selections.{limited}
use Rattle.pfs_exec.proofs.selecting.first_rows.Goals as goal

pub returns-in-Some : goal.returns-in-Some
returns-in-Some c =
    sym (take-map (λ (row : Bor (List RowValue)). row.now) c.in-Some.limit c.args.rows.now) ∙ ap (λ (limit : Option _). limited limit (map (λ (row : Bor (List RowValue)). row.now) c.args.rows.now)) (sym c.in-Some.is)
