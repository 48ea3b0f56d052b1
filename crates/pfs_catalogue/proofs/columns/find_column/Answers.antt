use Rattle.std.proofs.Common.{◌≡◌, ◌<◌, ℕ, Some, None, true, false, length, position, slice_get, below_more, codes, sym, ◌∙◌, arith}
use Rattle.std.specs.Option.{option_map_or}
use Rattle.pfs_catalogue.specs.Columns.{columns_of, has_name, number}
use Rattle.pfs_catalogue.proofs.ColumnNames.{no_place, place_is, place_named}
use Rattle.pfs_catalogue.proofs.columns.find_column.Goals as goal

pub returns-then-is_at-clause-value : goal.returns-then-is_at-clause-value
returns-then-is_at-clause-value c = sym (place_is (columns_of c.args.table) c.args.name.now c.loop-place.place (omega arith) c.loop-place.invariant (sym c.is_at.ensures ∙ c.if-is_at.true))

pub returns-then-is_at-clause-named : goal.returns-then-is_at-clause-named
returns-then-is_at-clause-named c =
    place_named (columns_of c.args.table) c.args.name.now (Some c.loop-place.place) (sym (place_is (columns_of c.args.table) c.args.name.now c.loop-place.place (omega arith) c.loop-place.invariant (sym c.is_at.ensures ∙ c.if-is_at.true))) (number (codes "THREAD_ID"))

pub loop-place-preserved : goal.loop-place-preserved
loop-place-preserved c = below_more (λ (k : ℕ). option_map_or (has_name c.args.name.now) (slice_get (columns_of c.args.table) k) false ≡ false) c.loop-place.place c.loop-place.invariant (sym c.is_at.ensures ∙ c.if-is_at.false)

pub returns-clause-value : goal.returns-clause-value
returns-clause-value c = sym (no_place (columns_of c.args.table) c.args.name.now (λ k h. c.loop-place.invariant k (omega arith)))

pub returns-clause-named : goal.returns-clause-named
returns-clause-named c =
    place_named (columns_of c.args.table) c.args.name.now None (sym (no_place (columns_of c.args.table) c.args.name.now (λ k h. c.loop-place.invariant k (omega arith)))) (number (codes "THREAD_ID"))
