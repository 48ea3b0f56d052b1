-- The three layouts compared, kind by kind.
use Rattle.std.proofs.Common.{ℕ, ◌≡◌, ◌<◌, ◌+◌, ◌*◌, ◌%◌, ◌==◌, nat_lt, refl, arith}
use Rattle.pfs_rows.specs.declared.table.EventTable.TheVariants.{Current}
use Rattle.pfs_rows.specs.declared.table.Table.TheVariants.{Events}
use Rattle.pfs_rows.specs.declared.table.TableKind.{TableKind}
use Rattle.pfs_rows.specs.declared.table.TableKind.TheVariants.{Waits, Stages, Statements, Transactions}
use Rattle.pfs_readsets.specs.TablePlaces.{has_ring}
use Rattle.pfs_admin.specs.Truncations.{current_first, current_count}
use Rattle.pfs_model.specs.Rings.{current_row}
use Rattle.pfs_law_session.specs.RingLayout.{HasCurrents, HasHistories, HasLongs, LayoutLaw, event_kind, is_from}

one_place : (n place : ℕ) → (place == n) ≡ is_from n 1 place
one_place n place = grind (arith)

first_places : (n place : ℕ) → nat_lt place n ≡ is_from 0 n place
first_places n place = grind (arith)

shown : (kind : TableKind) (place : ℕ) → has_ring (Events kind Current) place ≡ is_from (current_first kind) (current_count kind) place
shown Waits place = first_places 4 place
shown Stages place = one_place 4 place
shown Statements place = refl
shown Transactions place = one_place 15 place

put : (kind : TableKind) (slot depth : ℕ) → depth < current_count kind → current_row slot (event_kind kind) depth ≡ 8450 + 56 * slot + (current_first kind + depth)
put Waits slot depth h = omega (arith)
put Stages slot depth h = omega (arith, h)
put Statements slot depth h = omega (arith)
put Transactions slot depth h = omega (arith, h)

currents : (kind : TableKind) → HasCurrents kind
currents Waits = record { count = refl; put = put Waits; shown = shown Waits; freed = λ there. refl }
currents Stages = record { count = refl; put = put Stages; shown = shown Stages; freed = λ there. refl }
currents Statements = record { count = refl; put = put Statements; shown = shown Statements; freed = λ there. refl }
currents Transactions = record { count = refl; put = put Transactions; shown = shown Transactions; freed = λ there. refl }

ten : (n : ℕ) → n % 10 < 10
ten n = omega (arith)

thousand : (n : ℕ) → n % 1000 < 1000
thousand n = omega (arith)

histories : (kind : TableKind) → HasHistories kind
histories Waits = record { number = refl; put = λ slot turn. omega (arith); within = ten; shown = λ place. refl; freed = λ there. refl }
histories Stages = record { number = refl; put = λ slot turn. omega (arith); within = ten; shown = λ place. refl; freed = λ there. refl }
histories Statements = record { number = refl; put = λ slot turn. omega (arith); within = ten; shown = λ place. refl; freed = λ there. refl }
histories Transactions = record { number = refl; put = λ slot turn. omega (arith); within = ten; shown = λ place. refl; freed = λ there. refl }

longs : (kind : TableKind) → HasLongs kind
longs Waits = record { put = λ ticket. refl; within = thousand; shown = refl; freed = λ there. refl }
longs Stages = record { put = λ ticket. refl; within = thousand; shown = refl; freed = λ there. refl }
longs Statements = record { put = λ ticket. refl; within = thousand; shown = refl; freed = λ there. refl }
longs Transactions = record { put = λ ticket. refl; within = thousand; shown = refl; freed = λ there. refl }

pub one_layout : LayoutLaw
one_layout = record { currents = currents; histories = histories; longs = longs; quit = λ slot. refl; all = refl }
