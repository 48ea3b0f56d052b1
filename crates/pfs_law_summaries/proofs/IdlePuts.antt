-- Where an event is put to a ring, the line has begun no action.
use Rattle.std.proofs.Common.{◌≡◌, refl, true, List}
use Rattle.pfs_model.specs.Chains.{Each}
use Rattle.pfs_model.specs.Contexts.{Context}
use Rattle.pfs_model.specs.EntryPlaces.{Block, Placed, places, IsShaped}
use Rattle.pfs_model.specs.Shapes.{shape, settling, ending_stage, ending_both, starting}
use Rattle.pfs_model.specs.declared.lines.Line.{Line}
use Rattle.pfs_model.specs.declared.lines.Line.TheVariants as lines
use Rattle.pfs_law_summaries.proofs.RingSources.{asks_ring, quiet}
use Rattle.pfs_law_summaries.proofs.Rounds.{is_ring}
use Rattle.pfs_law_conservation.proofs.IdleEntries.{orders, IsIdle as IsIdleAt, plain_settling, plain_stage, plain_both, plain_then, plain_orders, all_idle as idle_everywhere}

shape_orders : (context : Context) (line : Line) → orders asks_ring (shape context line) ≡ true
shape_orders context lines.Connect = refl
shape_orders context (lines.Start subject) = refl
shape_orders context (lines.Stage subject) = plain_then is_ring asks_ring quiet (ending_stage context.slot context.opened) (starting context.slot subject) (plain_stage context.slot context.opened) refl
shape_orders context lines.StageEnd = plain_orders is_ring asks_ring quiet (ending_stage context.slot context.opened) (plain_stage context.slot context.opened)
shape_orders context lines.End = plain_orders is_ring asks_ring quiet (ending_both context.slot context.opened) (plain_both context.slot context.opened)
shape_orders context lines.Spend = refl
shape_orders context lines.Change = plain_then is_ring asks_ring quiet (settling context.held) _ (plain_settling context.held) refl
shape_orders context lines.Quit = plain_then is_ring asks_ring quiet (settling context.held) _ (plain_settling context.held) refl
shape_orders context lines.Show = plain_then is_ring asks_ring quiet (settling context.held) _ (plain_settling context.held) refl
shape_orders context lines.Query = refl
shape_orders context (lines.Refused error) = refl
shape_orders context lines.Close = plain_orders is_ring asks_ring quiet (settling context.held) (plain_settling context.held)

-- so no action is at hand there
abbrev pub IsIdle : Placed → Type 0
IsIdle = IsIdleAt is_ring

pub all_idle : (blocks : List Block) → IsShaped blocks → Each IsIdle (places blocks)
all_idle = idle_everywhere is_ring asks_ring quiet shape_orders
