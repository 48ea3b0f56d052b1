-- The block that a test plays before a gate.
use Rattle.std.specs.Prelude.{◌∷◌, [], Some}
use Rattle.pfs_script.specs.declared.blocks.Block.{Block}
use Rattle.pfs_script.specs.declared.blocks.BlockLine.TheVariants as said

-- session 7 connects, lets one picosecond pass three times, and quits
abbrev pub quiet_block : Block
quiet_block = record {
  session = 7;
  connect = Some (record { user = 0; host = 1 });
  lines = said.Repeat 3 ∷ said.Spend 1 ∷ said.Done ∷ said.Quit ∷ [];
}
