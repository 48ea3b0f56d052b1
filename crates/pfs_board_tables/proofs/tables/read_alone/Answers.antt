use Rattle.pfs_board_tables.proofs.EndTables.{reads_alone}
use Rattle.pfs_board_tables.proofs.tables.read_alone.Goals as goal

pub final_tables-requires : goal.final_tables-requires
final_tables-requires g c = record { away = λ row some. c.new-reading.ensures.hand row }

pub returns : goal.returns
returns g c = reads_alone _ _ _ g.W.Began.was _ _ _ _ _ c.requires.was c.new-reading.ensures.reached c.in_ok-tables.ensures.tables c.into_root.ensures.read c.into_root.ensures.gathered c.into_root.ensures.whole
