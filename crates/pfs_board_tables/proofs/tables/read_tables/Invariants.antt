use Rattle.pfs_board_tables.proofs.tables.read_tables.Given as goal

-- what the root is as it begins to read
abbrev pub ghosts-read_alone : goal.ghosts-read_alone
ghosts-read_alone a b = record { was = b.root }
