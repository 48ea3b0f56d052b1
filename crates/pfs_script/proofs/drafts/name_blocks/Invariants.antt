use Rattle.std.proofs.Common.{◌≡◌, map}
use Rattle.pfs_script.specs.Drafts.{block_named}
use Rattle.pfs_script.proofs.drafts.name_blocks.Given as goal

abbrev pub invariant-loop-draft : goal.invariant-loop-draft
invariant-loop-draft l = l.blocks.items ≡ map (block_named l.heading.names) l.yielded
