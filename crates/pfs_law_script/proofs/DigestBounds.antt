-- The place of a statement's digest text is below what a script may allow.
use Rattle.std.proofs.Common.{ℕ, ◌<◌, List, []}
use Rattle.std.specs.Prelude.{IfSome}
use Rattle.pfs_script.specs.declared.forms.Form.{Form}
use Rattle.pfs_script.specs.Finds.{digest_place, digests_of}
use Rattle.pfs_script.specs.Headings.{limits_of}
use Rattle.pfs_script.proofs.BlockNests.{Stand}
use Rattle.pfs_script.proofs.TextPlaces.{place_known}
use Rattle.pfs_law_script.proofs.ClassBounds.{in_range}

pub digest_known : (lines : List Form) (text : List ℕ) → Stand [] lines → IfSome (digest_place (digests_of (limits_of lines).digests lines) text) (λ n. n < 64)
digest_known lines text stands = place_known lines text 64 (in_range lines stands).digests
