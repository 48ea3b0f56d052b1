use Rattle.std.proofs.Common.{◌≡◌, ◌≢◌, ◌++◌, List, ℕ, ◌∙◌}
use Rattle.std.proofs.lemmas.Slice.Eq.{strip_prefix_is}
use Rattle.std.proofs.lemmas.Bool.Decides.{Decides-eqb}
use Rattle.pfs_classes.specs.Kinds.{kind_name}
use Rattle.pfs_classes.proofs.KindLemmas.{below_yes, below_no}
use Rattle.pfs_classes.proofs.kind.is_below.Goals as goal

pub returns-in-Some : goal.returns-in-Some
returns-in-Some c =
    let front : c.args.name.now ≡ c.as_bytes.result.now ++ c.in-Some.rest.now =
    rw c.in-Some.is at (strip_prefix_is Decides-eqb c.args.name.now c.as_bytes.result.now c.strip_prefix.result c.strip_prefix.ensures.cases) in
    let kind : c.as_bytes.result.now ≡ kind_name c.args.kind = c.as_bytes.ensures.value ∙ c.name.ensures in
    below_yes c.args.name.now (kind_name c.args.kind) c.in-Some.rest.now c.are_after_slash.result (rw kind at front) c.are_after_slash.ensures

pub returns-in-None : goal.returns-in-None
returns-in-None c =
    let other : (rest : List ℕ) → c.args.name.now ≢ c.as_bytes.result.now ++ rest =
    rw c.in-None.is at (strip_prefix_is Decides-eqb c.args.name.now c.as_bytes.result.now c.strip_prefix.result c.strip_prefix.ensures.cases) in
    let kind : c.as_bytes.result.now ≡ kind_name c.args.kind = c.as_bytes.ensures.value ∙ c.name.ensures in
    below_no c.args.name.now (kind_name c.args.kind) (rw kind at other)
