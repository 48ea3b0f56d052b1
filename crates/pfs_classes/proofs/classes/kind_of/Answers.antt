use Rattle.std.proofs.Common.{◌≡◌, ◌∙◌, ℕ, List, [], Option, ap, sym}
use Rattle.std.specs.Prelude.{unwrap_or}
use Rattle.pfs_classes.specs.Registry.{text_of}
use Rattle.pfs_classes.proofs.classes.kind_of.Goals as goal

pub returns : goal.returns
returns c =
    let text : c.as_bytes.result.now ≡ text_of c.args.names.now c.args.name =
    c.as_bytes.ensures.value ∙ sym (ap (λ (o : Option (List ℕ)). unwrap_or o []) c.get.ensures) in
    rw text at c.of_name.ensures.kind
