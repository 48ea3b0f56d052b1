-- What a hold knows of the sets that its writer had as it was lent.
use Rattle.std.proofs.Common.{◌≡◌, ◌++◌, List, Option, None, Some, ap, ◌∙◌}
use Rattle.std.specs.Prelude.{IfSome}
use Rattle.pfs_levels.specs.Calls.{Call}
use Rattle.pfs_switches.specs.declared.switches.Writer.{Writer}
use Rattle.pfs_switches.specs.declared.view.Setting.{Setting}
use Rattle.pfs_board_store.specs.WriterWords.{HasSet, number_of, sets_in, sets_since_met}
use Rattle.pfs_board_store.proofs.SetNumbers.{numbered}

pub had_set : (lent : Option Writer) (calls : List Call) (now : Option Writer) (had : List Setting) → HasSet lent calls now → number_of (sets_in lent) ≡ number_of had
    → IfSome now (λ (w : Writer). w.view.sets ≡ sets_since_met calls ++ had)
had_set lent calls None had is named = tt
had_set lent calls (Some w) had is named = is ∙ ap (λ (ss : List Setting). sets_since_met calls ++ ss) (numbered (sets_in lent) had named)
