use Rattle.std.proofs.Common.{◌∙◌, ap}
use Rattle.std.proofs.lemmas.Result.{on_ok_weaker}
use Rattle.pfs_check_contents.specs.KeptContents.{content_at}
use Rattle.pfs_check_contents.specs.RowEffects.{effect_on}
use Rattle.pfs_check_contents.proofs.ReplaySteps.{one_more}
use Rattle.pfs_check_contents.proofs.replays.Replayed.add.Goals as goal

pub returns : goal.returns
returns c = on_ok_weaker c.keep_last.result
    (λ lasts done is follows.
    one_more done c.args.self.now (record { shelf = c.keep.new.self; last = c.keep_last.new.kept }) c.args.one.now c.words_behind-words.result is follows
    (c.words_behind-words.ensures ∙ ap (λ z. effect_on c.args.one.now.effect (content_at c.args.self.now.shelf) z.words) c.last.ensures)
    c.in_ok-keep.ensures lasts)
    c.keep_last.ensures
