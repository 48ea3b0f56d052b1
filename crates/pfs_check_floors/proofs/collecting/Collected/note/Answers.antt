use Rattle.std.proofs.Common.{◌∙◌, sym, ap}
use Rattle.std.specs.Option.{option_to_list}
use Rattle.pfs_model.specs.Chains.{release_of, row_change, word_change}
use Rattle.pfs_check_floors.proofs.CollectFacts.{action_more}
use Rattle.pfs_check_floors.proofs.collecting.Collected.note.Goals as goal

pub returns : goal.returns
returns c = λ places place phase action entry before. record {
  rows = c.in_ok-note.ensures row_change places place phase action (ap row_change entry ∙ sym c.row_change-row.ensures) before.rows;
  words = c.in_ok-note-2.ensures word_change places place phase action (ap word_change entry ∙ sym c.word_change-word.ensures) before.words;
  releases = action_more release_of places place c.args.action (option_to_list c.release_in-release.result)
      c.args.self.now.releases.items _ action (ap release_of entry ∙ sym c.release_in-release.ensures) c.in_ok-push_acted.ensures
      before.releases;
  freed = c.in_ok-note_freed.ensures places place phase (ap release_of entry ∙ sym c.release_in-release.ensures) before.freed;
}
