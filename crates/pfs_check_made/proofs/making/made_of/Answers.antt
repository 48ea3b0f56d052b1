use Rattle.std.proofs.Common.{◌∙◌, ap, subst, sym}
use Rattle.pfs_model.specs.EntryAsks.{is_head}
use Rattle.pfs_check_made.specs.TagWords.{IsTagTold}
use Rattle.pfs_check_made.specs.MadeChanges.{IsMade}
use Rattle.pfs_check_made.proofs.PutSteps.{long_made, ring_made, tag_made}
use Rattle.pfs_check_made.proofs.making.made_of.Goals as goal

pub returns-in-Ring : goal.returns-in-Ring
returns-in-Ring c = λ given earlier place gives tags held at entry noted.
    let is = entry ∙ c.in-Ring.is in
    subst (IsMade given place) (sym c.put_made-in-Ring.ensures)
    (ring_made given place c.in-Ring.row c.in-Ring.version c.put_words.result is
    (c.put_words.ensures given place noted.taken gives (noted.notes_are (ap is_head is)) at))

pub returns-in-Long : goal.returns-in-Long
returns-in-Long c = λ given earlier place gives tags held at entry noted.
    let is = entry ∙ c.in-Long.is in
    subst (IsMade given place) (sym c.put_made-in-Long.ensures)
    (long_made given place c.in-Long.row c.in-Long.version c.in-Long.ticket c.put_words-in-Long.result is
    (c.put_words-in-Long.ensures given place noted.taken gives (noted.notes_are (ap is_head is)) at))

pub returns-in-Tag : goal.returns-in-Tag
returns-in-Tag c = λ given earlier place gives tags held at entry noted.
    subst (IsMade given place) (sym c.put_made.ensures)
    (tag_made given place c.in-Tag.row c.in-Tag.version c.args.here.action c.words.result (entry ∙ c.in-Tag.is) at.action
    (subst (IsTagTold (given.info_words c.args.here.action c.in-Tag.row)) (sym c.words.ensures) (tags c.args.here.action c.in-Tag.row)))
