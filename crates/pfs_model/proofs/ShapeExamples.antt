-- Worked examples: journals of the right shape and others, and a session that runs alone.
use Rattle.std.proofs.Common.{◌≡◌, refl, List, [], ◌∷◌, length, arith}
use Rattle.std.specs.Prelude.{Some, None, Ok, Err}
use Rattle.pfs_event.specs.declared.entry.Entry.{Entry}
use Rattle.pfs_event.specs.declared.entry.Entry.TheVariants as says
use Rattle.pfs_event.specs.declared.verdict.Verdict.TheVariants.{Attributed}
use Rattle.pfs_model.specs.declared.lines.Line.{Line}
use Rattle.pfs_model.specs.declared.lines.Line.TheVariants as lines
use Rattle.pfs_model.specs.Contexts.{fresh}
use Rattle.pfs_model.specs.Cuts.{cut, behind}
use Rattle.pfs_model.specs.Shapes.{shape}
use Rattle.pfs_model.specs.EntryPlaces.{Block, Placed, places, places_behind, IsShaped}
use Rattle.pfs_model.specs.Chains.{row_change, word_change, action_change, each_of}
use Rattle.pfs_model.specs.SetupFlags.{loads_of}
use Rattle.pfs_model.specs.PlainAgreement.{IsPlain, AreNext, AreLast, Agrees, AgreesWith}
use Rattle.pfs_model.specs.SummaryCounts.{additions_of}
use Rattle.pfs_model.proofs.ExampleEntries.{binlog, waiting, passing, select, entry_of}

-- one session connects, and a wait starts, takes its time and ends
abbrev own_parts : List (List Entry)
own_parts =
    (says.Connect 1 (Some 0) (Some 0) (Some 0) (Some 0) ∷ says.Tag 1 1 ∷ says.Tag 33 1 ∷ says.Tag 65 1 ∷ says.Tag 97 1 ∷ says.Set 1 1 3 ∷ [])
    ∷ (says.Start (Some 1) Attributed (Some 0) (Some 1) (Some 0) None ∷ [])
    ∷ []
    ∷ (says.End (Some 1) (Some 1) (Some 0) (Some 1) ∷ says.Add 135 1 ∷ [])
    ∷ []
    ∷ []

abbrev own_lines : List Line
own_lines = lines.Connect ∷ lines.Start binlog ∷ lines.Spend ∷ lines.End ∷ lines.Close ∷ []

abbrev pub alone : List Block
alone = record { phase = 1; session = 1; lines = own_lines; parts = own_parts } ∷ []

pub alone_shaped : IsShaped alone
unfolding cut behind
alone_shaped = (omega arith, (refl, (refl, (refl, (refl, (refl, tt))))), tt)

said : {earlier : List Placed} {p : Placed} → AreNext (each_of row_change earlier) (row_change p.entry) → AreNext (each_of word_change earlier) (word_change p.entry) → AreNext (each_of action_change earlier) (action_change p.entry) → AreLast (each_of word_change earlier) (loads_of p) → Agrees earlier p.entry → AgreesWith earlier p
said rows words numbers loads others = record { rows = rows; words = words; numbers = numbers; loads = loads; others = others }

pub alone_plain : IsPlain (places alone)
unfolding places_behind
alone_plain = (
  said tt tt (refl, tt) tt tt,
  (
    said (refl, tt) tt tt tt tt,
    (
      said (refl, tt) tt tt tt tt,
      (
        said (refl, tt) tt tt tt tt,
        (
          said (refl, tt) tt tt tt tt,
          (
            said tt (refl, tt) tt tt tt,
            (
              said tt tt tt (refl, (refl, (refl, tt))) tt,
              (
                said tt tt tt (refl, (refl, tt)) tt,
                (
                  said (refl, tt) tt tt tt tt,
                  tt,
                ),
              ),
            ),
          ),
        ),
      ),
    ),
  ),
)

-- no plain journal: a version is left out, a start goes by a word's version that isn't its last, or something is held
version_left_out : IsPlain (entry_of 1 (says.Add 135 1) ∷ entry_of 1 (says.Add 135 3) ∷ []) → ⊥
version_left_out plain = let next : 3 ≡ 2 = plain.1.0.rows.0 in absurd (omega (arith, next))

old_flags : IsPlain (entry_of 1 (says.Set 1 1 3) ∷ entry_of 1 (says.Saw 1 0) ∷ []) → ⊥
old_flags plain = let last : 0 ≡ 1 = plain.1.0.loads.0 in absurd (omega (arith, last))

held_alone : IsPlain (entry_of 1 (says.Held 135 1 1) ∷ []) → ⊥
held_alone plain = plain.0.others

-- a let-through wait that ends asks for an addition to its cell: without one the shape is refused, and so it is with one
-- to another row
no_addition : cut (shape (record fresh { slot = Some 0; opened = waiting ∷ [] }) lines.End) (says.End (Some 1) (Some 1) (Some 0) (Some 1) ∷ []) ≡ Err []
unfolding cut
no_addition = refl

other_row : cut (shape (record fresh { slot = Some 0; opened = waiting ∷ [] }) lines.End) (says.End (Some 1) (Some 1) (Some 0) (Some 1) ∷ says.Add 136 1 ∷ []) ≡ Err (says.Add 136 1 ∷ [])
unfolding cut
other_row = refl

-- behind the end of a wait that isn't let through nothing is allowed
nothing_behind : cut (shape (record fresh { slot = Some 0; opened = passing ∷ [] }) lines.End) (says.End None None None None ∷ []) ≡ Ok []
unfolding cut
nothing_behind = refl

addition_behind : cut (shape (record fresh { slot = Some 0; opened = passing ∷ [] }) lines.End) (says.End None None None None ∷ says.Add 135 1 ∷ []) ≡ Ok (says.Add 135 1 ∷ [])
unfolding cut
addition_behind = refl

-- behind a start one put is allowed, and no second one
one_put : cut (shape (record fresh { slot = Some 0 }) (lines.Start select)) (says.Start (Some 1) Attributed (Some 0) (Some 1) (Some 0) None ∷ says.Ring 8455 1 ∷ []) ≡ Ok []
unfolding cut
one_put = refl

two_puts : cut (shape (record fresh { slot = Some 0 }) (lines.Start select)) (says.Start (Some 1) Attributed (Some 0) (Some 1) (Some 0) None ∷ says.Ring 8455 1 ∷ says.Ring 8486 1 ∷ []) ≡ Ok (says.Ring 8486 1 ∷ [])
unfolding cut
two_puts = refl

-- what is held is settled by an addition of that row, in ascending order of the rows
settled : cut (shape (record fresh { slot = Some 0; held = 135 ∷ 8386 ∷ [] }) lines.Close) (says.Settle ∷ says.Add 135 4 ∷ says.Add 8386 2 ∷ []) ≡ Ok []
unfolding cut
settled = refl

one_left_held : cut (shape (record fresh { slot = Some 0; held = 135 ∷ 8386 ∷ [] }) lines.Close) (says.Settle ∷ says.Add 135 4 ∷ []) ≡ Err []
unfolding cut
one_left_held = refl

-- a wait is held, and the session's next addition to its cell brings both: nothing is left to settle
abbrev brought_later : List Block
brought_later = record {
  phase = 1;
  session = 1;
  lines = lines.Connect ∷ lines.Start binlog ∷ lines.End ∷ lines.Start binlog ∷ lines.End ∷ lines.Close ∷ [];
  parts =
      (says.Connect 1 (Some 0) (Some 0) (Some 0) (Some 0) ∷ says.Set 1 1 3 ∷ [])
      ∷ (says.Start (Some 1) Attributed (Some 0) (Some 1) (Some 0) None ∷ [])
      ∷ (says.End (Some 1) (Some 1) (Some 0) (Some 1) ∷ says.Held 135 6 10 ∷ [])
      ∷ (says.Start (Some 2) Attributed (Some 0) (Some 1) (Some 0) None ∷ [])
      ∷ (says.End (Some 2) (Some 2) (Some 0) (Some 1) ∷ says.Add 135 3 ∷ [])
      ∷ []
      ∷ [];
} ∷ []

later_shaped : IsShaped brought_later
unfolding cut behind
later_shaped = (omega arith, (refl, (refl, (refl, (refl, (refl, (refl, tt)))))), tt)

both_brought : length (additions_of (places brought_later)) ≡ 2
unfolding places_behind
both_brought = refl
