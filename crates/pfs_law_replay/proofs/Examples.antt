-- A worked replay of two sessions: the first adds two waits to a row, and between them the second's action takes the
-- row and gives what it found to another. In the report the first session's entries stand together, before the second's.
use Rattle.std.proofs.Common.{◌≡◌, refl, ℕ, ◌<◌, ◌≤◌, ◌==◌, cond, List, [], ◌∷◌, arith, lit<, lit≤, inl, inr, replicate}
use Rattle.std.specs.Prelude.{Some, None}
use Rattle.pfs_event.specs.declared.entry.Entry.{Entry}
use Rattle.pfs_event.specs.declared.entry.Entry.TheVariants as says
use Rattle.pfs_event.specs.declared.kind.EventKind.TheVariants as kinds
use Rattle.pfs_event.specs.declared.verdict.Verdict.TheVariants.{Attributed}
use Rattle.pfs_stat.specs.declared.Stat.{Stat}
use Rattle.pfs_stat.specs.Stat.{words_of, zero_of}
use Rattle.pfs_model.specs.declared.lines.Line.TheVariants as lines
use Rattle.pfs_model.specs.declared.lines.Opened.{Opened}
use Rattle.pfs_model.specs.declared.lines.Subject.{Subject}
use Rattle.pfs_model.specs.Chains.{change_at}
use Rattle.pfs_model.specs.Contents.{AreContents, Facts, Given}
use Rattle.pfs_model.specs.Contexts.{Context, fresh}
use Rattle.pfs_model.specs.EntryPlaces.{Placed}
use Rattle.pfs_law_replay.specs.ContentReplays.{IsReplayOf, IsReplayed, content_in}
use Rattle.pfs_law_replay.proofs.EarlierChanges.{rises}
use Rattle.pfs_law_replay.proofs.ReplayedContents.{replay_contents, replay_only}

-- a wait of the binary log's file, of class 6, whose cell in slot 0 is row 135; the first lasts 5, the second 7
abbrev binlog : Subject
binlog = record { kind = kinds.Wait; class = Some 6; cell = 6; table = None; digest = None }

abbrev wait : ℕ → Opened
wait index = record { subject = binlog; verdict = Attributed; index = index; number = Some 1; consumers = Some 0; thread = Some 1; class = Some 0; table = None }

abbrev facts : ℕ → ℕ → Facts
facts session index = record { start = 10; duration = cond (index == 0) 5 7; lock = 0; errors = 0; warnings = 0; affected = 0; sent = 0; examined = 0 }

abbrev flags : ℕ → ℕ → ℕ
flags word version = cond (word == 0) 28888 3

abbrev given : Given
given = record { flags = flags; slots = λ session. Some 0; facts = facts; info_words = λ action row. replicate 16 0 }

abbrev placed : ℕ → Context → Entry → Placed
placed session context entry = record { phase = 1; session = session; line = lines.End; context = context; entry = entry }

abbrev ended : ℕ → Context
ended index = record fresh { slot = Some 0; ended = Some (wait index) }

abbrev first : Placed
first = placed 1 (ended 0) (says.Add 135 1)

abbrev second : Placed
second = placed 1 (ended 1) (says.Add 135 3)

abbrev taken : Placed
taken = placed 2 (record fresh { action = 1 }) (says.Take 135 2)

abbrev gave : Placed
gave = placed 2 (record fresh { action = 1; source = Some 135; source_version = 2 }) (says.Give 2183 1 135)

abbrev report : List Placed
report = first ∷ second ∷ taken ∷ gave ∷ []

abbrev done : List Placed
done = second ∷ gave ∷ taken ∷ first ∷ []

abbrev of_wait : ℕ → Stat
of_wait time = record zero_of { count = 1; sum = time; min = time; max = time }

replayed : IsReplayOf report done
replayed = record {
  replayed = ((refl, tt), tt, ((refl, tt), (refl, lit≤ tt), ((refl, tt), tt, ((refl, tt), tt, tt))));
  whole = (inr (inr (inr (inr (inl refl)))), (inr (inl refl), (inr (inr (inr (inl refl))), (inr (inr (inl refl)), tt))));
  own = (inr (inl refl), (inr (inr (inr (inl refl))), (inr (inr (inl refl)), (inl refl, tt))));
}

-- the row counts the second wait alone, and the other row the first
second_stands : content_in given done 135 3 ≡ words_of (of_wait 7)
unfolding content_in
second_stands = refl

first_went : content_in given done 2183 1 ≡ words_of (of_wait 5)
unfolding content_in
first_went = refl

-- so do all contents that these changes make
each_content : (content : ℕ → ℕ → List ℕ) → AreContents given content report → content 2183 1 ≡ content_in given done 2183 1
each_content content c = replay_only given content report done replayed c 2183 1 (lit≤ tt)

there_is_one : AreContents given (content_in given done) report
there_is_one = replay_contents given report done replayed

-- in the report's own order it is no replay: the second addition's version isn't the next one there
not_in_order : IsReplayed (gave ∷ taken ∷ second ∷ first ∷ []) → ⊥
not_in_order r = let next : 3 ≡ 2 = r.2.2.0.0 in absurd (omega (arith, next))

-- a give before its take is none either
not_before_its_take : IsReplayed (gave ∷ []) → ⊥
not_before_its_take r = let late : 2 ≤ 0 = r.1.1 in absurd (omega (arith, late))

-- the second addition stands above the first, since its session's first line shows that one
above : 1 < 3
above = rises report (first ∷ []) second first (change_at 135 3) (change_at 135 1)
    ((lit< tt, record { released = tt; stood = λ e. lit< tt }), lit≤ tt, tt) (inl refl) refl refl refl refl
