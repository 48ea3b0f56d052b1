-- What was lost of events at the blocks of a phase, and that it is little.
use Rattle.std.proofs.Common.{ℕ, ◌≡◌, ◌≤◌, ◌+◌, ◌*◌, List, [], ◌∷◌, ◌++◌, length, map, refl, sym, ◌∙◌, subst, append_assoc, append-nil, sum_by, arith}
use Rattle.std.proofs.lemmas.List.Sums.{sum_by-cons}
use Rattle.pfs_board_run.specs.declared.board.Ran.{Ran}
use Rattle.pfs_classes.specs.declared.setting.Setting.{Setting}
use Rattle.pfs_event.specs.declared.entry.Entry.{Entry}
use Rattle.pfs_law_plain.specs.RunRules.{entries_of}
use Rattle.pfs_law_plain.specs.Spells.{Spell, parts_in}
use Rattle.pfs_law_report.proofs.DigestLosses.{digests_more}
use Rattle.pfs_law_report.proofs.JournalLosses.{statements_more, waits_more}
use Rattle.pfs_law_report.specs.LostCounts.{lost_digests, lost_statements, lost_waits}
use Rattle.pfs_law_report.specs.declared.counts.LostEvents.{LostEvents}
use Rattle.pfs_law_script.specs.Course.{PhasedBlock, session_at}
use Rattle.pfs_model.specs.Chains.{each_of, times}
use Rattle.pfs_runs.specs.PhaseFinals.{is_digest_lost, is_lost_nested, is_lost_locker, verdict_at}
use Rattle.pfs_script.specs.Marks.{written_out}
use Rattle.pfs_script.specs.declared.blocks.Phase.{Phase}
use Rattle.pfs_seats.proofs.LostDigestBounds.{block_digests}
use Rattle.pfs_seats.proofs.LostEventBounds.{block_few}
use Rattle.pfs_seats.specs.Seats.{depth_of}
use Rattle.pfs_board_phase.specs.BetweenPhases.{AreLost}
use Rattle.pfs_board_phase.specs.PhaseResults.{AreCounted, AreFew}
use Rattle.pfs_board_phase.proofs.PhaseSpells.{Played, ran_in, spell_in, spells_in}

module _ (setting : Setting) (phases before : List Phase) (phase : Phase) (after : List Phase) (spells : List Spell) where
  abbrev One : Type 0
  One = Played setting phases before after spells

  abbrev rans_of : List One → List Ran
  rans_of ones = map (ran_in setting phases before phase after spells) ones

  abbrev now_of : List One → List Spell
  now_of ones = spells_in setting phases before phase after spells ones

  abbrev told : One → List Entry
  told one = one.ran.paused.journal.entries

  -- of one block
  one_digests : (one : One) → lost_digests (told one) ≤ 1200012
  one_digests one =
      subst (λ (es : List Entry). lost_digests es ≤ 1200012) (sym one.entries)
      (block_digests (session_at setting (depth_of phases) spells one.block.session) (parts_in one.doings) one.block.connect (written_out one.block.lines) one.played.are_parts one.played.asked one.here.playable.short)

  one_statements : (one : One) → lost_statements (told one) ≤ 200002
  one_statements one =
      subst (λ (es : List Entry). lost_statements es ≤ 200002) (sym one.entries)
      (block_few is_lost_nested (session_at setting (depth_of phases) spells one.block.session) (parts_in one.doings) one.block.connect (written_out one.block.lines) one.played.are_parts one.played.asked one.here.playable.short)

  one_waits : (one : One) → lost_waits (told one) ≤ 200002
  one_waits one =
      subst (λ (es : List Entry). lost_waits es ≤ 200002) (sym one.entries)
      (block_few is_lost_locker (session_at setting (depth_of phases) spells one.block.session) (parts_in one.doings) one.block.connect (written_out one.block.lines) one.played.are_parts one.played.asked one.here.playable.short)

  abbrev digests_of : Ran → ℕ
  digests_of ran = lost_digests ran.paused.journal.entries

  abbrev statements_of : Ran → ℕ
  statements_of ran = lost_statements ran.paused.journal.entries

  abbrev waits_of : Ran → ℕ
  waits_of ran = lost_waits ran.paused.journal.entries

  -- of all of them
  record AreLittle (ones : List One) : Type 0 where
    digests : sum_by digests_of (rans_of ones) ≤ 1200012 * length ones
    statements : sum_by statements_of (rans_of ones) ≤ 200002 * length ones
    waits : sum_by waits_of (rans_of ones) ≤ 200002 * length ones

  little : (ones : List One) → AreLittle ones
  little [] = record { digests = omega arith; statements = omega arith; waits = omega arith }
  little (one ∷ ones) =
      let rest : AreLittle ones = little ones in
      record {
        digests = omega (arith, rest.digests, one_digests one, sum_by-cons digests_of one.ran (rans_of ones));
        statements = omega (arith, rest.statements, one_statements one, sum_by-cons statements_of one.ran (rans_of ones));
        waits = omega (arith, rest.waits, one_waits one, sum_by-cons waits_of one.ran (rans_of ones));
      }

  -- behind these spells and those of the blocks so many are lost
  abbrev Digests : List Spell → ℕ → Type 0
  Digests all n = n ≡ times is_digest_lost (entries_of all)

  abbrev Statements : List Spell → ℕ → Type 0
  Statements all n = n ≡ times is_lost_nested (each_of verdict_at (entries_of all))

  abbrev Waits : List Spell → ℕ → Type 0
  Waits all n = n ≡ times is_lost_locker (each_of verdict_at (entries_of all))

  module _ (P : List Spell → ℕ → Type 0) (count : Ran → ℕ) (more : (all : List Spell) (one : One) (n : ℕ) → P all n → P (all ++ spell_in setting phases before phase after spells one ∷ []) (n + count one.ran)) where
    counted : (ones : List One) (all : List Spell) (n : ℕ) → P all n → P (all ++ now_of ones) (n + sum_by count (rans_of ones))
    counted [] all n p = subst (λ z. P z (n + 0)) (sym (append-nil all)) (subst (P all) (zero_more n) p) where
      zero_more : (n : ℕ) → n ≡ n + 0
      zero_more n = omega arith
    counted (one ∷ ones) all n p =
        let next : List Spell = all ++ spell_in setting phases before phase after spells one ∷ [] in
        subst (λ z. P z (n + sum_by count (rans_of (one ∷ ones)))) (append_assoc all (spell_in setting phases before phase after spells one ∷ []) (now_of ones))
        (subst (P (next ++ now_of ones)) (together n (count one.ran) (sum_by count (rans_of ones)) (sum_by count (rans_of (one ∷ ones))) (sum_by-cons count one.ran (rans_of ones))) (counted ones next (n + count one.ran) (more all one n p))) where
          together : (n a b c : ℕ) → c ≡ a + b → n + a + b ≡ n + c
          together n a b c e = omega (arith, e)

  digests_on : (all : List Spell) (one : One) (n : ℕ) → Digests all n → Digests (all ++ spell_in setting phases before phase after spells one ∷ []) (n + digests_of one.ran)
  digests_on all one n p = digests_more all (spell_in setting phases before phase after spells one) (session_at setting (depth_of phases) spells one.block.session) (told one) n (n + digests_of one.ran) one.played.are_parts one.entries p refl

  statements_on : (all : List Spell) (one : One) (n : ℕ) → Statements all n → Statements (all ++ spell_in setting phases before phase after spells one ∷ []) (n + statements_of one.ran)
  statements_on all one n p = statements_more all (spell_in setting phases before phase after spells one) (told one) n (n + statements_of one.ran) one.entries p refl

  waits_on : (all : List Spell) (one : One) (n : ℕ) → Waits all n → Waits (all ++ spell_in setting phases before phase after spells one ∷ []) (n + waits_of one.ran)
  waits_on all one n p = waits_more all (spell_in setting phases before phase after spells one) (told one) n (n + waits_of one.ran) one.entries p refl

  -- with them all it can be counted, since there are few blocks
  pub few_lost : (done : List PhasedBlock) (ones : List One) (lost : LostEvents) → AreLost done spells lost → length done ≤ 200000 → length ones ≤ 65 → AreFew (rans_of ones) lost
  few_lost done ones lost are rare some =
      let l : AreLittle ones = little ones in
      record {
        digests = omega (arith, l.digests, are.few_digests, rare, some);
        statements = omega (arith, l.statements, are.few_statements, rare, some);
        waits = omega (arith, l.waits, are.few_waits, rare, some);
      }

  -- and that is what is lost behind the phase
  pub lost_behind : (done now : List PhasedBlock) (ones : List One) (lost new : LostEvents) → AreLost done spells lost → AreCounted (rans_of ones) lost new → length now ≡ length done + length ones → AreLost now (spells ++ now_of ones) new
  lost_behind done now ones lost new are counts long =
      let l : AreLittle ones = little ones in
      record {
        digests = counts.digests ∙ counted Digests digests_of digests_on ones spells lost.digests are.digests;
        statements = counts.statements ∙ counted Statements statements_of statements_on ones spells lost.statements are.statements;
        waits = counts.waits ∙ counted Waits waits_of waits_on ones spells lost.waits are.waits;
        few_digests = omega (arith, l.digests, are.few_digests, counts.digests, long);
        few_statements = omega (arith, l.statements, are.few_statements, counts.statements, long);
        few_waits = omega (arith, l.waits, are.few_waits, counts.waits, long);
      }
