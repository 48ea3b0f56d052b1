-- Blocks and phases that were read.
use Rattle.std.proofs.Common.{ℕ, ◌≡◌, ◌<◌, Result, Ok, Err, IfOk, List, [], ◌++◌, length, append_assoc, append-nil, sym, ap, subst, ◌∙◌, refl, arith}
use Rattle.std.specs.Prelude.{codes}
use Rattle.std.specs.List.{All, flat_map}
use Rattle.pfs_event.specs.declared.entry.Entry.{Entry}
use Rattle.pfs_journal.specs.declared.line.Line.{Line}
use Rattle.pfs_journal.specs.declared.line.Line.TheVariants as says
use Rattle.pfs_text.specs.declared.values.RowValue.{RowValue}
use Rattle.pfs_journal.specs.declared.values.TableReport.{TableReport}
use Rattle.pfs_journal.specs.declared.values.LostReport.{LostReport}
use Rattle.pfs_journal.specs.declared.blocks.BlockReport.{BlockReport}
use Rattle.pfs_journal.specs.declared.report.PhaseParts.{PhaseParts}
use Rattle.pfs_journal.specs.declared.report.ReportParts.{ReportParts}
use Rattle.pfs_journal.specs.SingleLines.{line_text}
use Rattle.pfs_journal.specs.ReportReadings.{IsTaken, IsRead, IsJournalRead, PhaseEnds}
use Rattle.pfs_journal.specs.Reports.{IsTable, IsLost, IsBlock, IsPhase}
use Rattle.pfs_journal.specs.Spelling.{journal_text, block_text, session_line, table_text, lost_text, results_text, final_text, final_line, phase_text, phase_line, body_text, phases_text, first_line, spelling}

-- a session's line, and its journal
pub block_read : (session : ℕ) (entries : List Entry) (answers : List (List (List RowValue))) (before mid after : List ℕ) (first line : Line) → IsTaken first before mid → IsJournalRead entries answers first mid line after
    → IsRead (block_text (record { session = session; entries = entries; answers = answers })) (IsBlock (record { session = session; entries = entries; answers = answers })) (says.Session session) before line after
unfolding line_text block_text
block_read session entries answers before mid after first line t r = record {
  good = record { answered = r.answered; rows = r.rows };
  same = ap (λ (z : List ℕ). session_line session ++ z) (t.text ∙ r.same) ∙ sym (append_assoc (session_line session) (journal_text entries answers) (line_text line ++ after));
  next_good = r.next_good;
  shorter = omega (arith, t.shorter, r.shorter);
}

-- tables and then counters
pub results_read : (tables : List TableReport) (lost : List LostReport) (before mid then after : List ℕ) (first behind line : Line) → IsTaken first before mid → IsRead (flat_map table_text tables) (All IsTable tables) first mid behind then
    → IsRead (flat_map lost_text lost) (All IsLost lost) behind then line after → IsRead (final_text tables lost) (All IsTable tables × All IsLost lost) says.Final before line after
unfolding line_text final_text results_text
results_read tables lost before mid then after first behind line t r s = record {
  good = (r.good, s.good);
  same = ap (λ (z : List ℕ). final_line ++ z) (t.text ∙ (r.same ∙ (ap (λ (z : List ℕ). flat_map table_text tables ++ z) s.same ∙ sym (append_assoc (flat_map table_text tables) (flat_map lost_text lost) (line_text line ++ after)))))
      ∙ sym (append_assoc final_line (flat_map table_text tables ++ flat_map lost_text lost) (line_text line ++ after));
  next_good = s.next_good;
  shorter = omega (arith, t.shorter, r.shorter, s.shorter);
}

-- the tables and counters of a phase
pub phase_ends : (phase parts : PhaseParts) (before after : List ℕ) (line : Line) → phase ≡ parts → All IsBlock parts.blocks → length after < length before → IsRead (final_text parts.tables parts.lost) (All IsTable parts.tables × All IsLost parts.lost) says.Final before line after
    → PhaseEnds parts.number parts.blocks phase before line after
phase_ends phase parts before after line is blocks shorter r = subst (λ (p : PhaseParts). PhaseEnds parts.number parts.blocks p before line after) (sym is) (record {
  number_is = refl;
  blocks_are = refl;
  good = record { blocks = blocks; tables = r.good.0; lost = r.good.1 };
  same = r.same;
  next_good = r.next_good;
  shorter = shorter;
})

phase_line_is : (n : ℕ) → line_text (says.Phase n) ≡ phase_line n
unfolding line_text
phase_line_is n = refl

-- a phase's line, its blocks, and its tables and counters
pub phase_read : (number : ℕ) (blocks : List BlockReport) (phase : PhaseParts) (before mid then after : List ℕ) (first ended line : Line) → IsTaken first before mid → IsRead (flat_map block_text blocks) (All IsBlock blocks) first mid ended then
    → ended ≡ says.Final → PhaseEnds number blocks phase then line after → IsRead (phase_text phase) (IsPhase phase) (says.Phase number) before line after
unfolding phase_text body_text
phase_read number blocks phase before mid then after first ended line t r is e = record {
  good = e.good;
  same = ap (λ (z : List ℕ). z ++ before) (phase_line_is number ∙ ap phase_line (sym e.number_is)) ∙ (ap (λ (z : List ℕ). phase_line phase.number ++ z) (t.text ∙ (r.same
      ∙ (ap (λ (l : Line). flat_map block_text blocks ++ (line_text l ++ then)) is
      ∙ (ap (λ (z : List ℕ). flat_map block_text blocks ++ z) e.same
      ∙ (ap (λ (bs : List BlockReport). flat_map block_text bs ++ (final_text phase.tables phase.lost ++ (line_text line ++ after))) (sym e.blocks_are)
      ∙ sym (append_assoc (flat_map block_text phase.blocks) (final_text phase.tables phase.lost) (line_text line ++ after)))))))
      ∙ sym (append_assoc (phase_line phase.number) (flat_map block_text phase.blocks ++ final_text phase.tables phase.lost) (line_text line ++ after)));
  next_good = e.next_good;
  shorter = omega (arith, t.shorter, r.shorter, e.shorter);
}

-- the first line, the phases, and the last line, with nothing behind it
pub report_read : (format : ℕ) (phases : List PhaseParts) (before mid after : List ℕ) (first last : Line) → IsTaken first before mid → IsRead (flat_map phase_text phases) (All IsPhase phases) first mid last after → last ≡ says.End → after ≡ []
    → line_text (says.Head format) ++ before ≡ spelling (record { format = format; phases = phases })
unfolding line_text spelling phases_text
report_read format phases before mid after first last t r is none =
    ap (λ (z : List ℕ). first_line format ++ z) (t.text ∙ (r.same ∙ (ap (λ (l : Line). flat_map phase_text phases ++ (line_text l ++ after)) is
    ∙ ap (λ (z : List ℕ). flat_map phase_text phases ++ z) (ap (λ (z : List ℕ). codes "end\n" ++ z) none ∙ append-nil (codes "end\n")))))

-- the same of what a call answers
pub phase_answered : {Stop : Type 0} (r : Result (PhaseParts × Line) Stop) (number : ℕ) (blocks : List BlockReport) (before mid then after : List ℕ) (first ended : Line) → IsTaken first before mid → IsRead (flat_map block_text blocks) (All IsBlock blocks) first mid ended then
    → ended ≡ says.Final → IfOk r (λ x. PhaseEnds number blocks x.0 then x.1 after) → IfOk r (λ x. IsRead (phase_text x.0) (IsPhase x.0) (says.Phase number) before x.1 after)
phase_answered (Ok (phase, line)) number blocks before mid then after first ended t r is e = phase_read number blocks phase before mid then after first ended line t r is e
phase_answered (Err stop) number blocks before mid then after first ended t r is e = tt

pub phase_shorter : {Stop : Type 0} (r : Result (PhaseParts × Line) Stop) (number : ℕ) (blocks : List BlockReport) (before mid then after : List ℕ) (first ended : Line) → IsTaken first before mid → IsRead (flat_map block_text blocks) (All IsBlock blocks) first mid ended then
    → IfOk r (λ x. PhaseEnds number blocks x.0 then x.1 after) → IfOk r (λ x. length after < length before)
phase_shorter (Ok (phase, line)) number blocks before mid then after first ended t r e = omega (arith, t.shorter, r.shorter, e.shorter)
phase_shorter (Err stop) number blocks before mid then after first ended t r e = tt

pub report_answered : {Stop : Type 0} (r : Result ReportParts Stop) (format : ℕ) (phases : List PhaseParts) (before mid after : List ℕ) (first last : Line) → IsTaken first before mid → IsRead (flat_map phase_text phases) (All IsPhase phases) first mid last after → last ≡ says.End
    → IfOk r (λ report. report ≡ record { format = format; phases = phases }) → IfOk r (λ _. after ≡ []) → IfOk r (λ report. line_text (says.Head format) ++ before ≡ spelling report)
report_answered (Ok report) format phases before mid after first last t r is same none = report_read format phases before mid after first last t r is none ∙ ap spelling (sym same)
report_answered (Err stop) format phases before mid after first last t r is same none = tt
