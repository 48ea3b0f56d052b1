-- A journal that is read entry by entry.
use Rattle.std.proofs.Common.{ℕ, ◌≡◌, List, [], ◌∷◌, ◌++◌, length, Option, Some, None, append_assoc, append-nil, sym, ap, subst, ◌∙◌, refl, arith}
use Rattle.std.specs.Prelude.{option_to_list}
use Rattle.std.specs.List.{All, flat_map, filter_map, cons_option}
use Rattle.std.proofs.lemmas.List.{map-append}
use Rattle.std.proofs.lemmas.List.Elements.{All-append, filter_map-append}
use Rattle.pfs_event.specs.declared.entry.Entry.{Entry}
use Rattle.pfs_event.specs.declared.entry.Entry.TheVariants as entry
use Rattle.pfs_journal.specs.declared.line.Line.{Line}
use Rattle.pfs_journal.specs.declared.line.Line.TheVariants as says
use Rattle.pfs_text.specs.declared.values.RowValue.{RowValue}
use Rattle.pfs_journal.specs.SingleLines.{line_text, IsLine}
use Rattle.pfs_journal.specs.ReportReadings.{IsJournalRead, JournalGrows}
use Rattle.pfs_journal.specs.Reports.{IsRow, AreAnswered, rows_asked, sizes_of}
use Rattle.pfs_journal.specs.Spelling.{row_text, entry_text, answered_text, journal_text}

abbrev pub Answer : Type 0
Answer = List (List RowValue)

-- an entry with its answer
one_entry : (e : Entry) (more : List Answer) → sizes_of more ≡ option_to_list (rows_asked e) → answered_text e more ≡ entry_text e ++ flat_map (flat_map row_text) more
unfolding answered_text
one_entry (entry.Rows n) [] s = absurd (cc)
one_entry (entry.Rows n) (a ∷ []) s = ap (λ (z : List ℕ). entry_text (entry.Rows n) ++ z) (sym (append-nil (flat_map row_text a)))
one_entry (entry.Rows n) (a ∷ b ∷ more) s = absurd (cc)
one_entry e [] s = refl
one_entry e (a ∷ more) s = absurd (cc)

-- a journal with one entry more, and its answer
pub journal_push : (entries : List Entry) (answers : List Answer) (e : Entry) (more : List Answer) → AreAnswered entries answers → sizes_of more ≡ option_to_list (rows_asked e)
    → journal_text (entries ++ e ∷ []) (answers ++ more) ≡ journal_text entries answers ++ (entry_text e ++ flat_map (flat_map row_text) more)
unfolding journal_text answered_text
journal_push [] [] e more fit s = append-nil (answered_text e more) ∙ one_entry e more s
journal_push [] (a ∷ rest) e more fit s = absurd (cc)
journal_push (entry.Rows n ∷ entries) [] e more fit s = absurd (cc)
journal_push (entry.Rows n ∷ entries) (a ∷ rest) e more fit s =
    let tail : sizes_of rest ≡ filter_map rows_asked entries = cc in
    ap (λ (z : List ℕ). answered_text (entry.Rows n) (a ∷ rest) ++ z) (journal_push entries rest e more tail s)
    ∙ sym (append_assoc (answered_text (entry.Rows n) (a ∷ rest)) (journal_text entries rest) (entry_text e ++ flat_map (flat_map row_text) more))
journal_push (x ∷ entries) answers e more fit s =
    ap (λ (z : List ℕ). answered_text x answers ++ z) (journal_push entries answers e more fit s)
    ∙ sym (append_assoc (answered_text x answers) (journal_text entries answers) (entry_text e ++ flat_map (flat_map row_text) more))

one_asked : (o : Option ℕ) → cons_option o [] ≡ option_to_list o
one_asked None = refl
one_asked (Some n) = refl

answered_push : (entries : List Entry) (answers : List Answer) (e : Entry) (more : List Answer) → AreAnswered entries answers → sizes_of more ≡ option_to_list (rows_asked e) → AreAnswered (entries ++ e ∷ []) (answers ++ more)
answered_push entries answers e more fit s =
    map-append (λ (answer : Answer). length answer) answers more
    ∙ (ap (λ (z : List ℕ). z ++ sizes_of more) fit
    ∙ (ap (λ (z : List ℕ). filter_map rows_asked entries ++ z) (s ∙ sym (one_asked (rows_asked e)))
    ∙ sym (filter_map-append rows_asked entries (e ∷ []))))

regroup : (j e m t : List ℕ) → j ++ (e ++ (m ++ t)) ≡ (j ++ (e ++ m)) ++ t
regroup j e m t = ap (λ (z : List ℕ). j ++ z) (sym (append_assoc e m t)) ∙ sym (append_assoc j (e ++ m) t)

entry_line : (e : Entry) → line_text (says.Entry e) ≡ entry_text e
unfolding line_text
entry_line e = refl

-- nothing was read yet
pub journal_none : (first : Line) (before : List ℕ) → All (All IsRow) [] → IsLine first → IsJournalRead [] [] first before first before
unfolding journal_text
journal_none first before none good = record { answered = refl; rows = none; same = refl; next_good = good; shorter = omega arith }

-- one entry more
pub journal_more : (entries entries' : List Entry) (answers answers' : List Answer) (e : Entry) (first : Line) (before mid : List ℕ) (here line : Line) (after : List ℕ) → here ≡ says.Entry e
    → IsJournalRead entries answers first before here mid → JournalGrows e entries entries' answers answers' mid line after → IsJournalRead entries' answers' first before line after
journal_more entries entries' answers answers' e first before mid here line after is r g =
    subst (λ (z : List Entry). IsJournalRead z answers' first before line after) (sym g.entry_pushed) (subst (λ (z : List Answer). IsJournalRead (entries ++ e ∷ []) z first before line after) (sym g.pushed) (record {
      answered = answered_push entries answers e g.more r.answered g.sizes;
      rows = All-append (All IsRow) answers g.more r.rows g.rows;
      same = r.same ∙ (ap (λ (z : List ℕ). journal_text entries answers ++ (z ++ mid)) (ap line_text is ∙ entry_line e)
          ∙ (ap (λ (z : List ℕ). journal_text entries answers ++ (entry_text e ++ z)) g.same
          ∙ (regroup (journal_text entries answers) (entry_text e) (flat_map (flat_map row_text) g.more) (line_text line ++ after)
          ∙ ap (λ (z : List ℕ). z ++ (line_text line ++ after)) (sym (journal_push entries answers e g.more r.answered g.sizes)))));
      next_good = g.next_good;
      shorter = omega (arith, r.shorter, g.shorter);
    }))
