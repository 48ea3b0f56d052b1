-- What was read, one part more at a time.
use Rattle.std.proofs.Common.{ℕ, ◌≡◌, ◌≢◌, ◌<◌, Bool, true, false, eqb, Result, Ok, Err, IfOk, List, [], ◌∷◌, ◌++◌, length, append_assoc, append-nil, sym, ap, subst, ◌∙◌, refl, arith}
use Rattle.std.specs.List.{All, flat_map}
use Rattle.std.proofs.lemmas.List.Elements.{All-push}
use Rattle.std.proofs.lemmas.List.Concat.{flat_map-append}
use Rattle.pfs_journal.specs.declared.line.Line.{Line}
use Rattle.pfs_journal.specs.declared.line.Line.TheVariants as says
use Rattle.pfs_text.specs.declared.values.RowValue.{RowValue}
use Rattle.pfs_journal.specs.declared.values.LostReport.{LostReport}
use Rattle.pfs_journal.specs.SingleLines.{line_text}
use Rattle.pfs_journal.specs.ReportReadings.{IsTaken, IsRead, Grows}
use Rattle.std.proofs.lemmas.Bool.{false≢true}
use Rattle.std.proofs.lemmas.Bool.Decides.{Decides-eqb}
use Rattle.pfs_journal.specs.Reports.{IsName, IsRow, IsTable}
use Rattle.pfs_journal.specs.Spelling.{row_text, lost_text, table_line, table_text}

-- one part more
pub read_more : {Part : Type 0} (part_text : Part → List ℕ) (IsGood : Part → Type 0) (old new : List Part) (first : Line) (before : List ℕ) (line : Line) (mid : List ℕ) (next : Line) (after : List ℕ)
    → IsRead (flat_map part_text old) (All IsGood old) first before line mid → Grows part_text IsGood old new line mid next after → IsRead (flat_map part_text new) (All IsGood new) first before next after
read_more {Part} part_text IsGood old new first before line mid next after r g = record {
  good = subst (λ (z : List Part). All IsGood z) (sym g.pushed) (All-push IsGood old g.part r.good g.good);
  same = r.same ∙ (ap (λ (z : List ℕ). flat_map part_text old ++ z) g.same
      ∙ (sym (append_assoc (flat_map part_text old) (part_text g.part) (line_text next ++ after))
      ∙ ap (λ (z : List ℕ). z ++ (line_text next ++ after)) (sym more)));
  next_good = g.next_good;
  shorter = omega (arith, r.shorter, g.shorter);
}
  where
    more : flat_map part_text new ≡ flat_map part_text old ++ part_text g.part
    more = ap (flat_map part_text) g.pushed ∙ (flat_map-append part_text old (g.part ∷ []) ∙ ap (λ (z : List ℕ). flat_map part_text old ++ z) (append-nil (part_text g.part)))

-- a part of one line
pub grows_line : {Part : Type 0} (part_text : Part → List ℕ) (IsGood : Part → Type 0) (old new : List Part) (part : Part) (first : Line) (before : List ℕ) (line : Line) (after : List ℕ)
    → line_text first ≡ part_text part → new ≡ old ++ part ∷ [] → IsGood part → IsTaken line before after → Grows part_text IsGood old new first before line after
grows_line part_text IsGood old new part first before line after is pushed good t = record {
  part = part;
  pushed = pushed;
  good = good;
  same = ap (λ (z : List ℕ). z ++ before) is ∙ ap (λ (z : List ℕ). part_text part ++ z) t.text;
  next_good = t.good;
  shorter = t.shorter;
}

pub row_line : (row : List RowValue) → line_text (says.Row row) ≡ row_text row
unfolding line_text
row_line row = refl

pub lost_line : (lost : LostReport) → line_text (says.Lost lost) ≡ lost_text lost
unfolding line_text
lost_line lost = refl

-- a line was taken behind a part of one line
pub take_line : {Part Stop : Type 0} (part_text : Part → List ℕ) (IsGood : Part → Type 0) (old new : List Part) (part : Part) (first : Line) (before after : List ℕ) (r : Result Line Stop)
    → line_text first ≡ part_text part → new ≡ old ++ part ∷ [] → IsGood part → IfOk r (λ line. IsTaken line before after) → IfOk r (λ line. Grows part_text IsGood old new first before line after)
take_line part_text IsGood old new part first before after (Ok line) is pushed good t = grows_line part_text IsGood old new part first before line after is pushed good t
take_line part_text IsGood old new part first before after (Err stop) is pushed good t = tt

pub not_empty : {Item : Type 0} (items : List Item) → eqb (length items) 0 ≡ false → items ≢ []
not_empty [] h e = false≢true (sym h)
not_empty (x ∷ xs) h e = absurd (cc)

pub is_empty : {Item : Type 0} (items : List Item) → eqb (length items) 0 ≡ true → items ≡ []
is_empty [] h = refl
is_empty (x ∷ xs) h = let none : length (x ∷ xs) ≡ 0 = (Decides-eqb (length (x ∷ xs)) 0).0 h in absurd (omega (arith, none))

-- a table's line, and its rows
pub table_read : (name : List ℕ) (rows shown : List (List RowValue)) (b : Bool) (before mid after : List ℕ) (first line : Line) → IsName name → IsTaken first before mid → IsRead (flat_map row_text rows) (All IsRow rows) first mid line after
    → shown ≡ rows → b ≡ eqb (length shown) 0 → b ≡ false → IsRead (table_text (record { name = name; rows = rows })) (IsTable (record { name = name; rows = rows })) (says.Table name) before line after
unfolding line_text table_text
table_read name rows shown b before mid after first line good t r is test false_is = record {
  good = record { name = good; some = not_empty rows (ap (λ (z : List (List RowValue)). eqb (length z) 0) (sym is) ∙ (sym test ∙ false_is)); rows = r.good };
  same = ap (λ (z : List ℕ). table_line name ++ z) (t.text ∙ r.same) ∙ sym (append_assoc (table_line name) (flat_map row_text rows) (line_text line ++ after));
  next_good = r.next_good;
  shorter = omega (arith, t.shorter, r.shorter);
}
