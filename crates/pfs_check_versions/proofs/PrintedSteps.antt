-- What is gathered of a report, part by part.
use Rattle.std.proofs.Common.{◌≡◌, refl, ℕ, suc, ◌+◌, ◌<◌, ◌≤◌, Bool, true, false, List, [], ◌∷◌, ◌++◌, length, get_or, take, drop, sym, ◌∙◌, ap, arith, append_assoc, Option, Some}
use Rattle.std.specs.Prelude.{slice_get, if◌then◌else◌}
use Rattle.std.specs.List.{flat_map, slice_index_or}
use Rattle.std.proofs.lemmas.List.Concat.{flat_map-append}
use Rattle.std.proofs.lemmas.List.{append-nil, drop_all, drop_more, length-append, length-map}
use Rattle.std.proofs.lemmas.Option.{get_or_from_slice_get, slice_get_within}
use Rattle.pfs_event.specs.declared.entry.Entry.{Entry}
use Rattle.pfs_journal.specs.ReportLines.{block_lines, journal_lines, phase_lines, row_lines}
use Rattle.pfs_journal.specs.Spelling.{is_answered}
use Rattle.pfs_journal.specs.declared.blocks.BlockReport.{BlockReport}
use Rattle.pfs_journal.specs.declared.line.Line.TheVariants as says
use Rattle.pfs_journal.specs.declared.report.PhaseParts.{PhaseParts}
use Rattle.pfs_text.specs.declared.values.RowValue.{RowValue}
use Rattle.pfs_model.specs.declared.changes.Change.{Change}
use Rattle.pfs_check_versions.specs.declared.changes.PlacedChange.{PlacedChange}
use Rattle.pfs_check_versions.specs.PlacedChanges.{IsGathered, changes_at, changes_of}
use Rattle.pfs_check_line_numbers.specs.LineCounts.{result_lines}
use Rattle.pfs_check_versions.specs.PrintedEntries.{Printed, answers_behind, printed_blocks, printed_entries, printed_phases, rows_behind}

-- What is gathered, with what is left behind this line, is the whole.
pub record Rests (given : Entry → List Change) (now : List PlacedChange) (line : ℕ) (printed : List Printed) (lines : ℕ)
    (whole : List PlacedChange) (last : ℕ) : Type 0 where
  pub same : now ++ changes_of given printed ≡ whole
  pub reach : line + lines ≡ last

pub rests_first : (given : Entry → List Change) (old : List PlacedChange) (line : ℕ) (printed : List Printed) (lines : ℕ)
    → Rests given old line printed lines (old ++ changes_of given printed) (line + lines)
rests_first given old line printed lines = record { same = refl; reach = refl }

rests_on : (given : Entry → List Change) (now next : List PlacedChange) (line end : ℕ) (part rest : List Printed) (few more : ℕ)
    (whole : List PlacedChange) (last : ℕ) → Rests given now line (part ++ rest) (few + more) whole last
    → IsGathered given now next part line few end → Rests given next end rest more whole last
rests_on given now next line end part rest few more whole last r p = record {
  same =
      ap (λ z. z ++ changes_of given rest) p.changes
      ∙ append_assoc now (changes_of given part) (changes_of given rest)
      ∙ sym (ap (λ z. now ++ z) (flat_map-append (changes_at given) part rest))
      ∙ r.same;
  reach = omega (arith, p.line_is, r.reach);
}

-- the same, said otherwise
rests_as : (given : Entry → List Change) (now : List PlacedChange) (line : ℕ) (printed other : List Printed) (lines others : ℕ)
    (whole : List PlacedChange) (last : ℕ) → printed ≡ other → lines ≡ others → Rests given now line printed lines whole last
    → Rests given now line other others whole last
rests_as given now line printed other lines others whole last p l r = record {
  same = sym (ap (λ z. now ++ changes_of given z) p) ∙ r.same;
  reach = omega (arith, l, r.reach);
}

-- nothing is left
pub rests_over : (given : Entry → List Change) (old now : List PlacedChange) (first line : ℕ) (printed rest : List Printed) (lines left : ℕ)
    → rest ≡ [] → left ≡ 0 → Rests given now line rest left (old ++ changes_of given printed) (first + lines)
    → IsGathered given old now printed first lines line
rests_over given old now first line printed rest lines left e z r = record {
  changes = sym (append-nil now) ∙ sym (ap (λ z. now ++ changes_of given z) e) ∙ r.same;
  line_is = omega (arith, z, r.reach);
}

drop_get : (es : List Entry) (at : ℕ) (e : Entry) → slice_get es at ≡ Some e → drop at es ≡ e ∷ drop (at + 1) es
drop_get es at e s =
    drop_more es at e (slice_get_within es at e s) ∙ ap (λ z. z ∷ drop (at + 1) es) (get_or_from_slice_get es at e e s)

-- the lines of an entry, and of those behind it
journal_length : (e : Entry) (es : List Entry) (answers : List (List (List RowValue)))
    → length (journal_lines (e ∷ es) answers) ≡ (1 + rows_behind e answers) + length (journal_lines es (answers_behind e answers))
journal_length e es answers = at (is_answered e) where
  at : (b : Bool)
      → length ((says.Entry e ∷ (if b then row_lines (slice_index_or answers 0 []) else [])) ++ journal_lines es (if b then drop 1 answers else answers))
      ≡ (1 + (if b then length (slice_index_or answers 0 []) else 0)) + length (journal_lines es (if b then drop 1 answers else answers))
  at true = omega (
    arith,
    length-append (row_lines (slice_index_or answers 0 [])) (journal_lines es (drop 1 answers)),
    length-map (slice_index_or answers 0 []) says.Row,
  )
  at false = omega arith

-- one entry more of a journal
pub entry_more : (given : Entry → List Change) (now next : List PlacedChange) (line end phase session : ℕ) (es : List Entry) (at : ℕ) (e : Entry)
    (answers : List (List (List RowValue))) (answer behind : ℕ) (whole : List PlacedChange) (last : ℕ) → slice_get es at ≡ Some e
    → next ≡ now ++ changes_of given (record { line = line; phase = phase; session = session; entry = e } ∷ [])
    → end ≡ line + 1 + rows_behind e (drop answer answers) → drop behind answers ≡ answers_behind e (drop answer answers)
    → Rests given now line (printed_entries line phase session (drop at es) (drop answer answers)) (length (journal_lines (drop at es) (drop answer answers))) whole last
    → Rests given next end (printed_entries end phase session (drop (at + 1) es) (drop behind answers)) (length (journal_lines (drop (at + 1) es) (drop behind answers))) whole last
entry_more given now next line end phase session es at e answers answer behind whole last s n l a r =
    let rest : List Entry = drop (at + 1) es in
    let one : Printed = record { line = line; phase = phase; session = session; entry = e } in
    let left : List (List (List RowValue)) = drop answer answers in
    let more : List (List (List RowValue)) = drop behind answers in
    let here : drop at es ≡ e ∷ drop (at + 1) es = drop_get es at e s in
    let printed : printed_entries line phase session (drop at es) left ≡ one ∷ printed_entries end phase session rest more =
    ap (λ z. printed_entries line phase session z left) here
    ∙ ap (λ z. one ∷ printed_entries z phase session rest (answers_behind e left)) (sym l)
    ∙ ap (λ z. one ∷ printed_entries end phase session rest z) (sym a) in
    let lines : length (journal_lines (drop at es) left) ≡ (1 + rows_behind e left) + length (journal_lines rest more) =
    ap (λ z. length (journal_lines z left)) here
    ∙ journal_length e rest left
    ∙ ap (λ z. (1 + rows_behind e left) + length (journal_lines rest z)) (sym a) in
    rests_on given now next line end (one ∷ []) (printed_entries end phase session rest more) (1 + rows_behind e left)
    (length (journal_lines rest more)) whole last
    (rests_as given now line (printed_entries line phase session (drop at es) left) (one ∷ printed_entries end phase session rest more)
    (length (journal_lines (drop at es) left)) ((1 + rows_behind e left) + length (journal_lines rest more)) whole last printed lines r)
    (record { changes = n; line_is = omega (arith, l) })

pub journal_over : (given : Entry → List Change) (old now : List PlacedChange) (first line phase session : ℕ) (es : List Entry) (at : ℕ)
    (answers left : List (List (List RowValue))) → length es ≤ at
    → Rests given now line (printed_entries line phase session (drop at es) left) (length (journal_lines (drop at es) left))
    (old ++ changes_of given (printed_entries first phase session es answers)) (first + length (journal_lines es answers))
    → IsGathered given old now (printed_entries first phase session es answers) first (length (journal_lines es answers)) line
journal_over given old now first line phase session es at answers left h r =
    rests_over given old now first line (printed_entries first phase session es answers) (printed_entries line phase session (drop at es) left)
    (length (journal_lines es answers)) (length (journal_lines (drop at es) left))
    (ap (λ z. printed_entries line phase session z left) (drop_all at es h)) (ap (λ z. length (journal_lines z left)) (drop_all at es h)) r

next_is : {A : Type 0} (xs : List A) (i : ℕ) (x : A) → i < length xs → x ≡ get_or xs i x → drop i xs ≡ x ∷ drop (i + 1) xs
next_is xs i x h g = drop_more xs i x h ∙ ap (λ z. z ∷ drop (i + 1) xs) (sym g)

-- one block more of a phase
pub block_more : (given : Entry → List Change) (now next : List PlacedChange) (line first end phase : ℕ) (bs : List BlockReport) (i : ℕ) (b : BlockReport)
    (whole : List PlacedChange) (last : ℕ) → i < length bs → b ≡ get_or bs i b → first ≡ line + 1
    → IsGathered given now next (printed_entries first phase b.session b.entries b.answers) first (length (journal_lines b.entries b.answers)) end
    → Rests given now line (printed_blocks line phase (drop i bs)) (length (flat_map block_lines (drop i bs))) whole last
    → Rests given next end (printed_blocks end phase (drop (i + 1) bs)) (length (flat_map block_lines (drop (i + 1) bs))) whole last
block_more given now next line first end phase bs i b whole last h g f p r =
    let rest : List BlockReport = drop (i + 1) bs in
    let own : List Printed = printed_entries (line + 1) phase b.session b.entries b.answers in
    let here : drop i bs ≡ b ∷ drop (i + 1) bs = next_is bs i b h g in
    let reach : end ≡ line + length (block_lines b) = omega (arith, p.line_is, f) in
    let printed : printed_blocks line phase (drop i bs) ≡ own ++ printed_blocks end phase rest =
    ap (printed_blocks line phase) here ∙ ap (λ z. own ++ printed_blocks z phase rest) (sym reach) in
    let lines : length (flat_map block_lines (drop i bs)) ≡ length (block_lines b) + length (flat_map block_lines rest) =
    ap (λ z. length (flat_map block_lines z)) here ∙ length-append (block_lines b) (flat_map block_lines rest) in
    rests_on given now next line end own (printed_blocks end phase rest) (length (block_lines b))
    (length (flat_map block_lines rest)) whole last
    (rests_as given now line (printed_blocks line phase (drop i bs)) (own ++ printed_blocks end phase rest)
    (length (flat_map block_lines (drop i bs))) (length (block_lines b) + length (flat_map block_lines rest)) whole last printed lines r)
    (record {
      changes = p.changes ∙ ap (λ z. now ++ changes_of given (printed_entries z phase b.session b.entries b.answers)) f;
      line_is = reach;
    })

pub blocks_over : (given : Entry → List Change) (old now : List PlacedChange) (first line phase : ℕ) (bs : List BlockReport) (i : ℕ)
    → length bs ≤ i
    → Rests given now line (printed_blocks line phase (drop i bs)) (length (flat_map block_lines (drop i bs)))
    (old ++ changes_of given (printed_blocks first phase bs)) (first + length (flat_map block_lines bs))
    → IsGathered given old now (printed_blocks first phase bs) first (length (flat_map block_lines bs)) line
blocks_over given old now first line phase bs i h r =
    rests_over given old now first line (printed_blocks first phase bs) (printed_blocks line phase (drop i bs)) (length (flat_map block_lines bs))
    (length (flat_map block_lines (drop i bs))) (ap (printed_blocks line phase) (drop_all i bs h)) (ap (λ z. length (flat_map block_lines z)) (drop_all i bs h)) r

-- a phase: its line, its blocks, and the results
pub phase_whole : (given : Entry → List Change) (old new : List PlacedChange) (line first last end number : ℕ) (phase : PhaseParts) → first ≡ line + 1
    → IsGathered given old new (printed_blocks first number phase.blocks) first (length (flat_map block_lines phase.blocks)) last
    → end ≡ last + length (result_lines phase)
    → IsGathered given old new (printed_blocks (line + 1) number phase.blocks) line (length (phase_lines phase)) end
phase_whole given old new line first last end number phase f p e = record {
  changes = p.changes ∙ ap (λ z. old ++ changes_of given (printed_blocks z number phase.blocks)) f;
  line_is = omega (arith, p.line_is, e, f, length-append (flat_map block_lines phase.blocks) (result_lines phase));
}

-- What is gathered of phases, with what the others give, is the whole.
pub phase_more : (given : Entry → List Change) (now next whole : List PlacedChange) (line end number more : ℕ) (ps : List PhaseParts) (i : ℕ) (p : PhaseParts)
    → i < length ps → p ≡ get_or ps i p → more ≡ number + 1
    → IsGathered given now next (printed_blocks (line + 1) number p.blocks) line (length (phase_lines p)) end
    → now ++ changes_of given (printed_phases line number (drop i ps)) ≡ whole
    → next ++ changes_of given (printed_phases end more (drop (i + 1) ps)) ≡ whole
phase_more given now next whole line end number more ps i p h g m d same =
    let rest : List PhaseParts = drop (i + 1) ps in
    let part : List Printed = printed_blocks (line + 1) number p.blocks in
    ap (λ z. z ++ changes_of given (printed_phases end more rest)) d.changes
    ∙ append_assoc now (changes_of given part) (changes_of given (printed_phases end more rest))
    ∙ sym (ap (λ z. now ++ z) (flat_map-append (changes_at given) part (printed_phases end more rest)))
    ∙ ap (λ z. now ++ changes_of given (part ++ printed_phases z more rest)) d.line_is
    ∙ ap (λ z. now ++ changes_of given (part ++ printed_phases (line + length (phase_lines p)) z rest)) m
    ∙ sym (ap (λ z. now ++ changes_of given (printed_phases line number z)) (next_is ps i p h g))
    ∙ same

pub phases_over : (given : Entry → List Change) (now whole : List PlacedChange) (line number : ℕ) (ps : List PhaseParts) (i : ℕ) → length ps ≤ i
    → now ++ changes_of given (printed_phases line number (drop i ps)) ≡ whole → now ≡ whole
phases_over given now whole line number ps i h same =
    sym (append-nil now) ∙ sym (ap (λ z. now ++ changes_of given (printed_phases line number z)) (drop_all i ps h)) ∙ same
