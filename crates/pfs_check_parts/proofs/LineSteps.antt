-- Steps of the loop over the lines of a journal.
use Rattle.std.proofs.Common.{◌≡◌, refl, ℕ, ◌+◌, ◌-◌, ◌<◌, ◌≤◌, Bool, true, false, not, List, [], ◌∷◌, ◌++◌, length, get_or, take, drop, sym, ◌∙◌, ap, arith, append_assoc}
use Rattle.std.specs.Prelude.{Result, Ok, Err}
use Rattle.std.proofs.lemmas.List.{drop_more, drop_all, length-drop, append-nil}
use Rattle.pfs_event.specs.declared.entry.Entry.{Entry}
use Rattle.pfs_model.specs.declared.lines.Line.{Line}
use Rattle.pfs_model.specs.declared.shapes.Item.{Item}
use Rattle.pfs_model.specs.Contexts.{Context, after, after_entries, subject_of, turned}
use Rattle.pfs_model.specs.Cuts.{cut, front}
use Rattle.pfs_model.specs.EntryPlaces.{after_lines}
use Rattle.pfs_model.specs.JournalCuts.{on_cut, parts_of, with_part}
use Rattle.pfs_model.specs.Shapes.{shape}
use Rattle.pfs_check_parts.specs.declared.cuts.Stop.{Stop}
use Rattle.pfs_check_parts.specs.Parts.{IsLineCut, pieces}
use Rattle.pfs_check_parts.specs.Stops.{stopped}
use Rattle.pfs_check_trail.specs.Trails.{IsTrailOf, shaping, trimmed}
use Rattle.pfs_check_parts.proofs.CutSteps.{stop_err, stop_ok}
use Rattle.pfs_check_trail.proofs.TrailSteps.{lines_alike, parts_alike, shape_by}

pub last_end : ℕ → List ℕ → ℕ
last_end start [] = start
last_end start (end ∷ ends) = last_end end ends

-- parts, before those that are left
abbrev pub behind_parts : List (List Entry) → Result (List (List Entry)) (List Entry) → Result (List (List Entry)) (List Entry)
behind_parts done (Ok parts) = Ok (done ++ parts)
behind_parts done (Err rest) = Err rest

pieces_push : (start : ℕ) (ends : List ℕ) (end : ℕ) (es : List Entry) → pieces start (ends ++ end ∷ []) es ≡ pieces start ends es ++ take (end - last_end start ends) (drop (last_end start ends) es) ∷ []
unfolding pieces last_end
pieces_push start [] end es = refl
pieces_push start (x ∷ xs) end es = ap (λ z. take (x - start) (drop start es) ∷ z) (pieces_push x xs end es)

last_push : (start : ℕ) (ends : List ℕ) (end : ℕ) → last_end start (ends ++ end ∷ []) ≡ end
unfolding last_end
last_push start [] end = refl
last_push start (x ∷ xs) end = last_push x xs end

then_part : (done : List (List Entry)) (part : List Entry) (r : Result (List (List Entry)) (List Entry)) → behind_parts done (with_part part r) ≡ behind_parts (done ++ part ∷ []) r
then_part done part (Ok parts) = ap (λ z. Ok z) (sym (append_assoc done (part ∷ []) parts))
then_part done part (Err rest) = refl

front_at : (es : List Entry) (at end : ℕ) → at ≤ end → end ≤ length es → front (drop at es) (drop end es) ≡ take (end - at) (drop at es)
front_at es at end a e = ap (λ n. take n (drop at es)) (omega (arith, length-drop at es, length-drop end es))

-- What is left, behind what is done, gives the whole; and so does what the trail tells.
pub record IsUnder (lines : List Line) (entries : List Entry) (context : Context) (ends : List ℕ) (trail : Context) (number at : ℕ) : Type 0 where
  pub same : behind_parts (pieces 0 ends entries) (parts_of trail (drop number lines) (drop at entries)) ≡ parts_of context lines entries
  pub told : (more : List (List Entry)) → IsTrailOf (after_lines context lines (pieces 0 ends entries ++ more)) (after_lines trail (drop number lines) more)
  pub last : last_end 0 ends ≡ at
  pub within : at ≤ length entries

one_line : (context : Context) (lines : List Line) (number : ℕ) (d : Line) (es : List Entry) → number < length lines → parts_of context (drop number lines) es ≡ on_cut es (cut (shape context (get_or lines number d)) es) (λ rest. parts_of (after context (get_or lines number d) (front es rest)) (drop (number + 1) lines) rest)
unfolding parts_of
one_line context lines number d es h = rw (drop_more lines number d h) refl

pub line_misfit : (lines : List Line) (entries : List Entry) (context : Context) (ends : List ℕ) (trail new : Context) (number at : ℕ) (d : Line) (stop : Stop) → IsUnder lines entries context ends trail number at → number < length lines → IsLineCut trail (get_or lines number d) entries at stop new → not stop.whole ≡ true → parts_of context lines entries ≡ Err (drop stop.at entries)
line_misfit lines entries context ends trail new number at d stop a h c w =
    sym a.same
    ∙ ap (λ z. behind_parts (pieces 0 ends entries) z) (one_line trail lines number d (drop at entries) h)
    ∙ ap (λ z. behind_parts (pieces 0 ends entries) (on_cut (drop at entries) z (λ rest. parts_of (after trail (get_or lines number d) (front (drop at entries) rest)) (drop (number + 1) lines) rest))) (c.cut_is ∙ stop_err stop entries w)

whole_is : (b : Bool) → not b ≡ false → b ≡ true
whole_is true h = refl
whole_is false h = absurd (cc)

-- what is told behind the line, told from before it
one_told : (lines : List Line) (context trail : Context) (number : ℕ) (d : Line) (done : List (List Entry)) (part : List Entry) (more : List (List Entry)) → number < length lines → ((all : List (List Entry)) → IsTrailOf (after_lines context lines (done ++ all)) (after_lines trail (drop number lines) all)) → IsTrailOf (after_lines context lines (done ++ part ∷ more)) (after_lines (after trail (get_or lines number d) part) (drop (number + 1) lines) more)
one_told lines context trail number d done part more h told =
    sym (ap (λ z. trimmed (after_lines trail z (part ∷ more))) (drop_more lines number d h)) ∙ told (part ∷ more)

pub line_taken : (lines : List Line) (entries : List Entry) (context : Context) (ends : List ℕ) (trail new : Context) (number at : ℕ) (d : Line) (stop : Stop) → IsUnder lines entries context ends trail number at → number < length lines → IsLineCut trail (get_or lines number d) entries at stop new → not stop.whole ≡ false → IsUnder lines entries context (ends ++ stop.at ∷ []) new (number + 1) stop.at
line_taken lines entries context ends trail new number at d stop a h c w =
    let line = get_or lines number d in
    let part = take (stop.at - at) (drop at entries) in
    let rest = drop stop.at entries in
    let noted : IsTrailOf (after trail line part) new = c.noted (whole_is stop.whole w) in
    let done : pieces 0 (ends ++ stop.at ∷ []) entries ≡ pieces 0 ends entries ++ part ∷ [] =
    pieces_push 0 ends stop.at entries ∙ ap (λ z. pieces 0 ends entries ++ take (stop.at - z) (drop z entries) ∷ []) a.last in
    let goes : parts_of trail (drop number lines) (drop at entries) ≡ with_part part (parts_of new (drop (number + 1) lines) rest) =
    one_line trail lines number d (drop at entries) h
    ∙ ap (λ z. on_cut (drop at entries) z (λ left. parts_of (after trail line (front (drop at entries) left)) (drop (number + 1) lines) left)) (c.cut_is ∙ stop_ok stop entries w)
    ∙ ap (λ z. with_part z (parts_of (after trail line z) (drop (number + 1) lines) rest)) (front_at entries at stop.at c.onward c.within)
    ∙ ap (λ z. with_part part z) (sym (parts_alike (after trail line part) new (drop (number + 1) lines) rest noted)) in
    record {
      same =
          ap (λ z. behind_parts z (parts_of new (drop (number + 1) lines) rest)) done
          ∙ sym (then_part (pieces 0 ends entries) part (parts_of new (drop (number + 1) lines) rest))
          ∙ ap (λ z. behind_parts (pieces 0 ends entries) z) (sym goes)
          ∙ a.same;
      told = λ more.
          lines_alike (after trail line part) new (drop (number + 1) lines) more noted
          ∙ one_told lines context trail number d (pieces 0 ends entries) part more h a.told
          ∙ ap (λ z. trimmed (after_lines context lines z)) (sym (ap (λ z. z ++ more) done ∙ append_assoc (pieces 0 ends entries) (part ∷ []) more));
      last = last_push 0 ends stop.at;
      within = c.within;
    }

pub lines_over : (lines : List Line) (entries : List Entry) (context : Context) (ends : List ℕ) (trail : Context) (number at : ℕ) → IsUnder lines entries context ends trail number at → length lines ≤ number → length entries ≤ at → parts_of context lines entries ≡ Ok (pieces 0 ends entries)
unfolding parts_of
lines_over lines entries context ends trail number at a h e =
    sym a.same ∙ rw (drop_all number lines h, drop_all at entries e, append-nil (pieces 0 ends entries)) refl

pub lines_told : (lines : List Line) (entries : List Entry) (context : Context) (ends : List ℕ) (trail : Context) (number at : ℕ) → IsUnder lines entries context ends trail number at → length lines ≤ number → IsTrailOf (after_lines context lines (pieces 0 ends entries)) trail
lines_told lines entries context ends trail number at a h =
    sym (ap (λ z. trimmed (after_lines trail z [])) (drop_all number lines h)) ∙ a.told []
    ∙ ap (λ z. trimmed (after_lines context lines z)) (append-nil (pieces 0 ends entries))

pub lines_short : (lines : List Line) (entries : List Entry) (context : Context) (ends : List ℕ) (trail : Context) (number at : ℕ) → IsUnder lines entries context ends trail number at → length lines ≤ number → at < length entries → parts_of context lines entries ≡ Err (drop at entries)
unfolding parts_of
lines_short lines entries context ends trail number at a h e =
    sym a.same ∙ rw (drop_all number lines h) (left (drop at entries) (omega (arith, length-drop at entries))) where
      left : (rest : List Entry) → 0 < length rest → behind_parts (pieces 0 ends entries) (parts_of trail [] rest) ≡ Err rest
      left [] n = absurd (omega arith)
      left (e ∷ es) n = refl

pub opening : (lines : List Line) (entries : List Entry) (context trail : Context) (ends : List ℕ) → ends ≡ [] → IsTrailOf context trail → IsUnder lines entries context ends trail 0 0
unfolding pieces last_end
opening lines entries context trail ends e t = rw e (record {
  same = all (parts_of trail lines entries) ∙ parts_alike context trail lines entries t;
  told = λ more. lines_alike context trail lines more t;
  last = refl;
  within = omega arith;
}) where
  all : (r : Result (List (List Entry)) (List Entry)) → behind_parts [] r ≡ r
  all (Ok parts) = refl
  all (Err rest) = refl

cut_by : (old : Context) (line : Line) (items : List Item) (entries : List Entry) (at : ℕ) (stop : Stop) → items ≡ shape (shaping old.slot old.opened old.held) line → cut items (drop at entries) ≡ stopped stop entries → cut (shape old line) (drop at entries) ≡ stopped stop entries
cut_by old line items entries at stop i s = sym (ap (λ z. cut z (drop at entries)) (i ∙ shape_by old line)) ∙ s

-- a line that isn't whole
pub line_stopped : (old : Context) (line : Line) (items : List Item) (entries : List Entry) (at : ℕ) (stop : Stop) → items ≡ shape (shaping old.slot old.opened old.held) line → cut items (drop at entries) ≡ stopped stop entries → stop.at ≤ length entries → at ≤ stop.at → not stop.whole ≡ true → IsLineCut old line entries at stop old
line_stopped old line items entries at stop i s w o n = record {
  cut_is = cut_by old line items entries at stop i s;
  within = w;
  onward = o;
  noted = λ whole. absurd (apart stop.whole n whole);
} where
  apart : (b : Bool) → not b ≡ true → b ≡ true → ⊥
  apart true n w = absurd (cc)
  apart false n w = absurd (cc)

-- and one that is
pub line_noted : (old new : Context) (line : Line) (items : List Item) (entries : List Entry) (at : ℕ) (stop : Stop) → items ≡ shape (shaping old.slot old.opened old.held) line → cut items (drop at entries) ≡ stopped stop entries → stop.at ≤ length entries → at ≤ stop.at → IsTrailOf (after_entries (subject_of line) (turned old) (take (stop.at - at) (drop at entries))) new → IsLineCut old line entries at stop new
line_noted old new line items entries at stop i s w o n = record {
  cut_is = cut_by old line items entries at stop i s;
  within = w;
  onward = o;
  noted = λ whole. n;
}
