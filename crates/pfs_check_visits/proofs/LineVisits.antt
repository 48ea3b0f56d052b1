-- The lines of a block, visited one after another.
use Rattle.std.proofs.Common.{◌≡◌, refl, ℕ, zero, suc, ◌+◌, ◌-◌, ◌<◌, ◌≤◌, List, [], ◌∷◌, ◌++◌, length, get_or, take, drop, sym, ◌∙◌, ap, subst, arith}
use Rattle.std.specs.Prelude.{None}
use Rattle.std.proofs.lemmas.List.{drop_all, length-drop}
use Rattle.pfs_event.specs.declared.entry.Entry.{Entry}
use Rattle.pfs_model.specs.declared.lines.Line.{Line}
use Rattle.pfs_model.specs.Contexts.{Context, after, noted, subject_of, turned}
use Rattle.pfs_model.specs.EntryPlaces.{Placed, after_lines, placed_lines, placed_part}
use Rattle.pfs_check_parts.specs.Parts.{pieces}
use Rattle.pfs_check_trail.specs.Trails.{IsTrailOf}
use Rattle.pfs_check_walk.specs.Walks.{IsWalked, LacksFirst, entries_between, onto}
use Rattle.pfs_check_visits.specs.Visits.{AreKept}
use Rattle.pfs_check_visits.proofs.VisitSteps.{IsAt, at_end, at_first, at_lacking, at_more, next_is}

pub placed_length : (phase session : ℕ) (line : Line) (context : Context) (es : List Entry)
    → length (placed_part phase session line context es) ≡ length es
placed_length phase session line context [] = refl
placed_length phase session line context (e ∷ es) = ap suc (placed_length phase session line (noted (subject_of line) context e) es)

taken_length : (n : ℕ) (es : List Entry) → n ≤ length es → length (take n es) ≡ n
taken_length zero es h = refl
taken_length (suc n) [] h = absurd (omega (arith, h))
taken_length (suc n) (e ∷ es) h = ap suc (taken_length n es (omega (arith, h)))

between_length : (es : List Entry) (from to : ℕ) → to ≤ length es → length (entries_between es from to) ≡ to - from
between_length es from to h = taken_length (to - from) (drop from es) (omega (arith, h, length-drop from es))

-- the entries of a line, all of which keep the rule
pub part_kept : (rule : List Placed → Placed → Type 0) (earlier : List Placed) (knows : List Placed → Type 0) (phase session : ℕ)
    (line : Line) (context : Context) (es : List Entry) (from to start end count : ℕ) → to ≤ length es
    → entries_between es from to ≡ entries_between es start end
    → IsWalked rule earlier (placed_part phase session line context (entries_between es from to)) knows None → count ≡ to - from
    → AreKept rule earlier (placed_part phase session line context (entries_between es start end)) knows count
part_kept rule earlier knows phase session line context es from to start end count h same walked n =
    subst (λ (z : List Entry). AreKept rule earlier (placed_part phase session line context z) knows count) same (record {
      keep = walked.0;
      known = walked.1;
      count_is = n ∙ sym (placed_length phase session line context (entries_between es from to) ∙ between_length es from to h);
    })

-- How far the lines of a block are visited: what the entries so far tell, and what is left.
pub record AreLinesUnder (rule : List Placed → Placed → Type 0) (knows : List Placed → Type 0) (earlier : List Placed)
    (phase session : ℕ) (context : Context) (lines : List Line) (ends : List ℕ) (entries : List Entry)
    (i start count : ℕ) (track : Context) : Type 0 where
  pub now : Context
  pub told : IsTrailOf now track
  pub behind : after_lines now (drop i lines) (pieces start (drop i ends) entries) ≡ after_lines context lines (pieces 0 ends entries)
  pub at : IsAt rule knows earlier (placed_lines phase session context lines (pieces 0 ends entries))
      (placed_lines phase session now (drop i lines) (pieces start (drop i ends) entries)) count

pub lines_first : (rule : List Placed → Placed → Type 0) (knows : List Placed → Type 0) (earlier : List Placed)
    (phase session : ℕ) (context : Context) (lines : List Line) (ends : List ℕ) (entries : List Entry) (track : Context)
    → IsTrailOf context track → knows earlier
    → AreLinesUnder rule knows earlier phase session context lines ends entries 0 0 0 track
lines_first rule knows earlier phase session context lines ends entries track t k = record {
  now = context;
  told = t;
  behind = refl;
  at = at_first rule knows earlier (placed_lines phase session context lines (pieces 0 ends entries)) k;
}

-- what is left is the next line's part, and the rest
left_is : (phase session : ℕ) (now : Context) (line : Line) (lines : List Line) (end : ℕ) (ends : List ℕ) (entries : List Entry) (start : ℕ)
    → placed_lines phase session now (line ∷ lines) (pieces start (end ∷ ends) entries)
    ≡ placed_part phase session line (turned now) (entries_between entries start end)
    ++ placed_lines phase session (after now line (entries_between entries start end)) lines (pieces end ends entries)
unfolding pieces
left_is phase session now line lines end ends entries start = refl

behind_is : (now : Context) (line : Line) (lines : List Line) (end : ℕ) (ends : List ℕ) (entries : List Entry) (start : ℕ)
    → after_lines now (line ∷ lines) (pieces start (end ∷ ends) entries)
    ≡ after_lines (after now line (entries_between entries start end)) lines (pieces end ends entries)
unfolding pieces
behind_is now line lines end ends entries start = refl

rest_is : (phase session : ℕ) (now : Context) (lines : List Line) (ends : List ℕ) (entries : List Entry) (i start : ℕ) (line : Line) (end : ℕ)
    → i < length lines → i < length ends → line ≡ get_or lines i line → end ≡ get_or ends i end
    → placed_lines phase session now (drop i lines) (pieces start (drop i ends) entries)
    ≡ placed_part phase session line (turned now) (entries_between entries start end)
    ++ placed_lines phase session (after now line (entries_between entries start end)) (drop (i + 1) lines) (pieces end (drop (i + 1) ends) entries)
rest_is phase session now lines ends entries i start line end h g line_is end_is =
    ap (λ (z : List Line). placed_lines phase session now z (pieces start (drop i ends) entries)) (next_is lines i line h line_is)
    ∙ ap (λ (z : List ℕ). placed_lines phase session now (line ∷ drop (i + 1) lines) (pieces start z entries)) (next_is ends i end g end_is)
    ∙ left_is phase session now line (drop (i + 1) lines) end (drop (i + 1) ends) entries start

pub lines_more : (rule : List Placed → Placed → Type 0) (knows known : List Placed → Type 0) (earlier : List Placed)
    (phase session : ℕ) (context : Context) (lines : List Line) (ends : List ℕ) (entries : List Entry)
    (i start count : ℕ) (track new : Context) (line : Line) (end few next : ℕ)
    (a : AreLinesUnder rule knows earlier phase session context lines ends entries i start count track)
    → i < length lines → i < length ends → line ≡ get_or lines i line → end ≡ get_or ends i end
    → AreKept rule (onto earlier a.at.done) (placed_part phase session line (turned a.now) (entries_between entries start end)) known few
    → IsTrailOf (after a.now line (entries_between entries start end)) new → next ≡ count + few
    → AreLinesUnder rule known earlier phase session context lines ends entries (i + 1) end next new
lines_more rule knows known earlier phase session context lines ends entries i start count track new line end few next a h g line_is end_is kept t n = record {
  now = after a.now line (entries_between entries start end);
  told = t;
  behind =
      sym (ap (λ (z : List Line). after_lines a.now z (pieces start (drop i ends) entries)) (next_is lines i line h line_is)
      ∙ ap (λ (z : List ℕ). after_lines a.now (line ∷ drop (i + 1) lines) (pieces start z entries)) (next_is ends i end g end_is)
      ∙ behind_is a.now line (drop (i + 1) lines) end (drop (i + 1) ends) entries start)
      ∙ a.behind;
  at = at_more rule knows known earlier (placed_lines phase session context lines (pieces 0 ends entries))
      (placed_lines phase session a.now (drop i lines) (pieces start (drop i ends) entries))
      (placed_part phase session line (turned a.now) (entries_between entries start end))
      (placed_lines phase session (after a.now line (entries_between entries start end)) (drop (i + 1) lines) (pieces end (drop (i + 1) ends) entries))
      count few next a.at (rest_is phase session a.now lines ends entries i start line end h g line_is end_is) kept n;
}

pub lines_lacking : (rule : List Placed → Placed → Type 0) (knows : List Placed → Type 0) (earlier : List Placed)
    (phase session : ℕ) (context : Context) (lines : List Line) (ends : List ℕ) (entries : List Entry)
    (i start count : ℕ) (track : Context) (line : Line) (end few next : ℕ)
    (a : AreLinesUnder rule knows earlier phase session context lines ends entries i start count track)
    → i < length lines → i < length ends → line ≡ get_or lines i line → end ≡ get_or ends i end
    → LacksFirst rule (onto earlier a.at.done) (placed_part phase session line (turned a.now) (entries_between entries start end)) few
    → next ≡ count + few
    → LacksFirst rule earlier (placed_lines phase session context lines (pieces 0 ends entries)) next
lines_lacking rule knows earlier phase session context lines ends entries i start count track line end few next a h g line_is end_is lacks n =
    at_lacking rule knows earlier (placed_lines phase session context lines (pieces 0 ends entries))
    (placed_lines phase session a.now (drop i lines) (pieces start (drop i ends) entries))
    (placed_part phase session line (turned a.now) (entries_between entries start end))
    (placed_lines phase session (after a.now line (entries_between entries start end)) (drop (i + 1) lines) (pieces end (drop (i + 1) ends) entries))
    count few next a.at (rest_is phase session a.now lines ends entries i start line end h g line_is end_is) lacks n

-- no line is left, or no part
none_left : (phase session : ℕ) (now : Context) (lines : List Line) → placed_lines phase session now lines [] ≡ []
none_left phase session now [] = refl
none_left phase session now (line ∷ lines) = refl

none_after : (now : Context) (lines : List Line) → after_lines now lines [] ≡ now
none_after now [] = refl
none_after now (line ∷ lines) = refl

pub lines_end : (rule : List Placed → Placed → Type 0) (knows : List Placed → Type 0) (earlier : List Placed)
    (phase session : ℕ) (context : Context) (lines : List Line) (ends : List ℕ) (entries : List Entry)
    (i start count : ℕ) (track : Context) → length lines ≤ i
    → AreLinesUnder rule knows earlier phase session context lines ends entries i start count track
    → AreKept rule earlier (placed_lines phase session context lines (pieces 0 ends entries)) knows count
    × IsTrailOf (after_lines context lines (pieces 0 ends entries)) track
lines_end rule knows earlier phase session context lines ends entries i start count track h a = (
  at_end rule knows earlier (placed_lines phase session context lines (pieces 0 ends entries))
      (placed_lines phase session a.now (drop i lines) (pieces start (drop i ends) entries)) count a.at
      (ap (λ (z : List Line). placed_lines phase session a.now z (pieces start (drop i ends) entries)) (drop_all i lines h)),
  subst (λ (z : Context). IsTrailOf z track)
      (sym (ap (λ (z : List Line). after_lines a.now z (pieces start (drop i ends) entries)) (drop_all i lines h)) ∙ a.behind) a.told,
)

no_pieces : (start : ℕ) (entries : List Entry) → pieces start [] entries ≡ []
unfolding pieces
no_pieces start entries = refl

pub ends_end : (rule : List Placed → Placed → Type 0) (knows : List Placed → Type 0) (earlier : List Placed)
    (phase session : ℕ) (context : Context) (lines : List Line) (ends : List ℕ) (entries : List Entry)
    (i start count : ℕ) (track : Context) → length ends ≤ i
    → AreLinesUnder rule knows earlier phase session context lines ends entries i start count track
    → AreKept rule earlier (placed_lines phase session context lines (pieces 0 ends entries)) knows count
    × IsTrailOf (after_lines context lines (pieces 0 ends entries)) track
ends_end rule knows earlier phase session context lines ends entries i start count track h a =
    let none : pieces start (drop i ends) entries ≡ [] =
    ap (λ (z : List ℕ). pieces start z entries) (drop_all i ends h) ∙ no_pieces start entries in (
      at_end rule knows earlier (placed_lines phase session context lines (pieces 0 ends entries))
          (placed_lines phase session a.now (drop i lines) (pieces start (drop i ends) entries)) count a.at
          (ap (λ (z : List (List Entry)). placed_lines phase session a.now (drop i lines) z) none ∙ none_left phase session a.now (drop i lines)),
      subst (λ (z : Context). IsTrailOf z track)
          (sym (ap (λ (z : List (List Entry)). after_lines a.now (drop i lines) z) none ∙ none_after a.now (drop i lines)) ∙ a.behind) a.told,
    )
