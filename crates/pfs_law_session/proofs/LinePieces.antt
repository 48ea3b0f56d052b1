-- Pieces of what stands at a line, one after another.
use Rattle.std.proofs.Common.{ℕ, ◌≡◌, Bool, true, false, List, [], ◌∷◌, ◌++◌, Option, Some, None, refl, ap, sym, ◌∙◌, subst}
use Rattle.std.specs.Prelude.{Result, Ok, Err}
use Rattle.std.proofs.lemmas.Bool.{true≢false}
use Rattle.pfs_event.specs.declared.entry.Entry.{Entry}
use Rattle.pfs_event.specs.declared.entry.Entry.TheVariants as says
use Rattle.pfs_model.proofs.ShapeCuts.{cut_more}
use Rattle.pfs_model.specs.Contexts.{Context, subject_of, noted, after_entries}
use Rattle.pfs_model.specs.Cuts.{cut, then_cut, step, are_closed, is_headed}
use Rattle.pfs_model.specs.EventNumbers.{IsNumbered, AreNumbered}
use Rattle.pfs_model.specs.EntryPlaces.{Placed, placed_part}
use Rattle.pfs_model.specs.SetupFlags.{IsJudged, AreJudged}
use Rattle.pfs_model.specs.declared.lines.Line.{Line}
use Rattle.pfs_model.specs.declared.lines.Subject.{Subject}
use Rattle.pfs_model.specs.declared.shapes.Item.{Item}

pub record IsPiece (flags : ℕ → ℕ → ℕ) (stack : ℕ) (line : Line) (context : Context) (entries : List Entry) (behind : Context) : Type 0 where
  pub judged : (phase session : ℕ) → AreJudged stack flags (placed_part phase session line context entries)
  pub numbered : (phase session : ℕ) → AreNumbered (placed_part phase session line context entries)
  pub behind_is : after_entries (subject_of line) context entries ≡ behind

pub piece_none : (flags : ℕ → ℕ → ℕ) (stack : ℕ) (line : Line) (context : Context) → IsPiece flags stack line context [] context
piece_none flags stack line context = record { judged = λ p s. tt; numbered = λ p s. tt; behind_is = refl }

pub piece_one : (flags : ℕ → ℕ → ℕ) (stack : ℕ) (line : Line) (context : Context) (entry : Entry) → IsJudged stack flags (subject_of line) context entry → IsNumbered context entry
    → IsPiece flags stack line context (entry ∷ []) (noted (subject_of line) context entry)
piece_one flags stack line context entry j n = record { judged = λ p s. (j, tt); numbered = λ p s. (n, tt); behind_is = refl }

pub judged_then : (stack : ℕ) (flags : ℕ → ℕ → ℕ) (xs ys : List Placed) → AreJudged stack flags xs → AreJudged stack flags ys → AreJudged stack flags (xs ++ ys)
judged_then stack flags [] ys a b = b
judged_then stack flags (x ∷ xs) ys a b = (a.0, judged_then stack flags xs ys a.1 b)

pub numbered_then : (xs ys : List Placed) → AreNumbered xs → AreNumbered ys → AreNumbered (xs ++ ys)
numbered_then [] ys a b = b
numbered_then (x ∷ xs) ys a b = (a.0, numbered_then xs ys a.1 b)

placed_then : (phase session : ℕ) (line : Line) (context : Context) (es fs : List Entry)
    → placed_part phase session line context (es ++ fs) ≡ placed_part phase session line context es ++ placed_part phase session line (after_entries (subject_of line) context es) fs
placed_then phase session line context [] fs = refl
placed_then phase session line context (e ∷ es) fs =
    ap (λ z. record { phase = phase; session = session; line = line; context = context; entry = e } ∷ z) (placed_then phase session line (noted (subject_of line) context e) es fs)

pub entries_then : (subject : Option Subject) (context : Context) (es fs : List Entry) → after_entries subject context (es ++ fs) ≡ after_entries subject (after_entries subject context es) fs
entries_then subject context [] fs = refl
entries_then subject context (e ∷ es) fs = entries_then subject (noted subject context e) es fs

pub piece_then : (flags : ℕ → ℕ → ℕ) (stack : ℕ) (line : Line) (context mid behind : Context) (es fs : List Entry) → IsPiece flags stack line context es mid
    → IsPiece flags stack line mid fs behind → IsPiece flags stack line context (es ++ fs) behind
piece_then flags stack line context mid behind es fs p q = record {
  judged = λ ph se. subst (AreJudged stack flags) (sym (placed_then ph se line context es fs))
      (judged_then stack flags _ _ (p.judged ph se) (subst (λ z. AreJudged stack flags (placed_part ph se line z fs)) (sym p.behind_is) (q.judged ph se)));
  numbered = λ ph se. subst AreNumbered (sym (placed_then ph se line context es fs))
      (numbered_then _ _ (p.numbered ph se) (subst (λ z. AreNumbered (placed_part ph se line z fs)) (sym p.behind_is) (q.numbered ph se)));
  behind_is = entries_then (subject_of line) context es fs ∙ ap (λ z. after_entries (subject_of line) z fs) p.behind_is ∙ q.behind_is;
}

-- an entry that neither starts nor ends an event is judged and numbered by nothing
abbrev pub is_plain : Entry → Bool
is_plain (says.Start _ _ _ _ _ _) = false
is_plain (says.End _ _ _ _) = false
is_plain _ = true

pub judged_plain : (stack : ℕ) (flags : ℕ → ℕ → ℕ) (subject : Option Subject) (context : Context) (entry : Entry) → is_plain entry ≡ true → IsJudged stack flags subject context entry
judged_plain stack flags None context entry q = tt
judged_plain stack flags (Some subject) context (says.Start _ _ _ _ _ _) q = absurd (true≢false (sym q))
judged_plain stack flags (Some subject) context _ q = tt

pub judged_end : (stack : ℕ) (flags : ℕ → ℕ → ℕ) (subject : Option Subject) (context : Context) (event last consumers thread : Option ℕ)
    → IsJudged stack flags subject context (says.End event last consumers thread)
judged_end stack flags None context event last consumers thread = tt
judged_end stack flags (Some subject) context event last consumers thread = tt

pub numbered_plain : (context : Context) (entry : Entry) → is_plain entry ≡ true → IsNumbered context entry
numbered_plain context (says.Start _ _ _ _ _ _) q = absurd (true≢false (sym q))
numbered_plain context (says.End _ _ _ _) q = absurd (true≢false (sym q))
numbered_plain context _ q = tt

pub piece_plain : (flags : ℕ → ℕ → ℕ) (stack : ℕ) (line : Line) (context : Context) (entry : Entry) → is_plain entry ≡ true
    → IsPiece flags stack line context (entry ∷ []) (noted (subject_of line) context entry)
piece_plain flags stack line context entry q =
    piece_one flags stack line context entry (judged_plain stack flags (subject_of line) context entry q) (numbered_plain context entry q)

-- shapes one behind another
pub cut_append : (xs ys : List Item) (es : List Entry) → cut (xs ++ ys) es ≡ then_cut (cut xs es) (cut ys)
unfolding cut
cut_append [] ys es = refl
cut_append (x ∷ xs) ys es = by_step (step x.often x.ask es) (cut_append xs ys) where
  by_step : (r : Result (List Entry) (List Entry)) → ((rest : List Entry) → cut (xs ++ ys) rest ≡ then_cut (cut xs rest) (cut ys))
      → then_cut r (cut (xs ++ ys)) ≡ then_cut (then_cut r (cut xs)) (cut ys)
  by_step (Ok rest) go = go rest
  by_step (Err rest) go = refl

pub cut_both : (xs ys : List Item) (es fs : List Entry) → are_closed xs ≡ true → is_headed fs ≡ true → cut xs es ≡ Ok [] → cut ys fs ≡ Ok [] → cut (xs ++ ys) (es ++ fs) ≡ Ok []
cut_both xs ys es fs c h p q = cut_append xs ys (es ++ fs) ∙ ap (λ z. then_cut z (cut ys)) (cut_more xs es fs [] c h p) ∙ q
