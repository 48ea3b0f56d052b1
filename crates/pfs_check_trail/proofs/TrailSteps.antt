-- What a trail leaves out bears on nothing else that entries tell, and on no shape.
use Rattle.std.proofs.Common.{◌≡◌, refl, ℕ, suc, ◌+◌, ◌-◌, ◌<◌, ◌≤◌, List, [], ◌∷◌, length, take, drop, sym, ◌∙◌, ap, arith, Option, Some}
use Rattle.std.specs.Prelude.{Result, Ok, Err, slice_get}
use Rattle.std.proofs.lemmas.List.{drop_more}
use Rattle.std.proofs.lemmas.Option.{get_or_from_slice_get}
use Rattle.pfs_event.specs.declared.entry.Entry.{Entry}
use Rattle.pfs_event.specs.declared.entry.Entry.TheVariants as says
use Rattle.pfs_model.specs.declared.lines.Line.{Line}
use Rattle.pfs_model.specs.declared.lines.Line.TheVariants as lines
use Rattle.pfs_model.specs.declared.lines.Subject.{Subject}
use Rattle.pfs_model.specs.Contexts.{Context, after, after_entries, noted, subject_of, turned}
use Rattle.pfs_model.specs.Cuts.{cut, front}
use Rattle.pfs_model.specs.EntryPlaces.{after_lines}
use Rattle.pfs_model.specs.JournalCuts.{on_cut, parts_of, with_part}
use Rattle.pfs_model.specs.Shapes.{shape}
use Rattle.pfs_check_trail.specs.Trails.{IsTrailOf, shaping, trimmed}

noted_trimmed : (subject : Option Subject) (context : Context) (e : Entry) → trimmed (noted subject (trimmed context) e) ≡ trimmed (noted subject context e)
noted_trimmed subject context (says.Connect action thread account user host) = refl
noted_trimmed subject context (says.Start event verdict consumers thread class table) = refl
noted_trimmed subject context (says.End event last consumers thread) = refl
noted_trimmed subject context (says.Held row first second) = refl
noted_trimmed subject context (says.Add row version) = refl
noted_trimmed subject context says.Settle = refl
noted_trimmed subject context (says.Act action) = refl
noted_trimmed subject context (says.Take row version) = refl
noted_trimmed subject context _ = refl

pub noted_alike : (subject : Option Subject) (context trail : Context) (e : Entry) → IsTrailOf context trail → IsTrailOf (noted subject context e) (noted subject trail e)
noted_alike subject context trail e h =
    sym (noted_trimmed subject trail e) ∙ ap (λ (z : Context). trimmed (noted subject z e)) h ∙ noted_trimmed subject context e

pub turned_alike : (context trail : Context) → IsTrailOf context trail → IsTrailOf (turned context) (turned trail)
turned_alike context trail h = ap turned h

pub entries_alike : (subject : Option Subject) (context trail : Context) (es : List Entry) → IsTrailOf context trail → IsTrailOf (after_entries subject context es) (after_entries subject trail es)
entries_alike subject context trail [] h = h
entries_alike subject context trail (e ∷ es) h =
    entries_alike subject (noted subject context e) (noted subject trail e) es (noted_alike subject context trail e h)

pub after_alike : (context trail : Context) (line : Line) (part : List Entry) → IsTrailOf context trail → IsTrailOf (after context line part) (after trail line part)
after_alike context trail line part h =
    entries_alike (subject_of line) (turned context) (turned trail) part (turned_alike context trail h)

pub lines_alike : (context trail : Context) (ls : List Line) (parts : List (List Entry)) → IsTrailOf context trail → IsTrailOf (after_lines context ls parts) (after_lines trail ls parts)
lines_alike context trail [] parts h = h
lines_alike context trail (line ∷ ls) [] h = h
lines_alike context trail (line ∷ ls) (part ∷ parts) h =
    lines_alike (after context line part) (after trail line part) ls parts (after_alike context trail line part h)

-- a shape goes by three things alone
pub shape_by : (context : Context) (line : Line) → shape (shaping context.slot context.opened context.held) line ≡ shape context line
shape_by context lines.Connect = refl
shape_by context (lines.Start subject) = refl
shape_by context (lines.Stage subject) = refl
shape_by context lines.StageEnd = refl
shape_by context lines.End = refl
shape_by context lines.Spend = refl
shape_by context lines.Change = refl
shape_by context lines.Quit = refl
shape_by context lines.Show = refl
shape_by context lines.Query = refl
shape_by context (lines.Refused error) = refl
shape_by context lines.Close = refl

pub shape_alike : (context trail : Context) (line : Line) → IsTrailOf context trail → shape trail line ≡ shape context line
shape_alike context trail line h =
    sym (shape_by trail line) ∙ ap (λ (z : Context). shape (shaping z.slot z.opened z.held) line) h ∙ shape_by context line

-- a journal is cut alike
pub parts_alike : (context trail : Context) (ls : List Line) (es : List Entry) → IsTrailOf context trail → parts_of trail ls es ≡ parts_of context ls es
unfolding parts_of
parts_alike context trail [] [] h = refl
parts_alike context trail [] (e ∷ es) h = refl
parts_alike context trail (line ∷ ls) es h =
    ap (λ z. on_cut es (cut z es) (λ rest. parts_of (after trail line (front es rest)) ls rest)) (shape_alike context trail line h)
    ∙ on (cut (shape context line) es)
    (λ rest. parts_alike (after context line (front es rest)) (after trail line (front es rest)) ls rest
    (after_alike context trail line (front es rest) h)) where
      on : (r : Result (List Entry) (List Entry))
          → ((rest : List Entry) → parts_of (after trail line (front es rest)) ls rest ≡ parts_of (after context line (front es rest)) ls rest)
          → on_cut es r (λ rest. parts_of (after trail line (front es rest)) ls rest) ≡ on_cut es r (λ rest. parts_of (after context line (front es rest)) ls rest)
      on (Ok rest) go = ap (with_part (front es rest)) (go rest)
      on (Err rest) go = refl

-- one entry more of a part
pub part_step : (es : List Entry) (place to : ℕ) (e : Entry) → slice_get es place ≡ Some e → place < length es → place < to → take (to - place) (drop place es) ≡ e ∷ take (to - (place + 1)) (drop (place + 1) es)
part_step es place to e s h k =
    let more : to - place ≡ suc (to - (place + 1)) = omega arith in
    rw (drop_more es place e h, get_or_from_slice_get es place e e s, more) refl

-- one entry more of a part is noted
pub noted_one : (subject : Option Subject) (first old new : Context) (es whole : List Entry) (place to : ℕ) (e : Entry) → slice_get es place ≡ Some e → place < length es → place < to → IsTrailOf (noted subject old e) new → IsTrailOf (after_entries subject first whole) (after_entries subject old (take (to - place) (drop place es))) → IsTrailOf (after_entries subject first whole) (after_entries subject new (take (to - (place + 1)) (drop (place + 1) es)))
noted_one subject first old new es whole place to e s h k n before =
    entries_alike subject (noted subject old e) new (take (to - (place + 1)) (drop (place + 1) es)) n
    ∙ sym (ap (λ z. trimmed (after_entries subject old z)) (part_step es place to e s h k))
    ∙ before

-- and all are
pub noted_all : (subject own : Option Subject) (first new : Context) (es whole : List Entry) (place to : ℕ) → own ≡ subject → to ≤ place → IsTrailOf (after_entries own first whole) (after_entries own new (take (to - place) (drop place es))) → IsTrailOf (after_entries subject first whole) new
noted_all subject own first new es whole place to s h before =
    let none : to - place ≡ 0 = omega arith in
    sym (ap (λ n. trimmed (after_entries own new (take n (drop place es)))) none) ∙ before
    ∙ ap (λ z. trimmed (after_entries z first whole)) s
