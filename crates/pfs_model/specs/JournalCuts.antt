-- A journal cut by its lines.
use Rattle.std.specs.Prelude.{◌≡◌, ◌↔◌, List, [], ◌∷◌, ◌++◌, Result, Ok, Err}
use Rattle.pfs_event.specs.declared.entry.Entry.{Entry}
use Rattle.pfs_model.specs.declared.lines.Line.{Line}
use Rattle.pfs_model.specs.Contexts.{Context, after}
use Rattle.pfs_model.specs.Shapes.{shape}
use Rattle.pfs_model.specs.Cuts.{cut, front}

abbrev pub with_part : List Entry → Result (List (List Entry)) (List Entry) → Result (List (List Entry)) (List Entry)
with_part part (Ok parts) = Ok (part ∷ parts)
with_part part (Err rest) = Err rest

abbrev pub on_cut : List Entry → Result (List Entry) (List Entry)
    → (List Entry → Result (List (List Entry)) (List Entry)) → Result (List (List Entry)) (List Entry)
on_cut entries (Ok rest) go_on = with_part (front entries rest) (go_on rest)
on_cut entries (Err rest) go_on = Err rest

-- the entries of each line, or those from the first on that fits none
unfoldable pub parts_of : Context → List Line → List Entry → Result (List (List Entry)) (List Entry)
parts_of context [] [] = Ok []
parts_of context [] (entry ∷ entries) = Err (entry ∷ entries)
parts_of context (line ∷ lines) entries =
    on_cut entries (cut (shape context line) entries)
    (λ rest. parts_of (after context line (front entries rest)) lines rest)

-- each part is what its line asks for and allows
abbrev pub AreShaped : Context → List Line → List (List Entry) → Type 0
AreShaped context [] [] = Unit {0}
AreShaped context [] (part ∷ parts) = ⊥
AreShaped context (line ∷ lines) [] = ⊥
AreShaped context (line ∷ lines) (part ∷ parts) =
    (cut (shape context line) part ≡ Ok []) × AreShaped (after context line part) lines parts

unfoldable pub joined : List (List Entry) → List Entry
joined [] = []
joined (part ∷ parts) = part ++ joined parts

-- a journal of the lines, in these parts
pub record IsJournal (context : Context) (lines : List Line) (journal : List Entry) (parts : List (List Entry)) : Type
    0 where
  pub shaped : AreShaped context lines parts
  pub spelled : joined parts ≡ journal

abbrev pub Exact : Type 0
Exact = (context : Context) (lines : List Line) (journal : List Entry) (parts : List (List Entry))
    → (parts_of context lines journal ≡ Ok parts) ↔ IsJournal context lines journal parts

-- two lists begin alike: both end, or both go on with the same entry
abbrev pub Alike : List Entry → List Entry → Type 0
Alike [] [] = Unit {0}
Alike [] (other ∷ others) = ⊥
Alike (entry ∷ entries) [] = ⊥
Alike (entry ∷ entries) (other ∷ others) = entry ≡ other

-- no journal of the lines begins with what stands before the misfit and the entry there; and where none stands there,
-- it is no journal
pub record IsMisfit (context : Context) (lines : List Line) (journal rest : List Entry) : Type 0 where
  pub before : List Entry
  pub is : journal ≡ before ++ rest
  pub never : (others : List Entry) (parts : List (List Entry)) → Alike rest others
      → IsJournal context lines (before ++ others) parts → ⊥

abbrev pub Misfits : Type 0
Misfits = (context : Context) (lines : List Line) (journal rest : List Entry)
    → parts_of context lines journal ≡ Err rest → IsMisfit context lines journal rest
