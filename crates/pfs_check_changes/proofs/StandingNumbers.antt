-- Numbers that stand for changes: as more changes are kept, and as lines are written out.
use Rattle.std.proofs.Common.{◌≡◌, refl, ℕ, zero, suc, ◌<◌, All, List, [], ◌∷◌, ◌++◌, map, length, take, drop, sym, ◌∙◌, ap, subst, append_assoc, arith, false, true, Option, Some, None, option_map}
use Rattle.std.specs.Prelude.{slice_get}
use Rattle.std.specs.List.{flat_map, slice_index_or}
use Rattle.std.proofs.Math.Seq.{get_or-append_seam}
use Rattle.std.proofs.lemmas.List.{append-nil, get_or_append_left, length-append, length-map, map-append}
use Rattle.std.proofs.lemmas.List.Elements.{All-append, All-drop, All-nil, All-push, All-same, All-take, All-weaker}
use Rattle.std.proofs.lemmas.Option.{get_or_from_slice_get, slice_get-map, unwrap_or-slice_get}
use Rattle.pfs_admin.specs.declared.changes.Change.{Change}
use Rattle.pfs_admin.specs.declared.changes.Change.TheVariants as changes
use Rattle.pfs_admin.specs.declared.changes.SetupStatement.TheVariants.{Show}
use Rattle.pfs_runs.specs.ScriptLines.{changes_on}
use Rattle.pfs_script.specs.Marks.{copies, is_done, repeats_of, written_out}
use Rattle.pfs_script.specs.declared.blocks.BlockLine.{BlockLine}
use Rattle.pfs_check_changes.specs.declared.repeats.Repeat.{Repeat}
use Rattle.pfs_check_changes.specs.ActionNumbers.{Grows, StandFor, change_at, show_if}
use Rattle.pfs_check_changes.specs.WrittenActions.{IsWrittenBy}
use Rattle.pfs_check_changes.proofs.WrittenSteps.{all_written, begun, ended, mapped_again, put_inside, put_outside}

abbrev pub IsKept : List Change → ℕ → Type 0
IsKept kept number = number < length kept

-- nothing was kept, or more behind what was
pub grows_none : (kept : List Change) → Grows kept kept
grows_none kept = ([], sym (append-nil kept))

pub grows_on : (old mid new : List Change) → Grows old mid → Grows mid new → Grows old new
grows_on old mid new one other =
    (one.0 ++ other.0, other.1 ∙ ap (λ z. z ++ other.0) one.1 ∙ append_assoc old one.0 other.0)

pub none_stand : (kept : List Change) → StandFor kept [] []
none_stand kept = record { within = All-nil (IsKept kept); made_are = refl }

-- changes kept behind others are not among those that numbers stood for
grown_all : (kept more : List Change) (numbers : List ℕ) → All (IsKept kept) numbers
    → map (change_at (kept ++ more)) numbers ≡ map (change_at kept) numbers
grown_all kept more [] within = refl
grown_all kept more (number ∷ numbers) within =
    ap (λ z. z ∷ map (change_at (kept ++ more)) numbers) (get_or_append_left kept more (changes.Setup Show) number (within 0 number (omega arith)))
    ∙ ap (λ z. change_at kept number ∷ z) (grown_all kept more numbers (λ k d h. within (suc k) d (omega (arith, h))))

pub stand_grown : (old new : List Change) (numbers : List ℕ) (made : List Change) → Grows old new → StandFor old numbers made
    → StandFor new numbers made
stand_grown old new numbers made grows stand = record {
  within = All-weaker (IsKept old) (IsKept new) (λ number h. omega (arith, h, ap length grows.1, length-append old grows.0)) numbers stand.within;
  made_are = ap (λ z. map (change_at z) numbers) grows.1 ∙ grown_all old grows.0 numbers stand.within ∙ stand.made_are;
}

-- one action more
pub stand_more : (old new : List Change) (numbers more : List ℕ) (made : List Change) (change : Change) (number : ℕ) → number ≡ length old
    → new ≡ old ++ change ∷ [] → more ≡ numbers ++ number ∷ [] → StandFor old numbers made → StandFor new more (made ++ change ∷ [])
stand_more old new numbers more made change number last grown put stand =
    let now = stand_grown old new numbers made (change ∷ [], grown) stand in
    let is : change_at new number ≡ change =
    ap (λ z. change_at z number) grown ∙ ap (change_at (old ++ change ∷ [])) last
    ∙ get_or-append_seam old change [] (changes.Setup Show) in
    record {
      within = All-same (IsKept new) more (numbers ++ number ∷ []) put (All-push (IsKept new) numbers number now.within
          (omega (arith, last, ap length grown, length-append old (change ∷ []))));
      made_are = ap (map (change_at new)) put
          ∙ map-append (change_at new) numbers (number ∷ [])
          ∙ ap (λ z. z ++ change_at new number ∷ []) now.made_are
          ∙ ap (λ z. made ++ z ∷ []) is;
    }

pub stand_same : (kept : List Change) (numbers : List ℕ) (made : List Change) → StandFor kept numbers made → StandFor kept numbers (made ++ [])
stand_same kept numbers made stand = subst (StandFor kept numbers) (sym (append-nil made)) stand

-- the numbers from a place on so many times
all_copies : (P : ℕ → Type 0) (times : ℕ) (numbers : List ℕ) → All P numbers → All P (copies times numbers)
unfolding copies
all_copies P zero numbers h = All-nil P
all_copies P (suc times) numbers h = All-append P numbers (copies times numbers) h (all_copies P times numbers h)

pub stand_again : (kept : List Change) (old new : List ℕ) (made : List Change) (start times : ℕ) → new ≡ take start old ++ copies times (drop start old)
    → StandFor kept old made → StandFor kept new (take start made ++ copies times (drop start made))
stand_again kept old new made start times e stand = record {
  within = All-same (IsKept kept) new (take start old ++ copies times (drop start old)) e
      (All-append (IsKept kept) (take start old) (copies times (drop start old))
      (All-take (IsKept kept) start old stand.within)
      (all_copies (IsKept kept) times (drop start old) (All-drop (IsKept kept) start old stand.within)));
  made_are = mapped_again (change_at kept) old new start times e
      ∙ ap (λ z. take start z ++ copies times (drop start z)) stand.made_are;
}

same_length : (kept : List Change) (numbers : List ℕ) (made : List Change) → StandFor kept numbers made → length numbers ≡ length made
same_length kept numbers made stand = sym (length-map numbers (change_at kept)) ∙ ap length stand.made_are

-- the lines of a block, by numbers
pub started_by : (kept : List Change) (numbers : List ℕ) (made : List Change) (said : List BlockLine) → StandFor kept numbers made
    → IsWrittenBy (made ++ flat_map changes_on (written_out said)) None kept numbers said
started_by kept numbers made said stand = record { made = made; stand = stand; written = refl }

pub begun_by : (whole kept : List Change) (numbers : List ℕ) (line : BlockLine) (rest : List BlockLine) (times start : ℕ) → repeats_of line ≡ Some times
    → start ≡ length numbers → IsWrittenBy whole None kept numbers (line ∷ rest)
    → IsWrittenBy whole (Some (record { times = times; start = start })) kept numbers rest
begun_by whole kept numbers line rest times start h s w = record {
  made = w.made;
  stand = w.stand;
  written = begun whole w.made line rest times start h (s ∙ same_length kept numbers w.made w.stand) w.written;
}

abbrev pub HasPut : List Change → List ℕ → List Change → List ℕ → List Change → Type 0
HasPut old numbers new more put = (made : List Change) → StandFor old numbers made → StandFor new more (made ++ put)

pub outside_by : (whole old new : List Change) (numbers more : List ℕ) (line : BlockLine) (rest : List BlockLine) → repeats_of line ≡ None
    → HasPut old numbers new more (changes_on line) → IsWrittenBy whole None old numbers (line ∷ rest) → IsWrittenBy whole None new more rest
outside_by whole old new numbers more line rest h put w = record {
  made = w.made ++ changes_on line;
  stand = put w.made w.stand;
  written = put_outside whole w.made line rest h w.written;
}

pub inside_by : (whole old new : List Change) (numbers more : List ℕ) (repeat : Repeat) (line : BlockLine) (rest : List BlockLine) → is_done line ≡ false
    → HasPut old numbers new more (changes_on line) → IsWrittenBy whole (Some repeat) old numbers (line ∷ rest)
    → IsWrittenBy whole (Some repeat) new more rest
inside_by whole old new numbers more repeat line rest h put w = record {
  made = w.made ++ changes_on line;
  stand = put w.made w.stand;
  written = put_inside whole repeat w.made line rest h w.written;
}

pub ended_by : (whole kept : List Change) (numbers more : List ℕ) (repeat : Repeat) (line : BlockLine) (rest : List BlockLine) → is_done line ≡ true
    → more ≡ take repeat.start numbers ++ copies repeat.times (drop repeat.start numbers)
    → IsWrittenBy whole (Some repeat) kept numbers (line ∷ rest) → IsWrittenBy whole None kept more rest
ended_by whole kept numbers more repeat line rest h e w = record {
  made = take repeat.start w.made ++ copies repeat.times (drop repeat.start w.made);
  stand = stand_again kept numbers more w.made repeat.start repeat.times e w.stand;
  written = ended whole repeat w.made line rest h w.written;
}

pub all_by : (whole : List Change) (repeat : Option Repeat) (kept : List Change) (numbers : List ℕ) → IsWrittenBy whole repeat kept numbers []
    → StandFor kept numbers whole
all_by whole repeat kept numbers w = subst (StandFor kept numbers) (all_written whole repeat w.made w.written) w.stand

-- the change of a number's place, and where there is no such place
pub change_found : (kept : List Change) (numbers : List ℕ) (all : List Change) (at number : ℕ) → StandFor kept numbers all
    → slice_get numbers at ≡ Some number → show_if (slice_get kept number) ≡ slice_index_or all at (changes.Setup Show)
change_found kept numbers all at number stand e =
    unwrap_or-slice_get kept number (changes.Setup Show)
    ∙ sym (get_or_from_slice_get (map (change_at kept) numbers) at (change_at kept number) (changes.Setup Show)
    (slice_get-map (change_at kept) numbers at ∙ ap (option_map (change_at kept)) e))
    ∙ ap (λ z. slice_index_or z at (changes.Setup Show)) stand.made_are

pub change_missing : (kept : List Change) (numbers : List ℕ) (all : List Change) (at : ℕ) → StandFor kept numbers all
    → slice_get numbers at ≡ None → changes.Setup Show ≡ slice_index_or all at (changes.Setup Show)
change_missing kept numbers all at stand e =
    ap show_if (sym (slice_get-map (change_at kept) numbers at ∙ ap (option_map (change_at kept)) e))
    ∙ unwrap_or-slice_get (map (change_at kept) numbers) at (changes.Setup Show)
    ∙ ap (λ z. slice_index_or z at (changes.Setup Show)) stand.made_are
