-- Lines that nest, with each repeat written out, and what they leave open.
use Rattle.std.proofs.Common.{ℕ, zero, suc, ◌≡◌, ◌≤◌, ◌+◌, true, List, [], ◌∷◌, ◌++◌, Option, Some, None, refl, ap, sym, ◌∙◌, length, drop, map, append_assoc, append-nil, arith, length-drop, length-append}
use Rattle.std.specs.List.{flat_map}
use Rattle.std.proofs.lemmas.List.{map-append}
use Rattle.std.proofs.lemmas.List.Sums.{sum_by-cons}
use Rattle.pfs_event.specs.declared.kind.EventKind.{EventKind}
use Rattle.pfs_script.specs.declared.blocks.Block.{Block}
use Rattle.pfs_script.specs.declared.blocks.BlockLine.{BlockLine}
use Rattle.pfs_script.specs.declared.blocks.BlockLine.TheVariants as said
use Rattle.pfs_script.specs.Marks.{Mark, Opens, Ends, EndsStage, Passes, mark_of, Repeated, copies, written_from, written_out}
use Rattle.pfs_script.specs.Brackets.{open_in, kinds_of, ended_by, kind_opened, kinds_behind, may_stand, Follows}
use Rattle.pfs_script.specs.NestedBlocks.{IsNested}
use Rattle.pfs_script.proofs.BlockNests.{kinds_along}
use Rattle.pfs_script.proofs.MarkNests.{kinds_more, follows_append, repeats}
use Rattle.pfs_law_script.specs.PlayableBlocks.{kinds_left, lines_among}

-- behind these marks the lines may stand, and leave events of these kinds open
record Leaves (marks : List Mark) (kinds : List EventKind) (lines : List BlockLine) : Type 0 where
  follows : Follows marks (map mark_of lines)
  behind : kinds_of (open_in (marks ++ map mark_of lines)) ≡ kinds

map-copies : (times : ℕ) (lines : List BlockLine) → map mark_of (copies times lines) ≡ copies times (map mark_of lines)
unfolding copies
map-copies zero lines = refl
map-copies (suc times) lines =
    map-append mark_of lines (copies times lines) ∙ ap (λ marks. map mark_of lines ++ marks) (map-copies times lines)

none_left : (marks : List Mark) (kinds : List EventKind) → kinds_of (open_in marks) ≡ kinds → Leaves marks kinds []
none_left marks kinds h = record {
  follows = tt;
  behind = ap (λ marks. kinds_of (open_in marks)) (append-nil marks) ∙ h;
}

one_left : (marks : List Mark) (kinds after : List EventKind) (line : BlockLine) (lines : List BlockLine)
    → kinds_of (open_in marks) ≡ kinds → may_stand kinds (mark_of line) ≡ true
    → Leaves (marks ++ mark_of line ∷ []) after lines → Leaves marks after (line ∷ lines)
one_left marks kinds after line lines h may l = record {
  follows = (ap (λ kinds. may_stand kinds (mark_of line)) h ∙ may, l.follows);
  behind =
      ap (λ marks. kinds_of (open_in marks)) (sym (append_assoc marks (mark_of line ∷ []) (map mark_of lines)))
      ∙ l.behind;
}

both_left : (marks : List Mark) (after : List EventKind) (first second : List BlockLine)
    → Follows marks (map mark_of first) → Leaves (marks ++ map mark_of first) after second
    → Leaves marks after (first ++ second)
both_left marks after first second f l = record {
  follows =
      rw (map-append mark_of first second)
      (follows_append marks (map mark_of first) (map mark_of second) f l.follows);
  behind =
      rw (map-append mark_of first second)
      (ap (λ marks. kinds_of (open_in marks)) (sym (append_assoc marks (map mark_of first) (map mark_of second)))
      ∙ l.behind);
}

one_behind : (marks : List Mark) (kinds : List EventKind) (line : BlockLine) → kinds_of (open_in marks) ≡ kinds
    → kinds_of (open_in (marks ++ mark_of line ∷ [])) ≡ kinds_behind (mark_of line) kinds
one_behind marks kinds line h = kinds_more marks (mark_of line) ∙ ap (kinds_behind (mark_of line)) h

-- how it stands behind marks and the lines so far of a repeat that isn't done
abbrev Is : Option Repeated → Option (List EventKind) → List Mark → List EventKind → Type 0
Is None None marks kinds = kinds_of (open_in marks) ≡ kinds
Is (Some loop) (Some start) marks kinds = (kinds_of (open_in marks) ≡ start) × Leaves marks kinds loop.body
Is None (Some start) marks kinds = ⊥
Is (Some loop) None marks kinds = ⊥

pushed : (marks : List Mark) (kinds : List EventKind) (body : List BlockLine) (line : BlockLine)
    → Leaves marks kinds body → may_stand kinds (mark_of line) ≡ true
    → Leaves marks (kinds_behind (mark_of line) kinds) (body ++ line ∷ [])
pushed marks kinds body line l may =
    let after = kinds_behind (mark_of line) kinds in
    both_left marks after body (line ∷ []) l.follows
    (one_left (marks ++ map mark_of body) kinds after line [] l.behind may
    (none_left ((marks ++ map mark_of body) ++ mark_of line ∷ []) after
    (one_behind (marks ++ map mark_of body) kinds line l.behind)))

-- a repeat that is done has its lines so many times
done_left : (marks : List Mark) (start kinds after : List EventKind) (times : ℕ) (body lines : List BlockLine)
    → kinds_of (open_in marks) ≡ start → Leaves marks kinds body → kinds ≡ start
    → ((more : List Mark) → kinds_of (open_in more) ≡ kinds → Leaves more after lines)
    → Leaves marks after (copies times body ++ lines)
done_left marks start kinds after times body lines h l same rest =
    let again = repeats marks (map mark_of body) l.follows (l.behind ∙ (same ∙ sym h)) times in
    both_left marks after (copies times body) lines (rw (map-copies times body) again.0)
    (rest (marks ++ map mark_of (copies times body)) (rw (map-copies times body) (again.1 ∙ (h ∙ sym same))))

leaves : (loop : Option Repeated) (start : Option (List EventKind)) (block : List BlockLine) (marks : List Mark)
    (kinds : List EventKind) → Is loop start marks kinds → IsNested kinds start block
    → Leaves marks (kinds_along kinds block) (written_from loop block)
unfolding IsNested written_from
leaves None (Some start) block marks kinds h n = absurd h
leaves (Some loop) None block marks kinds h n = absurd h
leaves None None [] marks kinds h n = none_left marks kinds h
leaves (Some loop) (Some start) [] marks kinds h n = h.1
leaves None None (said.Repeat times ∷ rest) marks kinds h n =
    leaves (Some (record { times = times; body = [] })) (Some kinds) rest marks kinds (h, none_left marks kinds h) n
leaves (Some loop) (Some start) (said.Done ∷ rest) marks kinds h n =
    done_left marks start kinds (kinds_along kinds rest) loop.times loop.body (written_from None rest) h.0 h.1 n.0
    (λ more is. leaves None None rest more kinds is n.1)
leaves None None (line ∷ rest) marks kinds h n =
    let after = kinds_behind (mark_of line) kinds in
    one_left marks kinds (kinds_along after rest) line (written_from None rest) h n.0
    (leaves None None rest (marks ++ mark_of line ∷ []) after (one_behind marks kinds line h) n.1)
leaves (Some loop) (Some start) (line ∷ rest) marks kinds h n =
    leaves (Some (record { times = loop.times; body = loop.body ++ line ∷ [] })) (Some start) rest marks
    (kinds_behind (mark_of line) kinds) (h.0, pushed marks kinds loop.body line h.1 n.0) n.1

-- a block's lines, written out behind others, leave open what they do as they stand
pub block_leaves : (lines block : List BlockLine) (kinds : List EventKind) → kinds_left lines ≡ kinds
    → IsNested kinds None block → kinds_left (lines ++ written_out block) ≡ kinds_along kinds block
block_leaves lines block kinds h n =
    ap (λ marks. kinds_of (open_in marks)) (map-append mark_of lines (written_out block))
    ∙ (leaves None None block (map mark_of lines) kinds h n).behind

-- blocks one after another

abbrev pub along_blocks : List EventKind → List Block → List EventKind
along_blocks kinds [] = kinds
along_blocks kinds (block ∷ blocks) = along_blocks (kinds_along kinds block.lines) blocks

abbrev pub BlocksNest : List EventKind → List Block → Type 0
BlocksNest kinds [] = Unit {0}
BlocksNest kinds (block ∷ blocks) =
    IsNested kinds None block.lines × BlocksNest (kinds_along kinds block.lines) blocks

abbrev written_all : List Block → List BlockLine
written_all blocks = flat_map (λ (block : Block). written_out block.lines) blocks

-- with each repeat written out they leave open what they do as they stand
pub blocks_leave : (blocks : List Block) (kinds : List EventKind) (marks : List Mark) → BlocksNest kinds blocks
    → kinds_of (open_in marks) ≡ kinds
    → kinds_of (open_in (marks ++ map mark_of (written_all blocks))) ≡ along_blocks kinds blocks
blocks_leave [] kinds marks n h = ap (λ marks. kinds_of (open_in marks)) (append-nil marks) ∙ h
blocks_leave (block ∷ blocks) kinds marks n h =
    let here = leaves None None block.lines marks kinds h n.0 in
    let own = map mark_of (written_out block.lines) in
    let later = map mark_of (written_all blocks) in
    ap (λ more. kinds_of (open_in (marks ++ more))) (map-append mark_of (written_out block.lines) (written_all blocks))
    ∙ (ap (λ marks. kinds_of (open_in marks)) (sym (append_assoc marks own later))
    ∙ blocks_leave blocks (kinds_along kinds block.lines) (marks ++ own) n.1 here.behind)

-- a line opens one event at most

opened_few : (mark : Mark) → length (kind_opened mark) ≤ 1
opened_few (Opens kind) = omega arith
opened_few Ends = omega arith
opened_few EndsStage = omega arith
opened_few Passes = omega arith

pub behind_few : (mark : Mark) (kinds : List EventKind) → length (kinds_behind mark kinds) ≤ length kinds + 1
behind_few mark kinds =
    omega (
      arith,
      length-append (kind_opened mark) (drop (ended_by mark kinds) kinds),
      length-drop (ended_by mark kinds) kinds,
      opened_few mark,
    )

along_few : (kinds : List EventKind) (lines : List BlockLine)
    → length (kinds_along kinds lines) ≤ length kinds + length lines
along_few kinds [] = omega arith
along_few kinds (line ∷ lines) =
    omega (arith, along_few (kinds_behind (mark_of line) kinds) lines, behind_few (mark_of line) kinds)

pub blocks_few : (kinds : List EventKind) (blocks : List Block)
    → length (along_blocks kinds blocks) ≤ length kinds + lines_among blocks
blocks_few kinds [] = omega arith
blocks_few kinds (block ∷ blocks) =
    omega (
      arith,
      blocks_few (kinds_along kinds block.lines) blocks,
      along_few kinds block.lines,
      sum_by-cons (λ (block : Block). length block.lines) block blocks,
    )
