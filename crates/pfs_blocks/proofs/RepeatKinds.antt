-- The kinds that lines leave open are those that they leave with each repeat written out.
use Rattle.std.proofs.Common.{ℕ, ◌≡◌, List, [], ◌∷◌, ◌++◌, Option, Some, None, refl, ap, sym, ◌∙◌, subst}
use Rattle.pfs_event.specs.declared.kind.EventKind.{EventKind}
use Rattle.pfs_play.specs.Errands.{kinds_after}
use Rattle.pfs_play.specs.Repeats.{AllMayPlay}
use Rattle.pfs_play.proofs.WrittenRepeats.{kinds_then, kinds_copies}
use Rattle.pfs_script.specs.declared.blocks.BlockLine.{BlockLine}
use Rattle.pfs_script.specs.declared.blocks.BlockLine.TheVariants as said
use Rattle.pfs_script.specs.Brackets.{kinds_behind}
use Rattle.pfs_script.specs.Marks.{Repeated, mark_of, copies, written_from, written_out}

-- one line more of a repeat
with_line : (start kinds : List EventKind) (body : List BlockLine) (line : BlockLine) → kinds_after start body ≡ kinds → kinds_after start (body ++ line ∷ []) ≡ kinds_behind (mark_of line) kinds
with_line start kinds body line is = kinds_then start body (line ∷ []) ∙ ap (λ (k : List EventKind). kinds_behind (mark_of line) k) is

-- the end of a repeat: its lines so many times, which leave what they began with
with_end : (start kinds : List EventKind) (loop : Repeated) (rest : List BlockLine) → kinds_after start loop.body ≡ kinds → kinds ≡ start → kinds_after start (written_from None rest) ≡ kinds_after start rest
    → kinds_after start (copies loop.times loop.body ++ written_from None rest) ≡ kinds_after kinds rest
with_end start kinds loop rest is back rest_is =
    kinds_then start (copies loop.times loop.body) (written_from None rest)
    ∙ (ap (λ (k : List EventKind). kinds_after k (written_from None rest)) (kinds_copies start loop.times loop.body (is ∙ back)) ∙ (rest_is ∙ ap (λ (k : List EventKind). kinds_after k rest) (sym back)))

-- where lines stand: outside of a repeat, or in one that began where events of these kinds were open
abbrev start_of : Option (List EventKind) → List EventKind → List EventKind
start_of None kinds = kinds
start_of (Some start) kinds = start

abbrev loop_of : Option (List EventKind) → Repeated → Option Repeated
loop_of None loop = None
loop_of (Some start) loop = Some loop

abbrev Fits : Option (List EventKind) → Repeated → List EventKind → Type 0
Fits None loop kinds = Unit {0}
Fits (Some start) loop kinds = kinds_after start loop.body ≡ kinds

abbrev no_loop : Repeated
no_loop = record { times = 0; body = [] }

by_lines : (depth : ℕ) (kinds : List EventKind) (from : Option (List EventKind)) (loop : Repeated) (lines : List BlockLine) → Fits from loop kinds → AllMayPlay 62 depth kinds from lines
    → kinds_after (start_of from kinds) (written_from (loop_of from loop) lines) ≡ kinds_after kinds lines
unfolding AllMayPlay written_from
by_lines depth kinds None loop [] fits may = refl
by_lines depth kinds (Some start) loop [] fits may = fits
by_lines depth kinds None loop (said.Repeat times ∷ rest) fits may = by_lines depth kinds (Some kinds) (record { times = times; body = [] }) rest refl may
by_lines depth kinds (Some start) loop (said.Done ∷ rest) fits may =
    with_end start kinds loop rest fits may.0 (by_lines depth start None no_loop rest tt (subst (λ (k : List EventKind). AllMayPlay 62 depth k None rest) may.0 may.1))
by_lines depth kinds None loop ((said.Wait class) ∷ rest) fits may = by_lines depth (kinds_behind (mark_of (said.Wait class)) kinds) None no_loop rest tt may.1
by_lines depth kinds None loop ((said.TableWait class table) ∷ rest) fits may = by_lines depth (kinds_behind (mark_of (said.TableWait class table)) kinds) None no_loop rest tt may.1
by_lines depth kinds None loop ((said.Statement class digest) ∷ rest) fits may = by_lines depth (kinds_behind (mark_of (said.Statement class digest)) kinds) None no_loop rest tt may.1
by_lines depth kinds None loop ((said.Transaction access) ∷ rest) fits may = by_lines depth (kinds_behind (mark_of (said.Transaction access)) kinds) None no_loop rest tt may.1
by_lines depth kinds None loop ((said.Stage class) ∷ rest) fits may = by_lines depth (kinds_behind (mark_of (said.Stage class)) kinds) None no_loop rest tt may.1
by_lines depth kinds None loop (said.StageEnd ∷ rest) fits may = by_lines depth (kinds_behind (mark_of said.StageEnd) kinds) None no_loop rest tt may.1
by_lines depth kinds None loop ((said.Spend time) ∷ rest) fits may = by_lines depth (kinds_behind (mark_of (said.Spend time)) kinds) None no_loop rest tt may.1
by_lines depth kinds None loop ((said.Sql text) ∷ rest) fits may = by_lines depth (kinds_behind (mark_of (said.Sql text)) kinds) None no_loop rest tt may.1
by_lines depth kinds None loop (said.Quit ∷ rest) fits may = by_lines depth (kinds_behind (mark_of said.Quit) kinds) None no_loop rest tt may.1
by_lines depth kinds None loop (said.End ∷ rest) fits may = by_lines depth (kinds_behind (mark_of said.End) kinds) None no_loop rest tt may.1
by_lines depth kinds None loop ((said.EndStatement numbers) ∷ rest) fits may = by_lines depth (kinds_behind (mark_of (said.EndStatement numbers)) kinds) None no_loop rest tt may.1
by_lines depth kinds None loop (said.Done ∷ rest) fits may = by_lines depth (kinds_behind (mark_of said.Done) kinds) None no_loop rest tt may.1
by_lines depth kinds (Some start) loop ((said.Wait class) ∷ rest) fits may = by_lines depth (kinds_behind (mark_of (said.Wait class)) kinds) (Some start) (record { times = loop.times; body = loop.body ++ (said.Wait class) ∷ [] }) rest (with_line start kinds loop.body (said.Wait class) fits) may.1
by_lines depth kinds (Some start) loop ((said.TableWait class table) ∷ rest) fits may = by_lines depth (kinds_behind (mark_of (said.TableWait class table)) kinds) (Some start) (record { times = loop.times; body = loop.body ++ (said.TableWait class table) ∷ [] }) rest (with_line start kinds loop.body (said.TableWait class table) fits) may.1
by_lines depth kinds (Some start) loop ((said.Statement class digest) ∷ rest) fits may = by_lines depth (kinds_behind (mark_of (said.Statement class digest)) kinds) (Some start) (record { times = loop.times; body = loop.body ++ (said.Statement class digest) ∷ [] }) rest (with_line start kinds loop.body (said.Statement class digest) fits) may.1
by_lines depth kinds (Some start) loop ((said.Transaction access) ∷ rest) fits may = by_lines depth (kinds_behind (mark_of (said.Transaction access)) kinds) (Some start) (record { times = loop.times; body = loop.body ++ (said.Transaction access) ∷ [] }) rest (with_line start kinds loop.body (said.Transaction access) fits) may.1
by_lines depth kinds (Some start) loop ((said.Stage class) ∷ rest) fits may = by_lines depth (kinds_behind (mark_of (said.Stage class)) kinds) (Some start) (record { times = loop.times; body = loop.body ++ (said.Stage class) ∷ [] }) rest (with_line start kinds loop.body (said.Stage class) fits) may.1
by_lines depth kinds (Some start) loop (said.StageEnd ∷ rest) fits may = by_lines depth (kinds_behind (mark_of said.StageEnd) kinds) (Some start) (record { times = loop.times; body = loop.body ++ said.StageEnd ∷ [] }) rest (with_line start kinds loop.body said.StageEnd fits) may.1
by_lines depth kinds (Some start) loop ((said.Spend time) ∷ rest) fits may = by_lines depth (kinds_behind (mark_of (said.Spend time)) kinds) (Some start) (record { times = loop.times; body = loop.body ++ (said.Spend time) ∷ [] }) rest (with_line start kinds loop.body (said.Spend time) fits) may.1
by_lines depth kinds (Some start) loop ((said.Sql text) ∷ rest) fits may = by_lines depth (kinds_behind (mark_of (said.Sql text)) kinds) (Some start) (record { times = loop.times; body = loop.body ++ (said.Sql text) ∷ [] }) rest (with_line start kinds loop.body (said.Sql text) fits) may.1
by_lines depth kinds (Some start) loop (said.Quit ∷ rest) fits may = by_lines depth (kinds_behind (mark_of said.Quit) kinds) (Some start) (record { times = loop.times; body = loop.body ++ said.Quit ∷ [] }) rest (with_line start kinds loop.body said.Quit fits) may.1
by_lines depth kinds (Some start) loop (said.End ∷ rest) fits may = by_lines depth (kinds_behind (mark_of said.End) kinds) (Some start) (record { times = loop.times; body = loop.body ++ said.End ∷ [] }) rest (with_line start kinds loop.body said.End fits) may.1
by_lines depth kinds (Some start) loop ((said.EndStatement numbers) ∷ rest) fits may = by_lines depth (kinds_behind (mark_of (said.EndStatement numbers)) kinds) (Some start) (record { times = loop.times; body = loop.body ++ (said.EndStatement numbers) ∷ [] }) rest (with_line start kinds loop.body (said.EndStatement numbers) fits) may.1
by_lines depth kinds (Some start) loop ((said.Repeat times) ∷ rest) fits may = by_lines depth (kinds_behind (mark_of (said.Repeat times)) kinds) (Some start) (record { times = loop.times; body = loop.body ++ (said.Repeat times) ∷ [] }) rest (with_line start kinds loop.body (said.Repeat times) fits) may.1

pub written_kinds : (depth : ℕ) (kinds : List EventKind) (lines : List BlockLine) → AllMayPlay 62 depth kinds None lines → kinds_after kinds (written_out lines) ≡ kinds_after kinds lines
written_kinds depth kinds lines may = by_lines depth kinds None no_loop lines tt may
