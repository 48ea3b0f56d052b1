-- What journals say was lost, block by block and spell by spell.
use Rattle.std.proofs.Common.{ℕ, ◌≡◌, ◌+◌, Bool, List, [], ◌∷◌, ◌++◌, refl, ap, sym, ◌∙◌, arith}
use Rattle.std.specs.List.{flat_map}
use Rattle.std.proofs.lemmas.List.{append_assoc}
use Rattle.std.proofs.lemmas.List.Concat.{flat_map-append}
use Rattle.pfs_law_plain.specs.Spells.{Spell, parts_in, stints_of}
use Rattle.pfs_event.specs.declared.entry.Entry.{Entry}
use Rattle.pfs_event.specs.declared.verdict.Verdict.{Verdict}
use Rattle.pfs_model.specs.Chains.{times, each_of}
use Rattle.pfs_model.specs.Contexts.{Context, noted, turned, after, subject_of}
use Rattle.pfs_model.specs.Contexts.{fresh as empty}
use Rattle.pfs_model.specs.JournalCuts.{joined}
use Rattle.pfs_model.specs.EntryPlaces.{Block, Placed, placed_part, placed_lines, places_behind, told_by}
use Rattle.pfs_model.specs.declared.lines.Line.{Line}
use Rattle.pfs_law_session.specs.Deeds.{Part, line_of, part_entries}
use Rattle.pfs_law_session.specs.JournalLaws.{lines_of}
use Rattle.pfs_law_session.specs.JournalLaws.{entries_of as entries_of_parts}
use Rattle.pfs_law_session.specs.Stints.{blocks_of}
use Rattle.pfs_law_plain.specs.RunRules.{entries_of}
use Rattle.pfs_runs.specs.PhaseFinals.{is_lost_nested, is_lost_locker, verdict_at}
use Rattle.pfs_law_report.proofs.StartLosses.{times_then}
use Rattle.pfs_law_report.specs.LostCounts.{started, lost_statements, lost_waits, journal_of, all_started}

-- what the entries of a block give, one after another, they give without their places
each_then : {A : Type 0} (given : Entry → List A) (xs ys : List Placed) → each_of given (xs ++ ys) ≡ each_of given xs ++ each_of given ys
each_then given [] ys = refl
each_then given (x ∷ xs) ys = ap (λ z. given x.entry ++ z) (each_then given xs ys) ∙ sym (append_assoc (given x.entry) (each_of given xs) (each_of given ys))

in_part : {A : Type 0} (given : Entry → List A) (phase session : ℕ) (line : Line) (context : Context) (es : List Entry) → each_of given (placed_part phase session line context es) ≡ flat_map given es
in_part given phase session line context [] = refl
in_part given phase session line context (e ∷ es) = ap (λ z. given e ++ z) (in_part given phase session line (noted (subject_of line) context e) es)

in_block : {A : Type 0} (given : Entry → List A) (phase session : ℕ) (context : Context) (ps : List Part)
    → each_of given (placed_lines phase session context (lines_of ps) (entries_of_parts ps)) ≡ flat_map given (joined (entries_of_parts ps))
unfolding joined
in_block given phase session context [] = refl
in_block given phase session context (p ∷ ps) =
    let own : List Placed = placed_part phase session (line_of p.deed) (turned context) (part_entries p) in
    let rest : List Placed = placed_lines phase session (after context (line_of p.deed) (part_entries p)) (lines_of ps) (entries_of_parts ps) in
    each_then given own rest
    ∙ (ap (λ z. z ++ each_of given rest) (in_part given phase session (line_of p.deed) (turned context) (part_entries p))
    ∙ (ap (λ z. flat_map given (part_entries p) ++ z) (in_block given phase session (after context (line_of p.deed) (part_entries p)) ps)
    ∙ sym (flat_map-append given (part_entries p) (joined (entries_of_parts ps)))))

-- spell by spell
started_behind : (test : Verdict → Bool) (earlier : List Block) (spells : List Spell) → times test (each_of verdict_at (places_behind earlier (blocks_of (stints_of spells)))) ≡ all_started test spells
unfolding places_behind
started_behind test earlier [] = refl
started_behind test earlier (s ∷ ss) =
    let parts : List Part = parts_in s.doings in
    let context : Context = told_by s.session empty earlier in
    let block : Block = record { phase = s.phase; session = s.session; lines = lines_of parts; parts = entries_of_parts parts } in
    let own : List Placed = placed_lines s.phase s.session context (lines_of parts) (entries_of_parts parts) in
    let rest : List Placed = places_behind (earlier ++ block ∷ []) (blocks_of (stints_of ss)) in
    ap (times test) (each_then verdict_at own rest)
    ∙ (times_then test (each_of verdict_at own) (each_of verdict_at rest)
    ∙ (ap (λ z. times test z + times test (each_of verdict_at rest)) (in_block verdict_at s.phase s.session context parts)
    ∙ ap (λ z. started test (journal_of s) + z) (started_behind test (earlier ++ block ∷ []) ss)))

-- how often a verdict stands in all entries is the sum over the spells
pub started_in : (test : Verdict → Bool) (spells : List Spell) → times test (each_of verdict_at (entries_of spells)) ≡ all_started test spells
started_in test spells = started_behind test [] spells

all_last : (test : Verdict → Bool) (spells : List Spell) (spell : Spell) → all_started test (spells ++ spell ∷ []) ≡ all_started test spells + started test (journal_of spell)
all_last test [] spell = swap (started test (journal_of spell)) where
  swap : (n : ℕ) → n + 0 ≡ 0 + n
  swap n = omega arith
all_last test (s ∷ ss) spell = ap (λ z. started test (journal_of s) + z) (all_last test ss spell) ∙ regroup (started test (journal_of s)) (all_started test ss) (started test (journal_of spell)) where
  regroup : (a b c : ℕ) → a + (b + c) ≡ (a + b) + c
  regroup a b c = omega arith

-- with one spell more there are those of its journal more
pub started_more : (test : Verdict → Bool) (spells : List Spell) (spell : Spell)
    → times test (each_of verdict_at (entries_of (spells ++ spell ∷ []))) ≡ times test (each_of verdict_at (entries_of spells)) + started test (journal_of spell)
started_more test spells spell =
    started_in test (spells ++ spell ∷ []) ∙ (all_last test spells spell ∙ ap (λ z. z + started test (journal_of spell)) (sym (started_in test spells)))

-- so what was counted so far, with those of its journal
counts_on : (test : Verdict → Bool) (spells : List Spell) (spell : Spell) (entries : List Entry) (before now : ℕ) → entries ≡ journal_of spell
    → before ≡ times test (each_of verdict_at (entries_of spells)) → now ≡ before + started test entries → now ≡ times test (each_of verdict_at (entries_of (spells ++ spell ∷ [])))
counts_on test spells spell entries before now wrote was is =
    is ∙ (ap (λ z. z + started test entries) was ∙ (ap (λ z. times test (each_of verdict_at (entries_of spells)) + started test z) wrote ∙ sym (started_more test spells spell)))

pub statements_more : (spells : List Spell) (spell : Spell) (entries : List Entry) (before now : ℕ) → entries ≡ journal_of spell
    → before ≡ times is_lost_nested (each_of verdict_at (entries_of spells)) → now ≡ before + lost_statements entries
    → now ≡ times is_lost_nested (each_of verdict_at (entries_of (spells ++ spell ∷ [])))
statements_more spells spell entries before now wrote was is = counts_on is_lost_nested spells spell entries before now wrote was is

pub waits_more : (spells : List Spell) (spell : Spell) (entries : List Entry) (before now : ℕ) → entries ≡ journal_of spell
    → before ≡ times is_lost_locker (each_of verdict_at (entries_of spells)) → now ≡ before + lost_waits entries
    → now ≡ times is_lost_locker (each_of verdict_at (entries_of (spells ++ spell ∷ [])))
waits_more spells spell entries before now wrote was is = counts_on is_lost_locker spells spell entries before now wrote was is
