-- The sessions of a script quit in their last blocks, with only the end of the block behind it.
use Rattle.std.proofs.Common.{ℕ, zero, suc, ◌≡◌, ◌≤◌, ◌<◌, ◌+◌, ◌==◌, Bool, true, false, cond, List, [], ◌∷◌, ◌++◌, length, map, Option, Some, None, refl, sym, subst, ◌∙◌, ap, arith, append_assoc, append-nil}
use Rattle.std.specs.Prelude.{Contains, filter}
use Rattle.std.specs.List.{All, flat_map}
use Rattle.std.proofs.lemmas.Bool.{eqb-true}
use Rattle.pfs_model.proofs.EachLists.{each_join}
use Rattle.pfs_event.specs.declared.kind.EventKind.{EventKind}
use Rattle.pfs_journal.specs.declared.blocks.BlockReport.{BlockReport}
use Rattle.pfs_journal.specs.declared.report.PhaseParts.{PhaseParts}
use Rattle.pfs_model.specs.Chains.{Each}
use Rattle.pfs_model.specs.EntryPlaces.{Block}
use Rattle.pfs_model.specs.declared.lines.Line.{Line}
use Rattle.pfs_model.specs.declared.lines.Line.TheVariants as told
use Rattle.pfs_play.specs.Errands.{is_quit as ends}
use Rattle.pfs_play.specs.Repeats.{AllMayPlay}
use Rattle.pfs_law_script.specs.PlayableBlocks.{PlayableLaw, IsPlayable, IsPlayableBlock, HasBody, end_of, kinds_before, lines_among}
use Rattle.pfs_exec.specs.Requests.{request_of}
use Rattle.pfs_exec.specs.declared.requests.Request.{Request}
use Rattle.pfs_exec.specs.declared.requests.Request.TheVariants as requests
use Rattle.pfs_runs.specs.ScriptLines.{lines_in, line_in, connect_lines, sql_line}
use Rattle.pfs_runs.specs.Runs.{AreBlocksOf, ArePhasesOf, all_blocks}
use Rattle.pfs_script.specs.declared.blocks.Block.{Block as Said}
use Rattle.pfs_script.specs.declared.blocks.BlockLine.{BlockLine}
use Rattle.pfs_script.specs.declared.blocks.BlockLine.TheVariants as said
use Rattle.pfs_script.specs.declared.blocks.Connect.{Connect}
use Rattle.pfs_script.specs.declared.blocks.Phase.{Phase}
use Rattle.pfs_script.specs.Brackets.{kinds_behind}
use Rattle.pfs_script.specs.Events.{blocks_for}
use Rattle.pfs_script.specs.Marks.{mark_of, Repeated, copies, written_from, written_out}
use Rattle.pfs_script.specs.KnownClasses.{AreDistinct}
use Rattle.pfs_law_conservation.specs.RunEvents.{is_quit}
use Rattle.pfs_law_summaries.specs.FirstConnects.{NoneOf}
use Rattle.pfs_law_summaries.specs.OrderlyRuns.{LastLaw}
use Rattle.pfs_law_summaries.specs.LastQuits.{Quits, AreQuit}
use Rattle.pfs_law_summaries.proofs.QuitEntries.{quit_law}

-- lines of a script of which none quits
abbrev Stays : BlockLine → Type 0
Stays line = is_quit (line_in line) ≡ false

abbrev Stay : List BlockLine → Type 0
Stay lines = Each Stays lines

sql_stays : (request : Request) → is_quit (sql_line request) ≡ false
sql_stays (requests.Refused error) = refl
sql_stays (requests.Query select) = refl
sql_stays (requests.Show select) = refl
sql_stays (requests.Truncate what) = refl
sql_stays (requests.Update update) = refl
sql_stays (requests.Insert insert) = refl
sql_stays (requests.Delete delete) = refl

stays : (line : BlockLine) → ends line ≡ false → Stays line
stays said.Quit q = absurd (cc)
stays (said.Sql text) q = sql_stays (request_of text)
stays _ q = refl

may_stay : (depth : ℕ) (kinds : List EventKind) (start : Option (List EventKind)) (lines : List BlockLine)
    → AllMayPlay 62 depth kinds start lines → Stay lines
unfolding AllMayPlay
may_stay depth kinds None [] may = tt
may_stay depth kinds (Some start) [] may = tt
may_stay depth kinds None (said.Repeat times ∷ lines) may = (refl, may_stay depth kinds (Some kinds) lines may)
may_stay depth kinds (Some start) (said.Done ∷ lines) may = (refl, may_stay depth kinds None lines may.1)
may_stay depth kinds None (line ∷ lines) may =
    (stays line may.0.quits, may_stay depth (kinds_behind (mark_of line) kinds) None lines may.1)
may_stay depth kinds (Some start) (line ∷ lines) may =
    (stays line may.0.quits, may_stay depth (kinds_behind (mark_of line) kinds) (Some start) lines may.1)

-- also with each repeat written out
copies_stay : (times : ℕ) (lines : List BlockLine) → Stay lines → Stay (copies times lines)
unfolding copies
copies_stay zero lines q = tt
copies_stay (suc times) lines q = each_join Stays lines (copies times lines) q (copies_stay times lines q)

abbrev LoopStays : Option Repeated → Type 0
LoopStays None = Unit {0}
LoopStays (Some loop) = Stay loop.body

written_stay : (start : Option Repeated) (lines : List BlockLine) → LoopStays start → Stay lines
    → Stay (written_from start lines)
unfolding written_from
written_stay None [] l q = tt
written_stay (Some loop) [] l q = l
written_stay None (said.Repeat times ∷ lines) l q =
    written_stay (Some (record { times = times; body = [] })) lines tt q.1
written_stay (Some loop) (said.Done ∷ lines) l q =
    each_join Stays (copies loop.times loop.body) (written_from None lines) (copies_stay loop.times loop.body l)
    (written_stay None lines tt q.1)
written_stay None (line ∷ lines) l q = (q.0, written_stay None lines tt q.1)
written_stay (Some loop) (line ∷ lines) l q =
    written_stay (Some (record { times = loop.times; body = loop.body ++ line ∷ [] })) lines
    (each_join Stays loop.body (line ∷ []) l (q.0, tt)) q.1

-- a quit at the end stays there
written_quit : (start : Option Repeated) (lines : List BlockLine)
    → written_from start (lines ++ said.Quit ∷ []) ≡ written_from start lines ++ said.Quit ∷ []
unfolding written_from
written_quit None [] = refl
written_quit (Some loop) [] = refl
written_quit None (said.Repeat times ∷ lines) = written_quit (Some (record { times = times; body = [] })) lines
written_quit (Some loop) (said.Done ∷ lines) =
    ap (λ z. copies loop.times loop.body ++ z) (written_quit None lines)
    ∙ sym (append_assoc (copies loop.times loop.body) (written_from None lines) (said.Quit ∷ []))
written_quit None (line ∷ lines) = ap (λ z. line ∷ z) (written_quit None lines)
written_quit (Some loop) (line ∷ lines) =
    written_quit (Some (record { times = loop.times; body = loop.body ++ line ∷ [] })) lines

-- the lines of a block
stay_quits : (fact : Type 0) (ls : List BlockLine) → Stay ls → Quits fact (map line_in ls ++ told.Close ∷ [])
stay_quits fact [] q = ((λ k. absurd (cc)), tt)
stay_quits fact (line ∷ ls) q =
    ((λ k. absurd (let no : true ≡ false = sym k ∙ q.0 in cc)), stay_quits fact ls q.1)

end_quits : (fact : Type 0) (ls : List BlockLine) → fact → Stay ls
    → Quits fact (map line_in (ls ++ said.Quit ∷ []) ++ told.Close ∷ [])
end_quits fact [] f q = ((λ k. (refl, f)), ((λ k. absurd (cc)), tt))
end_quits fact (line ∷ ls) f q =
    ((λ k. absurd (let no : true ≡ false = sym k ∙ q.0 in cc)), end_quits fact ls f q.1)

body_quits : (fact : Type 0) (body : List BlockLine) (quits : Bool) → (quits ≡ true → fact) → Stay (written_out body)
    → Quits fact (map line_in (written_out (body ++ end_of quits)) ++ told.Close ∷ [])
body_quits fact body true f q =
    subst (λ ls. Quits fact (map line_in ls ++ told.Close ∷ [])) (sym (written_quit None body))
    (end_quits fact (written_out body) (f refl) q)
body_quits fact body false f q =
    subst (λ ls. Quits fact (map line_in (written_out ls) ++ told.Close ∷ [])) (sym (append-nil body))
    (stay_quits fact (written_out body) q)

connect_quits : (fact : Type 0) (connect : Option Connect) (ls : List Line) → Quits fact ls
    → Quits fact (connect_lines connect ++ ls)
connect_quits fact None ls q = q
connect_quits fact (Some names) ls q = ((λ k. absurd (cc)), q)

itself : (n : ℕ) → n ≤ n
itself n = omega arith

block_quits : (before after : List Phase) (block : Said) (fact : Type 0) → HasBody before after block
    → (blocks_for block.session after ≡ [] → fact) → Quits fact (lines_in block)
block_quits before after block fact has f =
    let depth : ℕ = lines_among (blocks_for block.session before) + length block.lines in
    let stay : Stay has.body =
    may_stay depth (kinds_before block.session before) None has.body (has.plays depth (itself depth))
    in
    connect_quits fact block.connect (map line_in (written_out block.lines) ++ told.Close ∷ [])
    (subst (λ ls. Quits fact (map line_in (written_out ls) ++ told.Close ∷ [])) (sym has.lines)
    (body_quits fact has.body has.quits (λ k. f (has.last k)) (written_stay None has.body tt stay)))

-- the blocks that are ahead of a block: in its phase they are of other sessions
abbrev sessions_of : List Said → List ℕ
sessions_of saids = map (λ (one : Said). one.session) saids

contains_here : (session other : ℕ) (sessions : List ℕ) → other ≡ session → Contains (other ∷ sessions) session
contains_here session other sessions e = (0, positive (length sessions), e) where
  positive : (n : ℕ) → 0 < suc n
  positive n = omega arith

contains_more : (session other : ℕ) (sessions : List ℕ) → Contains sessions session
    → Contains (other ∷ sessions) session
contains_more session other sessions c = (suc c.0, below c.0 (length sessions) c.1, c.2) where
  below : (k n : ℕ) → k < n → suc k < suc n
  below k n low = omega (arith, low)

apart : (session : ℕ) (said : Said) (block : Block) → block.session ≡ said.session → (said.session ≡ session → ⊥)
    → (block.session == session) ≡ false
apart session said block e none = at (block.session == session) refl where
  at : (b : Bool) → (block.session == session) ≡ b → b ≡ false
  at true k = absurd (none (sym e ∙ eqb-true block.session session k))
  at false k = refl

others_none : (number session : ℕ) (saids : List Said) (reports : List BlockReport) (blocks : List Block)
    → AreBlocksOf number saids reports blocks → (Contains (sessions_of saids) session → ⊥) → NoneOf session blocks
others_none number session [] [] [] are none = tt
others_none number session (said ∷ saids) (report ∷ reports) (block ∷ blocks) are none = (
  apart session said block are.0.session (λ e. none (contains_here session said.session (sessions_of saids) e)),
  others_none number session saids reports blocks are.1
      (λ c. none (contains_more session said.session (sessions_of saids) c)),
)
others_none number session [] [] (block ∷ blocks) are none = absurd are
others_none number session [] (report ∷ reports) blocks are none = absurd are
others_none number session (said ∷ saids) [] blocks are none = absurd are
others_none number session (said ∷ saids) (report ∷ reports) [] are none = absurd are

-- and in the phases behind it there is none of its session where the script has none
abbrev blocks_by : ℕ → List Said → List Said
blocks_by session saids = filter (λ (one : Said). one.session == session) saids

blocks_none : (number session : ℕ) (saids more : List Said) (reports : List BlockReport) (blocks : List Block)
    → AreBlocksOf number saids reports blocks → blocks_by session (saids ++ more) ≡ []
    → NoneOf session blocks × (blocks_by session more ≡ [])
blocks_none number session [] more [] [] are none = (tt, none)
blocks_none number session (said ∷ saids) more (report ∷ reports) (block ∷ blocks) are none =
    at (said.session == session) refl none (blocks_none number session saids more reports blocks are.1) where
      at : (b : Bool) → (said.session == session) ≡ b
          → cond b (said ∷ blocks_by session (saids ++ more)) (blocks_by session (saids ++ more)) ≡ []
          → (blocks_by session (saids ++ more) ≡ [] → NoneOf session blocks × (blocks_by session more ≡ []))
          → NoneOf session (block ∷ blocks) × (blocks_by session more ≡ [])
      at true k none go = absurd (cc)
      at false k none go =
          let rest = go none in ((ap (λ s. s == session) are.0.session ∙ k, rest.0), rest.1)
blocks_none number session [] more [] (block ∷ blocks) are none = absurd are
blocks_none number session [] more (report ∷ reports) blocks are none = absurd are
blocks_none number session (said ∷ saids) more [] blocks are none = absurd are
blocks_none number session (said ∷ saids) more (report ∷ reports) [] are none = absurd are

phases_none : (number session : ℕ) (phases : List Phase) (reports : List PhaseParts) (all : List (List Block))
    → ArePhasesOf number phases reports all → blocks_for session phases ≡ [] → NoneOf session (all_blocks all)
phases_none number session [] [] [] are none = tt
phases_none number session (phase ∷ phases) (report ∷ reports) (blocks ∷ all) are none =
    let here =
    blocks_none number session phase.blocks (flat_map (λ (one : Phase). one.blocks) phases) report.blocks blocks
    are.1 none
    in
    each_join (λ (block : Block). (block.session == session) ≡ false) blocks (all_blocks all) here.0
    (phases_none (number + 1) session phases reports all are.2 here.1)
phases_none number session [] [] (blocks ∷ all) are none = absurd are
phases_none number session [] (report ∷ reports) all are none = absurd are
phases_none number session (phase ∷ phases) [] all are none = absurd are
phases_none number session (phase ∷ phases) (report ∷ reports) [] are none = absurd are

-- so all blocks of a run quit last
blocks_quit : (number : ℕ) (before after : List Phase) (saids : List Said) (reports : List BlockReport)
    (blocks more : List Block) → AreBlocksOf number saids reports blocks → All (IsPlayableBlock before after) saids
    → AreDistinct (sessions_of saids) → ((session : ℕ) → blocks_for session after ≡ [] → NoneOf session more)
    → AreQuit more → AreQuit (blocks ++ more)
blocks_quit number before after [] [] [] more are play apart none quit = quit
blocks_quit number before after (said ∷ saids) (report ∷ reports) (block ∷ blocks) more are play apart none quit = (
  subst (Quits (NoneOf block.session (blocks ++ more))) (sym are.0.lines)
      (block_quits before after said (NoneOf block.session (blocks ++ more)) (play zero said (omega arith)).body
      (λ gone. subst (λ s. NoneOf s (blocks ++ more)) (sym are.0.session)
      (each_join (λ (one : Block). (one.session == said.session) ≡ false) blocks more
      (others_none number said.session saids reports blocks are.1 apart.0) (none said.session gone)))),
  blocks_quit number before after saids reports blocks more are.1
      (λ k d low. play (suc k) d (within k (length saids) low)) apart.1 none quit,
) where
  within : (k n : ℕ) → k < n → suc k < suc n
  within k n low = omega (arith, low)
blocks_quit number before after [] [] (block ∷ blocks) more are play apart none quit = absurd are
blocks_quit number before after [] (report ∷ reports) blocks more are play apart none quit = absurd are
blocks_quit number before after (said ∷ saids) [] blocks more are play apart none quit = absurd are
blocks_quit number before after (said ∷ saids) (report ∷ reports) [] more are play apart none quit = absurd are

phases_quit : (whole : List Phase)
    → ((before : List Phase) (phase : Phase) (after : List Phase) → whole ≡ before ++ phase ∷ after
    → IsPlayable before phase after) → (before phases : List Phase) (number : ℕ) (reports : List PhaseParts)
    (all : List (List Block)) → whole ≡ before ++ phases → ArePhasesOf number phases reports all
    → AreQuit (all_blocks all)
phases_quit whole playable before [] number [] [] e are = tt
phases_quit whole playable before (phase ∷ phases) number (report ∷ reports) (blocks ∷ all) e are =
    let may = playable before phase phases e in
    blocks_quit number before phases phase.blocks report.blocks blocks (all_blocks all) are.1 may.blocks may.sessions
    (λ session none. phases_none (number + 1) session phases reports all are.2 none)
    (phases_quit whole playable (before ++ phase ∷ []) phases (number + 1) reports all
    (e ∙ sym (append_assoc before (phase ∷ []) phases)) are.2)
phases_quit whole playable before [] number [] (blocks ∷ all) e are = absurd are
phases_quit whole playable before [] number (report ∷ reports) all e are = absurd are
phases_quit whole playable before (phase ∷ phases) number [] all e are = absurd are
phases_quit whole playable before (phase ∷ phases) number (report ∷ reports) [] e are = absurd are

pub last_law : PlayableLaw → LastLaw
last_law playable text setting phases report script run =
    quit_law (all_blocks run.blocks) run.rules.shaped
    (phases_quit phases (λ before phase after e. playable text setting phases before phase after script e) [] phases 1
    report.phases run.blocks refl run.phases_are)
