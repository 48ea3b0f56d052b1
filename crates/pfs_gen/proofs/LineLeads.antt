-- What the lines of a generated script lead from, and to.
use Rattle.std.proofs.Common.{ℕ, ◌≡◌, ◌+◌, ◌≤◌, ◌==◌, false, ◌||◌, not, cond, List, [], ◌∷◌, ◌++◌, Some, refl, ap, sym, subst, append_assoc, append-nil, arith}
use Rattle.std.proofs.lemmas.Bool.Decides.{nat_tests}
use Rattle.pfs_lemmas.proofs.Bools.{or_first}
use Rattle.pfs_event.specs.declared.kind.EventKind.{EventKind}
use Rattle.pfs_script.specs.declared.forms.Form.{Form}
use Rattle.pfs_script.specs.declared.forms.Form.TheVariants as lines
use Rattle.pfs_script.specs.Brackets.{kinds_behind}
use Rattle.pfs_script.specs.Sessions.{is_phase, is_session, ends_block}
use Rattle.pfs_script.specs.Reasons.{is_out_of_place, is_bad_number, is_bad_session, is_unknown, is_bad_limit, is_bad_nesting, is_bad_statement, is_blockless, kinds_open, mark_of_form, weight_of}
use Rattle.pfs_script.proofs.FaultlessLines.{Passes}
use Rattle.pfs_gen.proofs.TextPasses.{Goes, goes_on, Says, goes_line}
use Rattle.pfs_gen.proofs.GeneratedHeads.{Fixes, fixes_more}
use Rattle.pfs_gen.proofs.GeneratedCounts.{Counts, IsGenerated, simple, counts_more, HasRoom, has_room}
use Rattle.pfs_gen.proofs.GeneratedSessions.{is_up_to, Course, course_inside, course_block, course_phase, kinds_now, in_block}

-- so many phases and no more than so much; this session, with these kinds of events open; the sessions up to one have
-- had a block, and those up to the other in this phase
pub record State : Type 0 where
  pub phases : ℕ
  pub size : ℕ
  pub now : ℕ
  pub kinds : List EventKind
  pub begun : ℕ
  pub here : ℕ

-- that is how it stands behind these lines
pub record Stands (before : List Form) (state : State) : Type 0 where
  pub counts : Counts before state.phases state.size
  pub course : Course before state.now state.kinds state.begun state.here
  pub fixes : Fixes before

-- the text goes over without a fault, and leaves it so
pub record Reaches (before : List Form) (text : List ℕ) (state : State) : Type 0 where
  pub lines : List Form
  pub goes : Goes before text lines
  pub stands : Stands (before ++ lines) state

abbrev pub Leads : List ℕ → State → State → Type 0
Leads text from to = (before : List Form) → Stands before from → Reaches before text to

pub leads_none : (state : State) → Leads [] state state
leads_none state = λ before stands. record {
  lines = [];
  goes = λ rest. rw append-nil refl;
  stands = subst (λ all. Stands all state) (sym (append-nil before)) stands;
}

pub leads_on : (first second : List ℕ) (a b c : State) → Leads first a b → Leads second b c → Leads (first ++ second) a c
leads_on first second a b c f g = λ before stands.
    let one = f before stands in
    let two = g (before ++ one.lines) one.stands in
    record {
      lines = one.lines ++ two.lines;
      goes = goes_on before first second one.lines two.lines one.goes two.goes;
      stands = subst (λ all. Stands all c) (append_assoc before one.lines two.lines) two.stands;
    }

-- the tests of a line that go by its place and its words
pub record IsFitting (before : List Form) (line : Form) : Type 0 where
  pub place : is_out_of_place before line ≡ false
  pub number : is_bad_number line ≡ false
  pub session : is_bad_session before line ≡ false
  pub known : is_unknown before line ≡ false
  pub limit : is_bad_limit before line ≡ false
  pub nesting : is_bad_nesting before line ≡ false
  pub statement : is_bad_statement line ≡ false

passes : (before : List Form) (line : Form) → IsFitting before line → HasRoom before line → Passes before line
passes before line f r = record {
  place = f.place;
  number = f.number;
  session = f.session;
  known = f.known;
  limit = f.limit;
  nesting = f.nesting;
  long = r.long;
  statement = f.statement;
  much = r.much;
  tables = r.tables;
}

pub leads_line : (text : List ℕ) (line : Form) (from to : State) → Says text line → IsGenerated line → to.phases ≡ from.phases + cond {A = ℕ} (is_phase line) 1 0 → to.size ≡ from.size + weight_of line → to.phases ≤ 64 → to.size ≤ 200000
    → ((before : List Form) → Stands before from → IsFitting before line × Course (before ++ line ∷ []) to.now to.kinds to.begun to.here)
    → Leads text from to
leads_line text line from to says generated phases size few low step = λ before stands.
    let made = step before stands in
    let plain = simple line generated in
    let counts = subst (λ n. Counts (before ++ line ∷ []) to.phases n) (sym size) (subst (λ n. Counts (before ++ line ∷ []) n (from.size + weight_of line)) (sym phases) (counts_more before line from.phases from.size stands.counts plain)) in
    record {
      lines = line ∷ [];
      goes = goes_line before text line says (passes before line made.0 (has_room before line to.phases to.size counts few low));
      stands = record { counts = counts; course = made.1; fixes = fixes_more before line stands.fixes plain.fixes };
    }

-- in a session of the second phase
abbrev pub inside : ℕ → ℕ → List EventKind → ℕ → State
inside size now kinds here = record { phases = 2; size = size; now = now; kinds = kinds; begun = 8; here = here }

pub leads_inside : (text : List ℕ) (line : Form) (size now here : ℕ) (kinds : List EventKind) → Says text line → IsGenerated line → ends_block line ≡ false → 1 ≤ now → size + weight_of line ≤ 200000
    → ((before : List Form) → is_blockless before ≡ false → kinds_open before ≡ kinds → IsFitting before line)
    → Leads text (inside size now kinds here) (inside (size + weight_of line) now (kinds_behind (mark_of_form line) kinds) here)
leads_inside text line size now here kinds says generated e some low fits =
    leads_line text line (inside size now kinds here) (inside (size + weight_of line) now (kinds_behind (mark_of_form line) kinds) here) says generated
    (ap {B = ℕ} (λ b. 2 + cond {A = ℕ} b 1 0) (sym (or_first (is_phase line) (is_session line) e))) refl (omega arith) low
    (λ before stands. (
      fits before (in_block before now kinds 8 here stands.course some) (kinds_now before now kinds 8 here stands.course),
      course_inside before line now kinds 8 here stands.course e (simple line generated).quit,
    ))

-- at the end of a session, of which nothing is open
abbrev pub between : ℕ → ℕ → ℕ → ℕ → State
between phases size session begun = record { phases = phases; size = size; now = session; kinds = []; begun = begun; here = session }

up_to_more : (most next number : ℕ) → next ≡ most + 1 → (is_up_to most number || next == number) ≡ is_up_to next number
up_to_more most next number e = grind (arith, nat_tests, e)

up_to_eight : (next number : ℕ) → 1 ≤ next → next ≤ 8 → (is_up_to 8 number || next == number) ≡ is_up_to 8 number
up_to_eight next number low high = grind (arith, nat_tests, low, high)

connect_session : (most next : ℕ) → next ≡ most + 1 → next ≤ 8 → (not (is_up_to 64 next) || is_up_to most next) ≡ false
connect_session most next e high = grind (arith, nat_tests, e, high)

resume_session : (most next : ℕ) → next ≡ most + 1 → next ≤ 8 → (not (is_up_to 64 next) || (not (is_up_to 8 next) || (is_up_to most next || false))) ≡ false
resume_session most next e high = grind (arith, nat_tests, e, high)

pub leads_connect : (text : List ℕ) (user host : List ℕ) (size most next : ℕ) → Says text (lines.Connect (Some next) user host) → next ≡ most + 1 → next ≤ 8 → size + 300 ≤ 200000
    → Leads text (between 1 size most most) (between 1 (size + 300) next next)
leads_connect text user host size most next says e high low =
    let line = lines.Connect (Some next) user host in
    leads_line text line (between 1 size most most) (between 1 (size + 300) next next) says
    tt refl refl (omega arith) low
    (λ before stands. (
      record {
        place = rw (stands.counts.phase, stands.counts.alone) refl;
        number = refl;
        session = rw (stands.course.blocks next) (connect_session most next e high);
        known = refl;
        limit = refl;
        nesting = refl;
        statement = refl;
      },
      course_block before line most next most most next next stands.course refl refl refl (λ number. refl) (λ number. up_to_more most next number e) (λ number. up_to_more most next number e),
    ))

pub leads_resume : (text : List ℕ) (size most next : ℕ) → Says text (lines.Resume (Some next)) → next ≡ most + 1 → next ≤ 8 → size + 1 ≤ 200000
    → Leads text (between 2 size most 8) (between 2 (size + 1) next 8)
leads_resume text size most next says e high low =
    let line = lines.Resume (Some next) in
    leads_line text line (between 2 size most 8) (between 2 (size + 1) next 8) says
    tt refl refl (omega arith) low
    (λ before stands. (
      record {
        place = rw (stands.counts.phase, stands.counts.alone) refl;
        number = refl;
        session = rw (stands.course.blocks next, stands.course.phase_blocks next, stands.course.quits next) (resume_session most next e high);
        known = refl;
        limit = refl;
        nesting = refl;
        statement = refl;
      },
      course_block before line most next 8 most 8 next stands.course refl refl refl (λ number. refl) (λ number. up_to_eight next number (omega (arith, e)) high) (λ number. up_to_more most next number e),
    ))

pub leads_phase : (text : List ℕ) (phases more size most : ℕ) → Says text lines.Phase → more ≡ phases + 1 → more ≤ 64 → size + 10000 ≤ 200000 → Leads text (between phases size most most) (between more (size + 10000) 0 most)
leads_phase text phases more size most says e few low =
    leads_line text lines.Phase (between phases size most most) (between more (size + 10000) 0 most) says
    tt e refl few low
    (λ before stands. (
      record {
        place = stands.counts.alone;
        number = refl;
        session = refl;
        known = refl;
        limit = refl;
        nesting = refl;
        statement = refl;
      },
      course_phase before most most most stands.course,
    ))
