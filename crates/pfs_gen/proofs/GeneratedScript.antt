-- What is generated is a script.
use Rattle.std.proofs.Common.{ℕ, zero, suc, ◌≡◌, ◌+◌, ◌-◌, ◌*◌, ◌≤◌, ◌<◌, ◌%◌, false, not, List, [], ◌∷◌, ◌++◌, Some, refl, ap, sym, ◌∙◌, subst, append-nil, arith}
use Rattle.std.specs.Prelude.{codes}
use Rattle.std.specs.List.{flat_map, range_with_len}
use Rattle.pfs_classes.specs.declared.setting.Setting.{Setting}
use Rattle.pfs_event.specs.declared.kind.EventKind.{EventKind}
use Rattle.pfs_event.specs.declared.kind.EventKind.TheVariants as kinds
use Rattle.pfs_script.specs.declared.forms.Form.{Form}
use Rattle.pfs_script.specs.declared.forms.Form.TheVariants as lines
use Rattle.pfs_script.specs.Marks.{Opens, Ends}
use Rattle.pfs_script.specs.Brackets.{may_stand}
use Rattle.pfs_script.specs.declared.blocks.Phase.{Phase}
use Rattle.pfs_script.specs.LineCounts.{is_in_repeat}
use Rattle.pfs_script.specs.Blocks.{sense_of, phases_of}
use Rattle.pfs_script.specs.Scripts.{parts_of, lines_from, IsText, IsScript}
use Rattle.pfs_script.proofs.PassSteps.{says_all}
use Rattle.pfs_script.proofs.Exactness.{found_text, script_made}
use Rattle.pfs_gen.specs.Draws.{draw}
use Rattle.pfs_gen.specs.GeneratedScript.{statement_line, wait_line, spend_line, unit_text, unit_at, units_text, session_line, session_text, connect_line, script_text}
use Rattle.pfs_gen.proofs.TextPasses.{Goes}
use Rattle.pfs_gen.proofs.GeneratedHeads.{fixes_none, setting_of}
use Rattle.pfs_gen.proofs.GeneratedCounts.{counts_none}
use Rattle.pfs_gen.proofs.GeneratedSessions.{course_none}
use Rattle.pfs_gen.proofs.GeneratedLines.{says_statement, says_wait, says_spend, says_end, says_phase, says_connect, says_session}
use Rattle.pfs_gen.proofs.LineLeads.{Reaches, Leads, leads_none, leads_on, inside, between, leads_inside, leads_connect, leads_resume, leads_phase}

statement_leads : (a size now here : ℕ) → 1 ≤ now → size + 8 ≤ 200000 → Leads (statement_line a) (inside size now [] here) (inside (size + 8) now (kinds.Statement ∷ []) here)
statement_leads a size now here some low =
    let s = says_statement a in
    leads_inside (statement_line a) (lines.Statement s.class s.statement) size now here [] s.says
    tt refl some low
    (λ before block now_open. record {
      place = block;
      number = refl;
      session = refl;
      known = s.known before;
      limit = refl;
      nesting = ap (λ now_open. not (may_stand now_open (Opens kinds.Statement))) now_open;
      statement = s.taken;
    })

wait_leads : (c size now here : ℕ) → 1 ≤ now → size + 8 ≤ 200000 → Leads (wait_line c) (inside size now (kinds.Statement ∷ []) here) (inside (size + 8) now (kinds.Wait ∷ kinds.Statement ∷ []) here)
wait_leads c size now here some low =
    let s = says_wait c in
    leads_inside (wait_line c) (lines.Wait s.class) size now here (kinds.Statement ∷ []) s.says
    tt refl some low
    (λ before block now_open. record {
      place = block;
      number = refl;
      session = refl;
      known = s.known before;
      limit = refl;
      nesting = ap (λ now_open. not (may_stand now_open (Opens kinds.Wait))) now_open;
      statement = refl;
    })

spend_leads : (time size now here : ℕ) (now_open : List EventKind) → time < 1000 → 1 ≤ now → size + 1 ≤ 200000 → Leads (spend_line time) (inside size now now_open here) (inside (size + 1) now now_open here)
spend_leads time size now here now_open short some low =
    leads_inside (spend_line time) (lines.Spend (Some time)) size now here now_open (says_spend time (omega arith))
    tt refl some low
    (λ before block _. record {
      place = block;
      number = refl;
      session = refl;
      known = refl;
      limit = refl;
      nesting = refl;
      statement = refl;
    })

end_wait : (size now here : ℕ) → 1 ≤ now → size + 8 ≤ 200000 → Leads (codes "end\n") (inside size now (kinds.Wait ∷ kinds.Statement ∷ []) here) (inside (size + 8) now (kinds.Statement ∷ []) here)
end_wait size now here some low =
    leads_inside (codes "end\n") lines.End size now here (kinds.Wait ∷ kinds.Statement ∷ []) says_end
    tt refl some low
    (λ before block now_open. record {
      place = block;
      number = refl;
      session = refl;
      known = refl;
      limit = refl;
      nesting = ap (λ now_open. not (may_stand now_open Ends)) now_open;
      statement = refl;
    })

end_statement : (size now here : ℕ) → 1 ≤ now → size + 8 ≤ 200000 → Leads (codes "end\n") (inside size now (kinds.Statement ∷ []) here) (inside (size + 8) now [] here)
end_statement size now here some low =
    leads_inside (codes "end\n") lines.End size now here (kinds.Statement ∷ []) says_end
    tt refl some low
    (λ before block now_open. record {
      place = block;
      number = refl;
      session = refl;
      known = refl;
      limit = refl;
      nesting = ap (λ now_open. not (may_stand now_open Ends)) now_open;
      statement = refl;
    })

module _ (a b c d size now here : ℕ) (some : 1 ≤ now) (low : size + 34 ≤ 200000) (before_it : b < 1000) (in_it : d < 1000) where
  unit_leads : Leads (unit_text a b c d) (inside size now [] here) (inside (size + 34) now [] here)
  unfolding unit_text
  unit_leads =
      let first = inside size now [] here in
      let second = inside (size + 8) now (kinds.Statement ∷ []) here in
      let third = inside (size + 8 + 1) now (kinds.Statement ∷ []) here in
      let fourth = inside (size + 8 + 1 + 8) now (kinds.Wait ∷ kinds.Statement ∷ []) here in
      let fifth = inside (size + 8 + 1 + 8 + 1) now (kinds.Wait ∷ kinds.Statement ∷ []) here in
      let sixth = inside (size + 8 + 1 + 8 + 1 + 8) now (kinds.Statement ∷ []) here in
      let last = inside (size + 8 + 1 + 8 + 1 + 8 + 8) now [] here in
      let begun = leads_on (statement_line a) (spend_line b) first second third (statement_leads a size now here some (omega arith)) (spend_leads b (size + 8) now here (kinds.Statement ∷ []) before_it some (omega arith)) in
      let waited = leads_on (statement_line a ++ spend_line b) (wait_line c) first third fourth begun (wait_leads c (size + 8 + 1) now here some (omega arith)) in
      let spent = leads_on (statement_line a ++ spend_line b ++ wait_line c) (spend_line d) first fourth fifth waited (spend_leads d (size + 8 + 1 + 8) now here (kinds.Wait ∷ kinds.Statement ∷ []) in_it some (omega arith)) in
      let ends = leads_on (codes "end\n") (codes "end\n") fifth sixth last (end_wait (size + 8 + 1 + 8 + 1) now here some (omega arith)) (end_statement (size + 8 + 1 + 8 + 1 + 8) now here some (omega arith)) in
      let sum : size + 8 + 1 + 8 + 1 + 8 + 8 ≡ size + 34 = omega arith in
      let text = statement_line a ++ spend_line b ++ wait_line c ++ spend_line d ++ codes "end\nend\n" in
      subst (λ n. Leads text first (inside n now [] here)) sum (leads_on (statement_line a ++ spend_line b ++ wait_line c ++ spend_line d) (codes "end\nend\n") first fifth last spent ends)

-- so many units, which are drawn from the number
units_lead : (number first count size now here : ℕ) → 1 ≤ now → size + 34 * count ≤ 200000 → Leads (units_text number first count) (inside size now [] here) (inside (size + 34 * count) now [] here)
unfolding units_text unit_at
units_lead number first zero size now here some low =
    let e : size ≡ size + 34 * zero = omega arith in
    subst (λ n. Leads [] (inside size now [] here) (inside n now [] here)) e (leads_none (inside size now [] here))
units_lead number first (suc count) size now here some low =
    let e : size + 34 + 34 * count ≡ size + 34 * suc count = omega arith in
    subst (λ n. Leads (units_text number first (suc count)) (inside size now [] here) (inside n now [] here)) e
    (leads_on (unit_at number first) (units_text number (first + 1) count) (inside size now [] here) (inside (size + 34) now [] here) (inside (size + 34 + 34 * count) now [] here)
    (unit_leads (draw number (4 * first) % 4) (draw number (4 * first + 1) % 1000) (draw number (4 * first + 2) % 3) (draw number (4 * first + 3) % 1000) size now here some (omega arith) (omega arith) (omega arith))
    (units_lead number (first + 1) count (size + 34) now here some (omega arith)))

session_leads : (number most next size : ℕ) → next ≡ most + 1 → next ≤ 8 → size + 17001 ≤ 200000 → Leads (session_text number next) (between 2 size most 8) (between 2 (size + 17001) next 8)
unfolding session_text
session_leads number most next size e high low =
    let sum : size + 1 + 34 * 500 ≡ size + 17001 = omega arith in
    subst (λ n. Leads (session_text number next) (between 2 size most 8) (between 2 n next 8)) sum
    (leads_on (session_line next) (units_text number (500 * (next - 1)) 500) (between 2 size most 8) (between 2 (size + 1) next 8) (between 2 (size + 1 + 34 * 500) next 8)
    (leads_resume (session_line next) size most next (says_session next (omega arith) high) e high (omega arith))
    (units_lead number (500 * (next - 1)) 500 (size + 1) next next (omega arith) (omega arith)))

sessions_lead : (number count most size : ℕ) → most + count ≡ 8 → size + 17001 * count ≤ 200000 → Leads (flat_map (session_text number) (range_with_len (most + 1) count)) (between 2 size most 8) (between 2 (size + 17001 * count) 8 8)
sessions_lead number zero most size e low =
    let sum : size ≡ size + 17001 * zero = omega arith in
    let last : most ≡ 8 = omega arith in
    subst (λ n. Leads [] (between 2 size most 8) (between 2 n 8 8)) sum (subst (λ n. Leads [] (between 2 size most 8) (between 2 size n 8)) last (leads_none (between 2 size most 8)))
sessions_lead number (suc count) most size e low =
    let sum : size + 17001 + 17001 * count ≡ size + 17001 * suc count = omega arith in
    subst (λ n. Leads (flat_map (session_text number) (range_with_len (most + 1) (suc count))) (between 2 size most 8) (between 2 n 8 8)) sum
    (leads_on (session_text number (most + 1)) (flat_map (session_text number) (range_with_len (most + 1 + 1) count)) (between 2 size most 8) (between 2 (size + 17001) (most + 1) 8) (between 2 (size + 17001 + 17001 * count) 8 8)
    (session_leads number most (most + 1) size refl (omega arith) (omega arith))
    (sessions_lead number count (most + 1) (size + 17001) (omega arith) (omega arith)))

connects_lead : (count most size : ℕ) → most + count ≡ 8 → size + 300 * count ≤ 200000 → Leads (flat_map connect_line (range_with_len (most + 1) count)) (between 1 size most most) (between 1 (size + 300 * count) 8 8)
connects_lead zero most size e low =
    let sum : size ≡ size + 300 * zero = omega arith in
    let last : most ≡ 8 = omega arith in
    subst (λ n. Leads [] (between 1 size most most) (between 1 n 8 8)) sum (subst (λ n. Leads [] (between 1 size most most) (between 1 size n n)) last (leads_none (between 1 size most most)))
connects_lead (suc count) most size e low =
    let sum : size + 300 + 300 * count ≡ size + 300 * suc count = omega arith in
    let says = says_connect (most + 1) (omega arith) (omega arith) in
    subst (λ n. Leads (flat_map connect_line (range_with_len (most + 1) (suc count))) (between 1 size most most) (between 1 n 8 8)) sum
    (leads_on (connect_line (most + 1)) (flat_map connect_line (range_with_len (most + 1 + 1) count)) (between 1 size most most) (between 1 (size + 300) (most + 1) (most + 1)) (between 1 (size + 300 + 300 * count) 8 8)
    (leads_connect (connect_line (most + 1)) says.user says.host size most (most + 1) says.says refl (omega arith) (omega arith))
    (connects_lead count (most + 1) (size + 300) (omega arith) (omega arith)))

script_leads : (number : ℕ) → Leads (script_text number) (between 0 0 0 0) (between 2 158408 8 8)
unfolding script_text
script_leads number =
    let connects = flat_map connect_line (range_with_len 1 8) in
    let sessions = flat_map (session_text number) (range_with_len 1 8) in
    let begun = leads_on (codes "phase\n") connects (between 0 0 0 0) (between 1 10000 0 0) (between 1 12400 8 8) (leads_phase (codes "phase\n") 0 1 0 0 says_phase refl (omega arith) (omega arith)) (connects_lead 8 0 10000 refl (omega arith)) in
    let again = leads_on (codes "phase\n" ++ connects) (codes "phase\n") (between 0 0 0 0) (between 1 12400 8 8) (between 2 22400 0 8) begun (leads_phase (codes "phase\n") 1 2 12400 8 says_phase refl (omega arith) (omega arith)) in
    leads_on (codes "phase\n" ++ connects ++ codes "phase\n") sessions (between 0 0 0 0) (between 2 22400 0 8) (between 2 158408 8 8) again (sessions_lead number 8 0 22400 refl (omega arith))

read_whole : (number : ℕ) → Reaches [] (script_text number) (between 2 158408 8 8)
read_whole number = script_leads number [] (record { counts = counts_none; course = course_none; fixes = fixes_none })

text_read : (text : List ℕ) (lines : List Form) → Goes [] text lines → is_in_repeat lines ≡ false → IsText text lines
text_read text lines goes alone =
    found_text text lines
    (ap (λ whole. lines_from [] (parts_of whole)) (sym (append-nil text)) ∙ (goes [] ∙ says_all lines [] refl alone))

-- what is generated is a script
pub is_script : (number : ℕ) → (setting : Setting) × (phases : List Phase) × IsScript (script_text number) setting phases
is_script number =
    let all = read_whole number in
    let fixed = setting_of all.lines all.stands.fixes all.stands.counts.tables in (
      fixed.0,
      phases_of (sense_of all.lines) all.lines,
      script_made (script_text number) all.lines fixed.0 (phases_of (sense_of all.lines) all.lines) (text_read (script_text number) all.lines all.goes all.stands.counts.alone) fixed.1 refl,
    )
