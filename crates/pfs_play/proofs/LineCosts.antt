-- What lines take.
use Rattle.std.proofs.Common.{ℕ, zero, suc, ◌≡◌, ◌<◌, ◌≤◌, ◌+◌, ◌*◌, List, [], ◌∷◌, ◌++◌, length, take, drop, Some, None, ap, sym, ◌∙◌, subst, arith}
use Rattle.std.specs.List.{position}
use Rattle.std.proofs.lemmas.List.{length-append}
use Rattle.pfs_script.specs.declared.blocks.BlockLine.{BlockLine}
use Rattle.pfs_script.specs.declared.blocks.BlockLine.TheVariants as said
use Rattle.pfs_script.specs.Marks.{copies, is_done, repeats_of, written_out}
use Rattle.pfs_exec.specs.Requests.{request_of}
use Rattle.pfs_exec.specs.declared.requests.Request.{Request}
use Rattle.pfs_exec.specs.declared.requests.Request.TheVariants as requests
use Rattle.pfs_play.specs.Errands.{actions_of, actions_on, cost_of, cost_on, errand_on, sql_errand}
use Rattle.pfs_play.specs.Repeats.{repeated}
use Rattle.pfs_play.proofs.WrittenRepeats.{place, found, not_found, written_round, written_open, written_begin, begins, cost_then, cost_copies, length_copies}

sql_cost : (what : Request) → cost_of (sql_errand what) ≤ 14405 + 5791 * actions_of (sql_errand what)
sql_cost (requests.Refused error) = omega arith
sql_cost (requests.Query select) = omega arith
sql_cost (requests.Show select) = omega arith
sql_cost (requests.Truncate what) = omega arith
sql_cost (requests.Update update) = omega arith
sql_cost (requests.Insert insert) = omega arith
sql_cost (requests.Delete delete) = omega arith

one_cost : (line : BlockLine) → cost_of (errand_on line) ≤ 14405 + 5791 * actions_of (errand_on line)
one_cost (said.Wait class) = omega arith
one_cost (said.TableWait class table) = omega arith
one_cost (said.Statement class digest) = omega arith
one_cost (said.Transaction access) = omega arith
one_cost (said.Stage class) = omega arith
one_cost said.StageEnd = omega arith
one_cost (said.Spend time) = omega arith
one_cost (said.Sql text) = sql_cost (request_of text)
one_cost said.Quit = omega arith
one_cost said.End = omega arith
one_cost (said.EndStatement numbers) = omega arith
one_cost (said.Repeat times) = omega arith
one_cost said.Done = omega arith

sql_once : (what : Request) → actions_of (sql_errand what) ≤ 1
sql_once (requests.Refused error) = omega arith
sql_once (requests.Query select) = omega arith
sql_once (requests.Show select) = omega arith
sql_once (requests.Truncate what) = omega arith
sql_once (requests.Update update) = omega arith
sql_once (requests.Insert insert) = omega arith
sql_once (requests.Delete delete) = omega arith

one_once : (line : BlockLine) → actions_of (errand_on line) ≤ 1
one_once (said.Wait class) = omega arith
one_once (said.TableWait class table) = omega arith
one_once (said.Statement class digest) = omega arith
one_once (said.Transaction access) = omega arith
one_once (said.Stage class) = omega arith
one_once said.StageEnd = omega arith
one_once (said.Spend time) = omega arith
one_once (said.Sql text) = sql_once (request_of text)
one_once said.Quit = omega arith
one_once said.End = omega arith
one_once (said.EndStatement numbers) = omega arith
one_once (said.Repeat times) = omega arith
one_once said.Done = omega arith

-- no line is more than one action
pub once_each : (lines : List BlockLine) → actions_on lines ≤ length lines
once_each [] = omega arith
once_each (line ∷ lines) = omega (arith, one_once line, once_each lines)

pub costs_few : (lines : List BlockLine) → cost_on lines ≤ 14405 * length lines + 5791 * actions_on lines
costs_few [] = omega arith
costs_few (line ∷ lines) = omega (arith, one_cost line, costs_few lines)

-- a repeat with its end in these lines
pub record IsRoundCost (times end : ℕ) (lines : List BlockLine) : Type 0 where
  pub inside : end < length lines
  pub cost : cost_on (repeated times lines) ≡ times * cost_on (take end lines) + cost_on (written_out (drop (end + 1) lines))
  pub lengths : length (repeated times lines) ≡ times * length (take end lines) + length (written_out (drop (end + 1) lines))

pub round_cost : (times end : ℕ) (lines : List BlockLine) → position is_done lines ≡ Some end → IsRoundCost times end lines
round_cost times end lines is =
    let f = found lines end is in
    let body : List BlockLine = take (place lines) lines in
    let rest : List BlockLine = written_out (drop (place lines + 1) lines) in
    let w : repeated times lines ≡ copies times body ++ rest = written_round times lines f.0 in
    subst (λ n. IsRoundCost times n lines) (sym f.1) (record {
      inside = f.0;
      cost = ap cost_on w ∙ (cost_then (copies times body) rest ∙ ap (λ n. n + cost_on rest) (cost_copies times body));
      lengths = ap length w ∙ (length-append (copies times body) rest ∙ ap (λ n. n + length rest) (length_copies times body));
    })

-- one that isn't done
pub open_cost : (times : ℕ) (lines : List BlockLine) → position is_done lines ≡ None → repeated times lines ≡ lines
open_cost times lines is = written_open times lines (not_found lines is)

-- the first line, where it begins a repeat, and where it doesn't
pub begin_written : (line : BlockLine) (others : List BlockLine) (times : ℕ) → repeats_of line ≡ Some times → written_out (line ∷ others) ≡ repeated times others
begin_written line others times is = ap (λ (l : BlockLine). written_out (l ∷ others)) (begins line times is) ∙ written_begin times others

pub rounds_fit : (times entries count : ℕ) → entries ≤ 20196 * count → times * entries ≤ 20196 * (times * count)
rounds_fit zero entries count few = omega arith
rounds_fit (suc times) entries count few = let less = rounds_fit times entries count few in omega (arith, few, less)

pub few_each : (times count : ℕ) → 0 < times → times * count ≤ 200000 → count ≤ 200000
few_each zero count some few = absurd (omega (arith, some))
few_each (suc times) count some few = omega (arith, few)

-- the lines behind the first one
pub behind_first : (lines : List BlockLine) (first : BlockLine) (others : List BlockLine) (count : ℕ) → lines ≡ first ∷ others → drop (1 + count) lines ≡ drop count others
behind_first lines first others count are =
    let more : 1 + count ≡ suc count = omega arith in
    ap (λ (l : List BlockLine). drop (1 + count) l) are ∙ ap (λ n. drop n (first ∷ others)) more
