-- What the lines of digests make of a row is what stands there: nothing is given to it.
use Rattle.std.proofs.Common.{◌≡◌, refl, ℕ, ◌<◌, ◌≤◌, true, List, arith}
use Rattle.pfs_conservation.specs.RowChains.{changed, content}
use Rattle.pfs_conservation.specs.PrintedChanges.{Kind, Adds, Takes, Gives, Tagged, as_change, chain_of}
use Rattle.pfs_conservation.specs.Prints.{is_move}
use Rattle.pfs_model.specs.ActionAsks.{asked_of}
use Rattle.pfs_model.specs.Chains.{Each}
use Rattle.pfs_model.specs.EntryPlaces.{Placed}
use Rattle.pfs_model.specs.SummaryCounts.{is_digest_row}
use Rattle.pfs_runs.specs.Labels.{asked_at}
use Rattle.pfs_stat.specs.Stat.{WordsAgree, stat_of_words}
use Rattle.pfs_stat.specs.declared.Stat.{Stat}
use Rattle.pfs_law_conservation.specs.RunDigests.{digest_lines_to, clears_to, digest_found_to, DigestContentLaw}
use Rattle.pfs_law_conservation.specs.Premises.{AreKept}
use Rattle.pfs_law_conservation.specs.RunTerms.{Run, given_in, entries_to, sums_to, stands_to}
use Rattle.pfs_law_conservation.proofs.LineContents.{IsBody, IsBased}
use Rattle.pfs_law_conservation.proofs.ChosenContents as contenting
use Rattle.pfs_law_conservation.proofs.DigestLines.{IsClearing, low, clearing_lines}
use Rattle.pfs_law_conservation.proofs.DigestMoves.{alike_rows}
use Rattle.pfs_law_conservation.proofs.DigestRanges.{row_above, row_range}
use Rattle.pfs_law_conservation.proofs.GiftLevels.{IsWay, ways_asked}
use Rattle.pfs_law_conservation.proofs.ChosenLines.{each_map, each_both}
use Rattle.pfs_law_conservation.proofs.RowContents.{IsMade}

module _ (words : WordsAgree) (run : Run) (phase : ℕ) (kept : AreKept run) where
  abbrev so_far : List Placed
  so_far = entries_to run phase

  abbrev lines : List Tagged
  lines = digest_lines_to run phase

  abbrev found : ℕ → ℕ → Stat
  found = digest_found_to run phase

  abbrev stands : ℕ → ℕ → Stat
  stands row version = stat_of_words (run.content row version)

  range : (row : ℕ) → is_digest_row row ≡ true → (129 ≤ row) × (row < 8450)
  range row t = let r : (8385 ≤ row) × (row < 8450) = row_range row t in let l : 8385 ≤ row = r.0 in (omega (arith, l), r.1)

  asked : (action : ℕ) → Each (IsWay is_digest_row) (asked_of (run.counted action) (asked_at run.setting run.change run.labels action))
  asked action = ways_asked is_digest_row run.setting run.change run.labels action (alike_rows run.setting run.change run.labels action) (run.counted action)

  abbrev Based : Tagged → Type 0
  Based line = IsBased words (given_in run) run.content run.counted is_digest_row so_far line

  based : Each (λ (line : Tagged). (is_digest_row line.row ≡ true) × Based line) lines
  based = contenting.based words is_digest_row row_above low range run phase kept asked

  abbrev Moves : Tagged → Type 0
  Moves line = is_move line.kind ≡ true → IsClearing (clears_to run phase) (as_change line.action line.kind)

  made : (line : Tagged) → Based line → Moves line → IsMade (sums_to run phase) stands found line
  made line (before, v, b) m = (before, v, by line.kind b m) where
    by : (what : Kind) → IsBody words (given_in run) run.content run.counted is_digest_row so_far line.action line.row line.version before what
        → (is_move what ≡ true → IsClearing (clears_to run phase) (as_change line.action what))
        → stands line.row line.version ≡ changed (sums_to run phase) found (stands line.row before) (as_change line.action what)
    by (Adds events) b m = b
    by Takes b m = b.0
    by (Gives from) b m = absurd (m refl)

  pub contented : (row : ℕ) → is_digest_row row ≡ true → content (sums_to run phase) (digest_found_to run phase) (chain_of (digest_lines_to run phase) row) ≡ stands_to run phase row
  contented row t =
      contenting.contents_are words is_digest_row row_above low range run phase kept asked found row t
      (each_map (λ (line : Tagged). ((is_digest_row line.row ≡ true) × Based line) × Moves line) (λ (line : Tagged). line.row ≡ row → IsMade (sums_to run phase) stands found line) lines (λ line h e. made line h.0.1 h.1)
      (each_both (λ (line : Tagged). (is_digest_row line.row ≡ true) × Based line) Moves lines based (clearing_lines run phase kept)))

pub digest_content_law : WordsAgree → DigestContentLaw
digest_content_law words run phase kept row t = contented words run phase kept row t
