-- How many lines the reader has taken.
use Rattle.std.proofs.Common.{◌≡◌, ◌≤◌, ◌+◌, List, [], ◌∷◌, ◌++◌, length, refl, arith}
use Rattle.pfs_script.specs.declared.forms.Form.{Form}
use Rattle.pfs_script.specs.declared.reading.Reader.{Reader}
use Rattle.pfs_script.specs.ReaderAnswers.{IsBehind}
use Rattle.pfs_script.proofs.WrittenLengths.{length_counted}

pub push_count : (before : List Form) (line : Form) → length (before ++ line ∷ []) ≡ length before + 1
push_count [] line = refl
push_count (first ∷ before) line = omega (arith, push_count before line)

pub few_count : (reader : Reader) (before : List Form) → IsBehind reader before → reader.count ≤ 200000
few_count reader before b = omega (arith, b.count, length_counted before, b.place.totals.lines.total, b.place.totals.few_lines)
