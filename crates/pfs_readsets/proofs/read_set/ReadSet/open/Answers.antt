use Rattle.std.proofs.Common.{◌++◌, [], length, map, refl, ap, sym, ◌∙◌, arith}
use Rattle.pfs_readsets.specs.TablePlaces.{scope_of}
use Rattle.pfs_readsets.specs.ReadSets.{passing, row_test, word_test}
use Rattle.pfs_readsets.specs.declared.target.Target.TheVariants.{Row, Word}
use Rattle.pfs_readsets.proofs.TestedNumbers.{passing_none}
use Rattle.pfs_readsets.proofs.read_set.ReadSet.open.Goals as goal

pub returns : goal.returns
returns c = record {
  table = refl;
  cells = c.cells_of.ensures;
  classes = c.count.ensures.number;
  digests = ap length c.as_slice.ensures;
  whole = λ row few. c.none_whole.ensures.none row;
  flags = c.none_whole.ensures.long;
  row = omega arith;
  word = omega arith;
  order = λ some. absurd (omega arith);
  made = sym (ap (λ l. map Row l ++ map Word (passing (word_test (scope_of c.args.setting.now) c.args.table []) 0 0)) (passing_none (row_test (scope_of c.args.setting.now) c.args.table []) 0)
      ∙ ap (map Word) (passing_none (word_test (scope_of c.args.setting.now) c.args.table []) 0));
}
