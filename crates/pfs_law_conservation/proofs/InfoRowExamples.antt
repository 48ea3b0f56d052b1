-- The worked run, by its limits alone.
use Rattle.std.proofs.Common.{refl, ap}
use Rattle.pfs_admin.specs.Fold.{state_from}
use Rattle.pfs_containers.specs.Administration.{Containers}
use Rattle.pfs_containers.specs.ContainerState.{opening, with_connect, with_quit}
use Rattle.pfs_model.specs.EntryPlaces.{places_behind}
use Rattle.pfs_rows.specs.declared.limits.Limits.{Limits}
use Rattle.pfs_script.specs.Marks.{written_from}
use Rattle.pfs_law_conservation.specs.InfoRowWords.{thread_said, account_said, user_said, host_said}
use Rattle.pfs_law_conservation.specs.InfoRowExamples.{WorkedInfos}

abbrev first : Limits → Containers
first limits = (with_connect (with_connect (opening limits) 1 0 1) 2 0 1).now

abbrev second : Limits → Containers
second limits = (with_quit (with_connect (with_connect (opening limits) 1 0 1) 2 0 1) 1).now

abbrev third : Limits → Containers
third limits = (with_connect (with_quit (with_connect (with_connect (opening limits) 1 0 1) 2 0 1) 1) 3 0 1).now

pub worked : WorkedInfos
unfolding places_behind written_from state_from
worked setting is = record {
  thread_before = ap (λ limits. thread_said (opening limits).now 0) is;
  thread = ap (λ limits. thread_said (first limits) 0) is;
  account = ap (λ limits. account_said (first limits) 0) is;
  user = ap (λ limits. user_said (first limits) 0) is;
  host = ap (λ limits. host_said (first limits) 0) is;
  thread_left = ap (λ limits. thread_said (second limits) 0) is;
  user_left = ap (λ limits. user_said (second limits) 0) is;
  host_left = ap (λ limits. host_said (second limits) 0) is;
  thread_again = ap (λ limits. thread_said (third limits) 0) is;
  user_again = ap (λ limits. user_said (third limits) 0) is;
  row_before = refl;
  row = refl;
  account_row = refl;
  row_left = refl;
  user_row_left = refl;
  row_again = refl;
}
