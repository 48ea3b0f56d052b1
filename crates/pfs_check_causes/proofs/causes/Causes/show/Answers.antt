use Rattle.pfs_check_causes.proofs.causes.Causes.show.Goals as goal

pub returns-in-Held : goal.returns-in-Held
returns-in-Held c = λ all earlier place known causes rises at. rw c.in-Held.is (c.is_caused.ensures all earlier place known causes.own at)

pub returns-in-Busy : goal.returns-in-Busy
returns-in-Busy c = λ all earlier place known causes rises at. rw c.in-Busy.is (c.is_caused-in-Busy.ensures all earlier place known causes.own at)

pub returns-in-Late : goal.returns-in-Late
returns-in-Late c = λ all earlier place known causes rises at. rw c.in-Late.is (c.is_late.ensures all earlier place known causes.puts rises at)

pub returns-in-Vacant : goal.returns-in-Vacant
returns-in-Vacant c = λ all earlier place known causes rises at. rw c.in-Vacant.is (c.was_free.ensures all earlier place known causes.free at)
