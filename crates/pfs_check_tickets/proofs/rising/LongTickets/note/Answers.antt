use Rattle.pfs_check_tickets.proofs.rising.LongTickets.note.Goals as goal

pub returns : goal.returns
returns c = λ earlier place entry known. record {
  puts = c.in_ok-note_put.ensures earlier place entry known.puts;
  releases = c.in_ok-note_release.ensures earlier place entry known.releases;
}
