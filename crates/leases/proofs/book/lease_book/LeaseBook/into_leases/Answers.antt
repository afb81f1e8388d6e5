use Rattle.leases.proofs.book.lease_book.LeaseBook.into_leases.Goals as goal

pub returns : goal.returns
returns c = λ h ts held. held.list
