use Rattle.history.proofs.make.Goals as goal

pub returns-in-Write-clause-history : goal.returns-in-Write-clause-history
returns-in-Write-clause-history g c = rw c.in-Write.is c.write.ensures.call.history

pub returns-in-Mend-clause-history : goal.returns-in-Mend-clause-history
returns-in-Mend-clause-history g c = rw c.in-Mend.is c.mend.ensures.call.history

pub returns-in-Sweep-clause-history : goal.returns-in-Sweep-clause-history
returns-in-Sweep-clause-history g c = rw c.in-Sweep.is c.sweep.ensures.call.history

pub returns-in-Knock-clause-history : goal.returns-in-Knock-clause-history
returns-in-Knock-clause-history g c = rw c.in-Knock.is c.knock.ensures.call.history
