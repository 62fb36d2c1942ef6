use Rattle.chunk_journal.proofs.writing.put_record.Goals as goal

pub returns-in-Seal-clause-ok : goal.returns-in-Seal-clause-ok
returns-in-Seal-clause-ok g c = rw c.in-Seal.is c.put_numbered.ensures.ok

pub returns-in-Seal-clause-full : goal.returns-in-Seal-clause-full
returns-in-Seal-clause-full g c = rw c.in-Seal.is c.put_numbered.ensures.full

pub returns-in-Seal-clause-means : goal.returns-in-Seal-clause-means
returns-in-Seal-clause-means g c = rw c.in-Seal.is (record { fields = c.put_numbered.ensures.fits; short = rw c.in-Seal.is at c.requires.short })

pub returns-in-Queue-clause-ok : goal.returns-in-Queue-clause-ok
returns-in-Queue-clause-ok g c = rw c.in-Queue.is c.put_numbered-in-Queue.ensures.ok

pub returns-in-Queue-clause-full : goal.returns-in-Queue-clause-full
returns-in-Queue-clause-full g c = rw c.in-Queue.is c.put_numbered-in-Queue.ensures.full

pub returns-in-Queue-clause-means : goal.returns-in-Queue-clause-means
returns-in-Queue-clause-means g c = rw c.in-Queue.is (record { fields = c.put_numbered-in-Queue.ensures.fits; short = rw c.in-Queue.is at c.requires.short })

pub returns-in-Purge-clause-ok : goal.returns-in-Purge-clause-ok
returns-in-Purge-clause-ok g c = rw c.in-Purge.is c.put_numbered-in-Purge.ensures.ok

pub returns-in-Purge-clause-full : goal.returns-in-Purge-clause-full
returns-in-Purge-clause-full g c = rw c.in-Purge.is c.put_numbered-in-Purge.ensures.full

pub returns-in-Purge-clause-means : goal.returns-in-Purge-clause-means
returns-in-Purge-clause-means g c = rw c.in-Purge.is (record { fields = c.put_numbered-in-Purge.ensures.fits; short = rw c.in-Purge.is at c.requires.short })

pub put_append-requires-clause-tag : goal.put_append-requires-clause-tag
put_append-requires-clause-tag g c = rw c.in-Append.is at c.requires.tag

pub put_append-requires-clause-short : goal.put_append-requires-clause-short
put_append-requires-clause-short g c = rw c.in-Append.is at c.requires.short

pub returns-in-Append-clause-ok : goal.returns-in-Append-clause-ok
returns-in-Append-clause-ok g c = rw c.in-Append.is c.put_append.ensures.ok

pub returns-in-Append-clause-full : goal.returns-in-Append-clause-full
returns-in-Append-clause-full g c = rw c.in-Append.is c.put_append.ensures.full

pub returns-in-Append-clause-means : goal.returns-in-Append-clause-means
returns-in-Append-clause-means g c = rw c.in-Append.is c.put_append.ensures.means
