use Rattle.std.proofs.Common.{◌≡◌, ℕ, ◌<◌, ◌^◌, List, ap, subst, ◌∙◌, rules}
use Rattle.std.specs.Prelude.{IfOk}
use Rattle.disk_files.specs.Moments.{now}
use Rattle.chunk_journal.specs.Places.{places_at}
use Rattle.chunk_journal.specs.Journal.{journal_bytes}
use Rattle.journal_files.specs.JournalLogs.{records_of}
use Rattle.journal_files.specs.Views.{OpenJournal}
use Rattle.journal_files.proofs.Told.{reads_told, few_told, within_told, lie_told}
use Rattle.journal_files.proofs.journal.Journal.body.Goals as goal

pub returns-clause-bytes : goal.returns-clause-bytes
returns-clause-bytes g c = λ honest t keeps.
    let journal = c.args.self.now in
    let disk = now (g.D.Dir.history c.args.dir.now) in
    let named = ap (λ (j : OpenJournal). g.D.Dir.opened c.args.dir.now j.file) c.self.view_is ∙ c.requires.open in
    let inside : c.self.inside.len < 2 ^ 64 = search rules in
    let small : journal.len < 2 ^ 64 = subst (λ (n : ℕ). n < 2 ^ 64) (ap (λ (j : OpenJournal). j.len) c.self.view_is) inside in
    let is = c.at.ensures ∙ ap (λ (j : OpenJournal). places_at j.places c.args.serial) c.self.view_is in
    subst (λ (l : List ℕ). IfOk c.read_extents.result (λ bytes. bytes.items ≡ l)) (lie_told journal disk t keeps c.args.serial c.at.result.now is)
    (c.read_extents.ensures.bytes honest _ (journal_bytes (records_of t)) named (reads_told journal disk t keeps) (few_told journal disk t keeps small) (within_told journal disk t keeps c.args.serial c.at.result.now is))

pub returns-clause-whole : goal.returns-clause-whole
returns-clause-whole g c = λ honest t keeps.
    let journal = c.args.self.now in
    let disk = now (g.D.Dir.history c.args.dir.now) in
    let named = ap (λ (j : OpenJournal). g.D.Dir.opened c.args.dir.now j.file) c.self.view_is ∙ c.requires.open in
    let inside : c.self.inside.len < 2 ^ 64 = search rules in
    let small : journal.len < 2 ^ 64 = subst (λ (n : ℕ). n < 2 ^ 64) (ap (λ (j : OpenJournal). j.len) c.self.view_is) inside in
    let is = c.at.ensures ∙ ap (λ (j : OpenJournal). places_at j.places c.args.serial) c.self.view_is in
    c.read_extents.ensures.whole honest _ (journal_bytes (records_of t)) named (reads_told journal disk t keeps) (few_told journal disk t keeps small) (within_told journal disk t keeps c.args.serial c.at.result.now is)
