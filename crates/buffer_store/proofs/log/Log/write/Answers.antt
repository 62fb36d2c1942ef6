use Rattle.std.proofs.Common.{Bool, true, false, Ok, refl, sym, ap, subst, ◌∙◌, rules, Err}
use Rattle.chunk_journal.specs.Spelled.{record_of}
use Rattle.journal_files.specs.Views.{OpenJournal}
use Rattle.journal_files.proofs.Strays.{no_gap_of}
use Rattle.buffer_store.specs.Logs.{Logged, Writes}
use Rattle.buffer_store.specs.declared.fault.BufferFault.{BufferFault}
use Rattle.buffer_store.proofs.Logs.{IsReadied, Puts, writes_memory, writes_torn, writes_told, writes_synced}
use Rattle.buffer_store.proofs.log.Log.write.Goals as goal

pub returns-in_err-ready : goal.returns-in_err-ready
returns-in_err-ready g c =
    let old : Logged g.row.D.Denot = record { dir = c.self.inside.dir; journal = c.self.inside.journal; failed = c.self.inside.failed; staged = c.self.inside.staged; start = c.self.inside.start.value } in
    let mid : Logged g.row.D.Denot = record { dir = c.ready.new.dir; journal = c.ready.new.self; failed = c.self.inside.failed; staged = c.self.inside.staged; start = c.self.inside.start.value } in
    let ready : IsReadied g.D.Dir.is_honest g.D.Dir.history g.D.Dir.fault_count old mid =
    record { failed = refl; staged = refl; start = refl; path = ap (λ (j : OpenJournal). j.path) c.ready.ensures.rest; number = ap (λ (j : OpenJournal). j.number) c.ready.ensures.rest; keeps = c.ready.ensures.keeps; honest = c.ready.ensures.alone.honest; time = c.ready.ensures.alone.time; same = c.ready.ensures.alone.same; count = c.ready.ensures.alone.cause } in
    subst (λ (b : Logged g.row.D.Denot). Writes g.D.Dir.is_honest g.D.Dir.history g.D.Dir.fault_count b mid (record_of c.args.item.now) c.args.synced c.from_residual.result) c.self.view_is
    (writes_memory g.D.Dir.is_honest g.D.Dir.history g.D.Dir.fault_count old mid ready (record_of c.args.item.now) c.args.synced c.from_residual.result (search rules))

pub returns-then-is_err : goal.returns-then-is_err
returns-then-is_err g c =
    let old : Logged g.row.D.Denot = record { dir = c.self.inside.dir; journal = c.self.inside.journal; failed = c.self.inside.failed; staged = c.self.inside.staged; start = c.self.inside.start.value } in
    let mid : Logged g.row.D.Denot = record { dir = c.ready.new.dir; journal = c.ready.new.self; failed = c.self.inside.failed; staged = c.self.inside.staged; start = c.self.inside.start.value } in
    let new : Logged g.row.D.Denot = record { dir = c.put.new.dir; journal = c.put.new.self; failed = true; staged = c.self.inside.staged; start = c.self.inside.start.value } in
    let ready : IsReadied g.D.Dir.is_honest g.D.Dir.history g.D.Dir.fault_count old mid =
    record { failed = refl; staged = refl; start = refl; path = ap (λ (j : OpenJournal). j.path) c.ready.ensures.rest; number = ap (λ (j : OpenJournal). j.number) c.ready.ensures.rest; keeps = c.ready.ensures.keeps; honest = c.ready.ensures.alone.honest; time = c.ready.ensures.alone.time; same = c.ready.ensures.alone.same; count = c.ready.ensures.alone.cause } in
    let puts : Puts g.D.Dir.is_honest g.D.Dir.history g.D.Dir.fault_count mid new (record_of c.args.item.now) c.put.result = record {
      ready = c.in_ok-ready.ensures.ready;
      path = ap (λ (j : OpenJournal). j.path) c.put.ensures.journal;
      number = ap (λ (j : OpenJournal). j.number) c.put.ensures.journal;
      start = refl;
      honest = c.put.ensures.own.honest;
      ok = λ honest t item keeps ready allowed. (c.put.ensures.begins honest t item keeps ready allowed).ok;
      err = λ honest t item keeps ready allowed. (c.put.ensures.begins honest t item keeps ready allowed).err;
      gap = λ honest t keeps. no_gap_of _ _ (c.put.ensures.stray honest t keeps);
      moments = λ honest t item keeps ready allowed. (c.put.ensures.begins honest t item keeps ready allowed).moments;
      elsewhere = c.put.ensures.own.elsewhere;
      cause = c.put.ensures.own.cause;
      only = c.put.ensures.own.only;
    } in
    subst (λ (b : Logged g.row.D.Denot). Writes g.D.Dir.is_honest g.D.Dir.history g.D.Dir.fault_count b new (record_of c.args.item.now) c.args.synced (Err BufferFault.Fault)) c.self.view_is
    (writes_torn g.D.Dir.is_honest g.D.Dir.history g.D.Dir.fault_count old mid ready (record_of c.args.item.now) new c.put.result puts c.args.synced (sym c.is_err.ensures.value ∙ c.if-is_err.true) refl refl)

pub returns-then-synced : goal.returns-then-synced
returns-then-synced g c =
    let old : Logged g.row.D.Denot = record { dir = c.self.inside.dir; journal = c.self.inside.journal; failed = c.self.inside.failed; staged = c.self.inside.staged; start = c.self.inside.start.value } in
    let mid : Logged g.row.D.Denot = record { dir = c.ready.new.dir; journal = c.ready.new.self; failed = c.self.inside.failed; staged = c.self.inside.staged; start = c.self.inside.start.value } in
    let new : Logged g.row.D.Denot = record { dir = c.put.new.dir; journal = c.put.new.self; failed = c.self.inside.failed; staged = c.self.inside.staged; start = c.self.inside.start.value } in
    let ready : IsReadied g.D.Dir.is_honest g.D.Dir.history g.D.Dir.fault_count old mid =
    record { failed = refl; staged = refl; start = refl; path = ap (λ (j : OpenJournal). j.path) c.ready.ensures.rest; number = ap (λ (j : OpenJournal). j.number) c.ready.ensures.rest; keeps = c.ready.ensures.keeps; honest = c.ready.ensures.alone.honest; time = c.ready.ensures.alone.time; same = c.ready.ensures.alone.same; count = c.ready.ensures.alone.cause } in
    let puts : Puts g.D.Dir.is_honest g.D.Dir.history g.D.Dir.fault_count mid new (record_of c.args.item.now) c.put.result = record {
      ready = c.in_ok-ready.ensures.ready;
      path = ap (λ (j : OpenJournal). j.path) c.put.ensures.journal;
      number = ap (λ (j : OpenJournal). j.number) c.put.ensures.journal;
      start = refl;
      honest = c.put.ensures.own.honest;
      ok = λ honest t item keeps ready allowed. (c.put.ensures.begins honest t item keeps ready allowed).ok;
      err = λ honest t item keeps ready allowed. (c.put.ensures.begins honest t item keeps ready allowed).err;
      gap = λ honest t keeps. no_gap_of _ _ (c.put.ensures.stray honest t keeps);
      moments = λ honest t item keeps ready allowed. (c.put.ensures.begins honest t item keeps ready allowed).moments;
      elsewhere = c.put.ensures.own.elsewhere;
      cause = c.put.ensures.own.cause;
      only = c.put.ensures.own.only;
    } in
    subst (λ (s : Bool). Writes g.D.Dir.is_honest g.D.Dir.history g.D.Dir.fault_count c.args.self.now c.sync.new.self (record_of c.args.item.now) s c.sync.result) (sym c.if-synced.true)
    (subst (λ (b : Logged g.row.D.Denot). Writes g.D.Dir.is_honest g.D.Dir.history g.D.Dir.fault_count b c.sync.new.self (record_of c.args.item.now) true c.sync.result) c.self.view_is
    (writes_synced g.D.Dir.is_honest g.D.Dir.history g.D.Dir.fault_count old mid ready (record_of c.args.item.now) new c.put.result puts (sym c.is_err.ensures.value ∙ c.if-is_err.false) refl refl c.sync.new.self c.sync.result c.sync.ensures))

pub returns : goal.returns
returns g c =
    let old : Logged g.row.D.Denot = record { dir = c.self.inside.dir; journal = c.self.inside.journal; failed = c.self.inside.failed; staged = c.self.inside.staged; start = c.self.inside.start.value } in
    let mid : Logged g.row.D.Denot = record { dir = c.ready.new.dir; journal = c.ready.new.self; failed = c.self.inside.failed; staged = c.self.inside.staged; start = c.self.inside.start.value } in
    let new : Logged g.row.D.Denot = record { dir = c.put.new.dir; journal = c.put.new.self; failed = c.self.inside.failed; staged = c.is_staged_by-self-inside.result; start = c.self.inside.start.value } in
    let ready : IsReadied g.D.Dir.is_honest g.D.Dir.history g.D.Dir.fault_count old mid =
    record { failed = refl; staged = refl; start = refl; path = ap (λ (j : OpenJournal). j.path) c.ready.ensures.rest; number = ap (λ (j : OpenJournal). j.number) c.ready.ensures.rest; keeps = c.ready.ensures.keeps; honest = c.ready.ensures.alone.honest; time = c.ready.ensures.alone.time; same = c.ready.ensures.alone.same; count = c.ready.ensures.alone.cause } in
    let puts : Puts g.D.Dir.is_honest g.D.Dir.history g.D.Dir.fault_count mid new (record_of c.args.item.now) c.put.result = record {
      ready = c.in_ok-ready.ensures.ready;
      path = ap (λ (j : OpenJournal). j.path) c.put.ensures.journal;
      number = ap (λ (j : OpenJournal). j.number) c.put.ensures.journal;
      start = refl;
      honest = c.put.ensures.own.honest;
      ok = λ honest t item keeps ready allowed. (c.put.ensures.begins honest t item keeps ready allowed).ok;
      err = λ honest t item keeps ready allowed. (c.put.ensures.begins honest t item keeps ready allowed).err;
      gap = λ honest t keeps. no_gap_of _ _ (c.put.ensures.stray honest t keeps);
      moments = λ honest t item keeps ready allowed. (c.put.ensures.begins honest t item keeps ready allowed).moments;
      elsewhere = c.put.ensures.own.elsewhere;
      cause = c.put.ensures.own.cause;
      only = c.put.ensures.own.only;
    } in
    subst (λ (s : Bool). Writes g.D.Dir.is_honest g.D.Dir.history g.D.Dir.fault_count c.args.self.now new (record_of c.args.item.now) s (Ok (tt {0}))) (sym c.if-synced.false)
    (subst (λ (b : Logged g.row.D.Denot). Writes g.D.Dir.is_honest g.D.Dir.history g.D.Dir.fault_count b new (record_of c.args.item.now) false (Ok (tt {0}))) c.self.view_is
    (writes_told g.D.Dir.is_honest g.D.Dir.history g.D.Dir.fault_count old mid ready (record_of c.args.item.now) new c.put.result puts tt (sym c.is_err.ensures.value ∙ c.if-is_err.false) refl c.is_staged_by-self-inside.ensures))
