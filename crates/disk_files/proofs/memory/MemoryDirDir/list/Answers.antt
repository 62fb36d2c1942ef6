use Rattle.std.proofs.Common.{Contains, sym, subst}
use Rattle.std.specs.Str.{bytes_eq}
use Rattle.std.specs.List.{IsDistinct}
use Rattle.disk_files.proofs.Listed.{listed_now, now_listed, distinct_names}
use Rattle.disk_files.proofs.memory.MemoryDirDir.list.Goals as goal

pub returns-clause-names : goal.returns-clause-names
returns-clause-names g c = λ honest name. (
  λ found. listed_now c.args.self.now.files.items c.args.self.now.past name honest.0 (subst (λ names. Contains names name) c.in_ok-names_of.ensures found),
  λ some. subst (λ names. Contains names name) (sym c.in_ok-names_of.ensures) (now_listed c.args.self.now.files.items c.args.self.now.past name some),
)

pub returns-clause-once : goal.returns-clause-once
returns-clause-once g c = λ honest. subst (IsDistinct bytes_eq) (sym c.in_ok-names_of.ensures) (distinct_names c.args.self.now.files.items honest.0)
