use Rattle.std.proofs.Common.{◌≡◌, Contains, refl, sym, ◌∙◌, subst, ap}
use Rattle.recent_lines.proofs.Told.{keys, found, not_found, remembered}
use Rattle.recent_lines.proofs.recent.RecentLines.is_new.Goals as goal

pub returns-then-contains-clause-told : goal.returns-then-contains-clause-told
returns-then-contains-clause-told g c =
    let digests : keys c.self.inside.digests.entries ≡ c.args.self.now.digests = ap (λ r. r.digests) c.self.view_is in
    let has = found c.digest-digest.result c.self.inside.digests.entries (sym c.contains.ensures ∙ c.if-contains.true) in
    (subst (Contains c.args.self.now.digests) c.digest-digest.ensures (subst (λ ds. Contains ds c.digest-digest.result) digests has), refl)

pub returns-clause-told : goal.returns-clause-told
returns-clause-told g c =
    let digests : keys c.self.inside.digests.entries ≡ c.args.self.now.digests = ap (λ r. r.digests) c.self.view_is in
    let none = sym c.contains.ensures ∙ c.if-contains.false in (
      λ again.
          not_found c.digest-digest.result c.self.inside.digests.entries none
          (subst (λ ds. Contains ds c.digest-digest.result) (sym digests) (subst (Contains c.args.self.now.digests) (sym c.digest-digest.ensures) again)),
      remembered c.self.inside.digests c.put.new.self c.digest-digest.result c.args.line.now c.args.self.now c.self.view_is c.digest-digest.ensures none c.in_ok-put.ensures.entries,
    )
