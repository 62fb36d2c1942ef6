use Rattle.std.proofs.Common.{◌≡◌, ◌↔◌, ◌⊎◌, ℕ, map, sym, ap, subst, ◌∙◌, Contains}
use Rattle.std.specs.BTreeMap.{get, is_at}
use Rattle.loss_rules.specs.BySite.{site_cmp, patterns_at}
use Rattle.loss_rules.proofs.BySite.{site_is, site_apart, shown, grown}
use Rattle.loss_rules.proofs.by_site.PatternsBySite.add.Goals as goal
use Rattle.loss_rules.proofs.by_site.PatternsBySite.add.Goals.{in-Some, in-None}

pub returns : goal.returns
returns g c = λ other list.
    let noted = c.note.new.self in
    let at = noted.lists in
    let here : patterns_at noted c.args.site ≡ map (λ l. l.now) c.match-remove.lists.items = elim c.match-remove.branch [
      | in-Some w ↦ ap (shown (λ l. l.now)) (sym c.remove.ensures.value ∙ w.in-Some.is) ∙ ap (λ v. map (λ l. l.now) v.items) (sym w.lists-is)
      | in-None w ↦ ap (shown (λ l. l.now)) (sym c.remove.ensures.value ∙ w.in-None.is) ∙ ap (map (λ l. l.now)) (sym w.new-lists.ensures.items) ∙ ap (λ v. map (λ l. l.now) v.items) (sym w.lists-is)
    ] in
    subst (λ ls. Contains (shown (λ l. l.now) (get site_cmp c.insert.new.self other)) list ↔ (Contains (shown (λ l. l.now) (get site_cmp ls other)) list ⊎ ((c.args.site ≡ other) × (c.args.patterns.now ≡ list)))) c.in_ok-note.ensures
    (grown (λ l. l.now) (is_at (site_cmp c.args.site) other) (get site_cmp at other) (get site_cmp c.remove.new.self other) (get site_cmp c.insert.new.self other) c.match-remove.lists c.push.new.self c.args.patterns (c.args.site ≡ other)
    (λ e. let same = site_is c.args.site other e in (same, subst (λ (o : (ℕ × ℕ) × ℕ). patterns_at noted o ≡ map (λ l. l.now) c.match-remove.lists.items) same here))
    (site_apart c.args.site other) (c.remove.ensures.updates.0 other) (c.in_ok-insert.ensures.updates.0 other) c.in_ok-push.ensures.items list)
