use Rattle.std.proofs.Common.{sym, ◌∙◌}
use Rattle.std.proofs.lemmas.Bool.{false≢true}
use Rattle.tag_pattern.specs.Grammar.{AreTooMany, HasPartialWildcard}
use Rattle.tag_pattern.proofs.Readings.{moved, ok_from, only_memory}
use Rattle.tag_pattern.proofs.pattern.Pattern.read.Goals as goal

pub returns-then-survey-clause-only : goal.returns-then-survey-clause-only
returns-then-survey-clause-only g c slots pattern =
    let found = rw c.as_bytes-bytes.ensures.value at c.in-Some.ensures in
    absurd (pattern.whole_wildcards (moved HasPartialWildcard found.slots slots _ found.spelled pattern.spelled (found.partial.0 c.if-survey.true)))

pub returns-then-survey-clause-too_many : goal.returns-then-survey-clause-too_many
returns-then-survey-clause-too_many g c =
    let found = rw c.as_bytes-bytes.ensures.value at c.in-Some.ensures in
    (λ e. cc, λ (slots, spelled, whole, many). absurd (whole (moved HasPartialWildcard found.slots slots _ found.spelled spelled (found.partial.0 c.if-survey.true))))

pub returns-in-None-plains-clause-only : goal.returns-in-None-plains-clause-only
returns-in-None-plains-clause-only g c slots pattern =
    let found = rw c.as_bytes-bytes.ensures.value at c.in-Some.ensures in
    let many = rw c.in-None-plains.is at found.plains in
    absurd (pattern.few (moved AreTooMany found.slots slots _ found.spelled pattern.spelled many))

pub returns-in-None-plains-clause-partial_wildcard : goal.returns-in-None-plains-clause-partial_wildcard
returns-in-None-plains-clause-partial_wildcard g c =
    let found = rw c.as_bytes-bytes.ensures.value at c.in-Some.ensures in
    (λ e. cc, λ (slots, spelled, partial). absurd (false≢true (sym c.if-survey.false ∙ found.partial.1 (moved HasPartialWildcard slots found.slots _ spelled found.spelled partial))))

pub returns-in-Some-plains-clause-patterns : goal.returns-in-Some-plains-clause-patterns
returns-in-Some-plains-clause-patterns g c =
    let found = rw c.as_bytes-bytes.ensures.value at c.in-Some.ensures in
    let read = rw c.as_bytes-bytes.ensures.value at c.expansions.ensures in
    let few = rw c.in-Some-plains.is at found.plains in
    ok_from _ _ _ c.expansions.result (λ plains is. (
      found.slots,
      record { spelled = found.spelled; whole_wildcards = λ h. absurd (false≢true (sym c.if-survey.false ∙ found.partial.1 h)); few = few.1 },
      is,
    )) (read found.slots found.spelled)

pub returns-in-Some-plains-clause-partial_wildcard : goal.returns-in-Some-plains-clause-partial_wildcard
returns-in-Some-plains-clause-partial_wildcard g c =
    let found = rw c.as_bytes-bytes.ensures.value at c.in-Some.ensures in
    let read = rw c.as_bytes-bytes.ensures.value at c.expansions.ensures in (
      λ e. let memory = only_memory _ _ _ (read found.slots found.spelled) e in cc,
      λ (slots, spelled, partial). absurd (false≢true (sym c.if-survey.false ∙ found.partial.1 (moved HasPartialWildcard slots found.slots _ spelled found.spelled partial))),
    )

pub returns-in-Some-plains-clause-too_many : goal.returns-in-Some-plains-clause-too_many
returns-in-Some-plains-clause-too_many g c =
    let found = rw c.as_bytes-bytes.ensures.value at c.in-Some.ensures in
    let read = rw c.as_bytes-bytes.ensures.value at c.expansions.ensures in
    let few = rw c.in-Some-plains.is at found.plains in (
      λ e. let memory = only_memory _ _ _ (read found.slots found.spelled) e in cc,
      λ (slots, spelled, whole, many). absurd (few.1 (moved AreTooMany slots found.slots _ spelled found.spelled many)),
    )
