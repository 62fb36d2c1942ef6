use Rattle.std.proofs.Common.{[], refl}
use Rattle.tag_pattern.proofs.Sizes.{survey_step, surveyed_partial, surveyed_count}
use Rattle.tag_pattern.proofs.survey.take_survey.Goals as goal

pub loop-rest-preserved : goal.loop-rest-preserved
loop-rest-preserved c =
    let held = rw c.in-Some.is at c.loop-rest.invariant in
    let first = c.in-Some-first_slot.ensures in
    record {
      only = λ slots h. let found = held.only slots h in let more = first.only found.0 found.1 in (more.0, more.2);
      within = c.next_size-size.ensures.within;
      each = λ behind h.
          let found = held.each _ (first.each behind h) in
          (found.0, found.1, survey_step found.0 behind _ _ c.in-Some-first_slot.body.now _ _ _ _ _ found.1 h first.slot_choices c.slot_is_partial-partial.ensures c.next_size-size.ensures.grown found.2);
    }

pub returns-in-None-size : goal.returns-in-None-size
returns-in-None-size c =
    let held = rw (c.in_default.is, c.in-None-size.is) at c.loop-rest.invariant in
    let found = held.each [] refl in
    record { slots = found.0; spelled = found.1; partial = surveyed_partial found.0 c.loop-rest.has_partial _ found.2; plains = found.2.sized }

pub returns-in-Some-size : goal.returns-in-Some-size
returns-in-Some-size c =
    let held = rw (c.in_default.is, c.in-Some-size.is) at c.loop-rest.invariant in
    let found = held.each [] refl in
    record {
      slots = found.0;
      spelled = found.1;
      partial = surveyed_partial found.0 c.loop-rest.has_partial _ found.2;
      plains = surveyed_count found.0 c.loop-rest.has_partial _ held.within.1 held.within.2 found.2;
    }
