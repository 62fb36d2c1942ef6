use Rattle.std.proofs.Common.{◌++◌, ◌∙◌, ap}
use Rattle.auth_handshake.proofs.read.three_texts.Goals as goal

pub returns-in_default-clause-only : goal.returns-in_default-clause-only
returns-in_default-clause-only c x y z back p = absurd (c.in_default.ensures.only p.first _ _ p.is_first p.whole)

pub returns-in_default-next_text-clause-only : goal.returns-in_default-next_text-clause-only
returns-in_default-next_text-clause-only c x y z back p =
    let first = c.in-Some.ensures.only p.first _ _ p.is_first p.whole in
    absurd (c.in_default-next_text.ensures.only p.second _ _ p.is_second first.1)

pub returns-in_default-next_text-2-clause-only : goal.returns-in_default-next_text-2-clause-only
returns-in_default-next_text-2-clause-only c x y z back p =
    let first = c.in-Some.ensures.only p.first _ _ p.is_first p.whole in
    let second = c.in-Some-next_text.ensures.only p.second _ _ p.is_second first.1 in
    absurd (c.in_default-next_text-2.ensures.only p.third _ _ p.is_third second.1)

pub returns-clause-only : goal.returns-clause-only
returns-clause-only c x y z back p =
    let first = c.in-Some.ensures.only p.first _ _ p.is_first p.whole in
    let second = c.in-Some-next_text.ensures.only p.second _ _ p.is_second first.1 in
    let third = c.in-Some-next_text-2.ensures.only p.third _ _ p.is_third second.1 in
    (first.0, second.0, third.0, third.1)

pub returns-clause-right : goal.returns-clause-right
returns-clause-right c =
    let first = c.in-Some.ensures.right in
    let second = c.in-Some-next_text.ensures.right in
    let third = c.in-Some-next_text-2.ensures.right in
    record {
      first = first.0;
      second = second.0;
      third = third.0;
      is_first = first.1;
      is_second = second.1;
      is_third = third.1;
      whole = first.2 ∙ ap (λ xs. first.0 ++ xs) (second.2 ∙ ap (λ xs. second.0 ++ xs) third.2);
    }
