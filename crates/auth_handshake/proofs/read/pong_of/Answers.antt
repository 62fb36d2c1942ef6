use Rattle.std.proofs.Common.{[], ◌∷◌, ◌++◌, ◌∙◌, ap}
use Rattle.msgpack_bytes.proofs.Cuts.{no_rest, is_rest}
use Rattle.auth_handshake.proofs.Parts.{text_scalar, texts_are, bool_scalar, scalars_array, same_told}
use Rattle.auth_handshake.proofs.read.pong_of.Goals as goal

pub returns-in_err-reason-clause-only : goal.returns-in_err-reason-clause-only
returns-in_err-reason-clause-only c says p =
    let array = c.in_ok-array_of.ensures.only p.array.header _ p.array.counted p.array.whole in
    let name = c.in_ok-rest.ensures.only p.name _ p.named array in
    let accepted = c.in_ok-accepted.ensures.only says.accepted p.result _ p.is_result name in
    absurd (c.in_err-reason.ensures.only _ _ _ _ (texts_are p.reason p.host p.digest _ p.is_reason p.is_host p.is_digest accepted.1))

pub returns-else-is_empty-clause-only : goal.returns-else-is_empty-clause-only
returns-else-is_empty-clause-only c says p =
    let array = c.in_ok-array_of.ensures.only p.array.header _ p.array.counted p.array.whole in
    let name = c.in_ok-rest.ensures.only p.name _ p.named array in
    let accepted = c.in_ok-accepted.ensures.only says.accepted p.result _ p.is_result name in
    let texts = c.in_ok-reason.ensures.only _ _ _ _ (texts_are p.reason p.host p.digest _ p.is_reason p.is_host p.is_digest accepted.1) in
    no_rest _ c.if-is_empty.ensures texts.3

pub returns-then-is_empty-clause-only : goal.returns-then-is_empty-clause-only
returns-then-is_empty-clause-only c says p =
    let array = c.in_ok-array_of.ensures.only p.array.header _ p.array.counted p.array.whole in
    let name = c.in_ok-rest.ensures.only p.name _ p.named array in
    let accepted = c.in_ok-accepted.ensures.only says.accepted p.result _ p.is_result name in
    let texts = c.in_ok-reason.ensures.only _ _ _ _ (texts_are p.reason p.host p.digest _ p.is_reason p.is_host p.is_digest accepted.1) in
    same_told _ _ accepted.0 texts.0 texts.1 texts.2

pub returns-then-is_empty-clause-right : goal.returns-then-is_empty-clause-right
returns-then-is_empty-clause-right c =
    let item = c.is_item.ensures.0 c.if-not-is_item.false in
    let array = c.in_ok-array_of.ensures.right in
    let name = c.in_ok-rest.ensures.right in
    let accepted = c.in_ok-accepted.ensures.right in
    let texts = c.in_ok-reason.ensures.right in
    let empty = is_rest _ c.if-is_empty.ensures in
    let inner = name.2 ∙ ap (λ xs. name.0 ++ xs) (accepted.2 ∙ ap (λ xs. accepted.0 ++ xs) (texts.whole
    ∙ ap (λ xs. texts.first ++ (texts.second ++ (texts.third ++ xs))) empty)) in
    record {
      item = item;
      name = name.0;
      result = accepted.0;
      reason = texts.first;
      host = texts.second;
      digest = texts.third;
      array = scalars_array c.args.item.now array.0 (name.0 ∷ accepted.0 ∷ texts.first ∷ texts.second ∷ texts.third ∷ []) item array.1
          (array.2 ∙ ap (λ xs. array.0 ++ xs) inner)
          (text_scalar _ _ name.1, (bool_scalar _ _ accepted.1, (text_scalar _ _ texts.is_first, (text_scalar _ _ texts.is_second, (text_scalar _ _ texts.is_third, tt)))));
      named = name.1;
      is_result = accepted.1;
      is_reason = texts.is_first;
      is_host = texts.is_second;
      is_digest = texts.is_third;
    }
