use Rattle.std.proofs.Common.{[], ◌∷◌, ◌++◌, ◌∙◌, ap}
use Rattle.msgpack_bytes.proofs.Cuts.{no_rest, is_rest}
use Rattle.auth_handshake.proofs.Parts.{text_scalar, texts_are, scalars_array, same_asked}
use Rattle.auth_handshake.proofs.read.ping_of.Goals as goal

pub returns-in_err-host-clause-only : goal.returns-in_err-host-clause-only
returns-in_err-host-clause-only c says p =
    let array = c.in_ok-array_of.ensures.only p.array.header _ p.array.counted p.array.whole in
    let name = c.in_ok-rest.ensures.only p.name _ p.named array in
    absurd (c.in_err-host.ensures.only _ _ _ _ (texts_are p.host p.salt p.digest _ p.is_host p.is_salt p.is_digest name))

pub returns-in_err-_user-clause-only : goal.returns-in_err-_user-clause-only
returns-in_err-_user-clause-only c says p =
    let array = c.in_ok-array_of.ensures.only p.array.header _ p.array.counted p.array.whole in
    let name = c.in_ok-rest.ensures.only p.name _ p.named array in
    let texts = c.in_ok-host.ensures.only _ _ _ _ (texts_are p.host p.salt p.digest _ p.is_host p.is_salt p.is_digest name) in
    absurd (c.in_err-_user.ensures.only p.user _ _ p.is_user.1 texts.3)

pub returns-in_err-_password-clause-only : goal.returns-in_err-_password-clause-only
returns-in_err-_password-clause-only c says p =
    let array = c.in_ok-array_of.ensures.only p.array.header _ p.array.counted p.array.whole in
    let name = c.in_ok-rest.ensures.only p.name _ p.named array in
    let texts = c.in_ok-host.ensures.only _ _ _ _ (texts_are p.host p.salt p.digest _ p.is_host p.is_salt p.is_digest name) in
    let user = c.in_ok-_user.ensures.only p.user _ _ p.is_user.1 texts.3 in
    absurd (c.in_err-_password.ensures.only p.password _ _ p.is_password.1 user.1)

pub returns-else-is_empty-clause-only : goal.returns-else-is_empty-clause-only
returns-else-is_empty-clause-only c says p =
    let array = c.in_ok-array_of.ensures.only p.array.header _ p.array.counted p.array.whole in
    let name = c.in_ok-rest.ensures.only p.name _ p.named array in
    let texts = c.in_ok-host.ensures.only _ _ _ _ (texts_are p.host p.salt p.digest _ p.is_host p.is_salt p.is_digest name) in
    let user = c.in_ok-_user.ensures.only p.user _ _ p.is_user.1 texts.3 in
    let password = c.in_ok-_password.ensures.only p.password _ _ p.is_password.1 user.1 in
    no_rest _ c.if-is_empty.ensures password.1

pub returns-then-is_empty-clause-only : goal.returns-then-is_empty-clause-only
returns-then-is_empty-clause-only c says p =
    let array = c.in_ok-array_of.ensures.only p.array.header _ p.array.counted p.array.whole in
    let name = c.in_ok-rest.ensures.only p.name _ p.named array in
    let texts = c.in_ok-host.ensures.only _ _ _ _ (texts_are p.host p.salt p.digest _ p.is_host p.is_salt p.is_digest name) in
    let user = c.in_ok-_user.ensures.only p.user _ _ p.is_user.1 texts.3 in
    let password = c.in_ok-_password.ensures.only p.password _ _ p.is_password.1 user.1 in
    same_asked _ _ texts.0 texts.1 texts.2

pub returns-then-is_empty-clause-right : goal.returns-then-is_empty-clause-right
returns-then-is_empty-clause-right c =
    let item = c.is_item.ensures.0 c.if-not-is_item.false in
    let array = c.in_ok-array_of.ensures.right in
    let name = c.in_ok-rest.ensures.right in
    let texts = c.in_ok-host.ensures.right in
    let user = c.in_ok-_user.ensures.right in
    let password = c.in_ok-_password.ensures.right in
    let empty = is_rest _ c.if-is_empty.ensures in
    let inner = name.2 ∙ ap (λ xs. name.0 ++ xs) (texts.whole
    ∙ ap (λ xs. texts.first ++ (texts.second ++ (texts.third ++ xs))) (user.2 ∙ ap (λ xs. user.0 ++ xs) (password.2 ∙ ap (λ xs. password.0 ++ xs) empty))) in
    record {
      item = item;
      name = name.0;
      host = texts.first;
      salt = texts.second;
      digest = texts.third;
      user = user.0;
      password = password.0;
      array = scalars_array c.args.item.now array.0 (name.0 ∷ texts.first ∷ texts.second ∷ texts.third ∷ user.0 ∷ password.0 ∷ []) item array.1
          (array.2 ∙ ap (λ xs. array.0 ++ xs) inner)
          (text_scalar _ _ name.1, (text_scalar _ _ texts.is_first, (text_scalar _ _ texts.is_second, (text_scalar _ _ texts.is_third, (text_scalar _ _ user.1, (text_scalar _ _ password.1, tt))))));
      named = name.1;
      is_host = texts.is_first;
      is_salt = texts.is_second;
      is_digest = texts.is_third;
      is_user = (_, user.1);
      is_password = (_, password.1);
    }
