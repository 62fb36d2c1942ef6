use Rattle.std.proofs.Common.{ℕ, List, ◌++◌, sym, ◌∙◌, ap, subst, Bor}
use Rattle.std.proofs.lemmas.List.{append-nil}
use Rattle.msgpack_bytes.specs.Kinds.{IsText}
use Rattle.msgpack_bytes.specs.Item.{IsItemWithin}
use Rattle.msgpack_bytes.specs.Containers.{IsMapOf}
use Rattle.auth_handshake.specs.Messages.{IsHelo}
use Rattle.auth_handshake.proofs.Parts.{text_and_item, match_some}
use Rattle.auth_handshake.proofs.read.helo_nonce.Goals as goal

pub returns-in_err-last_value-clause-only : goal.returns-in_err-last_value-clause-only
returns-in_err-last_value-clause-only c nonce p =
    let array = c.in_ok-array_of.ensures.only p.array.header _ p.array.counted p.array.whole in
    let options = c.in_ok-options.ensures.only p.name _ p.named array ∙ append-nil p.options in
    absurd (c.in_err-last_value.ensures.only p.pairs p.value (subst (IsMapOf IsItemWithin p.pairs) (sym options) p.map) p.last)

pub returns-clause-only : goal.returns-clause-only
returns-clause-only c nonce p =
    let array = c.in_ok-array_of.ensures.only p.array.header _ p.array.counted p.array.whole in
    let options = c.in_ok-options.ensures.only p.name _ p.named array ∙ append-nil p.options in
    let value = c.in_ok-last_value.ensures.only p.pairs p.value (subst (IsMapOf IsItemWithin p.pairs) (sym options) p.map) p.last in
    c.str_or_bin.ensures.only nonce (subst (λ v. IsText v nonce) (sym value) p.text)

pub returns-clause-right : goal.returns-clause-right
returns-clause-right c =
    let item = c.is_item.ensures.0 c.if-not-is_item.false in
    let array = c.in_ok-array_of.ensures.right in
    let name = c.in_ok-options.ensures.right in
    let options = c.is_item-2.ensures.0 c.if-not-is_item-2.false in
    let value = c.in_ok-last_value.ensures.right in
    match_some _ _ _ c.str_or_bin.result
    (λ (nonce : Bor (List ℕ)) (text : IsText c.in_ok-last_value.field-0.now nonce.now).
    (let is : IsHelo c.args.item.now nonce.now = record {
      item = item;
      name = name.0;
      options = c.in_ok-options.options.now;
      array = text_and_item _ array.0 name.0 _ c.in_ok-options.options.now item array.1 name.1 options (array.2 ∙ ap (λ xs. array.0 ++ xs) name.2);
      named = name.1;
      pairs = value.0;
      map = value.1;
      value = c.in_ok-last_value.field-0.now;
      last = value.2;
      text = text;
    } in is))
    c.str_or_bin.ensures.right
