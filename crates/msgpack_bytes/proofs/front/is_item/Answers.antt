use Rattle.std.proofs.Common.{[], length, sym, subst, ◌∙◌, ◌-◌, ◌≤◌, arith, eq-eqb}
use Rattle.std.proofs.lemmas.Bool.{eqb-true}
use Rattle.std.proofs.lemmas.List.{append-nil, take_all}
use Rattle.msgpack_bytes.specs.Item.{IsItemWithin}
use Rattle.msgpack_bytes.specs.Answers.{IsScanned}
use Rattle.msgpack_bytes.specs.declared.answers.Scan.TheVariants as scan
use Rattle.msgpack_bytes.proofs.Cuts.{item_ends, one_end}
use Rattle.msgpack_bytes.proofs.front.is_item.Goals as goal

pub returns-in-End : goal.returns-in-End
returns-in-End c = (
  λ whole.
      (let same = eqb-true c.in-End.end (length c.args.bytes.now) whole in
      let ends = subst (IsScanned c.args.bytes.now 0) c.in-End.is c.scan.ensures.right in
      let all : length c.args.bytes.now ≤ c.in-End.end - 0 = omega arith in
      subst IsItemWithin (take_all (c.in-End.end - 0) c.args.bytes.now all) ends.2),
  λ item.
      (let bytes = c.args.bytes.now in
      let h = c.scan.ensures.only (scan.End (length bytes)) (item_ends bytes bytes [] item (sym (append-nil bytes))) in
      eq-eqb c.in-End.end (length bytes) (sym (one_end _ _ (h ∙ c.in-End.is)))),
)
