use Rattle.std.proofs.Common.{inl, inr}
use Rattle.relay_net.specs.Addresses.{Address}
use Rattle.relay_net.proofs.Reaching.{too_long}
use Rattle.relay_net.proofs.search.is_routed_tag.Goals as goal

pub returns-then-tag-gt-MOST_TAG_BYTES : goal.returns-then-tag-gt-MOST_TAG_BYTES
returns-then-tag-gt-MOST_TAG_BYTES g c =
    let to : Address = record { host = c.args.host.now; port = c.args.port } in
    (λ e. absurd (cc), λ r. absurd (too_long c.args.net.now to c.args.tag.now c.args.wanted.now (inl c.if-tag-gt-MOST_TAG_BYTES.true) r))

pub returns-then-wanted-gt-MOST_TAG_BYTES : goal.returns-then-wanted-gt-MOST_TAG_BYTES
returns-then-wanted-gt-MOST_TAG_BYTES g c =
    let to : Address = record { host = c.args.host.now; port = c.args.port } in
    (λ e. absurd (cc), λ r. absurd (too_long c.args.net.now to c.args.tag.now c.args.wanted.now (inr c.if-wanted-gt-MOST_TAG_BYTES.true) r))
