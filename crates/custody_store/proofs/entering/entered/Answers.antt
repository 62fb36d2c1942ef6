use Rattle.std.proofs.Common.{arith}
use Rattle.relay_net.specs.Network.{prefix_at}
use Rattle.relay_net.proofs.Reaching.{entered_longer}
use Rattle.custody_store.proofs.entering.entered.Goals as goal

pub returns-in-Err-clause-too_long : goal.returns-in-Err-clause-too_long
returns-in-Err-clause-too_long g c = λ e.
    let less = c.in-Err.ensures.too_long.0 e in
    let le = entered_longer (prefix_at c.args.net.now (record { host = c.args.host.now; port = c.args.port })) c.args.tag.now in
    omega (arith, less, le)
