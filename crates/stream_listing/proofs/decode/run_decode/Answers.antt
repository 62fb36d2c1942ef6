use Rattle.std.proofs.Common.{[]}
use Rattle.std.proofs.KnownBytes.{Appends-nil, Consumes-nil}
use Rattle.stream_listing.specs.declared.decode.Stop.TheVariants.{Memory}
use Rattle.stream_listing.proofs.DecodeSteps.{early_output, reads_none}
use Rattle.stream_listing.proofs.decode.run_decode.Goals as goal

pub returns-in-Err-clause-printed : goal.returns-in-Err-clause-printed
returns-in-Err-clause-printed g c =
    let input = g.R.CountedRead.remaining c.args.input.now in
    let out = g.W.Write.contents c.args.out.now in
    early_output input input out out (g.W.Write.contents c.end.new.out) [] [] [] [] Memory c.end.result
    (Consumes-nil input) reads_none (Appends-nil out) tt c.end.ensures
