use Rattle.std.proofs.Common.{◌≡◌, ◌-◌, length, arith}
use Rattle.output_state.proofs.Lines.{shorter}
use Rattle.output_state.proofs.reading.whole_lines.Goals as goal

pub returns : goal.returns
returns g c =
    let lines = c.in_ok-lines.lines in
    let one_less : c.saturating_sub.result ≡ length lines.items - 1 = omega (arith, c.saturating_sub.ensures, c.len.ensures, lines.ok.0) in
    shorter lines.items c.truncate.new.self.items _ c.in_ok-lines.ensures (rw one_less at c.truncate.ensures.items)
