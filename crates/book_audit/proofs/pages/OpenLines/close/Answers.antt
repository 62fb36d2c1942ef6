use Rattle.std.proofs.Common.{◌≡◌, ◌+◌, ◌++◌, ◌∷◌, [], take, get_or, sym, ap, subst, ◌∙◌, arith, append-nil}
use Rattle.std.specs.HashMap.{spare}
use Rattle.book_audit.specs.declared.line.Part.{Part}
use Rattle.book_audit.specs.Audits.{Pages, Closes, lines_of}
use Rattle.book_audit.proofs.Named.{parts-more, of-buffer, of-other}
use Rattle.book_audit.proofs.Again.{closes-more}
use Rattle.book_audit.proofs.pages.OpenLines.close.Goals as goal
use Rattle.book_audit.proofs.pages.OpenLines.close.Goals.{then-is_of, else-is_of}

abbrev none : Part
none = record { relay = 0; buffer = 0; serial = 0; line = 0 }

pub loop-part-preserved : goal.loop-part-preserved
loop-part-preserved g c =
    let i = c.loop-part.part-index in
    let parts = c.args.parts.now in
    let leaf = c.args.leaf in
    let part : Part = get_or parts i none in
    let old : Pages = c.args.self.now in
    let mid : Pages = record { count = c.loop-part.self-inside.count; lines = c.loop-part.self-inside.lines.entries; room = spare c.loop-part.self-inside.lines } in
    let new : Pages = record { count = c.if-is_of.self-inside.count; lines = c.if-is_of.self-inside.lines.entries; room = spare c.if-is_of.self-inside.lines } in
    let front = lines_of leaf (take i parts) in
    elim c.if-is_of.branch [
      | then-is_of w ↦
          let more : lines_of leaf (take (i + 1) parts) ≡ front ++ part.line ∷ [] = parts-more leaf parts i none (omega arith) ∙ ap (λ ns. front ++ ns) (of-buffer leaf part (sym c.is_of.ensures ∙ w.if-is_of.true)) in
          record {
            closed = subst (λ ns. Closes ns old new) (sym more) (closes-more front part.line old mid new c.loop-part.invariant.closed (ap (λ z. z.count) w.self-inside-is) (rw (w.self-inside-is) w.remove.ensures.updates.0));
            room = rw (w.self-inside-is) (let s = w.remove.ensures.spare in let r = c.loop-part.invariant.room in omega arith);
          }
      | else-is_of w ↦
          let more : lines_of leaf (take (i + 1) parts) ≡ front = parts-more leaf parts i none (omega arith) ∙ ap (λ ns. front ++ ns) (of-other leaf part (sym c.is_of.ensures ∙ w.if-is_of.false)) ∙ append-nil front in
          record {
            closed = subst (λ ns. Closes ns old new) (sym more) (subst (λ z. Closes front old (record { count = z.count; lines = z.lines.entries; room = spare z.lines })) (sym w.self-inside-is) c.loop-part.invariant.closed);
            room = rw (w.self-inside-is) c.loop-part.invariant.room;
          }
    ]
