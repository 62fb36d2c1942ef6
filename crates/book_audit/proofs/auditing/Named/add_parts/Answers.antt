use Rattle.std.proofs.Common.{◌≡◌, ℕ, List, ◌+◌, ◌++◌, ◌∷◌, [], take, drop, get_or, MatchBool, sym, ap, subst, ◌∙◌, arith, append_assoc, append-nil}
use Rattle.std.proofs.lemmas.List.{take_all}
use Rattle.book_audit.specs.declared.line.Part.{Part}
use Rattle.book_audit.specs.Naming.{AreNamed}
use Rattle.book_audit.specs.Audits.{IsAgain, lines_of}
use Rattle.book_audit.proofs.Named.{parts-more, parts-split, of-buffer, of-other}
use Rattle.book_audit.proofs.Again.{again-more}
use Rattle.book_audit.proofs.auditing.Named.add_parts.Goals as goal
use Rattle.book_audit.proofs.auditing.Named.add_parts.Goals.{else-is_of-via-then-is_of+in_ok-add+else-not-branch, else-is_of-via-else-is_of}

abbrev none : Part
none = record { relay = 0; buffer = 0; serial = 0; line = 0 }

pub returns-then-not-branch : goal.returns-then-not-branch
returns-then-not-branch g c = λ named n.
    let i = c.loop-part.part-index in
    let parts = c.args.parts.now in
    let leaf = c.args.leaf in
    let part : Part = get_or parts i none in
    let front : List ℕ = named ++ lines_of leaf (take i parts) in
    let here : IsAgain c.args.pages.now (front ++ part.line ∷ []) = subst (λ b. MatchBool b (AreNamed c.args.pages.now (front ++ part.line ∷ []) c.add.new.self.lines) (IsAgain c.args.pages.now (front ++ part.line ∷ []))) c.if-not-branch.true (c.in_ok-add.ensures front (c.loop-part.invariant.named named n)) in
    let more : lines_of leaf (take (i + 1) parts) ≡ lines_of leaf (take i parts) ++ part.line ∷ [] = parts-more leaf parts i none (omega arith) ∙ ap (λ ns. lines_of leaf (take i parts) ++ ns) (of-buffer leaf part (sym c.is_of.ensures ∙ c.if-is_of.true)) in
    let rest : List ℕ = lines_of leaf (drop (i + 1) parts) in
    let whole : named ++ lines_of leaf parts ≡ (front ++ part.line ∷ []) ++ rest =
    ap (λ ns. named ++ ns) (parts-split leaf parts (i + 1) ∙ ap (λ ns. ns ++ rest) more) ∙ sym (append_assoc named (lines_of leaf (take i parts) ++ part.line ∷ []) rest) ∙ ap (λ ns. ns ++ rest) (sym (append_assoc named (lines_of leaf (take i parts)) (part.line ∷ []))) in
    subst (IsAgain c.args.pages.now) (sym whole) (again-more c.args.pages.now (front ++ part.line ∷ []) rest here)

pub loop-part-preserved : goal.loop-part-preserved
loop-part-preserved g c =
    let i = c.loop-part.part-index in
    let parts = c.args.parts.now in
    let leaf = c.args.leaf in
    let part : Part = get_or parts i none in
    elim c.else-is_of.branch [
      | else-is_of-via-then-is_of+in_ok-add+else-not-branch w ↦
          let more : lines_of leaf (take (i + 1) parts) ≡ lines_of leaf (take i parts) ++ part.line ∷ [] = parts-more leaf parts i none (omega arith) ∙ ap (λ ns. lines_of leaf (take i parts) ++ ns) (of-buffer leaf part (sym c.is_of.ensures ∙ w.if-is_of.true)) in
          record {
            named = λ named n.
                let front : List ℕ = named ++ lines_of leaf (take i parts) in
                let here : AreNamed c.args.pages.now (front ++ part.line ∷ []) w.add.new.self.lines = subst (λ b. MatchBool b (AreNamed c.args.pages.now (front ++ part.line ∷ []) w.add.new.self.lines) (IsAgain c.args.pages.now (front ++ part.line ∷ []))) w.if-not-branch.false (w.in_ok-add.ensures front (c.loop-part.invariant.named named n)) in
                rw (w.self-is) (subst (λ ns. AreNamed c.args.pages.now ns w.add.new.self.lines) (append_assoc named (lines_of leaf (take i parts)) (part.line ∷ []) ∙ ap (λ ns. named ++ ns) (sym more)) here);
          }
      | else-is_of-via-else-is_of w ↦
          let more : lines_of leaf (take (i + 1) parts) ≡ lines_of leaf (take i parts) = parts-more leaf parts i none (omega arith) ∙ ap (λ ns. lines_of leaf (take i parts) ++ ns) (of-other leaf part (sym c.is_of.ensures ∙ w.if-is_of.false)) ∙ append-nil (lines_of leaf (take i parts)) in
          record {
            named = λ named n. rw (w.self-is) (subst (λ ns. AreNamed c.args.pages.now (named ++ ns) c.loop-part.self.lines) (sym more) (c.loop-part.invariant.named named n));
          }
    ]

pub returns : goal.returns
returns g c = λ named n. subst (λ (parts : List Part). AreNamed c.args.pages.now (named ++ lines_of c.args.leaf parts) c.loop-part.self.lines) (take_all c.loop-part.part-index c.args.parts.now (omega arith)) (c.loop-part.invariant.named named n)
