use Rattle.std.proofs.Common.{◌≡◌, ◌==◌, ◌++◌, ◌∷◌, [], length, cond, Some, None, sym, ap, ◌∙◌, arith}
use Rattle.std.specs.Option.{option_or}
use Rattle.relay_net.specs.Network.{place_among}
use Rattle.plan_lines.proofs.Numbering.{place_more}
use Rattle.plan_lines.proofs.relays.Relays.add.Goals as goal

pub invariant_of-self : goal.invariant_of-self
invariant_of-self g c = λ number. c.self.invariant number ∙ ap (λ nodes. place_among nodes number) (sym c.reserve.ensures.items)

pub invariant_of-self-in_err-note : goal.invariant_of-self-in_err-note
invariant_of-self-in_err-note g c = λ number. c.in_err-note.ensures.stays number ∙ c.self.invariant number ∙ ap (λ nodes. place_among nodes number) (sym c.reserve.ensures.items)

pub invariant_of-self-2 : goal.invariant_of-self-2
invariant_of-self-2 g c = λ number.
    let before = c.self.inside.nodes.items in
    let counted : c.len.result ≡ length c.reserve.new.self.items = omega arith in
    let same : c.len.result ≡ length before = counted ∙ ap length c.reserve.ensures.items in
    c.in_ok-note.ensures.noted number
    ∙ ap (λ at. option_or at (cond (c.args.node.number == number) (Some c.len.result) None)) (c.self.invariant number)
    ∙ ap (λ at. option_or (place_among before number) (cond (c.args.node.number == number) (Some at) None)) same
    ∙ sym (place_more before c.args.node number)
    ∙ ap (λ nodes. place_among nodes number) (sym (c.push_reserved.ensures.items ∙ ap (λ nodes. nodes ++ c.args.node ∷ []) c.reserve.ensures.items))
