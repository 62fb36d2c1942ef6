use Rattle.std.proofs.Common.{◌≡◌, [], refl, sym, ◌∙◌}
use Rattle.std.proofs.lemmas.List.{nil_from_length}
use Rattle.buffer_state.specs.Tags.{without}
use Rattle.buffer_state.proofs.Serials.{key_gone}
use Rattle.buffer_state.proofs.Named.{set_serials, set_empty, gone_serials, serials}
use Rattle.buffer_state.proofs.tags.TagIndex.remove.Goals as goal

pub returns-then-is_empty : goal.returns-then-is_empty
returns-then-is_empty g c = λ other.
    let h = c.get_mut.follows.holds c.remove.new.self in
    let left : c.remove.new.self.keys ≡ without c.args.serial c.in-Some.serials.now.keys = c.remove.ensures.keys ∙ key_gone _ c.args.serial c.len-count.ensures.ordered in
    let none : c.remove.new.self.keys ≡ [] = nil_from_length _ (c.if-is_empty.ensures.0 refl) in
    let empty : serials (c.get_mut.follows.lender c.remove.new.self).entries c.args.tag.now ≡ [] = set_empty _ _ c.args.tag.now _ c.remove.new.self (sym c.in-Some.ensures.value) h.0 none in
    gone_serials _ _ c.args.tag.now other c.remove-then-is_empty.ensures.entries c.remove-then-is_empty.ensures.updates.1 empty ∙ set_serials _ _ c.args.tag.now other _ _ (without c.args.serial) (sym c.in-Some.ensures.value) h.0 left

pub returns-else-is_empty : goal.returns-else-is_empty
returns-else-is_empty g c = λ other.
    let h = c.get_mut.follows.holds c.remove.new.self in
    let left : c.remove.new.self.keys ≡ without c.args.serial c.in-Some.serials.now.keys = c.remove.ensures.keys ∙ key_gone _ c.args.serial c.len-count.ensures.ordered in
    set_serials _ _ c.args.tag.now other _ _ (without c.args.serial) (sym c.in-Some.ensures.value) h.0 left
