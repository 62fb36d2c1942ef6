use Rattle.std.proofs.Common.{◌≡◌, Bool, true, false, not, Option, Some, None, IfNone, ℕ, ap, refl, sym, ◌∙◌}
use Rattle.disk_files.specs.Disk.{read_of}
use Rattle.disk_files.proofs.Changed.{place_found, place_none, is_opened, is_gone}
use Rattle.disk_files.proofs.memory_file.place_there.Goals as goal

if_none : (o : Option ℕ) (P : Type 0) → P → IfNone o P
if_none None P p = p
if_none (Some n) P p = tt

left_there : (b t : Bool) → t ≡ not b → t ≡ true → b ≡ false
left_there true t is holds = absurd (cc (sym is ∙ holds))
left_there false t is holds = refl

was_removed : (b t : Bool) → t ≡ not b → t ≡ false → b ≡ true
was_removed true t is holds = refl
was_removed false t is holds = absurd (cc (sym is ∙ holds))

pub returns-in_err-at-clause-none : goal.returns-in_err-at-clause-none
returns-in_err-at-clause-none g c = λ sound.
    if_none c.from_residual.result _ (ap read_of (place_none c.args.files.now.items c.args.name.now (sym c.place_of.ensures ∙ c.in_err-at.was)))

pub returns-then-is_there-clause-found : goal.returns-then-is_there-clause-found
returns-then-is_there-clause-found g c =
    is_opened c.args.files.now.items c.args.name.now c.in_ok-at.at c.index.result.now (place_found c.args.files.now.items c.args.name.now c.in_ok-at.at (sym c.place_of.ensures ∙ c.in_ok-at.was))
    c.index.ensures (left_there c.index.result.now.state.is_removed c.is_there.result c.is_there.ensures c.if-is_there.true)

pub returns-else-is_there-clause-none : goal.returns-else-is_there-clause-none
returns-else-is_there-clause-none g c = λ sound.
    is_gone c.args.files.now.items c.args.name.now c.in_ok-at.at c.index.result.now sound (place_found c.args.files.now.items c.args.name.now c.in_ok-at.at (sym c.place_of.ensures ∙ c.in_ok-at.was))
    c.index.ensures (was_removed c.index.result.now.state.is_removed c.is_there.result c.is_there.ensures c.if-is_there.false)
