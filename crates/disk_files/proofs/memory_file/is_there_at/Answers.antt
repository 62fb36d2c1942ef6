use Rattle.std.proofs.Common.{◌≡◌, ℕ, zero, suc, ◌<◌, ◌≤◌, Bool, true, false, cond, List, [], ◌∷◌, length, get_or, Some, None, slice_get, refl, sym, ap, ◌∙◌, arith}
use Rattle.std.specs.Prelude.{not, is_some}
use Rattle.std.proofs.lemmas.Option.{slice_get_read}
use Rattle.disk_files.specs.Entry.{Entry}
use Rattle.disk_files.specs.Table.{name_of}
use Rattle.disk_files.proofs.memory_file.is_there_at.Goals as goal

-- a name is there unless it was removed
there_by : (removed : Bool) (name : List ℕ) → not removed ≡ is_some (cond removed None (Some name))
there_by true name = refl
there_by false name = refl

there : (files : List Entry) (at : ℕ) (e : Entry) → at < length files → e ≡ get_or files at e → not e.state.is_removed ≡ is_some (name_of (slice_get files at))
there files at e within read =
    there_by e.state.is_removed e.name ∙ ap (λ o. is_some (name_of o)) (sym (slice_get_read files (length files) at e refl within read))

none_there : (files : List Entry) (at : ℕ) → length files ≤ at → false ≡ is_some (name_of (slice_get files at))
none_there [] at behind = refl
none_there (e ∷ rest) zero behind = absurd (omega arith)
none_there (e ∷ rest) (suc at) behind = none_there rest at (omega arith)

pub returns-in-Some : goal.returns-in-Some
returns-in-Some g c =
    let files = c.deref.result.now in
    let found = c.in-Some.ensures.lookup in
    let same = ap (λ (l : List Entry). is_some (name_of (slice_get l c.args.at))) c.deref.ensures.value in
    c.is_there.ensures ∙ there files c.args.at c.in-Some.file.now found.3.0 found.1 ∙ same

pub returns-in-None : goal.returns-in-None
returns-in-None g c =
    let same = ap (λ (l : List Entry). is_some (name_of (slice_get l c.args.at))) c.deref.ensures.value in
    none_there c.deref.result.now c.args.at c.in-None.ensures.lookup.3 ∙ same
