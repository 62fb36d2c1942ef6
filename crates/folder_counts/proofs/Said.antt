-- Outputs that are read one after another.
use Rattle.std.proofs.Common.{ℕ, List, [], ◌∷◌, ◌++◌, ◌≡◌, ◌+◌, ◌<◌, ◌≤◌, get_or, length, map, take, ap, refl, subst, sym, ◌∙◌}
use Rattle.std.specs.List.{AllByRecursion}
use Rattle.std.proofs.lemmas.List.{map-append, take_all, take_more}
use Rattle.event_listing.proofs.Items.{each_append}
use Rattle.output_state.specs.Rows.{states_in}
use Rattle.output_state.specs.State.{StateView}
use Rattle.folder_counts.specs.Outputs.{AreOutputsIn, IsTimed}
use Rattle.folder_counts.specs.Views.{OutputView}

-- these are the first outputs of those of which this is said
pub record AreFirst (states : List StateView) (n : ℕ) (outputs : List OutputView) : Type 0 where
  pub states_are : map (λ output. output.state) outputs ≡ take n states
  pub times_are : AllByRecursion IsTimed outputs

pub none_first : (states : List StateView) (outputs : List OutputView) → outputs ≡ [] → AreFirst states 0 outputs
none_first states outputs is = subst (AreFirst states 0) (sym is) (record { states_are = refl; times_are = tt })

-- one output more
pub first_more : (states : List StateView) (n : ℕ) (d : StateView) (outputs new : List OutputView) (output : OutputView) → n < length states → AreFirst states n outputs
    → output.state ≡ get_or states n d → IsTimed output → new ≡ outputs ++ output ∷ [] → AreFirst states (n + 1) new
first_more states n d outputs new output more first is timed new_is =
    let last : AreFirst states (n + 1) (outputs ++ output ∷ []) = record {
      states_are = map-append (λ o. o.state) outputs (output ∷ []) ∙ ap (λ l. l ++ output.state ∷ []) first.states_are ∙ ap (λ s. take n states ++ s ∷ []) is ∙ sym (take_more states n d more);
      times_are = each_append IsTimed outputs (output ∷ []) first.times_are (timed, tt);
    } in
    subst (AreFirst states (n + 1)) (sym new_is) last

pub all_first : (text : List ℕ) (states : List StateView) (n : ℕ) (outputs : List OutputView) → states ≡ states_in text → length states ≤ n → AreFirst states n outputs → AreOutputsIn text outputs
all_first text states n outputs is end first = record { states_are = first.states_are ∙ take_all n states end ∙ is; times_are = first.times_are }
