-- The plans of buffers, where one of them noted an append or queued chunks.
use Rattle.std.proofs.Common.{ℕ, ◌≡◌, ◌∙◌, ◌<◌, List, length, map, ap, refl, sym, subst, Result, Ok, Err}
use Rattle.std.specs.Prelude.{IfOk, OnOk, slice_index_or, slice_set}
use Rattle.std.proofs.lemmas.List.{get_or-map, get_or-set_same, get_or-set_other, length-map, length-set, map-set}
use Rattle.buffer_store.specs.declared.fault.BufferFault.{BufferFault}
use Rattle.loop_core.specs.Lanes.{IsNoneDueAt, IsNotedAt, IsOneElse, LaneState}
use Rattle.loop_core.specs.Schedules.{IsNoneDue, IsNoted, Plan}
use Rattle.loop_core.proofs.Appending.{put_at}

-- the plan of a buffer that is there
plan_is : {A : Type 0} (lanes : List (LaneState A)) (place : ℕ) (one : LaneState A) (none : Plan) → place < length lanes → one ≡ slice_index_or lanes place one
    → slice_index_or (map (λ l. l.plan) lanes) place none ≡ one.plan
plan_is {A} lanes place one none within is =
    get_or-map (λ (l : LaneState A). l.plan) lanes place one none within ∙ ap (λ (l : LaneState A). l.plan) (sym is)

-- One of the buffers noted an append.
pub noted_at : {A : Type 0} (lanes : List (LaneState A)) (place time : ℕ) (old new : LaneState A) (answer result : Result ℕ BufferFault) (before behind : List Plan)
    → result ≡ answer → place < length lanes → old ≡ slice_index_or lanes place old → IfOk answer (λ serial. IsNoted serial time old.plan new.plan)
    → map (λ l. l.plan) lanes ≡ before → behind ≡ map (λ l. l.plan) (slice_set lanes place new) → IfOk result (λ serial. IsNotedAt place serial time before behind)
noted_at {A} lanes place time old new answer result before behind same within at noted b a =
    subst (λ (r : Result ℕ BufferFault). IfOk r (λ serial. IsNotedAt place serial time before behind)) (sym same) (by answer noted)
  where
    one_at : (serial : ℕ) → IsNoted serial time old.plan new.plan → IsNotedAt place serial time before behind
    one_at serial one = record {
      plan = new.plan;
      is = a ∙ put_at (λ (l : LaneState A). l.plan) lanes place new new.plan refl ∙ ap (λ (l : List Plan). slice_set l place new.plan) b;
      noted = λ none there.
          subst (λ (p : Plan). IsNoted serial time p new.plan)
          (sym (ap (λ (l : List Plan). slice_index_or l place none) (sym b) ∙ plan_is lanes place old none within at)) one;
    }

    by : (r : Result ℕ BufferFault) → IfOk r (λ serial. IsNoted serial time old.plan new.plan) → IfOk r (λ serial. IsNotedAt place serial time before behind)
    by (Ok serial) one = one_at serial one
    by (Err _) one = tt

-- One of them queued what was to be queued.
pub none_at : {A T : Type 0} (lanes : List (LaneState A)) (place time : ℕ) (new : LaneState A) (answer result : Result T BufferFault) (behind : List Plan)
    → result ≡ answer → place < length lanes → OnOk answer (IsNoneDue time new.plan) → behind ≡ map (λ l. l.plan) (slice_set lanes place new)
    → OnOk result (IsNoneDueAt place time behind)
none_at {A} {T} lanes place time new answer result behind same within none a =
    subst (λ (r : Result T BufferFault). OnOk r (IsNoneDueAt place time behind)) (sym same) (by answer none)
  where
    there : place < length (slice_set lanes place new)
    there = subst (λ (n : ℕ). place < n) (sym (length-set lanes place new)) within

    none_there : IsNoneDue time new.plan → IsNoneDueAt place time behind
    none_there due = λ nothing inside.
        subst (IsNoneDue time)
        (sym (ap (λ (l : List Plan). slice_index_or l place nothing) a
        ∙ plan_is (slice_set lanes place new) place new nothing there (sym (get_or-set_same lanes place new new within)))) due

    by : (r : Result T BufferFault) → OnOk r (IsNoneDue time new.plan) → OnOk r (IsNoneDueAt place time behind)
    by (Ok _) due = none_there due
    by (Err _) due = tt

-- the plans of the others are as they were
pub one_else : {A : Type 0} (lanes : List (LaneState A)) (place : ℕ) (new : LaneState A) (before behind : List Plan)
    → map (λ l. l.plan) lanes ≡ before → behind ≡ map (λ l. l.plan) (slice_set lanes place new) → IsOneElse place before behind
one_else {A} lanes place new before behind b a =
    subst (λ (l : List Plan). IsOneElse place l behind) b
    (subst (IsOneElse place (map (λ (l : LaneState A). l.plan) lanes)) (sym a ∙ refl) (record {
      length = length-map (slice_set lanes place new) (λ (l : LaneState A). l.plan) ∙ length-set lanes place new ∙ sym (length-map lanes (λ (l : LaneState A). l.plan));
      others = λ other none apart.
          ap (λ (l : List Plan). slice_index_or l other none) (map-set (λ (l : LaneState A). l.plan) lanes place new)
          ∙ get_or-set_other (map (λ (l : LaneState A). l.plan) lanes) place other new.plan none apart;
    }))

-- nothing was done
pub none_else : (place : ℕ) (plans : List Plan) → IsOneElse place plans plans
none_else place plans = record { length = refl; others = λ other none apart. refl }
