-- The deliveries of a world, some of which restarts have ended.
use Rattle.std.proofs.Common.{◌≡◌, ℕ, zero, suc, ◌+◌, ◌<◌, ◌≤◌, ◌==◌, ◌&&◌, not, Bool, true, false, cond, List, [], ◌∷◌, ◌++◌, map, length, Some, option_map, slice_get, slice_set, refl, ap, ◌∙◌, arith, nat_lt}
use Rattle.std.proofs.lemmas.Bool.{lt-ltb, le-ltb}
use Rattle.custody_store.specs.Book.{Delivery, ended}
use Rattle.custody_steps.specs.WorldFrom.{open_after, deliveries_from}

pub get-from : (closed : ℕ → ℕ) (number : ℕ) (ds : List Delivery) (k : ℕ) → slice_get (deliveries_from closed number ds) k ≡ option_map (open_after closed (number + k)) (slice_get ds k)
get-from closed number [] k = refl
get-from closed number (d ∷ ds) zero = ap (λ (n : ℕ). Some (open_after closed n d)) (omega arith)
get-from closed number (d ∷ ds) (suc k) = get-from closed (suc number) ds k ∙ ap (λ (n : ℕ). option_map (open_after closed n) (slice_get ds k)) (omega arith)

-- the delivery of a number, as the world shows it
pub delivery_at : (closed : ℕ → ℕ) (ds : List Delivery) (k : ℕ) → slice_get (deliveries_from closed 0 ds) k ≡ option_map (open_after closed k) (slice_get ds k)
delivery_at closed ds k = get-from closed 0 ds k ∙ ap (λ (n : ℕ). option_map (open_after closed n) (slice_get ds k)) (omega arith)

pub length-from : (closed : ℕ → ℕ) (number : ℕ) (ds : List Delivery) → length (deliveries_from closed number ds) ≡ length ds
length-from closed number [] = refl
length-from closed number (d ∷ ds) = ap suc (length-from closed (suc number) ds)

push-from : (closed : ℕ → ℕ) (number : ℕ) (ds : List Delivery) (new : Delivery) → deliveries_from closed number (ds ++ new ∷ []) ≡ deliveries_from closed number ds ++ open_after closed (number + length ds) new ∷ []
push-from closed number [] new = ap (λ (n : ℕ). open_after closed n new ∷ []) (omega arith)
push-from closed number (d ∷ ds) new = ap (λ (l : List Delivery). open_after closed number d ∷ l)
    (push-from closed (suc number) ds new ∙ ap (λ (n : ℕ). deliveries_from closed (suc number) ds ++ open_after closed n new ∷ []) (omega arith))

-- a delivery that no restart came after is as it was made
still_open : (closed : ℕ → ℕ) (number : ℕ) (d : Delivery) → closed d.entrance.relay ≤ number → open_after closed number d ≡ d
still_open closed number d h = ap (λ (b : Bool). record d { is_open = b }) (ap (λ (b : Bool). d.is_open && not b) (le-ltb number (closed d.entrance.relay) h) ∙ stays d.is_open)
  where
    stays : (b : Bool) → (b && true) ≡ b
    stays true = refl
    stays false = refl

-- a delivery is opened
pub opened_last : (closed : ℕ → ℕ) (ds : List Delivery) (new : Delivery) → closed new.entrance.relay ≤ length ds → deliveries_from closed 0 (ds ++ new ∷ []) ≡ deliveries_from closed 0 ds ++ new ∷ []
opened_last closed ds new h = push-from closed 0 ds new ∙ ap (λ (d : Delivery). deliveries_from closed 0 ds ++ d ∷ []) (still_open closed (0 + length ds) new (omega arith))

set-from : (closed : ℕ → ℕ) (number : ℕ) (ds : List Delivery) (k : ℕ) (new : Delivery) → deliveries_from closed number (slice_set ds k new) ≡ slice_set (deliveries_from closed number ds) k (open_after closed (number + k) new)
set-from closed number [] k new = refl
set-from closed number (d ∷ ds) zero new = ap (λ (n : ℕ). open_after closed n new ∷ deliveries_from closed (suc number) ds) (omega arith)
set-from closed number (d ∷ ds) (suc k) new = ap (λ (l : List Delivery). open_after closed number d ∷ l)
    (set-from closed (suc number) ds k new ∙ ap (λ (n : ℕ). slice_set (deliveries_from closed (suc number) ds) k (open_after closed n new)) (omega arith))

-- a delivery is changed
pub delivery-set : (closed : ℕ → ℕ) (ds : List Delivery) (k : ℕ) (new : Delivery) → deliveries_from closed 0 (slice_set ds k new) ≡ slice_set (deliveries_from closed 0 ds) k (open_after closed k new)
delivery-set closed ds k new = set-from closed 0 ds k new ∙ ap (λ (n : ℕ). slice_set (deliveries_from closed 0 ds) k (open_after closed n new)) (omega arith)

-- the same relays have started again
pub same-from : (closed other : ℕ → ℕ) (ds : List Delivery) → ((p : ℕ) → closed p ≡ other p) → deliveries_from closed 0 ds ≡ deliveries_from other 0 ds
same-from closed other ds same = λ i. deliveries_from (λ p. same p i) 0 ds

-- A relay starts again: all deliveries of it end.

one_closed : (closed later : ℕ → ℕ) (total number : ℕ) (d : Delivery) (t : Bool) → later d.entrance.relay ≡ cond t total (closed d.entrance.relay) → number < total
    → open_after later number d ≡ cond t (ended (open_after closed number d)) (open_after closed number d)
one_closed closed later total number d true e less = ap (λ (b : Bool). record d { is_open = b }) (ap (λ (n : ℕ). d.is_open && not (nat_lt number n)) e ∙ ap (λ (b : Bool). d.is_open && not b) (lt-ltb number total less) ∙ off d.is_open)
  where
    off : (b : Bool) → (b && false) ≡ false
    off true = refl
    off false = refl
one_closed closed later total number d false e less = ap (λ (n : ℕ). record d { is_open = d.is_open && not (nat_lt number n) }) e

closed-from : (closed later : ℕ → ℕ) (place total number : ℕ) (ds : List Delivery) → ((p : ℕ) → later p ≡ cond (p == place) total (closed p)) → number + length ds ≤ total
    → deliveries_from later number ds ≡ map (λ d. cond (d.entrance.relay == place) (ended d) d) (deliveries_from closed number ds)
closed-from closed later place total number [] is most = refl
closed-from closed later place total number (d ∷ ds) is most =
    let first = one_closed closed later total number d (d.entrance.relay == place) (is d.entrance.relay) (omega arith) in
    let rest = closed-from closed later place total (suc number) ds is (omega arith) in
    λ i. first i ∷ rest i

pub all_closed : (closed later : ℕ → ℕ) (place : ℕ) (ds : List Delivery) → ((p : ℕ) → later p ≡ cond (p == place) (length ds) (closed p))
    → deliveries_from later 0 ds ≡ map (λ d. cond (d.entrance.relay == place) (ended d) d) (deliveries_from closed 0 ds)
all_closed closed later place ds is = closed-from closed later place (length ds) 0 ds is (omega arith)
