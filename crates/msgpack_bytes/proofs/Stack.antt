-- Items read with a stack of counts: how many items are missing on each level.
use Rattle.std.proofs.Common.{ℕ, zero, suc, ◌≡◌, ◌+◌, ◌-◌, ◌<◌, ◌≤◌, List, [], length, refl, ap, sym, ◌∙◌, Ok, Err, arith, length-set, add-one, slice_set, slice_index}
use Rattle.std.proofs.lemmas.Grind.{common_steps}
use Rattle.msgpack_bytes.specs.Run.{Missing, Reserved, Deep, front_of, then_, many, run}
use Rattle.msgpack_bytes.specs.Pieces.{owed, finish}
use Rattle.msgpack_bytes.proofs.Runs.{Answer}

pub run_empty : (depth : ℕ) → run depth [] ≡ Err (Missing 1)
unfolding run front_of
run_empty zero = refl
run_empty (suc depth) = refl

many_empty : (depth n : ℕ) → many (run depth) (suc n) [] ≡ Err (Missing (suc n))
many_empty depth n = rw (run_empty depth) (ap (λ (m : ℕ). Err (Missing m)) (omega arith))

-- with no bytes, what is owed is missing
pub finish_done : (counts : List ℕ) (depth k : ℕ) → owed counts k ≡ 0 → finish counts depth k [] ≡ Ok []
finish_done counts depth zero e = refl
finish_done counts depth (suc k) e =
    let none : slice_index counts k ≡ 0 = omega arith in
    rw none (finish_done counts (suc depth) k (omega arith))

finish_some : (counts : List ℕ) (depth k c : ℕ) → slice_index counts k ≡ suc c → finish counts depth (suc k) [] ≡ Err (Missing (owed counts (suc k)))
finish_some counts depth k c e = rw (e, many_empty depth c) refl

pub finish_lacking : (counts : List ℕ) (depth k n : ℕ) → owed counts k ≡ suc n → finish counts depth k [] ≡ Err (Missing (owed counts k))
finish_lacking counts depth zero n e = absurd (omega arith)
finish_lacking counts depth (suc k) n e =
    elim (slice_index counts k) as (λ c. slice_index counts k ≡ c → finish counts depth (suc k) [] ≡ Err (Missing (owed counts (suc k)))) [
      | zero ↦ λ none. (let below : owed counts k ≡ suc n = omega arith in let same : owed counts (suc k) ≡ owed counts k = omega arith in rw (same, none) (finish_lacking counts (suc depth) k n below))
      | suc c ↦ λ some. finish_some counts depth k c some
    ] refl

pub then_none : (r : Answer) → then_ r 0 Ok ≡ r
then_none (Ok rest) = refl
then_none (Err (Missing n)) = ap (λ (m : ℕ). Err (Missing m)) (omega arith)
then_none (Err Reserved) = refl
then_none (Err Deep) = refl

-- at the start one item is missing
pub finish_start : (counts : List ℕ) (depth : ℕ) (bytes : List ℕ) → slice_index counts 0 ≡ 1 → run depth bytes ≡ finish counts depth 1 bytes
finish_start counts depth bytes e = rw (e, then_none (run depth bytes)) (sym (then_none (run depth bytes)))

then_twice : (r : Answer) (m o : ℕ) (f g : List ℕ → Answer) → then_ (then_ r m f) o g ≡ then_ r (m + o) (λ y. then_ (f y) o g)
then_twice (Ok y) m o f g = refl
then_twice (Err (Missing n)) m o f g = ap (λ (z : ℕ). Err (Missing z)) (omega arith)
then_twice (Err Reserved) m o f g = refl
then_twice (Err Deep) m o f g = refl

then_same : (r : Answer) (m o : ℕ) (f g : List ℕ → Answer) → m ≡ o → ((y : List ℕ) → f y ≡ g y) → then_ r m f ≡ then_ r o g
then_same (Ok y) m o f g e h = h y
then_same (Err (Missing n)) m o f g e h = ap (λ (z : ℕ). Err (Missing (n + z))) e
then_same (Err Reserved) m o f g e h = refl
then_same (Err Deep) m o f g e h = refl

pub set_here : (xs : List ℕ) (j n : ℕ) → j < length xs → slice_index (slice_set xs j n) j ≡ n
set_here xs j n h = grind (arith, common_steps)

pub set_elsewhere : (xs : List ℕ) (j k n : ℕ) → k < j → slice_index (slice_set xs j n) k ≡ slice_index xs k
set_elsewhere xs j k n h = grind (arith, common_steps)

pub owed_below : (xs : List ℕ) (j n k : ℕ) → k ≤ j → owed (slice_set xs j n) k ≡ owed xs k
owed_below xs j n zero h = refl
owed_below xs j n (suc k) h =
    let e = set_elsewhere xs j k n (omega arith) in
    let f = owed_below xs j n k (omega arith) in
    cc

pub finish_below : (xs : List ℕ) (j n depth k : ℕ) (bytes : List ℕ) → k ≤ j → finish (slice_set xs j n) depth k bytes ≡ finish xs depth k bytes
finish_below xs j n depth zero bytes h = refl
finish_below xs j n depth (suc k) bytes h =
    let e = set_elsewhere xs j k n (omega arith) in
    rw e (then_same (many (run depth) (slice_index xs k) bytes) _ _ _ _ (owed_below xs j n k (omega arith)) (λ y. finish_below xs j n (suc depth) k y (omega arith)))

-- one item less on the innermost level
pub owed_item : (xs : List ℕ) (k c : ℕ) → k < length xs → slice_index xs k ≡ suc c → owed xs (suc k) ≡ suc (owed (slice_set xs k c) (suc k))
owed_item xs k c h e =
    let own = set_here xs k c h in
    let below = owed_below xs k c k (omega arith) in
    omega arith

-- and a container's items on a level of their own
pub owed_opened : (xs : List ℕ) (k n : ℕ) → k < length xs → owed (slice_set xs k n) (suc k) ≡ n + owed xs k
owed_opened xs k n h =
    let own = set_here xs k n h in
    let below = owed_below xs k n k (omega arith) in
    omega arith

-- no item is missing on the innermost level
pop : (xs : List ℕ) (depth k : ℕ) (bytes : List ℕ) → slice_index xs k ≡ 0 → finish xs depth (suc k) bytes ≡ finish xs (suc depth) k bytes
pop xs depth k bytes e = rw e refl

-- an item is read on the innermost level
item : (xs : List ℕ) (depth k c : ℕ) (bytes : List ℕ) → k < length xs → slice_index xs k ≡ suc c
    → finish xs depth (suc k) bytes ≡ then_ (run depth bytes) (owed (slice_set xs k c) (suc k)) (finish (slice_set xs k c) depth (suc k))
item xs depth k c bytes h e =
    let own = set_here xs k c h in
    rw e (then_twice (run depth bytes) c (owed xs k) (many (run depth) c) (finish xs (suc depth) k)
    ∙ then_same (run depth bytes) _ _ _ _ (rw (own, owed_below xs k c k (omega arith)) refl)
    (λ y. rw own (then_same (many (run depth) c y) _ _ _ _ (sym (owed_below xs k c k (omega arith))) (λ z. sym (finish_below xs k c (suc depth) k z (omega arith))))))

opens : (xs : List ℕ) (depth k c n : ℕ) (bytes rest : List ℕ) → suc k < length xs → slice_index xs k ≡ suc c → run (suc depth) bytes ≡ many (run depth) n rest
    → finish xs (suc depth) (suc k) bytes ≡ finish (slice_set (slice_set xs k c) (suc k) n) depth (suc (suc k)) rest
opens xs depth k c n bytes rest h e f =
    let ys : List ℕ = slice_set xs k c in
    let fits : suc k < length ys = omega (arith, length-set {A = ℕ}) in
    let top : slice_index (slice_set ys (suc k) n) (suc k) ≡ n = set_here ys (suc k) n fits in
    item xs (suc depth) k c bytes (omega arith) e
    ∙ rw (f, top) (then_same (many (run depth) n rest) _ _ _ _ (sym (owed_below ys (suc k) n (suc k) (omega arith))) (λ z. sym (finish_below ys (suc k) n (suc depth) (suc k) z (omega arith))))

-- The same as a loop has them: k is the innermost level, and j one more.
pub at_pop : (xs : List ℕ) (depth up j k : ℕ) (bytes : List ℕ) → j ≡ suc k → up ≡ suc depth → slice_index xs k ≡ 0 → finish xs depth j bytes ≡ finish xs up k bytes
at_pop xs depth up j k bytes p q h = rw (p, q) (pop xs depth k bytes h)

pub at_item : (xs : List ℕ) (depth j k : ℕ) (bytes : List ℕ) → j ≡ suc k → k < length xs → 0 < slice_index xs k
    → finish xs depth j bytes ≡ then_ (run depth bytes) (owed (slice_set xs k (slice_index xs k - 1)) j) (finish (slice_set xs k (slice_index xs k - 1)) depth j)
at_item xs depth j k bytes p h n = rw p (item xs depth k (slice_index xs k - 1) bytes h (omega arith))

pub at_opens : (xs : List ℕ) (depth up j k n : ℕ) (bytes rest : List ℕ) → j ≡ suc k → up ≡ suc depth → j < length xs → 0 < slice_index xs k → run up bytes ≡ many (run depth) n rest
    → finish xs up j bytes ≡ finish (slice_set (slice_set xs k (slice_index xs k - 1)) j n) depth (j + 1) rest
at_opens xs depth up j k n bytes rest p q h m f =
    let there : run (suc depth) bytes ≡ many (run depth) n rest = rw q at f in
    rw (p, q, add-one) (opens xs depth k (slice_index xs k - 1) n bytes rest (omega arith) (omega arith) there)

pub owed_at_item : (xs : List ℕ) (j k : ℕ) → j ≡ suc k → k < length xs → 0 < slice_index xs k → owed xs j ≡ suc (owed (slice_set xs k (slice_index xs k - 1)) j)
owed_at_item xs j k p h n = rw p (owed_item xs k (slice_index xs k - 1) h (omega arith))

pub owed_at_opens : (xs : List ℕ) (j k n : ℕ) → j ≡ suc k → j < length xs → owed (slice_set (slice_set xs k (slice_index xs k - 1)) j n) (j + 1) ≡ n + owed (slice_set xs k (slice_index xs k - 1)) j
owed_at_opens xs j k n p h =
    let ys : List ℕ = slice_set xs k (slice_index xs k - 1) in
    let fits : j < length ys = omega (arith, length-set {A = ℕ}) in
    rw add-one (owed_opened ys j n fits)

pub owed_at_pop : (xs : List ℕ) (j k : ℕ) → j ≡ suc k → slice_index xs k ≡ 0 → owed xs j ≡ owed xs k
owed_at_pop xs j k p h = rw p (omega arith)
