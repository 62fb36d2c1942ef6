-- What is kept behind the lock, step by step.
use Rattle.std.proofs.Common.{◌==◌, ◌≡◌, ◌≢◌, ◌⊎◌, inl, inr, ℕ, ◌+◌, ◌<◌, ◌≤◌, Bool, true, false, cond, List, [], ◌∷◌, ◌++◌, length, Option, Some, None, refl, sym, ap, subst, ◌∙◌, arith}
use Rattle.std.specs.Prelude.{IfSome, IsSomeAnd, All, OnErr, OnOk, Result, Ok, Err, slice_get}
use Rattle.std.specs.Ordering.{nat_cmp}
use Rattle.std.specs.BTreeMap.{is_at}
use Rattle.std.proofs.lemmas.Bool.{true≢false, cases_eq}
use Rattle.std.proofs.lemmas.List.{length_push, get_or_append_left, get_or_push}
use Rattle.std.proofs.lemmas.List.Elements.{All-contains, All-push, All-weaker, All-nil, All-get_or}
use Rattle.std.proofs.lemmas.List.Quantifiers.{all_pairs_push}
use Rattle.std.proofs.lemmas.Option.{none-some, slice_get-get_or, slice_get_within, get_or_from_slice_get}
use Rattle.buffer_state.proofs.Serials.{at_same, at_itself}
use Rattle.book_audit.specs.declared.line.Line.{Line}
use Rattle.book_audit.specs.Audits.{Closes, Pages, SameLines, Writes, open_at}
use Rattle.buffer_store.specs.Buffers.{Held}
use Rattle.std.specs.Map.{lookup}
use Rattle.ack_receipt.specs.declared.past.Written.{Written}
use Rattle.ack_receipt.specs.Told.{counts_of}
use Rattle.ack_receipt.specs.Books.{AreOnPages, AreReceipted, AreWaiting, IsAccounted, IsSound, book_of, waiting_at}

-- what stood at a place stands there when more is added
stays_at : {X : Type 0} (xs : List X) (x y : X) (k : ℕ) → slice_get xs k ≡ Some x → slice_get (xs ++ y ∷ []) k ≡ Some x
stays_at xs x y k e =
    let less : k < length xs = slice_get_within xs k x e in
    let longer : k < length (xs ++ y ∷ []) = omega (arith, length_push xs y, less) in
    slice_get-get_or (xs ++ y ∷ []) k x longer ∙ ap Some (get_or_append_left xs (y ∷ []) x k less ∙ get_or_from_slice_get xs k x x e)

last_at : {X : Type 0} (xs : List X) (y : X) → slice_get (xs ++ y ∷ []) (length xs) ≡ Some y
last_at xs y =
    let last : length xs < length (xs ++ y ∷ []) = omega (arith, length_push xs y) in
    slice_get-get_or (xs ++ y ∷ []) (length xs) y last ∙ ap Some (get_or_push xs y y (length xs) refl)

if_some : {X : Type 0} (o : Option X) (P Q : X → Type 0) → ((x : X) → P x → Q x) → IfSome o P → IfSome o Q
if_some None P Q f h = h
if_some (Some x) P Q f h = f x h

-- lines stay lines of more appends
module _ (a : List Line) (l : List Written) (s : ℕ) (h : AreReceipted a l s) where
  place_below : All (λ (written : Written). written.place < length a) l
  place_below = All-weaker (λ (written : Written). slice_get a written.place ≡ Some written.line) (λ (written : Written). written.place < length a) (λ written e. slice_get_within a written.place written.line e) l h.each

  pub all_synced : AreReceipted a l (length a)
  all_synced = record { each = h.each; synced_each = place_below; once = h.once; synced_all = omega arith }

  pub receipted_more : (x : Line) → AreReceipted (a ++ x ∷ []) l s
  receipted_more x = record {
    each = All-weaker (λ (written : Written). slice_get a written.place ≡ Some written.line) (λ (written : Written). slice_get (a ++ x ∷ []) written.place ≡ Some written.line) (λ written e. stays_at a written.line x written.place e) l h.each;
    synced_each = h.synced_each;
    once = h.once;
    synced_all = omega (arith, length_push a x, h.synced_all);
  }

  -- one line more, of a synced append that has none
  pub receipted_line : (place : ℕ) (x : Line) → slice_get a place ≡ Some x → place < s → All (λ (written : Written). written.place ≢ place) l → AreReceipted a (l ++ record { place = place; line = x } ∷ []) s
  receipted_line place x is below fresh = record {
    each = All-push (λ (written : Written). slice_get a written.place ≡ Some written.line) l (record { place = place; line = x }) h.each is;
    synced_each = All-push (λ (written : Written). written.place < s) l (record { place = place; line = x }) h.synced_each below;
    once = all_pairs_push (λ (one other : Written). one.place ≢ other.place) l (record { place = place; line = x }) h.once (λ k d inside. All-get_or (λ (written : Written). written.place ≢ place) l k d inside fresh);
    synced_all = h.synced_all;
  }

-- the open lines stay where the same lines are open
pub pages_same : (p q : Pages) (l : List Written) → SameLines p q → AreOnPages p l → AreOnPages q l
pages_same p q l same h = record {
  count = same.count ∙ h.count;
  each = λ n. subst (λ (o : Option Line). IfSome o (λ line. IsSomeAnd (slice_get l n) (λ written. written.line ≡ line))) (sym (same.each n)) (h.each n);
}

-- some of them are closed
pub pages_closed : (p q : Pages) (named : List ℕ) (l : List Written) → Closes named p q → AreOnPages p l → AreOnPages q l
pages_closed p q named l closes h = record {
  count = closes.count ∙ h.count;
  each = λ n. by n (open_at q n) refl;
}
  where
    by : (n : ℕ) (o : Option Line) → open_at q n ≡ o → IfSome o (λ line. IsSomeAnd (slice_get l n) (λ written. written.line ≡ line))
    by n None e = tt
    by n (Some x) e =
        let still : open_at q n ≡ open_at p n = closes.kept n (λ has. none-some x (sym (All-contains (λ (k : ℕ). open_at q k ≡ None) named n closes.gone has) ∙ e)) in
        subst (λ (o : Option Line). IfSome o (λ line. IsSomeAnd (slice_get l n) (λ written. written.line ≡ line))) (sym still ∙ e) (h.each n)

-- one line more
pub pages_line : (p q : Pages) (l : List Written) (place : ℕ) (x : Line) → Writes x p q → AreOnPages p l → AreOnPages q (l ++ record { place = place; line = x } ∷ [])
pages_line p q l place x wrote h = record {
  count = wrote.count ∙ ap (λ (n : ℕ). n + 1) h.count ∙ sym (length_push l w);
  each = λ n. at n (cases_eq n p.count);
}
  where
    w : Written
    w = record { place = place; line = x }

    Is : ℕ → Line → Type 0
    Is n line = IsSomeAnd (slice_get (l ++ w ∷ []) n) (λ written. written.line ≡ line)

    more : (n : ℕ) (line : Line) → IsSomeAnd (slice_get l n) (λ written. written.line ≡ line) → Is n line
    more n line is = by (slice_get l n) refl is
      where
        by : (o : Option Written) → slice_get l n ≡ o → IsSomeAnd o (λ written. written.line ≡ line) → Is n line
        by None e h = absurd h
        by (Some v) e h = subst (λ (o : Option Written). IsSomeAnd o (λ written. written.line ≡ line)) (sym (stays_at l v w n e)) h

    at : (n : ℕ) → (n ≡ p.count) ⊎ (n ≡ p.count → ⊥) → IfSome (open_at q n) (Is n)
    at n (inl is) = subst (λ (k : ℕ). IfSome (open_at q k) (Is k)) (sym is) (subst (λ (o : Option Line). IfSome o (Is p.count)) (sym wrote.new_line) (subst (λ (k : ℕ). Is k x) (sym h.count) (subst (λ (o : Option Written). IsSomeAnd o (λ written. written.line ≡ x)) (sym (last_at l w)) refl)))
    at n (inr other) = subst (λ (o : Option Line). IfSome o (Is n)) (sym (wrote.kept n other)) (if_some (open_at p n) (λ line. IsSomeAnd (slice_get l n) (λ written. written.line ≡ line)) (Is n) (more n) (h.each n))

-- what waits goes on to wait where there are more appends, or a line more of another
waits_at : (w v : List (ℕ × Line)) (a b : List Line) (l m : List Written) (q : ℕ) → waiting_at v q ≡ waiting_at w q → ((x : Line) → slice_get a q ≡ Some x → slice_get b q ≡ Some x)
    → (All (λ (written : Written). written.place ≢ q) l → q < length a → All (λ (written : Written). written.place ≢ q) m)
    → IfSome (waiting_at w q) (λ append. (slice_get a q ≡ Some append) × All (λ written. written.place ≢ q) l) → IfSome (waiting_at v q) (λ append. (slice_get b q ≡ Some append) × All (λ written. written.place ≢ q) m)
waits_at w v a b l m q same stays lines h =
    subst (λ (o : Option Line). IfSome o (λ append. (slice_get b q ≡ Some append) × All (λ (written : Written). written.place ≢ q) m)) (sym same)
    (if_some (waiting_at w q) (λ append. (slice_get a q ≡ Some append) × All (λ (written : Written). written.place ≢ q) l) (λ append. (slice_get b q ≡ Some append) × All (λ (written : Written). written.place ≢ q) m)
    (λ x both. (stays x both.0, lines both.1 (slice_get_within a q x both.0))) h)

module _ {D : Type 0} (b : Held D) (f : List (ℕ × ℕ)) (a : List Line) (l : List Written) (p : Pages) (w : List (ℕ × Line)) (s : ℕ) (r : List ℕ) (h : IsSound (book_of b f a l p w s r)) where
  -- the buffer takes a step that the book needn't note
  pub sound_chunks : (c : Held D) → IsAccounted c.chunks f a r → IsSound (book_of c f a l p w s r)
  sound_chunks c account = record { accounted = account; receipted = h.receipted; on_pages = h.on_pages; waits = h.waits }

  -- and all appends are synced
  pub sound_synced : (c : Held D) → IsAccounted c.chunks f a r → IsSound (book_of c f a l p w (length a) r)
  sound_synced c account = record { accounted = account; receipted = all_synced a l s h.receipted; on_pages = h.on_pages; waits = h.waits }

  -- a chunk goes, and is noted
  pub sound_removed : (c : Held D) (n : List ℕ) → IsAccounted c.chunks f a n → IsSound (book_of c f a l p w s n)
  sound_removed c n account = record { accounted = account; receipted = h.receipted; on_pages = h.on_pages; waits = h.waits }

  -- lines are closed, where the call answers so
  pub sound_settled : {T E : Type 0} (done : Result T E) (named : List ℕ) (q : Pages) → OnOk done (Closes named p q) → OnErr done (q ≡ p) → p.room ≤ q.room → IsSound (book_of b f a l q w s r)
  sound_settled (Ok x) named q closes same roomy = record {
    accounted = h.accounted;
    receipted = h.receipted;
    on_pages = pages_closed p q named l closes h.on_pages;
    waits = record { each = h.waits.each; room = omega (arith, h.waits.room, roomy); few = h.waits.few };
  }
  sound_settled (Err e) named q closes same roomy = subst (λ (v : Pages). IsSound (book_of b f a l v w s r)) (sym same) h

  -- an append is synced and gets its line at once
  pub sound_append : (c : Held D) (x : Line) (q v : Pages) → IsAccounted c.chunks f (a ++ x ∷ []) r → SameLines p q → Writes x q v → length w + 1 ≤ q.room → q.room ≤ v.room + 1
      → IsSound (book_of c f (a ++ x ∷ []) (l ++ record { place = length a; line = x } ∷ []) v w (length a + 1) r)
  sound_append c x q v account same wrote reserved spent = record {
    accounted = account;
    receipted = receipted_line (a ++ x ∷ []) l (length a + 1) (subst (AreReceipted (a ++ x ∷ []) l) (length_push a x) (all_synced (a ++ x ∷ []) l s (receipted_more a l s h.receipted x))) (length a) x (last_at a x) (omega arith) fresh;
    on_pages = pages_line q v l (length a) x wrote (pages_same p q l same h.on_pages);
    waits = record {
      each = λ n. waits_at w w a (a ++ x ∷ []) l (l ++ record { place = length a; line = x } ∷ []) n refl (λ y e. stays_at a y x n e)
          (λ others less. All-push (λ (written : Written). written.place ≢ n) l (record { place = length a; line = x }) others (λ is. absurd (let z = less in let y = is in omega arith))) (h.waits.each n);
      room = omega (arith, reserved, spent);
      few = omega (arith, h.waits.few, length_push a x, length_push l (record { place = length a; line = x }));
    };
  }
    where
      fresh : All (λ (written : Written). written.place ≢ length a) l
      fresh = All-weaker (λ (written : Written). written.place < length a) (λ (written : Written). written.place ≢ length a) (λ written less is. absurd (let z = less in let y = is in omega arith)) l (place_below a l s h.receipted)

  -- an append waits for its receipt
  pub sound_pending : (c : Held D) (x : Line) (q : Pages) (v : List (ℕ × Line)) → IsAccounted c.chunks f (a ++ x ∷ []) r → SameLines p q → length w + 1 ≤ q.room
      → ((n : ℕ) → waiting_at v n ≡ cond (is_at (nat_cmp (length a)) n) (Some x) (waiting_at w n)) → length v ≤ length w + 1
      → IsSound (book_of c f (a ++ x ∷ []) l q v s r)
  sound_pending c x q v account same reserved put long = record {
    accounted = account;
    receipted = receipted_more a l s h.receipted x;
    on_pages = pages_same p q l same h.on_pages;
    waits = record {
      each = λ n. at n (is_at (nat_cmp (length a)) n) refl;
      room = omega (arith, reserved, long);
      few = omega (arith, h.waits.few, length_push a x, long);
    };
  }
    where
      fresh : All (λ (written : Written). written.place ≢ length a) l
      fresh = All-weaker (λ (written : Written). written.place < length a) (λ (written : Written). written.place ≢ length a) (λ written less is. absurd (let z = less in let y = is in omega arith)) l (place_below a l s h.receipted)

      at : (n : ℕ) (t : Bool) → is_at (nat_cmp (length a)) n ≡ t → IfSome (waiting_at v n) (λ append. (slice_get (a ++ x ∷ []) n ≡ Some append) × All (λ (written : Written). written.place ≢ n) l)
      at n true e =
          subst (λ (o : Option Line). IfSome o (λ append. (slice_get (a ++ x ∷ []) n ≡ Some append) × All (λ (written : Written). written.place ≢ n) l)) (sym (put n ∙ ap (λ (t : Bool). cond t (Some x) (waiting_at w n)) e))
          (subst (λ (k : ℕ). (slice_get (a ++ x ∷ []) k ≡ Some x) × All (λ (written : Written). written.place ≢ k) l) (at_same (length a) n e) (last_at a x, fresh))
      at n false e = waits_at w v a (a ++ x ∷ []) l l n (put n ∙ ap (λ (t : Bool). cond t (Some x) (waiting_at w n)) e) (λ y is. stays_at a y x n is) (λ others less. others) (h.waits.each n)

  -- one that waits is forgotten
  pub waits_less : (place : ℕ) (v : List (ℕ × Line)) → ((n : ℕ) → waiting_at v n ≡ cond (is_at (nat_cmp place) n) None (waiting_at w n)) → length v ≤ length w → AreWaiting v a l p.room
  waits_less place v out less = record {
    each = λ n. at n (is_at (nat_cmp place) n) refl;
    room = omega (arith, h.waits.room, less);
    few = omega (arith, h.waits.few, less);
  }
    where
      at : (n : ℕ) (t : Bool) → is_at (nat_cmp place) n ≡ t → IfSome (waiting_at v n) (λ append. (slice_get a n ≡ Some append) × All (λ (written : Written). written.place ≢ n) l)
      at n true e = subst (λ (o : Option Line). IfSome o (λ append. (slice_get a n ≡ Some append) × All (λ (written : Written). written.place ≢ n) l)) (sym (out n ∙ ap (λ (t : Bool). cond t None (waiting_at w n)) e)) tt
      at n false e = waits_at w v a a l l n (out n ∙ ap (λ (t : Bool). cond t None (waiting_at w n)) e) (λ y is. is) (λ others inside. others) (h.waits.each n)

  pub sound_forgotten : (place : ℕ) (v : List (ℕ × Line)) → ((n : ℕ) → waiting_at v n ≡ cond (is_at (nat_cmp place) n) None (waiting_at w n)) → length v ≤ length w → IsSound (book_of b f a l p v s r)
  sound_forgotten place v out less = record { accounted = h.accounted; receipted = h.receipted; on_pages = h.on_pages; waits = waits_less place v out less }

  -- one that waits, and is synced, gets its line
  pub sound_redeemed : (place : ℕ) (x : Line) (q : Pages) (v : List (ℕ × Line)) → waiting_at w place ≡ Some x → place < s → ((n : ℕ) → waiting_at v n ≡ cond (is_at (nat_cmp place) n) None (waiting_at w n)) → length v + 1 ≡ length w
      → Writes x p q → p.room ≤ q.room + 1 → IsSound (book_of b f a (l ++ record { place = place; line = x } ∷ []) q v s r)
  sound_redeemed place x q v waits below out one wrote spent = record {
    accounted = h.accounted;
    receipted = receipted_line a l s h.receipted place x here.0 below here.1;
    on_pages = pages_line p q l place x wrote h.on_pages;
    waits = record {
      each = λ n. at n (is_at (nat_cmp place) n) refl;
      room = omega (arith, h.waits.room, one, spent);
      few = omega (arith, h.waits.few, one, length_push l (record { place = place; line = x }));
    };
  }
    where
      here : (slice_get a place ≡ Some x) × All (λ (written : Written). written.place ≢ place) l
      here = subst (λ (o : Option Line). IfSome o (λ append. (slice_get a place ≡ Some append) × All (λ (written : Written). written.place ≢ place) l)) waits (h.waits.each place)

      at : (n : ℕ) (t : Bool) → is_at (nat_cmp place) n ≡ t → IfSome (waiting_at v n) (λ append. (slice_get a n ≡ Some append) × All (λ (written : Written). written.place ≢ n) (l ++ record { place = place; line = x } ∷ []))
      at n true e = subst (λ (o : Option Line). IfSome o (λ append. (slice_get a n ≡ Some append) × All (λ (written : Written). written.place ≢ n) (l ++ record { place = place; line = x } ∷ []))) (sym (out n ∙ ap (λ (t : Bool). cond t None (waiting_at w n)) e)) tt
      at n false e = waits_at w v a a l (l ++ record { place = place; line = x } ∷ []) n (out n ∙ ap (λ (t : Bool). cond t None (waiting_at w n)) e) (λ y is. is)
          (λ others inside. All-push (λ (written : Written). written.place ≢ n) l (record { place = place; line = x }) others (λ is. absurd (true≢false (sym (at_itself place) ∙ ap (is_at (nat_cmp place)) is ∙ e)))) (h.waits.each n)

-- a book begins
pub sound_new : {D : Type 0} (b : Held D) (p : Pages) (w : List (ℕ × Line)) → IsAccounted b.chunks (counts_of b.chunks) [] [] → p.count ≡ 0 → p.lines ≡ [] → w ≡ [] → IsSound (book_of b (counts_of b.chunks) [] [] p w 0 [])
sound_new b p w account count none empty = record {
  accounted = account;
  receipted = record { each = All-nil _; synced_each = All-nil _; once = λ i j d lt inside. absurd (omega arith); synced_all = omega arith };
  on_pages = record { count = count; each = λ n. subst (λ (es : List (ℕ × Line)). IfSome (lookup (λ key. n == key) es) (λ line. IsSomeAnd (slice_get {X = Written} [] n) (λ written. written.line ≡ line))) (sym none) tt };
  waits = record {
    each = λ n. subst (λ (es : List (ℕ × Line)). IfSome (waiting_at es n) (λ append. (slice_get {X = Line} [] n ≡ Some append) × All (λ (written : Written). written.place ≢ n) [])) (sym empty) tt;
    room = subst (λ (es : List (ℕ × Line)). length es ≤ p.room) (sym empty) (omega arith);
    few = subst (λ (es : List (ℕ × Line)). 0 + length es ≤ 0) (sym empty) (omega arith);
  };
}
