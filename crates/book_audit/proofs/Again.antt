-- The lines that are named, as more of them are named.
use Rattle.std.proofs.Common.{Bor, ◌||◌, ℕ, zero, suc, ◌==◌, ◌≡◌, ◌≢◌, ◌<◌, Bool, true, false, cond, List, [], ◌∷◌, ◌++◌, ◌+◌, length, get_or, MatchBool, ◌⊎◌, inl, inr, refl, sym, subst, ap, ◌∙◌, arith, Contains, Option, Some, None}
use Rattle.std.specs.Prelude.{slice_get, filter, map, is_some, option_copied, Result, Ok, Err, IsOk, OnOk, IsSome, All, Any, AllPairs}
use Rattle.std.specs.Ordering.{nat_cmp, is_eq}
use Rattle.std.specs.declared.cmp.Ordering.{Ordering}
use Rattle.std.specs.declared.cmp.Ordering.TheVariants.{Less, Equal, Greater}
use Rattle.std.specs.Cmp.{nat_cmp_is}
use Rattle.std.specs.BTreeMap.{is_at}
use Rattle.std.specs.Map.{keys_of, lookup}
use Rattle.std.specs.List.{list_any}
use Rattle.std.proofs.lemmas.Map.Made.{is_some-lookup}
use Rattle.std.proofs.lemmas.Map.Lookups.{exact_unsigned}
use Rattle.std.proofs.lemmas.Bool.{cases_eq, eq-eqb, eqb-true}
use Rattle.book_audit.specs.Naming.{AddsOne, AreNamed}
use Rattle.book_audit.specs.declared.line.Leaf.{Leaf}
use Rattle.book_audit.specs.declared.line.Part.{Part}
use Rattle.book_audit.proofs.Named.{parts-cons, of-buffer, of-other}
use Rattle.book_audit.proofs.Passing.{contains-filter}
use Rattle.std.specs.BTreeSet.{BTreeSet, contains}
use Rattle.std.proofs.lemmas.List.{get_or_append_left, get_or_push, length_push, length-append}
use Rattle.std.proofs.lemmas.List.Elements.{All-nil, All-cons, All-push, All-weaker, All-contains, Contains-append_left, Contains-append_cases, Contains-push, Contains-push_cases, Contains-get_or}
use Rattle.std.proofs.lemmas.List.Quantifiers.{all_pairs_push, Any-push}
use Rattle.std.proofs.lemmas.Option.{slice_get-get_or, slice_get_within, get_or_from_slice_get}
use Rattle.book_audit.specs.declared.line.Line.{Line}
use Rattle.book_audit.specs.Audits.{Pages, AreOpenOnce, Closes, IsAgain, IsLeftOut, IsOpen, IsTwice, Writes, is_of, lines_of, open_at}

-- what is named twice stays so
pub twice-more : (named more : List ℕ) → IsTwice named → IsTwice (named ++ more)
twice-more named more t = record {
  line = t.line;
  first = t.first;
  second = t.second;
  in_order = t.in_order;
  one = kept t.first t.one;
  other = kept t.second t.other;
}
  where
    kept : (k : ℕ) → slice_get named k ≡ Some t.line → slice_get (named ++ more) k ≡ Some t.line
    kept k e =
        let less : k < length named = slice_get_within named k t.line e in
        let longer : k < length (named ++ more) = rw length-append (omega arith) in
        slice_get-get_or (named ++ more) k 0 longer ∙ ap Some (get_or_append_left named more 0 k less ∙ get_or_from_slice_get named k t.line 0 e)

-- what is named again stays so
pub again-more : (pages : Pages) (named more : List ℕ) → IsAgain pages named → IsAgain pages (named ++ more)
again-more pages named more (inl (k, line, less, is, closed)) = inl (k, line, omega (arith, length-append named more, less), get_or_append_left named more line k less ∙ is, closed)
again-more pages named more (inr twice) = inr (twice-more named more twice)

-- a line that isn't open
pub closed-again : (pages : Pages) (named : List ℕ) (line : ℕ) → open_at pages line ≡ None → IsAgain pages (named ++ line ∷ [])
closed-again pages named line none = inl (Any-push (λ n. open_at pages n ≡ None) named line none)

-- a line that is named already
pub named-again : (pages : Pages) (named : List ℕ) (line : ℕ) → Contains named line → IsAgain pages (named ++ line ∷ [])
named-again pages named line c = inr (record {
  line = line;
  first = c.0;
  second = length named;
  in_order = c.1;
  one = slice_get-get_or (named ++ line ∷ []) c.0 line longer ∙ ap Some (get_or_append_left named (line ∷ []) line c.0 c.1 ∙ c.2);
  other = slice_get-get_or (named ++ line ∷ []) (length named) line last ∙ ap Some (get_or_push named line line (length named) refl);
})
  where
    longer : c.0 < length (named ++ line ∷ [])
    longer = omega (arith, length_push named line, c.1)

    last : length named < length (named ++ line ∷ [])
    last = omega (arith, length_push named line)

-- an open line that isn't named yet
pub named-once : (pages : Pages) (named : List ℕ) (line : ℕ) → AreOpenOnce pages named → IsOpen pages line → ¬ Contains named line → AreOpenOnce pages (named ++ line ∷ [])
named-once pages named line once is fresh = record {
  each = All-push (IsOpen pages) named line once.each is;
  once = all_pairs_push ◌≢◌ named line once.once (λ k d inside same. fresh (subst (Contains named) same (Contains-get_or named k d inside)));
}

equal_from : (o : Ordering) → is_eq o ≡ true → o ≡ Equal
equal_from Less e = absurd (cc e)
equal_from Equal e = refl
equal_from Greater e = absurd (cc e)

pub at_same : (s q : ℕ) → is_at (nat_cmp s) q ≡ true → s ≡ q
at_same s q e = exact_unsigned s q (equal_from (nat_cmp s q) e)

pub at_itself : (s : ℕ) → is_at (nat_cmp s) s ≡ true
at_itself s = ap is_eq (sym (nat_cmp_is s s Equal refl))

pub is-none : {X : Type 0} (o : Option X) → (o ≡ None → ⊥) → IsSome o
is-none None h = absurd (h refl)
is-none (Some x) h = refl

-- the set has one line more
pub set-more : (pages : Pages) (named : List ℕ) (line : ℕ) (old new : BTreeSet ℕ) → AreNamed pages named old → ((q : ℕ) → contains nat_cmp new q ≡ cond (is_at (nat_cmp line) q) true (contains nat_cmp old q))
    → contains nat_cmp old line ≡ false → IsOpen pages line → AreNamed pages (named ++ line ∷ []) new
set-more pages named line old new n updated absent is = record {
  has = λ q. at q (cases_eq q line);
  once = named-once pages named line n.once is fresh;
}
  where
    fresh : ¬ Contains named line
    fresh = subst (λ b. MatchBool b (Contains named line) (¬ Contains named line)) absent (n.has line)

    Says : ℕ → Bool → Type 0
    Says q b = MatchBool b (Contains (named ++ line ∷ []) q) (¬ Contains (named ++ line ∷ []) q)

    more : (q : ℕ) (b : Bool) → (q ≡ line → ⊥) → MatchBool b (Contains named q) (¬ Contains named q) → Says q b
    more q true other c = Contains-append_left named (line ∷ []) q c
    more q false other none = λ c. elim (Contains-push_cases named line q c) [
      | inl before ↦ none before
      | inr is ↦ other (sym is)
    ]

    at : (q : ℕ) → (q ≡ line) ⊎ (q ≡ line → ⊥) → Says q (contains nat_cmp new q)
    at q (inl is) = subst (Says q) (sym (updated q ∙ ap (λ b. cond b true (contains nat_cmp old q)) (ap (is_at (nat_cmp line)) is ∙ at_itself line))) (subst (λ k. Contains (named ++ line ∷ []) k) (sym is) (Contains-push named line))
    at q (inr other) = subst (Says q) (sym (updated q ∙ ap (λ b. cond b true (contains nat_cmp old q)) (differs (is_at (nat_cmp line) q) refl))) (more q (contains nat_cmp old q) other (n.has q))
      where
        differs : (b : Bool) → is_at (nat_cmp line) q ≡ b → b ≡ false
        differs true e = absurd (other (sym (at_same line q e)))
        differs false e = refl

-- A line in front of others
again-behind : (pages : Pages) (line : ℕ) (named : List ℕ) → IsAgain pages named → IsAgain pages (line ∷ named)
again-behind pages line named (inl (k, x, less, is, closed)) = inl (suc k, x, omega (arith, less), is, closed)
again-behind pages line named (inr t) = inr (record { line = t.line; first = suc t.first; second = suc t.second; in_order = (let o = t.in_order in omega arith); one = t.one; other = t.other })

closed-first : (pages : Pages) (line : ℕ) (named : List ℕ) → open_at pages line ≡ None → IsAgain pages (line ∷ named)
closed-first pages line named none = inl (0, line, omega arith, refl, none)

named-behind : (pages : Pages) (line : ℕ) (named : List ℕ) → Contains named line → IsAgain pages (line ∷ named)
named-behind pages line named c = inr (record { line = line; first = 0; second = suc c.0; in_order = omega arith; one = refl; other = slice_get-get_or named c.0 line c.1 ∙ ap Some c.2 })

once-first : (pages : Pages) (line : ℕ) (named : List ℕ) → IsOpen pages line → ¬ Contains named line → AreOpenOnce pages named → AreOpenOnce pages (line ∷ named)
once-first pages line named is fresh once = record { each = All-cons (IsOpen pages) line named is once.each; once = pairs }
  where
    pairs : AllPairs ◌≢◌ (line ∷ named)
    pairs i zero d lt inside = absurd (let z = lt in omega arith)
    pairs zero (suc j) d lt inside = λ same. fresh (subst (Contains named) (sym same) (Contains-get_or named j d (let z = inside in omega arith)))
    pairs (suc i) (suc j) d lt inside = once.once i j d (let z = lt in omega arith) (let z = inside in omega arith)

-- what a part's own line adds in front
module _ (pages : Pages) (leaf : Leaf) (part : Part) (behind : List Part) where
  of-line : is_of leaf part ≡ true → lines_of leaf (part ∷ behind) ≡ part.line ∷ lines_of leaf behind
  of-line e = parts-cons leaf part behind ∙ ap (λ ns. ns ++ lines_of leaf behind) (of-buffer leaf part e)

  pub adds-none : is_of leaf part ≡ false → AddsOne pages leaf part behind
  adds-none e =
      let same : lines_of leaf (part ∷ behind) ≡ lines_of leaf behind = parts-cons leaf part behind ∙ ap (λ ns. ns ++ lines_of leaf behind) (of-other leaf part e) in
      record { once = λ h. subst (AreOpenOnce pages) (sym same) h; again = λ h. subst (IsAgain pages) (sym same) h }

  pub adds-closed : is_of leaf part ≡ true → open_at pages part.line ≡ None → IsAgain pages (lines_of leaf (part ∷ behind))
  adds-closed e none = subst (IsAgain pages) (sym (of-line e)) (closed-first pages part.line (lines_of leaf behind) none)

  pub adds-named : is_of leaf part ≡ true → Contains (lines_of leaf behind) part.line → IsAgain pages (lines_of leaf (part ∷ behind))
  adds-named e c = subst (IsAgain pages) (sym (of-line e)) (named-behind pages part.line (lines_of leaf behind) c)

  pub adds-open : is_of leaf part ≡ true → IsOpen pages part.line → ¬ Contains (lines_of leaf behind) part.line → AddsOne pages leaf part behind
  adds-open e is fresh = record {
    once = λ h. subst (AreOpenOnce pages) (sym (of-line e)) (once-first pages part.line (lines_of leaf behind) is fresh h);
    again = λ h. subst (IsAgain pages) (sym (of-line e)) (again-behind pages part.line (lines_of leaf behind) h);
  }

-- the lines that parts name, by the parts
pub named-by : (leaf : Leaf) (parts : List Part) (line : ℕ) → Any (λ part. (is_of leaf part ≡ true) × (part.line ≡ line)) parts → Contains (lines_of leaf parts) line
named-by leaf parts line (k, part, less, is, holds) = subst (Contains (lines_of leaf parts)) holds.1 (mapped (filter (is_of leaf) parts) (contains-filter (is_of leaf) parts part (k, less, is) holds.0))
  where
    mapped : (ps : List Part) → Contains ps part → Contains (map (λ (p : Part). p.line) ps) part.line
    mapped [] c = absurd (let z = c.1 in omega arith)
    mapped (p ∷ ps) (zero, less, is) = (zero, omega arith, ap (λ (q : Part). q.line) is)
    mapped (p ∷ ps) (suc k, less, is) = let c = mapped ps (k, omega (arith, less), is) in (suc c.0, omega (arith, c.1), c.2)

pub by-names : (leaf : Leaf) (parts : List Part) (line : ℕ) → Contains (lines_of leaf parts) line → Any (λ part. (is_of leaf part ≡ true) × (part.line ≡ line)) parts
by-names leaf [] line c = absurd (let z = c.1 in omega arith)
by-names leaf (p ∷ ps) line c = by (is_of leaf p) refl (by-names leaf ps line)
  where
    Names : List Part → Type 0
    Names parts = Any (λ part. (is_of leaf part ≡ true) × (part.line ≡ line)) parts

    later : Names ps → Names (p ∷ ps)
    later (k, part, less, is, rest) = (suc k, part, omega (arith, less), is, rest)

    alone : (x y : ℕ) → Contains (x ∷ []) y → x ≡ y
    alone x y h = let z : h.0 ≡ 0 = (let lt = h.1 in omega arith) in subst (λ (n : ℕ). get_or (x ∷ []) n y ≡ y) z h.2

    front : is_of leaf p ≡ true → (Contains (lines_of leaf ps) line → Names ps) → Contains (p.line ∷ []) line ⊎ Contains (lines_of leaf ps) line → Names (p ∷ ps)
    front e rest (inl h) = (0, p, omega arith, refl, (e, alone p.line line h))
    front e rest (inr h) = later (rest h)

    by : (b : Bool) → is_of leaf p ≡ b → (Contains (lines_of leaf ps) line → Names ps) → Names (p ∷ ps)
    by true e rest = front e rest (Contains-append_cases (p.line ∷ []) (lines_of leaf ps) line (subst (λ ns. Contains ns line) (parts-cons leaf p ps ∙ ap (λ ns. ns ++ lines_of leaf ps) (of-buffer leaf p e)) c))
    by false e rest = later (rest (subst (λ ns. Contains ns line) (parts-cons leaf p ps ∙ ap (λ ns. ns ++ lines_of leaf ps) (of-other leaf p e)) c))

-- Lines are closed

pub closes-none : (pages : Pages) → Closes [] pages pages
closes-none pages = record { count = refl; gone = All-nil (λ line. open_at pages line ≡ None); kept = λ line other. refl }

pub closes-more : (named : List ℕ) (line : ℕ) (old mid new : Pages) → Closes named old mid → new.count ≡ mid.count → ((q : ℕ) → open_at new q ≡ cond (line == q) None (open_at mid q)) → Closes (named ++ line ∷ []) old new
closes-more named line old mid new closes count updated = record {
  count = count ∙ closes.count;
  gone = All-push (λ n. open_at new n ≡ None) named line (All-weaker (λ n. open_at mid n ≡ None) (λ n. open_at new n ≡ None) (λ n none. updated n ∙ gone n (line == n) none) named closes.gone) (updated line ∙ ap (λ b. cond b None (open_at mid line)) (eq-eqb line line refl));
  kept = λ q other. updated q ∙ ap (λ b. cond b None (open_at mid q)) (differs q (λ same. other (subst (Contains (named ++ line ∷ [])) same (Contains-push named line)))) ∙ closes.kept q (λ c. other (Contains-append_left named (line ∷ []) q c));
}
  where
    gone : (n : ℕ) (b : Bool) → open_at mid n ≡ None → cond b None (open_at mid n) ≡ None
    gone n true none = refl
    gone n false none = none

    differs : (q : ℕ) → (line ≡ q → ⊥) → (line == q) ≡ false
    differs q other = by (line == q) refl
      where
        by : (b : Bool) → (line == q) ≡ b → b ≡ false
        by true e = absurd (other (eqb-true line q e))
        by false e = refl

-- One line is written
pub writes : (old new : Pages) (line : Line) → new.count ≡ old.count + 1 → ((q : ℕ) → open_at new q ≡ cond (old.count == q) (Some line) (open_at old q)) → Writes line old new
writes old new line count updated = record {
  count = count;
  new_line = updated old.count ∙ ap (λ b. cond b (Some line) (open_at old old.count)) (eq-eqb old.count old.count refl);
  kept = λ q other. updated q ∙ ap (λ b. cond b (Some line) (open_at old q)) (differs q other);
}
  where
    differs : (q : ℕ) → q ≢ old.count → (old.count == q) ≡ false
    differs q other = by (old.count == q) refl
      where
        by : (b : Bool) → (old.count == q) ≡ b → b ≡ false
        by true e = absurd (other (sym (eqb-true old.count q e)))
        by false e = refl

pub on_ok : {T E P : Type 0} (r : Result T E) → IsOk r → OnOk r P → P
on_ok (Ok x) is p = p
on_ok (Err e) is p = absurd (cc is)

pub some-copied : (lent : Option (Bor Line)) (o : Option Line) → option_copied lent ≡ o → is_some lent ≡ true → IsSome o
some-copied None o e h = absurd (cc h)
some-copied (Some x) None e h = absurd (cc e)
some-copied (Some x) (Some y) e h = refl

pub none-copied : (lent : Option (Bor Line)) (o : Option Line) → option_copied lent ≡ o → is_some lent ≡ false → o ≡ None
none-copied None o e h = sym e
none-copied (Some x) o e h = absurd (cc h)

-- What the set of named lines says of those that are open

open-key : (es : List (ℕ × Line)) (k : ℕ) → Contains (keys_of es) k → is_some (lookup (λ key. k == key) es) ≡ true
open-key es k c = is_some-lookup (λ key. k == key) es ∙ any (keys_of es) c
  where
    any : (ks : List ℕ) → Contains ks k → list_any (λ key. k == key) ks ≡ true
    any [] c = absurd (let z = c.1 in omega arith)
    any (x ∷ xs) (zero, less, is) = ap (λ b. b || list_any (λ key. k == key) xs) (eq-eqb k x (sym is))
    any (x ∷ xs) (suc n, less, is) = both (k == x) (any xs (n, omega (arith, less), is))
      where
        both : (b : Bool) → list_any (λ key. k == key) xs ≡ true → (b || list_any (λ key. k == key) xs) ≡ true
        both true h = refl
        both false h = h

key-open : (es : List (ℕ × Line)) (k : ℕ) → is_some (lookup (λ key. k == key) es) ≡ true → Contains (keys_of es) k
key-open es k h = any (keys_of es) (sym (is_some-lookup (λ key. k == key) es) ∙ h)
  where
    any : (ks : List ℕ) → list_any (λ key. k == key) ks ≡ true → Contains ks k
    any [] h = absurd (cc h)
    any (x ∷ xs) h = by (k == x) refl h (any xs)
      where
        by : (b : Bool) → (k == x) ≡ b → (b || list_any (λ key. k == key) xs) ≡ true → (list_any (λ key. k == key) xs ≡ true → Contains xs k) → Contains (x ∷ xs) k
        by true e h rest = (zero, omega arith, sym (eqb-true k x e))
        by false e h rest = let c = rest h in (suc c.0, omega (arith, c.1), c.2)

pub all-named : (pages : Pages) (named : List ℕ) (set : BTreeSet ℕ) → AreNamed pages named set → All (λ line. contains nat_cmp set line ≡ true) (keys_of pages.lines) → (line : ℕ) → IsOpen pages line → Contains named line
all-named pages named set n all line is =
    subst (λ b. MatchBool b (Contains named line) (¬ Contains named line)) (All-contains (λ line. contains nat_cmp set line ≡ true) (keys_of pages.lines) line all (key-open pages.lines line is)) (n.has line)

pub left-out : (pages : Pages) (named : List ℕ) (set : BTreeSet ℕ) → AreNamed pages named set → Any (λ line. contains nat_cmp set line ≡ false) (keys_of pages.lines) → IsLeftOut pages named
left-out pages named set n (k, line, less, is, absent) = record {
  line = line;
  there = open-key pages.lines line (k, less, is);
  unnamed = subst (λ b. MatchBool b (Contains named line) (¬ Contains named line)) absent (n.has line);
}
