-- What is known before the first step.
use Rattle.std.proofs.Common.{◌≡◌, ℕ, [], Some, slice_get, sym, ap, subst, arith}
use Rattle.custody_store.specs.Contents.{Contents, flag_at, empty_contents}
use Rattle.custody_store.specs.Places.{contents_at, closed_at}
use Rattle.custody_store.specs.declared.places.Places.{Places}
use Rattle.custody_store.specs.Book.{Book, empty_book}
use Rattle.relay_net.specs.Network.{Network}
use Rattle.custody_steps.proofs.Keeping.{Known, shown_of}

nothing_there : {X : Type 0} {P : Type 0} (n : ℕ) (x : X) → slice_get [] n ≡ Some x → P
nothing_there n x is = absurd (cc)

pub known_opening : {A B : Type 0} (net : Network B) (places : Places A) (book : Book) → ((p b : ℕ) → contents_at places p b ≡ empty_contents) → ((p : ℕ) → closed_at places p ≡ 0) → book ≡ empty_book → Known net places book
known_opening net places book contents closed is = subst (Known net places) (sym is) (record {
  answers = λ p b s. ap (λ (c : Contents). flag_at c.answered s) (contents p b);
  closed = λ p. let e = closed p in omega arith;
  sent = λ k d at. nothing_there k d at;
  ending = λ k d m at sent. nothing_there k d at;
  shown = shown_of _ _;
})
