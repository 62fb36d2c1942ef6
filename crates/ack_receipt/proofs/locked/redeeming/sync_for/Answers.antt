use Rattle.std.proofs.Common.{ℕ, ◌≡◌, ◌<◌, List, length, Option, Some, Result, Ok, Err, ap, subst, sym, ◌∙◌}
use Rattle.std.specs.Prelude.{All, IfSome, OnOk, slice_get}
use Rattle.std.proofs.lemmas.Bool.{false≢true}
use Rattle.std.proofs.lemmas.List.Elements.{All-weaker}
use Rattle.std.proofs.lemmas.Option.{slice_get_within}
use Rattle.book_audit.specs.declared.line.Leaf.{Leaf}
use Rattle.book_audit.specs.declared.line.Line.{Line}
use Rattle.ack_receipt.specs.Books.{Book, IsSound, waiting_at}
use Rattle.ack_receipt.specs.Deliveries.{Pended}
use Rattle.ack_receipt.specs.Redeeming.{AreBefore, IsRedeemable, line_of}
use Rattle.ack_receipt.proofs.locked.redeeming.sync_for.Goals as goal

-- what waits is an append of the book
within : (appends : List Line) (place : ℕ) (line : Line) (found : Option Line) (Q : Line → Type 0) → IfSome found (λ append. (slice_get appends place ≡ Some append) × Q append) → found ≡ Some line
    → place < length appends
within appends place line found Q each is =
    slice_get_within appends place line (subst (λ (o : Option Line). IfSome o (λ append. (slice_get appends place ≡ Some append) × Q append)) is each).0

all_within : {D : Type 0} (leaf : Leaf) (book : Book D) (pendings : List Pended) → IsSound book → All (IsRedeemable leaf book.waiting) pendings → AreBefore (length book.appends) pendings
all_within leaf book pendings sound can =
    All-weaker (IsRedeemable leaf book.waiting) (λ (p : Pended). p.place < length book.appends)
    (λ p r. within book.appends p.place (line_of p) (waiting_at book.waiting p.place) _ (sound.waits.each p.place) r.waits) pendings can

-- so a sync that is done syncs it
synced_so : {D T E : Type 0} (S : Type 0) (result : Result T E) (old new : Book D) (pendings : List Pended) → AreBefore (length old.appends) pendings → new.appends ≡ old.appends
    → OnOk result ((new.synced ≡ length new.appends) × S) → OnOk result (AreBefore new.synced pendings)
synced_so S (Ok _) old new pendings before same all =
    subst (λ (n : ℕ). AreBefore n pendings) (sym (all.0 ∙ ap (λ (xs : List Line). length xs) same)) before
synced_so S (Err _) old new pendings before same all = tt

pub returns-clause-synced : goal.returns-clause-synced
returns-clause-synced g c =
    synced_so _ c.sync.result c.args.booked.now c.sync.new.self c.args.pendings.now
    (all_within c.args.leaf c.args.booked.now c.args.pendings.now c.chunks.ensures.sound c.requires) (ap (λ b. b.appends) c.sync.ensures.book) c.sync.ensures.synced

pub returns-clause-quiet : goal.returns-clause-quiet
returns-clause-quiet g c =
    λ before. absurd (false≢true (sym c.if-are_before.false ∙ c.are_before.ensures.1 (subst (λ (n : ℕ). AreBefore n c.args.pendings.now) (sym c.synced.ensures) before)))
