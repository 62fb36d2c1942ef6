use Rattle.std.proofs.Common.{ℕ, ◌≡◌, ◌∙◌, List, Some, ap, sym, subst, refl}
use Rattle.event_modes.specs.Rows.{items_of, AreEntries, AreStored, SomeEntries}
use Rattle.event_modes.proofs.Again.{one_list}
use Rattle.event_modes.proofs.message.Entries.read.Goals as goal

read_list : (count : ℕ) (bytes copy : List ℕ) → copy ≡ bytes → SomeEntries count bytes → AreStored count copy
read_list count bytes copy e s = subst (AreStored count) (sym e) (one_list count bytes s.0 s.1).0

found_list : (count : ℕ) (bytes copy : List ℕ) → copy ≡ bytes → SomeEntries count bytes → AreEntries (items_of count copy) count bytes
found_list count bytes copy e s = subst (λ (xs : List (List ℕ)). AreEntries xs count bytes) (sym (ap (items_of count) e ∙ (one_list count bytes s.0 s.1).1)) s.1

pub invariant_of-result : goal.invariant_of-result
invariant_of-result g c = read_list c.args.count c.args.bytes.now c.in_ok-bytes.bytes.items c.in_ok-bytes.ensures.items (c.if-not-are_stored.ensures.0 refl)

pub returns-clause-found : goal.returns-clause-found
returns-clause-found g c = found_list c.args.count c.args.bytes.now c.in_ok-bytes.bytes.items c.in_ok-bytes.ensures.items (c.if-not-are_stored.ensures.0 refl)

pub returns-clause-only : goal.returns-clause-only
returns-clause-only g c = λ entries a. ap (λ (xs : List (List ℕ)). Some xs) (ap (items_of c.args.count) c.in_ok-bytes.ensures.items ∙ (one_list c.args.count c.args.bytes.now entries a).1)
